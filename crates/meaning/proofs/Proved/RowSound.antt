-- A row that conflicts with values among which an assignment's own are is not met by that assignment: linear, all-different and, from Loads and Tour, every kind of row.
use Rattle.std.specs.Prelude.{ℕ, ◌<◌, ◌≡◌, Bool, true, false, length, ℤ, pos, negsuc, ◌*ℤ◌, ◌≤ℤ◌}
use Rattle.std.proofs.Common.{arith, sym, subst, ltb-true}
use mathlib.Core.List.Memᴰ.{append_left as in-first}
use mathlib.Core.List.Memᴰ.{append_right as in-second}
use mathlib.Core.List.Memᴰ.{head as here}
use mathlib.Core.List.Memᴰ.{not-nil as not-in-nil}
use mathlib.Core.List.Memᴰ.{tail as there}
use mathlib.Core.List.{List, [], ◌∷◌, Memᴰ as In}
use Rattle.words.specs.Int.{zz, mul_mono, mul_anti, eq_z}
use Rattle.words.specs.Lists.{member, keep_if, keep, All, empty, also}
use Rattle.words.specs.ListFacts.{choose, member_in, in_keep, each_in, each_of, Rising, least_below, largest_above}
use Rattle.meaning.specs.Model.{Row, Term, linear, all_different, cumulative, circuit}
use Rattle.meaning.specs.Log.{Fact}
use Rattle.meaning.specs.Rule.{conflicts, least_term, least_sum, occurs, once, union}
use Rattle.meaning.specs.Meets.{Assignment, Meets, total}
use Rattle.meaning.proofs.Proved.ReadModel.{KnownTerm, KnownRow}
use Rattle.meaning.proofs.Proved.Pigeons.{Apart, apart_of, pigeonhole}
use Rattle.meaning.proofs.Proved.Loads.{cumulative_refuses}
use Rattle.meaning.proofs.Proved.Tour.{trapped_refuses}

-- each of the first n values of `a` is among those left, which rise
pub record AmongLeft (a : Assignment) (n : ℕ) (d : ℕ → List ℤ) : Type 0 where
  pub among : (x : ℕ) → x < n → In (a x) (d x)
  pub rising : (x : ℕ) → Rising (d x)

-- a conflict with such values refutes that the assignment meets the row
abbrev pub Refutes : Row → Type 0
Refutes row = (a : Assignment) (n : ℕ) (f : Fact) (d : ℕ → List ℤ) → AmongLeft a n d → KnownRow n row → conflicts f d row ≡ true → Meets a row → ⊥

-- ---- linear: the total is at least the least sum
pub least_term_lem : (c : ℤ) (vs : List ℤ) {v : ℤ} → Rising vs → In v vs → least_term c vs ≤ℤ (c *ℤ v)
least_term_lem (pos k) vs r i = mul_mono (pos k) (omega (arith, zz)) (least_below r i)
least_term_lem (negsuc k) vs r i = mul_anti (negsuc k) (omega (arith, zz)) (largest_above vs r i)

pub least_sum_lem : (a : Assignment) (n : ℕ) (d : ℕ → List ℤ) → AmongLeft a n d → (ts : List Term) → All (KnownTerm n) ts → least_sum d ts ≤ℤ total a ts
least_sum_lem a n d c [] empty = omega (arith, zz)
least_sum_lem a n d c (t ∷ ts) (also h hs) =
    let p = least_term_lem t.coefficient (d t.variable) (c.rising t.variable) (c.among t.variable h.variable_known) in
    let q = least_sum_lem a n d c ts hs in
    omega (arith, zz)

pub linear_sound : (b : ℤ) (ts : List Term) → Refutes (linear b ts)
linear_sound b ts a n f d c h e m = let p = least_sum_lem a n d c ts h.1.2 in omega (arith, zz)

-- ---- all-different: pigeonhole
pub once_in : {v : ℤ} (vs : List ℤ) → In v vs → In v (once vs)
once_in [] i = i
once_in {v} (w ∷ vs) (here e) =
    choose (In v) (member eq_z w vs) (λ y. once_in vs (subst (λ u. In u vs) (sym e) (member_in w vs y))) (λ n. here e)
once_in {v} (w ∷ vs) (there i) = choose (In v) (member eq_z w vs) (λ y. once_in vs i) (λ n. there (once_in vs i))

pub union_in : (d : ℕ → List ℤ) {x : ℕ} {v : ℤ} (xs : List ℕ) → In x xs → In v (d x) → In v (union d xs)
union_in d [] m i = absurd (not-in-nil m)
union_in d {v = v} (y ∷ ys) (here e) i = in-first (union d ys) (subst (λ (n : ℕ). In v (d n)) e i)
union_in d (y ∷ ys) (there j) i = in-second (d y) (union_in d ys j i)

keep_apart : (p : ℕ → Bool) (a : Assignment) (xs : List ℕ) → Apart a xs → Apart a (keep p xs)
keep_apart p a [] d = tt
keep_apart p a (x ∷ xs) d = go (p x) (keep_apart p a xs d.1)
  where
    go : (b : Bool) → Apart a (keep p xs) → Apart a (keep_if b x (keep p xs))
    go true k = (each_of (keep p xs) (λ y i. each_in d.0 (in_keep p xs i).0), k)
    go false k = k

pub all_different_sound : (xs : List ℕ) → Refutes (all_different xs)
all_different_sound xs a n f d c h e m =
    let ys = keep (occurs f) xs in
    let l = pigeonhole a ys (once (union d ys)) (keep_apart (occurs f) a xs (apart_of a 0 xs m))
    (each_of ys (λ y i. once_in (union d ys) (union_in d ys i (c.among y (each_in h.0.2 (in_keep (occurs f) xs i).0))))) in
    omega (arith, ltb-true (length (once (union d ys))) (length ys) e)

-- ---- from conflict to impossibility, a case for each kind of row
pub row_refutes : (row : Row) → Refutes row
row_refutes (linear b ts) a n f d l h e m = linear_sound b ts a n f d l h e m
row_refutes (all_different xs) a n f d l h e m = all_different_sound xs a n f d l h e m
row_refutes (cumulative c js) a n f d l h e m = cumulative_refuses d l.rising c js a e (λ j i. l.among j.start (each_in h.1.2 i).start_known) m
row_refutes (circuit xs) a n f d l h e m = trapped_refuses d xs e a (λ x i. l.among x (each_in h.0.2 i)) m
