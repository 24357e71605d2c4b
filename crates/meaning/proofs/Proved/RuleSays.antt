-- The laws of `RuleSays`: each row's test says what document 01 says, over every sum, every list of a union's values, every whole time and every set of positions.
use Rattle.std.specs.Prelude.{ℕ, zero, suc, ◌+◌, ◌<◌, ◌≤◌, ◌≡◌, refl, Bool, true, false, not, ◌||◌, ◌↔◌, eqb, ltb, length, ℤ, pos, negsuc, ◌+ℤ◌, ◌*ℤ◌, ◌≤ℤ◌}
use Rattle.std.proofs.Common.{arith, zero-add, sym, ap, subst, ◌∙◌, inl, inr, ⊎_elim, eqb-true, eq-eqb, ltb-true, ltb-false, lt-ltb}
use mathlib.Core.List.Memᴰ.{append_cases as in_parts}
use mathlib.Core.List.Memᴰ.{append_left as in-first}
use mathlib.Core.List.Memᴰ.{append_right as in-second}
use mathlib.Core.List.Memᴰ.{head as here}
use mathlib.Core.List.Memᴰ.{not-nil as not-in-nil}
use mathlib.Core.List.Memᴰ.{tail as there}
use mathlib.Core.List.{List, [], ◌∷◌, Memᴰ as In}
use Rattle.std.proofs.Math.Option.{Option, none, some}
use Rattle.words.specs.Int.{zz, eq_z}
use Rattle.words.specs.Lists.{member, keep, is_empty, largest, All, empty, also}
use Rattle.words.specs.ListFacts.{clash, choose, any_found, any_holds, all_at, all_by, in_member, each_of, each_map, or_cases, or_left, or_right, lt_of, of_lt, Rising, least_in, largest_in}
use Rattle.meaning.specs.Model.{Term, Activity, Row, linear, all_different, cumulative, circuit}
use Rattle.meaning.specs.Log.{Atom, Fact}
use Rattle.meaning.specs.Rule.{least_term, least_sum, optional, occurs, once, union, crowded, sure, overloaded, blocked_from, squeezed, holds, inside, trapped, conflicts}
use Rattle.meaning.specs.Faithful.{Sums, no_term, one_term, Occurs, Union, Uses, no_activity_lem, runs, rests, no_activity, activity_in, all_but, SqueezedAt, Squeeze, Stays, in_set, below_all, above_all, Closed, Conflicts, RuleSays}
use Rattle.meaning.specs.Below.{some_found, some_holds}
use Rattle.meaning.proofs.Proved.ReadModel.{KnownRow}
use Rattle.meaning.proofs.Proved.Pigeons.{Apart, apart_of, apart_at, pigeonhole}
use Rattle.meaning.proofs.Proved.Loads.{surely_yes, surely_is, blocked_of, blocked_by, overload_of, overloaded_by}
use Rattle.meaning.proofs.Proved.Positions.{squeezed_at, squeezed_at_some}
use Rattle.meaning.proofs.Proved.Tour.{trap_of}
use Rattle.meaning.proofs.Proved.Trapped.{trapped_by, inside_by}
use Rattle.meaning.proofs.Proved.RowSound.{least_term_lem, once_in, union_in}

-- ---- linear

-- the least value of a term is the coefficient times a value left
pub term_takes : (c : ℤ) (vs : List ℤ) → is_empty vs ≡ false → (v : ℤ) × In v vs × (least_term c vs ≡ c *ℤ v)
term_takes c [] h = clash refl h
term_takes (pos n) (v ∷ vs) h = (v, least_in v vs, refl)
term_takes (negsuc n) (v ∷ vs) h = (largest (v ∷ vs), largest_in v vs, refl)

module _ (d : ℕ → List ℤ) where
  pub least_taken : (ts : List Term) → All (λ t. is_empty (d t.variable) ≡ false) ts → Sums d ts (least_sum d ts)
  least_taken [] empty = no_term
  least_taken (t ∷ ts) (also h hs) =
      let (v, m, e) = term_takes t.coefficient (d t.variable) h in
      subst (λ z. Sums d (t ∷ ts) (z +ℤ least_sum d ts)) (sym e) (one_term m (least_taken ts hs))

  pub least_bounds : ((x : ℕ) → Rising (d x)) → {ts : List Term} {s : ℤ} → Sums d ts s → least_sum d ts ≤ℤ s
  least_bounds rising no_term = omega (arith, zz)
  least_bounds rising (one_term {t} {ts} {v} {s} m r) =
      let p = least_term_lem t.coefficient (d t.variable) (rising t.variable) m in
      let q = least_bounds rising r in
      omega (arith, zz)

-- ---- all-different
in_optional : (o : Option Atom) {a : Atom} → In a (optional o) → o ≡ some a
in_optional none m = absurd (not-in-nil m)
in_optional (some b) (here e) = ap some (sym e)
in_optional (some b) (there m) = absurd (not-in-nil m)

optional_in : (o : Option Atom) {a : Atom} → o ≡ some a → In a (optional o)
optional_in o {a} e = rw (e, optional) (least_here a)
  where
    least_here : (a : Atom) → In a (a ∷ [])
    least_here a = here refl

pub occurs_of : (f : Fact) (x : ℕ) → occurs f x ≡ true → Occurs f x
occurs_of f x h =
    let (a, m, e) = any_found (λ (a : Atom). eqb x a.variable) _ h in
    (a, ⊎_elim (λ i. inl i) (λ i. inr (in_optional f.consequent i)) (in_parts f.premises m), eqb-true x a.variable e)

pub of_occurs : (f : Fact) (x : ℕ) → Occurs f x → occurs f x ≡ true
of_occurs f x (a, m, e) =
    any_holds (λ (a : Atom). eqb x a.variable) (⊎_elim (λ i. in-first (optional f.consequent) i) (λ i. in-second f.premises (optional_in f.consequent i)) m) (eq-eqb x a.variable e)

pub in_once : {v : ℤ} (vs : List ℤ) → In v (once vs) → In v vs
in_once [] m = m
in_once {v} (w ∷ vs) m = choose (λ us. In v us → In v (w ∷ vs)) (member eq_z w vs) (λ e i. there (in_once vs i)) (λ e i. grown i (in_once vs)) m
  where
    grown : In v (w ∷ once vs) → (In v (once vs) → In v vs) → In v (w ∷ vs)
    grown (here q) k = here q
    grown (there i) k = there (k i)

pub once_apart : (vs : List ℤ) → Apart (λ v. v) (once vs)
once_apart [] = tt
once_apart (w ∷ vs) =
    choose (Apart (λ v. v)) (member eq_z w vs) (λ e. once_apart vs)
    (λ e. (each_of (once vs) (λ u m q. clash (in_member (subst (λ y. In y vs) (sym q) (in_once vs m))) e), once_apart vs))

pub in_union : (d : ℕ → List ℤ) (xs : List ℕ) {v : ℤ} → In v (union d xs) → (x : ℕ) × In x xs × In v (d x)
in_union d [] m = absurd (not-in-nil m)
in_union d (x ∷ xs) m = ⊎_elim (λ i. (x, here refl, i)) (λ i. let (y, j, k) = in_union d xs i in (y, there j, k)) (in_parts (d x) m)

module _ (d : ℕ → List ℤ) (xs : List ℕ) where
  pub once_union : Union d xs (once (union d xs))
  once_union = record {
    none_twice = apart_at (λ v. v) (pos 0) (once (union d xs)) (once_apart (union d xs));
    members = λ v. (λ m. in_union d xs (in_once (union d xs) m), λ q. let (x, m, i) = q in once_in (union d xs) (union_in d xs m i));
  }

  -- one list of the union's values is no longer than another
  no_longer : (us ws : List ℤ) → Union d xs us → Union d xs ws → length us ≤ length ws
  no_longer us ws u w = pigeonhole (λ v. v) us ws (apart_of (λ v. v) (pos 0) us u.none_twice) (each_of us (λ v m. (w.members v).1 ((u.members v).0 m)))

  pub crowded_by : (us : List ℤ) → Union d xs us → (crowded d xs ≡ true) ↔ (length us < length xs)
  crowded_by us u =
      let ws = once (union d xs) in
      let p = no_longer us ws u once_union in
      let q = no_longer ws us once_union u in
      (λ h. omega (arith, ltb-true (length ws) (length xs) h), λ h. lt-ltb (length ws) (length xs) (omega arith))

-- ---- cumulative
uses : (d : ℕ → List ℤ) (t : ℤ) (js : List Activity) → Uses d t js (sure d t js)
uses d t [] = no_activity_lem
uses d t (j ∷ js) =
    ⊎_elim (λ s. subst (λ n. Uses d t (j ∷ js) (n + sure d t js)) (sym (surely_yes d t j s)) (runs (s.from, s.until) (uses d t js)))
    (λ n. subst (λ z. Uses d t (j ∷ js) (z + sure d t js)) (sym n.1) (rests (λ h. n.0 (record { from = h.0; until = h.1 })) (subst (Uses d t js) (sym (zero-add (sure d t js))) (uses d t js))))
    (surely_is d t j)

module _ (d : ℕ → List ℤ) (c : ℕ) (acts : List Activity) where
  squeeze_at : (p : ℕ) → squeezed_at d c no_activity acts p ≡ true → SqueezedAt d c acts p
  squeeze_at p h s m =
      let b = blocked_of d c (activity_in acts p) (all_but p acts) s (all_at (blocked_from d c (activity_in acts p) (all_but p acts)) h m) in
      (b.time, (b.covered.from, b.covered.until), b.bad)

  at_squeeze : (p : ℕ) → SqueezedAt d c acts p → squeezed_at d c no_activity acts p ≡ true
  at_squeeze p h =
      all_by (blocked_from d c (activity_in acts p) (all_but p acts)) (d (activity_in acts p).start)
      (λ s m. let (t, l, b) = h s m in blocked_by d c (activity_in acts p) (all_but p acts) s (record { time = t; covered = record { from = l.0; until = l.1 }; bad = b }))

  pub squeezes : (squeezed d c [] acts ≡ true) ↔ Squeeze d c acts
  squeezes =
      let e = squeezed_at_some d c no_activity acts in (
        λ h. let (p, l, q) = some_found (squeezed_at d c no_activity acts) (length acts) (sym e ∙ h) in (p, l, squeeze_at p q),
        λ h. let (p, l, q) = h in e ∙ some_holds (squeezed_at d c no_activity acts) (length acts) p l (at_squeeze p q),
      )

-- ---- circuit

-- a set of positions as a list of n flags
flags : (ℕ → Bool) → ℕ → List Bool
flags S zero = []
flags S (suc n) = S 0 ∷ flags (λ i. S (suc i)) n

flags_length : (S : ℕ → Bool) (n : ℕ) → length (flags S n) ≡ n
unfolding flags
flags_length S zero = refl
flags_length S (suc n) = ap suc (flags_length (λ i. S (suc i)) n)

flags_hold : (S : ℕ → Bool) (n i : ℕ) → i < n → holds i (flags S n) ≡ S i
unfolding flags
flags_hold S zero i l = absurd (omega arith)
flags_hold S (suc n) zero l = refl
flags_hold S (suc n) (suc i) l = flags_hold (λ i. S (suc i)) n i (omega arith)

stays_inside : (n : ℕ) (s : List Bool) (v : ℤ) → inside n s v ≡ true → Stays n (λ i. holds i s) v
stays_inside n s (pos i) h = go (ltb i n) refl h
  where
    go : (b : Bool) → ltb i n ≡ b → not b || holds i s ≡ true → Stays n (λ i. holds i s) (pos i)
    go true e k = in_set i refl k
    go false e k = above_all {v = pos i} (let l = ltb-false i n e in omega (arith, zz))
stays_inside n s (negsuc i) h = below_all {v = negsuc i} (omega (arith, zz))

-- a value that stays and names position j names a member
stays_names : (n : ℕ) (S : ℕ → Bool) (j : ℕ) → j < n → {v : ℤ} → v ≡ pos j → Stays n S v → S j ≡ true
stays_names n S j l e (in_set i q h) = let p : i ≡ j = omega (arith, zz) in subst (λ k. S k ≡ true) p h
stays_names n S j l e (below_all h) = absurd (omega (arith, zz))
stays_names n S j l e (above_all h) = absurd (omega (arith, zz))

module _ (d : ℕ → List ℤ) (xs : List ℕ) where
  pub closed_of : trapped d xs ≡ true → (S : ℕ → Bool) × Closed d xs S
  closed_of h =
      let (s, t) = trap_of d xs h in
      (λ i. holds i s, record { not_empty = t.insider; not_all = t.outsider; stays = λ i l e v m. stays_inside (length xs) s v (t.kept i l e v m) })

  pub of_closed : (S : ℕ → Bool) → Closed d xs S → trapped d xs ≡ true
  of_closed S c =
      let n = length xs in
      let is = flags_hold S n in
      trapped_by d xs (flags S n) (record {
        sized = flags_length S n;
        insider = (c.not_empty.0, c.not_empty.1, is c.not_empty.0 c.not_empty.1 ∙ c.not_empty.2);
        outsider = (c.not_all.0, c.not_all.1, is c.not_all.0 c.not_all.1 ∙ c.not_all.2);
        kept = λ i l e v m. inside_by n (flags S n) v (λ j k q. is j k ∙ stays_names n S j k q (c.stays i l (sym (is i l) ∙ e) v m));
      })

pub rule_says : (d : ℕ → List ℤ) → ((x : ℕ) → Rising (d x)) → RuleSays d
rule_says d rising = record {
  least_sum_is = λ ts h. (least_taken d ts h, λ s r. least_bounds d rising r);
  occurs_is = λ f x. (occurs_of f x, of_occurs f x);
  union_is = once_union d;
  crowded_is = crowded_by d;
  sure_is = uses d;
  overloaded_is = λ c acts. (overload_of d c acts, λ h. overloaded_by d rising c acts h.0 h.1);
  squeezed_is = squeezes d;
  trapped_is = λ xs. (closed_of d xs, λ h. of_closed d xs h.0 h.1);
}

-- ---- the kinds of row together, where the first n sets rise and none of them is empty
pub conflict_says : (n : ℕ) (d : ℕ → List ℤ) → ((x : ℕ) → Rising (d x)) → ((x : ℕ) → x < n → is_empty (d x) ≡ false)
    → (f : Fact) (row : Row) → KnownRow n row → (conflicts f d row ≡ true) ↔ Conflicts f d row
conflict_says n d rising some_left f (linear b ts) k =
    let r = (rule_says d rising).least_sum_is ts (each_map (λ t h. some_left t.variable h.variable_known) k.1.2) in
    (λ h. (least_sum d ts, r, lt_of b (least_sum d ts) h), λ h. let (s, l, e) = h in let g = l.1 (least_sum d ts) r.0 in of_lt {v = b} {w = least_sum d ts} (omega (arith, zz)))
conflict_says n d rising some_left f (all_different xs) k =
    let ys = keep (occurs f) xs in
    let u = once_union d ys in
    (λ h. (once (union d ys), u, (crowded_by d ys (once (union d ys)) u).0 h), λ h. let (us, w, l) = h in (crowded_by d ys us w).1 l)
conflict_says n d rising some_left f (cumulative c acts) k =
    let r = rule_says d rising in (
      λ h. ⊎_elim (λ e. inl ((r.overloaded_is c acts).0 e)) (λ e. inr ((r.squeezed_is c acts).0 e)) (or_cases (overloaded d c acts) (squeezed d c [] acts) h),
      λ h. ⊎_elim (λ e. or_left (squeezed d c [] acts) ((r.overloaded_is c acts).1 e)) (λ e. or_right (overloaded d c acts) ((r.squeezed_is c acts).1 e)) h,
    )
conflict_says n d rising some_left f (circuit xs) k = (rule_says d rising).trapped_is xs
