-- What the meaning says is left: nothing beyond the variables, the declared numbers where there is no atom, and the order of the atoms says nothing.
use Rattle.std.specs.Prelude.{◌≡◌, refl, Bool, true, false, ◌&&◌, ℕ, zero, suc, ◌≤◌, ◌<◌, ℤ, pos, nat_abs, length, get_or}
use Rattle.std.proofs.Common.{sym, ap, ◌∙◌, arith}
use Rattle.std.proofs.Math.Path.{fun_ext}
use mathlib.Core.List.{List, [], ◌∷◌, ◌++◌, Memᴰ as In}
use Rattle.words.specs.Int.{zz, abs_is, one_side}
use Rattle.words.specs.Lists.{all, keep, All}
use Rattle.words.specs.ListFacts.{in_keep, each_or}
use Rattle.meaning.specs.Limits.{most_value}
use Rattle.meaning.specs.Model.{Bounds}
use Rattle.meaning.specs.Log.{Atom}
use Rattle.meaning.specs.Box.{met_by, declared, declared_at, left}
use Rattle.meaning.proofs.Proved.ReadModel.{KnownBounds}
use Rattle.meaning.proofs.Proved.Narrow.{keep_same, keep_all}
use Rattle.meaning.proofs.Proved.BoxFacts.{in_declared_at}

pub declared_beyond : (bs : List Bounds) (x : ℕ) → length bs ≤ x → declared_at bs x ≡ []
declared_beyond [] x h = refl
declared_beyond (b ∷ bs) zero h = absurd (omega arith)
declared_beyond (b ∷ bs) (suc x) h = declared_beyond bs x (omega arith)

pub declared_known : (bs : List Bounds) (x : ℕ) (d : Bounds) → x < length bs → declared_at bs x ≡ declared (get_or bs x d)
declared_known [] x d h = absurd (omega arith)
declared_known (b ∷ bs) zero d h = refl
declared_known (b ∷ bs) (suc x) d h = declared_known bs x d (omega arith)

pub left_beyond : (bs : List Bounds) (atoms : List Atom) (x : ℕ) → length bs ≤ x → left bs atoms x ≡ []
left_beyond bs atoms x h = ap (keep (λ v. all (met_by x v) atoms)) (declared_beyond bs x h)

pub left_declared : (bs : List Bounds) (x : ℕ) → left bs [] x ≡ declared_at bs x
left_declared bs x = keep_all (λ v. true) (declared_at bs x) (λ v. refl)

-- ---- the order of the atoms
all_append : {A : Type 0} (p : A → Bool) (xs ys : List A) → all p (xs ++ ys) ≡ (all p xs && all p ys)
all_append p [] ys = refl
all_append p (x ∷ xs) ys = go (p x) (all_append p xs ys)
  where
    go : (b : Bool) → all p (xs ++ ys) ≡ (all p xs && all p ys) → (b && all p (xs ++ ys)) ≡ ((b && all p xs) && all p ys)
    go true h = h
    go false h = refl

and_swap : (a b : Bool) → (a && b) ≡ (b && a)
and_swap true true = refl
and_swap true false = refl
and_swap false true = refl
and_swap false false = refl

pub left_turned : (bs : List Bounds) (xs ys : List Atom) → left bs (xs ++ ys) ≡ left bs (ys ++ xs)
left_turned bs xs ys =
    fun_ext λ x.
    keep_same (λ v. all (met_by x v) (xs ++ ys)) (λ v. all (met_by x v) (ys ++ xs)) (declared_at bs x)
    (λ v. all_append (met_by x v) xs ys ∙ and_swap (all (met_by x v) xs) (all (met_by x v) ys) ∙ sym (all_append (met_by x v) ys xs))

-- ---- what is left lies within known bounds
pub left_small : (bs : List Bounds) (atoms : List Atom) (x : ℕ) {v : ℤ} → All KnownBounds bs → In v (left bs atoms x) → nat_abs v ≤ most_value
left_small bs atoms x {v} known i =
    let b = in_declared_at bs x known (in_keep (λ v. all (met_by x v) atoms) (declared_at bs x) i).0 in
    let k = each_or (record { low = pos 0; high = pos 0 }) x (record { low_least = refl; low_high = refl; high_most = refl }) known in
    omega (arith, zz, abs_is v, one_side v, b.0, b.1, k.low_least, k.high_most)
