-- That a table holds a plan has one proof at most, so it can be a fact of a struct.
use Rattle.std.specs.Prelude.{ℕ, ◌<◌, refl, List, [], ◌∷◌, ℤ, pos, length, get_or, ◌≤ℤ◌, ◌+◌}
use Rattle.std.proofs.Common.{ap₂}
use Rattle.std.proofs.Props.{props}
use Rattle.words.specs.Lists.{All, empty, also}
use Rattle.meaning.specs.Model.{Bounds}
use Rattle.meaning.proofs.Proved.ReadModel.{KnownBounds}
use Rattle.meaning.specs.Limits.{most_usage}
use Rattle.reading.specs.At.{nat_at}
use Rattle.model.specs.Rows.{Counted, TermsIn, VariablesIn, ActivitiesIn, KindIn, linear_in, all_different_in, cumulative_in, circuit_in, RowIn}
use Rattle.model.specs.Planned.{Planned}

all_prop : {A : Type 0} {P : A → Type 0} → ((x : A) → IsProp (P x)) → (xs : List A) → IsProp (All P xs)
all_prop f [] empty empty = refl
all_prop f (x ∷ xs) (also p ps) (also q qs) = ap₂ also (f x p q) (all_prop f xs ps qs)

known_prop : (b : Bounds) → IsProp (KnownBounds b)
known_prop b = Prim.hlevel props

bounds_prop : (bs : List Bounds) → IsProp (All KnownBounds bs)
bounds_prop bs = all_prop known_prop bs

counted_prop : (low : ℕ) (s : List ℤ) (p : ℕ) → IsProp (Counted low s p)
counted_prop low s p = Prim.hlevel props

inside_prop : (s : List ℤ) (p : ℕ) → IsProp (p < length s)
inside_prop s p = Prim.hlevel props

signless_prop : (s : List ℤ) (p : ℕ) → IsProp (pos 0 ≤ℤ get_or s p (pos 0))
signless_prop s p = Prim.hlevel props

usage_prop : (s : List ℤ) (p : ℕ) → IsProp ((pos 0 ≤ℤ get_or s p (pos 0)) × (get_or s p (pos 0) ≤ℤ pos most_usage))
usage_prop s p = Prim.hlevel props

terms_prop : (v : ℕ) (s : List ℤ) (p n : ℕ) → IsProp (TermsIn v s p n)
terms_prop v s p n = Prim.hlevel props

variables_prop : (v : ℕ) (s : List ℤ) (p n : ℕ) → IsProp (VariablesIn v s p n)
variables_prop v s p n = Prim.hlevel props

activities_prop : (v : ℕ) (s : List ℤ) (p n : ℕ) → IsProp (ActivitiesIn v s p n)
activities_prop v s p n = Prim.hlevel props

kind_prop : (v : ℕ) (s : List ℤ) (p k : ℕ) → IsProp (KindIn v s p k)
kind_prop v s p k (linear_in a b c) (linear_in d e f) = λ i. linear_in (counted_prop 1 s p a d i) (inside_prop s (p + 1) b e i) (terms_prop v s (p + 2) (nat_at s p) c f i)
kind_prop v s p k (all_different_in a b) (all_different_in c d) = λ i. all_different_in (counted_prop 2 s p a c i) (variables_prop v s (p + 1) (nat_at s p) b d i)
kind_prop v s p k (cumulative_in a b c d) (cumulative_in e f g h) =
    λ i. cumulative_in (counted_prop 1 s p a e i) (inside_prop s (p + 1) b f i) (usage_prop s (p + 1) c g i) (activities_prop v s (p + 2) (nat_at s p) d h i)
kind_prop v s p k (circuit_in a b) (circuit_in c d) = λ i. circuit_in (counted_prop 2 s p a c i) (variables_prop v s (p + 1) (nat_at s p) b d i)

row_prop : (v : ℕ) (s : List ℤ) (p : ℕ) → IsProp (RowIn v s p)
row_prop v s p a b = λ i. record { inside = inside_prop s p a.inside b.inside i; signless = signless_prop s p a.signless b.signless i; kind = kind_prop v s (p + 1) (nat_at s p) a.kind b.kind i }

pub planned_prop : (model : List ℤ) (starts : List ℕ) (v c : ℕ) → IsProp (Planned model starts v c)
planned_prop model starts v c = Prim.hlevel (props, bounds_prop, row_prop)
