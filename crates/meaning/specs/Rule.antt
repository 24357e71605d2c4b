-- When a row conflicts with a box. `d x` is the list of the values left to variable x, rising.
use Rattle.std.specs.Prelude.{ℕ, zero, suc, ◌+◌, Bool, true, false, not, ◌&&◌, ◌||◌, List, [], ◌∷◌, ◌++◌, map, eqb, ltb, length, get_or, ℤ, pos, negsuc, ◌+ℤ◌, ◌*ℤ◌}
use Rattle.std.proofs.Math.Option.{Option, none, some}
use Rattle.std.specs.Int.Signed.{le_z, lt_z}
use Rattle.words.specs.Int.{eq_z}
use Rattle.words.specs.Lists.{any, all, member, keep, sum_of, least, largest, span}
use Rattle.meaning.specs.Model.{Row, linear, all_different, cumulative, circuit, Term, Activity}
use Rattle.meaning.specs.Log.{Atom, Fact}

-- ---- linear: a coefficient below zero takes the largest value left, any other the smallest; a variable that repeats takes an end for each of its terms
abbrev pub least_term : ℤ → List ℤ → ℤ
least_term (pos n) vs = pos n *ℤ least vs
least_term (negsuc n) vs = negsuc n *ℤ largest vs

abbrev pub least_sum : (ℕ → List ℤ) → List Term → ℤ
least_sum d [] = pos 0
least_sum d (t ∷ ts) = least_term t.coefficient (d t.variable) +ℤ least_sum d ts

-- ---- all-different: the row's variables that occur in the fact have fewer values than they are. An atom that excludes nothing makes its variable occur all the same
abbrev pub optional : Option Atom → List Atom
optional none = []
optional (some a) = a ∷ []

abbrev pub occurs : Fact → ℕ → Bool
occurs f x = any (λ a. eqb x a.variable) (f.premises ++ optional f.consequent)

-- each value once
abbrev pub once : List ℤ → List ℤ
once [] = []
once (v ∷ vs) = elim (member eq_z v vs) [ true ↦ once vs | false ↦ v ∷ once vs ]

abbrev pub union : (ℕ → List ℤ) → List ℕ → List ℤ
union d [] = []
union d (x ∷ xs) = d x ++ union d xs

abbrev pub crowded : (ℕ → List ℤ) → List ℕ → Bool
crowded d xs = ltb (length (once (union d xs))) (length xs)

-- ---- cumulative: t stands from p up to, not including, q
abbrev pub during : ℤ → ℤ → ℤ → Bool
during p q t = le_z p t && lt_z t q

abbrev pub usage_if : Bool → ℕ → ℕ
usage_if true u = u
usage_if false u = 0

-- what activity j surely uses at t: it runs then whatever start it takes
abbrev pub surely : (ℕ → List ℤ) → ℤ → Activity → ℕ
surely d t j = usage_if (during (largest (d j.start)) (least (d j.start) +ℤ pos j.duration) t) j.usage

abbrev pub sure : (ℕ → List ℤ) → ℤ → List Activity → ℕ
sure d t = sum_of (surely d t)

-- the times to look at: whenever something is surely in use, it is from some activity's largest start on and while that activity lasts
abbrev pub run_times : (ℕ → List ℤ) → Activity → List ℤ
run_times d j = span (largest (d j.start)) j.duration

abbrev pub overloaded : (ℕ → List ℤ) → ℕ → List Activity → Bool
overloaded d c acts = any (λ j. any (λ t. ltb c (sure d t acts)) (run_times d j)) acts

-- started at s, activity j covers a time where its usage and the sure usages of the others exceed c
abbrev pub blocked_from : (ℕ → List ℤ) → ℕ → Activity → List Activity → ℤ → Bool
blocked_from d c j others s = any (λ t. ltb c (j.usage + sure d t others)) (span s j.duration)

-- every start left of some activity is blocked. Activities are told apart by position: the others are those before and after it, one with the same variable among them, and its own sure part is not
abbrev pub squeezed : (ℕ → List ℤ) → ℕ → List Activity → List Activity → Bool
squeezed d c before [] = false
squeezed d c before (j ∷ acts) = all (blocked_from d c j (before ++ acts)) (d j.start) || squeezed d c (before ++ (j ∷ [])) acts

-- ---- circuit: a set of positions as a list of flags
abbrev pub sets : ℕ → List (List Bool)
sets zero = [] ∷ []
sets (suc n) = map (λ s. true ∷ s) (sets n) ++ map (λ s. false ∷ s) (sets n)

abbrev pub holds : ℕ → List Bool → Bool
holds i s = get_or s i false

-- the value names a position of the set s or is outside 0..n-1
abbrev pub inside : ℕ → List Bool → ℤ → Bool
inside n s (pos i) = not (ltb i n) || holds i s
inside n s (negsuc i) = true

-- every value left at the set's members is inside it
abbrev pub closed : ℕ → (ℕ → List ℤ) → List Bool → List ℕ → List Bool → Bool
closed n d s [] bs = true
closed n d s (x ∷ xs) [] = true
closed n d s (x ∷ xs) (true ∷ bs) = all (inside n s) (d x) && closed n d s xs bs
closed n d s (x ∷ xs) (false ∷ bs) = closed n d s xs bs

-- neither empty nor all: the full cycle is no subcycle
abbrev pub proper : List Bool → Bool
proper s = any (λ b. b) s && any not s

abbrev pub trapped : (ℕ → List ℤ) → List ℕ → Bool
trapped d xs = any (λ s. proper s && closed (length xs) d s xs s) (sets (length xs))

abbrev pub conflicts : Fact → (ℕ → List ℤ) → Row → Bool
conflicts f d (linear b ts) = lt_z b (least_sum d ts)
conflicts f d (all_different xs) = crowded d (keep (occurs f) xs)
conflicts f d (cumulative c acts) = overloaded d c acts || squeezed d c [] acts
conflicts f d (circuit xs) = trapped d xs
