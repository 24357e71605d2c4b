-- How a step is judged: it passes, or it fails with the refusal's number and position.
use Rattle.std.specs.Prelude.{ℕ, suc, Bool, true, false, ◌&&◌, List, [], ◌∷◌, eqb, length, get_or, ℤ, pos}
use Rattle.std.proofs.Math.Option.{Option, none, some}
use Rattle.std.specs.Int.Signed.{le_z}
use Rattle.words.specs.Lists.{all, is_empty}
use Rattle.meaning.specs.Refusals.{box_empty, row_does_not_conflict, hint_does_not_apply, hints_used_up, fact_does_not_fit}
use Rattle.meaning.specs.Model.{Bounds, Row, Model, linear}
use Rattle.meaning.specs.Log.{Relation, at_least, at_most, equal, not_equal, Atom, Fact, Step, inference, deduction, no_assignment, never_below}
use Rattle.meaning.specs.Box.{left, any_empty, box_of, meets}
use Rattle.meaning.specs.Rule.{conflicts}

pub data Verdict : Type 0 where
  passes : Verdict
  fails : ℕ → ℕ → Verdict

-- ---- an inference: its row conflicts with the box of its fact. It cites only rows that there are, so the row that stands for any other is never looked at
abbrev pub row_at : Model → ℕ → Row
row_at m r = get_or m.rows r (linear (pos 0) [])

-- is a set empty, does the row conflict: 20 comes before 21
abbrev pub inferred : Bool → Bool → Verdict
inferred true conflict = fails box_empty 0
inferred false true = passes
inferred false false = fails row_does_not_conflict 0

abbrev pub judge_inference : List Bounds → Row → Fact → Verdict
judge_inference bs row f = inferred (any_empty bs (box_of f) (length bs)) (conflicts f (left bs (box_of f)) row)

-- ---- a deduction: its hints, taken in order, empty the box

-- every premise holds for every value left by the box as it is narrowed so far
abbrev pub premises_hold : List Bounds → List Atom → List Atom → Bool
premises_hold bs box = all (λ p. all (λ v. meets p.relation v p.value) (left bs box p.variable))

abbrev pub unless_emptied : Bool → List Atom → (List Atom → Verdict) → Verdict
unless_emptied true box next = passes
unless_emptied false box next = next box

-- hint i: do the cited premises hold, and the cited consequent; `next` takes the later hints. A consequent narrows one set, so that one alone can become empty; what empties it ends the step
abbrev pub take_hint : List Bounds → List Atom → ℕ → Bool → Option Atom → (List Atom → Verdict) → Verdict
take_hint bs box i false c next = fails hint_does_not_apply i
take_hint bs box i true none next = passes
take_hint bs box i true (some c) next = unless_emptied (is_empty (left bs (c ∷ box) c.variable)) (c ∷ box) next

-- `facts`: those of the steps so far, by number
abbrev pub follow_hints : List Bounds → (ℕ → Fact) → List Atom → ℕ → List ℕ → Verdict
follow_hints bs facts box i [] = fails hints_used_up 0
follow_hints bs facts box i (h ∷ hs) = take_hint bs box i (premises_hold bs box (facts h).premises) (facts h).consequent (λ narrower. follow_hints bs facts narrower (suc i) hs)

-- is a set empty before any hint: 20 comes before 22 and 23, with no hint too
abbrev pub deduced : Bool → Verdict → Verdict
deduced true v = fails box_empty 0
deduced false v = v

abbrev pub judge_deduction : List Bounds → (ℕ → Fact) → Fact → List ℕ → Verdict
judge_deduction bs facts f hs = deduced (any_empty bs (box_of f) (length bs)) (follow_hints bs facts (box_of f) 0 hs)

-- ---- a conclusion: the fact that it cites has no premises and says what is concluded
abbrev pub fits24 : Bool → Verdict
fits24 true = passes
fits24 false = fails fact_does_not_fit 0

abbrev pub gives_false : List Atom → Option Atom → Bool
gives_false [] none = true
gives_false [] (some c) = false
gives_false (p ∷ ps) o = false

abbrev pub says_false : Fact → Bool
says_false f = gives_false f.premises f.consequent

-- relation 2 alone, though an equality may say as much
abbrev pub is_at_least : Relation → Bool
is_at_least at_most = false
is_at_least at_least = true
is_at_least equal = false
is_at_least not_equal = false

abbrev pub gives_at_least : ℕ → ℤ → List Atom → Option Atom → Bool
gives_at_least x v [] none = false
gives_at_least x v [] (some c) = is_at_least c.relation && (eqb x c.variable && le_z v c.value)
gives_at_least x v (p ∷ ps) o = false

abbrev pub says_at_least : ℕ → ℤ → Fact → Bool
says_at_least x v f = gives_at_least x v f.premises f.consequent

abbrev pub judge : Model → (ℕ → Fact) → Step → Verdict
judge m facts (inference r f) = judge_inference m.bounds (row_at m r) f
judge m facts (deduction f hs) = judge_deduction m.bounds facts f hs
judge m facts (no_assignment n) = fits24 (says_false (facts n))
judge m facts (never_below x v n) = fits24 (says_at_least x v (facts n))
