-- Which refusals a step's rule gives, by kind of step, and at which position.
use Rattle.std.specs.Prelude.{ℕ, suc, ◌+◌, ◌≤◌, ◌<◌, ◌≡◌, Bool, true, false, List, [], ◌∷◌, length}
use Rattle.std.proofs.Common.{subst, arith}
use Rattle.std.proofs.Math.Option.{Option, none, some}
use Rattle.meaning.specs.Model.{Bounds, Model}
use Rattle.meaning.specs.Log.{Atom, Fact, Step, inference, deduction, no_assignment, never_below}
use Rattle.words.specs.Lists.{is_empty}
use Rattle.meaning.specs.Box.{left, box_of, any_empty}
use Rattle.meaning.specs.Rule.{conflicts}
use Rattle.meaning.specs.Judge.{inferred, unless_emptied, take_hint, deduced, Verdict, passes, fails, premises_hold, follow_hints, fits24, says_false, says_at_least, row_at, judge}
use Rattle.meaning.specs.Outcomes.{Fault, box_empty, no_conflict, start_empty, hint_off, used_up, unfit_nothing, unfit_bound}

abbrev Fine : Step → Verdict → Type 0
Fine t passes = Unit {0}
Fine t (fails num p) = Fault t num p

fine_inference : (r : ℕ) (f : Fact) (a b : Bool) → Fine (inference r f) (inferred a b)
fine_inference r f true b = box_empty
fine_inference r f false true = tt
fine_inference r f false false = no_conflict

fine_next : (f : Fact) (hs : List ℕ) (box : List Atom) (next : List Atom → Verdict) → Fine (deduction f hs) (next box) → (b : Bool) → Fine (deduction f hs) (unless_emptied b box next)
fine_next f hs box next h true = tt
fine_next f hs box next h false = h

fine_hint : (f : Fact) (hs : List ℕ) (bs : List Bounds) (box : List Atom) (i : ℕ) → i < length hs → (next : List Atom → Verdict)
    → ((narrower : List Atom) → Fine (deduction f hs) (next narrower)) → (a : Bool) (c : Option Atom)
    → Fine (deduction f hs) (take_hint bs box i a c next)
fine_hint f hs bs box i l next h false c = hint_off l
fine_hint f hs bs box i l next h true none = tt
fine_hint f hs bs box i l next h true (some c) = fine_next f hs (c ∷ box) next (h (c ∷ box)) (is_empty (left bs (c ∷ box) c.variable))

fine_hints : (f : Fact) (hs : List ℕ) (bs : List Bounds) (facts : ℕ → Fact) (box : List Atom) (i : ℕ) (more : List ℕ) → i + length more ≡ length hs
    → Fine (deduction f hs) (follow_hints bs facts box i more)
fine_hints f hs bs facts box i [] l = used_up
fine_hints f hs bs facts box i (h ∷ more) l =
    fine_hint f hs bs box i (omega arith) (λ narrower. follow_hints bs facts narrower (suc i) more) (λ narrower. fine_hints f hs bs facts narrower (suc i) more (omega arith))
    (premises_hold bs box (facts h).premises) (facts h).consequent

fine_deduction : (f : Fact) (hs : List ℕ) (v : Verdict) → Fine (deduction f hs) v → (a : Bool) → Fine (deduction f hs) (deduced a v)
fine_deduction f hs v h true = start_empty
fine_deduction f hs v h false = h

fine : (m : Model) (facts : ℕ → Fact) (t : Step) → Fine t (judge m facts t)
fine m facts (inference r f) = fine_inference r f (any_empty m.bounds (box_of f) (length m.bounds)) (conflicts f (left m.bounds (box_of f)) (row_at m r))
fine m facts (deduction f hs) =
    fine_deduction f hs (follow_hints m.bounds facts (box_of f) 0 hs) (fine_hints f hs m.bounds facts (box_of f) 0 hs (omega arith)) (any_empty m.bounds (box_of f) (length m.bounds))
fine m facts (no_assignment n) = go (says_false (facts n))
  where
    go : (b : Bool) → Fine (no_assignment n) (fits24 b)
    go true = tt
    go false = unfit_nothing
fine m facts (never_below x v n) = go (says_at_least x v (facts n))
  where
    go : (b : Bool) → Fine (never_below x v n) (fits24 b)
    go true = tt
    go false = unfit_bound

pub fault : (m : Model) (facts : ℕ → Fact) (t : Step) {num p : ℕ} → judge m facts t ≡ fails num p → Fault t num p
fault m facts t e = subst (Fine t) e (fine m facts t)

pub fault_number : {t : Step} {num p : ℕ} → Fault t num p → (20 ≤ num) × (num ≤ 24)
fault_number box_empty = (omega arith, omega arith)
fault_number no_conflict = (omega arith, omega arith)
fault_number start_empty = (omega arith, omega arith)
fault_number (hint_off l) = (omega arith, omega arith)
fault_number used_up = (omega arith, omega arith)
fault_number unfit_nothing = (omega arith, omega arith)
fault_number unfit_bound = (omega arith, omega arith)
