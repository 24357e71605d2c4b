-- A fact's box in the table of cells, judged: against a row, and by the hints.
use Rattle.std.specs.Prelude.{ℕ, suc, ◌+◌, ◌*◌, ◌≤◌, ◌≡◌, Bool, true, false, List, ℤ, length}
use Rattle.std.proofs.Common.{sym, ap, ap₂, subst, ◌∙◌, arith}
use Rattle.words.specs.Lists.{All}
use Rattle.meaning.specs.Limits.{most_premises, most_hints}
use Rattle.meaning.specs.Refusals as refusal
use Rattle.meaning.specs.Model.{Bounds}
use Rattle.meaning.specs.Log.{Atom, Fact}
use Rattle.meaning.specs.Box.{left, any_empty, box_of}
use Rattle.meaning.specs.Rule.{conflicts}
use Rattle.meaning.specs.Judge as judge
use Rattle.meaning.specs.Judge.{judge_inference, judge_deduction, follow_hints, inferred, deduced, fails, Verdict}
use Rattle.meaning.proofs.Proved.ReadModel.{KnownBounds}
use Rattle.domain.specs.Box.{variables, values, Formed}
use Rattle.narrowing.specs.Load.{loaded_room}
use Rattle.bridge.proofs.Agrees.{agrees_loaded}
use Rattle.bridge.proofs.Answers.{all_some, all_small}
use Rattle.reading.specs.At.{each_at}
use Rattle.model.specs.Rows.{bounds_at, row_at}
use Rattle.model.specs.Planned.{model_of, Planned}
use Rattle.rule_facts.specs.Ready.{Ready}
use Rattle.steps.specs.Facts.{FactIn, fact_of}
use Rattle.steps.specs.declared.FactPlace.{FactPlace}
use Rattle.boxes.specs.Boxes.{box_room, filled, box_empty, Boxed}
use Rattle.boxes.specs.Filled.{Holds, holds_filled, box_empty_is}

-- how many rows the model in a table has
abbrev pub rows_of : List ℤ → ℕ
rows_of model = length (model_of model).rows

-- what the box of a fact asks of the model in its table: the bounds of v variables
pub record Declared (model : List ℤ) (v : ℕ) : Type 0 where
  pub variables : length (model_of model).bounds ≡ v
  pub few : v ≤ 65536
  pub fits : 1 + 2 * v ≤ length model
  pub bounds : (model_of model).bounds ≡ each_at bounds_at 2 v model 1
  pub known : All KnownBounds (model_of model).bounds

pub declared : {model : List ℤ} {starts : List ℕ} {v c : ℕ} → Planned model starts v c → Declared model v
declared p = record { variables = p.variables; few = omega (arith, p.few_variables); fits = p.fits; bounds = p.bounds; known = p.known }

-- the box of a fact, with a place for each hint
filled_box : (model log cells : List ℤ) (bs : List Bounds) (f : FactPlace) (v : ℕ) → length bs ≡ v → bs ≡ each_at bounds_at 2 v model 1 → All KnownBounds bs → FactIn v log f → box_room v ≤ length cells
    → Holds log bs (box_of (fact_of log f)) most_hints (filled model v log f cells)
filled_box model log cells bs f v e =
    subst (λ n. bs ≡ each_at bounds_at 2 n model 1 → All KnownBounds bs → FactIn n log f → box_room n ≤ length cells → Holds log bs (box_of (fact_of log f)) most_hints (filled model n log f cells)) e
    (λ given known i room.
    let fits : 2 * length bs + 2 ≤ length cells = omega arith in
    holds_filled log bs f most_hints model cells i (record { agrees = agrees_loaded model 1 cells bs given known fits; room = loaded_room model 1 (length bs) cells fits (suc (most_premises + most_hints)) (omega arith) (omega arith) }))

-- what is asked where the box of a fact is made
pub record Asked (model log cells : List ℤ) (v : ℕ) (f : FactPlace) : Type 0 where
  pub plan : Declared model v
  pub known : FactIn v log f
  pub room : box_room v ≤ length cells

pub asked_of_declared : {model log cells : List ℤ} {v : ℕ} {f : FactPlace} → Declared model v → FactIn v log f → box_room v ≤ length cells → Asked model log cells v f
asked_of_declared p i r = record { plan = p; known = i; room = r }

pub asked_of : {model log cells : List ℤ} {starts : List ℕ} {v c : ℕ} {f : FactPlace} → Planned model starts v c → FactIn v log f → box_room v ≤ length cells → Asked model log cells v f
asked_of p i r = asked_of_declared (declared p) i r

module _ {model log cells : List ℤ} {v : ℕ} {f : FactPlace} (asked : Asked model log cells v f) where
  abbrev box : List Atom
  box = box_of (fact_of log f)

  abbrev bounds : List Bounds
  bounds = (model_of model).bounds

  abbrev full : List ℤ
  full = filled model v log f cells

  pub holds : Holds log bounds box most_hints full
  holds = filled_box model log cells bounds f v asked.plan.variables asked.plan.bounds asked.plan.known asked.known asked.room

  pub full_formed : Formed full
  full_formed = holds.agrees.formed

  pub full_variables : variables full ≡ v
  full_variables = holds.agrees.counted ∙ asked.plan.variables

  -- as many places as there are hints
  pub full_holds : (many : ℕ) → many ≤ most_hints → Holds log bounds box many full
  full_holds many h = record { agrees = holds.agrees; room = record { fits = omega (arith, holds.room.fits); counted = omega (arith, holds.room.counted) } }

  pub full_boxed : (many : ℕ) → many ≤ most_hints → Boxed v many full
  full_boxed many h = record { formed = full_formed; counted = full_variables; room = (full_holds many h).room }

  pub full_empty : box_empty log f full ≡ any_empty bounds box (length bounds)
  full_empty = box_empty_is log full bounds f (subst (λ n. FactIn n log f) (sym asked.plan.variables) asked.known) holds.agrees

  pub ready : box_empty log f full ≡ false → Ready full
  ready e =
      record {
        formed = full_formed;
        some_left = all_some full bounds box holds.agrees (sym full_empty ∙ e);
        small = all_small full bounds box holds.agrees asked.plan.known;
      }

  -- ---- an inference that cites row r
  module _ (r : ℕ) where
    abbrev Judged : Verdict → Type 0
    Judged w = w ≡ judge_inference bounds (judge.row_at (model_of model) r) (fact_of log f)

    pub empty_so : box_empty log f full ≡ true → Judged (fails refusal.box_empty 0)
    empty_so e = sym (ap (λ b. inferred b (conflicts (fact_of log f) (left bounds box) (judge.row_at (model_of model) r))) (sym full_empty ∙ e))

    pub row_so : box_empty log f full ≡ false → (p : ℕ) → judge.row_at (model_of model) r ≡ row_at model p → (b : Bool) → b ≡ conflicts (fact_of log f) (values full) (row_at model p) → Judged (inferred false b)
    row_so e p is b q =
        ap₂ inferred (sym (sym full_empty ∙ e))
        (q ∙ ap₂ (λ (d : ℕ → List ℤ) x. conflicts (fact_of log f) d x) holds.agrees.same (sym is))

  -- ---- a deduction
  module _ (facts : ℕ → Fact) (hs : List ℕ) where
    pub empty_deduced : box_empty log f full ≡ true → fails refusal.box_empty 0 ≡ judge_deduction bounds facts (fact_of log f) hs
    empty_deduced e = sym (ap (λ b. deduced b (follow_hints bounds facts box 0 hs)) (sym full_empty ∙ e))

    pub hints_deduced : box_empty log f full ≡ false → (w : Verdict) → w ≡ follow_hints bounds facts box 0 hs → w ≡ judge_deduction bounds facts (fact_of log f) hs
    hints_deduced e w q = q ∙ sym (ap (λ b. deduced b (follow_hints bounds facts box 0 hs)) (sym full_empty ∙ e))
