-- What the program asks of the tables that it reads again, and why it is so.
use Rattle.std.specs.Prelude.{ℕ, ◌≤◌, ◌<◌, ◌≡◌, List, ℤ, length, get_or, Ok}
use Rattle.std.proofs.Common.{sym, ap}
use Rattle.meaning.specs.Log as log
use Rattle.meaning.specs.Check.{turn}
use Rattle.words.specs.declared.RowNo.{RowNo}
use Rattle.reading.specs.Told.{Skims}
use Rattle.steps.specs.declared.FactPlace.{FactPlace}
use Rattle.steps.specs.declared.Step.TheVariants as step
use Rattle.steps.specs.Facts.{MadeBegins}
use Rattle.steps.specs.Told.{step_of, placed}
use Rattle.steps.specs.Laws.{stepped}
use Rattle.model.specs.Planned.{Planned}
use Rattle.model.specs.RowWords.{RowBegins, row_begins}

-- a row begins at each of the first starts
abbrev pub RowsBegin : List ℤ → List ℕ → ℕ → Type 0
RowsBegin s starts rows = (r : ℕ) → r < rows → RowBegins s (get_or starts r 0)

-- so it is in a plan
pub rows_begin : {s : List ℤ} {starts : List ℕ} {v c : ℕ} → Planned s starts v c → (c ≤ length starts) × RowsBegin s starts c
rows_begin {s} p = (p.noted, λ r k. row_begins s _ (p.row_in r k))

-- an inference that was read makes a fact
pub made_begins : (v c k : ℕ) {s : List ℤ} {p n : ℕ} {r : RowNo} {f : FactPlace} → Skims (log.step v c k) s p (Ok n) → step.Inference r f ≡ placed s p → MadeBegins s p
made_begins v c k {s = s} h i = ((stepped h).made (ap (λ x. turn (step_of s x)) (sym i))).0.begins
