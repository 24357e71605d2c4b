-- What an engine is told, in its own words, and that the promises of the C interface say it. Nothing is asked of a table.
use Rattle.std.specs.Prelude.{ℕ, ◌≤◌, ◌≡◌, Bool, ◌↔◌, ◌⊎◌, List, [], ℤ, length, get_or, Option, Some, None}
use Rattle.std.proofs.Common.{sym, subst, inl, inr, arith}
use Rattle.meaning.specs.Model.{Model}
use Rattle.meaning.specs.Log.{Step}
use Rattle.meaning.specs.Judge.{row_at}
use Rattle.meaning.specs.Check as says
use Rattle.meaning.specs.Claims.{Admitted, Holds, Cited, SameVerdict}
use Rattle.meaning.specs.Outcomes.{OnShut, Listed}
use Rattle.meaning.specs.Meets.{Assignment, Solves}
use Rattle.checker.specs.Written.{Earned, Judges, PassedAt, ConcludedAfter, Written, WrittenAgain}
use Rattle.checker.specs.Demands.{every, GoodTable}
use Rattle.checker.specs.Demands as demands
use Rattle.dimpsyholt.specs.Fields.{CheckTold, RecheckTold}
use Rattle.answer.specs.Meant.{conclusion_of, meant}
use Rattle.dimpsyholt.specs.Opens as promised
use Rattle.answer.specs.declared.DimpsyholtAnswer.{DimpsyholtAnswer}
use Rattle.gate.specs.Looks.{Opens, OpensAgain, Early, PlaceOf}

-- ---- what the gate may open on

-- the table is the words of a model in range, the sizes are right, no assignment within its bounds meets its rows, and the places tell the steps that show it
pub record NoneLeft (model log : List ℤ) (lent left : List ℕ) : Type 0 where
  pub of : Model
  pub admitted : Admitted model log (length lent) of
  pub none : (a : Assignment) → Solves a of → ⊥
  pub first : get_or left 0 0 ≡ 0
  pub places : ConcludedAfter every model log lent left says.nothing

-- the same of the new model; the first place is the first word of the log's first step
pub record NoneLeftAgain (old new log : List ℤ) (lent left : List ℕ) : Type 0 where
  pub of : Model
  pub admitted : Admitted new log (length lent) of
  pub none : (a : Assignment) → Solves a of → ⊥
  pub first : get_or left 0 0 ≡ 0

-- step k begins at the word p of the log: read there against a good model it is a step that passed, and it ends before another word
pub record Begins (held : Model → Step → Bool) (model log : List ℤ) (k p : ℕ) : Type 0 where
  pub of : Model
  pub words : ℕ
  pub admitted : Admitted model log words of
  pub behind : ℕ
  pub is : PassedAt (held of) of log k p behind

abbrev pub BeginsThere : List ℤ → List ℤ → ℕ → Option ℕ → Type 0
BeginsThere model log k (Some p) = Begins every model log k p
BeginsThere model log k None = Unit {0}

-- with the steps judged that a recheck judges
pub record BeginsAgain (old new log : List ℤ) (k p : ℕ) : Type 0 where
  pub held : Model → Step → Bool
  pub say : says.Conclusion → says.Answer
  pub judges : Judges old new held say
  pub begins : Begins held new log k p

abbrev pub BeginsThereAgain : List ℤ → List ℤ → List ℤ → ℕ → Option ℕ → Type 0
BeginsThereAgain old new log k (Some p) = BeginsAgain old new log k p
BeginsThereAgain old new log k None = Unit {0}

-- conclusion 3 is "no assignment"
nothing_concluded : (a : DimpsyholtAnswer) → a.conclusion ≡ 3 → conclusion_of a ≡ says.nothing
nothing_concluded a e = rw e

-- ---- the check
module _ (model log : List ℤ) (lent left : List ℕ) (a : DimpsyholtAnswer) (told : CheckTold a lent left (says.check model log (length lent))) where
  pub opens_so : Opens a → NoneLeft model log lent left
  opens_so (kind, conclusion) =
      let e = nothing_concluded a conclusion in
      let earned = subst (Earned model log (length lent)) e (promised.accepted_opens model log lent left a told kind) in
      let places = subst (ConcludedAfter every model log lent left) e (promised.accepted_places model log lent left a told kind) in
      record { of = earned.of; admitted = earned.admitted; none = earned.true_of_it; first = places.places.first (omega arith); places = places }

  pub early_so : Early a → left ≡ lent
  early_so (kind, number) = promised.early_places model log lent left a told kind number

  pub begins_so : (k : ℕ) (r : Option ℕ) → PlaceOf a k left r → BeginsThere model log k r
  begins_so k None h = tt
  begins_so k (Some p) (kind, number, below, is) =
      let w = promised.refused_places model log lent left a told kind number in
      let s = w.places.starts k below in
      record { of = w.of; words = length lent; admitted = w.admitted; behind = s.behind; is = subst (λ q. PassedAt (every w.of) w.of log k q s.behind) (sym is) s.is }

  -- kind 1 never leaves places that begin with anything but 0 as they were lent
  pub not_silent : a.kind ≡ 1 → (get_or lent 0 0 ≡ 0 → ⊥) → left ≡ lent → ⊥
  not_silent = promised.accepted_not_silent model log lent left a told

  -- which steps passed, one by one
  pub steps_told : Written every says.accepted model log lent left (says.check model log (length lent)).judged (meant a)
  steps_told = promised.places_written model log lent left a told

  -- a refusal has a number of document 01's table, which is not 0, and the step and the position that belong to it
  pub listed : OnShut (Listed (length model) (length log) (length lent)) (meant a) × (a.kind ≡ 0 → 1 ≤ a.number)
  listed = (demands.refused_by_the_table model log lent left (meant a) (promised.of_check told), promised.check_numbered model log (length lent) told)

  -- accepted exactly where the model is good, the sizes are right and the log shows the conclusion step by step
  pub accepted_exactly : (c : says.Conclusion) → (meant a ≡ says.accepted c) ↔ ((m : Model) × Admitted model log (length lent) m × Holds m 0 0 [] log c)
  accepted_exactly = demands.accepted_exactly model log lent left (meant a) (promised.of_check told)

-- ---- the recheck
module _ (old new log : List ℤ) (lent left : List ℕ) (a : DimpsyholtAnswer) (told : RecheckTold a lent left (says.recheck old new log (length lent))) where
  pub opens_again_so : (before behind : List ℕ) (was : DimpsyholtAnswer) → CheckTold was before behind (says.check old log (length before)) → OpensAgain was a → NoneLeftAgain old new log lent left
  opens_again_so before behind was earlier (accepted, stands, conclusion) = go (promised.kinds old new log lent left a told)
    where
      shown : Earned new log (length lent) (conclusion_of a) → NoneLeftAgain old new log lent left
      shown g =
          let earned = subst (Earned new log (length lent)) (nothing_concluded a conclusion) g in
          record { of = earned.of; admitted = earned.admitted; none = earned.true_of_it; first = (promised.again_places old new log lent left a told stands).places.first (omega arith) }

      go : (a.kind ≡ 0) ⊎ ((a.kind ≡ 1) ⊎ (a.kind ≡ 2)) → NoneLeftAgain old new log lent left
      go (inl e) = absurd (stands e)
      go (inr (inl e)) = shown (promised.again_opens old new log lent left a told e)
      go (inr (inr e)) = shown (promised.carried_opens old new log lent left a told before behind was earlier accepted e)

  pub begins_again_so : (k : ℕ) (r : Option ℕ) → PlaceOf a k left r → BeginsThereAgain old new log k r
  begins_again_so k None h = tt
  begins_again_so k (Some p) (kind, number, below, is) =
      let w = promised.again_refused_places old new log lent left a told kind number in
      let s = w.places.starts k below in
      let j = promised.again_judges old new log lent left a told in
      record { held = j.held; say = j.say; judges = j.judges; begins = record { of = w.of; words = length lent; admitted = w.admitted; behind = s.behind; is = subst (λ q. PassedAt (j.held w.of) w.of log k q s.behind) (sym is) s.is } }

  pub listed_again : OnShut (Listed (length new) (length log) (length lent)) (meant a) × (a.kind ≡ 0 → 1 ≤ a.number)
  listed_again = (demands.again_refused_by_the_table old new log lent left (meant a) (promised.of_recheck told), promised.recheck_numbered old new log (length lent) told)

  pub early_again_so : Early a → left ≡ lent
  early_again_so (kind, number) = promised.again_early_places old new log lent left a told kind number

  -- which steps passed, one by one, and how many were judged
  pub steps_told_again : WrittenAgain old new log lent left a.judged (meant a)
  steps_told_again = promised.again_written old new log lent left a told

  -- after an acceptance against the old model, the recheck says what the whole check of the new one says, with the same places
  pub as_the_check : (before behind right : List ℕ) (was whole : DimpsyholtAnswer) → CheckTold was before behind (says.check old log (length before)) → was.kind ≡ 1
      → CheckTold whole lent right (says.check new log (length lent)) → SameVerdict (meant a) (meant whole) × (left ≡ right)
  as_the_check before behind right was whole = promised.again_as_the_check old new log lent left a told before behind right was whole

-- rows that no step cites do not matter
pub uncited_rows : (model₁ model₂ log : List ℤ) (m₁ m₂ : Model) → GoodTable model₁ m₁ → GoodTable model₂ m₂ → m₁.bounds ≡ m₂.bounds → length m₁.rows ≡ length m₂.rows
    → ((r : ℕ) → Cited m₁ r 0 0 [] log → row_at m₁ r ≡ row_at m₂ r)
    → (lent left right : List ℕ) (q r : DimpsyholtAnswer) → CheckTold q lent left (says.check model₁ log (length lent)) → CheckTold r lent right (says.check model₂ log (length lent)) → (meant q ≡ meant r) × (left ≡ right)
uncited_rows = promised.framed
