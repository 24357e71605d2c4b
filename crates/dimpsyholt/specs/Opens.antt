-- What an engine may rely on, in terms of the nine numbers and of its own tables: what opens the gate is earned, what the places say is so, and no tables give the answer of a structure that nobody filled in.
-- `lent` are the places before the call, `left` those after it. Nothing is asked of the tables. What the records say stands in the checker's Written.
use Rattle.std.specs.Prelude.{ℕ, ◌≤◌, ◌<◌, ◌≡◌, refl, ◌⊎◌, List, [], ℤ, length, get_or}
use Rattle.std.proofs.Common.{sym, ap, ◌∙◌, subst, inl, inr, arith}
use Rattle.meaning.specs.Refusals.{first_of_steps}
use Rattle.meaning.specs.Model.{Model}
use Rattle.meaning.specs.Judge.{row_at}
use Rattle.meaning.specs.Check as says
use Rattle.meaning.specs.Claims.{Cited, SameVerdict}
use Rattle.meaning.specs.Outcomes.{OnShut, Listed, model_long, log_long, places_few, model_ends, model_word, no_conclusion, step_cut, log_word, words_after, rule, ModelWrong, outside, twice, after}
use Rattle.meaning.proofs.Proved.{proved}
use Rattle.meaning.proofs.Proved.Faults.{fault_number}
use Rattle.checker.specs.Written.{Gives, Earned, Written, WrittenAgain, RefusedAfter, ConcludedAfter}
use Rattle.checker.specs.WrittenSo.{conclusion_of as concluded}
use Rattle.checker.specs.Demands as demands
use Rattle.answer.specs.Numbers.{fields_of}
use Rattle.answer.specs.Meant.{conclusion_of, meant, read_back}
use Rattle.answer.specs.declared.DimpsyholtAnswer.{DimpsyholtAnswer}
use Rattle.dimpsyholt.specs.Fields.{CheckTold, RecheckTold}

-- ---- from the numbers to the answer that they mean

read_so : (a : says.Answer) (changed judged : ℕ) {r : DimpsyholtAnswer} → r ≡ fields_of a changed judged → meant r ≡ a
read_so a changed judged e = ap meant e ∙ read_back a changed judged

refused_kind : (r : DimpsyholtAnswer) → r.kind ≡ 0 → meant r ≡ says.shut r.number r.step r.position
refused_kind r e = rw e

accepted_kind : (r : DimpsyholtAnswer) → r.kind ≡ 1 → meant r ≡ says.accepted (conclusion_of r)
accepted_kind r e = rw e

carried_kind : (r : DimpsyholtAnswer) → r.kind ≡ 2 → meant r ≡ says.carried (conclusion_of r)
carried_kind r e = rw e

pub of_check : {r : DimpsyholtAnswer} {lent left : List ℕ} {o : says.Outcome} → CheckTold r lent left o → Gives (meant r) lent left o
of_check {o = o} t = record { answered = read_so o.answer 0 0 t.answered; noted = t.noted }

pub of_recheck : {r : DimpsyholtAnswer} {lent left : List ℕ} {o : says.Rechecked} → RecheckTold r lent left o → Gives (meant r) lent left o.outcome
of_recheck {o = o} t = record { answered = read_so o.outcome.answer o.size o.outcome.judged t.answered; noted = t.noted }

fields_judged : (a : says.Answer) (changed judged : ℕ) → (fields_of a changed judged).judged ≡ judged
fields_judged (says.shut num k p) changed judged = refl
fields_judged (says.accepted says.nothing) changed judged = refl
fields_judged (says.accepted (says.at_least x v)) changed judged = refl
fields_judged (says.carried says.nothing) changed judged = refl
fields_judged (says.carried (says.at_least x v)) changed judged = refl

judged_so : (a : says.Answer) (changed judged : ℕ) {r : DimpsyholtAnswer} → r ≡ fields_of a changed judged → r.judged ≡ judged
judged_so a changed judged e = ap (λ (x : DimpsyholtAnswer). x.judged) e ∙ fields_judged a changed judged

kinds_of : {r : DimpsyholtAnswer} (a : says.Answer) (changed judged : ℕ) → r ≡ fields_of a changed judged → (r.kind ≡ 0) ⊎ ((r.kind ≡ 1) ⊎ (r.kind ≡ 2))
kinds_of (says.shut num k p) changed judged e = inl (ap (λ (x : DimpsyholtAnswer). x.kind) e)
kinds_of (says.accepted says.nothing) changed judged e = inr (inl (ap (λ (x : DimpsyholtAnswer). x.kind) e))
kinds_of (says.accepted (says.at_least x v)) changed judged e = inr (inl (ap (λ (x : DimpsyholtAnswer). x.kind) e))
kinds_of (says.carried says.nothing) changed judged e = inr (inr (ap (λ (x : DimpsyholtAnswer). x.kind) e))
kinds_of (says.carried (says.at_least x v)) changed judged e = inr (inr (ap (λ (x : DimpsyholtAnswer). x.kind) e))

-- a refusal has kind 0
kind_refused : {r : DimpsyholtAnswer} {lent left : List ℕ} {o : says.Rechecked} {num k p : ℕ} → RecheckTold r lent left o → meant r ≡ says.shut num k p → r.kind ≡ 0
kind_refused {r} {o = o} {num} {k} {p} t e =
    let f : r ≡ fields_of (says.shut num k p) o.size o.outcome.judged = t.answered ∙ ap (λ a. fields_of a o.size o.outcome.judged) (sym (read_so o.outcome.answer o.size o.outcome.judged t.answered) ∙ e) in
    ap (λ (x : DimpsyholtAnswer). x.kind) f

-- ---- the check
module _ (model log : List ℤ) (lent left : List ℕ) (r : DimpsyholtAnswer) (told : CheckTold r lent left (says.check model log (length lent))) where
  -- kind 1: the model table is the words of a model in range, the sizes are right, and what the numbers conclude is true of that model
  pub accepted_opens : r.kind ≡ 1 → Earned model log (length lent) (conclusion_of r)
  accepted_opens e = demands.accepted_earned model log lent left (meant r) (of_check told) (accepted_kind r e)

  -- kind 1: one place for each step, the first 0, the last where the conclusion begins; all others as lent
  pub accepted_places : r.kind ≡ 1 → ConcludedAfter demands.every model log lent left (conclusion_of r)
  accepted_places e = demands.accepted_writes model log lent left (meant r) (of_check told) (accepted_kind r e)

  -- so kind 1 with places that nobody wrote is not an answer of the check
  pub accepted_not_silent : r.kind ≡ 1 → (get_or lent 0 0 ≡ 0 → ⊥) → left ≡ lent → ⊥
  accepted_not_silent e = demands.accepted_not_silent model log lent left (meant r) (of_check told) (accepted_kind r e)

  -- kind 0 with a number from 1 to 7: the places are as they were lent
  pub early_places : r.kind ≡ 0 → r.number < first_of_steps → left ≡ lent
  early_places e = demands.early_untouched model log lent left (meant r) (of_check told) (refused_kind r e)

  -- kind 0 with any other number: the first places are those of the steps before the one refused, all others as lent
  pub refused_places : r.kind ≡ 0 → first_of_steps ≤ r.number → RefusedAfter demands.every model log lent left r.step
  refused_places e = demands.refused_writes model log lent left (meant r) (of_check told) (refused_kind r e)

  -- which steps passed, one by one
  pub places_written : Written demands.every says.accepted model log lent left (says.check model log (length lent)).judged (meant r)
  places_written = demands.places_written model log lent left (meant r) (of_check told)

-- ---- the recheck
module _ (old new log : List ℤ) (lent left : List ℕ) (r : DimpsyholtAnswer) (told : RecheckTold r lent left (says.recheck old new log (length lent))) where
  -- kind 1, whatever the old table is: the same of the new model
  pub again_opens : r.kind ≡ 1 → Earned new log (length lent) (conclusion_of r)
  again_opens e = demands.again_earned old new log lent left (meant r) (of_recheck told) (accepted_kind r e)

  -- kind 2, where the same log was accepted against the old model before, with any places: the same of the new model
  pub carried_opens : (before behind : List ℕ) (q : DimpsyholtAnswer) → CheckTold q before behind (says.check old log (length before)) → q.kind ≡ 1 → r.kind ≡ 2 → Earned new log (length lent) (conclusion_of r)
  carried_opens before behind q earlier e f =
      demands.carried_earned old new log lent left (meant r) (of_recheck told) before behind (meant q) (of_check earlier) (accepted_kind q e) (carried_kind r f)

  -- and then the recheck says what the whole check of the new model would say, with the same places
  pub again_as_the_check : (before behind right : List ℕ) (q whole : DimpsyholtAnswer) → CheckTold q before behind (says.check old log (length before)) → q.kind ≡ 1
      → CheckTold whole lent right (says.check new log (length lent)) → SameVerdict (meant r) (meant whole) × (left ≡ right)
  again_as_the_check before behind right q whole earlier e s =
      demands.recheck_carries old new log lent left (meant r) (of_recheck told) before behind (meant q) (of_check earlier) (accepted_kind q e) (meant whole) right (of_check s)

  -- there is no other kind
  pub kinds : (r.kind ≡ 0) ⊎ ((r.kind ≡ 1) ⊎ (r.kind ≡ 2))
  kinds = let o = says.recheck old new log (length lent) in kinds_of o.outcome.answer o.size o.outcome.judged told.answered

  -- which steps it judges: all, or those that cite a changed row
  abbrev pub again_judges : WrittenAgain old new log lent left (says.recheck old new log (length lent)).outcome.judged (meant r)
  again_judges = demands.again_written old new log lent left (meant r) (of_recheck told)

  -- the places: which steps passed, one by one, and how many were judged
  pub again_written : WrittenAgain old new log lent left r.judged (meant r)
  again_written =
      let o = says.recheck old new log (length lent) in
      subst (λ j. WrittenAgain old new log lent left j (meant r)) (sym (judged_so o.outcome.answer o.size o.outcome.judged told.answered))
      again_judges

  pub again_early_places : r.kind ≡ 0 → r.number < first_of_steps → left ≡ lent
  again_early_places e = demands.again_untouched old new log lent left (meant r) (of_recheck told) (refused_kind r e)

  pub again_refused_places : r.kind ≡ 0 → first_of_steps ≤ r.number → RefusedAfter again_judges.held new log lent left r.step
  again_refused_places e = demands.again_refused_writes old new log lent left (meant r) (of_recheck told) (refused_kind r e)

  -- kind 1 or 2: one place for each step, the first 0, the last where the conclusion begins; all others as lent
  pub again_places : (r.kind ≡ 0 → ⊥) → ConcludedAfter again_judges.held new log lent left (concluded (meant r))
  again_places n = demands.again_writes old new log lent left (meant r) (of_recheck told) (λ num k p e. n (kind_refused told e))

-- ---- rows that no step cites do not matter
pub framed : (model₁ model₂ log : List ℤ) (m₁ m₂ : Model) → demands.GoodTable model₁ m₁ → demands.GoodTable model₂ m₂ → m₁.bounds ≡ m₂.bounds → length m₁.rows ≡ length m₂.rows
    → ((r : ℕ) → Cited m₁ r 0 0 [] log → row_at m₁ r ≡ row_at m₂ r)
    → (lent left right : List ℕ) (q r : DimpsyholtAnswer) → CheckTold q lent left (says.check model₁ log (length lent)) → CheckTold r lent right (says.check model₂ log (length lent)) → (meant q ≡ meant r) × (left ≡ right)
framed model₁ model₂ log m₁ m₂ g h bounds rows agree lent left right q r t u = demands.framed model₁ model₂ log m₁ m₂ g h bounds rows agree lent left right (meant q) (meant r) (of_check t) (of_check u)

-- ---- the structure that nobody filled in: all zeros

number_some : {model log places num k p : ℕ} → Listed model log places num k p → 1 ≤ num
number_some (model_long h) = omega arith
number_some (log_long h) = omega arith
number_some (places_few h) = omega arith
number_some (model_ends h) = omega arith
number_some (model_word w h) = wrong w
  where
    wrong : {num : ℕ} → ModelWrong num → 1 ≤ num
    wrong outside = omega arith
    wrong twice = omega arith
    wrong after = omega arith
number_some (no_conclusion h) = omega arith
number_some (step_cut h) = omega arith
number_some (log_word h) = omega arith
number_some (words_after h) = omega arith
number_some (rule f) = let h = fault_number f in omega arith

-- a refusal has one of the table's numbers, which are not 0
refused_some : (r : DimpsyholtAnswer) (a : says.Answer) (model log places changed judged : ℕ) → OnShut (Listed model log places) a → r ≡ fields_of a changed judged → r.kind ≡ 0 → 1 ≤ r.number
refused_some r (says.shut num k p) model log places changed judged l e z = subst (λ (x : DimpsyholtAnswer). 1 ≤ x.number) (sym e) (number_some l)
refused_some r (says.accepted says.nothing) model log places changed judged l e z = let k = ap (λ (x : DimpsyholtAnswer). x.kind) e in absurd (omega arith)
refused_some r (says.accepted (says.at_least x v)) model log places changed judged l e z = let k = ap (λ (x : DimpsyholtAnswer). x.kind) e in absurd (omega arith)
refused_some r (says.carried says.nothing) model log places changed judged l e z = let k = ap (λ (x : DimpsyholtAnswer). x.kind) e in absurd (omega arith)
refused_some r (says.carried (says.at_least x v)) model log places changed judged l e z = let k = ap (λ (x : DimpsyholtAnswer). x.kind) e in absurd (omega arith)

pub check_numbered : (model log : List ℤ) (places : ℕ) {r : DimpsyholtAnswer} {lent left : List ℕ} → CheckTold r lent left (says.check model log places) → r.kind ≡ 0 → 1 ≤ r.number
check_numbered model log places {r} t e = refused_some r (says.check model log places).answer (length model) (length log) places 0 0 (proved.check_facts model log places).0.listed t.answered e

pub recheck_numbered : (old new log : List ℤ) (places : ℕ) {r : DimpsyholtAnswer} {lent left : List ℕ} → RecheckTold r lent left (says.recheck old new log places) → r.kind ≡ 0 → 1 ≤ r.number
recheck_numbered old new log places {r} t e =
    let o = says.recheck old new log places in
    refused_some r o.outcome.answer (length new) (length log) places o.size o.outcome.judged (proved.recheck_facts old new log places).0.listed t.answered e
