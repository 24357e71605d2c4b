-- The three demands, as theorems about what `check` and `recheck` promise, for any tables: whoever holds their contracts holds these.
-- `lent` are the places before the call, `left` those after it. What the records say stands in Written. The theorems ask for `Gives` alone, which both promises give.
use Rattle.std.specs.Prelude.{ℕ, ◌≤◌, ◌<◌, ◌≡◌, refl, Bool, true, ◌↔◌, List, [], ◌++◌, ℤ, length, drop, get_or}
use Rattle.std.proofs.Common.{sym, ap, subst, subst₂, ◌∙◌, arith}
use Rattle.meaning.specs.Refusals.{first_of_steps}
use Rattle.meaning.specs.Limits.{most_model_words}
use Rattle.meaning.specs.Model.{Model}
use Rattle.meaning.specs.Log.{Step}
use Rattle.meaning.specs.Judge.{row_at}
use Rattle.meaning.specs.Check.{check, recheck, Answer, shut, accepted, carried, Conclusion, Outcome, Rechecked as Again}
use Rattle.meaning.specs.Claims.{Admitted, Concludes, Holds, Cited, SameVerdict, carries_so, accepts_so, refuses_so}
use Rattle.meaning.specs.Ranges.{model_table, InRange}
use Rattle.meaning.specs.Outcomes.{OnShut, Listed}
use Rattle.meaning.proofs.Proved.{proved}
use Rattle.walking.specs.Told.{told_answer}
use Rattle.checker.specs.Checks.{Checks, Rechecks}
use Rattle.checker.specs.Written.{Gives, Earned, Written, WrittenAgain, RefusedAfter, ConcludedAfter}
use Rattle.checker.specs.WrittenSo as so
use Rattle.walking.specs.declared.Answer.{Answer as Told}
use Rattle.checker.specs.declared.Rechecked.{Rechecked}

pub of_check : {r : Told} {lent left : List ℕ} {o : Outcome} → Checks r lent left o → Gives (told_answer r) lent left o
of_check p = record { answered = p.answered; noted = p.noted }

pub of_recheck : {r : Rechecked} {lent left : List ℕ} {o : Again} → Rechecks r lent left o → Gives (told_answer r.answer) lent left o.outcome
of_recheck p = record { answered = p.answered; noted = p.noted }

-- the whole check holds every step against its rule
abbrev pub every : Model → Step → Bool
every m t = true

-- what `accepted_given` gives, as a record
earned : {model log : List ℤ} {places : ℕ} {c : Conclusion} → (m : Model) × Admitted model log places m × Concludes m c → Earned model log places c
earned g = record { of = g.0; admitted = g.1; true_of_it = g.2 }

module _ (model log : List ℤ) (lent left : List ℕ) (a : Answer) (promise : Gives a lent left (check model log (length lent))) where
  -- ---- demand 1

  -- a refusal has a number of document 01's table, and the step and the position that belong to it
  pub refused_by_the_table : OnShut (Listed (length model) (length log) (length lent)) a
  refused_by_the_table = subst (OnShut (Listed (length model) (length log) (length lent))) (sym promise.answered) (proved.check_facts model log (length lent)).0.listed

  -- which steps passed, told one by one, and the places: their first words, then what was lent
  pub places_written : Written every accepted model log lent left (check model log (length lent)).judged a
  places_written =
      subst₂ (λ l a. Written every accepted model log lent l (check model log (length lent)).judged a) (sym promise.noted) (sym promise.answered) (so.check_written model log lent)

  -- refusals 1 to 7 change nothing
  pub early_untouched : {num k p : ℕ} → a ≡ shut num k p → num < first_of_steps → left ≡ lent
  early_untouched e h = so.after_early so.accepts h places_written e

  -- any other refusal, at step k: exactly the first k places are written, each with the position at which its step begins
  pub refused_writes : {num k p : ℕ} → a ≡ shut num k p → first_of_steps ≤ num → RefusedAfter every model log lent left k
  refused_writes e h = so.after_refusal so.accepts h places_written e

  -- accepted: one place for each step, the last of them where the conclusion begins, which ends the log
  pub accepted_writes : {c : Conclusion} → a ≡ accepted c → ConcludedAfter every model log lent left c
  accepted_writes e = so.after_conclusion so.accepts places_written e

  -- so nothing accepts and leaves its places alone: the first of them becomes 0
  pub accepted_not_silent : {c : Conclusion} → a ≡ accepted c → (get_or lent 0 0 ≡ 0 → ⊥) → left ≡ lent → ⊥
  accepted_not_silent e n same = n (ap (λ l. get_or l 0 0) (sym same) ∙ (accepted_writes e).places.first (omega arith))

  -- ---- demand 2

  -- accepted: the model table is the words of a model in range, the sizes are right, and what is concluded is true of that model
  pub accepted_earned : {c : Conclusion} → a ≡ accepted c → Earned model log (length lent) c
  accepted_earned {c} e = earned ((proved.accepted_given [] model log (length lent) c).0 (sym promise.answered ∙ e))

  -- accepted exactly where the table is such a model, the sizes are right, each step meets its rule and the first conclusion is the last step
  pub accepted_exactly : (c : Conclusion) → (a ≡ accepted c) ↔ ((m : Model) × Admitted model log (length lent) m × Holds m 0 0 [] log c)
  accepted_exactly c = (there, back)
    where
      there : a ≡ accepted c → (m : Model) × Admitted model log (length lent) m × Holds m 0 0 [] log c
      there e =
          let g = accepted_earned e in
          let a = g.admitted in
          (g.of, a, (proved.exact model log (length lent) g.of (length model) [] c a.model_fits a.log_fits a.places_suffice ((proved.model_is model g.of (length model) []).1 (a.words_are, a.in_range, refl, refl))).0 (sym promise.answered ∙ e))

      back : (m : Model) × Admitted model log (length lent) m × Holds m 0 0 [] log c → a ≡ accepted c
      back (m, a, h) = promise.answered ∙ (proved.exact model log (length lent) m (length model) [] c a.model_fits a.log_fits a.places_suffice ((proved.model_is model m (length model) []).1 (a.words_are, a.in_range, refl, refl))).1 h

-- ---- the recheck
module _ (old new log : List ℤ) (lent left : List ℕ) (a : Answer) (promise : Gives a lent left (recheck old new log (length lent)).outcome) where
  pub again_refused_by_the_table : OnShut (Listed (length new) (length log) (length lent)) a
  again_refused_by_the_table = subst (OnShut (Listed (length new) (length log) (length lent))) (sym promise.answered) (proved.recheck_facts old new log (length lent)).0.listed

  -- which steps it judges, which of them passed, how many it judged, and the places: the first words of those that passed, then what was lent
  pub again_written : WrittenAgain old new log lent left (recheck old new log (length lent)).outcome.judged a
  again_written =
      subst₂ (λ l a. WrittenAgain old new log lent l (recheck old new log (length lent)).outcome.judged a) (sym promise.noted) (sym promise.answered) (so.recheck_written old new log lent)

  pub again_untouched : {num k p : ℕ} → a ≡ shut num k p → num < first_of_steps → left ≡ lent
  again_untouched e h = so.after_early (so.judges_speaks again_written.judges) h again_written.written e

  pub again_refused_writes : {num k p : ℕ} → a ≡ shut num k p → first_of_steps ≤ num → RefusedAfter again_written.held new log lent left k
  again_refused_writes e h = so.after_refusal (so.judges_speaks again_written.judges) h again_written.written e

  -- accepted or carried: one place for each step, the last of them where the conclusion begins, which ends the log
  pub again_writes : ((num k p : ℕ) → a ≡ shut num k p → ⊥) → ConcludedAfter again_written.held new log lent left (so.conclusion_of a)
  again_writes n = so.after_any (so.judges_speaks again_written.judges) n again_written.written

  -- a recheck that says accepted has earned it, whatever the old table is
  pub again_earned : {c : Conclusion} → a ≡ accepted c → Earned new log (length lent) c
  again_earned {c} e =
      let g = proved.accepted_given old new log (length lent) c in
      earned (g.0 (g.1 (sym promise.answered ∙ e)))

  -- ---- demand 3: the log was accepted against the old model before, with any places
  module _ (before after : List ℕ) (was : Answer) (earlier : Gives was before after (check old log (length before))) {d : Conclusion} (accepted-then : was ≡ accepted d) where
    same_verdict : SameVerdict a (check new log (length lent)).answer
    same_verdict = subst (λ a. SameVerdict a (check new log (length lent)).answer) (sym promise.answered) (proved.carries old new log (length before) (length lent) d (sym earlier.answered ∙ accepted-then)).0

    -- what is carried is then as good as accepted: the same holds of the new model
    pub carried_earned : {c : Conclusion} → a ≡ carried c → Earned new log (length lent) c
    carried_earned {c} e = go same_verdict e refl
      where
        go : {a b : Answer} → SameVerdict a b → a ≡ carried c → (check new log (length lent)).answer ≡ b → Earned new log (length lent) c
        go (carries_so {c = x}) e f = earned ((proved.accepted_given old new log (length lent) c).0 (f ∙ ap accepted ((so.carries).same e)))
        go (accepts_so {c = x}) e f = absurd (let z : ◌≡◌ {A = ℕ} 0 1 = cc in omega arith)
        go refuses_so e f = absurd ((so.carries).apart (sym e))

    -- and the recheck says what the whole check of the new model says, with the same places
    pub recheck_carries : (whole : Answer) (right : List ℕ) → Gives whole lent right (check new log (length lent)) → SameVerdict a whole × (left ≡ right)
    recheck_carries whole right s = (
      subst (SameVerdict a) (sym s.answered) same_verdict,
      promise.noted ∙ ap (λ l. l ++ drop (length l) lent) (proved.carries old new log (length before) (length lent) d (sym earlier.answered ∙ accepted-then)).1 ∙ sym s.noted,
    )

-- ---- rows that no step cites do not matter: two good models with the same bounds and number of rows, which agree on the rows that are cited, get the same answer and leave the same places
abbrev pub GoodTable : List ℤ → Model → Type 0
GoodTable model m = (length model ≤ most_model_words) × (model ≡ model_table m) × InRange m

pub framed : (model₁ model₂ log : List ℤ) (m₁ m₂ : Model) → GoodTable model₁ m₁ → GoodTable model₂ m₂ → m₁.bounds ≡ m₂.bounds → length m₁.rows ≡ length m₂.rows
    → ((r : ℕ) → Cited m₁ r 0 0 [] log → row_at m₁ r ≡ row_at m₂ r)
    → (lent left right : List ℕ) (a b : Answer) → Gives a lent left (check model₁ log (length lent)) → Gives b lent right (check model₂ log (length lent)) → (a ≡ b) × (left ≡ right)
framed model₁ model₂ log m₁ m₂ g h bounds rows agree lent left right a b p q =
    let e = proved.framed model₁ model₂ log (length lent) m₁ m₂ ((proved.good_is model₁ m₁).1 g) ((proved.good_is model₂ m₂).1 h) bounds rows agree in
    (p.answered ∙ ap (λ o. o.answer) e ∙ sym q.answered, p.noted ∙ ap (λ o. o.starts ++ drop (length o.starts) lent) e ∙ sym q.noted)
