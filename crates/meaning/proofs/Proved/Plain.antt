-- Short laws that leave no definition behind a claim unsaid: good models, numbers of rows and facts, what a passed step does, whole mode, the changed rows.
use Rattle.std.specs.Prelude.{suc, ◌≤◌, ◌≡◌, refl, Bool, true, false, List, [], ◌∷◌, ◌++◌, pos, length}
use Rattle.std.proofs.Common.{arith, sym, ap, subst, ◌∙◌, le-ltb}
use Rattle.std.proofs.Math.Seq.{get_or-append_seam}
use Rattle.meaning.specs.Limits.{fewest_places, most_log_words, most_model_words}
use Rattle.meaning.specs.Model.{Model, Row, linear}
use Rattle.meaning.specs.Log.{Step, inference, deduction, no_assignment, never_below}
use Rattle.meaning.specs.Check.{accepted, check, good, read_good, row_count, turn, no_fact, changes, cites_changed, ones, recheck}
use Rattle.meaning.specs.Claims.{GoodIs, Numbered, RecheckWhole, RecheckJudges}
use Rattle.meaning.specs.Meets.{Between, bounds_at}
use Rattle.meaning.specs.Ranges.{model_table, InRange}
use Rattle.meaning.specs.Verdicts.{Turns, inference_makes, deduction_makes, says_nothing, says_bound, Touched, cites_row, no_deduction, no_conclusion, no_bound, Ones, no_flag, one_set, not_set}
use Rattle.meaning.proofs.Proved.Guard.{good_read, good_short}
use Rattle.meaning.proofs.Proved.Ranged.{model_is}
use Rattle.meaning.proofs.Proved.OutcomeFacts.{told_late, check_tells}
use Rattle.meaning.proofs.Proved.Classes.{late_answer}
use Rattle.meaning.proofs.Proved.RecheckFacts.{wholly_is}

pub good_is : GoodIs
good_is model m = (to, from)
  where
    to : read_good model ≡ good m → (length model ≤ most_model_words) × (model ≡ model_table m) × InRange m
    to e = let r = good_read model e in let h = (model_is model m r.at r.rest).0 r.reads in (good_short model e, h.0, h.1)

    from : (length model ≤ most_model_words) × (model ≡ model_table m) × InRange m → read_good model ≡ good m
    from (l, w, h) = let e = (model_is model m (length model) []).1 (w, h, refl, refl) in rw (le-ltb most_model_words (length model) l, e)

pub numbered : Numbered
numbered = record {
  variable_number = λ before after b v. let e : bounds_at (before ++ b ∷ after) (length before) ≡ b = get_or-append_seam before b after (record { low = pos 0; high = pos 0 }) in (subst (λ c. Between c v) e, subst (λ c. Between c v) (sym e));
  row_number = λ m before after row e. rw e (get_or-append_seam before row after (linear (pos 0) []));
  fact_number = λ before after f. get_or-append_seam before f after no_fact;
}

pub turns : (t : Step) → Turns t (turn t)
turns (inference r f) = inference_makes
turns (deduction f hs) = deduction_makes
turns (no_assignment n) = says_nothing
turns (never_below x v n) = says_bound

pub recheck_whole : RecheckWhole
recheck_whole old new log places w = (ap (λ r. r.outcome) (wholly_is old new log places w), size)
  where
    size : (n : Model) → read_good new ≡ good n → length log ≤ most_log_words → fewest_places ≤ places → (recheck old new log places).size ≡ length n.rows
    size n g l p =
        let late = late_answer (check new log places).answer (told_late (λ t. true) accepted n 0 0 (λ P c. tt) (check_tells new log places n g l p)) in
        ap (λ r. r.size) (wholly_is old new log places w) ∙ ap (λ b. elim b [ true ↦ 0 | false ↦ row_count new ]) late ∙ rw (g, row_count)

-- ---- the recheck's set of changed rows
held_are : (ch : List Bool) (t : Step) → Touched ch t (cites_changed ch t)
held_are ch (inference r f) = cites_row
held_are ch (deduction f hs) = no_deduction
held_are ch (no_assignment n) = no_conclusion
held_are ch (never_below x v n) = no_bound

flag_each : (ps qs : List Row) → length ps ≡ length qs → length (changes ps qs) ≡ length qs
flag_each [] [] e = refl
flag_each [] (q ∷ qs) e = absurd (omega arith)
flag_each (p ∷ ps) [] e = absurd (omega arith)
flag_each (p ∷ ps) (q ∷ qs) e = ap suc (flag_each ps qs (omega arith))

size_counts : (ch : List Bool) → Ones ch (ones ch)
size_counts [] = no_flag
size_counts (true ∷ ch) = one_set (size_counts ch)
size_counts (false ∷ ch) = not_set (size_counts ch)

pub recheck_judges : RecheckJudges
recheck_judges = record { held_judged = λ m fs t n. (refl, refl); others_pass = λ m fs t n. (refl, refl); held_are = held_are; flag_each = λ o n. flag_each o.rows n.rows; size_counts = size_counts }
