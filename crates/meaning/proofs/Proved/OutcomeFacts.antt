-- What every outcome of the check meets, and of the walk behind a recheck: its starts rise and suffice, its step is their number, its refusal stands in document 01's table.
use Rattle.std.specs.Prelude.{ℕ, ◌+◌, ◌≤◌, ◌≡◌, refl, Bool, true, List, [], length, ℤ}
use Rattle.std.proofs.Common.{zero-add, sym, subst, arith}
use Rattle.meaning.specs.Limits.{fewest_places, most_log_words}
use Rattle.meaning.specs.Read.{refused}
use Rattle.meaning.specs.Model.{Model, read_model}
use Rattle.meaning.specs.Log.{Fact, Step}
use Rattle.meaning.specs.Check.{Answer, accepted, Conclusion, Outcome, over, guarded, check, read_good, good}
use Rattle.meaning.specs.Outcomes.{ModelWrong, outside, twice, after, Told, ran_out, broke_off, word_off, faulty, trailing, concluded, went, OnShut, late, Listed, model_long, log_long, places_few, model_ends, model_word, no_conclusion, step_cut, log_word, words_after, rule, Facts}
use Rattle.meaning.specs.Claims.{CheckTells}
use Rattle.meaning.proofs.Proved.Guard.{Fits, guarded_good, good_short, Barred, long_model, long_log, few_places, bad_model, guarded_cases, good_read}
use Rattle.meaning.proofs.Proved.Reading.{Fair, short, off}
use Rattle.meaning.proofs.Proved.ReadStep.{step_left}
use Rattle.meaning.proofs.Proved.Classes.{early_unread}
use Rattle.meaning.proofs.Proved.Faults.{fault_number}
use Rattle.meaning.proofs.Proved.ReadModel.{KnownModel, reads_model}
use Rattle.words.specs.ListFacts.{climbs_apart, climbs_within}
use Rattle.meaning.proofs.Proved.Told.{over_told, on_each, told_few, told_step, told_judged, Spoken, shut_so, told_spoken, told_climbs}

module _ (held : Step → Bool) (say : Conclusion → Answer) (m : Model) (model places : ℕ) (apart : (P : ℕ → ℕ → ℕ → Type 0) (c : Conclusion) → OnShut P (say c)) where
  told_listed : {k at j n : ℕ} {fs : List Fact} {ws : List ℤ} {l : List ℕ} {a : Answer} → at + length ws ≡ n → Told held say m k at fs ws l j a → OnShut (Listed model n places) a
  told_listed e (ran_out {at = at}) = no_conclusion {p = at} (omega arith)
  told_listed e (broke_off {p = p} r x) = step_cut {p = p} (omega arith)
  told_listed e (word_off {p = p} r lo hi) = log_word {p = p} (omega arith)
  told_listed e (faulty r h v f) = rule f
  told_listed e (trailing {k} {at} {at'} {ws = ws} r v u) = let h = step_left _ _ k at ws r in words_after {p = at'} (omega arith)
  told_listed e (concluded {c = c} r v u) = apart _ c
  told_listed {n = n} e (went {k} {at} {at'} {ws = ws} {rest = rest} r v u w) = let h = step_left _ _ k at ws r in let i : at' + length rest ≡ n = omega arith in told_listed i w

  pub told_late : {k at j : ℕ} {fs : List Fact} {ws : List ℤ} {l : List ℕ} {a : Answer} → Told held say m k at fs ws l j a → OnShut (λ num i p. 10 ≤ num) a
  told_late ran_out = omega arith
  told_late (broke_off r x) = omega arith
  told_late (word_off r lo hi) = omega arith
  told_late (faulty r h v f) = let n = fault_number f in omega arith
  told_late (trailing r v u) = omega arith
  told_late (concluded {c = c} r v u) = apart _ c
  told_late (went r v u w) = told_late w

  pub walk_facts : (log : List ℤ) → length log ≤ most_log_words → Facts model (length log) places (over held say m log)
  walk_facts log l =
      let o : Outcome = over held say m log in
      let t : Told held say m 0 0 [] log o.starts o.judged o.answer = over_told held say m log in
      record {
        rising = λ i j h k. climbs_apart i j h k (told_climbs t);
        inside_log = λ i h. let k = climbs_within i h (told_climbs t) in omega arith;
        few = let h = told_few t in omega arith;
        step_is = on_each (λ num k p. k ≡ 0 + length o.starts) (λ num k p. k ≡ length o.starts) o.answer (λ num k p e. omega arith) (told_step apart t);
        listed = told_listed (zero-add (length log)) t;
        early = on_each (λ num k p. 10 ≤ num) _ o.answer (λ num k p h l. absurd (omega arith)) (told_late t);
      }

-- ---- before the walk
pub record Early (model log : List ℤ) (places num p : ℕ) : Type 0 where
  pub small : num ≤ 7
  pub in_table : Listed (length model) (length log) places num 0 p

model_refused : (model log : List ℤ) (places : ℕ) {num p : ℕ} → read_model 0 model ≡ refused num p → Early model log places num p
model_refused model log places e = go (subst (Fair 4 ModelWrong (λ m n. KnownModel m) 0 model) e (reads_model 0 model))
  where
    small_wrong : {num : ℕ} → ModelWrong num → num ≤ 7
    small_wrong outside = omega arith
    small_wrong twice = omega arith
    small_wrong after = omega arith

    go : {num p : ℕ} → Fair 4 ModelWrong (λ m n. KnownModel m) 0 model (refused num p) → Early model log places num p
    go (short {p} x) = record { small = omega arith; in_table = model_ends {p = p} (omega arith) }
    go (off {p = p} w lo hi) = record { small = small_wrong w; in_table = model_word {p = p} w (omega arith) }

pub barred_early : {model log : List ℤ} {places num p : ℕ} → Barred model log places num p → Early model log places num p
barred_early (long_model l) = record { small = omega arith; in_table = model_long l }
barred_early (long_log l) = record { small = omega arith; in_table = log_long l }
barred_early (few_places l) = record { small = omega arith; in_table = places_few l }
barred_early {model} {log} {places} (bad_model r) = model_refused model log places r

pub guarded_facts : (held : Model → Step → Bool) (say : Conclusion → Answer) → ((P : ℕ → ℕ → ℕ → Type 0) (c : Conclusion) → OnShut P (say c)) → (model log : List ℤ) (places : ℕ)
    → Facts (length model) (length log) places (guarded model log places (λ m. over (held m) say m log))
guarded_facts held say apart model log places =
    guarded_cases (Facts (length model) (length log) places) model log places _
    (λ num p h. record { rising = λ i j h k. absurd (omega arith); inside_log = λ i h. absurd (omega arith); few = omega arith; step_is = refl; listed = (barred_early h).in_table; early = λ l. (refl, refl) })
    (λ m f. walk_facts (held m) say m (length model) places apart log f.log_fits)

pub check_facts : (model log : List ℤ) (places : ℕ) → Facts (length model) (length log) places (check model log places)
check_facts model log places = guarded_facts (λ m t. true) accepted (λ P c. tt) model log places

-- a check says its conclusion in one way: the whole check never says "carried", the other never "accepted"
pub guarded_spoken : (held : Model → Step → Bool) (say : Conclusion → Answer) (model log : List ℤ) (places : ℕ) → Spoken say (guarded model log places (λ m. over (held m) say m log)).answer
guarded_spoken held say model log places = guarded_cases (λ o. Spoken say o.answer) model log places _ (λ num p h. shut_so) (λ m l. told_spoken (over_told (held m) say m log))

pub check_spoken : (model log : List ℤ) (places : ℕ) → Spoken accepted (check model log places).answer
check_spoken model log places = guarded_spoken (λ m t. true) accepted model log places

-- the whole check judges the steps that it passes, and the one that it refuses if that could be read
pub check_judged : (model log : List ℤ) (places : ℕ) → let o : Outcome = check model log places in o.judged ≡ length o.starts + late o.answer
check_judged model log places =
    guarded_cases (λ o. o.judged ≡ length o.starts + late o.answer) model log places _
    (λ num p h. let s : num ≤ 7 = (barred_early h).small in let e = early_unread num 0 p (omega arith) in omega arith)
    (λ m l. told_judged (over_told (λ t. true) accepted m log))

-- ---- with a good model and tables of the right sizes
pub good_fits : (model log : List ℤ) (places : ℕ) {m : Model} → read_good model ≡ good m → length log ≤ most_log_words → fewest_places ≤ places → Fits model log places m
good_fits model log places e l p =
    let r = good_read model e in
    record { model_fits = good_short model e; log_fits = l; places_suffice = p; at = r.at; rest = r.rest; reads = r.reads }

pub check_tells : CheckTells
check_tells model log places m e l p =
    subst (λ o. Told (λ t. true) accepted m 0 0 [] log o.starts o.judged o.answer) (sym (guarded_good model log places (λ m. over (λ t. true) accepted m log) (good_fits model log places e l p)))
    (over_told (λ t. true) accepted m log)
