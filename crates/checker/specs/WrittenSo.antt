-- That every outcome of the check and of the recheck is written as Written says.
use Rattle.std.specs.Prelude.{ℕ, zero, suc, ◌+◌, ◌<◌, ◌≤◌, ◌≡◌, refl, Bool, true, false, List, [], ◌∷◌, ◌++◌, ℤ, length, drop, get_or}
use Rattle.std.proofs.Common.{sym, ap, subst, ◌∙◌, arith, length-drop, length-append, drop-drop}
use Rattle.std.proofs.Math.ListN.{get_or-append}
use Rattle.std.proofs.Math.Seq.{drop-append_seam}
use Rattle.meaning.specs.Refusals.{first_of_steps}
use Rattle.meaning.specs.Limits.{most_log_words, fewest_places}
use Rattle.meaning.specs.Read.{got}
use Rattle.meaning.specs.Model.{Model}
use Rattle.meaning.specs.Log.{Fact, Step}
use Rattle.meaning.specs.Judge.{passes}
use Rattle.meaning.specs.Check.{Answer, shut, accepted, carried, Conclusion, nothing, Outcome, guarded, over, verdict_of, read_step, check, recheck, Good, good, bad, read_good, recheck_of, rechecked, fits_old, changes, cites_changed}
use Rattle.meaning.specs.Outcomes.{Told, ran_out, broke_off, word_off, faulty, trailing, concluded, went, Wholly, old_bad, new_bad, unlike}
use Rattle.meaning.specs.Ranges.{step_table}
use Rattle.meaning.proofs.Proved.{proved}
use Rattle.meaning.proofs.Proved.Faults.{fault_number}
use Rattle.meaning.proofs.Proved.Guard.{Barred, long_model, long_log, few_places, bad_model, guarded_cases}
use Rattle.meaning.proofs.Proved.ReadStep.{step_left, step_shorter}
use Rattle.meaning.proofs.Proved.Told.{over_told, told_few}
use Rattle.model.specs.Laws.{refused_inside}
use Rattle.checker.specs.Written.{PassedAt, StartOf, ConcludesAt, FirstWords, Written, untouched, walked, Judges, all_steps, changed_rows, WrittenAgain, RefusedAfter, ConcludedAfter}

-- ---- before the walk

early : {model log : List ℤ} {places num p : ℕ} → Barred model log places num p → num < first_of_steps
early (long_model h) = omega arith
early (long_log h) = omega arith
early (few_places h) = omega arith
early {model} (bad_model e) = let h = (refused_inside model e).1 in omega arith

abbrev noted : Outcome → List ℕ → List ℕ
noted o lent = o.starts ++ drop (length o.starts) lent

pub guarded_written : (held : Model → Step → Bool) (say : Conclusion → Answer) (model log : List ℤ) (lent : List ℕ)
    → let o : Outcome = guarded model log (length lent) (λ m. over (held m) say m log) in Written held say model log lent (noted o lent) o.judged o.answer
guarded_written held say model log lent =
    guarded_cases (λ o. Written held say model log lent (noted o lent) o.judged o.answer) model log (length lent) (λ m. over (held m) say m log)
    (λ num p b. untouched (early b))
    (λ m f. let g = (proved.model_is model m f.at f.rest).0 f.reads in
    walked (record { model_fits = f.model_fits; log_fits = f.log_fits; places_suffice = f.places_suffice; words_are = g.0; in_range = g.1 }) (over_told (held m) say m log))

pub check_written : (model log : List ℤ) (lent : List ℕ) → let o : Outcome = check model log (length lent) in Written (λ m t. true) accepted model log lent (noted o lent) o.judged o.answer
check_written model log lent = guarded_written (λ m t. true) accepted model log lent

abbrev Again : List ℤ → List ℤ → List ℤ → List ℕ → Outcome → Type 0
Again old new log lent o = WrittenAgain old new log lent (noted o lent) o.judged o.answer

pub recheck_written : (old new log : List ℤ) (lent : List ℕ) → let o : Outcome = (recheck old new log (length lent)).outcome in WrittenAgain old new log lent (noted o lent) o.judged o.answer
recheck_written old new log lent = go (read_good old) refl (read_good new) refl
  where
    whole : Wholly old new → Again old new log lent (check new log (length lent))
    whole w = record { held = λ m t. true; say = accepted; judges = all_steps w; written = check_written new log lent }

    fit : (o n : Model) → read_good old ≡ good o → read_good new ≡ good n → (b : Bool) → fits_old o n ≡ b → Again old new log lent (rechecked o n b new log (length lent)).outcome
    fit o n e f true h =
        record {
          held = λ m. cites_changed (changes o.rows m.rows);
          say = carried;
          judges = changed_rows e f h;
          written = guarded_written (λ m. cites_changed (changes o.rows m.rows)) carried new log lent;
        }
    fit o n e f false h = whole (unlike e f h)

    go : (x : Good) → read_good old ≡ x → (y : Good) → read_good new ≡ y → Again old new log lent (recheck_of x y new log (length lent)).outcome
    go bad e y f = whole (old_bad e)
    go (good o) e bad f = whole (new_bad f)
    go (good o) e (good n) f = fit o n e f (fits_old o n) refl

-- ---- step by step

module _ (held : Step → Bool) (say : Conclusion → Answer) (m : Model) (log : List ℤ) where
  -- the words that a step leaves are those of the log behind it
  pub record Behind (at at' : ℕ) (rest : List ℤ) : Type 0 where
    pub rest_is : rest ≡ drop at' log
    pub inside : at < length log
    pub ends : at' + length rest ≡ length log

  behind : (k at : ℕ) (ws : List ℤ) {t : Step} {at' : ℕ} {rest : List ℤ} → read_step m k at ws ≡ got t at' rest → ws ≡ drop at log → Behind at at' rest
  behind k at ws {t} {at'} {rest} r e =
      let s = (proved.step_is m k at ws t at' rest).0 r in
      let n = length (step_table t) in
      let l : length ws ≡ length (drop at log) = ap length e in
      let d = length-drop at log in
      let h = step_shorter (length m.bounds) (length m.rows) k at ws r in
      let x = (step_left (length m.bounds) (length m.rows) k at ws r).ends_at in
      record {
        rest_is = sym (drop-append_seam (step_table t) rest) ∙ ap (drop n) (sym s.0) ∙ ap (drop n) e ∙ drop-drop n at log ∙ ap (λ i. drop i log) (sym s.1);
        inside = omega (arith, l, d, h);
        ends = omega (arith, l, d, h, x);
      }

  first_at : {k at : ℕ} {fs : List Fact} {ws : List ℤ} {l : List ℕ} {j : ℕ} {a : Answer} → Told held say m k at fs ws l j a → 0 < length l → get_or l 0 0 ≡ at
  first_at ran_out h = absurd (omega arith)
  first_at (broke_off r e) h = absurd (omega arith)
  first_at (word_off r lo hi) h = absurd (omega arith)
  first_at (faulty r i v f) h = absurd (omega arith)
  first_at (trailing r v u) h = absurd (omega arith)
  first_at (concluded r v u) h = refl
  first_at (went r v u w) h = refl

  passed_at : (k at : ℕ) (fs : List Fact) (ws : List ℤ) {at' : ℕ} {rest : List ℤ} {t : Step} → read_step m k at ws ≡ got t at' rest → ws ≡ drop at log → length fs ≡ k → verdict_of (held t) m fs t ≡ passes → PassedAt held m log k at at'
  passed_at k at fs ws {at'} {rest} {t} r e l v =
      let b = behind k at ws r e in
      record { step = t; facts = fs; inside = b.inside; reads = subst (λ x. read_step m k at x ≡ got t at' (drop at' log)) e (subst (λ x. read_step m k at ws ≡ got t at' x) b.rest_is r); many = l; passed = v }

  -- entry i of the starts is where step n begins, and the next begins where it ends
  abbrev Found : List ℕ → ℕ → ℕ → Type 0
  Found l n i = (b : ℕ) × PassedAt held m log n (get_or l i 0) b × (suc i < length l → get_or l (suc i) 0 ≡ b)

  found : {k at : ℕ} {fs : List Fact} {ws : List ℤ} {l : List ℕ} {j : ℕ} {a : Answer} → Told held say m k at fs ws l j a → ws ≡ drop at log → length fs ≡ k → (i n : ℕ) → n ≡ k + i → i < length l → Found l n i
  found ran_out e f i n q h = absurd (omega arith)
  found (broke_off r x) e f i n q h = absurd (omega arith)
  found (word_off r lo hi) e f i n q h = absurd (omega arith)
  found (faulty r x v y) e f i n q h = absurd (omega arith)
  found (trailing r v u) e f i n q h = absurd (omega arith)
  found (concluded {k} {at} {at'} {fs} {ws} r v u) e f zero n q h = let y : k ≡ n = omega arith in subst (λ x. Found (at ∷ []) x 0) y (at', passed_at k at fs ws r e f v, λ x. absurd (omega arith))
  found (concluded r v u) e f (suc i) n q h = absurd (omega arith)
  found (went {k} {at} {at'} {fs = fs} {ws = ws} {l = l} r v u w) e f zero n q h = let y : k ≡ n = omega arith in subst (λ x. Found (at ∷ l) x 0) y (at', passed_at k at fs ws r e f v, λ x. first_at w (omega arith))
  found (went {k} {at} {fs = fs} {ws = ws} {f = g} {l = l} r v u w) e f (suc i) n q h =
      let c : length (fs ++ (g ∷ [])) ≡ suc k = length-append fs (g ∷ []) ∙ omega arith in
      let y = found w (behind k at ws r e).rest_is c i n (omega arith) (omega arith) in
      (y.0, y.1, λ x. y.2 (omega arith))

  -- how it ends, seen from the starts: refused at the step behind them, or concluded by the last of them
  data Ended (k : ℕ) (l : List ℕ) : Answer → Type 0 where
    refused_at : {num n p : ℕ} → n ≡ k + length l → Ended k l (shut num n p)
    concluded_at : {i n : ℕ} {c : Conclusion} → length l ≡ suc i → n ≡ k + i → ConcludesAt m log n (get_or l i 0) c → Ended k l (say c)

  ended_more : (k at : ℕ) (l : List ℕ) {a : Answer} → Ended (suc k) l a → Ended k (at ∷ l) a
  ended_more k at l (refused_at {n = n} e) = refused_at {n = n} (omega arith)
  ended_more k at l (concluded_at {i} {n} e f c) = concluded_at {i = suc i} {n = n} (ap suc e) (omega arith) c

  ended : {k at : ℕ} {fs : List Fact} {ws : List ℤ} {l : List ℕ} {j : ℕ} {a : Answer} → Told held say m k at fs ws l j a → ws ≡ drop at log → Ended k l a
  ended (ran_out {k}) e = refused_at {n = k} (omega arith)
  ended (broke_off {k} r x) e = refused_at {n = k} (omega arith)
  ended (word_off {k} r lo hi) e = refused_at {n = k} (omega arith)
  ended (faulty {k} r x v y) e = refused_at {n = k} (omega arith)
  ended (trailing {k} r v u) e = refused_at {n = k} (omega arith)
  ended (concluded {k} {at} {at'} {ws = ws} {t = t} r v u) e =
      let b = behind k at ws r e in
      let z : at' ≡ length log = omega (arith, b.ends) in
      concluded_at {i = 0} {n = k} refl (omega arith) (record { step = t; reads = subst (λ x. read_step m k at x ≡ got t (length log) []) e (subst (λ x. read_step m k at ws ≡ got t x []) z r); says = u })
  ended (went {k} {at} {ws = ws} {l = l} r v u w) e = ended_more k at l (ended w (behind k at ws r e).rest_is)

  -- ---- the places
  module _ (lent : List ℕ) {starts : List ℕ} {j : ℕ} {a : Answer} (enough : length log ≤ most_log_words) (room : fewest_places ≤ length lent) (t : Told held say m 0 0 [] log starts j a) where
    abbrev filled : List ℕ
    filled = starts ++ drop (length starts) lent

    entry : (k : ℕ) → k < length starts → get_or filled k 0 ≡ get_or starts k 0
    entry k h = get_or-append starts (drop (length starts) lent) 0 k h

    start_of : (k : ℕ) → k < length starts → StartOf held m log filled (length starts) k
    start_of k h =
        let y = found t refl refl k k (omega arith) h in
        record { behind = y.0; is = subst (λ p. PassedAt held m log k p y.0) (sym (entry k h)) y.1; next = λ g. entry (suc k) g ∙ y.2 g }

    first_words : FirstWords held m log lent filled (length starts)
    first_words =
        let f = told_few t in
        let l = length-drop (length starts) lent in
        record {
          first = λ h. entry 0 h ∙ first_at t h;
          starts = start_of;
          others = drop-append_seam starts (drop (length starts) lent);
          as_long = length-append starts (drop (length starts) lent) ∙ omega arith;
        }

-- ---- what an answer is

abbrev number_of : Answer → ℕ
number_of (shut num k p) = num
number_of (accepted c) = 0
number_of (carried c) = 0

abbrev step_of : Answer → ℕ
step_of (shut num k p) = k
step_of (accepted c) = 0
step_of (carried c) = 0

abbrev pub conclusion_of : Answer → Conclusion
conclusion_of (shut num k p) = nothing
conclusion_of (accepted c) = c
conclusion_of (carried c) = c

-- `say` makes an answer that is no refusal, and loses nothing of the conclusion
pub record Speaks (say : Conclusion → Answer) : Type 0 where
  pub apart : {c : Conclusion} {num k p : ℕ} → say c ≡ shut num k p → ⊥
  pub same : {b c : Conclusion} → say b ≡ say c → b ≡ c
  pub names : (c : Conclusion) → conclusion_of (say c) ≡ c

pub accepts : Speaks accepted
accepts = record { apart = λ e. absurd (let z : ◌≡◌ {A = ℕ} 0 1 = cc in omega arith); same = ap conclusion_of; names = λ c. refl }

pub carries : Speaks carried
carries = record { apart = λ e. absurd (let z : ◌≡◌ {A = ℕ} 0 1 = cc in omega arith); same = ap conclusion_of; names = λ c. refl }

pub judges_speaks : {old new : List ℤ} {held : Model → Step → Bool} {say : Conclusion → Answer} → Judges old new held say → Speaks say
judges_speaks (all_steps w) = accepts
judges_speaks (changed_rows e f h) = carries

late : {held : Step → Bool} {say : Conclusion → Answer} {m : Model} {k at : ℕ} {fs : List Fact} {ws : List ℤ} {l : List ℕ} {j num i p : ℕ} {a : Answer} → Speaks say → Told held say m k at fs ws l j a → a ≡ shut num i p → first_of_steps ≤ num
late s ran_out e = let n = ap number_of e in omega arith
late s (broke_off r x) e = let n = ap number_of e in omega arith
late s (word_off r lo hi) e = let n = ap number_of e in omega arith
late s (faulty r x v f) e = let n = ap number_of e in let h = fault_number f in omega arith
late s (trailing r v u) e = let n = ap number_of e in omega arith
late s (concluded r v u) e = absurd (s.apart e)
late s (went r v u w) e = late s w e

-- ---- from what is written to the answer
module _ {held : Model → Step → Bool} {say : Conclusion → Answer} {model log : List ℤ} {lent : List ℕ} (s : Speaks say) where
  -- refusals before any step
  pub after_early : {left : List ℕ} {j num k p : ℕ} {a : Answer} → num < first_of_steps → Written held say model log lent left j a → a ≡ shut num k p → left ≡ lent
  after_early h (untouched l) e = refl
  after_early h (walked d t) e = let l = late s t e in absurd (omega arith)

  -- the others
  pub after_refusal : {left : List ℕ} {j num k p : ℕ} {a : Answer} → first_of_steps ≤ num → Written held say model log lent left j a → a ≡ shut num k p → RefusedAfter held model log lent left k
  after_refusal h (untouched l) e = let n = ap number_of e in absurd (omega arith)
  after_refusal {num = num} {k = k} {p = p} h (walked {m} {starts} d t) e = go (ended (held m) say m log t refl) e
    where
      go : {b : Answer} → Ended (held m) say m log 0 starts b → b ≡ shut num k p → RefusedAfter held model log lent (starts ++ drop (length starts) lent) k
      go (refused_at {n = n} x) e =
          let i : n ≡ k = ap step_of e in
          let y : length starts ≡ k = omega arith in
          record { of = m; admitted = d; places = subst (FirstWords (held m) m log lent (starts ++ drop (length starts) lent)) y (first_words (held m) say m log lent d.log_fits d.places_suffice t) }
      go (concluded_at x y z) e = absurd (s.apart e)

  -- an answer with a conclusion
  pub after_conclusion : {left : List ℕ} {j : ℕ} {a : Answer} {c : Conclusion} → Written held say model log lent left j a → a ≡ say c → ConcludedAfter held model log lent left c
  after_conclusion (untouched l) e = absurd (s.apart (sym e))
  after_conclusion {c = c} (walked {m} {starts} d t) e = go (ended (held m) say m log t refl) e
    where
      go : {b : Answer} → Ended (held m) say m log 0 starts b → b ≡ say c → ConcludedAfter held model log lent (starts ++ drop (length starts) lent) c
      go (refused_at x) e = absurd (s.apart (sym e))
      go (concluded_at {i} {n} {c = b} x y z) e =
          let q : n ≡ i = omega arith in
          let h : i < length starts = omega arith in
          let w : ConcludesAt m log i (get_or starts i 0) c = subst (λ v. ConcludesAt m log v (get_or starts i 0) c) q (subst (ConcludesAt m log n (get_or starts i 0)) (s.same e) z) in
          record {
            of = m;
            admitted = d;
            before = i;
            places = subst (FirstWords (held m) m log lent (starts ++ drop (length starts) lent)) x (first_words (held m) say m log lent d.log_fits d.places_suffice t);
            last = subst (λ v. ConcludesAt m log i v c) (sym (entry (held m) say m log lent d.log_fits d.places_suffice t i h)) w;
          }

  -- accepted or carried, whichever `say` is
  pub after_any : {left : List ℕ} {j : ℕ} {a : Answer} → ((num k p : ℕ) → a ≡ shut num k p → ⊥) → Written held say model log lent left j a → ConcludedAfter held model log lent left (conclusion_of a)
  after_any {left} {j} {a} n w = go w (said w n)
    where
      said : {left : List ℕ} {j : ℕ} {a : Answer} → Written held say model log lent left j a → ((num k p : ℕ) → a ≡ shut num k p → ⊥) → (c : Conclusion) × (a ≡ say c)
      said (untouched {num} {p} l) n = absurd (n num 0 p refl)
      said (walked {m} {starts} d t) n = find (ended (held m) say m log t refl) n
        where
          find : {b : Answer} → Ended (held m) say m log 0 starts b → ((num k p : ℕ) → b ≡ shut num k p → ⊥) → (c : Conclusion) × (b ≡ say c)
          find (refused_at {num} {n = i} {p = p} x) n = absurd (n num i p refl)
          find (concluded_at {c = c} x y z) n = (c, refl)

      go : Written held say model log lent left j a → (c : Conclusion) × (a ≡ say c) → ConcludedAfter held model log lent left (conclusion_of a)
      go w (c, e) = subst (ConcludedAfter held model log lent left) (sym (ap conclusion_of e ∙ s.names c)) (after_conclusion w e)
