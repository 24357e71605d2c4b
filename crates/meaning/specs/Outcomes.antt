-- What every outcome meets besides its answer's rule: its starts, how many steps were judged, and document 01's table of refusals.
use Rattle.std.specs.Prelude.{ℕ, suc, ◌+◌, ◌≤◌, ◌<◌, ◌≡◌, Bool, true, false, List, [], ◌∷◌, ◌++◌, length, get_or, ℤ}
use Rattle.meaning.specs.Refusals.{Class, early, layout, judged, class_of}
use Rattle.meaning.specs.Read.{got, refused}
use Rattle.meaning.specs.Model.{Model}
use Rattle.meaning.specs.Log.{Fact, Step, inference, deduction, no_assignment, never_below}
use Rattle.meaning.specs.Judge.{judge, passes, fails}
use Rattle.meaning.specs.Check.{Answer, shut, accepted, carried, Conclusion, Outcome, makes, concludes, turn, one_more, fact_at, verdict_of, read_step, good, bad, read_good, fits_old, Rechecked}

-- the numbers given at a word of the model
pub data ModelWrong : ℕ → Type 0 where
  outside : ModelWrong 5
  twice : ModelWrong 6
  after : ModelWrong 7

-- number and position that the rule of a step gives, by kind of step
pub data Fault : Step → ℕ → ℕ → Type 0 where
  box_empty : {r : ℕ} {f : Fact} → Fault (inference r f) 20 0
  no_conflict : {r : ℕ} {f : Fact} → Fault (inference r f) 21 0
  start_empty : {f : Fact} {hs : List ℕ} → Fault (deduction f hs) 20 0
  hint_off : {f : Fact} {hs : List ℕ} {i : ℕ} → i < length hs → Fault (deduction f hs) 22 i
  used_up : {f : Fact} {hs : List ℕ} → Fault (deduction f hs) 23 0
  unfit_nothing : {n : ℕ} → Fault (no_assignment n) 24 0
  unfit_bound : {x n : ℕ} {v : ℤ} → Fault (never_below x v n) 24 0

-- the table: number, step, position, with the lengths of the model and of the log and the number of places
pub data Listed (model log places : ℕ) : ℕ → ℕ → ℕ → Type 0 where
  model_long : 4096 < model → Listed model log places 1 0 0
  log_long : 16384 < log → Listed model log places 2 0 0
  places_few : places < 4096 → Listed model log places 3 0 0
  model_ends : {p : ℕ} → p ≡ model → Listed model log places 4 0 p
  model_word : {num p : ℕ} → ModelWrong num → p < model → Listed model log places num 0 p
  no_conclusion : {k p : ℕ} → p ≡ log → Listed model log places 10 k p
  step_cut : {k p : ℕ} → p ≡ log → Listed model log places 11 k p
  log_word : {k p : ℕ} → p < log → Listed model log places 12 k p
  words_after : {k p : ℕ} → p < log → Listed model log places 13 k p
  rule : {k num p : ℕ} {t : Step} → Fault t num p → Listed model log places num k p

-- P of the number, the step and the position, where the answer is a refusal
abbrev pub OnShut : (ℕ → ℕ → ℕ → Type 0) → Answer → Type 0
OnShut P (shut num k p) = P num k p
OnShut P (accepted c) = Unit {0}
OnShut P (carried c) = Unit {0}

pub record Facts (model log places : ℕ) (o : Outcome) : Type 0 where
  pub rising : (i j : ℕ) → i < j → j < length o.starts → get_or o.starts i 0 < get_or o.starts j 0
  pub inside_log : (i : ℕ) → i < length o.starts → get_or o.starts i 0 < log
  pub few : length o.starts ≤ 4096
  pub step_is : OnShut (λ num k p. k ≡ length o.starts) o.answer
  pub listed : OnShut (Listed model log places) o.answer
  pub early : OnShut (λ num k p. num ≤ 7 → (o.starts ≡ []) × (o.judged ≡ 0)) o.answer

-- 1 where the answer refuses a step that was read well
abbrev pub of_read : Class → ℕ
of_read early = 0
of_read layout = 0
of_read judged = 1

abbrev pub late : Answer → ℕ
late (shut num k p) = of_read (class_of num)
late (accepted c) = 0
late (carried c) = 0

-- step by step from step k on, which begins at `at` and finds the facts `fs` made: the starts of the steps passed, the number of those held against their rule, and the answer.
-- A step that is not held against its rule passes (`verdict_of`). Each constructor is one thing that can happen at a step, and no two of them fit one log.
pub data Told (held : Step → Bool) (say : Conclusion → Answer) (m : Model) : ℕ → ℕ → List Fact → List ℤ → List ℕ → ℕ → Answer → Type 0 where
  ran_out : {k at : ℕ} {fs : List Fact} → Told held say m k at fs [] [] 0 (shut 10 k at)
  broke_off : {k at p : ℕ} {fs : List Fact} {w : ℤ} {ws : List ℤ}
      → read_step m k at (w ∷ ws) ≡ refused 11 p → p ≡ at + length (w ∷ ws) → Told held say m k at fs (w ∷ ws) [] 0 (shut 11 k p)
  word_off : {k at p : ℕ} {fs : List Fact} {ws : List ℤ} → read_step m k at ws ≡ refused 12 p → at ≤ p → p < at + length ws → Told held say m k at fs ws [] 0 (shut 12 k p)
  faulty : {k at at' num p : ℕ} {fs : List Fact} {ws rest : List ℤ} {t : Step}
      → read_step m k at ws ≡ got t at' rest → held t ≡ true → judge m (fact_at fs) t ≡ fails num p → Fault t num p
      → Told held say m k at fs ws [] 1 (shut num k p)
  trailing : {k at at' : ℕ} {fs : List Fact} {w : ℤ} {ws rest : List ℤ} {t : Step} {c : Conclusion}
      → read_step m k at ws ≡ got t at' (w ∷ rest) → verdict_of (held t) m fs t ≡ passes → turn t ≡ concludes c
      → Told held say m k at fs ws [] (one_more (held t) 0) (shut 13 k at')
  concluded : {k at at' : ℕ} {fs : List Fact} {ws : List ℤ} {t : Step} {c : Conclusion}
      → read_step m k at ws ≡ got t at' [] → verdict_of (held t) m fs t ≡ passes → turn t ≡ concludes c
      → Told held say m k at fs ws (at ∷ []) (one_more (held t) 0) (say c)
  went : {k at at' j : ℕ} {fs : List Fact} {ws rest : List ℤ} {t : Step} {f : Fact} {l : List ℕ} {a : Answer}
      → read_step m k at ws ≡ got t at' rest → verdict_of (held t) m fs t ≡ passes → turn t ≡ makes f
      → Told held say m (suc k) at' (fs ++ (f ∷ [])) rest l j a
      → Told held say m k at fs ws (at ∷ l) (one_more (held t) j) a

-- ---- the recheck

-- the recheck is the whole check: the old model is bad, or the new one, or they differ in V, a bound or C
pub data Wholly (old new : List ℤ) : Type 0 where
  old_bad : read_good old ≡ bad → Wholly old new
  new_bad : read_good new ≡ bad → Wholly old new
  unlike : {o n : Model} → read_good old ≡ good o → read_good new ≡ good n → fits_old o n ≡ false → Wholly old new

-- the size that is reported: refusals 1 to 7 report 0
pub record SizeIs (r : Rechecked) : Type 0 where
  pub few_rows : r.size ≤ 64
  pub early_none : OnShut (λ num k p. num ≤ 7 → r.size ≡ 0) r.outcome.answer
