-- The whole check and the recheck: one walk over the log, which holds some steps against their rule and waves the others on.
use Rattle.std.specs.Prelude.{ℕ, zero, suc, Bool, true, false, not, ◌&&◌, List, [], ◌∷◌, ◌++◌, ltb, eqb, length, get_or, ℤ, pos}
use Rattle.std.proofs.Math.Option.{some}
use Rattle.meaning.specs.Limits.{most_model_words, most_log_words, fewest_places}
use Rattle.meaning.specs.Refusals.{model_too_long, log_too_long, places_too_few, no_conclusion, words_after_conclusion, Class, early, layout, judged, class_of}
use Rattle.meaning.specs.Read.{Got, got, refused}
use Rattle.meaning.specs.Model.{Model, Bounds, Row, read_model, row_words}
use Rattle.meaning.specs.Log.{at_most, Atom, Fact, Step, inference, deduction, no_assignment, never_below, step}
use Rattle.words.specs.Int.{eq_z}
use Rattle.meaning.specs.Judge.{Verdict, passes, fails, judge}

-- what an accepted or carried log concludes
pub data Conclusion : Type 0 where
  nothing : Conclusion
  at_least : ℕ → ℤ → Conclusion

pub data Answer : Type 0 where
  shut : ℕ → ℕ → ℕ → Answer  -- the refusal's number, the step, the position
  accepted : Conclusion → Answer
  carried : Conclusion → Answer

pub record Outcome : Type 0 where
  pub answer : Answer
  pub starts : List ℕ  -- the first words of the steps passed
  pub judged : ℕ  -- how many steps were held against their rule

-- what a recheck answers
pub record Rechecked : Type 0 where
  pub outcome : Outcome
  pub size : ℕ  -- of the set of changed rows; in whole mode the number of rows

-- a passed step makes a fact or ends the log
pub data Turn : Type 0 where
  makes : Fact → Turn
  concludes : Conclusion → Turn

-- a model that 1 and 4 to 7 do not refuse
pub data Good : Type 0 where
  good : Model → Good
  bad : Good

-- ---- the walk

-- what is known between two steps
pub record State : Type 0 where
  pub facts : List Fact
  pub starts : List ℕ
  pub judged : ℕ

abbrev pub shut_at : ℕ → ℕ → ℕ → State → Outcome
shut_at num k p s = record { answer = shut num k p; starts = s.starts; judged = s.judged }

abbrev pub passed : State → ℕ → Fact → State
passed s at f = record { facts = s.facts ++ (f ∷ []); starts = s.starts ++ (at ∷ []); judged = s.judged }

abbrev pub one_more : Bool → ℕ → ℕ
one_more true n = suc n
one_more false n = n

abbrev pub counted : Bool → State → State
counted b s = record { facts = s.facts; starts = s.starts; judged = one_more b s.judged }

-- a conclusion that passed: with words after it, it counts as not passed
abbrev pub ends : Answer → ℕ → ℕ → ℕ → State → List ℤ → Outcome
ends a k at at' s [] = record { answer = a; starts = s.starts ++ (at ∷ []); judged = s.judged }
ends a k at at' s (w ∷ ws) = shut_at words_after_conclusion k at' s

-- ---- one step

abbrev pub turn : Step → Turn
turn (inference r f) = makes f
turn (deduction f hs) = makes f
turn (no_assignment n) = concludes nothing
turn (never_below x v n) = concludes (at_least x v)

-- the fact made by step n; a step cites only facts made before it, so what stands for any other (it says nothing) is never looked at
abbrev pub an_atom : Atom
an_atom = record { variable = 0; relation = at_most; value = pos 0 }

abbrev pub no_fact : Fact
no_fact = record { premises = an_atom ∷ []; consequent = some an_atom }

abbrev pub fact_at : List Fact → ℕ → Fact
fact_at fs n = get_or fs n no_fact

-- a step that is not held against its rule passes
abbrev pub verdict_of : Bool → Model → List Fact → Step → Verdict
verdict_of true m fs t = judge m (fact_at fs) t
verdict_of false m fs t = passes

abbrev pub read_step : Model → ℕ → ℕ → List ℤ → Got Step
read_step m = step (length m.bounds) (length m.rows)

-- what one step leads to: the answer, or the next step's state, position and words
pub data Next : Type 0 where
  stops : Outcome → Next
  goes : State → ℕ → List ℤ → Next

-- the step begins at `at` and ends at `at'`; the state counts it already
abbrev pub after_verdict : (Conclusion → Answer) → ℕ → ℕ → ℕ → List ℤ → State → Turn → Verdict → Next
after_verdict say k at at' rest s u (fails num p) = stops (shut_at num k p s)
after_verdict say k at at' rest s (makes f) passes = goes (passed s at f) at' rest
after_verdict say k at at' rest s (concludes c) passes = stops (ends (say c) k at at' s rest)

-- `held t`: is the step t held against its rule; `say`: accepted or carried
abbrev pub after_reading : (Step → Bool) → (Conclusion → Answer) → Model → ℕ → State → ℕ → Got Step → Next
after_reading held say m k s at (refused num p) = stops (shut_at num k p s)
after_reading held say m k s at (got t at' rest) = after_verdict say k at at' rest (counted (held t) s) (turn t) (verdict_of (held t) m s.facts t)

abbrev pub advance : (Step → Bool) → (Conclusion → Answer) → Model → ℕ → State → ℕ → List ℤ → Next
advance held say m k s at [] = stops (shut_at no_conclusion k at s)
advance held say m k s at (w ∷ ws) = after_reading held say m k s at (read_step m k at (w ∷ ws))

abbrev pub onward : (State → ℕ → List ℤ → Outcome) → Next → Outcome
onward go (stops o) = o
onward go (goes s at ws) = go s at ws

-- from step k on; each step takes words, so as much fuel as there are words left is enough
abbrev pub walk : (Step → Bool) → (Conclusion → Answer) → Model → ℕ → ℕ → State → ℕ → List ℤ → Outcome
walk held say m zero k s at ws = shut_at no_conclusion k at s
walk held say m (suc fuel) k s at ws = onward (walk held say m fuel (suc k)) (advance held say m k s at ws)

abbrev pub start : State
start = record { facts = []; starts = []; judged = 0 }

abbrev pub over : (Step → Bool) → (Conclusion → Answer) → Model → List ℤ → Outcome
over held say m log = walk held say m (length log) 0 start 0 log

abbrev pub shut_early : ℕ → ℕ → Outcome
shut_early num p = record { answer = shut num 0 p; starts = []; judged = 0 }

-- ---- the whole check

-- sizes first, then the model, then what is to be done with a good model
abbrev pub admitted : Bool → Bool → Bool → Got Model → (Model → Outcome) → Outcome
admitted true longLog fewPlaces g next = shut_early model_too_long 0
admitted false true fewPlaces g next = shut_early log_too_long 0
admitted false false true g next = shut_early places_too_few 0
admitted false false false (refused num p) next = shut_early num p
admitted false false false (got m at ws) next = next m

abbrev pub guarded : List ℤ → List ℤ → ℕ → (Model → Outcome) → Outcome
guarded model log places next = admitted (ltb most_model_words (length model)) (ltb most_log_words (length log)) (ltb places fewest_places) (read_model 0 model) next

-- `places`: how many places are lent
abbrev pub check : List ℤ → List ℤ → ℕ → Outcome
check model log places = guarded model log places (λ m. over (λ t. true) accepted m log)

-- ---- the recheck

abbrev pub good_of : Bool → Got Model → Good
good_of true g = bad
good_of false (refused num p) = bad
good_of false (got m at ws) = good m

abbrev pub read_good : List ℤ → Good
read_good model = good_of (ltb most_model_words (length model)) (read_model 0 model)

abbrev pub same_words : List ℤ → List ℤ → Bool
same_words [] [] = true
same_words [] (b ∷ bs) = false
same_words (a ∷ as') [] = false
same_words (a ∷ as') (b ∷ bs) = eq_z a b && same_words as' bs

abbrev pub same_bounds : List Bounds → List Bounds → Bool
same_bounds [] [] = true
same_bounds [] (b ∷ bs) = false
same_bounds (a ∷ as') [] = false
same_bounds (a ∷ as') (b ∷ bs) = eq_z a.low b.low && (eq_z a.high b.high && same_bounds as' bs)

-- one test for each row number: do the row's words differ, kind and count among them; rows of different lengths may stand at one number
abbrev pub changes : List Row → List Row → List Bool
changes [] qs = []
changes (p ∷ ps) [] = []
changes (p ∷ ps) (q ∷ qs) = not (same_words (row_words p) (row_words q)) ∷ changes ps qs

abbrev pub ones : List Bool → ℕ
ones [] = 0
ones (true ∷ bs) = suc (ones bs)
ones (false ∷ bs) = ones bs

-- the inferences that cite a changed row: no other step is held against its rule
abbrev pub cites_changed : List Bool → Step → Bool
cites_changed ch (inference r f) = get_or ch r false
cites_changed ch (deduction f hs) = false
cites_changed ch (no_assignment n) = false
cites_changed ch (never_below x v n) = false

-- is the refusal given before any step is read
abbrev pub before_steps : Class → Bool
before_steps early = true
before_steps layout = false
before_steps judged = false

-- these report 0 as the size; their count of judged steps is 0 as no step was read
abbrev pub is_early : Answer → Bool
is_early (shut num k p) = before_steps (class_of num)
is_early (accepted c) = false
is_early (carried c) = false

abbrev pub sized : ℕ → Outcome → Rechecked
sized n o = record { outcome = o; size = elim (is_early o.answer) [ true ↦ 0 | false ↦ n ] }

abbrev pub row_count : List ℤ → ℕ
row_count model = elim (read_good model) [ good m ↦ length m.rows | bad ↦ 0 ]

-- whole mode: the whole check of the new model, which says "accepted"
abbrev pub wholly : List ℤ → List ℤ → ℕ → Rechecked
wholly new log places = sized (row_count new) (check new log places)

-- only the inferences that cite a changed row of the new model n are judged: what gets through is "carried"
abbrev pub partly : Model → Model → List ℤ → List ℤ → ℕ → Rechecked
partly o n new log places =
    sized (ones (changes o.rows n.rows))
    (guarded new log places (λ m. over (cites_changed (changes o.rows m.rows)) carried m log))

-- the same bounds, and so the same V, and the same C
abbrev pub fits_old : Model → Model → Bool
fits_old o n = same_bounds o.bounds n.bounds && eqb (length o.rows) (length n.rows)

-- the test is `fits_old`
abbrev pub rechecked : Model → Model → Bool → List ℤ → List ℤ → ℕ → Rechecked
rechecked o n true new log places = partly o n new log places
rechecked o n false new log places = wholly new log places

-- the old model and the new one, each as far as it is good
abbrev pub recheck_of : Good → Good → List ℤ → List ℤ → ℕ → Rechecked
recheck_of bad g new log places = wholly new log places
recheck_of (good o) bad new log places = wholly new log places
recheck_of (good o) (good n) new log places = rechecked o n (fits_old o n) new log places

abbrev pub recheck : List ℤ → List ℤ → List ℤ → ℕ → Rechecked
recheck old new log places = recheck_of (read_good old) (read_good new) new log places
