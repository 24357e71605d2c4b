-- What the places hold afterwards, said of any tables: which steps passed and where each begins. Definitions only; WrittenSo has the proofs.
use Rattle.std.specs.Prelude.{ℕ, suc, ◌<◌, ◌≡◌, Bool, true, List, [], ◌++◌, ℤ, length, drop, get_or}
use Rattle.meaning.specs.Refusals.{first_of_steps}
use Rattle.meaning.specs.Read.{got}
use Rattle.meaning.specs.Model.{Model}
use Rattle.meaning.specs.Log.{Fact, Step}
use Rattle.meaning.specs.Judge.{passes}
use Rattle.meaning.specs.Check.{Answer, shut, accepted, carried, Conclusion, Outcome, turn, concludes, verdict_of, read_step, read_good, good, fits_old, changes, cites_changed}
use Rattle.meaning.specs.Claims.{Admitted, Concludes}
use Rattle.meaning.specs.Outcomes.{Told, Wholly}

-- the answer a and the places `left` are those of an outcome: what every promise of the check and of the recheck says, in whatever numbers it was told
pub record Gives (a : Answer) (lent left : List ℕ) (o : Outcome) : Type 0 where
  pub answered : a ≡ o.answer
  pub noted : left ≡ o.starts ++ drop (length o.starts) lent

-- what an acceptance earns: the table is the words of a model in range, the sizes are right, and what is concluded is true of that model
pub record Earned (model log : List ℤ) (places : ℕ) (c : Conclusion) : Type 0 where
  pub of : Model
  pub admitted : Admitted model log places of
  pub true_of_it : Concludes of c

-- step k begins at `at`: read there, it is this step, which ends before `behind`; with the k facts before it, it passed
pub record PassedAt (held : Step → Bool) (m : Model) (log : List ℤ) (k at behind : ℕ) : Type 0 where
  pub step : Step
  pub facts : List Fact
  pub inside : at < length log
  pub reads : read_step m k at (drop at log) ≡ got step behind (drop behind log)
  pub many : length facts ≡ k
  pub passed : verdict_of (held step) m facts step ≡ passes

-- entry k of the places is where step k begins, and of n steps that passed the next begins where it ends
pub record StartOf (held : Step → Bool) (m : Model) (log : List ℤ) (places : List ℕ) (n k : ℕ) : Type 0 where
  pub behind : ℕ
  pub is : PassedAt held m log k (get_or places k 0) behind
  pub next : suc k < n → get_or places (suc k) 0 ≡ behind

-- step k begins at `at`, concludes c, and is the last of the log
pub record ConcludesAt (m : Model) (log : List ℤ) (k at : ℕ) (c : Conclusion) : Type 0 where
  pub step : Step
  pub reads : read_step m k at (drop at log) ≡ got step (length log) []
  pub says : turn step ≡ concludes c

-- n steps passed: the first n places are their first words, the first of them 0, and all others are as they were lent
pub record FirstWords (held : Step → Bool) (m : Model) (log : List ℤ) (lent left : List ℕ) (n : ℕ) : Type 0 where
  pub first : 0 < n → get_or left 0 0 ≡ 0
  pub starts : (k : ℕ) → k < n → StartOf held m log left n k
  pub others : drop n left ≡ drop n lent
  pub as_long : length left ≡ length lent

-- ---- the places `left`, the steps judged and the answer, where `lent` are the places before. `held m t`: is the step t held against its rule; `say`: accepted or carried
pub data Written (held : Model → Step → Bool) (say : Conclusion → Answer) (model log : List ℤ) (lent : List ℕ) : List ℕ → ℕ → Answer → Type 0 where
  -- a refusal before any step changes nothing
  untouched : {num p : ℕ} → num < first_of_steps → Written held say model log lent lent 0 (shut num 0 p)
  -- else the model is good, and the starts are those of the steps that passed, told one by one
  walked : {m : Model} {starts : List ℕ} {judged : ℕ} {a : Answer} → Admitted model log (length lent) m → Told (held m) say m 0 0 [] log starts judged a
      → Written held say model log lent (starts ++ drop (length starts) lent) judged a

-- which steps a recheck judges: all of them, or the inferences that cite a changed row
pub data Judges (old new : List ℤ) : (Model → Step → Bool) → (Conclusion → Answer) → Type 0 where
  all_steps : Wholly old new → Judges old new (λ m t. true) accepted
  changed_rows : {o n : Model} → read_good old ≡ good o → read_good new ≡ good n → fits_old o n ≡ true → Judges old new (λ m. cites_changed (changes o.rows m.rows)) carried

pub record WrittenAgain (old new log : List ℤ) (lent left : List ℕ) (judged : ℕ) (a : Answer) : Type 0 where
  pub held : Model → Step → Bool
  pub say : Conclusion → Answer
  pub judges : Judges old new held say
  pub written : Written held say new log lent left judged a

-- a refusal that is none of 1 to 7 names its step: the steps before it passed
pub record RefusedAfter (held : Model → Step → Bool) (model log : List ℤ) (lent left : List ℕ) (k : ℕ) : Type 0 where
  pub of : Model
  pub admitted : Admitted model log (length lent) of
  pub places : FirstWords (held of) of log lent left k

-- an answer with a conclusion: every step passed, and the last of them concludes
pub record ConcludedAfter (held : Model → Step → Bool) (model log : List ℤ) (lent left : List ℕ) (c : Conclusion) : Type 0 where
  pub of : Model
  pub admitted : Admitted model log (length lent) of
  pub before : ℕ
  pub places : FirstWords (held of) of log lent left (suc before)
  pub last : ConcludesAt of log before (get_or left before 0) c
