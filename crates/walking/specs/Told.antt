-- What the walk's answers tell: document 01's numbers and values for each case.
use Rattle.std.specs.Prelude.{ℕ, ◌<◌, ◌≤◌, ◌≡◌, refl, Bool, true, false, List, [], ◌++◌, ltb, ℤ, length, drop, Result, Ok, Err}
use Rattle.std.proofs.Common.{arith}
use Rattle.meaning.specs.Limits.{most_variables}
use Rattle.meaning.specs.Log.{Fact}
use Rattle.meaning.specs.Log as log
use Rattle.meaning.specs.Check as says
use Rattle.row_set.specs.Bits.{bit_at}
use Rattle.reading.specs.Reasons.{number_of}
use Rattle.reading.specs.declared.refusals.Reason.TheVariants as reason
use Rattle.reading.specs.declared.refusals.Refusal.{Refusal}
use Rattle.steps.specs.declared.Step.{Step}
use Rattle.steps.specs.declared.Step.TheVariants as step
use Rattle.walking.specs.declared.Conclusion.{Conclusion}
use Rattle.walking.specs.declared.Conclusion.TheVariants as conclusion
use Rattle.walking.specs.declared.Answer.{Answer}
use Rattle.walking.specs.declared.Answer.TheVariants as answer
use Rattle.walking.specs.declared.Walked.{Walked}
use Rattle.walking.specs.declared.Onward.{Onward}
use Rattle.walking.specs.declared.Onward.TheVariants as onward

abbrev pub told_conclusion : Conclusion → says.Conclusion
told_conclusion conclusion.NoAssignment = says.nothing
told_conclusion (conclusion.NeverBelow x v) = says.at_least x.0 v

abbrev pub told_answer : Answer → says.Answer
told_answer (answer.Refused num k p) = says.shut num k p
told_answer (answer.Accepted c) = says.accepted (told_conclusion c)
told_answer (answer.Carried c) = says.carried (told_conclusion c)

-- ---- which steps are held against their rule, and what a conclusion is called: whole, or by the set of changed rows

abbrev pub held_by : Bool → ℕ → log.Step → Bool
held_by true set t = true
held_by false set (log.inference r f) = bit_at set r
held_by false set (log.deduction f hs) = false
held_by false set (log.no_assignment n) = false
held_by false set (log.never_below x v n) = false

abbrev pub say_by : Bool → says.Conclusion → says.Answer
say_by true c = says.accepted c
say_by false c = says.carried c

-- the step k, which begins at `at`, led there; the state s counts it already, and `f` is the fact that it made
abbrev pub told_moved : (says.Conclusion → says.Answer) → List ℤ → says.State → ℕ → ℕ → Fact → Result Onward Refusal → says.Next
told_moved say log s k at f (Ok (onward.To next)) = says.goes (says.passed s at f) next (drop next log)
told_moved say log s k at f (Ok (onward.End c)) = says.stops (says.ends (say (told_conclusion c)) k at at s [])
told_moved say log s k at f (Err e) = says.stops (says.shut_at (number_of e.reason) k e.position s)

-- ---- the answers that the walk's parts make

abbrev pub concluded_if : Bool → Conclusion → ℕ → Result Onward Refusal
concluded_if true c next = Err (record { reason = reason.WordsAfterConclusion; position = next })
concluded_if false c next = Ok (onward.End c)

-- words follow where the next position is below the log's length
abbrev pub concluded : Conclusion → ℕ → ℕ → Result Onward Refusal
concluded c next len = concluded_if (ltb next len) c next

abbrev pub after_passing : Step → ℕ → ℕ → Result Onward Refusal
after_passing (step.Inference r f) next len = Ok (onward.To next)
after_passing (step.Deduction f h) next len = Ok (onward.To next)
after_passing (step.NoAssignment k) next len = concluded conclusion.NoAssignment next len
after_passing (step.NeverBelow x a k) next len = concluded (conclusion.NeverBelow x a) next len

-- the row that an inference cites is below n
abbrev pub RowBelow : ℕ → Step → Type 0
RowBelow n (step.Inference r f) = r.0 < n
RowBelow n (step.Deduction f h) = Unit {0}
RowBelow n (step.NoAssignment k) = Unit {0}
RowBelow n (step.NeverBelow x a k) = Unit {0}

abbrev pub answer_by : Bool → Conclusion → Answer
answer_by true c = answer.Accepted c
answer_by false c = answer.Carried c

pub answer_told : (b : Bool) (c : Conclusion) → told_answer (answer_by b c) ≡ say_by b (told_conclusion c)
answer_told true c = refl
answer_told false c = refl

-- the variable that is named is below n
abbrev pub ConclusionIn : ℕ → Conclusion → Type 0
ConclusionIn n conclusion.NoAssignment = Unit {0}
ConclusionIn n (conclusion.NeverBelow x v) = x.0 < n

abbrev pub NamesIn : ℕ → Answer → Type 0
NamesIn n (answer.Refused num k p) = Unit {0}
NamesIn n (answer.Accepted c) = ConclusionIn n c
NamesIn n (answer.Carried c) = ConclusionIn n c

pub answer_names : (n : ℕ) (b : Bool) (c : Conclusion) → ConclusionIn n c → NamesIn n (answer_by b c)
answer_names n true c h = h
answer_names n false c h = h

-- the answer tells the outcome, and the places hold its starts and are otherwise as they were lent
pub record Tells (r : Walked) (lent left : List ℕ) (o : says.Outcome) : Type 0 where
  pub answered : told_answer r.answer ≡ o.answer
  pub counted : r.judged ≡ o.judged
  pub noted : left ≡ o.starts ++ drop (length o.starts) lent
  pub named : NamesIn most_variables r.answer

pub few_names : (m n : ℕ) (c : Conclusion) → m ≤ n → ConclusionIn m c → ConclusionIn n c
few_names m n conclusion.NoAssignment l h = tt
few_names m n (conclusion.NeverBelow x v) l h = omega arith
