-- The proofs of the claims, from the ground up: lists; reading; the walk; rows; soundness; what outcomes tell; the table.
pub mod Classes
pub mod Flags
pub mod Pigeons
pub mod Reading
pub mod ReadModel
pub mod ReadStep
pub mod Spelled
pub mod Rereads
pub mod Ranged
pub mod StepRanged
pub mod Slots
pub mod LaidOut
pub mod Walked
pub mod Guard
pub mod Exact
pub mod SameRows
pub mod Alike
pub mod Framed
pub mod Carries
pub mod BoxFacts
pub mod Narrow
pub mod BoxSays
pub mod Loads
pub mod Positions
pub mod Tour
pub mod Trapped
pub mod RowSound
pub mod RuleSays
pub mod Sharp
pub mod MeetsShown
pub mod StepSound
pub mod Sound
pub mod Faults
pub mod JudgeExact
pub mod Told
pub mod ToldOnce
pub mod OutcomeFacts
pub mod Given
pub mod EarlyExact
pub mod RecheckFacts
pub mod Plain
pub mod AnswerExact
pub mod FaithfulFacts
pub mod Table
use Rattle.meaning.specs.Claims.{Claims}
use Rattle.meaning.proofs.Proved.Table.{right, right_again, frauds}
use Rattle.meaning.proofs.Proved.Ranged.{model_is}
use Rattle.meaning.proofs.Proved.StepRanged.{step_is}
use Rattle.meaning.proofs.Proved.LaidOut.{model_refused, step_refused}
use Rattle.meaning.proofs.Proved.EarlyExact.{check_early, recheck_early}
use Rattle.meaning.proofs.Proved.Plain.{good_is, numbered, turns, recheck_whole, recheck_judges}
use Rattle.meaning.proofs.Proved.Sharp.{sharp, judged, solved}
use Rattle.meaning.proofs.Proved.MeetsShown.{meets_examples}
use Rattle.meaning.proofs.Proved.JudgeExact.{judge_says}
use Rattle.meaning.proofs.Proved.Exact.{exact}
use Rattle.meaning.proofs.Proved.Sound.{sound}
use Rattle.meaning.proofs.Proved.Given.{accepted_given}
use Rattle.meaning.proofs.Proved.AnswerExact.{answer_is}
use Rattle.meaning.proofs.Proved.Carries.{carries}
use Rattle.meaning.proofs.Proved.Framed.{framed}
use Rattle.meaning.proofs.Proved.ToldOnce.{told_once}
use Rattle.meaning.proofs.Proved.OutcomeFacts.{check_facts, check_judged, check_tells}
use Rattle.meaning.proofs.Proved.RecheckFacts.{recheck_facts, recheck_size, recheck_part}
use Rattle.meaning.proofs.Proved.FaithfulFacts.{faithful}

pub proved : Claims
proved = record {
  bench = (right, right_again);
  model_is = model_is;
  model_refused = model_refused;
  step_is = step_is;
  step_refused = step_refused;
  early_refused = λ old model log places num k p h. (check_early model log places num k p h, recheck_early old model log places num k p h);
  good_is = good_is;
  numbered = numbered;
  sharp_at_a_point = sharp;
  judged_at_a_point = judged;
  solves_is = solved;
  meets_examples = meets_examples;
  faithful = faithful;
  judges = (judge_says, turns);
  exact = exact;
  sound = sound;
  accepted_given = accepted_given;
  answer_is = answer_is;
  carries = carries;
  framed = framed;
  check_facts = λ model log places. (check_facts model log places, check_judged model log places);
  check_tells = check_tells;
  told_once = told_once;
  recheck_facts = λ old new log places. (recheck_facts old new log places, recheck_size old new log places);
  recheck_whole = recheck_whole;
  recheck_part = recheck_part;
  recheck_judges = recheck_judges;
  frauds = frauds;
}
