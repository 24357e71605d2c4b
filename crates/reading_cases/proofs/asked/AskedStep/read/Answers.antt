use Rattle.steps.specs.Laws.{stepped}
use Rattle.reading_cases.proofs.asked.AskedStep.read.Goals as goal

pub step_at-requires : goal.step_at-requires
step_at-requires c = (stepped c.in_ok-next.ensures).stands
