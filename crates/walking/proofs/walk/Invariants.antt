-- Between two steps `BetweenSteps` holds.
use Rattle.std.proofs.Common.{◌-◌, ◌≡◌, length}
use Rattle.row_set.specs.Whole.{whole_in, set_in}
use Rattle.walking.specs.Told.{held_by}
use Rattle.model.specs.Planned.{model_of}
use Rattle.walking.specs.BetweenSteps.{BetweenSteps}
use Rattle.walking.proofs.walk.Given as goal

abbrev pub invariant-loop-next : goal.invariant-loop-next
invariant-loop-next l =
    (length l.cells ≡ length l.initial.cells) × BetweenSteps (held_by (whole_in l.changed) (set_in l.changed)) (whole_in l.changed) (model_of l.plan.words.now) l.plan.variables l.log l.initial.places l.places l.at l.k l.judged

abbrev pub decreases-loop-next : goal.decreases-loop-next
decreases-loop-next l = length l.log - l.at
