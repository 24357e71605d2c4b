-- The tables are those of the row, and the rule goes activity by activity.
use Rattle.cumulative.proofs.RowFacts.{by_activity}
use Rattle.cumulative.proofs.conflicts.Goals as goal

pub returns : goal.returns
returns c = rw (by_activity c.args.model.now c.args.p c.args.ready.cells.words.now) c.some_squeezed.ensures
