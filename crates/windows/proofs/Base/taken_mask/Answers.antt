use Rattle.words.specs.Int.{eq_z, eq32_f}
use Rattle.windows.specs.Window.{window_never}
use Rattle.windows.proofs.Base.taken_mask.Goals as goal

pub returns-else-variable-name : goal.returns-else-variable-name
returns-else-variable-name c = window_never (eq_z c.args.taken) c.args.self.first (eq_z c.args.variable c.args.name) (eq32_f c.args.variable c.args.name c.if-variable-name.false)
