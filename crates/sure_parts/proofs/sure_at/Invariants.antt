use Rattle.std.proofs.Common.{◌≡◌}
use Rattle.sure_parts.specs.Table.{load}
use Rattle.sure_parts.proofs.sure_at.Given as goal

abbrev pub invariant-loop-part : goal.invariant-loop-part
invariant-loop-part l = l.sum ≡ load l.parts l.t l.part-index
