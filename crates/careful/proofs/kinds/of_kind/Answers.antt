use Rattle.std.proofs.Common.{sym}
use Rattle.reading.specs.Kinds.{is_no_assignment}
use Rattle.reading.specs.Over.{gives}
use Rattle.careful.proofs.kinds.of_kind.Goals as goal

pub returns-in-NoAssignment : goal.returns-in-NoAssignment
returns-in-NoAssignment c =
    let z = is_no_assignment c.args.kind (sym c.in-NoAssignment.ensures) in
    rw z (gives _ c.below.ensures)
