use Rattle.judging.specs.Judged.{asked_of_declared, full_formed, full_variables}
use Rattle.judging.proofs.fill_box.Goals as goal

pub invariant_of-cells : goal.invariant_of-cells
invariant_of-cells c = record { formed = rw c.fill.ensures (full_formed (asked_of_declared c.requires.0 c.requires.1 c.requires.2)) }

pub is_box_empty-requires : goal.is_box_empty-requires
is_box_empty-requires c =
    let g = asked_of_declared c.requires.0 c.requires.1 c.requires.2 in
    rw (c.fill.ensures, full_variables g) g.known
