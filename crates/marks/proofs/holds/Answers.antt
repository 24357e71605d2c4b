use Rattle.std.proofs.Common.{rules}
use Rattle.words.specs.Bits.{bit}
use Rattle.marks.specs.Marks.{marked}
use Rattle.marks.proofs.holds.Goals as goal

pub returns : goal.returns
unfolding marked bit
returns c = search rules
