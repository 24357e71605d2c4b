-- The code makes the bit of the number by a shift.
use Rattle.std.proofs.Common.{◌/◌, ◌%◌, ap, arith, bit_or, get_or, set}
use Rattle.marks.specs.Marks.{added, one_shifted}
use Rattle.marks.proofs.add.Goals as goal

pub returns : goal.returns
unfolding added
returns c =
    let ws = c.args.set.now in
    ap (λ b. set ws (c.args.n / 64) (bit_or (get_or ws (c.args.n / 64) 0) b)) (one_shifted (c.args.n % 64) (omega arith))
