-- An end is a value left, where the ends do not cross.
use Rattle.std.proofs.Common.{arith, ◌≤ℤ◌, ◌<ℤ◌, w32, to_z-of_z}
use Rattle.words.specs.Int.{zz, fit}
use Rattle.domain.specs.Box.{low_of, high_of}
use Rattle.domain.specs.Box.Answers.{first_is, last_is, no_first, no_last}
use Rattle.domain.proofs.Cells.ends.Goals.{Then-low-high, Else-low-high}
use Rattle.domain.proofs.Cells.ends.Goals as goal

ordered : (c : Then-low-high) → low_of c.args.self.words.now c.args.x.0 ≤ℤ high_of c.args.self.words.now c.args.x.0
ordered c =
    let f = fit w32 c.low_end-low.result c.low_end-low.type_inv in
    let g = fit w32 c.high_end-high.result c.high_end-high.type_inv in
    omega (arith, zz)

crossed : (c : Else-low-high) → high_of c.args.self.words.now c.args.x.0 <ℤ low_of c.args.self.words.now c.args.x.0
crossed c =
    let f = fit w32 c.low_end-low.result c.low_end-low.type_inv in
    let g = fit w32 c.high_end-high.result c.high_end-high.type_inv in
    omega (arith, zz)

pub returns-then-low-high-clause-first : goal.returns-then-low-high-clause-first
returns-then-low-high-clause-first c =
    let f = fit w32 c.low_end-low.result c.low_end-low.type_inv in
    simp to_z-of_z (rw c.low_end-low.ensures (first_is c.args.self.words.now c.args.x.0 c.args.self.formed c.requires (ordered c)))

pub returns-then-low-high-clause-last : goal.returns-then-low-high-clause-last
returns-then-low-high-clause-last c =
    let f = fit w32 c.high_end-high.result c.high_end-high.type_inv in
    simp to_z-of_z (rw c.high_end-high.ensures (last_is c.args.self.words.now c.args.x.0 c.args.self.formed c.requires (ordered c)))

pub returns-else-low-high-clause-first : goal.returns-else-low-high-clause-first
returns-else-low-high-clause-first c = no_first c.args.self.words.now c.args.x.0 (crossed c)

pub returns-else-low-high-clause-last : goal.returns-else-low-high-clause-last
returns-else-low-high-clause-last c = no_last c.args.self.words.now c.args.x.0 (crossed c)
