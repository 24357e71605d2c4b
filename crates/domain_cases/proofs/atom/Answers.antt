use Rattle.std.proofs.Common.{◌<◌, sym, ◌∙◌, arith, negsuc, pos, to_z-of_z}
use Rattle.words.specs.Int.{zz}
use Rattle.domain.specs.Sets.{in_ends}
use Rattle.domain.specs.Box.{variables}
use Rattle.narrowing.specs.Narrow.{Room}
use Rattle.narrowing.proofs.NarrowFacts.{narrowed_formed}
use Rattle.domain_cases.proofs.atom.Goals as goal

pub narrow_not-requires : goal.narrow_not-requires
narrow_not-requires c =
    let v = c.ranges.value in
    let k : Room c.args.cells.now 1 × (c.number.result < variables c.args.cells.now) = c.ready.ensures c.if-not-ready.false in
    let e = in_ends (negsuc 999999) (pos 1000000) c.args.value (simp to_z-of_z at (sym c.in_range.ensures ∙ c.if-not-in_range.false)) in
    let l = e.0 in
    let h = e.1 in
    simp to_z-of_z (c.requires, k.0, k.1, omega (arith, zz), omega (arith, zz))

pub returns-then-in_range : goal.returns-then-in_range
returns-then-in_range c =
    let k : Room c.args.cells.now 1 × (c.number.result < variables c.args.cells.now) = c.ready.ensures c.if-not-ready.false in
    rw c.narrow_not.ensures (narrowed_formed _ _ _ _ k.0 c.requires k.1)

pub returns-else-in_range : goal.returns-else-in_range
returns-else-in_range c =
    let k : Room c.args.cells.now 1 × (c.number.result < variables c.args.cells.now) = c.ready.ensures c.if-not-ready.false in
    rw c.narrow.ensures (narrowed_formed _ _ _ _ k.0 c.requires k.1)
