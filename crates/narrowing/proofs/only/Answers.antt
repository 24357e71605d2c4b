-- The value is left, or nothing is.
use Rattle.std.proofs.Common.{sym, ap, ◌∙◌, to_z-of_z}
use Rattle.domain.specs.Sets.{only_has, only_not}
use Rattle.domain.specs.Box.{values}
use Rattle.narrowing.specs.Narrow.{bounded}
use Rattle.narrowing.proofs.only.Goals as goal

pub returns-then-has : goal.returns-then-has
returns-then-has c =
    let f = c.ranges.value in
    simp to_z-of_z at c.put.ensures
    ∙ ap (λ m. bounded c.args.cells.now c.args.x.0 m m) (sym (only_has c.args.value (values c.args.cells.now c.args.x.0) (simp to_z-of_z at (sym c.has.ensures ∙ c.if-has.true))))

pub returns-else-has : goal.returns-else-has
returns-else-has c =
    let f = c.ranges.value in
    c.put-else-has.ensures
    ∙ ap (λ m. bounded c.args.cells.now c.args.x.0 m m) (sym (only_not c.args.value (values c.args.cells.now c.args.x.0) (simp to_z-of_z at (sym c.has.ensures ∙ c.if-has.false))))
