-- The ends move to values that are left, or a value between them becomes a hole.
use Rattle.std.proofs.Common.{◌∙◌, sym, pos, to_z-of_z}
use Rattle.std.specs.Prelude.{refl}
use Rattle.domain.specs.Relations.{same_relation, last_relation}
use Rattle.domain.specs.declared.relation.Relation.TheVariants.{AtMost, AtLeast, Equal}
use Rattle.narrowing.proofs.NarrowFacts.{narrowed_at_most, narrowed_at_least, narrowed_equal, narrowed_not_equal}
use Rattle.narrowing.proofs.narrow.Goals as goal

pub returns-then-eq : goal.returns-then-eq
returns-then-eq c =
    let f = c.ranges.value in
    let q = same_relation c.args.relation AtMost (sym c.eq.ensures ∙ c.if-eq.true) in
    rw q (simp to_z-of_z at c.squeeze.ensures ∙ narrowed_at_most c.args.cells.now c.args.x.0 (pos 1) c.args.value refl)

pub returns-then-eq-2 : goal.returns-then-eq-2
returns-then-eq-2 c =
    let f = c.ranges.value in
    let q = same_relation c.args.relation AtLeast (sym c.eq-else-eq.ensures ∙ c.if-eq-2.true) in
    rw q (simp to_z-of_z at c.squeeze-then-eq-2.ensures ∙ narrowed_at_least c.args.cells.now c.args.x.0 (pos 2) c.args.value refl)

pub returns-then-eq-3 : goal.returns-then-eq-3
returns-then-eq-3 c =
    let f = c.ranges.value in
    let q = same_relation c.args.relation Equal (sym c.eq-else-eq-2.ensures ∙ c.if-eq-3.true) in
    rw q (simp to_z-of_z at c.only.ensures ∙ narrowed_equal c.args.cells.now c.args.x.0 (pos 3) c.args.value refl)

pub returns-else-eq-3 : goal.returns-else-eq-3
returns-else-eq-3 c =
    let f = c.ranges.value in
    let q = last_relation c.args.relation (sym c.eq.ensures ∙ c.if-eq.false) (sym c.eq-else-eq.ensures ∙ c.if-eq-2.false) (sym c.eq-else-eq-2.ensures ∙ c.if-eq-3.false) in
    rw q (simp to_z-of_z at c.exclude.ensures ∙ narrowed_not_equal c.args.cells.now c.args.x.0 (pos 4) c.args.value refl refl refl)
