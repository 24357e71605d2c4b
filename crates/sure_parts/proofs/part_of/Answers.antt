use Rattle.std.proofs.Common.{rules, ◌+◌, ◌≡◌, ◌∙◌, ap, get_or, pos, ◌+ℤ◌, arith, SFits}
use Rattle.std.specs.Int.{w32}
use Rattle.std.proofs.lemmas.Int.{to_z-of_z}
use Rattle.words.specs.Int.{zz, fit}
use Rattle.words.specs.Lists.{least, largest}
use Rattle.sure_parts.specs.Parts.{ending}
use Rattle.reading.specs.At.{nat_at}
use Rattle.model.specs.Rows.{activity_at}
use Rattle.domain.specs.Box.{values}
use Rattle.sure_parts.specs.Sizes.{small_fits}
use Rattle.sure_parts.specs.Fill.{signless, ending_small}
use Rattle.sure_parts.proofs.part_of.Goals as goal

-- the end of the sure part is a word
ended : (c : goal.After-least) → (c.least.result ≡ least (values c.args.ready.cells.words.now (nat_at c.args.model.now c.args.at))) × SFits w32 (c.least.result +ℤ get_or c.args.model.now (c.args.at + 1) (pos 0))
ended c =
    let m = c.args.model.now in
    let d = values c.args.ready.cells.words.now in
    let e : c.least.result ≡ least (d (nat_at m c.args.at)) = c.least.ensures ∙ ap (λ x. least (d x)) c.variable_at-x.ensures in
    let b = ending_small d c.args.ready.ready.small _ m c.args.at c.requires in
    let l = c.requires.lasting in
    let q = signless (get_or m (c.args.at + 1) (pos 0)) (omega (arith, zz)) in
    (e, rw (e, ← q) (small_fits (ending d (activity_at m c.args.at)) (omega (arith, zz))))

pub overflow_add-until : goal.overflow_add-until
overflow_add-until c =
    let f : SFits w32 (get_or c.args.model.now (c.args.at + 1) (pos 0)) = search rules in
    let g = fit w32 c.least.result c.least.type_inv in
    simp to_z-of_z (ended c).1

pub returns : goal.returns
returns c =
    let m = c.args.model.now in
    let d = values c.args.ready.cells.words.now in
    let f : SFits w32 (get_or m (c.args.at + 1) (pos 0)) = search rules in
    let g : SFits w32 (get_or m (c.args.at + 2) (pos 0)) = search rules in
    let h = fit w32 c.least.result c.least.type_inv in
    let i = fit w32 c.largest-from.result c.largest-from.type_inv in
    let j = (ended c).1 in
    let l = c.requires.lasting in
    let e : c.largest-from.result ≡ largest (d (nat_at m c.args.at)) = c.largest-from.ensures ∙ ap (λ x. largest (d x)) c.variable_at-x.ensures in
    simp to_z-of_z (rw (signless (get_or m (c.args.at + 1) (pos 0)) (omega (arith, zz)), signless (get_or m (c.args.at + 2) (pos 0)) c.requires.uses.0, e, (ended c).0))
