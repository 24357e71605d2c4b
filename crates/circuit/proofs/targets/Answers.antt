-- The window of values from 0 on, as far as positions go.
use Rattle.std.proofs.Common.{arith, sym, ap, subst, ◌∙◌, ◌≡◌, ◌+◌, pos}
use Rattle.std.specs.Int.Bits.{bit_and}
use Rattle.words.specs.Int.{eq_z}
use Rattle.words.specs.Lists.{member}
use Rattle.domain.specs.Box.{values}
use Rattle.circuit.specs.Mask.{Mask, mask_first}
use Rattle.circuit.proofs.targets.Goals as goal

pub returns : goal.returns
returns c =
    let m = c.mask-all.result in
    let vs = values c.args.cells.words.now c.args.x.0 in
    let w = mask_first c.args.n {p = λ j. member eq_z (pos j) vs} m (λ k l. let q : 0 + k ≡ k = omega arith in c.mask-all.ensures.bits k (omega arith) ∙ ap (λ z. member eq_z (pos z) vs) q) in
    subst (λ z. Mask c.args.n (λ j. member eq_z (pos j) vs) (bit_and m z)) (sym c.all_below.ensures) w
