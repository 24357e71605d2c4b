use Rattle.std.proofs.Common.{arith, sym, ap, subst, ◌∙◌, ◌≡◌, ◌+◌, ◌*◌, pos, length-set}
use Rattle.words.specs.Int.{eq_z}
use Rattle.words.specs.Lists.{member}
use Rattle.domain.specs.Box.{values}
use Rattle.reading.specs.At.{nat_at, get_or_each}
use Rattle.circuit.specs.Mask.{Mask}
use Rattle.circuit.specs.Reach.{rows_more}
use Rattle.circuit.proofs.links_of.Goals as goal

pub loop-i-preserved : goal.loop-i-preserved
loop-i-preserved c =
    let l = c.loop-i in
    let a = c.args in
    let q : a.p + l.i * 1 ≡ a.p + l.i = omega arith in
    let e = c.variable_at-x.ensures ∙ ap (nat_at a.model.now) (sym q) ∙ sym (get_or_each nat_at 1 a.n a.model.now a.p l.i 0 (omega arith)) in (
      length-set l.table l.i c.targets.result ∙ l.invariant.0,
      rows_more _ _ l.i l.table (omega arith) l.invariant.1
          (subst (λ x. Mask a.n (λ j. member eq_z (pos j) (values a.cells.words.now x)) c.targets.result) e c.targets.ensures),
    )
