use Rattle.std.proofs.Common.{◌+◌, ◌*◌, ◌-◌, ◌∙◌, sym, ap}
use Rattle.marks.specs.Marks.{added}
use Rattle.boxes.specs.InTurn.{turn_more, turn_none}
use Rattle.boxes.specs.Occurrences.{marked_at, marked_each}
use Rattle.boxes.proofs.occurrences.mark_each.Goals as goal

pub loop-i-preserved : goal.loop-i-preserved
loop-i-preserved c =
    let a = c.args in
    let i = c.loop-i.i in
    let e = c.add.ensures ∙ ap (λ x. added c.loop-i.set x) c.number_at-x.ensures in
    record {
      long = c.add.auto.set ∙ c.loop-i.invariant.long;
      same = c.loop-i.invariant.same ∙ turn_more (marked_at a.log.now) a.atoms.many a.atoms.from i c.loop-i.set c.loop-i-test.true ∙ ap (marked_each a.log.now (a.atoms.many - (i + 1)) (a.atoms.from + (i + 1) * 3)) (sym e);
    }

pub returns : goal.returns
returns c = let a = c.args in sym (c.loop-i.invariant.same ∙ turn_none (marked_at a.log.now) a.atoms.many a.atoms.from c.loop-i.i c.loop-i.set c.loop-i-test.false)
