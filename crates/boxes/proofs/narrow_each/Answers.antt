use Rattle.std.proofs.Common.{◌≡◌, suc, ◌+◌, ◌*◌, ◌-◌, ◌∙◌, sym, arith}
use Rattle.domain.specs.Box.{variables}
use Rattle.reading.specs.At.{nat_at}
use Rattle.boxes.specs.InTurn.{turn_more, turn_none}
use Rattle.boxes.specs.Boxes.{narrowed_at, Boxed, boxed_narrowed}
use Rattle.boxes.proofs.narrow_each.Goals as goal

pub loop-i-preserved : goal.loop-i-preserved
loop-i-preserved c =
    let a = c.args in
    let log = a.log.now in
    let i = c.loop-i.i in
    let t = c.loop-i-test.true in
    let e = c.narrow_atom.ensures in
    let h : a.atoms.many - i ≡ suc (a.atoms.many - (i + 1)) = omega arith in
    let b : Boxed (variables a.cells.now) (suc (a.atoms.many - (i + 1))) c.loop-i.cells = rw h at c.loop-i.invariant.boxed in
    record {
      long = c.narrow_atom.auto.cells ∙ c.loop-i.invariant.long;
      boxed = rw e (boxed_narrowed c.loop-i.cells (nat_at log (a.atoms.from + i * 3)) _ _ b (c.requires.0 i t).named.known);
      same = rw e (c.loop-i.invariant.same ∙ turn_more (narrowed_at log) a.atoms.many a.atoms.from i c.loop-i.cells t);
    }

pub returns : goal.returns
returns c = let a = c.args in sym (c.loop-i.invariant.same ∙ turn_none (narrowed_at a.log.now) a.atoms.many a.atoms.from c.loop-i.i c.loop-i.cells c.loop-i-test.false)
