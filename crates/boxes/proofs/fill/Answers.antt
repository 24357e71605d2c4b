use Rattle.std.proofs.Common.{◌+◌, arith}
use Rattle.meaning.specs.Limits.{most_premises}
use Rattle.boxes.specs.Boxes.{Boxed, boxed_loaded, boxed_each, boxed_less}
use Rattle.boxes.proofs.fill.Goals as goal
use Rattle.boxes.proofs.fill.Goals.{After-load}

-- the box after the declared bounds has a place for each premise and the consequent
loaded_box : (c : After-load) → Boxed c.args.v (most_premises + 1) c.load.new.cells
loaded_box c = let a = c.args in rw c.load.ensures (boxed_loaded a.model.now 1 a.v (most_premises + 1) a.cells.now (omega (arith, c.requires.3)) (omega arith))

pub narrow_each-requires : goal.narrow_each-requires
narrow_each-requires c =
    let i = c.requires.2 in
    let b = loaded_box (goal.at.narrow_each-requires c).After-load in
    (rw b.counted i.premise, b.formed, (boxed_less c.args.fact.premises.many (omega (arith, i.few)) b).room)

-- the box after the premises has one for the consequent
pub narrow_then-requires : goal.narrow_then-requires
narrow_then-requires c =
    let a = c.args in
    let i = c.requires.2 in
    let b = loaded_box (goal.at.narrow_then-requires c).After-load in
    let p : Boxed a.v 1 c.narrow_each.new.cells = rw c.narrow_each.ensures (boxed_each a.log.now a.fact.premises.many a.fact.premises.from 1 _ i.premise (boxed_less (a.fact.premises.many + 1) (omega (arith, i.few)) b)) in
    (i.one, rw p.counted i.consequence, p.formed, p.room)
