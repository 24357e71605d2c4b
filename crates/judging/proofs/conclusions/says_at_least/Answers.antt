use Rattle.std.proofs.Common.{◌≡◌, false}
use Rattle.std.proofs.Math.Facts.{to_z-of_z}
use Rattle.meaning.specs.Judge.{says_at_least}
use Rattle.steps.specs.Facts.{fact_of}
use Rattle.judging.specs.Conclusions.{least_so, least_else}
use Rattle.judging.proofs.conclusions.says_at_least.Goals as goal

pub returns-then-fact-eq1 : goal.returns-then-fact-eq1
returns-then-fact-eq1 c =
    let h = c.if-fact-eq1.true in
    let fits = c.ranges.value in
    rw (least_so c.args.log.now c.args.fact c.args.x.0 c.args.value h.0 h.1) (simp to_z-of_z at c.is_at_least.ensures)

pub returns-else-fact-eq1 : goal.returns-else-fact-eq1
returns-else-fact-eq1 c =
    let e : says_at_least c.args.x.0 c.args.value (fact_of c.args.log.now c.args.fact) ≡ false = least_else c.args.log.now c.args.fact c.args.x.0 c.args.value c.if-fact-eq1.either c.requires.so.one in
    cc
