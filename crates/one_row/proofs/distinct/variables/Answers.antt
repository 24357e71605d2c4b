use Rattle.std.proofs.Common.{ap, ◌∙◌}
use Rattle.std.proofs.lemmas.Result.{err_from_is_err_and}
use Rattle.reading.specs.Reasons.{number_of}
use Rattle.one_row.specs.Fresh.{first_fresh, fresh_stops, tested, fresh_twice, fresh_more}
use Rattle.one_row.proofs.distinct.variables.Goals as goal

pub loop-init : goal.loop-init
loop-init c = first_fresh c.args.v.n c.args.s.now c.args.from c.args.n

pub returns-in_err-next : goal.returns-in_err-next
returns-in_err-next c =
    let p = err_from_is_err_and c.from_residual.result c.from_residual.ensures.1 in
    rw (p.1, p.2) (fresh_stops c.loop.invariant c.loop-test.true c.in_err-next.ensures)

pub returns-then-contains : goal.returns-then-contains
returns-then-contains c = fresh_twice c.loop.invariant c.loop-test.true c.in_ok-next.ensures (ap number_of c.at.ensures.0) c.at.ensures.1 (tested c.loop.invariant c.loop-test.true c.in_ok-next.ensures c.contains.result c.contains.ensures.cases ∙ c.if-contains.true)

pub loop-preserved : goal.loop-preserved
loop-preserved c = fresh_more c.loop.invariant c.loop-test.true c.in_ok-next.ensures (tested c.loop.invariant c.loop-test.true c.in_ok-next.ensures c.contains.result c.contains.ensures.cases ∙ c.if-contains.false)
