use Rattle.std.proofs.Common.{rules}
use Rattle.std.proofs.lemmas.Result.{err_from_is_err_and}
use Rattle.reading.specs.Turns.{turn_over, turn_stops, turns_end}
use Rattle.reading.proofs.times.Goals as goal

pub returns-in_err-at : goal.returns-in_err-at
returns-in_err-at g c =
    let p = err_from_is_err_and c.from_residual.result c.from_residual.ensures.1 in
    c.loop.invariant.1 _ (rw (p.1, p.2) (turn_stops _ _ c.loop-test.true c.in_err-at.ensures))

pub loop-preserved : goal.loop-preserved
loop-preserved g c = (search rules, λ p t. c.loop.invariant.1 p (turn_over _ _ _ c.loop-test.true c.in_ok-at.ensures t))

pub returns : goal.returns
returns g c = c.loop.invariant.1 _ (turns_end _ c.loop-test.false _)
