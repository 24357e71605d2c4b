use Rattle.engine.specs.Gate.{opens_again_so}
use Rattle.engine.proofs.may_open_again.Goals as goal

pub returns : goal.returns
returns c =
    let a = c.args in
    let r = c.dimpsyholt_recheck-again in
    let q = c.dimpsyholt_check-was in
    λ e. opens_again_so a.old.now a.new.now a.log.now a.places.now _ r.result r.ensures a.before.now _ q.result q.ensures (c.opens_again.ensures e)
