use Rattle.std.proofs.Common.{length}
use Rattle.row_set.specs.Whole.{whole_in, set_in}
use Rattle.checker.specs.Checks.{rechecks_refused, rechecks_open}
use Rattle.checker.proofs.recheck.Goals as goal

pub returns-in-Err : goal.returns-in-Err
returns-in-Err c =
    let a = c.args in
    rechecks_refused a.old.now a.new.now a.log.now (length a.places.now) a.places.now c.in-Err.ensures.0 c.refused.ensures

-- the walk began
pub returns-in-Ok : goal.returns-in-Ok
returns-in-Ok c =
    let a = c.args in
    let set = c.compare-set.result in
    rechecks_open a.old.now a.new.now a.log.now (length a.places.now) c.in-Ok.plan c.in-Ok.ensures (whole_in set) (set_in set) c.rows_reported.result c.walk-w.result a.places.now c.walk-w.new.places c.compare-set.ensures c.rows_reported.ensures c.walk-w.ensures
