use Rattle.std.proofs.Common.{◌<◌, arith}
use Rattle.std.proofs.lemmas.List.{get_or-take, length-take-le}
use Rattle.reading_cases.specs.Cases.{rows_begin}
use Rattle.reading_cases.proofs.show.good.Goals as goal

pub row_size-size-requires : goal.row_size-size-requires
row_size-size-requires g c =
    let plan = c.args.plan in
    let h : c.loop-start.start-index < plan.rows = omega (arith, length-take-le plan.rows plan.starts.now plan.planned.noted) in
    rw get_or-take ((rows_begin plan.planned).1 c.loop-start.start-index h)
