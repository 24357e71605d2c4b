use Rattle.std.proofs.Common.{sym, arith}
use Rattle.reading.specs.Over.{ranged, counts}
use Rattle.reading.specs.Kinds.{is_linear, is_cumulative}
use Rattle.one_row.specs.Fresh.{kinds_alike}
use Rattle.one_row.proofs.row.Goals as goal

pub returns-in-Linear : goal.returns-in-Linear
returns-in-Linear c =
    let k = is_linear c.number_at.result (sym c.in-Linear.ensures) in
    counts 4 5 1 4 c.in_ok-next.ensures c.number_at.ensures _ (rw k c.row.ensures)

pub returns-in-Cumulative : goal.returns-in-Cumulative
returns-in-Cumulative c =
    let k = is_cumulative c.number_at.result (sym c.in-Cumulative.ensures) in
    counts 4 5 1 4 c.in_ok-next.ensures c.number_at.ensures _ (rw k c.row-in-Cumulative.ensures)

pub returns-in-AllDifferent : goal.returns-in-AllDifferent
returns-in-AllDifferent c =
    let b = ranged 4 5 1 4 c.in_ok-next.ensures in
    counts 4 5 1 4 c.in_ok-next.ensures c.number_at.ensures _ (kinds_alike c.args.v.n c.number_at.result (omega (arith, c.number_at.ensures, b.from)) (rw c.from.ensures at c.in-AllDifferent.is) c.row-in-AllDifferent.ensures)
