use Rattle.std.proofs.Common.{length, sym, ◌∙◌}
use Rattle.std.proofs.lemmas.Result.{err_from_is_err_and}
use Rattle.reading.specs.Over.{turn_refused, turn_more, is_over, found}
use Rattle.model.specs.Back.{row_back}
use Rattle.model.specs.Starts.{starts_more, starts_stop, starts_none}
use Rattle.model.proofs.rows.rows.Goals as goal

pub returns-in_err-at-clause-read : goal.returns-in_err-at-clause-read
returns-in_err-at-clause-read c =
    let p = err_from_is_err_and c.from_residual.result c.from_residual.ensures.1 in
    rw (p.1, p.2) (turn_refused c.loop-start.invariant.0 c.loop-start-test.true c.in_err-at.ensures)

pub returns-in_err-at-clause-noted : goal.returns-in_err-at-clause-noted
returns-in_err-at-clause-noted c = sym (c.loop-start.invariant.2 ∙ starts_stop c.args.v.n c.args.s.now (length c.args.starts.now) c.loop-start.starts c.loop-start.start-index c.loop-start.at c.loop-start-test.true (sym c.in_err-at.ensures.told))

pub loop-start-preserved : goal.loop-start-preserved
loop-start-preserved c =
    let h = c.in_ok-at.ensures in (
      turn_more c.loop-start.invariant.0 c.loop-start-test.true h,
      (found h (row_back c.args.v.n)).fits c.loop-start.invariant.1,
      c.loop-start.invariant.2 ∙ starts_more c.args.v.n c.args.s.now (length c.args.starts.now) c.loop-start.starts c.loop-start.start-index c.loop-start.at c.loop-start-test.true (is_over h),
    )

pub returns-clause-noted : goal.returns-clause-noted
returns-clause-noted c = sym (c.loop-start.invariant.2 ∙ starts_none c.args.v.n c.args.s.now (length c.args.starts.now) c.loop-start.starts c.loop-start.start-index c.loop-start.at c.loop-start-test.false)
