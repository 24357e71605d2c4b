use Rattle.std.proofs.Common.{map}
use Rattle.std.proofs.lemmas.Result.{err_from_is_err_and}
use Rattle.meaning.specs.Box.{box_of}
use Rattle.meaning.specs.Check.{fact_at}
use Rattle.model.specs.Planned.{model_of}
use Rattle.reading.specs.At.{nat_at, each_at}
use Rattle.steps.specs.Facts.{made_fact, fact_of}
use Rattle.judging.specs.Judged.{asked_of_declared, full_variables, full_holds, full_boxed, empty_deduced, hints_deduced}
use Rattle.judging.proofs.deductions.deduction.Goals as goal

pub returns-in_err-fill_box : goal.returns-in_err-fill_box
returns-in_err-fill_box c =
    let a = c.args in
    let h = c.in_err-fill_box.ensures in
    let p = err_from_is_err_and c.from_residual.result c.from_residual.ensures.1 in
    rw (p.1, p.2, h.told.1, h.told.2) (empty_deduced (asked_of_declared c.requires.0 c.requires.2 c.requires.4) (fact_at (map (made_fact a.log.now) a.places.now)) (each_at nat_at 1 a.hints.many a.log.now a.hints.from) (rw h.filled at h.told.0))

pub follow-requires : goal.follow-requires
follow-requires c =
    let p = c.requires in
    let h = c.in_ok-fill_box.ensures in
    let g = asked_of_declared p.0 p.2 p.4 in
    let e = full_variables g in
    rw (h.filled, e) (p.1, p.3, full_boxed g c.args.hints.many p.3.few)

pub returns : goal.returns
returns c =
    let p = c.requires in
    let a = c.args in
    let h = c.in_ok-fill_box.ensures in
    let g = asked_of_declared p.0 p.2 p.4 in
    hints_deduced g (fact_at (map (made_fact a.log.now) a.places.now)) (each_at nat_at 1 a.hints.many a.log.now a.hints.from) (rw h.filled at h.told) _
    (c.follow.ensures (model_of a.model.now).bounds (box_of (fact_of a.log.now a.fact)) (rw (h.filled, full_variables g) g.plan.variables) (rw h.filled (full_holds g a.hints.many p.3.few)))
