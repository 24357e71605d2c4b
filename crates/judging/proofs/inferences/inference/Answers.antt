use Rattle.std.proofs.Common.{◌∙◌, sym, arith, true, false}
use Rattle.std.proofs.lemmas.Result.{err_from_is_err_and}
use Rattle.judging.specs.Judged.{asked_of, full_formed, full_variables, ready, empty_so, row_so}
use Rattle.judging.proofs.inferences.inference.Goals as goal

pub returns-in_err-fill_box : goal.returns-in_err-fill_box
returns-in_err-fill_box c =
    let h = c.in_err-fill_box.ensures in
    let p = err_from_is_err_and c.from_residual.result c.from_residual.ensures.1 in
    rw (p.1, p.2, h.told.1, h.told.2) (empty_so (asked_of c.args.plan.planned c.requires.1 c.requires.2) c.args.r.0 (rw h.filled at h.told.0))

pub invariant_of-cells : goal.invariant_of-cells
invariant_of-cells c = record { formed = rw c.in_ok-fill_box.ensures.filled (full_formed (asked_of c.args.plan.planned c.requires.1 c.requires.2)) }

pub invariant_of-ready : goal.invariant_of-ready
invariant_of-ready c =
    let h = c.in_ok-fill_box.ensures in
    record { ready = rw h.filled (ready (asked_of c.args.plan.planned c.requires.1 c.requires.2) (rw h.filled at h.told)) }

pub row_conflicts-requires : goal.row_conflicts-requires
row_conflicts-requires c =
    let p = c.args.plan.planned in
    let h = c.in_ok-fill_box.ensures in
    let g = asked_of p c.requires.1 c.requires.2 in
    rw (h.filled, full_variables g) (p.row_in c.args.r.0 c.requires.0, g.known, omega (arith, p.few_variables))

pub returns-then-row_conflicts : goal.returns-then-row_conflicts
returns-then-row_conflicts c =
    let p = c.args.plan.planned in
    let h = c.in_ok-fill_box.ensures in
    row_so (asked_of p c.requires.1 c.requires.2) c.args.r.0 (rw h.filled at h.told) _ (p.row_is c.args.r.0 c.requires.0) true (rw h.filled at (sym c.if-row_conflicts.true ∙ c.row_conflicts.ensures))

pub returns : goal.returns
returns c =
    let p = c.args.plan.planned in
    let h = c.in_ok-fill_box.ensures in
    rw (c.at.ensures.0, c.at.ensures.1) (row_so (asked_of p c.requires.1 c.requires.2) c.args.r.0 (rw h.filled at h.told) _ (p.row_is c.args.r.0 c.requires.0) false (rw h.filled at (sym c.if-row_conflicts.false ∙ c.row_conflicts.ensures)))
