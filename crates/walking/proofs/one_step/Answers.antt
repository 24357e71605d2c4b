-- Each return is a case of OneStep: the step could not be read; it failed its rule; it passed.
use Rattle.std.proofs.Common.{true, length, map, sym, ◌∙◌, add-one, arith}
use Rattle.std.proofs.lemmas.Result.{err_from_is_err_and}
use Rattle.meaning.specs.Limits.{most_rows}
use Rattle.steps.specs.Facts.{made_fact}
use Rattle.steps.specs.Told.{step_of}
use Rattle.steps.specs.Laws.{stepped, Unread, unread}
use Rattle.reading.specs.Reasons.{number_of}
use Rattle.row_set.specs.Whole.{whole_in, set_in}
use Rattle.walking.specs.Told.{held_by, say_by}
use Rattle.model.specs.Planned.{model_of}
use Rattle.walking.specs.FromStep.{state_at}
use Rattle.walking.specs.OneStep.{not_read, has_failed, has_passed, held_fails, reach, Reached, refused_so, row_below, held_any, Turned, held_turn, waved_turn}
use Rattle.walking.proofs.one_step.Goals as goal
use Rattle.walking.proofs.one_step.Goals.{After-unwrap_err, After-step_at-step, After-after_passing, then-held+in_ok-judge, else-held}

-- ---- a step that could not be read

not_well : (c : After-unwrap_err) → Unread c.args.plan.variables c.args.plan.rows (length c.args.passed.now) c.args.log.now c.args.at (number_of c.unwrap_err.result.reason) c.unwrap_err.result.position
not_well c = unread (rw c.unwrap_err.ensures at c.read_step-read.ensures)

pub returns-in_default-clause-moved : goal.returns-in_default-clause-moved
returns-in_default-clause-moved c =
    let a = c.args in
    let l = a.log.now in
    let p = a.plan.planned in
    let m = model_of a.plan.words.now in
    let w = whole_in a.changed in
    not_read (held_by w (set_in a.changed)) (say_by w) m l (state_at (made_fact l) a.passed.now a.judged.now) (length a.passed.now) a.at c.if-at-log.false (refused_so m p.variables p.rows (not_well (goal.at.returns-in_default-clause-moved c).After-unwrap_err))

pub returns-in_default-clause-leads : goal.returns-in_default-clause-leads
returns-in_default-clause-leads c = omega (arith, (not_well (goal.at.returns-in_default-clause-leads c).After-unwrap_err).inside c.requires.3)

-- ---- the step was read over

-- what is known of it from then on
read_well : (c : After-step_at-step) → Reached (model_of c.args.plan.words.now) c.args.plan.variables c.args.plan.rows c.args.log.now (length c.args.passed.now) c.args.at c.step_at-step.result c.in-Ok.next
read_well c =
    let p = c.args.plan.planned in
    reach (model_of c.args.plan.words.now) p.variables p.rows (omega arith) c.if-at-log.false (stepped c.in-Ok.ensures) c.step_at-step.ensures

pub step_at-step-requires : goal.step_at-step-requires
step_at-step-requires c = (stepped c.in-Ok.ensures).stands

pub is_held-held-requires : goal.is_held-held-requires
is_held-held-requires c =
    let a = c.args in
    let g = read_well (goal.at.is_held-held-requires c).After-step_at-step in
    row_below a.plan.variables a.plan.rows (length a.passed.now) a.log.now c.step_at-step.result most_rows a.plan.planned.few_rows g.parts

pub judge-requires : goal.judge-requires
judge-requires c = (c.requires.0, (read_well (goal.at.judge-requires c).After-step_at-step).parts, c.requires.1)

-- a step that is held and fails its rule
pub returns-in_err-judge-clause-moved : goal.returns-in_err-judge-clause-moved
returns-in_err-judge-clause-moved c =
    let a = c.args in
    let l = a.log.now in
    let m = model_of a.plan.words.now in
    let w = whole_in a.changed in
    let h = c.is_held-held in
    let t = c.step_at-step.result in
    let g = read_well (goal.at.returns-in_err-judge-clause-moved c).After-step_at-step in
    let p = err_from_is_err_and c.from_residual.result c.from_residual.ensures.1 in
    rw (p.1, p.2, add-one)
    (has_failed (held_by w (set_in a.changed)) (say_by w) m l (state_at (made_fact l) a.passed.now a.judged.now) (length a.passed.now) a.at g.below t c.in-Ok.next g.reads
    true (held_any w (set_in a.changed) l t ∙ sym h.ensures ∙ c.if-held.true) (sym c.in_err-judge.ensures))

pub returns-in_err-judge-clause-leads : goal.returns-in_err-judge-clause-leads
returns-in_err-judge-clause-leads c =
    let g = read_well (goal.at.returns-in_err-judge-clause-leads c).After-step_at-step in
    let p = err_from_is_err_and c.from_residual.result c.from_residual.ensures.1 in
    let few = held_fails g true _ (sym c.in_err-judge.ensures) in
    rw (p.1, p.2) (omega (arith, few))

-- one that passed
turned : (c : After-after_passing) → Turned (model_of c.args.plan.words.now) (map (made_fact c.args.log.now) c.args.passed.now) (step_of c.args.log.now c.step_at-step.result) c.is_held-held.result c.args.judged.now c.if-held.judged
turned c =
    elim c.if-held.branch [
      | then-held+in_ok-judge w ↦ held_turn _ _ _ w.if-held.true w.judged-is w.in_ok-judge.ensures
      | else-held w ↦ waved_turn _ _ _ w.if-held.false w.judged-is
    ]

pub returns-clause-moved : goal.returns-clause-moved
returns-clause-moved c =
    let a = c.args in
    let l = a.log.now in
    let m = model_of a.plan.words.now in
    let w = whole_in a.changed in
    let h = c.is_held-held in
    let t = c.step_at-step.result in
    let g = read_well (goal.at.returns-clause-moved c).After-step_at-step in
    let d = turned (goal.at.returns-clause-moved c).After-after_passing in
    rw (c.after_passing.ensures, d.judged)
    (has_passed (held_by w (set_in a.changed)) (say_by w) m l (state_at (made_fact l) a.passed.now a.judged.now) (length a.passed.now) a.at g.below t c.in-Ok.next g.reads
    h.result (held_any w (set_in a.changed) l t ∙ sym h.ensures) g.made d.passes)

pub returns-clause-leads : goal.returns-clause-leads
returns-clause-leads c = rw c.after_passing.ensures (read_well (goal.at.returns-clause-leads c).After-step_at-step).leads
