use Rattle.std.proofs.Common.{arith, ◌∙◌}
use Rattle.amend.specs.Compared.{Known, known, other_variables, other_bound, fitting}
use Rattle.amend.proofs.compare.Goals as goal
use Rattle.amend.proofs.compare.Goals.{In-Ok}

-- the old model, of so many variables and rows
was : (c : In-Ok) → Known c.args.old.now c.in-Ok.was.starts.now c.in-Ok.was.variables c.in-Ok.was.rows
was c = known (omega (arith, c.if-too_long.false)) c.in-Ok.ensures.read c.in-Ok.was.planned

pub returns-then-was-new : goal.returns-then-was-new
returns-then-was-new c = other_variables (was (goal.at.returns-then-was-new c).In-Ok) c.args.new.planned c.if-was-new.true

pub returns-then-not-same_words : goal.returns-then-not-same_words
returns-then-not-same_words c = other_bound (was (goal.at.returns-then-not-same_words c).In-Ok) c.args.new.planned c.if-was-new.false c.same_words.ensures c.if-not-same_words.true

pub returns : goal.returns
returns c =
    let f = fitting (was (goal.at.returns c).In-Ok) c.args.new.planned c.if-was-new.false c.same_words.ensures c.if-not-same_words.false c.if-was-new-2.false in
    (f.0, rw c.in-Ok.ensures.read.0 at c.changed_rows.ensures ∙ f.1)
