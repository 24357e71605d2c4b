use Rattle.std.proofs.Common.{ℕ, ◌≡◌, ◌≤◌, List, ◌++◌, length, take, drop, ap, arith}
use Rattle.std.proofs.lemmas.List.{length-take-le}
use Rattle.std.proofs.lemmas.List.Edits.{sets}
use Rattle.model.specs.Starts.{model_starts, starts_first}
use Rattle.reading.specs.Reasons.{number_of}
use Rattle.model.specs.Stages.{Headed, no_variables, no_bounds, no_rows, headed, too_long, sound}
use Rattle.model.proofs.read_model.Goals as goal
use Rattle.model.proofs.read_model.Goals.{After-rows}

-- the rows begin where the model's head ends
head : (c : After-rows) → Headed c.args.s.now c.number_at-v.result c.number_at-c.result c.in_ok-from.from
head c = headed c.in_ok-first.ensures c.number_at-v.ensures c.in_ok-n.ensures c.in_ok-from.ensures c.number_at-c.ensures

-- they have the first entries of the table of starts
fits : (c : After-rows) → c.number_at-c.result ≤ length c.args.starts.now
fits c = omega (arith, (head c).few_rows, c.requires.1)

taken : (c : After-rows) → length (take c.number_at-c.result c.args.starts.now) ≡ c.number_at-c.result
taken c = length-take-le c.number_at-c.result c.args.starts.now (fits c)

noted : (c : After-rows) → ◌≡◌ {A = List ℕ} (c.rows.new.starts ++ drop c.number_at-c.result c.args.starts.now) (sets c.args.starts.now 0 (model_starts c.args.s.now))
noted c = rw (c.rows.ensures.noted, taken c, (head c).starts) (starts_first c.number_at-v.result c.number_at-c.result c.in_ok-from.from (drop c.in_ok-from.from c.args.s.now) c.args.starts.now (fits c))

pub returns-in_err-first-clause-noted : goal.returns-in_err-first-clause-noted
returns-in_err-first-clause-noted c = rw (no_variables c.in_err-first.ensures).1

pub returns-in_err-n-clause-noted : goal.returns-in_err-n-clause-noted
returns-in_err-n-clause-noted c = rw (no_bounds c.in_ok-first.ensures c.number_at-v.ensures c.in_err-n.ensures).1

pub returns-in_err-from-clause-noted : goal.returns-in_err-from-clause-noted
returns-in_err-from-clause-noted c = rw (no_rows c.in_ok-first.ensures c.number_at-v.ensures c.in_ok-n.ensures c.in_err-from.ensures).1

pub returns-in_err-end-clause-noted : goal.returns-in_err-end-clause-noted
returns-in_err-end-clause-noted c = noted (goal.at.returns-in_err-end-clause-noted c).After-rows

pub returns-then-more-clause-read : goal.returns-then-more-clause-read
returns-then-more-clause-read c =
    let r = (goal.at.returns-then-more-clause-read c).After-rows in
    too_long (head r) (rw (taken r) at c.in_ok-end.ensures.read) (ap number_of c.at.ensures.0) c.at.ensures.1 c.if-more.true

pub returns-then-more-clause-noted : goal.returns-then-more-clause-noted
returns-then-more-clause-noted c = noted (goal.at.returns-then-more-clause-noted c).After-rows

pub returns-clause-read : goal.returns-clause-read
returns-clause-read c =
    let r = (goal.at.returns-clause-read c).After-rows in
    sound (head r) (rw (taken r) at c.in_ok-end.ensures.read) c.if-more.false

pub returns-clause-noted : goal.returns-clause-noted
returns-clause-noted c = noted (goal.at.returns-clause-noted c).After-rows
