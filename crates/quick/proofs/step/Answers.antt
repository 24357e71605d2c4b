use Rattle.std.proofs.Common.{sym, ◌+◌, Some, rules}
use Rattle.quick.specs.Ends.{step_over, Starts}
use Rattle.quick.proofs.step.Goals as goal

pub returns : goal.returns
returns c =
    let begun : Starts c.args.known.rows.n c.from-kind.result c.args.s.now (c.args.at + 1) (Some c.match-kind.from) = search rules in
    step_over c.args.known.variables.n c.args.known.rows.n c.args.known.facts.n c.from-kind.result _ c.in_ok-number.ensures (sym c.from-kind.ensures) begun c.in_ok-end.ensures c.after_fact.ensures
