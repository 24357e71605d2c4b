use Rattle.std.proofs.Common.{arith}
use Rattle.meaning.specs.Limits.{most_premises}
use Rattle.reading.specs.Over.{goes_any, gives, ranged, counts}
use Rattle.careful.specs.Same.{then_turns}
use Rattle.careful.proofs.Exits.{exits}
use Rattle.careful.proofs.facts.fact.Goals as goal

pub returns-in_err-end : goal.returns-in_err-end
returns-in_err-end c = counts 11 12 0 most_premises c.in_ok-premises.ensures c.number_at-count.ensures _ (exits _ c.in_err-end.ensures c.from_residual-in_err-end.ensures.1)

pub returns-in_err-consequent : goal.returns-in_err-consequent
returns-in_err-consequent c =
    counts 11 12 0 most_premises c.in_ok-premises.ensures c.number_at-count.ensures _
    (goes_any c.in_ok-end.ensures _ (λ ps. exits _ c.in_err-consequent.ensures c.from_residual-in_err-consequent.ensures.1))

pub returns : goal.returns
returns c =
    let b = ranged 11 12 0 1 c.in_ok-consequent.ensures in
    counts 11 12 0 most_premises c.in_ok-premises.ensures c.number_at-count.ensures _
    (goes_any c.in_ok-end.ensures _
    (λ ps. counts 11 12 0 1 c.in_ok-consequent.ensures c.number_at-then.ensures _
    (gives _ (then_turns c.args.v.n c.number_at-then.result (omega (arith, c.number_at-then.ensures, b.upto)) c.atoms-2.ensures))))
