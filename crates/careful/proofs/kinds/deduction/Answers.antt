use Rattle.meaning.specs.Limits.{most_hints}
use Rattle.reading.specs.Over.{goes_any, gives, counts}
use Rattle.careful.proofs.Exits.{exits}
use Rattle.careful.proofs.kinds.deduction.Goals as goal

pub returns-in_err-end : goal.returns-in_err-end
returns-in_err-end c = exits _ c.in_err-end.ensures c.from_residual.ensures.1

pub returns : goal.returns
returns c =
    goes_any c.in_ok-end.ensures _
    (λ f. counts 11 12 0 most_hints c.in_ok-first.ensures c.number_at-many.ensures _ (gives _ c.hints.ensures))
