use Rattle.std.proofs.Common.{sym, ◌∙◌}
use Rattle.reading_cases.specs.Cases.{made_begins}
use Rattle.reading_cases.proofs.show.again.Goals as goal

pub made_fact_at-requires : goal.made_fact_at-requires
made_fact_at-requires g c = let made = c.in-Ok-Inference-default in made_begins _ _ _ made.ensures.read (sym made.field-0-0-is ∙ made.ensures.placed)
