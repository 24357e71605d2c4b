use Rattle.std.proofs.Common.{◌+◌, ◌*◌, ◌∙◌, refl, rules, tests, arith}
use Rattle.std.proofs.lemmas.Iterator.{YieldsList-from_range}
use Rattle.std.proofs.lemmas.Iterator.Search.{any_from_yields_List}
use Rattle.boxes.specs.InTurn.{some_in_turn}
use Rattle.boxes.specs.Boxes.{empty_at}
use Rattle.boxes.proofs.is_empty_each.Goals as goal

pub returns : goal.returns
returns c =
    let a = c.args in
    any_from_yields_List (λ i. empty_at a.log.now (a.atoms.from + i * 3) a.cells.words.now) _ _ _ c.any.ensures.ran (YieldsList-from_range 0 a.atoms.many a.atoms.many refl (omega arith)) (λ x b q k. search (rules, tests))
    ∙ some_in_turn (λ p. empty_at a.log.now p a.cells.words.now) a.atoms.from a.atoms.many
