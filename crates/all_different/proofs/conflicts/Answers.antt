use Rattle.std.proofs.Common.{sym, subst, ◌+◌, ◌<◌, ℕ}
use Rattle.words.specs.Lists.{All}
use Rattle.marks.specs.Marks.{marked}
use Rattle.reading.specs.At.{nat_at}
use Rattle.domain.specs.Box.{variables}
use Rattle.all_different.specs.Chosen.{chosen_known}
use Rattle.all_different.proofs.conflicts.Goals as goal

pub crowded-requires : goal.crowded-requires
crowded-requires c =
    let a = c.args in
    subst (All (λ (x : ℕ). x < variables a.ready.cells.words.now)) (sym c.choose-chosen.ensures) (chosen_known (marked a.occurring.now) (nat_at a.model.now a.p) a.model.now (a.p + 1) c.requires.1)
