-- The rows that are lent are the first n of the table.
use Rattle.std.proofs.Common.{ap, rules, ◌∙◌, ◌+◌, ◌≤◌, length, take}
use Rattle.std.proofs.lemmas.List.{length-take-le}
use Rattle.meaning.specs.Rule.{trapped}
use Rattle.domain.specs.Box.{values}
use Rattle.reading.specs.At.{nat_at, each_at, length_each}
use Rattle.circuit.specs.Reach.{links_cut}
use Rattle.circuit.specs.Trap.{told_trapped}
use Rattle.circuit.proofs.conflicts.Goals as goal

pub returns : goal.returns
returns c =
    let a = c.args in
    let n = c.number_at-n.result in
    let t = c.links_of-links.result in
    let h : n ≤ length t = search rules in
    let xs = each_at nat_at 1 n a.model.now (a.p + 1) in
    told_trapped (values a.cells.words.now) xs (take n t) (length_each nat_at 1 n a.model.now (a.p + 1)) (links_cut _ n t c.links_of-links.ensures) (rw (length-take-le n t h) at c.splits.ensures)
    ∙ ap (λ k. trapped (values a.cells.words.now) (each_at nat_at 1 k a.model.now (a.p + 1))) c.number_at-n.ensures
