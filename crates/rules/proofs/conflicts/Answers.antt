-- The row's kind picks the rule; each rule speaks of the words after the kind.
use Rattle.std.proofs.Common.{sym, ap, ◌∙◌, ◌≡◌, ◌+◌, ℕ, Bool}
use Rattle.std.proofs.Math.Path.{fun_ext}
use Rattle.words.specs.Lists.{keep}
use Rattle.meaning.specs.Rule.{crowded}
use Rattle.domain.specs.Box.{variables, values}
use Rattle.reading.specs.At.{nat_at, each_at}
use Rattle.reading.specs.Kinds.{row_kind, is_all_different}
use Rattle.reading.specs.declared.kinds.RowKind.TheVariants as row
use Rattle.rules.specs.Kinds.{linear_known, all_different_known, cumulative_known, circuit_known}
use Rattle.rules.proofs.conflicts.Goals as goal
use Rattle.rules.proofs.conflicts.Goals.{In-AllDifferent}

pub conflicts-requires : goal.conflicts-requires
conflicts-requires c =
    let a = c.args in
    let e : row_kind (nat_at a.model.now a.at) ≡ row.Linear = rw (← c.number_at.ensures) (sym c.in-Linear.ensures) in
    linear_known (variables a.ready.cells.words.now) a.model.now (a.at + 1) e c.requires.0.kind

-- the kind is all-different
kind_is : (c : In-AllDifferent) → row_kind (nat_at c.args.model.now c.args.at) ≡ row.AllDifferent
kind_is c = rw (← c.number_at.ensures) (sym c.in-AllDifferent.ensures)

pub conflicts-requires-in-AllDifferent : goal.conflicts-requires-in-AllDifferent
conflicts-requires-in-AllDifferent c =
    let a = c.args in
    let k = all_different_known (variables a.ready.cells.words.now) a.model.now (a.at + 1) (kind_is (goal.at.conflicts-requires-in-AllDifferent c).In-AllDifferent) c.requires.0.kind in
    (k.0, k.1, c.requires.1)

pub conflicts-requires-in-Cumulative : goal.conflicts-requires-in-Cumulative
conflicts-requires-in-Cumulative c =
    let a = c.args in
    let e : row_kind (nat_at a.model.now a.at) ≡ row.Cumulative = rw (← c.number_at.ensures) (sym c.in-Cumulative.ensures) in
    cumulative_known (variables a.ready.cells.words.now) a.model.now (a.at + 1) e c.requires.0.kind

pub conflicts-requires-in-Circuit : goal.conflicts-requires-in-Circuit
conflicts-requires-in-Circuit c =
    let a = c.args in
    let e : row_kind (nat_at a.model.now a.at) ≡ row.Circuit = rw (← c.number_at.ensures) (sym c.in-Circuit.ensures) in
    let k = circuit_known (variables a.ready.cells.words.now) a.model.now (a.at + 1) e c.requires.0.kind in
    (k.1, k.2)

pub returns-in-AllDifferent : goal.returns-in-AllDifferent
returns-in-AllDifferent c = λ f e.
    let a = c.args in
    let k = is_all_different (nat_at a.model.now a.at) (kind_is (goal.at.returns-in-AllDifferent c).In-AllDifferent) in
    rw k
    (c.conflicts-in-AllDifferent.ensures ∙ ap (λ (t : ℕ → Bool). crowded (values a.ready.cells.words.now) (keep t (each_at nat_at 1 (nat_at a.model.now (a.at + 1)) a.model.now (a.at + 1 + 1)))) (fun_ext (e k)))
