-- The first places and the variables still to come give all that occur.
use Rattle.std.proofs.Common.{arith, sym, ◌∙◌, ◌≡◌, ◌+◌, ◌≤◌, ◌++◌, ℕ, List, true, false, length, take, set, length-set}
use Rattle.std.proofs.lemmas.List.{map-set, take-map, length-map}
use Rattle.words.specs.declared.VarNo.{VarNo}
use Rattle.marks.specs.Marks.{marked}
use Rattle.reading.specs.At.{nat_at}
use Rattle.all_different.specs.Chosen.{numbers, chosen, to_come, chosen_taken, chosen_left, chosen_end}
use Rattle.all_different.proofs.choose.Goals as goal
use Rattle.all_different.proofs.choose.Goals.{then-holds, else-holds, After-holds}

-- whether the variable occurs, as the test of the definition
says : (c : After-holds) → marked c.args.occurring.now (nat_at c.args.model.now (c.args.p + 1 + c.loop-i.i)) ≡ c.holds.result
says c = rw (sym c.variable_at-x.ensures) (sym c.holds.ensures)

-- the invariant at the next variable, for such places and so many of them
abbrev Next : After-holds → List VarNo → ℕ → Type 0
Next c places count =
    let a = c.args in
    let t = marked a.occurring.now in
    let n = nat_at a.model.now a.p in
    (count ≤ c.loop-i.i + 1) × (length places ≡ length a.room.now) × (take count (numbers places) ++ to_come t n a.model.now (a.p + 1) (c.loop-i.i + 1) ≡ chosen t n a.model.now (a.p + 1))

taken : (c : After-holds) → c.holds.result ≡ true → Next c (set c.loop-i.room c.loop-i.count c.variable_at-x.result) (c.loop-i.count + 1)
taken c e =
    let a = c.args in
    let t = marked a.occurring.now in (
      omega arith,
      simp length-set c.loop-i.invariant.1,
      rw (map-set (λ (x : VarNo). x.0) c.loop-i.room c.loop-i.count c.variable_at-x.result, c.variable_at-x.ensures) (chosen_taken t (nat_at a.model.now a.p) a.model.now (a.p + 1) (numbers c.loop-i.room) c.loop-i.count c.loop-i.i (omega arith) c.loop-i.invariant.2 (rw (length-map c.loop-i.room (λ (x : VarNo). x.0)) (omega arith)) (says c ∙ e)),
    )

passed : (c : After-holds) → c.holds.result ≡ false → Next c c.loop-i.room c.loop-i.count
passed c e =
    let a = c.args in
    let t = marked a.occurring.now in (
      omega arith,
      c.loop-i.invariant.1,
      chosen_left t (nat_at a.model.now a.p) a.model.now (a.p + 1) (numbers c.loop-i.room) c.loop-i.count c.loop-i.i (omega arith) c.loop-i.invariant.2 (says c ∙ e),
    )

pub loop-i-preserved : goal.loop-i-preserved
loop-i-preserved c =
    elim c.if-holds.branch [
      | then-holds w ↦ rw (w.room-is, w.count-is) (taken (goal.at.loop-i-preserved c).After-holds w.if-holds.true)
      | else-holds w ↦ rw (w.room-is, w.count-is) (passed (goal.at.loop-i-preserved c).After-holds w.if-holds.false)
    ]

pub returns : goal.returns
returns c =
    let a = c.args in
    rw (← take-map (λ (x : VarNo). x.0) c.loop-i.count c.loop-i.room) (chosen_end (marked a.occurring.now) (nat_at a.model.now a.p) a.model.now (a.p + 1) (take c.loop-i.count (numbers c.loop-i.room)) c.loop-i.i (omega arith) c.loop-i.invariant.2)
