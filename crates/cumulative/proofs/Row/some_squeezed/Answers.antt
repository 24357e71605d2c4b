-- None of the first i activities is squeezed.
use Rattle.std.proofs.Common.{rules, ◌+◌, ◌<◌, ◌≡◌, ◌∙◌, get_or, pos, ◌-ℤ◌, ◌≤ℤ◌, ◌<ℤ◌, arith, sym, SFits}
use Rattle.std.specs.Int.{w32}
use Rattle.std.proofs.lemmas.Int.{to_z-of_z}
use Rattle.words.specs.Int.{zz, fit, lt32_f}
use Rattle.meaning.specs.Below.{some_holds}
use Rattle.reading.specs.At.{nat_at}
use Rattle.domain.specs.Box.{values}
use Rattle.sure_parts.specs.Table.{usage_of}
use Rattle.sure_parts.specs.Sizes.{diff_fits}
use Rattle.cumulative.proofs.Turns.{not_below}
use Rattle.cumulative.specs.Top.{top_of}
use Rattle.cumulative.specs.Row.{squeezes}
use Rattle.cumulative.proofs.RowFacts.{row_overload, row_fits, top_small, none_more}
use Rattle.cumulative.proofs.Row.some_squeezed.Goals as goal
use Rattle.cumulative.proofs.Row.some_squeezed.Goals.{After-highest-top, else-room-part-via-then-room-part+else-squeezed_at, else-room-part-via-else-room-part}

-- the most that is surely in use
most : (c : After-highest-top) → c.highest-top.result ≡ top_of c.args.self.now.peaks.now (nat_at c.args.model.now c.args.p)
most c = rw (← c.requires.0.peaked.long) c.highest-top.ensures

pub returns-then-capacity-top : goal.returns-then-capacity-top
returns-then-capacity-top c =
    let f : SFits w32 c.args.self.now.capacity = search rules in
    let m = fit w32 c.highest-top.result c.highest-top.type_inv in
    let h : c.args.self.now.capacity <ℤ c.highest-top.result = omega (arith, zz, c.if-capacity-top.true) in
    let e = most (goal.at.returns-then-capacity-top c).After-highest-top in
    sym (row_overload _ _ _ _ _ c.requires.0 (rw (c.requires.1, e) at h))

-- the room beside it is a word
room_fits : (c : After-highest-top) → SFits w32 (c.args.self.now.capacity -ℤ c.highest-top.result)
room_fits c =
    let k = c.requires.0.row.capacity in
    rw (c.requires.1, most c) (diff_fits (get_or c.args.model.now (c.args.p + 1) (pos 0)) (top_of c.args.self.now.peaks.now (nat_at c.args.model.now c.args.p)) (omega (arith, zz)) (top_small _ _ _ _ _ c.requires.0))

pub overflow_sub-room : goal.overflow_sub-room
overflow_sub-room c =
    let f : SFits w32 c.args.self.now.capacity = search rules in
    let m = fit w32 c.highest-top.result c.highest-top.type_inv in
    simp to_z-of_z (room_fits (goal.at.overflow_sub-room c).After-highest-top)

pub returns-then-squeezed_at : goal.returns-then-squeezed_at
returns-then-squeezed_at c =
    let few : c.loop-i.i < nat_at c.args.model.now c.args.p = let long = c.requires.0.filled.long in omega arith in
    sym (some_holds (squeezes (values c.args.cells.words.now) c.args.model.now c.args.p) (nat_at c.args.model.now c.args.p) c.loop-i.i few (rw (← c.squeezed_at.ensures) c.if-squeezed_at.true))

pub loop-i-preserved : goal.loop-i-preserved
loop-i-preserved c =
    let cap = c.args.self.now.capacity in
    let u = usage_of c.args.self.now.parts.now c.loop-i.i in
    let top = (goal.at.loop-i-preserved c).After-highest-top in
    let f : SFits w32 c.args.self.now.capacity = search rules in
    let g : SFits w32 (usage_of c.args.self.now.parts.now c.loop-i.i) = search rules in
    let m = fit w32 c.highest-top.result c.highest-top.type_inv in
    let r = room_fits top in
    let few : c.loop-i.i < nat_at c.args.model.now c.args.p = let long = c.requires.0.filled.long in omega arith in
    let t = squeezes (values c.args.cells.words.now) c.args.model.now c.args.p in
    -- an activity that fits beside all
    let beside = λ (h : u ≤ℤ (cap -ℤ c.highest-top.result)). row_fits _ _ _ _ _ c.requires.0 c.loop-i.i few (rw (c.requires.1, most top) at h) in
    none_more t c.loop-i.i c.loop-i.invariant
    (elim c.else-room-part.branch [
      | else-room-part-via-then-room-part+else-squeezed_at w ↦ sym w.squeezed_at.ensures ∙ w.if-squeezed_at.false
      | else-room-part-via-else-room-part w ↦ beside (not_below _ _ (lt32_f _ _ r g (simp (to_z-of_z w32 cap f, to_z-of_z w32 c.highest-top.result m) at w.if-room-part.false)))
    ])
