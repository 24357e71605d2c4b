-- The last time of the start is tried first, then the ends of the sure parts.
use Rattle.std.proofs.Common.{rules, SFits, ◌≡◌, ◌∙◌, pos, length, ◌+ℤ◌, ◌-ℤ◌, ◌≤ℤ◌, arith, sym}
use Rattle.std.specs.Int.{w32}
use Rattle.std.proofs.lemmas.Int.{to_z-of_z}
use Rattle.words.specs.Int.{zz, fit}
use Rattle.sure_parts.specs.Table.{load, most_load}
use Rattle.sure_parts.specs.Sizes.{load_small}
use Rattle.cumulative.specs.Steps.{over}
use Rattle.cumulative.proofs.Turns.{start_fits, leap_over, leap_under}
use Rattle.cumulative.proofs.Row.leap_from.Goals as goal
use Rattle.cumulative.proofs.Row.leap_from.Goals.{After-sure_at-load, After-over}

-- what is surely in use at the last time
sure_then : (c : After-sure_at-load) → c.sure_at-load.result ≡ load c.args.self.now.parts.now ((c.args.s +ℤ c.args.lasts) -ℤ pos 1) (length c.args.self.now.parts.now)
sure_then c =
    let f = c.ranges.s in
    let g = c.ranges.lasts in
    let e = start_fits c.args.s c.args.lasts c.requires.1 in
    let p = e.0 in
    let q = e.1 in
    simp to_z-of_z at c.sure_at-load.ensures

pub over-requires : goal.over-requires
over-requires c =
    let f : SFits w32 c.args.self.now.capacity = search rules in
    let m = fit w32 c.sure_at-load.result c.sure_at-load.type_inv in
    let b = load_small _ c.args.self.now.sized ((c.args.s +ℤ c.args.lasts) -ℤ pos 1) (length c.args.self.now.parts.now) (omega arith) in
    let e = sure_then (goal.at.over-requires c).After-sure_at-load in
    let few = c.args.self.now.sized.few in
    let l : (pos 0 ≤ℤ c.sure_at-load.result) × (c.sure_at-load.result ≤ℤ pos most_load) = rw e (b.0, omega (arith, zz)) in
    simp to_z-of_z (c.requires.0, l.0, l.1)

-- whether the last time is bad
tried : (c : After-over) → c.sure_at-load.result ≡ load c.args.self.now.parts.now ((c.args.s +ℤ c.args.lasts) -ℤ pos 1) (length c.args.self.now.parts.now) → c.over.result ≡ over c.args.self.now.parts.now (length c.args.self.now.parts.now) c.args.self.now.capacity c.args.i ((c.args.s +ℤ c.args.lasts) -ℤ pos 1)
tried c sure =
    let f = c.ranges.s in
    let g = c.ranges.lasts in
    let h : SFits w32 c.args.self.now.capacity = search rules in
    let e = start_fits c.args.s c.args.lasts c.requires.1 in
    let p = e.0 in
    let q = e.1 in
    let m = fit w32 c.sure_at-load.result c.sure_at-load.type_inv in
    rw (← sure) (simp to_z-of_z at c.over.ensures)

pub returns-then-over : goal.returns-then-over
returns-then-over c =
    let f = c.ranges.s in
    let g = c.ranges.lasts in
    let e = start_fits c.args.s c.args.lasts c.requires.1 in
    let p = e.0 in
    let q = e.1 in
    let m = fit w32 c.next_end.result c.next_end.type_inv in
    let at = goal.at.returns-then-over c in
    let t = tried at.After-over (sure_then at.After-sure_at-load) in
    simp to_z-of_z (rw (leap_over c.args.self.now.parts.now c.args.self.now.peaks.now (length c.args.self.now.parts.now) c.args.self.now.capacity c.args.i c.args.s c.args.lasts (sym t ∙ c.if-over.true)) (simp to_z-of_z at c.next_end.ensures))

pub returns : goal.returns
returns c =
    let f = c.ranges.s in
    let g = c.ranges.lasts in
    let h : SFits w32 c.args.self.now.capacity = search rules in
    let e = start_fits c.args.s c.args.lasts c.requires.1 in
    let p = e.0 in
    let m = fit w32 c.last_bad.result c.last_bad.type_inv in
    let at = goal.at.returns c in
    let t = tried at.After-over (sure_then at.After-sure_at-load) in
    simp to_z-of_z (rw (leap_under c.args.self.now.parts.now c.args.self.now.peaks.now (length c.args.self.now.parts.now) c.args.self.now.capacity c.args.i c.args.s c.args.lasts (sym t ∙ c.if-over.false)) (simp to_z-of_z at c.last_bad.ensures))
