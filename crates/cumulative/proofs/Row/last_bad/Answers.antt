-- e is the last such end of the first k activities.
use Rattle.std.proofs.Common.{rules, SFits, sym}
use Rattle.std.specs.Int.{w32}
use Rattle.std.proofs.lemmas.Int.{to_z-of_z}
use Rattle.words.specs.Int.{fit}
use Rattle.cumulative.proofs.Turns.{bad_none, bad_more}
use Rattle.cumulative.proofs.Row.last_bad.Goals as goal

pub loop-k-init : goal.loop-k-init
loop-k-init c = let f = c.ranges.s in (simp to_z-of_z (sym (bad_none _ _ _ _ _ _ 0)))

pub loop-k-preserved : goal.loop-k-preserved
loop-k-preserved c =
    let f = c.ranges.s in
    let g : SFits w32 c.args.self.now.capacity = search rules in
    let h = c.ranges.stop in
    let m = fit w32 c.later_end-e.result c.later_end-e.type_inv in
    (simp to_z-of_z (rw (bad_more c.args.self.now.parts.now c.args.self.now.peaks.now c.args.self.now.capacity c.args.i c.args.s c.args.stop c.loop-k.k, ← simp to_z-of_z at c.loop-k.invariant) (simp to_z-of_z at c.later_end-e.ensures)))
