-- u is the first end of the first k activities.
use Rattle.std.proofs.Common.{rules, pos, ◌+ℤ◌, arith, sym, SFits}
use Rattle.std.specs.Int.{w32}
use Rattle.std.proofs.lemmas.Int.{to_z-of_z}
use Rattle.words.specs.Int.{zz, fit}
use Rattle.sure_parts.specs.Table.{from_of}
use Rattle.sure_parts.specs.Sizes.{near_fits}
use Rattle.cumulative.proofs.Turns.{next_none, next_more}
use Rattle.cumulative.proofs.Row.next_end.Goals as goal

pub loop-k-init : goal.loop-k-init
loop-k-init c =
    let ps = c.args.self.now.parts.now in
    let f = c.ranges.t in
    let g : SFits w32 (from_of ps c.args.i) = search rules in
    let b = c.args.self.now.sized.starts c.args.i c.requires in
    -- one past the largest start left is a word
    let p : SFits w32 (from_of ps c.args.i +ℤ pos 1) = near_fits (from_of ps c.args.i) (pos 1) (omega (arith, zz)) (omega (arith, zz)) in
    (simp to_z-of_z (sym (next_none _ _ _ _ 0)))

pub loop-k-preserved : goal.loop-k-preserved
loop-k-preserved c =
    let ps = c.args.self.now.parts.now in
    let f = c.ranges.t in
    let m = fit w32 c.nearer_end-u.result c.nearer_end-u.type_inv in
    (simp to_z-of_z (rw (next_more ps c.args.i c.args.t (from_of ps c.args.i +ℤ pos 1) c.loop-k.k, ← simp to_z-of_z at c.loop-k.invariant) (simp to_z-of_z at c.nearer_end-u.ensures)))
