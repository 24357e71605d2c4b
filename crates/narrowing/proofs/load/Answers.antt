-- The words are copied one by one, then both counts are set.
use Rattle.std.proofs.Common.{◌≡◌, refl, sym, ◌+◌, ◌*◌, arith, rules, pos, get_or, length-set, w32, SFits, to_z-of_z}
use Rattle.windows.specs.Window.{small_word}
use Rattle.narrowing.specs.Load.{copied_none, copied_more, loaded_is}
use Rattle.narrowing.proofs.load.Goals as goal

pub loop-k-init : goal.loop-k-init
loop-k-init c = (refl, sym (copied_none _ _ _))

pub loop-k-preserved : goal.loop-k-preserved
loop-k-preserved c =
    let i = c.loop-k.invariant in
    let f : SFits w32 (get_or c.args.words.now (c.args.at + c.loop-k.k) (pos 0)) = search rules in
    (simp length-set i.0, simp to_z-of_z (rw i.1 (sym (copied_more c.args.words.now c.args.at c.args.cells.now c.loop-k.k))))

pub returns : goal.returns
returns c =
    let i = c.loop-k.invariant in
    let e : c.loop-k.k ≡ 2 * c.args.count = omega arith in
    let t = small_word c.args.count (omega arith) in
    simp t (rw (i.1, e) (sym (loaded_is c.args.words.now c.args.at c.args.count c.args.cells.now)))
