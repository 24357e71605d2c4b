-- The largest of the entries before, with one entry more.
use Rattle.std.proofs.Common.{rules, get_or, pos, sym, SFits}
use Rattle.std.specs.Int.{w32}
use Rattle.std.proofs.lemmas.Int.{to_z-of_z}
use Rattle.words.specs.Int.{fit}
use Rattle.cumulative.proofs.Top.{top_none, top_more}
use Rattle.cumulative.proofs.Row.highest.Goals as goal

pub loop-peak-init : goal.loop-peak-init
loop-peak-init c = sym (top_none _)

pub loop-peak-preserved : goal.loop-peak-preserved
loop-peak-preserved c =
    let f : SFits w32 (get_or c.args.self.now.peaks.now c.loop-peak.peak-index (pos 0)) = search rules in
    let m = fit w32 c.larger-top.result c.larger-top.type_inv in
    simp to_z-of_z (rw (top_more c.args.self.now.peaks.now c.loop-peak.peak-index, ← c.loop-peak.invariant) (simp to_z-of_z at c.larger-top.ensures))
