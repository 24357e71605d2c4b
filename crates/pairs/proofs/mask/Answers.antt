use Rattle.std.proofs.Common.{rules, pos, sym, [], get_or, w32, SFits, to_z-of_z}
use Rattle.std.proofs.lemmas.List.Folds.{list_any_more}
use Rattle.windows.specs.Window.{window_none, window_same, window_or}
use Rattle.pairs.specs.Pairs.{is_pair}
use Rattle.pairs.proofs.mask.Goals as goal

pub loop-pair-init : goal.loop-pair-init
loop-pair-init c = window_none _

pub loop-pair-preserved : goal.loop-pair-preserved
loop-pair-preserved c =
    let ps = c.args.pairs.now in
    let i = c.loop-pair.pair-index in
    let n = c.ranges.name in
    let g : SFits w32 (get_or (get_or ps i []) 0 (pos 0)) = search rules in
    let h : SFits w32 (get_or (get_or ps i []) 1 (pos 0)) = search rules in
    let t = simp to_z-of_z at c.taken_mask-found.ensures in
    simp to_z-of_z (window_same (λ v. sym (list_any_more (is_pair c.args.name v) ps i [] c.loop-pair-test.true)) (window_or (simp to_z-of_z at c.loop-pair.invariant) t))
