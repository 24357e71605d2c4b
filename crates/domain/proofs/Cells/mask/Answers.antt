-- The range between the ends, without the holes.
use Rattle.std.proofs.Common.{sym, w32, to_z-of_z}
use Rattle.words.specs.Int.{fit}
use Rattle.domain.specs.Box.Answers.{member_values}
use Rattle.windows.specs.Window.{window_same, window_but}
use Rattle.domain.proofs.Cells.mask.Goals as goal

pub returns : goal.returns
returns c =
    let f = fit w32 c.low_end.result c.low_end.type_inv in
    let g = fit w32 c.high_end.result c.high_end.type_inv in
    let m = rw (c.low_end.ensures, c.high_end.ensures) at (simp to_z-of_z at c.range_mask-all.ensures) in
    window_same (λ v. sym (member_values c.args.self.words.now c.args.x.0 c.requires v)) (window_but m c.hole_mask-gone.ensures)
