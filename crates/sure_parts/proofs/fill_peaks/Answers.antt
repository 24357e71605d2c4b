-- With one entry more, the first k + 1 are there.
use Rattle.std.proofs.Common.{rules, ◌≡◌, ◌<◌, ◌≢◌, ◌∙◌, length, pos, negsuc, ◌-ℤ◌, arith, SFits, below_more, length-set, get_or-set_same, get_or-set_other}
use Rattle.std.specs.Int.{w32}
use Rattle.std.proofs.lemmas.Int.{to_z-of_z}
use Rattle.words.specs.Int.{zz, fit}
use Rattle.sure_parts.specs.Table.{until_of, peak}
use Rattle.sure_parts.specs.Sizes.{near_fits}
use Rattle.sure_parts.specs.Fill.{peaked_of}
use Rattle.sure_parts.proofs.fill_peaks.Goals as goal

pub loop-k-preserved : goal.loop-k-preserved
loop-k-preserved c =
    let ps = c.args.parts.now in
    let k = c.loop-k.k in
    let h : k < length ps = omega arith in
    let b = c.requires.0.ends k h in
    -- the time just before the end is a word
    let f : SFits w32 (until_of ps k -ℤ pos 1) = near_fits (until_of ps k) (negsuc 0) (omega (arith, zz)) (omega (arith, zz)) in
    let g : SFits w32 (until_of ps k) = search rules in
    let m = fit w32 c.sure_at.result c.sure_at.type_inv in
    let e : c.sure_at.result ≡ peak ps (length ps) k = simp to_z-of_z at c.sure_at.ensures in
    let l : k < length c.loop-k.peaks = omega arith in
    simp to_z-of_z (rw e (
      length-set c.loop-k.peaks k (peak ps (length ps) k) ∙ c.loop-k.invariant.0,
      below_more _ _ (λ j n. let ne : j ≢ k = omega arith in get_or-set_other c.loop-k.peaks k j (peak ps (length ps) k) (pos 0) ne ∙ c.loop-k.invariant.1 j n) (get_or-set_same c.loop-k.peaks k (peak ps (length ps) k) (pos 0) l),
    ))

pub returns : goal.returns
returns c = peaked_of _ c.requires.0 _ c.loop-k.invariant.0 (λ j h. c.loop-k.invariant.1 j (omega arith))
