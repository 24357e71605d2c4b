-- The tests are those of `later`.
use Rattle.std.proofs.Common.{rules, ◌≡◌, ◌<◌, ◌∙◌, ℕ, List, length, get_or, pos, negsuc, ◌-ℤ◌, arith, sym, SFits}
use Rattle.std.specs.Int.{w32}
use Rattle.std.proofs.lemmas.Int.{to_z-of_z}
use Rattle.words.specs.Int.{zz, le32_t, le32_f, lt32_t, lt32_f}
use Rattle.sure_parts.specs.declared.Part.{Part}
use Rattle.sure_parts.specs.Table.{until_of, Sized}
use Rattle.sure_parts.specs.Sizes.{near_fits}
use Rattle.cumulative.specs.Steps.{over_by}
use Rattle.cumulative.proofs.Row.later_end.Goals as goal
use Rattle.cumulative.proofs.Row.later_end.Goals.{After-over, else-e-until-via-then-e-until+then-until-stop+else-over, else-e-until-via-then-e-until+else-until-stop, else-e-until-via-else-e-until}

-- the time just before the end is a word
before_end : (ps : List Part) (k : ℕ) → Sized ps → k < length ps → SFits w32 (until_of ps k -ℤ pos 1)
before_end ps k sized h = let b = sized.ends k h in near_fits (until_of ps k) (negsuc 0) (omega (arith, zz)) (omega (arith, zz))

-- whether there is no room, as the callee says it
asked : (c : After-over) → c.over.result ≡ over_by c.args.self.now.parts.now c.args.self.now.capacity c.args.i (until_of c.args.self.now.parts.now c.args.k -ℤ pos 1) (get_or c.args.self.now.peaks.now c.args.k (pos 0))
asked c =
    let f : SFits w32 c.args.self.now.capacity = search rules in
    let g : SFits w32 (get_or c.args.self.now.peaks.now c.args.k (pos 0)) = search rules in
    let h : SFits w32 (until_of c.args.self.now.parts.now c.args.k) = search rules in
    let b = before_end c.args.self.now.parts.now c.args.k c.args.self.now.sized c.requires.0 in
    simp to_z-of_z at c.over.ensures

pub returns-then-over : goal.returns-then-over
returns-then-over c =
    let h : SFits w32 (until_of c.args.self.now.parts.now c.args.k) = search rules in
    let a = asked (goal.at.returns-then-over c).After-over in
    rw (lt32_t _ _ c.ranges.e h c.if-e-until.true, le32_t _ _ h c.ranges.stop c.if-until-stop.true, sym a ∙ c.if-over.true) (to_z-of_z _ _ h)

pub returns : goal.returns
returns c =
    let ps = c.args.self.now.parts.now in
    let f : SFits w32 c.args.self.now.capacity = search rules in
    let g : SFits w32 (get_or c.args.self.now.peaks.now c.args.k (pos 0)) = search rules in
    let h : SFits w32 (until_of ps c.args.k) = search rules in
    let b = before_end ps c.args.k c.args.self.now.sized c.requires.0 in
    elim c.else-e-until.branch [
      | else-e-until-via-then-e-until+then-until-stop+else-over w ↦
          let a : w.over.result ≡ over_by ps c.args.self.now.capacity c.args.i (until_of ps c.args.k -ℤ pos 1) (get_or c.args.self.now.peaks.now c.args.k (pos 0)) = simp to_z-of_z at w.over.ensures in
          rw (lt32_t _ _ c.ranges.e h w.if-e-until.true, le32_t _ _ h c.ranges.stop w.if-until-stop.true, sym a ∙ w.if-over.false) (to_z-of_z _ _ c.ranges.e)
      | else-e-until-via-then-e-until+else-until-stop w ↦ rw (lt32_t _ _ c.ranges.e h w.if-e-until.true, le32_f _ _ h c.ranges.stop w.if-until-stop.false) (to_z-of_z _ _ c.ranges.e)
      | else-e-until-via-else-e-until w ↦ rw (lt32_f _ _ c.ranges.e h w.if-e-until.false) (to_z-of_z _ _ c.ranges.e)
    ]
