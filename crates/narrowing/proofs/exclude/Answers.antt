-- By where the value lies: between the ends, at one of them, or outside.
use Rattle.std.proofs.Common.{◌≡◌, sym, ◌∙◌, pos, ◌+ℤ◌, ◌-ℤ◌, ◌≤ℤ◌, arith, w32, SFits, to_z-of_z}
use Rattle.words.specs.Int.{zz, fit, fits_read, sum, diff}
use Rattle.words.specs.Words.{in_z}
use Rattle.domain.specs.Sets.{in_ends}
use Rattle.domain.specs.Box.{low_of, high_of}
use Rattle.narrowing.proofs.NarrowFacts.{excluded_outside, excluded_between, excluded_low, excluded_high, excluded_alone}
use Rattle.narrowing.proofs.exclude.Goals.{After-in_range, Else-not-in_range}
use Rattle.narrowing.proofs.exclude.Goals as goal

-- the test is whether the value lies between the ends
asked : (c : After-in_range) → c.in_range.result ≡ in_z (low_of c.args.cells.now c.args.x.0) (high_of c.args.cells.now c.args.x.0) c.args.value
asked c =
    let f = c.ranges.value in
    let g = fit w32 c.low_end-a.result c.low_end-a.type_inv in
    let k = fit w32 c.high_end-b.result c.high_end-b.type_inv in
    simp to_z-of_z at c.in_range.ensures ∙ rw (c.low_end-a.ensures, c.high_end-b.ensures)

within : (c : Else-not-in_range) → (low_of c.args.cells.now c.args.x.0 ≤ℤ c.args.value) × (c.args.value ≤ℤ high_of c.args.cells.now c.args.x.0)
within c = in_ends (low_of c.args.cells.now c.args.x.0) (high_of c.args.cells.now c.args.x.0) c.args.value (sym (asked (goal.at.Else-not-in_range c).After-in_range) ∙ c.if-not-in_range.false)

pub returns-then-not-in_range : goal.returns-then-not-in_range
returns-then-not-in_range c =
    let g = fit w32 c.low_end-a.result c.low_end-a.type_inv in
    let k = fit w32 c.high_end-b.result c.high_end-b.type_inv in
    let n = asked (goal.at.returns-then-not-in_range c).After-in_range in
    simp to_z-of_z at c.bound.ensures ∙ rw (c.low_end-a.ensures, c.high_end-b.ensures) (excluded_outside c.args.cells.now c.args.x.0 c.args.value c.requires.0 c.requires.2 (sym n ∙ c.if-not-in_range.true))

pub returns-then-value-b : goal.returns-then-value-b
returns-then-value-b c =
    let f = c.ranges.value in
    let g = fit w32 c.low_end-a.result c.low_end-a.type_inv in
    let k = fit w32 c.high_end-b.result c.high_end-b.type_inv in
    let p = c.low_end-a.ensures in
    let q = c.high_end-b.ensures in
    simp to_z-of_z at c.add_hole.ensures ∙ excluded_between c.args.cells.now c.args.x.0 c.args.value c.requires.0 c.requires.2 c.requires.1 (omega (arith, zz)) (omega (arith, zz))

-- the value is the high end
pub returns-else-value-b : goal.returns-else-value-b
returns-else-value-b c =
    let f = c.ranges.value in
    let g = fit w32 c.low_end-a.result c.low_end-a.type_inv in
    let k = fit w32 c.high_end-b.result c.high_end-b.type_inv in
    let q = c.high_end-b.ensures in
    let v = (within (goal.at.returns-else-value-b c).Else-not-in_range).1 in
    let m : SFits w32 (c.args.value -ℤ pos 1) = omega (arith, zz, fits_read f, fits_read g, diff c.args.value (pos 1)) in
    simp to_z-of_z at c.squeeze.ensures ∙ excluded_high c.args.cells.now c.args.x.0 c.args.value c.requires.0 c.requires.2 (omega (arith, zz))

-- the value is the low end
pub returns-then-value-b-2 : goal.returns-then-value-b-2
returns-then-value-b-2 c =
    let f = c.ranges.value in
    let g = fit w32 c.low_end-a.result c.low_end-a.type_inv in
    let k = fit w32 c.high_end-b.result c.high_end-b.type_inv in
    let p = c.low_end-a.ensures in
    let u = (within (goal.at.returns-then-value-b-2 c).Else-not-in_range).0 in
    let m : SFits w32 (c.args.value +ℤ pos 1) = omega (arith, zz, fits_read f, fits_read k, sum c.args.value (pos 1)) in
    simp to_z-of_z at c.squeeze-then-value-b-2.ensures ∙ excluded_low c.args.cells.now c.args.x.0 c.args.value c.requires.0 c.requires.2 (omega (arith, zz))

-- the value is the only one
pub returns-else-value-b-2 : goal.returns-else-value-b-2
returns-else-value-b-2 c =
    let f = c.ranges.value in
    let g = fit w32 c.low_end-a.result c.low_end-a.type_inv in
    let k = fit w32 c.high_end-b.result c.high_end-b.type_inv in
    let p = c.low_end-a.ensures in
    let q = c.high_end-b.ensures in
    let w = within (goal.at.returns-else-value-b-2 c).Else-not-in_range in
    let u = w.0 in
    let v = w.1 in
    c.put.ensures ∙ excluded_alone c.args.cells.now c.args.x.0 c.args.value c.requires.0 c.requires.2 (omega (arith, zz)) (omega (arith, zz))
