use Rattle.std.proofs.Common.{ℕ, ◌≤◌, ◌≡◌, ◌∙◌, ℤ, pos, ◌+ℤ◌, ◌≤ℤ◌, rules, arith, SFits, to_z-of_z}
use Rattle.std.specs.Int.{w32}
use Rattle.words.specs.Int.{zz, fit}
use Rattle.words.specs.ListFacts.{lt_of}
use Rattle.words.specs.Words.{min_z, max_z}
use Rattle.windows.specs.Window.{last_word, max_above, min_under, window_empty, window_range}
use Rattle.windows.proofs.Base.range_mask.Goals.{After-smaller-b, Else-b-a}
use Rattle.windows.proofs.Base.range_mask.Goals as goal

-- the two ends
ends : (c : After-smaller-b) → (c.larger-a.result ≡ max_z c.args.low c.args.self.first) × (c.smaller-b.result ≡ min_z c.args.high (c.args.self.first +ℤ pos 63))
ends c =
    let l = c.ranges.low in
    let h = c.ranges.high in
    let b : SFits w32 c.args.self.first = search rules in
    let k = last_word c.args.self.first b c.args.self.early in
    (simp to_z-of_z at c.larger-a.ensures, simp to_z-of_z at c.smaller-b.ensures)

-- the range ends before it begins
pub returns-then-b-a : goal.returns-then-b-a
returns-then-b-a c =
    let f = fit w32 c.smaller-b.result c.smaller-b.type_inv in
    let g = fit w32 c.larger-a.result c.larger-a.type_inv in
    let e = ends (goal.at.returns-then-b-a c).After-smaller-b in
    window_empty c.args.self.first c.args.low c.args.high (rw (e.0, e.1) at (lt_of c.smaller-b.result c.larger-a.result (simp to_z-of_z at c.if-b-a.true)))

-- what is known of the ends where it does not: they lie in the window, one after the other
record Some (low high base a b : ℤ) : Type 0 where
  a_is : a ≡ max_z low base
  b_is : b ≡ min_z high (base +ℤ pos 63)
  from_base : base ≤ℤ a
  ordered : a ≤ℤ b
  to_end : b ≤ℤ (base +ℤ pos 63)

some : (c : Else-b-a) → Some c.args.low c.args.high c.args.self.first c.larger-a.result c.smaller-b.result
some c =
    let f = fit w32 c.smaller-b.result c.smaller-b.type_inv in
    let g = fit w32 c.larger-a.result c.larger-a.type_inv in
    let e = ends (goal.at.Else-b-a c).After-smaller-b in
    let t = simp to_z-of_z at c.if-b-a.false in
    record {
      a_is = e.0;
      b_is = e.1;
      from_base = rw e.0 (max_above c.args.low c.args.self.first).1;
      ordered = omega (arith, zz);
      to_end = rw e.1 (min_under c.args.high (c.args.self.first +ℤ pos 63)).1;
    }

within_a : {low high base a b : ℤ} → Some low high base a b → (base ≤ℤ a) × (a ≤ℤ (base +ℤ pos 63))
within_a {low} {high} {base} {a} {b} n = let o = n.ordered in let t = n.to_end in (n.from_base, omega (arith, zz))

within_b : {low high base a b : ℤ} → Some low high base a b → (base ≤ℤ b) × (b ≤ℤ (base +ℤ pos 63))
within_b {low} {high} {base} {a} {b} n = let o = n.ordered in let f = n.from_base in (omega (arith, zz), n.to_end)

in_order : (base : ℤ) {a b : ℤ} {i j : ℕ} → base +ℤ pos i ≡ a → base +ℤ pos j ≡ b → a ≤ℤ b → i ≤ j
in_order base e f h = omega (arith, zz)

pub offset-requires : goal.offset-requires
offset-requires c =
    let d : SFits w32 c.args.self.first = search rules in
    let g = fit w32 c.larger-a.result c.larger-a.type_inv in
    simp to_z-of_z (within_a (some (goal.at.offset-requires c).Else-b-a))

pub offset-requires-2 : goal.offset-requires-2
offset-requires-2 c =
    let d : SFits w32 c.args.self.first = search rules in
    let f = fit w32 c.smaller-b.result c.smaller-b.type_inv in
    simp to_z-of_z (within_b (some (goal.at.offset-requires-2 c).Else-b-a))

pub returns : goal.returns
returns c =
    let d : SFits w32 c.args.self.first = search rules in
    let f = fit w32 c.smaller-b.result c.smaller-b.type_inv in
    let g = fit w32 c.larger-a.result c.larger-a.type_inv in
    let n = some (goal.at.returns c).Else-b-a in
    let u = simp to_z-of_z at c.offset.ensures in
    let v = simp to_z-of_z at c.offset-2.ensures in
    rw c.stretch.ensures (window_range c.args.self.first c.args.low c.args.high c.offset.result c.offset-2.result (in_order c.args.self.first u.0 v.0 n.ordered) v.1 (u.0 ∙ n.a_is) (v.0 ∙ n.b_is))
