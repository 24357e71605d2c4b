use Rattle.std.proofs.Common.{sym, ◌∙◌, rules, w32, SFits, to_z-of_z}
use Rattle.windows.specs.Window.{last_word, window_bit, window_out, one_shifted}
use Rattle.windows.proofs.Base.value_mask.Goals as goal

pub returns-then-in_range : goal.returns-then-in_range
returns-then-in_range c =
    let f = c.ranges.v in
    let g : SFits w32 c.args.self.first = search rules in
    let e = simp to_z-of_z at c.offset.ensures in
    rw (one_shifted c.offset.result e.1) (window_bit c.args.self.first c.args.v c.offset.result e.1 e.0)

pub returns-else-in_range : goal.returns-else-in_range
returns-else-in_range c =
    let f = c.ranges.v in
    let g : SFits w32 c.args.self.first = search rules in
    let k = last_word c.args.self.first g c.args.self.early in
    window_out c.args.self.first c.args.v (simp to_z-of_z at (sym c.in_range.ensures ∙ c.if-in_range.false))
