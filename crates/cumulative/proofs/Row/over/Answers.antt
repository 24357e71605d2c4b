-- Both sums are words.
use Rattle.std.proofs.Common.{rules, ◌≡◌, pos, ◌≤ℤ◌, arith, SFits}
use Rattle.std.specs.Int.{w32}
use Rattle.std.proofs.lemmas.Int.{to_z-of_z}
use Rattle.meaning.specs.Limits.{most_usage}
use Rattle.words.specs.Int.{zz, fit}
use Rattle.sure_parts.specs.Table.{usage_of, used_at}
use Rattle.sure_parts.specs.Sizes.{used_small, sum_fits}
use Rattle.cumulative.proofs.Row.over.Goals as goal

pub returns : goal.returns
returns c =
    let ps = c.args.self.now.parts.now in
    let i = c.args.i in
    let f = c.ranges.t in
    let h : SFits w32 c.args.self.now.capacity = search rules in
    let g = c.ranges.load in
    let e : c.used_at-own.result ≡ used_at ps c.args.t i = simp to_z-of_z at c.used_at-own.ensures in
    let u = c.args.self.now.sized.usages i c.requires.0 in
    let o : (pos 0 ≤ℤ c.used_at-own.result) × (c.used_at-own.result ≤ℤ pos most_usage) = rw e (used_small _ c.args.self.now.sized c.args.t i c.requires.0) in
    let k = c.args.self.now.limited in
    let p = sum_fits c.args.self.now.capacity c.used_at-own.result (omega (arith, zz)) (omega (arith, zz)) in
    let q = sum_fits (usage_of ps i) c.args.load (omega (arith, zz)) (c.requires.1, c.requires.2) in
    let w : SFits w32 (usage_of ps i) = search rules in
    let m = fit w32 c.used_at-own.result c.used_at-own.type_inv in
    simp to_z-of_z (rw e)
