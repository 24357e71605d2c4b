-- What was added up and what is still to come make the whole sum, and the sum so far is at most the largest term for each.
use Rattle.std.proofs.Common.{sym, rules, arith, ◌+◌, ◌*◌, ◌≤◌, get_or, pos, nat_abs, ◌+ℤ◌, SFits, w32, w64, to_z}
use Rattle.std.proofs.lemmas.Int.{to_z-of_z}
use Rattle.words.specs.Int.{wide, fit}
use Rattle.reading.specs.At.{nat_at}
use Rattle.domain.specs.Box.{values}
use Rattle.linear.specs.Sum.{most_term, term_small, more_small, sum_next, sum_end}
use Rattle.linear.proofs.conflicts.Goals as goal
use Rattle.linear.proofs.conflicts.Goals.{After-least_term-sum}

-- the term is small, so that the sum fits
more : (c : After-least_term-sum) → (nat_abs (to_z w64 c.loop-i.sum-bits +ℤ c.least_term-sum.result) ≤ (c.loop-i.i + 1) * most_term) × SFits w64 (to_z w64 c.loop-i.sum-bits +ℤ c.least_term-sum.result)
more c =
    let a = c.args in
    let i = c.loop-i.i in
    let x = nat_at a.model.now (a.p + 2 + i * 2 + 1) in
    let k = get_or a.model.now (a.p + 2 + i * 2) (pos 0) in
    let t = term_small k (values a.ready.cells.words.now x) (c.requires.2.small i (omega arith)) (a.ready.ready.small x) in
    more_small (to_z w64 c.loop-i.sum-bits) c.least_term-sum.result i (omega arith) c.loop-i.invariant.0 (rw (sym c.least_term-sum.ensures) at t)

pub overflow_add-sum : goal.overflow_add-sum
overflow_add-sum c = let f = fit w64 c.least_term-sum.result c.least_term-sum.type_inv in simp to_z-of_z (more c).1

pub loop-i-preserved : goal.loop-i-preserved
loop-i-preserved c =
    let a = c.args in
    let f = fit w64 c.least_term-sum.result c.least_term-sum.type_inv in
    let g = (more c).1 in
    let e = sum_next (values a.ready.cells.words.now) (nat_at a.model.now a.p) a.model.now (a.p + 2) c.loop-i.i (to_z w64 c.loop-i.sum-bits) (omega arith) c.loop-i.invariant.1 in
    (simp to_z-of_z (more c).0, simp to_z-of_z (rw (sym c.least_term-sum.ensures) at e))

pub returns : goal.returns
returns c =
    let a = c.args in
    let f : SFits w32 (get_or a.model.now (a.p + 1) (pos 0)) = search rules in
    let g = wide f in
    let e = sum_end (values a.ready.cells.words.now) (nat_at a.model.now a.p) a.model.now (a.p + 2) c.loop-i.i (to_z w64 c.loop-i.sum-bits) (omega arith) c.loop-i.invariant.1 in
    rw (sym e) (simp to_z-of_z)
