use Rattle.std.proofs.Common.{arith, sym, ◌≡◌, ◌<◌, ◌^◌, true, length}
use Rattle.std.specs.Int.Bits.{bit_or, bit_xor}
use Rattle.circuit.specs.Mask.{bit, first_apart}
use Rattle.circuit.specs.Reach.{spread_start, spread_more, spread_grows}
use Rattle.circuit.proofs.Leads.reach.Goals as goal
use Rattle.circuit.proofs.Leads.reach.Goals.{After-first_apart-k}

pub loop-done-init : goal.loop-done-init
loop-done-init c = spread_start _ _ c.args.self.now.some

-- the position is one that is seen and not done
found : (c : After-first_apart-k) → (c.first_apart-k.result < length c.args.self.now.masks.now) × (bit (bit_xor c.loop-done.seen c.loop-done.done) c.first_apart-k.result ≡ true)
found c =
    let w = c.loop-done.invariant in
    let p = c.args.self.now.few in
    rw c.first_apart-k.ensures (first_apart _ _ _ w.near.below w.below (omega arith) (λ e. c.loop-done-test.true (sym e)))

pub bounds-self-k : goal.bounds-self-k
bounds-self-k c = omega (arith, (found (goal.at.bounds-self-k c).After-first_apart-k).0)

pub with-done-requires : goal.with-done-requires
with-done-requires c = omega (arith, (found (goal.at.with-done-requires c).After-first_apart-k).0)

pub loop-done-smaller : goal.loop-done-smaller
loop-done-smaller c =
    let h = found (goal.at.loop-done-smaller c).After-first_apart-k in
    let g : c.loop-done.done < bit_or c.loop-done.done (2 ^ c.first_apart-k.result) = spread_grows _ _ c.loop-done.invariant h.0 h.1 in
    omega (arith, c.with-done.ensures, c.loop-done.invariant.below)

pub loop-done-preserved : goal.loop-done-preserved
loop-done-preserved c =
    let h = found (goal.at.loop-done-preserved c).After-first_apart-k in
    rw c.with-done.ensures (spread_more _ _ c.loop-done.invariant h.0 h.1 _ (c.args.self.now.linked c.first_apart-k.result h.0))
