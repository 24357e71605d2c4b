use Rattle.std.proofs.Common.{arith}
use Rattle.circuit.specs.Mask.{meeting, not_meeting}
use Rattle.circuit.specs.Reach.{swept_with, swept_without}
use Rattle.circuit.proofs.Leads.sweep_back.Goals as goal
use Rattle.circuit.proofs.Leads.sweep_back.Goals.{then-joined, else-joined}

pub loop-i-preserved : goal.loop-i-preserved
loop-i-preserved c =
    let v = c.loop-i.invariant in
    let r = c.args.self.now.linked c.loop-i.i (omega arith) in
    elim c.if-joined.branch [
      | then-joined w ↦
          let m = meeting _ _ _ r.below v.below w.if-joined.true in
          rw (w.more-is, w.with-more.ensures) (swept_with _ _ v m.0 (omega arith) m.1 m.3 m.2)
      | else-joined w ↦ rw w.more-is (swept_without _ _ v (λ a e o. not_meeting _ _ a (omega (arith, w.if-joined.false)) o e))
    ]
