-- Passed so far: the positions below i that lead into the set were added.
use Rattle.std.proofs.Common.{length}
use Rattle.circuit.specs.Reach.{leads, Swept}
use Rattle.circuit.specs.Trap.{flip}
use Rattle.circuit.proofs.Leads.sweep_back.Given as goal

abbrev pub invariant-loop-i : goal.invariant-loop-i
invariant-loop-i l = Swept (flip (leads l.self.masks.now)) (length l.self.masks.now) l.set l.i l.more
