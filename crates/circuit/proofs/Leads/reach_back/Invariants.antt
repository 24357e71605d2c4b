-- In every turn the set holds nothing that does not reach position 0, and `more` is the set swept once.
use Rattle.std.proofs.Common.{◌-◌, ◌^◌, length}
use Rattle.circuit.specs.Reach.{leads, Swept, Near}
use Rattle.circuit.specs.Trap.{flip}
use Rattle.circuit.proofs.Leads.reach_back.Given as goal

abbrev pub invariant-loop-set : goal.invariant-loop-set
invariant-loop-set l = Near (flip (leads l.self.masks.now)) (length l.self.masks.now) l.set × Swept (flip (leads l.self.masks.now)) (length l.self.masks.now) l.set (length l.self.masks.now) l.more

abbrev pub decreases-loop-set : goal.decreases-loop-set
decreases-loop-set l = 2 ^ (length l.self.masks.now) - l.set
