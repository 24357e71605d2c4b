-- In every turn what is seen holds nothing that position 0 does not reach, and what is done leads to nothing that is not seen.
use Rattle.std.proofs.Common.{◌-◌, ◌^◌, length}
use Rattle.circuit.specs.Reach.{leads, Spread}
use Rattle.circuit.proofs.Leads.reach.Given as goal

abbrev pub invariant-loop-done : goal.invariant-loop-done
invariant-loop-done l = Spread (leads l.self.masks.now) (length l.self.masks.now) l.seen l.done

abbrev pub decreases-loop-done : goal.decreases-loop-done
decreases-loop-done l = 2 ^ (length l.self.masks.now) - l.done
