use Rattle.std.proofs.Common.{◌+◌, ◌-◌, ◌≤ℤ◌}
use Rattle.words.specs.Int.{pp, nn}
use Rattle.domain.specs.Sides.{turn}
use Rattle.domain.specs.Box.{low_of, high_of}
use Rattle.domain.specs.Box.Answers.{Walked}
use Rattle.domain.proofs.Cells.walk.Given as goal

-- the walk has passed over holes alone, and stands between the ends
abbrev pub invariant-loop-self : goal.invariant-loop-self
invariant-loop-self l = Walked l.up l.self.words.now l.x.0 l.from l.v × (low_of l.self.words.now l.x.0 ≤ℤ l.v) × (l.v ≤ℤ high_of l.self.words.now l.x.0)

-- how far the end is ahead
abbrev pub decreases-loop-self : goal.decreases-loop-self
decreases-loop-self l = pp (turn l.up l.end) + nn (turn l.up l.v) - (pp (turn l.up l.v) + nn (turn l.up l.end))
