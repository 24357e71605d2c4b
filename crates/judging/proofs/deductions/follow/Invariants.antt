-- Before each hint `Sofar` holds; the scan of its premises keeps what is left of them to hold.
-- `l.before.0` is what the box lends that the premises are held against.
use Rattle.std.proofs.Common.{◌-◌, ◌≡◌, map, length, true}
use Rattle.meaning.specs.Check.{fact_at}
use Rattle.domain.specs.Box.{variables}
use Rattle.steps.specs.Facts.{made_fact}
use Rattle.boxes.specs.Boxes.{Boxed}
use Rattle.boxes.specs.InTurn.{rest}
use Rattle.judging.specs.Following.{and_holds, holds_each, Sofar}
use Rattle.judging.proofs.deductions.follow.Given as goal

abbrev pub invariant-loop-j : goal.invariant-loop-j
invariant-loop-j l = holds_each l.log l.f.premises.many l.f.premises.from l.before.0.now ≡ rest (and_holds l.log l.before.0.now) l.f.premises.many l.f.premises.from true l.j

abbrev pub invariant-hint : goal.invariant-hint
invariant-hint l = record {
  long : length l.cells ≡ length l.fn.cells;
  boxed : Boxed (variables l.fn.cells) (l.many - l.i) l.cells;
  sofar : Sofar (variables l.fn.cells) l.log (fact_at (map (made_fact l.log) l.places)) l.from l.many l.fn.cells l.cells l.i;
}

abbrev pub decreases-hint : goal.decreases-hint
decreases-hint l = l.many - l.i
