-- Each step keeps `BetweenSteps`, or ends with the outcome told.
use Rattle.std.proofs.Common.{◌≡◌, refl, arith, length-take-le, Ok}
use Rattle.walking.specs.Told.{few_names}
use Rattle.walking.specs.BetweenSteps.{goes_on, ends_so, stops_so}
use Rattle.walking.specs.declared.Onward.TheVariants as onward
use Rattle.walking.proofs.walk.Goals as goal

-- the step passed
pub loop-next-preserved : goal.loop-next-preserved
loop-next-preserved c =
    let l = c.loop-next in
    let s = l.invariant.1 in
    let long = length-take-le l.k l.places s.cited.enough in
    let e = c.one_step-moved.ensures in
    let o = c.in-Ok-To in
    let f : o.field-0 ≡ onward.To o.next = rw o.is at o.field-0-is in
    let q : c.one_step-moved.result ≡ Ok (onward.To o.next) = cc in (
      omega (arith, l.invariant.0, c.one_step-moved.auto.cells),
      rw c.note_start.ensures (goes_on _ _ _ _ _ _ c.requires.1 _ _ _ _ s o.next _ (rw (q, long) at e.moved) e.counted (rw q at e.leads)),
    )

-- the conclusion
pub returns-in-Ok-End : goal.returns-in-Ok-End
returns-in-Ok-End c =
    let l = c.loop-next in
    let s = l.invariant.1 in
    let long = length-take-le l.k l.places s.cited.enough in
    let e = c.one_step-moved.ensures in
    let o = c.in-Ok-End in
    let f : o.field-0 ≡ onward.End o.c = rw o.is at o.field-0-is in
    let q : c.one_step-moved.result ≡ Ok (onward.End o.c) = cc in
    let leads = rw q at e.leads in
    rw c.note_start-in-Ok-End.ensures
    (ends_so _ _ _ _ _ _ c.requires.1 _ _ _ _ s _ o.c _ (rw (q, long) at e.moved) leads.0 (few_names _ _ o.c c.args.plan.planned.few_variables leads.1) c.answer_of.ensures refl)

-- the step was refused
pub returns-in-Err : goal.returns-in-Err
returns-in-Err c =
    let l = c.loop-next in
    let s = l.invariant.1 in
    let long = length-take-le l.k l.places s.cited.enough in
    stops_so _ _ _ _ _ _ c.requires.1 _ _ _ _ s _ _ _ (rw long at c.in-Err.ensures.moved) (rw c.from.ensures refl) refl
