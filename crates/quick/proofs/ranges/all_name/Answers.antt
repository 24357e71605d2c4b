use Rattle.std.proofs.Common.{rules, refl, arith, ◌≡◌, ◌+◌, ◌*◌, ℕ}
use borrow.Author.Tests.{tests}
use Rattle.std.proofs.lemmas.Iterator.{cases_from_all, YieldsList-from_range}
use Rattle.meaning.specs.Log.{number_below}
use Rattle.reading.specs.At.{Names}
use Rattle.quick.specs.Ends.{times_over, each_below, below_over}
use Rattle.quick.proofs.ranges.all_name.Goals as goal

pub returns : goal.returns
returns c =
    let P = λ (i : ℕ). Names c.args.k.n c.args.s.now (c.args.from + i) in
    let e : c.args.from + c.args.n ≡ c.args.from + c.args.n * 1 = omega arith in
    record {
      over = λ h. rw e (times_over (number_below c.args.k.n) 1 c.args.n
          (λ i l. let z : c.args.from + i * 1 ≡ c.args.from + i = omega arith in rw z (below_over 11 12 c.args.k.n
          (each_below P _ c.args.n (cases_from_all _ _ _ P (λ i. Unit {0}) c.all.ensures.ran (YieldsList-from_range 0 c.args.n c.args.n refl (omega arith)) (λ x q k. search (rules, tests)) (λ x q k. tt)) h i l))));
    }
