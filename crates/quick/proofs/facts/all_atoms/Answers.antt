use Rattle.std.proofs.Common.{rules, ◌+◌, ◌*◌, ℕ, refl, arith}
use borrow.Author.Tests.{tests}
use Rattle.std.proofs.lemmas.Iterator.{cases_from_all, YieldsList-from_range}
use Rattle.meaning.specs.Log.{atom}
use Rattle.quick.specs.Ends.{Passes, times_over, each_below}
use Rattle.quick.proofs.facts.all_atoms.Goals as goal

pub returns : goal.returns
returns c =
    let P = λ (i : ℕ). Passes (atom c.args.v.n) c.args.s.now (c.args.from + i * 3) (c.args.from + i * 3 + 3) in
    record {
      over = λ h. times_over (atom c.args.v.n) 3 c.args.n
          (each_below P _ c.args.n (cases_from_all _ _ _ P (λ i. Unit {0}) c.all.ensures.ran (YieldsList-from_range 0 c.args.n c.args.n refl (omega arith)) (λ x q k. search (rules, tests)) (λ x q k. tt)) h);
    }
