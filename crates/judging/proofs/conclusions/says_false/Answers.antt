use Rattle.std.proofs.Common.{◌∙◌, sym, ne_eqb}
use Rattle.judging.specs.Conclusions.{false_so, false_not}
use Rattle.judging.proofs.conclusions.says_false.Goals as goal

pub returns-then-fact-eq0 : goal.returns-then-fact-eq0
returns-then-fact-eq0 c = sym (false_so c.args.log.now c.args.fact c.if-fact-eq0.true)

pub returns-else-fact-eq0 : goal.returns-else-fact-eq0
returns-else-fact-eq0 c = ne_eqb _ _ c.if-fact-eq0.false ∙ sym (false_not c.args.log.now c.args.fact c.if-fact-eq0.false)
