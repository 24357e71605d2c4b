-- Nothing else satisfies the promises of the C interface.
use Rattle.std.specs.Prelude.{ℕ, ◌≡◌, List}
use Rattle.std.proofs.Common.{sym, ◌∙◌}
use Rattle.meaning.specs.Check as says
use Rattle.dimpsyholt.specs.Fields.{CheckTold, RecheckTold}
use Rattle.answer.specs.declared.DimpsyholtAnswer.{DimpsyholtAnswer}

-- two answers to one check are equal, and so are the places that they leave
pub only_check : {r r' : DimpsyholtAnswer} {lent left left' : List ℕ} {o : says.Outcome} → CheckTold r lent left o → CheckTold r' lent left' o → (r ≡ r') × (left ≡ left')
only_check p q = (p.answered ∙ sym q.answered, p.noted ∙ sym q.noted)

pub only_recheck : {r r' : DimpsyholtAnswer} {lent left left' : List ℕ} {o : says.Rechecked} → RecheckTold r lent left o → RecheckTold r' lent left' o → (r ≡ r') × (left ≡ left')
only_recheck p q = (p.answered ∙ sym q.answered, p.noted ∙ sym q.noted)

pub only_version : {r r' : ℕ} → r ≡ 10000 → r' ≡ 10000 → r ≡ r'
only_version p q = p ∙ sym q
