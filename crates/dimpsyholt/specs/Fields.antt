-- What a C caller is told: the numbers of the meaning's answer, and the places.
use Rattle.std.specs.Prelude.{ℕ, ◌≡◌, List, ◌++◌, length, drop}
use Rattle.meaning.specs.Check as says
use Rattle.answer.specs.Numbers.{fields_of}
use Rattle.answer.specs.declared.DimpsyholtAnswer.{DimpsyholtAnswer}

-- what the check tells a C caller, and the places that it leaves
pub record CheckTold (r : DimpsyholtAnswer) (lent left : List ℕ) (o : says.Outcome) : Type 0 where
  pub answered : r ≡ fields_of o.answer 0 0
  pub noted : left ≡ o.starts ++ drop (length o.starts) lent

-- the same of the recheck, with the size of the changed set and the number of steps judged
pub record RecheckTold (r : DimpsyholtAnswer) (lent left : List ℕ) (o : says.Rechecked) : Type 0 where
  pub answered : r ≡ fields_of o.outcome.answer o.size o.outcome.judged
  pub noted : left ≡ o.outcome.starts ++ drop (length o.outcome.starts) lent
