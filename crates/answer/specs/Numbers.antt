-- What crosses to C: the nine numbers that each answer of the meaning becomes.
use Rattle.std.specs.Prelude.{ℕ, ◌≡◌, pos}
use Rattle.meaning.specs.Check as says
use Rattle.answer.specs.declared.DimpsyholtAnswer.{DimpsyholtAnswer}

-- a conclusion that was reached, by kind 1 (accepted) or 2 (carried)
abbrev pub reached : ℕ → says.Conclusion → ℕ → ℕ → DimpsyholtAnswer
reached kind says.nothing changed judged =
    record {
      kind = kind;
      number = 0;
      step = 0;
      position = 0;
      conclusion = 3;
      variable = 0;
      value = pos 0;
      changed = changed;
      judged = judged;
    }
reached kind (says.at_least x v) changed judged =
    record {
      kind = kind;
      number = 0;
      step = 0;
      position = 0;
      conclusion = 4;
      variable = x;
      value = v;
      changed = changed;
      judged = judged;
    }

abbrev pub fields_of : says.Answer → ℕ → ℕ → DimpsyholtAnswer
fields_of (says.shut num k p) changed judged =
    record {
      kind = 0;
      number = num;
      step = k;
      position = p;
      conclusion = 0;
      variable = 0;
      value = pos 0;
      changed = changed;
      judged = judged;
    }
fields_of (says.accepted c) changed judged = reached 1 c changed judged
fields_of (says.carried c) changed judged = reached 2 c changed judged

pub fields_same : {a b : says.Answer} {changed changed' judged judged' : ℕ} → a ≡ b → changed ≡ changed' → judged ≡ judged' → fields_of a changed judged ≡ fields_of b changed' judged'
fields_same e f g = cc
