-- The way back from the nine numbers: they lose nothing of the answer.
use Rattle.std.specs.Prelude.{ℕ, ◌≡◌, refl, Bool, true, false, eqb, ℤ}
use Rattle.meaning.specs.Check as says
use Rattle.answer.specs.Numbers.{fields_of}
use Rattle.answer.specs.declared.DimpsyholtAnswer.{DimpsyholtAnswer}

-- conclusion 4 is "never below", 3 "no assignment"; the test is that it is 4
abbrev pub concluded_by : Bool → ℕ → ℤ → says.Conclusion
concluded_by true x v = says.at_least x v
concluded_by false x v = says.nothing

abbrev pub conclusion_of : DimpsyholtAnswer → says.Conclusion
conclusion_of r = concluded_by (eqb r.conclusion 4) r.variable r.value

-- kind 1 is accepted, 2 carried, any other a refusal; the tests are that it is 1, and that it is 2
abbrev pub meant_by : Bool → Bool → DimpsyholtAnswer → says.Answer
meant_by true b r = says.accepted (conclusion_of r)
meant_by false true r = says.carried (conclusion_of r)
meant_by false false r = says.shut r.number r.step r.position

abbrev pub meant : DimpsyholtAnswer → says.Answer
meant r = meant_by (eqb r.kind 1) (eqb r.kind 2) r

-- each answer of the meaning can be read back from its nine numbers, so no two answers become the same
pub read_back : (a : says.Answer) (changed judged : ℕ) → meant (fields_of a changed judged) ≡ a
read_back (says.shut num k p) changed judged = refl
read_back (says.accepted says.nothing) changed judged = refl
read_back (says.accepted (says.at_least x v)) changed judged = refl
read_back (says.carried says.nothing) changed judged = refl
read_back (says.carried (says.at_least x v)) changed judged = refl
