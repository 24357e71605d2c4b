-- Nothing else satisfies the promise of the walk: two answers that both do are equal, and so are the places.
use Rattle.std.specs.Prelude.{ℕ, ◌≡◌, refl, List}
use Rattle.std.proofs.Common.{sym, ap, ◌∙◌}
use Rattle.meaning.specs.Check as says
use Rattle.walking.specs.Told.{told_conclusion, told_answer, Tells}
use Rattle.walking.specs.declared.Conclusion.{Conclusion}
use Rattle.walking.specs.declared.Conclusion.TheVariants as conclusion
use Rattle.walking.specs.declared.Answer.{Answer}
use Rattle.walking.specs.declared.Answer.TheVariants as answer
use Rattle.walking.specs.declared.Walked.{Walked}

-- the way back from what an answer tells
abbrev concluded_by : says.Conclusion → Conclusion
concluded_by says.nothing = conclusion.NoAssignment
concluded_by (says.at_least x v) = conclusion.NeverBelow (record { 0 = x }) v

abbrev answered_by : says.Answer → Answer
answered_by (says.shut num k p) = answer.Refused num k p
answered_by (says.accepted c) = answer.Accepted (concluded_by c)
answered_by (says.carried c) = answer.Carried (concluded_by c)

conclusion_back : (c : Conclusion) → concluded_by (told_conclusion c) ≡ c
conclusion_back conclusion.NoAssignment = refl
conclusion_back (conclusion.NeverBelow x v) = refl

answer_back : (a : Answer) → answered_by (told_answer a) ≡ a
answer_back (answer.Refused num k p) = refl
answer_back (answer.Accepted c) = ap answer.Accepted (conclusion_back c)
answer_back (answer.Carried c) = ap answer.Carried (conclusion_back c)

pub only_answer : (a b : Answer) → told_answer a ≡ told_answer b → a ≡ b
only_answer a b e = sym (answer_back a) ∙ ap answered_by e ∙ answer_back b

pub only_walk : (lent : List ℕ) (o : says.Outcome) (a b : Walked) (l m : List ℕ) → Tells a lent l o → Tells b lent m o → (a ≡ b) × (l ≡ m)
only_walk lent o a b l m p q = (
  λ i. record {
    answer = only_answer a.answer b.answer (p.answered ∙ sym q.answered) i;
    judged = (p.counted ∙ sym q.counted) i;
  },
  p.noted ∙ sym q.noted,
)
