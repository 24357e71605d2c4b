-- Nothing else satisfies the promises of `check` and `recheck`: two answers that both do are equal, and so are the places.
use Rattle.std.specs.Prelude.{ℕ, ◌≡◌, List}
use Rattle.std.proofs.Common.{sym, ◌∙◌}
use Rattle.meaning.specs.Check as says
use Rattle.walking.specs.Only.{only_answer}
use Rattle.checker.specs.Checks.{Checks, Rechecks}
use Rattle.walking.specs.declared.Answer.{Answer}
use Rattle.checker.specs.declared.Rechecked.{Rechecked}

module _ (lent : List ℕ) where
  pub only_check : (o : says.Outcome) (a b : Answer) (l m : List ℕ) → Checks a lent l o → Checks b lent m o → (a ≡ b) × (l ≡ m)
  only_check o a b l m p q = (only_answer a b (p.answered ∙ sym q.answered), p.noted ∙ sym q.noted)

  pub only_recheck : (o : says.Rechecked) (a b : Rechecked) (l m : List ℕ) → Rechecks a lent l o → Rechecks b lent m o → (a ≡ b) × (l ≡ m)
  only_recheck o a b l m p q = (
    λ i. record {
      answer = only_answer a.answer b.answer (p.answered ∙ sym q.answered) i;
      changed = (p.sized ∙ sym q.sized) i;
      judged = (p.counted ∙ sym q.counted) i;
    },
    p.noted ∙ sym q.noted,
  )
