-- The bench lines, the rechecks and the frauds, by computation.
use Rattle.std.specs.Prelude.{ℕ, ◌≡◌, refl, length}
use Rattle.std.proofs.Common.{sym, ap, ◌∙◌, arith}
use Rattle.meaning.specs.Check.{Answer, shut, accepted, carried}
use Rattle.meaning.specs.Bench.{Right, table, RightAgain, rechecks}
use Rattle.meaning.specs.Frauds.{Frauds}

pub right : Right table
right = (refl, (refl, (refl, (refl, (refl, (refl, (refl, (refl, (refl, (refl, (refl, (refl, (refl, (refl, (refl, (refl, (refl, (refl, (refl, (refl, (refl, tt)))))))))))))))))))))

pub right_again : RightAgain rechecks
right_again = (refl, (refl, (refl, (refl, (refl, (refl, (refl, (refl, (refl, (refl, tt))))))))))

-- answers told apart by a number
rank : Answer → ℕ
rank (shut num k p) = 0
rank (accepted c) = 1
rank (carried c) = 2

pub frauds : Frauds
unfolding rank
frauds = record {
  refuses_all = λ num k p e. let h : ◌≡◌ {A = ℕ} 0 1 = ap rank e in omega arith;
  says_the_same = λ o e f. let h : ◌≡◌ {A = ℕ} 1 0 = ap (λ o. rank o.answer) (sym e ∙ f) in omega arith;
  writes_no_places_lem = λ e. let h : ◌≡◌ {A = ℕ} 0 3 = ap (λ o. length o.starts) e in omega arith;
  judges_first_lem = λ e. let h : ◌≡◌ {A = ℕ} 1 0 = ap (λ o. rank o.answer) e in omega arith;
  carries_all_lem = λ c e. let h : ◌≡◌ {A = ℕ} 2 0 = ap (λ r. rank r.outcome.answer) e in omega arith;
  is_whole = λ e. let h : ◌≡◌ {A = ℕ} 1 2 = ap (λ r. rank r.outcome.answer) e in omega arith;
  is_whole_again = λ e. let h : ◌≡◌ {A = ℕ} 0 2 = ap (λ r. rank r.outcome.answer) e in omega arith;
  counts_all_lem = λ e. let h : ◌≡◌ {A = ℕ} 3 0 = e in omega arith;
  counts_the_same = λ n e f. let h : ◌≡◌ {A = ℕ} 0 1 = sym e ∙ f in omega arith;
}
