-- `Framed`: good models with the same bounds and number of rows that agree on the cited rows get the same outcome.
use Rattle.std.specs.Prelude.{ℕ, ◌≡◌, refl, true, List, [], length, ℤ}
use Rattle.std.proofs.Common.{le_refl, ◌∙◌, ap, ap₂}
use Rattle.std.proofs.Math.Path.{sym}
use Rattle.meaning.specs.Model.{Model}
use Rattle.meaning.specs.Log.{Fact, step}
use Rattle.meaning.specs.Judge.{row_at}
use Rattle.meaning.specs.Check.{fact_at, Answer, accepted, Conclusion, read_step, over}
use Rattle.meaning.specs.Claims.{Cited, here, later, Framed}
use Rattle.meaning.proofs.Proved.Walked.{walked_is}
use Rattle.meaning.proofs.Proved.Guard.{guarded_both}
use Rattle.meaning.proofs.Proved.Exact.{whole_walk}
use Rattle.meaning.proofs.Proved.SameRows.{judge_same}
use Rattle.meaning.proofs.Proved.Alike.{Says, shuts, concludes_so, Alike, matched}

-- the steps that are read depend on the number of variables and the number of rows alone
pub same_reading : (m₁ m₂ : Model) → m₁.bounds ≡ m₂.bounds → length m₁.rows ≡ length m₂.rows → (k at : ℕ) (ws : List ℤ) → read_step m₂ k at ws ≡ read_step m₁ k at ws
same_reading m₁ m₂ b l k at ws = ap₂ (λ v c. step v c k at ws) (ap length (sym b)) (sym l)

says_same : {say : Conclusion → Answer} {x y : Answer} → Says say say x y → y ≡ x
says_same shuts = refl
says_same concludes_so = refl

module _ (m₁ m₂ : Model) (b : m₁.bounds ≡ m₂.bounds) (l : length m₁.rows ≡ length m₂.rows) where
  -- the models agree on what is cited from step k on
  Agree : ℕ → ℕ → List Fact → List ℤ → Type 0
  Agree k at fs ws = (r : ℕ) → Cited m₁ r k at fs ws → row_at m₁ r ≡ row_at m₂ r

  framed_alike : Alike (λ t. true) (λ t. true) m₁ m₂ Agree
  unfolding Agree
  framed_alike = record {
    reads_same = same_reading m₁ m₂ b l;
    same_verdict = λ {k} {at} {at'} {fs} {ws} {rest} {t} h r. sym (judge_same m₁ m₂ (fact_at fs) t b (λ q x. h q (here r x)));
    known_on = λ h r v u q x. h q (later r v u x);
  }

  framed_walk : (log : List ℤ) → Agree 0 0 [] log → over (λ t. true) accepted m₁ log ≡ over (λ t. true) accepted m₂ log
  framed_walk log h =
      let n = matched accepted accepted framed_alike 0 (λ e. refl) h (whole_walk m₁ log) in
      let p = says_same n.says in let q = n.starts_same in let j = n.judged_same (λ t. refl) in
      sym (walked_is (λ t. true) accepted m₂ (length log) (le_refl _) n.walks ∙ (λ i. record { answer = p i; starts = q i; judged = j i }))

pub framed : Framed
unfolding Agree
framed model₁ model₂ log places m₁ m₂ g₁ g₂ b l h = guarded_both ◌≡◌ (λ num p. refl) _ _ model₁ model₂ log places g₁ g₂ (framed_walk m₁ m₂ b l log h)
