-- Two walks over one log that read the same steps and give each the same verdict come to matching outcomes.
use Rattle.std.specs.Prelude.{ℕ, suc, ◌≡◌, refl, Bool, List, [], ◌∷◌, ◌++◌, ℤ}
use Rattle.std.proofs.Common.{◌∙◌, ap₂}
use Rattle.meaning.specs.Read.{got}
use Rattle.meaning.specs.Model.{Model}
use Rattle.meaning.specs.Log.{Fact, Step}
use Rattle.meaning.specs.Judge.{passes}
use Rattle.meaning.specs.Check.{Answer, shut, Conclusion, Outcome, State, makes, turn, one_more, verdict_of, read_step}
use Rattle.meaning.proofs.Proved.Walked.{Walked, cut, unread, failed, made, ended, trailed}

-- the same refusal, or the same conclusion, each said in its own way
pub data Says (say₁ say₂ : Conclusion → Answer) : Answer → Answer → Type 0 where
  shuts : {num k p : ℕ} → Says say₁ say₂ (shut num k p) (shut num k p)
  concludes_so : {c : Conclusion} → Says say₁ say₂ (say₁ c) (say₂ c)

-- `Known k at fs ws`: what the second walk rests on at step k, with the facts fs and the words ws left
pub record Alike (held₁ held₂ : Step → Bool) (m₁ m₂ : Model) (Known : ℕ → ℕ → List Fact → List ℤ → Type 0) : Type 0 where
  pub reads_same : (k at : ℕ) (ws : List ℤ) → read_step m₂ k at ws ≡ read_step m₁ k at ws
  pub same_verdict : {k at at' : ℕ} {fs : List Fact} {ws rest : List ℤ} {t : Step}
      → Known k at fs ws → read_step m₁ k at ws ≡ got t at' rest → verdict_of (held₂ t) m₂ fs t ≡ verdict_of (held₁ t) m₁ fs t
  pub known_on : {k at at' : ℕ} {fs : List Fact} {ws rest : List ℤ} {t : Step} {f : Fact}
      → Known k at fs ws → read_step m₁ k at ws ≡ got t at' rest → verdict_of (held₁ t) m₁ fs t ≡ passes → turn t ≡ makes f → Known (suc k) at' (fs ++ (f ∷ [])) rest

-- a second outcome that matches the first, o
pub record Matched (held₁ held₂ : Step → Bool) (say₁ say₂ : Conclusion → Answer) (m₂ : Model) (k : ℕ) (s : State) (at : ℕ) (ws : List ℤ) (o : Outcome) : Type 0 where
  pub other : Outcome
  pub walks : Walked held₂ say₂ m₂ k s at ws other
  pub says : Says say₁ say₂ o.answer other.answer
  pub starts_same : other.starts ≡ o.starts
  pub judged_same : ((t : Step) → held₂ t ≡ held₁ t) → other.judged ≡ o.judged

module _ {held₁ held₂ : Step → Bool} (say₁ say₂ : Conclusion → Answer) {m₁ m₂ : Model} {Known : ℕ → ℕ → List Fact → List ℤ → Type 0} (a : Alike held₁ held₂ m₁ m₂ Known) where
  pub matched : {k at : ℕ} {s : State} {ws : List ℤ} {o : Outcome} (j : ℕ) → (((t : Step) → held₂ t ≡ held₁ t) → j ≡ s.judged) → Known k at s.facts ws
      → Walked held₁ say₁ m₁ k s at ws o → Matched held₁ held₂ say₁ say₂ m₂ k (record { facts = s.facts; starts = s.starts; judged = j }) at ws o
  matched j e i (cut) = record { other = _; walks = cut; says = shuts; starts_same = refl; judged_same = e }
  matched j e i (unread {k} {at} {w = w} {ws = ws} r) = record { other = _; walks = unread (a.reads_same k at (w ∷ ws) ∙ r); says = shuts; starts_same = refl; judged_same = e }
  matched j e i (failed {k} {at} {ws = ws} {t = t} r v) =
      record { other = _; walks = failed (a.reads_same k at ws ∙ r) (a.same_verdict i r ∙ v); says = shuts; starts_same = refl; judged_same = λ h. ap₂ one_more (h t) (e h) }
  matched j e i (made {k} {at} {ws = ws} {t = t} r v u w) =
      let n = matched (one_more (held₂ t) j) (λ h. ap₂ one_more (h t) (e h)) (a.known_on i r v u) w in
      record { other = n.other; walks = made (a.reads_same k at ws ∙ r) (a.same_verdict i r ∙ v) u n.walks; says = n.says; starts_same = n.starts_same; judged_same = n.judged_same }
  matched j e i (ended {k} {at} {ws = ws} {t = t} r v u) =
      record { other = _; walks = ended (a.reads_same k at ws ∙ r) (a.same_verdict i r ∙ v) u; says = concludes_so; starts_same = refl; judged_same = λ h. ap₂ one_more (h t) (e h) }
  matched j e i (trailed {k} {at} {ws = ws} {t = t} r v u) =
      record { other = _; walks = trailed (a.reads_same k at ws ∙ r) (a.same_verdict i r ∙ v) u; says = shuts; starts_same = refl; judged_same = λ h. ap₂ one_more (h t) (e h) }
