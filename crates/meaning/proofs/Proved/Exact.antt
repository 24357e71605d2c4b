-- `Exact`: a log is accepted exactly when each of its steps meets its rule and its first conclusion is its last step.
use Rattle.std.specs.Prelude.{ℕ, suc, ◌≡◌, refl, true, List, [], ◌∷◌, ◌++◌, length, ℤ}
use Rattle.std.proofs.Common.{le_refl, ◌∙◌, ap}
use Rattle.meaning.specs.Read.{got}
use Rattle.meaning.specs.Model.{Model, read_model}
use Rattle.meaning.specs.Log.{Fact}
use Rattle.meaning.specs.Check.{accepted, Conclusion, Outcome, State, check, over, start}
use Rattle.meaning.specs.Claims.{Holds, more, last, Exact}
use Rattle.meaning.proofs.Proved.Walked.{Walked, cut, unread, failed, made, ended, trailed, walked, walked_is}
use Rattle.meaning.proofs.Proved.Guard.{Fits, guarded_good, guarded_accepted, not_accepted}

-- every step is held against its rule
abbrev pub Whole : Model → ℕ → State → ℕ → List ℤ → Outcome → Type 0
Whole = Walked (λ t. true) accepted

pub accepted_holds : {m : Model} {c : Conclusion} {k at : ℕ} {s : State} {ws : List ℤ} {o : Outcome} → Whole m k s at ws o → o.answer ≡ accepted c → Holds m k at s.facts ws c
accepted_holds cut h = not_accepted h
accepted_holds (unread r) h = not_accepted h
accepted_holds (failed r j) h = not_accepted h
accepted_holds (made r j e w) h = more r j e (accepted_holds w h)
accepted_holds {c = c} (ended r j e) h = last {c = c} r j (cc)
accepted_holds (trailed r j e) h = not_accepted h

-- the walk of a log that holds
pub record Accepted (m : Model) (k : ℕ) (s : State) (at : ℕ) (ws : List ℤ) (c : Conclusion) : Type 0 where
  pub outcome : Outcome
  pub walks : Whole m k s at ws outcome
  pub says : outcome.answer ≡ accepted c

pub holds_accepted : {m : Model} {c : Conclusion} {k at : ℕ} {fs : List Fact} {ws : List ℤ} (ss : List ℕ) (j : ℕ) → Holds m k at fs ws c
    → Accepted m k (record { facts = fs; starts = ss; judged = j }) at ws c
holds_accepted {at = at} ss n (more r j e h) = let a = holds_accepted (ss ++ (at ∷ [])) (suc n) h in record { outcome = a.outcome; walks = made r j e a.walks; says = a.says }
holds_accepted ss n (last r j e) = record { outcome = _; walks = ended r j e; says = refl }

pub whole_walk : (m : Model) (log : List ℤ) → Whole m 0 start 0 log (over (λ t. true) accepted m log)
whole_walk m log = walked (λ t. true) accepted m (length log) 0 start 0 log (le_refl _)

-- of whatever sizes the tables are
pub check_holds : (model log : List ℤ) (places : ℕ) {m : Model} {at : ℕ} {rest : List ℤ} {c : Conclusion} → read_model 0 model ≡ got m at rest → (check model log places).answer ≡ accepted c
    → Holds m 0 0 [] log c
check_holds model log places {m} r e = accepted_holds (whole_walk m log) (guarded_accepted (λ m. over (λ t. true) accepted m log) model log places r e)

holds_check : (model log : List ℤ) (places : ℕ) {m : Model} {c : Conclusion} → Fits model log places m → Holds m 0 0 [] log c → (check model log places).answer ≡ accepted c
holds_check model log places {m} f h =
    let a = holds_accepted [] 0 h in
    ap (λ o. o.answer) (guarded_good model log places _ f ∙ walked_is (λ t. true) accepted m (length log) (le_refl _) a.walks) ∙ a.says

pub exact : Exact
exact model log places m at rest c hm hl hp r =
    (check_holds model log places r, holds_check model log places (record { model_fits = hm; log_fits = hl; places_suffice = hp; at = at; rest = rest; reads = r }))
