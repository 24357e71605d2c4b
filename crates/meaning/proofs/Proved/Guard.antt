-- What stands before the walk: the sizes and the model.
use Rattle.std.specs.Prelude.{ℕ, ◌≤◌, ◌<◌, ◌≡◌, refl, Bool, true, false, List, ltb, length, ℤ}
use Rattle.std.proofs.Common.{subst, subst₂, arith, le-ltb, ltb-true, ltb-false}
use Rattle.meaning.specs.Limits.{fewest_places, most_log_words, most_model_words}
use Rattle.meaning.specs.Read.{Got, got, refused}
use Rattle.meaning.specs.Model.{Model, read_model}
use Rattle.meaning.specs.Check.{shut, accepted, Conclusion, Outcome, shut_early, admitted, guarded, good, bad, good_of, read_good}

pub not_accepted : {num k p : ℕ} {c : Conclusion} {A : Type 0} → shut num k p ≡ accepted c → A
not_accepted e = absurd (let z : ◌≡◌ {A = ℕ} 0 1 = cc in omega arith)

admitted_good : {a b c : Bool} {g : Got Model} {m : Model} {at : ℕ} {rest : List ℤ} (next : Model → Outcome) → a ≡ false → b ≡ false → c ≡ false → g ≡ got m at rest → admitted a b c g next ≡ next m
admitted_good next p q r e = cc

-- a good model and tables of the right sizes
pub record Fits (model log : List ℤ) (places : ℕ) (m : Model) : Type 0 where
  pub model_fits : length model ≤ most_model_words
  pub log_fits : length log ≤ most_log_words
  pub places_suffice : fewest_places ≤ places
  pub at : ℕ
  pub rest : List ℤ
  pub reads : read_model 0 model ≡ got m at rest

pub guarded_good : (model log : List ℤ) (places : ℕ) {m : Model} (next : Model → Outcome) → Fits model log places m → guarded model log places next ≡ next m
guarded_good model log places next g = admitted_good next (le-ltb _ _ g.model_fits) (le-ltb _ _ g.log_fits) (le-ltb _ _ g.places_suffice) g.reads

-- what shuts a check before the walk
pub data Barred (model log : List ℤ) (places : ℕ) : ℕ → ℕ → Type 0 where
  long_model : most_model_words < length model → Barred model log places 1 0
  long_log : most_log_words < length log → Barred model log places 2 0
  few_places : places < fewest_places → Barred model log places 3 0
  bad_model : {num p : ℕ} → read_model 0 model ≡ refused num p → Barred model log places num p

-- to show Q of an outcome, show it of what is shut early and of what is done with a good model
pub guarded_cases : (Q : Outcome → Type 0) (model log : List ℤ) (places : ℕ) (next : Model → Outcome)
    → ((num p : ℕ) → Barred model log places num p → Q (shut_early num p)) → ((m : Model) → Fits model log places m → Q (next m)) → Q (guarded model log places next)
guarded_cases Q model log places next early late = go (ltb most_model_words (length model)) refl (ltb most_log_words (length log)) refl (ltb places fewest_places) refl (read_model 0 model) refl
  where
    go : (a : Bool) → ltb most_model_words (length model) ≡ a → (b : Bool) → ltb most_log_words (length log) ≡ b → (c : Bool) → ltb places fewest_places ≡ c → (g : Got Model) → read_model 0 model ≡ g → Q (admitted a b c g next)
    go true e b f c i g r = early 1 0 (long_model (ltb-true _ _ e))
    go false e true f c i g r = early 2 0 (long_log (ltb-true _ _ f))
    go false e false f true i g r = early 3 0 (few_places (ltb-true _ _ i))
    go false e false f false i (refused num p) r = early num p (bad_model r)
    go false e false f false i (got m at ws) r = late m (record { model_fits = ltb-false _ _ e; log_fits = ltb-false _ _ f; places_suffice = ltb-false _ _ i; at = at; rest = ws; reads = r })

-- what is accepted got through to the walk
pub guarded_accepted : (next : Model → Outcome) (model log : List ℤ) (places : ℕ) {x : Conclusion} {n : Model} {at : ℕ} {rest : List ℤ}
    → read_model 0 model ≡ got n at rest → (guarded model log places next).answer ≡ accepted x → (next n).answer ≡ accepted x
guarded_accepted next model log places {x} {n} r =
    guarded_cases (λ o. o.answer ≡ accepted x → (next n).answer ≡ accepted x) model log places next (λ num p h e. not_accepted e)
    (λ m f e. let q = f.reads in let p : m ≡ n = cc in subst (λ y. (next y).answer ≡ accepted x) p e)

-- ---- good models

pub no_model : {m : Model} {A : Type 0} → bad ≡ good m → A
no_model e = absurd (let z : ◌≡◌ {A = ℕ} 0 1 = cc in omega arith)

pub record WasRead (model : List ℤ) (m : Model) : Type 0 where
  pub at : ℕ
  pub rest : List ℤ
  pub reads : read_model 0 model ≡ got m at rest

pub good_read : (model : List ℤ) {m : Model} → read_good model ≡ good m → WasRead model m
good_read model {m} e = go (ltb most_model_words (length model)) (read_model 0 model) refl e
  where
    go : (a : Bool) (g : Got Model) → read_model 0 model ≡ g → good_of a g ≡ good m → WasRead model m
    go true g r e = no_model e
    go false (refused num p) r e = no_model e
    go false (got n at ws) r e = record { at = at; rest = ws; reads = cc }

pub good_short : (model : List ℤ) {m : Model} → read_good model ≡ good m → length model ≤ most_model_words
good_short model {m} e = go (ltb most_model_words (length model)) refl e
  where
    go : (a : Bool) → ltb most_model_words (length model) ≡ a → good_of a (read_model 0 model) ≡ good m → length model ≤ most_model_words
    go true h e = no_model e
    go false h e = ltb-false _ _ h

-- two checks with good models and the same log and places are shut alike before the walk
admitted_both : (R : Outcome → Outcome → Type 0) → ((num p : ℕ) → R (shut_early num p) (shut_early num p)) → (next₁ next₂ : Model → Outcome) {n₁ n₂ : Model}
    → R (next₁ n₁) (next₂ n₂) → (a₁ a₂ b c : Bool) (g₁ g₂ : Got Model) → good_of a₁ g₁ ≡ good n₁ → good_of a₂ g₂ ≡ good n₂ → R (admitted a₁ b c g₁ next₁) (admitted a₂ b c g₂ next₂)
admitted_both R early next₁ next₂ h true a₂ b c g₁ g₂ e f = no_model e
admitted_both R early next₁ next₂ h false true b c g₁ g₂ e f = no_model f
admitted_both R early next₁ next₂ h false false true c g₁ g₂ e f = early 2 0
admitted_both R early next₁ next₂ h false false false true g₁ g₂ e f = early 3 0
admitted_both R early next₁ next₂ h false false false false (refused num p) g₂ e f = no_model e
admitted_both R early next₁ next₂ h false false false false (got m at ws) (refused num p) e f = no_model f
admitted_both R early next₁ next₂ {n₁} {n₂} h false false false false (got m at ws) (got n at' ws') e f =
    let p : n₁ ≡ m = cc in let q : n₂ ≡ n = cc in subst₂ (λ x y. R (next₁ x) (next₂ y)) p q h

pub guarded_both : (R : Outcome → Outcome → Type 0) → ((num p : ℕ) → R (shut_early num p) (shut_early num p)) → (next₁ next₂ : Model → Outcome) (model₁ model₂ log : List ℤ) (places : ℕ) {n₁ n₂ : Model}
    → read_good model₁ ≡ good n₁ → read_good model₂ ≡ good n₂ → R (next₁ n₁) (next₂ n₂) → R (guarded model₁ log places next₁) (guarded model₂ log places next₂)
guarded_both R early next₁ next₂ model₁ model₂ log places e f h =
    admitted_both R early next₁ next₂ h (ltb most_model_words (length model₁)) (ltb most_model_words (length model₂)) (ltb most_log_words (length log)) (ltb places fewest_places) (read_model 0 model₁) (read_model 0 model₂) e f
