-- A reader that is given what stands for its two refusals tells the same whatever numbers these have: so it does where they are numbers, and where they are reasons.
use Rattle.std.specs.Prelude.{ℕ, zero, suc, ◌≡◌, Bool, true, false, List, [], ◌∷◌, ℤ, pos, nat_abs, drop, Result, Ok, Err}
use Rattle.std.proofs.Common.{sym, ap, ◌∙◌, arith}
use Rattle.meaning.specs.Read.{Got, got, refused, Reader, within, word, count, below}
use Rattle.reading.specs.Reading.{skim, skim_give}
use Rattle.reading.specs.Reasons.{number_of}
use Rattle.reading.specs.Told.{told_by, Skims, SkimsBy}
use Rattle.reading.specs.declared.refusals.Reason.{Reason}
use Rattle.reading.specs.declared.refusals.Refusal.{Refusal}

-- given `early` and `outside`, p tells what r says where these have any numbers
abbrev pub SkimsWith : {E A : Type 0} → (ℕ → ℕ → Reader A) → E → E → List ℤ → ℕ → Result ℕ E → Type 0
SkimsWith {E} r early outside s at p = (number : E → ℕ) → SkimsBy number (r (number early) (number outside)) s at p

-- ---- given two numbers, it refuses with these
pub numbered : {A : Type 0} (r : ℕ → ℕ → Reader A) {early outside : ℕ} {s : List ℤ} {at : ℕ} {p : Result ℕ ℕ} → SkimsWith r early outside s at p → told_by (λ n. n) at s p ≡ skim (r early outside at (drop at s))
numbered r h = (h (λ n. n)).told

-- ---- given two refusals at its position, it refuses with these
-- what is refused has one of the two numbers
abbrev Refuses : {A : Type 0} → (ℕ → ℕ → Reader A) → Type 0
Refuses r = (n at : ℕ) (ws : List ℤ) (num p : ℕ) → skim (r n n at ws) ≡ refused num p → num ≡ n

word_refuses : (lo hi : ℤ) → Refuses (λ early outside. word early outside lo hi)
word_refuses lo hi n at [] num p e = cc
word_refuses lo hi n at (w ∷ ws) num p e = go (within lo hi w) e
  where
    go : (b : Bool) → ◌≡◌ {A = Got (Unit {0})} (skim (elim b [ true ↦ got w (suc at) ws | false ↦ refused n at ])) (refused num p) → num ≡ n
    go true e = let z : ◌≡◌ {A = ℕ} 0 1 = cc in absurd (omega arith)
    go false e = cc

count_refuses : (lo hi : ℕ) → Refuses (λ early outside. count early outside lo hi)
count_refuses lo hi n at ws num p e = word_refuses (pos lo) (pos hi) n at ws num p (sym (skim_give (word n n (pos lo) (pos hi) at ws) nat_abs) ∙ e)

below_refuses : (m : ℕ) → Refuses (λ early outside. below early outside m)
below_refuses zero n at ws num p e = word_refuses (pos 1) (pos 0) n at ws num p (sym (skim_give (word n n (pos 1) (pos 0) at ws) (λ w. 0)) ∙ e)
below_refuses (suc m) n at ws num p e = count_refuses 0 m n at ws num p e

module _ {A : Type 0} (r : ℕ → ℕ → Reader A) (k : Refuses r) {early outside : Refusal} {s : List ℤ} {at : ℕ} where
  reasons : (p : Result ℕ Refusal) → early.position ≡ at → outside.position ≡ at → SkimsWith r early outside s at p → Skims (r (number_of early.reason) (number_of outside.reason)) s at p
  reasons (Ok n) i j h = record { told = (h (λ e. number_of e.reason)).told }
  reasons (Err e) i j h =
      let t : refused e.position at ≡ skim (r at at at (drop at s)) = (h (λ e. e.position)).told ∙ ap (λ (n : ℕ). skim (r n outside.position at (drop at s))) i ∙ ap (λ (n : ℕ). skim (r at n at (drop at s))) j in
      let q : e.position ≡ at = k at at (drop at s) e.position at (sym t) in
      record { told = ap (refused (number_of e.reason)) q ∙ (h (λ e. number_of e.reason)).told }

-- e is the reason x at a position
abbrev pub Stands : ℕ → Reason → Refusal → Type 0
Stands at x e = (e.reason ≡ x) × (e.position ≡ at)

pub skims_word : (x y : Reason) (lo hi : ℤ) {early outside : Refusal} {s : List ℤ} {at : ℕ} {p : Result ℕ Refusal} → Stands at x early → Stands at y outside → SkimsWith (λ n m. word n m lo hi) early outside s at p → Skims (word (number_of x) (number_of y) lo hi) s at p
skims_word x y lo hi i j h = rw (← i.0, ← j.0) (reasons (λ n m. word n m lo hi) (word_refuses lo hi) _ i.1 j.1 h)

pub skims_count : (x y : Reason) (lo hi : ℕ) {early outside : Refusal} {s : List ℤ} {at : ℕ} {p : Result ℕ Refusal} → Stands at x early → Stands at y outside → SkimsWith (λ n m. count n m lo hi) early outside s at p → Skims (count (number_of x) (number_of y) lo hi) s at p
skims_count x y lo hi i j h = rw (← i.0, ← j.0) (reasons (λ n m. count n m lo hi) (count_refuses lo hi) _ i.1 j.1 h)

pub skims_below : (x y : Reason) (k : ℕ) {early outside : Refusal} {s : List ℤ} {at : ℕ} {p : Result ℕ Refusal} → Stands at x early → Stands at y outside → SkimsWith (λ n m. below n m k) early outside s at p → Skims (below (number_of x) (number_of y) k) s at p
skims_below x y k i j h = rw (← i.0, ← j.0) (reasons (λ n m. below n m k) (below_refuses k) _ i.1 j.1 h)
