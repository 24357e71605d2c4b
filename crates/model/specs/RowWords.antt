-- The words of a row are a part of the table: where the row ends, and that its words are those from its start on.
use Prim.Native.Nat.{ℕ, zero, suc, ◌+◌, ◌*◌, ◌≤◌, ◌<◌}
use Rattle.std.specs.Prelude.{◌≡◌, List, ◌∷◌, ℤ, pos, length, take, drop, ◌≤ℤ◌}
use Rattle.std.proofs.Math.Path.{refl}
use Rattle.std.proofs.Common.{sym, ap, subst, ◌∙◌, add-one, drop-cons}
use native.Mathlib.Omega.{arith}
use Rattle.std.proofs.Math.ListN.{get_or}
use Rattle.words.specs.Int.{zz}
use Rattle.meaning.specs.Limits.{most_parts}
use Rattle.meaning.specs.Model.{term_words, variable_words, activity_words, row_words}
use Rattle.reading.specs.At.{At, nat_at, each_at, length_each, Between}
use Rattle.reading.specs.Back.{is_pos}
use Rattle.model.specs.Rows.{term_at, activity_at, row_kind_at, row_at, KindIn, linear_in, all_different_in, cumulative_in, circuit_in, RowIn}

-- how many words a row of kind k with n parts has
abbrev pub kind_size : ℕ → ℕ → ℕ
kind_size zero n = 0
kind_size (suc zero) n = 3 + n * 2
kind_size (suc (suc zero)) n = 2 + n
kind_size (suc (suc (suc zero))) n = 3 + n * 3
kind_size (suc (suc (suc (suc k)))) n = 2 + n

-- the row that begins at p
abbrev pub row_size : At ℕ
row_size s p = kind_size (nat_at s p) (nat_at s (p + 1))

-- both numbers that decide it
pub record RowBegins (s : List ℤ) (p : ℕ) : Type 0 where
  pub kind : Between 1 4 s p
  pub count : Between 1 most_parts s (p + 1)

module _ (s : List ℤ) where
  take_next : (k p : ℕ) → p < length s → take (suc k) (drop p s) ≡ get_or s p (pos 0) ∷ take k (drop (p + 1) s)
  take_next k p h = rw (drop-cons s p (pos 0), add-one)

  -- a word that is a number
  abbrev Whole : ℕ → Type 0
  Whole p = pos 0 ≤ℤ get_or s p (pos 0)

  whole : (p : ℕ) → Whole p → pos (nat_at s p) ≡ get_or s p (pos 0)
  whole p h = sym (is_pos (get_or s p (pos 0)) h)

  further : (k p : ℕ) (j : ℕ) (P : ℕ → Type 0) (n : ℕ) → ((i : ℕ) → i < suc n → P (p + i * k + j)) → (i : ℕ) → i < n → P (p + k + i * k + j)
  further k p j P n h i l = let q : p + suc i * k + j ≡ p + k + i * k + j = omega arith in subst P q (h (suc i) (omega arith))

  first : (k p j : ℕ) (P : ℕ → Type 0) (n : ℕ) → ((i : ℕ) → i < suc n → P (p + i * k + j)) → P (p + j)
  first k p j P n h = let q : p + 0 * k + j ≡ p + j = omega arith in subst P q (h 0 (omega arith))

  term_words_lem : (n p : ℕ) → p + n * 2 ≤ length s → ((i : ℕ) → i < n → Whole (p + i * 2 + 1)) → term_words (each_at term_at 2 n s p) ≡ take (n * 2) (drop p s)
  unfolding each_at
  term_words_lem zero p l h = refl
  term_words_lem (suc n) p l h =
      let q : suc n * 2 ≡ suc (suc (n * 2)) = omega arith in
      let r : p + 2 ≡ p + 1 + 1 = omega arith in
      rw (q, take_next (suc (n * 2)) p (omega arith), take_next (n * 2) (p + 1) (omega arith), ← r, whole (p + 1) (first 2 p 1 Whole n h)) (ap (λ ws. get_or s p (pos 0) ∷ (get_or s (p + 1) (pos 0) ∷ ws)) (term_words_lem n (p + 2) (omega arith) (further 2 p 1 Whole n h)))

  variable_words_lem : (n p : ℕ) → p + n ≤ length s → ((i : ℕ) → i < n → Whole (p + i * 1 + 0)) → variable_words (each_at nat_at 1 n s p) ≡ take n (drop p s)
  unfolding each_at
  variable_words_lem zero p l h = refl
  variable_words_lem (suc n) p l h =
      let q : p + 0 ≡ p = omega arith in
      rw (take_next n p (omega arith), whole p (rw q at (first 1 p 0 Whole n h))) (ap (λ ws. get_or s p (pos 0) ∷ ws) (variable_words_lem n (p + 1) (omega arith) (further 1 p 0 Whole n h)))

  activity_words_lem : (n p : ℕ) → p + n * 3 ≤ length s → ((i : ℕ) → i < n → Whole (p + i * 3 + 0)) → ((i : ℕ) → i < n → Whole (p + i * 3 + 1)) → ((i : ℕ) → i < n → Whole (p + i * 3 + 2)) → activity_words (each_at activity_at 3 n s p) ≡ take (n * 3) (drop p s)
  unfolding each_at
  activity_words_lem zero p l x d u = refl
  activity_words_lem (suc n) p l x d u =
      let z : p + 0 ≡ p = omega arith in
      let q : suc n * 3 ≡ suc (suc (suc (n * 3))) = omega arith in
      let r : p + 2 ≡ p + 1 + 1 = omega arith in
      let t : p + 3 ≡ p + 2 + 1 = omega arith in
      rw (q, take_next (suc (suc (n * 3))) p (omega arith), take_next (suc (n * 3)) (p + 1) (omega arith), ← r, take_next (n * 3) (p + 2) (omega arith), ← t, whole p (rw z at (first 3 p 0 Whole n x)), whole (p + 1) (first 3 p 1 Whole n d), whole (p + 2) (first 3 p 2 Whole n u))
      (ap (λ ws. get_or s p (pos 0) ∷ (get_or s (p + 1) (pos 0) ∷ (get_or s (p + 2) (pos 0) ∷ ws))) (activity_words_lem n (p + 3) (omega arith) (further 3 p 0 Whole n x) (further 3 p 1 Whole n d) (further 3 p 2 Whole n u)))

  -- the words before the parts
  two_words : (m p : ℕ) → p + 2 ≤ length s → take (2 + m) (drop p s) ≡ get_or s p (pos 0) ∷ (get_or s (p + 1) (pos 0) ∷ take m (drop (p + 1 + 1) s))
  two_words m p l = let q : 2 + m ≡ suc (suc m) = omega arith in rw (q, take_next (suc m) p (omega arith), take_next m (p + 1) (omega arith))

  three_words : (m p : ℕ) → p + 3 ≤ length s → take (3 + m) (drop p s) ≡ get_or s p (pos 0) ∷ (get_or s (p + 1) (pos 0) ∷ (get_or s (p + 1 + 1) (pos 0) ∷ take m (drop (p + 1 + 2) s)))
  three_words m p l =
      let q : 3 + m ≡ 2 + suc m = omega arith in
      let r : p + 1 + 2 ≡ p + 1 + 1 + 1 = omega arith in
      rw (q, two_words (suc m) p (omega arith), take_next m (p + 1 + 1) (omega arith), ← r)

  head_two : (m p : ℕ) {k n : ℕ} {ws : List ℤ} → p + 2 ≤ length s → pos k ≡ get_or s p (pos 0) → pos n ≡ get_or s (p + 1) (pos 0) → ws ≡ take m (drop (p + 1 + 1) s) → pos k ∷ (pos n ∷ ws) ≡ take (2 + m) (drop p s)
  head_two m p l a b e = rw (two_words m p l, a, b, e)

  head_three : (m p : ℕ) {k n : ℕ} {c : ℤ} {ws : List ℤ} → p + 3 ≤ length s → pos k ≡ get_or s p (pos 0) → pos n ≡ get_or s (p + 1) (pos 0) → c ≡ get_or s (p + 1 + 1) (pos 0) → ws ≡ take m (drop (p + 1 + 2) s) → pos k ∷ (pos n ∷ (c ∷ ws)) ≡ take (3 + m) (drop p s)
  head_three m p l a b c e = rw (three_words m p l, a, b, c, e)

  plus_none : (P : ℕ → Type 0) (p : ℕ) → P p → P (p + 0)
  plus_none P p h = let q : p ≡ p + 0 = omega arith in subst P q h

  kind_words : (v p k : ℕ) → nat_at s p ≡ k → p < length s → Whole p → KindIn v s (p + 1) k → (row_words (row_kind_at k s (p + 1)) ≡ take (kind_size k (nat_at s (p + 1))) (drop p s)) × (p + kind_size k (nat_at s (p + 1)) ≤ length s)
  kind_words v p k e i w (linear_in c j t) =
      let n = nat_at s (p + 1) in
      (head_three (n * 2) p (omega (arith, j)) (ap pos (sym e) ∙ whole p w) (ap pos (length_each term_at 2 n s (p + 1 + 2)) ∙ whole (p + 1) c.signless) refl (term_words_lem n (p + 1 + 2) t.fits (λ i h. (t.named i h).signless)), omega (arith, t.fits))
  kind_words v p k e i w (all_different_in c t) =
      let n = nat_at s (p + 1) in
      (head_two n p (omega (arith, c.inside)) (ap pos (sym e) ∙ whole p w) (ap pos (length_each nat_at 1 n s (p + 1 + 1)) ∙ whole (p + 1) c.signless) (variable_words_lem n (p + 1 + 1) t.fits (λ i h. let q : p + 1 + 1 + i ≡ p + 1 + 1 + i * 1 + 0 = omega arith in subst Whole q (t.named i h).signless)), omega (arith, t.fits))
  kind_words v p k e i w (cumulative_in c j r t) =
      let n = nat_at s (p + 1) in
      (head_three (n * 3) p (omega (arith, j)) (ap pos (sym e) ∙ whole p w) (ap pos (length_each activity_at 3 n s (p + 1 + 2)) ∙ whole (p + 1) c.signless) (whole (p + 1 + 1) r.0) (activity_words_lem n (p + 1 + 2) t.fits (λ i h. plus_none Whole (p + 1 + 2 + i * 3) (t.named i h).signless) (λ i h. omega (arith, zz, (t.lasting i h).0)) (λ i h. (t.uses i h).0)), omega (arith, t.fits))
  kind_words v p k e i w (circuit_in c t) =
      let n = nat_at s (p + 1) in
      (head_two n p (omega (arith, c.inside)) (ap pos (sym e) ∙ whole p w) (ap pos (length_each nat_at 1 n s (p + 1 + 1)) ∙ whole (p + 1) c.signless) (variable_words_lem n (p + 1 + 1) t.fits (λ i h. let q : p + 1 + 1 + i ≡ p + 1 + 1 + i * 1 + 0 = omega arith in subst Whole q (t.named i h).signless)), omega (arith, t.fits))

  module _ {v p : ℕ} (h : RowIn v s p) where
    pub row_words_lem : row_words (row_at s p) ≡ take (row_size s p) (drop p s)
    row_words_lem = (kind_words v p (nat_at s p) refl h.inside h.signless h.kind).0

    pub row_fits : p + row_size s p ≤ length s
    row_fits = (kind_words v p (nat_at s p) refl h.inside h.signless h.kind).1

-- kinds 2 and 4 are alike
pub plain_size : (k n : ℕ) → 1 ≤ k → (k ≡ 1 → ⊥) → (k ≡ 3 → ⊥) → kind_size k n ≡ 2 + n
plain_size zero n h a b = absurd (omega arith)
plain_size (suc zero) n h a b = absurd (a refl)
plain_size (suc (suc zero)) n h a b = refl
plain_size (suc (suc (suc zero))) n h a b = absurd (b refl)
plain_size (suc (suc (suc (suc k)))) n h a b = refl

begins_by : {v : ℕ} (s : List ℤ) (p k : ℕ) → nat_at s p ≡ k → p < length s → pos 0 ≤ℤ get_or s p (pos 0) → KindIn v s (p + 1) k → RowBegins s p
begins_by s p k e i w (linear_in c j t) = record { kind = record { inside = i; signless = w; from = omega arith; upto = omega arith }; count = record { inside = c.inside; signless = c.signless; from = c.from; upto = c.upto } }
begins_by s p k e i w (all_different_in c t) = record { kind = record { inside = i; signless = w; from = omega arith; upto = omega arith }; count = record { inside = c.inside; signless = c.signless; from = omega (arith, c.from); upto = c.upto } }
begins_by s p k e i w (cumulative_in c j r t) = record { kind = record { inside = i; signless = w; from = omega arith; upto = omega arith }; count = record { inside = c.inside; signless = c.signless; from = c.from; upto = c.upto } }
begins_by s p k e i w (circuit_in c t) = record { kind = record { inside = i; signless = w; from = omega arith; upto = omega arith }; count = record { inside = c.inside; signless = c.signless; from = omega (arith, c.from); upto = c.upto } }

pub row_begins : {v : ℕ} (s : List ℤ) (p : ℕ) → RowIn v s p → RowBegins s p
row_begins s p h = begins_by s p (nat_at s p) refl h.inside h.signless h.kind
