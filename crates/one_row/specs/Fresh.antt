-- Variables of which none stands twice, read one after the other; and kinds 2 and 4, which are read alike.
use Rattle.std.specs.Prelude.{ℕ, zero, suc, ◌+◌, ◌-◌, ◌≤◌, ◌<◌, ◌≡◌, refl, Bool, true, false, List, [], ◌∷◌, ◌⊎◌, ℤ, pos, nat_abs, length, get_or, take, drop, ◌≤ℤ◌, eqb, Result, Ok, Err}
use Rattle.std.proofs.Common.{sym, ap, ◌∙◌, inl, inr, ⊎_elim, eq-or-lt_of_le, arith, eq-eqb, ne_eqb, length-drop}
use Rattle.std.proofs.Math.Nat.{sub-zero, sub_self}
use Rattle.std.proofs.lemmas.List.{get_or-take, get_or-drop, length-take-le}
use Rattle.std.proofs.lemmas.Bool.Decides.{Decides-int_eq}
use Rattle.std.specs.List.{IsAnyAnswer}
use Rattle.std.specs.Ordering.{int_eq}
use Rattle.words.specs.Lists.{member}
use Rattle.words.specs.ListFacts.{or_left, or_right, clash}
use Rattle.reading.specs.At.{nat_at}
use Rattle.reading.specs.Back.{is_pos, below_back, below_stands}
use Rattle.reading.specs.Over.{got_over, found}
use Rattle.reading.specs.Kinds.{row_kind, is_all_different, is_circuit}
use Rattle.reading.specs.Reasons.{number_of}
use Rattle.reading.specs.Told.{Skims}
use Rattle.reading.specs.declared.kinds.RowKind.TheVariants as row
use Rattle.reading.specs.declared.refusals.Refusal.{Refusal}
use Rattle.meaning.specs.Limits.{most_parts}
use Rattle.words.specs.Int.{zz}
use Rattle.meaning.specs.Read.{Got, got, refused, bind_got, ◌>>=◌, give, count}
use Rattle.reading.specs.Reading.{skim, skim_give, skim_refused}
use Rattle.meaning.specs.Model.{variable_of, fresh_word, distinct, row_of_kind, all_different, circuit}

-- ---- the variables that stand in i words from a position, the last first
unfoldable pub seen : List ℤ → ℕ → ℕ → List ℕ
seen s from zero = []
seen s from (suc i) = nat_abs (get_or s (from + i) (pos 0)) ∷ seen s from i

-- no word from a to b is negative
abbrev pub NonNeg : List ℤ → ℕ → ℕ → Type 0
NonNeg s a b = (k : ℕ) → a ≤ k → k < b → pos 0 ≤ℤ get_or s k (pos 0)

pub none_yet : (s : List ℤ) (a : ℕ) → NonNeg s a a
none_yet s a k h l = absurd (omega arith)

module _ (s : List ℤ) (from at x : ℕ) (h : from ≤ at) (e : get_or s at (pos 0) ≡ pos x) where
  pub one_more_lem : NonNeg s from at → NonNeg s from (at + 1)
  one_more_lem p k a b = go (eq-or-lt_of_le (omega arith))
    where
      go : (k ≡ at) ⊎ (k < at) → pos 0 ≤ℤ get_or s k (pos 0)
      go (inl q) = rw (ap (λ (j : ℕ). get_or s j (pos 0)) q ∙ e) (omega (arith, zz))
      go (inr l) = p k a l

  seen_suc : (d : ℕ) → from + d ≡ at → seen s from (suc d) ≡ x ∷ seen s from d
  unfolding seen
  seen_suc d q = rw (q, e)

  pub seen_more : seen s from (at + 1 - from) ≡ x ∷ seen s from (at - from)
  seen_more = let q : at + 1 - from ≡ suc (at - from) = omega arith in rw q (seen_suc (at - from) (omega arith))

  pub seen_hit : (y : ℕ) → x ≡ y → member eqb y (seen s from (at + 1 - from)) ≡ true
  seen_hit y q = rw (seen_more, eq-eqb y x (sym q), member)

  pub seen_miss : (y : ℕ) → (x ≡ y → ⊥) → member eqb y (seen s from (at + 1 - from)) ≡ member eqb y (seen s from (at - from))
  seen_miss y q = rw (seen_more, ne_eqb y x (λ r. q (sym r)), member)

-- x stands among the d words from a position, or it does not
module _ (s : List ℤ) (from x : ℕ) where
  pub seen_has : (d k : ℕ) → k < d → nat_at s (from + k) ≡ x → member eqb x (seen s from d) ≡ true
  unfolding seen
  seen_has zero k l e = absurd (omega arith)
  seen_has (suc d) k l e =
      ⊎_elim
      (λ q. or_left (member eqb x (seen s from d)) (eq-eqb x (nat_at s (from + d)) (sym (rw q at e))))
      (λ m. or_right (eqb x (nat_at s (from + d))) (seen_has d k m e))
      (eq-or-lt_of_le (omega arith))

  pub seen_lacks : (d : ℕ) → ((k : ℕ) → k < d → nat_at s (from + k) ≡ x → ⊥) → member eqb x (seen s from d) ≡ false
  unfolding seen
  seen_lacks zero h = refl
  seen_lacks (suc d) h = rw (ne_eqb x (nat_at s (from + d)) (λ r. h d (omega arith) (sym r)), seen_lacks d (λ k l. h k (omega arith)))

-- what the search for w among the words from..at answers
abbrev pub Searched : List ℤ → ℕ → ℕ → ℤ → Bool → Type 0
Searched s from at w = IsAnyAnswer (λ y t. int_eq y w ≡ t) (take (at - from) (drop from s))

-- the words hold w, or they do not: so do the variables that stand there
module _ (s : List ℤ) (from at : ℕ) (w : ℤ) (a : from ≤ at) (b : at ≤ length s) where
  among : List ℤ
  among = take (at - from) (drop from s)

  word_among : (k : ℕ) → k < at - from → get_or among k (pos 0) ≡ get_or s (from + k) (pos 0)
  unfolding among
  word_among k l = get_or-take (at - from) (drop from s) k (pos 0) l ∙ get_or-drop from s k (pos 0)

  among_length : length among ≡ at - from
  unfolding among
  among_length = length-take-le (at - from) (drop from s) (omega (arith, length-drop from s))

  pub seen_test : NonNeg s from at → pos 0 ≤ℤ w → (r : Bool) → Searched s from at w r → member eqb (nat_abs w) (seen s from (at - from)) ≡ r
  unfolding among
  seen_test p q true (k, l, h) =
      let m : k < at - from = omega (arith, among_length) in
      seen_has s from (nat_abs w) (at - from) k m (ap nat_abs (sym (word_among k m) ∙ (Decides-int_eq (get_or among k (pos 0)) w).0 (h (pos 0))))
  seen_test p q false h =
      seen_lacks s from (nat_abs w) (at - from) (λ k m e.
      let g = p (from + k) (omega arith) (omega arith) in
      let same = word_among k m ∙ is_pos (get_or s (from + k) (pos 0)) g ∙ ap pos e ∙ sym (is_pos w q) in
      clash ((Decides-int_eq (get_or among k (pos 0)) w).1 same) (h k (pos 0) (omega arith) (omega (arith, among_length))))

-- ---- one more variable of a row of which none stands twice
module _ (v k at : ℕ) (old : List ℕ) (ws : List ℤ) where
  pub distinct_more : {x n : ℕ} {vs : List ℤ} → variable_of v at ws ≡ got x n vs → member eqb x old ≡ false → skim (distinct v (suc k) old at ws) ≡ skim (distinct v k (x ∷ old) n vs)
  distinct_more {x} {n} {vs} e m = rw (e, m, fresh_word) (skim_give (distinct v k (x ∷ old) n vs) (λ xs. x ∷ xs))

  pub distinct_twice : {x n : ℕ} {vs : List ℤ} → variable_of v at ws ≡ got x n vs → member eqb x old ≡ true → skim (distinct v (suc k) old at ws) ≡ refused 6 at
  distinct_twice e m = rw (e, m, fresh_word)

  pub distinct_stop : {num p : ℕ} → variable_of v at ws ≡ refused num p → skim (distinct v (suc k) old at ws) ≡ refused num p
  distinct_stop e = rw e

-- ---- n variables in turn: i were read, and the next begins at `at`
abbrev fresh_left : ℕ → List ℤ → ℕ → ℕ → ℕ → ℕ → Got (Unit {0})
fresh_left v s from n at i = skim (distinct v (n - i) (seen s from (at - from)) at (drop at s))

pub record Fresh (v : ℕ) (s : List ℤ) (from n at i : ℕ) : Type 0 where
  pub few : i ≤ n
  pub onward : from ≤ at
  pub numbers : NonNeg s from at
  pub rest : skim (distinct v n [] from (drop from s)) ≡ fresh_left v s from n at i

pub first_fresh : (v : ℕ) (s : List ℤ) (from n : ℕ) → Fresh v s from n from 0
unfolding seen
first_fresh v s from n = record { few = omega arith; onward = omega arith; numbers = none_yet s from; rest = rw (sub-zero, sub_self) }

module _ {v : ℕ} {s : List ℤ} {from n at i : ℕ} (t : Fresh v s from n at i) where
  pub fresh_ends : n ≤ i → Skims (distinct v n []) s from (Ok at)
  fresh_ends l = let z : n - i ≡ 0 = omega arith in record { told = sym (t.rest ∙ rw z) }

  module _ (l : i < n) where
    left : n - i ≡ suc (n - (i + 1))
    left = omega arith

    pub fresh_stops : {e : Refusal} → Skims (variable_of v) s at (Err e) → Skims (distinct v n []) s from (Err e)
    fresh_stops h = record { told = sym (t.rest ∙ rw left (distinct_stop v (n - (i + 1)) at (seen s from (at - from)) (drop at s) (skim_refused (variable_of v at (drop at s)) (sym h.told)))) }

    module _ {m : ℕ} (h : Skims (variable_of v) s at (Ok m)) where
      abbrev x : ℕ
      x = nat_at s at

      is : variable_of v at (drop at s) ≡ got x m (drop m s)
      is = got_over h (below_back 4 5 v)

      word_is : get_or s at (pos 0) ≡ pos x
      word_is = below_stands 4 5 v s at is

      -- the test that the code makes
      pub tested : (r : Bool) → Searched s from at (get_or s at (pos 0)) r → member eqb x (seen s from (at - from)) ≡ r
      tested r k = seen_test s from at (get_or s at (pos 0)) t.onward (omega (arith, (found h (below_back 4 5 v)).known.inside)) t.numbers (omega (arith, zz, word_is)) r k

      pub fresh_twice : {e : Refusal} → number_of e.reason ≡ 6 → e.position ≡ at → member eqb x (seen s from (at - from)) ≡ true → Skims (distinct v n []) s from (Err e)
      fresh_twice a b w = record { told = rw (a, b) (sym (t.rest ∙ rw left (distinct_twice v (n - (i + 1)) at (seen s from (at - from)) (drop at s) is w))) }

      pub fresh_more : member eqb x (seen s from (at - from)) ≡ false → Fresh v s from n m (i + 1)
      fresh_more w =
          let o = (found h (below_back 4 5 v)).next in
          let j : seen s from (m - from) ≡ x ∷ seen s from (at - from) = ap (λ (j : ℕ). seen s from (j - from)) o ∙ seen_more s from at x t.onward word_is in
          record {
            few = omega arith;
            onward = omega (arith, o, t.onward);
            numbers = rw o (one_more_lem s from at x t.onward word_is t.numbers);
            rest = t.rest ∙ rw (left, j) (distinct_more v (n - (i + 1)) at (seen s from (at - from)) (drop at s) is w);
          }

-- ---- the kinds: 2 and 4 are read alike
alike : (v : ℕ) (g : Got ℕ) → skim (bind_got g (λ n. distinct v n [] >>= λ xs. give (circuit xs))) ≡ skim (bind_got g (λ n. distinct v n [] >>= λ xs. give (all_different xs)))
alike v (got n at ws) = skim_give (distinct v n [] at ws) circuit ∙ sym (skim_give (distinct v n [] at ws) all_different)
alike v (refused num p) = refl

circuit_alike : (v k : ℕ) {s : List ℤ} {at : ℕ} {p : Result ℕ Refusal} → 4 ≤ k → Skims (row_of_kind v 2) s at p → Skims (row_of_kind v k) s at p
circuit_alike v zero l h = absurd (omega arith)
circuit_alike v (suc zero) l h = absurd (omega arith)
circuit_alike v (suc (suc zero)) l h = absurd (omega arith)
circuit_alike v (suc (suc (suc zero))) l h = absurd (omega arith)
circuit_alike v (suc (suc (suc (suc k)))) {s} {at} l h = record { told = h.told ∙ sym (alike v (count 4 5 2 most_parts at (drop at s))) }

pub kinds_alike : (v k : ℕ) {s : List ℤ} {at : ℕ} {p : Result ℕ Refusal} → 1 ≤ k → (row_kind k ≡ row.AllDifferent) ⊎ (row_kind k ≡ row.Circuit) → Skims (row_of_kind v 2) s at p → Skims (row_of_kind v k) s at p
kinds_alike v k l e h = ⊎_elim (λ a. rw (is_all_different k a) h) (λ b. circuit_alike v k (is_circuit k b l) h) e
