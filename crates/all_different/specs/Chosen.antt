-- An all-different row: its variables that pass a test.
use Rattle.std.specs.Prelude.{ℕ, ◌+◌, ◌*◌, ◌≤◌, ◌<◌, ◌≡◌, Bool, true, false, length, take, set, map, ℤ}
use Rattle.std.proofs.Common.{arith, sym, ap, ◌∙◌, add-one, take-suc-set}
use mathlib.Core.List.{List, ◌++◌, append-nil, Memᴰ as In}
use Rattle.std.proofs.Math.Seq.{append_snoc}
use Rattle.words.specs.declared.VarNo.{VarNo}
use Rattle.words.specs.Lists.{keep, keep_if, All}
use Rattle.words.specs.ListFacts.{in_keep, in_at, each_of}
use Rattle.reading.specs.At.{each_at, nat_at, length_each, get_or_each}
use Rattle.model.specs.Rows.{VariablesIn}
use Rattle.rule_facts.specs.Each.{each_from, from_start, from_next, from_end}

-- the numbers of variables
abbrev pub numbers : List VarNo → List ℕ
numbers = map (λ (x : VarNo). x.0)

-- variables of fewer are variables of more
pub more_named : {v w : ℕ} {s : List ℤ} {p n : ℕ} → v ≤ w → VariablesIn v s p n → VariablesIn w s p n
more_named h k = record { fits = k.fits; named = λ i l. record { inside = (k.named i l).inside; signless = (k.named i l).signless; known = omega (arith, (k.named i l).known) } }

-- those that pass a test, taken one after the other: the first i of n are behind, and what they gave stands in the first places of a list
module _ (t : ℕ → Bool) (n : ℕ) (s : List ℤ) (p : ℕ) where
  abbrev pub chosen : List ℕ
  chosen = keep t (each_at nat_at 1 n s p)

  -- those still to come
  abbrev pub to_come : ℕ → List ℕ
  to_come i = keep t (each_from nat_at 1 n s p i)

  pub chosen_start : to_come 0 ≡ chosen
  chosen_start = ap (keep t) (from_start nat_at 1 n s p)

  -- one more is looked at
  come_next : (i : ℕ) (b : Bool) → i < n → t (nat_at s (p + i)) ≡ b → to_come i ≡ keep_if b (nat_at s (p + i)) (to_come (i + 1))
  come_next i b h e =
      let q : p + i * 1 ≡ p + i = omega arith in
      ap (keep t) (from_next nat_at 1 n s p i h) ∙ rw (q, e)

  module _ (places : List ℕ) (count i : ℕ) (h : i < n) (e : take count places ++ to_come i ≡ chosen) where
    pub chosen_taken : count < length places → t (nat_at s (p + i)) ≡ true → take (count + 1) (set places count (nat_at s (p + i))) ++ to_come (i + 1) ≡ chosen
    chosen_taken l y =
        rw (add-one count, take-suc-set places count (nat_at s (p + i)) l, append_snoc (take count places) (nat_at s (p + i)) (to_come (i + 1)))
        (ap (λ xs. take count places ++ xs) (sym (come_next i true h y)) ∙ e)

    pub chosen_left : t (nat_at s (p + i)) ≡ false → take count places ++ to_come (i + 1) ≡ chosen
    chosen_left y = ap (λ xs. take count places ++ xs) (sym (come_next i false h y)) ∙ e

  pub chosen_end : (xs : List ℕ) (i : ℕ) → n ≤ i → xs ++ to_come i ≡ chosen → xs ≡ chosen
  chosen_end xs i h e = sym (append-nil xs) ∙ ap (λ ys. xs ++ ys) (sym (ap (keep t) (from_end nat_at 1 n s p i h))) ∙ e

-- all of them are variables
pub chosen_known : {v : ℕ} (t : ℕ → Bool) (n : ℕ) (s : List ℤ) (p : ℕ) → VariablesIn v s p n → All (λ x. x < v) (chosen t n s p)
chosen_known {v} t n s p h = each_of (chosen t n s p) (λ x i. known (in_keep t (each_at nat_at 1 n s p) i).0)
  where
    known : {x : ℕ} → In x (each_at nat_at 1 n s p) → x < v
    known i =
        let (k, l, e) = in_at 0 i in
        let m : k < n = omega (arith, length_each nat_at 1 n s p) in
        let q : p + k * 1 ≡ p + k = omega arith in
        rw (sym e, get_or_each nat_at 1 n s p k 0 m, q) (h.named k m).known
