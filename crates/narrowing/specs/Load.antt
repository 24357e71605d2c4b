-- A box as its bounds are loaded: n variables, no hole, and each variable has the numbers between its two words.
use Rattle.std.specs.Prelude.{◌≡◌, false, List, ◌∷◌, ◌++◌, take, drop, eqb, ℤ, pos, nat_abs, length, get_or, set}
use Rattle.std.proofs.Math.Path.{refl}
use Rattle.std.proofs.Common.{sym, ap, ◌∙◌, add-one, arith}
use Rattle.std.proofs.Math.Logic.{⊎_elim}
use Prim.Native.Nat.{ℕ, zero, suc, ◌+◌, ◌*◌, ◌≤◌, ◌<◌}
use borrow.Author.Tests.{eqb-true, eqb-false}
use Rattle.std.proofs.Math.ListN.{length-set}
use Rattle.std.proofs.lemmas.List.{get_or-drop, append-nil, take-append-drop, set_at, length-append, length-take, length-drop, append_assoc}
use Rattle.std.proofs.Math.Seq.{take-suc, drop-cons, get_or-set_same, get_or-set_other}
use Rattle.words.specs.Int.{zz}
use Rattle.words.specs.ListFacts.{tested}
use Rattle.domain.specs.Sets.{from_to, without_none}
use Rattle.domain.specs.Box.{variables, hole_place, low_of, high_of, Formed, is_hole, values, values_known}
use Rattle.domain.specs.Box.Walk.{no_holes}
use Rattle.narrowing.specs.Narrow.{Room}

-- ---- the box of the bounds that n pairs of words give from p on
pub copied : List ℤ → ℕ → ℕ → List ℤ → List ℤ
copied ws p zero cells = cells
copied ws p (suc k) cells = set (copied ws p k cells) (k + 2) (get_or ws (p + k) (pos 0))

pub loaded : List ℤ → ℕ → ℕ → List ℤ → List ℤ
loaded ws p n cells = set (set (copied ws p (2 * n) cells) 0 (pos n)) 1 (pos 0)

-- ---- the words copied so far
module _ (ws : List ℤ) (p : ℕ) (cells : List ℤ) where
  pub copied_none : copied ws p 0 cells ≡ cells
  unfolding copied
  copied_none = refl

  pub copied_more : (k : ℕ) → copied ws p (k + 1) cells ≡ set (copied ws p k cells) (k + 2) (get_or ws (p + k) (pos 0))
  unfolding copied
  copied_more k = rw (add-one k)

  pub length_copied : (k : ℕ) → length (copied ws p k cells) ≡ length cells
  unfolding copied
  length_copied zero = refl
  length_copied (suc k) = length-set (copied ws p k cells) (k + 2) (get_or ws (p + k) (pos 0)) ∙ length_copied k

  copied_at : (k i : ℕ) → i < k → k + 2 ≤ length cells → get_or (copied ws p k cells) (i + 2) (pos 0) ≡ get_or ws (p + i) (pos 0)
  unfolding copied
  copied_at zero i h f = absurd (omega arith)
  copied_at (suc k) i h f =
      ⊎_elim (λ e. let q = eqb-true i k e in rw q (get_or-set_same (copied ws p k cells) (k + 2) (get_or ws (p + k) (pos 0)) (pos 0) (omega (arith, length_copied k))))
      (λ e.
      let d = eqb-false i k e in
      get_or-set_other (copied ws p k cells) (k + 2) (i + 2) (get_or ws (p + k) (pos 0)) (pos 0) (λ q. d (omega arith)) ∙ copied_at k i (omega (arith, d)) (omega arith))
      (tested (eqb i k))

  -- they lie between what stands before and behind them
  pub copied_is : (k : ℕ) → p + k ≤ length ws → k + 2 ≤ length cells → copied ws p k cells ≡ take 2 cells ++ take k (drop p ws) ++ drop (k + 2) cells
  unfolding copied
  copied_is zero h f = rw (append-nil {A = ℤ}) (sym (take-append-drop 2 cells))
  copied_is (suc k) h f =
      let y = get_or ws (p + k) (pos 0) in
      let l : length (take 2 cells ++ take k (drop p ws)) ≡ k + 2 = simp (length-append, length-take, length-drop) (omega arith) in
      let t = take-suc (drop p ws) k (pos 0) (simp length-drop (omega arith)) in
      let d : drop (k + 2) cells ≡ get_or cells (k + 2) (pos 0) ∷ drop (suc (k + 2)) cells = drop-cons cells (k + 2) (pos 0) (omega arith) in
      let n : suc (k + 2) ≡ suc k + 2 = omega arith in
      ap (λ c. set c (k + 2) y) (copied_is k (omega arith) (omega arith))
      ∙ ap (λ r. set (take 2 cells ++ take k (drop p ws) ++ r) (k + 2) y) d
      ∙ set_at (take 2 cells ++ take k (drop p ws)) (get_or cells (k + 2) (pos 0)) (drop (suc (k + 2)) cells) y (k + 2) l
      ∙ rw (t, get_or-drop p ws k (pos 0), n) (simp append_assoc)

-- ---- the box
pub loaded_is : (ws : List ℤ) (p n : ℕ) (cells : List ℤ) → loaded ws p n cells ≡ set (set (copied ws p (2 * n) cells) 0 (pos n)) 1 (pos 0)
unfolding loaded
loaded_is ws p n cells = refl

module _ (ws : List ℤ) (p n : ℕ) (cells : List ℤ) (fits : 2 * n + 2 ≤ length cells) where
  pub loaded_length : length (loaded ws p n cells) ≡ length cells
  unfolding loaded
  loaded_length = simp (length-set, length_copied)

  loaded_first : get_or (loaded ws p n cells) 0 (pos 0) ≡ pos n
  unfolding loaded
  loaded_first =
      get_or-set_other (set (copied ws p (2 * n) cells) 0 (pos n)) 1 0 (pos 0) (pos 0) (omega arith)
      ∙ get_or-set_same (copied ws p (2 * n) cells) 0 (pos n) (pos 0) (omega (arith, length_copied ws p cells (2 * n)))

  loaded_second : get_or (loaded ws p n cells) 1 (pos 0) ≡ pos 0
  unfolding loaded
  loaded_second = get_or-set_same (set (copied ws p (2 * n) cells) 0 (pos n)) 1 (pos 0) (pos 0) (simp length-set (omega (arith, length_copied ws p cells (2 * n))))

  loaded_word : (i : ℕ) → i < 2 * n → get_or (loaded ws p n cells) (i + 2) (pos 0) ≡ get_or ws (p + i) (pos 0)
  unfolding loaded
  loaded_word i h =
      get_or-set_other (set (copied ws p (2 * n) cells) 0 (pos n)) 1 (i + 2) (pos 0) (pos 0) (omega arith)
      ∙ get_or-set_other (copied ws p (2 * n) cells) 0 (i + 2) (pos n) (pos 0) (omega arith)
      ∙ copied_at ws p cells (2 * n) i h fits

  pub loaded_variables : variables (loaded ws p n cells) ≡ n
  loaded_variables = ap nat_abs loaded_first

  -- as many holes fit as the table has words for
  pub loaded_room : (k : ℕ) → hole_place n k ≤ length cells → k < 2147483648 → Room (loaded ws p n cells) k
  loaded_room k h c = record { fits = rw (loaded_first, loaded_second, loaded_length) (omega arith); counted = rw loaded_second (omega arith) }

  loaded_free : (x : ℕ) (v : ℤ) → is_hole (loaded ws p n cells) x v ≡ false
  loaded_free x v = no_holes (loaded ws p n cells) x v (ap nat_abs loaded_second)

  pub loaded_formed : Formed (loaded ws p n cells)
  loaded_formed =
      record {
        some_variables = rw loaded_first (omega (arith, zz));
        some_holes = rw loaded_second (omega (arith, zz));
        fits = rw (loaded_first, loaded_second, loaded_length) (omega arith);
        tight = λ x h k. (loaded_free x (low_of (loaded ws p n cells) x), loaded_free x (high_of (loaded ws p n cells) x));
      }

  pub loaded_values : (x : ℕ) → x < n → values (loaded ws p n cells) x ≡ from_to (get_or ws (p + x * 2) (pos 0)) (get_or ws (p + x * 2 + 1) (pos 0))
  loaded_values x h =
      let q : 2 * x + 3 ≡ (2 * x + 1) + 2 = omega arith in
      let d : p + (2 * x + 1) ≡ p + x * 2 + 1 = omega arith in
      let e : p + 2 * x ≡ p + x * 2 = omega arith in
      values_known (loaded ws p n cells) x (rw loaded_variables h)
      ∙ without_none (is_hole (loaded ws p n cells) x) (low_of (loaded ws p n cells) x) (high_of (loaded ws p n cells) x) (loaded_free x)
      ∙ rw (q, loaded_word (2 * x) (omega arith), loaded_word (2 * x + 1) (omega arith), d, e)
