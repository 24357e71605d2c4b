-- The circuit rule by two reaches: a set traps exactly when position 0 does not reach all positions, or is not reached from all.
use Rattle.std.specs.Prelude.{ℕ, zero, suc, ◌-◌, ◌^◌, ◌≤◌, ◌<◌, ◌≡◌, refl, Bool, true, false, not, length, get_or, ℤ, pos, ltb}
use Rattle.std.proofs.Common.{sym, ap, subst, ◌∙◌, ⊎_elim, arith, ltb-true, ltb-false}
use mathlib.Core.List.{List, [], ◌∷◌, Memᴰ as In}
use Rattle.std.proofs.lemmas.Bool.{not-true}
use Rattle.words.specs.ListFacts.{clash, tested, same_test, is_true, member_in, in_member}
use Rattle.meaning.specs.Rule.{holds, trapped}
use Rattle.meaning.proofs.Proved.Tour.{trap_of, inside_at}
use Rattle.meaning.proofs.Proved.Trapped.{trapped_by, inside_by}
use Rattle.circuit.specs.Mask.{bit, full_bit, not_full}
use Rattle.circuit.specs.Reach.{names, leads, Links, Closed, Reached}

-- ---- a test below n as a list of flags
abbrev flags : (ℕ → Bool) → ℕ → List Bool
flags t zero = []
flags t (suc n) = t 0 ∷ flags (λ k. t (suc k)) n

flags_at : (t : ℕ → Bool) (n k : ℕ) → k < n → holds k (flags t n) ≡ t k
flags_at t zero k h = absurd (omega arith)
flags_at t (suc n) zero h = refl
flags_at t (suc n) (suc k) h = flags_at (λ k. t (suc k)) n k (omega arith)

flags_length : (t : ℕ → Bool) (n : ℕ) → length (flags t n) ≡ n
flags_length t zero = refl
flags_length t (suc n) = ap suc (flags_length (λ k. t (suc k)) n)

-- the edges the other way round
abbrev pub flip : (ℕ → ℕ → Bool) → ℕ → ℕ → Bool
flip edge i j = edge j i

-- a set that no edge leaves, with a position in it and one outside
pub record Split (edge : ℕ → ℕ → Bool) (n : ℕ) (t : ℕ → Bool) : Type 0 where
  pub closed : Closed edge n t
  pub insider : (i : ℕ) × (i < n) × (t i ≡ true)
  pub outsider : (i : ℕ) × (i < n) × (t i ≡ false)

-- edges that agree below n
split_same : {e f : ℕ → ℕ → Bool} {n : ℕ} {t : ℕ → Bool} → ((i j : ℕ) → i < n → j < n → e i j ≡ f i j) → Split e n t → Split f n t
split_same q s = record {
  closed = λ i j h g b o. s.closed i j h g b (q i j h g ∙ o);
  insider = s.insider;
  outsider = s.outsider;
}

-- an answer to whether there is such a set
pub record TellsSplit (edge : ℕ → ℕ → Bool) (n : ℕ) (r : Bool) : Type 0 where
  pub some : r ≡ true → (t : ℕ → Bool) × Split edge n t
  pub none : r ≡ false → (t : ℕ → Bool) → Split edge n t → ⊥

module _ (edge : ℕ → ℕ → Bool) (n : ℕ) where
  ahead_split : {m : ℕ} → 0 < n → Reached edge n m → (m ≡ 2 ^ n - 1 → ⊥) → Split edge n (bit m)
  ahead_split {m} h r f = record {
    closed = r.closed;
    insider = (0, h, r.near.start);
    outsider = not_full n m r.near.below f;
  }

  back_split : {m : ℕ} → 0 < n → Reached (flip edge) n m → (m ≡ 2 ^ n - 1 → ⊥) → Split edge n (λ k. not (bit m k))
  back_split {m} h r f =
      let (k, l, e) = not_full n m r.near.below f in
      record {
        closed = λ i j l g q o. ap not (⊎_elim (λ b. clash (r.closed j i g l b o) (not-true (bit m i) q)) (λ b. b) (tested (bit m j)));
        insider = (k, l, ap not e);
        outsider = (0, h, ap not r.near.start);
      }

  -- all positions are reached both ways: no such set
  unsplit : {a b : ℕ} {t : ℕ → Bool} → Reached edge n a → Reached (flip edge) n b → a ≡ 2 ^ n - 1 → b ≡ 2 ^ n - 1 → Split edge n t → ⊥
  unsplit {a} {b} {t} ra rb ea eb s = ⊎_elim with_start without_start (tested (t 0))
    where
      everywhere : {m : ℕ} → m ≡ 2 ^ n - 1 → (k : ℕ) → k < n → bit m k ≡ true
      everywhere e k l = ap (λ z. bit z k) e ∙ full_bit n k l

      with_start : t 0 ≡ true → ⊥
      with_start e =
          let (j, g, o) = s.outsider in
          clash (ra.near.least t s.closed e j g (everywhere ea j g)) o

      without_start : t 0 ≡ false → ⊥
      without_start e =
          let (i, l, q) = s.insider in
          clash q (not-true (t i) (rb.near.least (λ k. not (t k))
          (λ i j l g q o. ap not (⊎_elim (λ b. clash (s.closed j i g l b o) (not-true (t i) q)) (λ b. b) (tested (t j))))
          (ap not e) i l (everywhere eb i l)))

  -- answers from the two reaches, each held against the mask of all positions
  module _ (some-position : 0 < n) {all : ℕ} (is_all : all ≡ 2 ^ n - 1) where
    pub tells_ahead : {a : ℕ} → Reached edge n a → a < all → TellsSplit edge n true
    tells_ahead {a} r l = record {
      some = λ e. (bit a, ahead_split some-position r (λ q. omega arith));
      none = λ e. clash refl e;
    }

    pub tells_back : {a b : ℕ} → Reached edge n a → all ≤ a → Reached (flip edge) n b → TellsSplit edge n (ltb b all)
    tells_back {a} {b} ra l rb =
        let ea : a ≡ 2 ^ n - 1 = omega (arith, ra.near.below) in
        record {
          some = λ e. (λ k. not (bit b k), back_split some-position rb (λ q. omega (arith, ltb-true b all e)));
          none = λ e t s. unsplit ra rb ea (omega (arith, ltb-false b all e, rb.near.below)) s;
        }

-- ---- the rule
module _ (d : ℕ → List ℤ) (xs : List ℕ) where
  trapped_split : {t : ℕ → Bool} → Split (names d xs) (length xs) t → trapped d xs ≡ true
  trapped_split {t} s =
      let n = length xs in
      let (i, l, e) = s.insider in
      let (j, g, o) = s.outsider in
      trapped_by d xs (flags t n) (record {
        sized = flags_length t n;
        insider = (i, l, flags_at t n i l ∙ e);
        outsider = (j, g, flags_at t n j g ∙ o);
        kept = λ a b h v m. inside_by n (flags t n) v (λ k c q. flags_at t n k c ∙ s.closed a k b c (sym (flags_at t n a b) ∙ h) (in_member (subst (λ w. In w (d (get_or xs a 0))) q m)));
      })

  split_trapped : trapped d xs ≡ true → (t : ℕ → Bool) × Split (names d xs) (length xs) t
  split_trapped h =
      let (s, t) = trap_of d xs h in (
        λ k. holds k s,
        record {
          closed = λ i j l g q o. inside_at (length xs) s j g (t.kept i l q (pos j) (member_in (pos j) (d (get_or xs i 0)) o));
          insider = t.insider;
          outsider = t.outsider;
        },
      )

  pub told_trapped : (links : List ℕ) {n : ℕ} {r : Bool} → length xs ≡ n → Links (names d xs) n links → TellsSplit (leads links) n r → r ≡ trapped d xs
  told_trapped links {n} {r} e l w = same_test r (trapped d xs)
      (λ q. let (t, s) = w.some q in trapped_split (subst (λ k. Split (names d xs) k t) (sym e) (split_same (λ i j h g. (l i h).bits j g) s)))
      (λ q. let (t, s) = split_trapped q in is_true (λ f. w.none f t (split_same (λ i j h g. sym ((l i h).bits j g)) (subst (λ k. Split (names d xs) k t) e s))))
