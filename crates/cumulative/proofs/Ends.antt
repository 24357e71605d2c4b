-- Which ends of sure parts the two searches give.
use Prim.Native.Nat.{ℕ, zero, suc, ◌<◌}
use Rattle.std.specs.Prelude.{◌≡◌, Bool, true, false, not, ◌&&◌, ◌≢◌, List, eqb, ℤ, pos, ◌-ℤ◌, get_or, ◌≤ℤ◌, ◌<ℤ◌}
use Rattle.std.proofs.Common.{sym, ap, subst, arith, ne_eqb}
use Rattle.std.proofs.Math.Logic.{⊎_elim}
use Rattle.std.specs.Int.Signed.{le_z, lt_z, ≤ℤ_refl}
use Rattle.words.specs.Int.{zz}
use Rattle.words.specs.ListFacts.{tested, clash, and_true, and_both, of_lt, of_le}
use Rattle.meaning.specs.Below.{up_to_lem}
use Rattle.sure_parts.specs.declared.Part.{Part}
use Rattle.sure_parts.specs.Table.{until_of}
use Rattle.cumulative.specs.Steps.{over_by, nearer, next_end, later, last_bad}

-- ---- the first end after t of another activity, u at most
module _ (ps : List Part) (i : ℕ) (t : ℤ) where
  -- what is known of e once the first n were looked at
  pub record First (u : ℤ) (n : ℕ) (e : ℤ) : Type 0 where
    pub upto : e ≤ℤ u
    pub ahead : (w : ℤ) → w ≤ℤ t → w <ℤ u → w <ℤ e
    pub before : (k : ℕ) → k < n → k ≢ i → t <ℤ until_of ps k → e ≤ℤ until_of ps k

  abbrev nearer_test : ℕ → ℤ → Bool
  nearer_test k e = not (eqb k i) && (lt_z t (until_of ps k) && lt_z (until_of ps k) e)

  nearer_taken : (u : ℤ) (n : ℕ) (e : ℤ) → First u n e → nearer_test n e ≡ true → First u (suc n) (until_of ps n)
  nearer_taken u n e f h =
      let a = and_true (not (eqb n i)) (lt_z t (until_of ps n) && lt_z (until_of ps n) e) h in
      let b = and_true (lt_z t (until_of ps n)) (lt_z (until_of ps n) e) a.1 in
      let p = b.0 in
      let q = b.1 in
      let r = f.upto in
      record {
        upto = omega (arith, zz);
        ahead = λ w m l. omega (arith, zz);
        before = λ k l d m. ⊎_elim (λ j. let g = f.before k j d m in omega (arith, zz)) (λ j. subst (λ z. until_of ps n ≤ℤ until_of ps z) (sym j) (≤ℤ_refl (until_of ps n))) (up_to_lem l);
      }

  nearer_left : (u : ℤ) (n : ℕ) (e : ℤ) → First u n e → nearer_test n e ≡ false → First u (suc n) e
  nearer_left u n e f h =
      record {
        upto = f.upto;
        ahead = f.ahead;
        before = λ k l d m. ⊎_elim (λ j. f.before k j d m) (λ j. subst (λ z. z ≢ i → t <ℤ until_of ps z → e ≤ℤ until_of ps z) (sym j) here d m) (up_to_lem l);
      }
    where
      here : (n ≢ i) → t <ℤ until_of ps n → e ≤ℤ until_of ps n
      here d m =
          ⊎_elim (λ q. clash (and_both (not (eqb n i)) (lt_z t (until_of ps n) && lt_z (until_of ps n) e) (ap not (ne_eqb n i d)) (and_both (lt_z t (until_of ps n)) (lt_z (until_of ps n) e) (of_lt m) q)) h)
          (λ q. omega (arith, zz)) (tested (lt_z (until_of ps n) e))

  pub next_first : (u : ℤ) (n : ℕ) → First u n (next_end ps i t u n)
  unfolding next_end
  next_first u zero = record { upto = omega (arith, zz); ahead = λ w m l. l; before = λ k l. absurd (omega arith) }
  next_first u (suc n) = go (next_end ps i t u n) (next_first u n)
    where
      go : (e : ℤ) → First u n e → First u (suc n) (nearer ps i t n e)
      go e f = ⊎_elim (λ h. rw h (nearer_taken u n e f h)) (λ h. rw h (nearer_left u n e f h)) (tested (nearer_test n e))

-- ---- activity i finds no room just before the end of activity k's sure part
abbrev pub no_room : List Part → List ℤ → ℤ → ℕ → ℕ → Bool
no_room ps peaks c i k = over_by ps c i (until_of ps k -ℤ pos 1) (get_or peaks k (pos 0))

-- the last such end after s, `stop` at most
module _ (ps : List Part) (peaks : List ℤ) (c : ℤ) (i : ℕ) (s stop : ℤ) where
  -- what e is once the first n were looked at
  pub data Last (n : ℕ) : ℤ → Type 0 where
    nowhere : ((k : ℕ) → k < n → s <ℤ until_of ps k → until_of ps k ≤ℤ stop → no_room ps peaks c i k ≡ false) → Last n s
    found : (k : ℕ) → k < n → s <ℤ until_of ps k → until_of ps k ≤ℤ stop → no_room ps peaks c i k ≡ true → Last n (until_of ps k)

  abbrev later_test : ℕ → ℤ → Bool
  later_test k e = lt_z e (until_of ps k) && (le_z (until_of ps k) stop && no_room ps peaks c i k)

  last_after : {n : ℕ} {e : ℤ} → Last n e → s ≤ℤ e
  last_after (nowhere f) = ≤ℤ_refl s
  last_after (found k l a b r) = omega (arith, zz)

  later_taken : (n : ℕ) (e : ℤ) → Last n e → later_test n e ≡ true → Last (suc n) (until_of ps n)
  later_taken n e f h =
      let a = and_true (lt_z e (until_of ps n)) (le_z (until_of ps n) stop && no_room ps peaks c i n) h in
      let b = and_true (le_z (until_of ps n) stop) (no_room ps peaks c i n) a.1 in
      let p = a.0 in
      let q = b.0 in
      let r = last_after f in
      found n (omega arith) (omega (arith, zz)) (omega (arith, zz)) b.1

  later_left : (n : ℕ) (e : ℤ) → Last n e → later_test n e ≡ false → Last (suc n) e
  later_left n e (nowhere f) h =
      nowhere (λ k l a b. ⊎_elim (λ j. f k j a b) (λ j. subst (λ z. s <ℤ until_of ps z → until_of ps z ≤ℤ stop → no_room ps peaks c i z ≡ false) (sym j) here a b) (up_to_lem l))
    where
      here : s <ℤ until_of ps n → until_of ps n ≤ℤ stop → no_room ps peaks c i n ≡ false
      here a b =
          ⊎_elim (λ q. clash (and_both (lt_z s (until_of ps n)) (le_z (until_of ps n) stop && no_room ps peaks c i n) (of_lt a) (and_both (le_z (until_of ps n) stop) (no_room ps peaks c i n) (of_le b) q)) h) (λ q. q)
          (tested (no_room ps peaks c i n))
  later_left n e (found k l a b r) h = found k (omega arith) a b r

  pub last_is : (n : ℕ) → Last n (last_bad ps peaks c i s stop n)
  unfolding last_bad
  last_is zero = nowhere (λ k l. absurd (omega arith))
  last_is (suc n) = go (last_bad ps peaks c i s stop n) (last_is n)
    where
      go : (e : ℤ) → Last n e → Last (suc n) (later ps peaks c i stop n e)
      go e f = ⊎_elim (λ h. rw h (later_taken n e f h)) (λ h. rw h (later_left n e f h)) (tested (later_test n e))
