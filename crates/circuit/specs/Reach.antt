-- The positions that position 0 reaches, as a mask: found one position at a time, or by sweeps until nothing is added.
use Rattle.std.specs.Prelude.{ℕ, ◌+◌, ◌^◌, ◌≤◌, ◌<◌, ◌≡◌, refl, Bool, true, false, List, ℤ, pos, length, get_or, set, take}
use Rattle.std.proofs.Common.{sym, subst, ◌∙◌, ⊎_elim, arith, pow_pos, get_or-set_same, get_or-set_other, below_more, eqb-true}
use Rattle.std.specs.Int.Bits.{bit_or, bit_xor}
use Rattle.std.proofs.lemmas.Nat.{or_lt}
use Rattle.std.proofs.lemmas.List.{get_or-take}
use Rattle.std.proofs.Math.Pow.{pow-lt}
use Rattle.words.specs.Int.{eq_z}
use Rattle.words.specs.Lists.{member}
use Rattle.words.specs.ListFacts.{clash, or_left, or_right, or_cases}
use Rattle.meaning.specs.Below.{up_to_lem}
use Rattle.words.specs.Bits.{one_of, bit_xor_lem, bit_zero}
use Rattle.circuit.specs.Mask.{bit, Mask, bit_or_lem, bit_power, or_more, with_stays, with_itself, with_cases, with_more}

-- a value left at position i names position j
abbrev pub names : (ℕ → List ℤ) → List ℕ → ℕ → ℕ → Bool
names d xs i j = member eq_z (pos j) (d (get_or xs i 0))

-- where each position leads, as the test that a table of masks makes
abbrev pub leads : List ℕ → ℕ → ℕ → Bool
leads t i j = bit (get_or t i 0) j

-- the first m rows of a table are the masks of the positions below n that each leads to
abbrev pub Rows : (ℕ → ℕ → Bool) → ℕ → ℕ → List ℕ → Type 0
Rows edge n m t = (i : ℕ) → i < m → Mask n (edge i) (get_or t i 0)

-- the table for n positions
abbrev pub Links : (ℕ → ℕ → Bool) → ℕ → List ℕ → Type 0
Links edge n t = Rows edge n n t

-- a table's links are its own
pub links_own : (edge : ℕ → ℕ → Bool) (n : ℕ) (t : List ℕ) → Links edge n t → Links (leads t) n t
links_own edge n t l i h = record { below = (l i h).below; bits = λ k g. refl }

-- the first n rows alone
pub links_cut : (edge : ℕ → ℕ → Bool) (n : ℕ) (t : List ℕ) → Links edge n t → Links edge n (take n t)
links_cut edge n t l i h = rw (get_or-take n t i 0 h) (l i h)

pub rows_more : (edge : ℕ → ℕ → Bool) (n m : ℕ) (t : List ℕ) {v : ℕ} → m < length t → Rows edge n m t → Mask n (edge m) v → Rows edge n (m + 1) (set t m v)
rows_more edge n m t {v} l r h = below_more (λ i. Mask n (edge i) (get_or (set t m v) i 0)) m
    (λ i k. let e = get_or-set_other t m i v 0 (λ q. omega arith) in rw e (r i k))
    (rw (get_or-set_same t m v 0 l) h)

module _ (edge : ℕ → ℕ → Bool) (n : ℕ) where
  -- no edge leaves the set
  abbrev pub Closed : (ℕ → Bool) → Type 0
  Closed t = (i j : ℕ) → i < n → j < n → t i ≡ true → edge i j ≡ true → t j ≡ true

  -- every member of the mask is in the set
  abbrev pub Inside : ℕ → (ℕ → Bool) → Type 0
  Inside m t = (k : ℕ) → k < n → bit m k ≡ true → t k ≡ true

  -- m is s with the positions below i that s leads to, and nothing that a closed set around s leaves out
  pub record Swept (s i m : ℕ) : Type 0 where
    pub below : m < 2 ^ n
    pub larger : s ≤ m
    pub kept : (k : ℕ) → bit s k ≡ true → bit m k ≡ true
    pub led : (a j : ℕ) → a < n → j < i → bit s a ≡ true → edge a j ≡ true → bit m j ≡ true
    pub within : (t : ℕ → Bool) → Closed t → Inside s t → Inside m t

  -- position 0 is in it, and nothing that position 0 does not reach
  pub record Near (m : ℕ) : Type 0 where
    pub below : m < 2 ^ n
    pub start : bit m 0 ≡ true
    pub least : (t : ℕ → Bool) → Closed t → t 0 ≡ true → Inside m t

  -- all that position 0 reaches
  pub record Reached (m : ℕ) : Type 0 where
    pub near : Near m
    pub closed : Closed (bit m)

  -- what is seen is near, what is done is seen, and so is all that it leads to
  pub record Spread (seen done : ℕ) : Type 0 where
    pub near : Near seen
    pub below : done < 2 ^ n
    pub known : (k : ℕ) → bit done k ≡ true → bit seen k ≡ true
    pub led : (i j : ℕ) → i < n → j < n → bit done i ≡ true → edge i j ≡ true → bit seen j ≡ true

  pub swept_start : (s : ℕ) → s < 2 ^ n → Swept s 0 s
  swept_start s h = record {
    below = h;
    larger = omega arith;
    kept = λ k e. e;
    led = λ a j h l. absurd (omega arith);
    within = λ t c f. f;
  }

  module _ {s i m : ℕ} (w : Swept s i m) where
    -- a member leads to position i
    pub swept_with : (a : ℕ) → i < n → a < n → bit m a ≡ true → edge a i ≡ true → Swept s (i + 1) (bit_or m (2 ^ i))
    swept_with a l h e o = record {
      below = or_lt n m (2 ^ i) w.below (pow-lt l);
      larger = omega (arith, w.larger, or_more m (2 ^ i));
      kept = λ k q. with_stays m i k (w.kept k q);
      led = λ b j p g q r. ⊎_elim (λ c. with_stays m i j (w.led b j p c q r)) (λ z. subst (λ y. bit (bit_or m (2 ^ i)) y ≡ true) (sym z) (with_itself m i)) (up_to_lem (omega arith));
      within = λ t c f k g q. ⊎_elim (w.within t c f k g) (λ z. subst (λ y. t y ≡ true) z (c a i h l (w.within t c f a h e) o)) (with_cases m i k q);
    }

    -- no member does
    pub swept_without : ((a : ℕ) → bit m a ≡ true → edge a i ≡ true → ⊥) → Swept s (i + 1) m
    swept_without f = record {
      below = w.below;
      larger = w.larger;
      kept = w.kept;
      led = λ b j p g q r. ⊎_elim (λ c. w.led b j p c q r) (λ z. absurd (f b (w.kept b q) (subst (λ y. edge b y ≡ true) z r))) (up_to_lem (omega arith));
      within = w.within;
    }

  pub near_start : 0 < n → Near 1
  near_start h = record {
    below = pow-lt h;
    start = bit_power 0 0;
    least = λ t c e k l b. subst (λ z. t z ≡ true) (eqb-true 0 k (sym (bit_power 0 k) ∙ b)) e;
  }

  pub near_more : {s m : ℕ} → Near s → Swept s n m → Near m
  near_more r w = record {
    below = w.below;
    start = w.kept 0 r.start;
    least = λ t c e. w.within t c (r.least t c e);
  }

  pub near_done : {s m : ℕ} → Near s → Swept s n m → m ≤ s → Reached s
  near_done {s} {m} r w l =
      let e : m ≡ s = omega (arith, w.larger) in
      record {
        near = r;
        closed = λ i j h g q o. subst (λ z. bit z j ≡ true) e (w.led i j h g q o);
      }

  pub spread_start : 0 < n → Spread 1 0
  spread_start h = record {
    near = near_start h;
    below = pow_pos n;
    known = λ k e. clash e (bit_zero k);
    led = λ i j l g e. clash e (bit_zero i);
  }

  module _ {seen done k : ℕ} (w : Spread seen done) (l : k < n) (e : bit (bit_xor seen done) k ≡ true) where
    -- it is seen and not done
    fresh : (bit seen k ≡ true) × (bit done k ≡ false)
    fresh = go (bit seen k) (bit done k) (w.known k) (sym (bit_xor_lem seen done k) ∙ e)
      where
        go : (p q : Bool) → (q ≡ true → p ≡ true) → one_of p q ≡ true → (p ≡ true) × (q ≡ false)
        go true true f e = clash e refl
        go true false f e = (refl, refl)
        go false true f e = clash (f refl) refl
        go false false f e = clash e refl

    pub spread_grows : done < bit_or done (2 ^ k)
    spread_grows = with_more done k fresh.1

    -- what it leads to is seen from now on
    pub spread_more : (row : ℕ) → Mask n (edge k) row → Spread (bit_or seen row) (bit_or done (2 ^ k))
    spread_more row r = record {
      near = record {
        below = or_lt n seen row w.near.below r.below;
        start = stays 0 w.near.start;
        least = λ t c q j g h. ⊎_elim (w.near.least t c q j g) (λ b. c k j l g (w.near.least t c q k l fresh.0) (sym (r.bits j g) ∙ b)) (or_cases (bit seen j) (bit row j) (sym (bit_or_lem seen row j) ∙ h));
      };
      below = or_lt n done (2 ^ k) w.below (pow-lt l);
      known = λ j q. stays j (⊎_elim (w.known j) (λ z. subst (λ y. bit seen y ≡ true) z fresh.0) (with_cases done k j q));
      led = λ i j h g q o. ⊎_elim (λ b. stays j (w.led i j h g b o)) (λ z. comes j g (subst (λ y. edge y j ≡ true) (sym z) o)) (with_cases done k i q);
    }
      where
        stays : (j : ℕ) → bit seen j ≡ true → bit (bit_or seen row) j ≡ true
        stays j h = bit_or_lem seen row j ∙ or_left (bit row j) h

        comes : (j : ℕ) → j < n → edge k j ≡ true → bit (bit_or seen row) j ≡ true
        comes j g o = bit_or_lem seen row j ∙ or_right (bit seen j) (r.bits j g ∙ o)

  pub spread_done : {seen done : ℕ} → Spread seen done → done ≡ seen → Reached seen
  spread_done {seen} {done} w e = record {
    near = w.near;
    closed = λ i j h g q o. w.led i j h g (subst (λ z. bit z i ≡ true) (sym e) q) o;
  }
