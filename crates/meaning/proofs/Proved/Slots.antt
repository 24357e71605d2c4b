-- A reader that follows a layout: each word it takes fits its slot, and it refuses at the first that does not.
use Rattle.std.specs.Prelude.{ℕ, zero, suc, ◌≤◌, ◌≡◌, refl, Bool, true, false, ℤ, pos, negsuc, nat_abs, ◌-ℤ◌, ◌≤ℤ◌}
use Rattle.std.proofs.Common.{arith, subst}
use mathlib.Core.List.Memᴰ.{not-nil as not-in-nil}
use mathlib.Core.List.{List, [], ◌∷◌, Memᴰ as In}
use Rattle.std.specs.Int.Signed.{le_z}
use Rattle.words.specs.Int.{zz, diff}
use Rattle.words.specs.ListFacts.{clash, and_true, and_both, le_of, of_le}
use Rattle.meaning.specs.Read.{Reader, Got, got, refused, bind_got, ◌>>=◌, give, within, word, count, below, times}
use Rattle.meaning.specs.Ranges.{Ranges}
use Rattle.meaning.specs.Layout.{Layout, slot, nothing, over, FirstBad, missing, out_of_range, twice, surplus, later, repeat}

-- good words lead from one layout to another
pub data Ran : Layout → ℕ → List ℤ → Layout → ℕ → List ℤ → Type 0 where
  stayed : {l : Layout} {at : ℕ} {ws : List ℤ} → Ran l at ws l at ws
  took : {at at' : ℕ} {lo hi w : ℤ} {seen ws rest : List ℤ} {next : ℤ → Layout} {l : Layout} → Ranges lo hi w → (In w seen → ⊥)
      → Ran (next w) (suc at) ws l at' rest → Ran (slot lo hi seen next) at (w ∷ ws) l at' rest

pub ran_on : {l l' l'' : Layout} {at at' at'' : ℕ} {ws ws' ws'' : List ℤ} → Ran l at ws l' at' ws' → Ran l' at' ws' l'' at'' ws'' → Ran l at ws l'' at'' ws''
ran_on stayed q = q
ran_on (took r n p) q = took r n (ran_on p q)

-- where there is nothing left to read no word can be bad
abbrev Idle : Layout → List ℤ → Type 0
Idle (slot lo hi seen next) ws = ⊥
Idle nothing [] = Unit {0}
Idle nothing (w ∷ ws) = ⊥
Idle over ws = Unit {0}

-- ---- the first bad word is one
module _ {early outside : ℕ} where
  pub bad_on : {l l' : Layout} {at at' num p : ℕ} {ws ws' : List ℤ} → Ran l at ws l' at' ws' → FirstBad early outside l' at' ws' num p → FirstBad early outside l at ws num p
  bad_on stayed q = q
  bad_on (took r n p) q = later r n (bad_on p q)

  pub bad_left : {l l' : Layout} {at at' num p : ℕ} {ws ws' : List ℤ} → Ran l at ws l' at' ws' → FirstBad early outside l at ws num p → FirstBad early outside l' at' ws' num p
  bad_left stayed b = b
  bad_left (took r n q) (out_of_range h) = absurd (h r)
  bad_left (took r n q) (twice h m) = absurd (n m)
  bad_left (took r n q) (later h m b) = bad_left q b

  pub one_bad : {l : Layout} {at num p num' p' : ℕ} {ws : List ℤ} → FirstBad early outside l at ws num p → FirstBad early outside l at ws num' p' → (num ≡ num') × (p ≡ p')
  one_bad missing missing = (refl, refl)
  one_bad (out_of_range h) (out_of_range k) = (refl, refl)
  one_bad (out_of_range h) (twice r m) = absurd (h r)
  one_bad (out_of_range h) (later r n b) = absurd (h r)
  one_bad (twice r m) (out_of_range h) = absurd (h r)
  one_bad (twice r m) (twice r' m') = (refl, refl)
  one_bad (twice r m) (later r' n b) = absurd (n m)
  one_bad surplus surplus = (refl, refl)
  one_bad (later r n b) (out_of_range h) = absurd (h r)
  one_bad (later r n b) (twice r' m) = absurd (n m)
  one_bad (later r n b) (later r' n' c) = one_bad b c

  none_bad : {l : Layout} {at num p : ℕ} {ws : List ℤ} → Idle l ws → FirstBad early outside l at ws num p → ⊥
  none_bad i missing = i
  none_bad i (out_of_range h) = i
  none_bad i (twice r m) = i
  none_bad i surplus = i
  none_bad i (later r n b) = i

  pub none_over : {at num p : ℕ} {ws : List ℤ} → FirstBad early outside over at ws num p → ⊥
  none_over {ws = ws} b = none_bad {l = over} {ws = ws} tt b

  pub none_after : {at num p : ℕ} → FirstBad early outside nothing at [] num p → ⊥
  none_after b = none_bad {l = nothing} {ws = []} tt b

-- ---- readers that follow a layout
module _ (early outside : ℕ) where
  -- from the layout l, to the layout z
  pub data Follows {A : Type 0} (z l : Layout) (at : ℕ) (ws : List ℤ) : Got A → Type 0 where
    gives : {a : A} {at' : ℕ} {rest : List ℤ} → Ran l at ws z at' rest → Follows z l at ws (got a at' rest)
    fails : {num p : ℕ} → FirstBad early outside l at ws num p → Follows z l at ws (refused num p)

  abbrev pub Lays : {A : Type 0} → Layout → Reader A → Layout → Type 0
  Lays z r l = (at : ℕ) (ws : List ℤ) → Follows z l at ws (r at ws)

  pub lays_give : {A : Type 0} {z : Layout} {a : A} → Lays z (give a) z
  lays_give at ws = gives stayed

  pub lays_bind : {A B : Type 0} {z y l : Layout} (r : Reader A) (f : A → Reader B) → Lays y r l → ((a : A) → Lays z (f a) y) → Lays z (r >>= f) l
  lays_bind {A} {B} {z} {y} {l} r f h k at ws = go (r at ws) (h at ws)
    where
      more : {at' : ℕ} {rest : List ℤ} (g : Got B) → Ran l at ws y at' rest → Follows z y at' rest g → Follows z l at ws g
      more (got b at'' rest') p (gives q) = gives (ran_on p q)
      more (refused num i) p (fails b) = fails (bad_on p b)

      go : (g : Got A) → Follows y l at ws g → Follows z l at ws (bind_got g f)
      go (got a at' rest) (gives p) = more (f a at' rest) p (k a at' rest)
      go (refused num i) (fails b) = fails b

  -- one word
  ranges_of : {lo hi w : ℤ} → within lo hi w ≡ true → Ranges lo hi w
  ranges_of {lo} {hi} {w} e = let h = and_true (le_z lo w) (le_z w hi) e in (le_of lo w h.0, le_of w hi h.1)

  of_ranges : {lo hi w : ℤ} → Ranges lo hi w → within lo hi w ≡ true
  of_ranges {lo} {hi} {w} h = and_both (le_z lo w) (le_z w hi) (of_le h.0) (of_le h.1)

  pub lays_word : {B : Type 0} {z : Layout} (lo hi : ℤ) (f : ℤ → Reader B) (next : ℤ → Layout) → ((w : ℤ) → Ranges lo hi w → Lays z (f w) (next w))
      → Lays z (word early outside lo hi >>= f) (slot lo hi [] next)
  lays_word lo hi f next k at [] = fails missing
  lays_word {B} {z} lo hi f next k at (w ∷ ws) = go (within lo hi w) refl
    where
      more : (g : Got B) → Ranges lo hi w → Follows z (next w) (suc at) ws g → Follows z (slot lo hi [] next) at (w ∷ ws) g
      more (got b at' rest) r (gives p) = gives (took r not-in-nil p)
      more (refused num i) r (fails b) = fails (later r not-in-nil b)

      go : (b : Bool) → within lo hi w ≡ b → Follows z (slot lo hi [] next) at (w ∷ ws) (bind_got (elim b [ true ↦ got w (suc at) ws | false ↦ refused outside at ]) f)
      go true e = more (f w (suc at) ws) (ranges_of e) (k w (ranges_of e) (suc at) ws)
      go false e = fails (out_of_range (λ r. clash (of_ranges r) e))

  -- one number: what its reader does with the words that it finds
  pub data OneNumber (lo hi : ℤ) (at : ℕ) : List ℤ → Got ℕ → Type 0 where
    no_word : OneNumber lo hi at [] (refused early at)
    good_word : {ws : List ℤ} (n : ℕ) → Ranges lo hi (pos n) → OneNumber lo hi at (pos n ∷ ws) (got n (suc at) ws)
    bad_word : {w : ℤ} {ws : List ℤ} → (Ranges lo hi w → ⊥) → OneNumber lo hi at (w ∷ ws) (refused outside at)

  abbrev pub Numbers : ℤ → ℤ → Reader ℕ → Type 0
  Numbers lo hi r = (at : ℕ) (ws : List ℤ) → OneNumber lo hi at ws (r at ws)

  pub counts : (lo hi : ℕ) → Numbers (pos lo) (pos hi) (count early outside lo hi)
  counts lo hi at [] = no_word
  counts lo hi at (w ∷ ws) = go w (within (pos lo) (pos hi) w) refl
    where
      go : (w : ℤ) (b : Bool) → within (pos lo) (pos hi) w ≡ b → OneNumber (pos lo) (pos hi) at (w ∷ ws) (bind_got {A = ℤ} (elim b [ true ↦ got w (suc at) ws | false ↦ refused outside at ]) (λ v. give (nat_abs v)))
      go (pos n) true e = good_word n (ranges_of e)
      go (negsuc n) true e = clash e refl
      go w false e = bad_word (λ r. clash (of_ranges r) e)

  -- a number below n
  pub numbered : (n : ℕ) → Numbers (pos 0) (pos n -ℤ pos 1) (below early outside n)
  numbered zero at [] = no_word
  numbered zero at (w ∷ ws) = go w (within (pos 1) (pos 0) w) refl
    where
      apart : (w : ℤ) → pos 0 ≤ℤ w → w ≤ℤ (pos 0 -ℤ pos 1) → ⊥
      apart w l h = omega (arith, zz)

      go : (w : ℤ) (b : Bool) → within (pos 1) (pos 0) w ≡ b → OneNumber (pos 0) (pos 0 -ℤ pos 1) at (w ∷ ws) (bind_got {A = ℤ} (elim b [ true ↦ got w (suc at) ws | false ↦ refused outside at ]) (λ v. give 0))
      go w true e = absurd (let r = ranges_of {lo = pos 1} {hi = pos 0} {w = w} e in let l = r.0 in let h = r.1 in omega (arith, zz))
      go w false e = bad_word (λ r. apart w r.0 r.1)
  numbered (suc n) at ws = let e : pos n ≡ pos (suc n) -ℤ pos 1 = omega (arith, zz, diff (pos (suc n)) (pos 1)) in subst (λ hi. OneNumber (pos 0) hi at ws (below early outside (suc n) at ws)) e (counts 0 n at ws)

  pub lays_number : {B : Type 0} {z : Layout} {lo hi : ℤ} (r : Reader ℕ) (f : ℕ → Reader B) (next : ℤ → Layout) → Numbers lo hi r → ((n : ℕ) → Ranges lo hi (pos n) → Lays z (f n) (next (pos n)))
      → Lays z (r >>= f) (slot lo hi [] next)
  lays_number {B} {z} {lo} {hi} r f next h k at ws = go (r at ws) (h at ws)
    where
      more : {ws : List ℤ} (n : ℕ) (g : Got B) → Ranges lo hi (pos n) → Follows z (next (pos n)) (suc at) ws g → Follows z (slot lo hi [] next) at (pos n ∷ ws) g
      more n (got b at' rest) r (gives p) = gives (took r not-in-nil p)
      more n (refused num i) r (fails b) = fails (later r not-in-nil b)

      go : {ws : List ℤ} (g : Got ℕ) → OneNumber lo hi at ws g → Follows z (slot lo hi [] next) at ws (bind_got g f)
      go (refused num p) no_word = fails missing
      go (got n at' rest) (good_word i r) = more n (f n at' rest) r (k n r at' rest)
      go (refused num p) (bad_word b) = fails (out_of_range b)

  pub lays_count : {B : Type 0} {z : Layout} (lo hi : ℕ) (f : ℕ → Reader B) (next : ℤ → Layout) → ((n : ℕ) → lo ≤ n → n ≤ hi → Lays z (f n) (next (pos n)))
      → Lays z (count early outside lo hi >>= f) (slot (pos lo) (pos hi) [] next)
  lays_count lo hi f next k = lays_number (count early outside lo hi) f next (counts lo hi) (λ n r. let l = r.0 in let h = r.1 in k n (omega (arith, zz)) (omega (arith, zz)))

  pub lays_below : {B : Type 0} {z : Layout} (n : ℕ) (f : ℕ → Reader B) (next : ℤ → Layout) → ((x : ℕ) → Lays z (f x) (next (pos x)))
      → Lays z (below early outside n >>= f) (slot (pos 0) (pos n -ℤ pos 1) [] next)
  lays_below n f next k = lays_number (below early outside n) f next (numbered n) (λ x r. k x)

  -- the same part again and again
  pub lays_times : {A : Type 0} (r : Reader A) (part : Layout → Layout) → ((z : Layout) → Lays z r (part z)) → (n : ℕ) (z : Layout) → Lays z (times n r) (repeat n part z)
  lays_times r part h zero z = lays_give
  lays_times r part h (suc n) z = lays_bind r _ (h (repeat n part z)) (λ a. lays_bind (times n r) _ (lays_times r part h n z) (λ as'. lays_give))
