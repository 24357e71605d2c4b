-- Reading at a position of a table, and reading over something whose value is not wanted.
use Rattle.std.specs.Prelude.{ℕ, zero, suc, ◌+◌, ◌-◌, ◌≤◌, ◌<◌, ◌≡◌, refl, Bool, true, false, ◌&&◌, List, [], ◌∷◌, ℤ, pos, negsuc, nat_abs, ◌-ℤ◌, length, get_or, drop}
use Rattle.std.proofs.Math.Nat.{sub-zero}
use Rattle.std.proofs.Common.{add-zero, sym, ap, ◌∙◌, add-one, arith, drop_of_length-le, length-drop, drop-cons, get_or-drop, drop-drop, leb-true}
use Rattle.std.specs.Int.Signed.{le_z}
use Rattle.words.specs.Int.{zz, diff}
use Rattle.meaning.specs.Read.{Got, got, refused, Reader, bind_got, give, neg, within, word, count, below, times}

-- ---- a word of a table
module _ (early outside : ℕ) (lo hi : ℤ) (s : List ℤ) (at : ℕ) where
  pub word_in : at < length s → within lo hi (get_or s at (pos 0)) ≡ true → word early outside lo hi at (drop at s) ≡ got (get_or s at (pos 0)) (at + 1) (drop (at + 1) s)
  word_in h e = rw (add-one, drop-cons s at (pos 0), e, word)

  pub word_out : at < length s → within lo hi (get_or s at (pos 0)) ≡ false → word early outside lo hi at (drop at s) ≡ refused outside at
  word_out h e = rw (drop-cons s at (pos 0), e, word)

  pub word_none : length s ≤ at → word early outside lo hi at (drop at s) ≡ refused early at
  word_none h = rw (drop_of_length-le s)

-- what a word that was got says of the table
pub record Worded (s : List ℤ) (lo hi : ℤ) (at : ℕ) (w : ℤ) (n : ℕ) (vs : List ℤ) : Type 0 where
  pub inside : at < length s
  pub stands : get_or s at (pos 0) ≡ w
  pub next : n ≡ at + 1
  pub rest : vs ≡ drop n s
  pub range : within lo hi w ≡ true

record Taken (lo hi : ℤ) (at : ℕ) (w : ℤ) (n : ℕ) (ws vs : List ℤ) : Type 0 where
  cons : ws ≡ w ∷ vs
  one : suc at ≡ n
  ok : within lo hi w ≡ true

taken_by : (lo hi w x : ℤ) (outside at n : ℕ) (ws vs : List ℤ) (b : Bool) → within lo hi w ≡ b → ◌≡◌ {A = Got ℤ} (elim b [ true ↦ got w (suc at) ws | false ↦ refused outside at ]) (got x n vs) → Taken lo hi at x n (w ∷ ws) vs
taken_by lo hi w x outside at n ws vs true e p = let q : w ≡ x = cc in record { cons = cc; one = cc; ok = rw (← q) e }
taken_by lo hi w x outside at n ws vs false e p = let z : ◌≡◌ {A = ℕ} 0 1 = cc in absurd (omega arith)

taken : (early outside : ℕ) (lo hi : ℤ) (at : ℕ) (ws : List ℤ) {x : ℤ} {n : ℕ} {vs : List ℤ} → word early outside lo hi at ws ≡ got x n vs → Taken lo hi at x n ws vs
taken early outside lo hi at [] p = let z : ◌≡◌ {A = ℕ} 0 1 = cc in absurd (omega arith)
taken early outside lo hi at (w ∷ ws) {x} {n} {vs} p = taken_by lo hi w x outside at n ws vs (within lo hi w) refl p

pub worded : (early outside : ℕ) (lo hi : ℤ) (at : ℕ) (s : List ℤ) {x : ℤ} {n : ℕ} {vs : List ℤ} → word early outside lo hi at (drop at s) ≡ got x n vs → Worded s lo hi at x n vs
worded early outside lo hi at s {x} {n} {vs} p =
    let h = taken early outside lo hi at (drop at s) p in
    let q : n ≡ at + 1 = omega (arith, h.one) in
    record {
      inside = omega (arith, sym (length-drop at s) ∙ ap length h.cons);
      stands = sym (rw add-zero at (get_or-drop at s 0 (pos 0))) ∙ ap (λ (l : List ℤ). get_or l 0 (pos 0)) h.cons;
      next = q;
      rest = sym (ap (drop 1) h.cons) ∙ drop-drop 1 at s ∙ ap (λ (k : ℕ). drop k s) (sym q);
      range = h.ok;
    }

-- ---- what was read first, and what then
pub bind_got_lem : {A B : Type 0} (g : Got A) (f : A → Reader B) {b : B} {n : ℕ} {vs : List ℤ} → bind_got g f ≡ got b n vs → (a : A) × (m : ℕ) × (us : List ℤ) × (g ≡ got a m us) × (f a m us ≡ got b n vs)
bind_got_lem (got a m us) f e = (a, m, us, refl, e)
bind_got_lem (refused num p) f e = let z : ◌≡◌ {A = ℕ} 0 1 = cc in absurd (omega arith)

both : (a b : Bool) → (a && b) ≡ true → (a ≡ true) × (b ≡ true)
both true b e = (refl, e)
both false b e = let z : ◌≡◌ {A = ℕ} 0 1 = cc in absurd (omega arith)

-- a word in a range of no negative numbers
pub number_by : (lo hi : ℕ) (w : ℤ) → within (pos lo) (pos hi) w ≡ true → (lo ≤ nat_abs w) × (nat_abs w ≤ hi) × (w ≡ pos (nat_abs w))
number_by lo hi (pos k) e = let h = both (le_z (pos lo) (pos k)) (le_z (pos k) (pos hi)) e in (leb-true lo k h.0, leb-true k hi h.1, refl)
number_by lo hi (negsuc k) e = let z : ◌≡◌ {A = ℕ} 0 1 = cc in absurd (omega arith)

-- ---- a word from -n to n
pub minus : (n : ℕ) → 1 ≤ n → pos 0 -ℤ pos n ≡ neg n
minus zero h = absurd (omega arith)
minus (suc n) h = omega (arith, zz, diff (pos 0) (pos (suc n)))

-- ---- a number below n
-- with nothing below 0 no word is in range
pub none_got : (early outside at : ℕ) (s : List ℤ) {w : ℤ} {n : ℕ} {vs : List ℤ} → word early outside (pos 1) (pos 0) at (drop at s) ≡ got w n vs → ⊥
none_got early outside at s {w} e = let b = number_by 1 0 w (worded early outside (pos 1) (pos 0) at s e).range in omega (arith, b.0, b.1)

pub below_none : (early outside at : ℕ) (s : List ℤ) → below early outside 0 at (drop at s) ≡ count early outside 1 0 at (drop at s)
below_none early outside at s = go (word early outside (pos 1) (pos 0) at (drop at s)) refl
  where
    go : (g : Got ℤ) → word early outside (pos 1) (pos 0) at (drop at s) ≡ g → bind_got g (λ w. give 0) ≡ bind_got g (λ w. give (nat_abs w))
    go (got w n vs) e = absurd (none_got early outside at s e)
    go (refused num p) e = refl

pub below_some : (early outside n at : ℕ) (ws : List ℤ) → (n ≡ 0 → ⊥) → below early outside n at ws ≡ count early outside 0 (n - 1) at ws
below_some early outside zero at ws h = absurd (h refl)
below_some early outside (suc n) at ws h = let q : suc n - 1 ≡ n = omega arith in rw q

-- ---- read over: the position and what is left, without the value
abbrev pub skim : {A : Type 0} → Got A → Got (Unit {0})
skim (got a at ws) = got tt at ws
skim (refused num p) = refused num p

pub skim_give : {A B : Type 0} (g : Got A) (f : A → B) → skim (bind_got g (λ a. give (f a))) ≡ skim g
skim_give (got a at ws) f = refl
skim_give (refused num p) f = refl

pub skim_got : {A : Type 0} (g : Got A) {n : ℕ} {ws : List ℤ} → skim g ≡ got tt n ws → (a : A) × (g ≡ got a n ws)
skim_got (got a at vs) e = (a, cc)
skim_got (refused num p) e = let z : ◌≡◌ {A = ℕ} 0 1 = cc in absurd (omega arith)

pub skim_refused : {A : Type 0} (g : Got A) {num p : ℕ} → skim g ≡ refused num p → g ≡ refused num p
skim_refused (got a at vs) e = let z : ◌≡◌ {A = ℕ} 0 1 = cc in absurd (omega arith)
skim_refused (refused c q) e = cc

-- ---- one more of several
module _ {A : Type 0} (r : Reader A) (k at : ℕ) (ws : List ℤ) where
  pub times_more : {n : ℕ} {vs : List ℤ} → skim (r at ws) ≡ got tt n vs → skim (times (suc k) r at ws) ≡ skim (times k r n vs)
  times_more {n} {vs} e = let (a, h) = skim_got (r at ws) e in rw h (skim_give (times k r n vs) (λ rest. a ∷ rest))

  pub times_stop : {num p : ℕ} → skim (r at ws) ≡ refused num p → skim (times (suc k) r at ws) ≡ refused num p
  times_stop e = rw (skim_refused (r at ws) e)

-- ---- a loop over n things of a table: what is left to read after i of them
module _ {A : Type 0} (r : Reader A) (s : List ℤ) (n : ℕ) where
  abbrev pub left : ℕ → ℕ → Got (Unit {0})
  left i at = skim (times (n - i) r at (drop at s))

  pub left_all : (at : ℕ) → skim (times n r at (drop at s)) ≡ left 0 at
  left_all at = rw sub-zero

  suc_left : (i : ℕ) → i < n → n - i ≡ suc (n - (i + 1))
  suc_left i h = omega arith

  pub left_more : (i at : ℕ) {m : ℕ} → i < n → skim (r at (drop at s)) ≡ got tt m (drop m s) → left i at ≡ left (i + 1) m
  left_more i at h e = rw (suc_left i h) (times_more r (n - (i + 1)) at (drop at s) e)

  pub left_stop : (i at : ℕ) {num p : ℕ} → i < n → skim (r at (drop at s)) ≡ refused num p → left i at ≡ refused num p
  left_stop i at h e = rw (suc_left i h) (times_stop r (n - (i + 1)) at (drop at s) e)

  none_left : (i : ℕ) → n ≤ i → n - i ≡ 0
  none_left i h = omega arith

  pub left_none : (i at : ℕ) → n ≤ i → left i at ≡ got tt at (drop at s)
  left_none i at h = rw (none_left i h)

-- as many as were asked for
pub times_length : {A : Type 0} (r : Reader A) (k at : ℕ) (ws : List ℤ) {xs : List A} {n : ℕ} {vs : List ℤ} → times k r at ws ≡ got xs n vs → length xs ≡ k
times_length r zero at ws {xs} e = let q : xs ≡ [] = cc in rw q
times_length r (suc k) at ws {xs} e =
    let (a, m, us, p, q) = bind_got_lem (r at ws) _ e in
    let (rest, o, ts, p', q') = bind_got_lem (times k r m us) _ q in
    let l = times_length r k m us p' in
    let h : xs ≡ a ∷ rest = cc in
    rw (h, l)
