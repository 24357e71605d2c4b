-- Read back: what a reader gives at a position of a table is a function of the table and the position, and so is the next position; and this is known of the words.
use Rattle.std.specs.Prelude.{ℕ, zero, suc, ◌+◌, ◌*◌, ◌≤◌, ◌<◌, ◌≡◌, refl, true, List, [], ◌∷◌, ℤ, pos, negsuc, nat_abs, ◌≤ℤ◌, length, get_or, drop}
use Rattle.std.proofs.Common.{sym, ap, subst, ◌∙◌, arith}
use Rattle.std.specs.Int.Signed.{le_z}
use Rattle.words.specs.Int.{zz, abs_is, one_side}
use Rattle.words.specs.ListFacts.{and_true, le_of}
use Rattle.meaning.specs.Read.{Got, got, Reader, bind_got, ◌>>=◌, give, refuse, neg, within, word, count, below, times}
use Rattle.reading.specs.At.{At, int_at, nat_at, each_at, Names, Between, Each}
use Rattle.reading.specs.Reading.{skim, skim_got, bind_got_lem, worded, number_by, none_got}

-- what is known of the words at a position
abbrev pub Known : Type 1
Known = List ℤ → ℕ → Type 0

pub record Found {A : Type 0} (s : List ℤ) (at : ℕ) (a x : A) (n z : ℕ) (vs : List ℤ) (P : Type 0) : Type 0 where
  pub value : a ≡ x
  pub next : n ≡ z
  pub rest : vs ≡ drop n s
  pub forward : at ≤ n
  pub fits : at ≤ length s → n ≤ length s
  pub known : P

-- what r gives at p is f, the next position is z, and P holds there
pub record Back {A : Type 0} (r : Reader A) (f : At A) (z : At ℕ) (P : Known) : Type 0 where
  pub back : (s : List ℤ) (at : ℕ) {a : A} {n : ℕ} {vs : List ℤ} → r at (drop at s) ≡ got a n vs → Found s at a (f s at) n (z s at) vs (P s at)

-- the same in other words
pub said_as : {A : Type 0} {r : Reader A} {f g : At A} {z y : At ℕ} {P Q : Known} → Back r f z P → ((s : List ℤ) (p : ℕ) → P s p → f s p ≡ g s p) → ((s : List ℤ) (p : ℕ) → P s p → z s p ≡ y s p) → ((s : List ℤ) (p : ℕ) → P s p → Q s p) → Back r g y Q
said_as b f z k = record { back = λ s at e. let c = b.back s at e in record { value = c.value ∙ f s at c.known; next = c.next ∙ z s at c.known; rest = c.rest; forward = c.forward; fits = c.fits; known = k s at c.known } }

-- ---- the parts
abbrev pub one : At ℕ
one s p = p + 1

-- the word at p is in a range
abbrev pub Ranged : ℤ → ℤ → Known
Ranged lo hi s p = (p < length s) × (within lo hi (int_at s p) ≡ true)

pub word_back : (early outside : ℕ) (lo hi : ℤ) → Back (word early outside lo hi) int_at one (Ranged lo hi)
word_back early outside lo hi = record { back = λ s at e. let h = worded early outside lo hi at s e in record { value = sym h.stands; next = h.next; rest = h.rest; forward = omega arith; fits = λ l. omega arith; known = (h.inside, subst (λ w. within lo hi w ≡ true) (sym h.stands) h.range) } }

between : (lo hi : ℕ) (s : List ℤ) (p x : ℕ) → p < length s → get_or s p (pos 0) ≡ pos x → lo ≤ x → x ≤ hi → Between lo hi s p
between lo hi s p x i e l h = record { inside = i; signless = omega (arith, zz, e); from = omega (arith, ap nat_abs e); upto = omega (arith, ap nat_abs e) }

-- the ranges as orders
pub ranged_orders : (lo hi w : ℤ) → within lo hi w ≡ true → (lo ≤ℤ w) × (w ≤ℤ hi)
ranged_orders lo hi w e = let h = and_true (le_z lo w) (le_z w hi) e in (le_of lo w h.0, le_of w hi h.1)

pub ranged_size : (n : ℕ) → 1 ≤ n → (w : ℤ) → within (neg n) (pos n) w ≡ true → nat_abs w ≤ n
ranged_size zero l w e = absurd (omega arith)
ranged_size (suc k) l w e = let h = ranged_orders (negsuc k) (pos (suc k)) w e in omega (arith, zz, abs_is w, one_side w, h.0, h.1)

pub between_orders : {lo hi : ℕ} {s : List ℤ} {p : ℕ} → Between lo hi s p → (pos lo ≤ℤ int_at s p) × (int_at s p ≤ℤ pos hi)
between_orders {s = s} {p} h = (omega (arith, zz, h.signless, h.from, abs_is (int_at s p), one_side (int_at s p)), omega (arith, zz, h.upto, abs_is (int_at s p), one_side (int_at s p)))

-- the word that such a number was read from
pub is_pos : (w : ℤ) → pos 0 ≤ℤ w → w ≡ pos (nat_abs w)
is_pos w h = omega (arith, zz, h, abs_is w, one_side w)

abbrev pub Anything : Known
Anything s p = Unit {0}

pub give_back : {A : Type 0} (a : A) → Back (give a) (λ s p. a) (λ s p. p) Anything
give_back a = record { back = λ s at {a = b} {n} e. let q : at ≡ n = cc in record { value = cc; next = cc; rest = cc; forward = omega arith; fits = λ l. omega arith; known = tt } }

pub refuse_back : {A : Type 0} (num : ℕ) (f : At A) (z : At ℕ) (P : Known) → Back (refuse {A = A} num) f z P
refuse_back num f z P = record { back = λ s at e. let q : ◌≡◌ {A = ℕ} 0 1 = cc in absurd (omega arith) }

module _ {A B : Type 0} (f : At A) (z : At ℕ) (P : Known) (g : A → Reader B) {h : A → At B} {y : A → At ℕ} {Q : A → Known} where
  bind_step : ((a : A) → Back (g a) (h a) (y a) (Q a)) → (s : List ℤ) (at : ℕ) {a : A} {m : ℕ} {us : List ℤ} {b : B} {n : ℕ} {vs : List ℤ} → Found s at a (f s at) m (z s at) us (P s at) → g a m us ≡ got b n vs → Found s at b (h (f s at) s (z s at)) n (y (f s at) s (z s at)) vs (P s at × Q (f s at) s (z s at))
  bind_step k s at {b} {n} {vs} c e =
      let q : g (f s at) (z s at) (drop (z s at) s) ≡ got b n vs = rw (← c.value, ← c.next, ← c.rest) e in
      let d = (k (f s at)).back s (z s at) q in
      record { value = d.value; next = d.next; rest = d.rest; forward = omega arith; fits = λ l. d.fits (omega (arith, c.fits l)); known = (c.known, d.known) }

pub bind_back : {A B : Type 0} {r : Reader A} {f : At A} {z : At ℕ} {P : Known} {g : A → Reader B} {h : A → At B} {y : A → At ℕ} {Q : A → Known} → Back r f z P → ((a : A) → Back (g a) (h a) (y a) (Q a))
    → Back (r >>= g) (λ s p. h (f s p) s (z s p)) (λ s p. y (f s p) s (z s p)) (λ s p. P s p × Q (f s p) s (z s p))
bind_back {r} {f} {z} {P} {g} c k = record { back = λ s at e. let (a, m, us, p, q) = bind_got_lem (r at (drop at s)) g e in bind_step f z P g k s at (c.back s at p) q }

-- ---- numbers
pub count_back : (early outside lo hi : ℕ) → Back (count early outside lo hi) nat_at one (Between lo hi)
count_back early outside lo hi =
    said_as (bind_back (word_back early outside (pos lo) (pos hi)) (λ w. give_back (nat_abs w)))
    (λ s p h. refl)
    (λ s p h. refl)
    (λ s p h. let n = number_by lo hi (int_at s p) h.0.1 in between lo hi s p (nat_at s p) h.0.0 n.2 n.0 n.1)

pub below_back : (early outside n : ℕ) → Back (below early outside n) nat_at one (Names n)
below_back early outside zero = record { back = λ s at e. let (w, m, us, p, q) = bind_got_lem (word early outside (pos 1) (pos 0) at (drop at s)) _ e in absurd (none_got early outside at s p) }
below_back early outside (suc n) = said_as (count_back early outside 0 n) (λ s p h. refl) (λ s p h. refl) (λ s p h. record { inside = h.inside; signless = h.signless; known = omega (arith, h.upto) })

pub below_stands : (early outside n : ℕ) (s : List ℤ) (at : ℕ) {x m : ℕ} {vs : List ℤ} → below early outside n at (drop at s) ≡ got x m vs → get_or s at (pos 0) ≡ pos x
below_stands early outside n s at e = let b = (below_back early outside n).back s at e in is_pos (get_or s at (pos 0)) b.known.signless ∙ ap pos (sym b.value)

-- what was read first, and what then, of the words left in the table
bind_at_by : {A B : Type 0} (s : List ℤ) (g : A → Reader B) {x : Got A} {a : A} {m n : ℕ} {us vs : List ℤ} {b : B} → us ≡ drop m s → x ≡ got a m us → g a m us ≡ got b n vs → (a : A) × (m : ℕ) × (x ≡ got a m (drop m s)) × (g a m (drop m s) ≡ got b n vs)
bind_at_by s g {a} {m} h p q = (a, m, rw (← h) p, rw (← h) q)

pub bind_at : {A B : Type 0} {r : Reader A} {f : At A} {z : At ℕ} {P : Known} → Back r f z P → (s : List ℤ) (at : ℕ) (g : A → Reader B) {b : B} {n : ℕ} {vs : List ℤ} → bind_got (r at (drop at s)) g ≡ got b n vs → (a : A) × (m : ℕ) × (r at (drop at s) ≡ got a m (drop m s)) × (g a m (drop m s) ≡ got b n vs)
bind_at {r} c s at g e = let (a, m, us, p, q) = bind_got_lem (r at (drop at s)) g e in bind_at_by s g (c.back s at p).rest p q

-- ---- several, each k words long
pub none_each : (P : Known) (k : ℕ) (s : List ℤ) (p : ℕ) → Each P k 0 s p
none_each P k s p = record { each = λ i h. absurd (omega arith); fits = λ l. omega arith }

pub more_each : {P : Known} (k n : ℕ) (s : List ℤ) (p : ℕ) → P s p → (p ≤ length s → p + k ≤ length s) → Each P k n s (p + k) → Each P k (suc n) s p
more_each {P} k n s p h f e = record { each = at; fits = λ l. omega (arith, e.fits (f l)) }
  where
    at : (i : ℕ) → i < suc n → P s (p + i * k)
    at zero l = let q : p ≡ p + 0 * k = omega arith in subst (P s) q h
    at (suc i) l = let q : p + k + i * k ≡ p + suc i * k = omega arith in subst (P s) q (e.each i (omega arith))

with_fits : {A : Type 0} {r : Reader A} {f : At A} {z : At ℕ} {P : Known} → Back r f z P → Back r f z (λ s p. P s p × (p ≤ length s → z s p ≤ length s))
with_fits {z} b = record { back = λ s at e. let c = b.back s at e in record { value = c.value; next = c.next; rest = c.rest; forward = c.forward; fits = c.fits; known = (c.known, λ l. subst (λ n. n ≤ length s) c.next (c.fits l)) } }

pub times_back : {A : Type 0} {r : Reader A} {f : At A} {k : ℕ} {P : Known} → Back r f (λ s p. p + k) P → (n : ℕ) → Back (times n r) (each_at f k n) (λ s p. p + n * k) (Each P k n)
unfolding each_at
times_back {A} {k} {P} b zero = said_as (give_back {A = List A} []) (λ s p h. refl) (λ s p h. omega arith) (λ s p h. none_each P k s p)
times_back {k} b (suc n) = said_as (bind_back (with_fits b) (λ a. bind_back (times_back b n) (λ rest. give_back (a ∷ rest)))) (λ s p h. refl) (λ s p h. omega arith) (λ s p h. more_each k n s p h.0.0 h.0.1 h.1.0)

-- ---- read over, and so read
pub skim_back : {A : Type 0} {r : Reader A} {f : At A} {z : At ℕ} {P : Known} → Back r f z P → (s : List ℤ) (at : ℕ) {n : ℕ} {vs : List ℤ} → skim (r at (drop at s)) ≡ got tt n vs → r at (drop at s) ≡ got (f s at) n vs
skim_back {A} {r} b s at {n} {vs} e = let (a, q) = skim_got (r at (drop at s)) e in q ∙ ap (λ (x : A). got x n vs) (b.back s at q).value

pub stays : {A : Type 0} {r : Reader A} {f : At A} {z : At ℕ} {P : Known} → Back r f z P → (s : List ℤ) (at : ℕ) {n : ℕ} {vs : List ℤ} → at ≤ length s → skim (r at (drop at s)) ≡ got tt n vs → n ≤ length s
stays {r} b s at l e = let (a, q) = skim_got (r at (drop at s)) e in (b.back s at q).fits l
