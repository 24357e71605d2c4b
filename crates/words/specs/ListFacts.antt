-- Lemmas on tests, numbers and lists, said once: tests; membership; `any`, `all`, `keep`; `All`; by index; sums; spans; rising lists.
use Rattle.std.specs.Prelude.{ℕ, zero, suc, ◌+◌, ◌≤◌, ◌<◌, ◌≡◌, refl, Bool, true, false, not, ◌&&◌, ◌||◌, ◌⊎◌, ltb, length, get_or, ℤ, pos, ◌+ℤ◌, ◌-ℤ◌, ◌≤ℤ◌, ◌<ℤ◌}
use Rattle.std.proofs.Common.{arith, le_trans, sym, ap, subst, ◌∙◌, true≢false, inl, inr, ⊎_elim, ltb-true, ltb-false}
use mathlib.Core.List.Memᴰ.{head as here}
use mathlib.Core.List.Memᴰ.{not-nil as not-in-nil}
use mathlib.Core.List.Memᴰ.{tail as there}
use mathlib.Core.List.{List, [], ◌∷◌, ◌++◌, map, Memᴰ as In}
use Rattle.std.specs.Int.Signed.{le_z, lt_z, ≤ℤ_refl}
use Rattle.words.specs.Int.{zz, sum, diff, eq_z, eq_z_eq, eq_z_refl}
use Rattle.words.specs.Lists.{any, all, member, keep_if, keep, sum_of, span, least, largest, is_empty, All, empty, also}

-- ---- tests
pub tested : (b : Bool) → (b ≡ true) ⊎ (b ≡ false)
tested true = inl refl
tested false = inr refl

pub clash : {R : Type 0} {b : Bool} → b ≡ true → b ≡ false → R
clash p q = absurd (true≢false (sym p ∙ q))

pub is_true : {b : Bool} → (b ≡ false → ⊥) → b ≡ true
is_true {b = true} h = refl
is_true {b = false} h = absurd (h refl)

pub same_test : (a b : Bool) → (a ≡ true → b ≡ true) → (b ≡ true → a ≡ true) → a ≡ b
same_test true b f g = sym (f refl)
same_test false true f g = g refl
same_test false false f g = refl

pub and_true : (a b : Bool) → a && b ≡ true → (a ≡ true) × (b ≡ true)
and_true true b e = (refl, e)
and_true false b e = clash e refl

pub and_both : (a b : Bool) → a ≡ true → b ≡ true → a && b ≡ true
and_both a b p q = rw (p, q)

pub or_cases : (a b : Bool) → a || b ≡ true → (a ≡ true) ⊎ (b ≡ true)
or_cases true b h = inl h
or_cases false b h = inr h

pub or_left : {a : Bool} (b : Bool) → a ≡ true → a || b ≡ true
or_left b h = rw h

pub or_right : (a : Bool) {b : Bool} → b ≡ true → a || b ≡ true
or_right true h = refl
or_right false h = h

pub or_none_lem : (a b : Bool) → a || b ≡ false → (a ≡ false) × (b ≡ false)
or_none_lem true b h = clash refl h
or_none_lem false b h = (refl, h)

pub not_not : (b : Bool) → not (not b) ≡ b
not_not true = refl
not_not false = refl

-- what is shown of a value that hangs on a test
pub choose : {A : Type 0} (P : A → Type 0) (b : Bool) {x y : A} → (b ≡ true → P x) → (b ≡ false → P y) → P (elim b [ true ↦ x | false ↦ y ])
choose P true f g = f refl
choose P false f g = g refl

-- ---- numbers
pub le_of : (v w : ℤ) → le_z v w ≡ true → v ≤ℤ w
le_of v w h = omega (arith, zz)

pub of_le : {v w : ℤ} → v ≤ℤ w → le_z v w ≡ true
of_le h = omega (arith, zz)

pub lt_of : (v w : ℤ) → lt_z v w ≡ true → v <ℤ w
lt_of v w h = omega (arith, zz)

pub of_lt : {v w : ℤ} → v <ℤ w → lt_z v w ≡ true
of_lt h = omega (arith, zz)

pub le_total : (v w : ℤ) → (v ≤ℤ w) ⊎ (w ≤ℤ v)
le_total v w = ⊎_elim (λ e. inl (omega (arith, zz))) (λ e. inr (omega (arith, zz))) (tested (le_z v w))

pub lt_or_not : (v w : ℤ) → (v <ℤ w) ⊎ (v <ℤ w → ⊥)
lt_or_not v w = ⊎_elim (λ e. inl (omega (arith, zz))) (λ e. inr (λ h. omega (arith, zz))) (tested (lt_z v w))

-- the number before v
pub before_lt : (v w : ℤ) → v ≤ℤ w → (v -ℤ pos 1) <ℤ w
before_lt v w h = omega (arith, zz, diff v (pos 1))

pub before_le : (t v : ℤ) → t <ℤ v → t ≤ℤ (v -ℤ pos 1)
before_le t v h = omega (arith, zz, diff v (pos 1))

-- ---- membership
module _ {A : Type 0} where
  pub on_cons : (Q : A → Type 0) {x : A} {xs : List A} → Q x → ((y : A) → In y xs → Q y) → (y : A) → In y (x ∷ xs) → Q y
  on_cons Q q f y (here e) = subst Q (sym e) q
  on_cons Q q f y (there m) = f y m

  -- one member, and those before and after it
  pub parted : {x : A} {xs : List A} → In x xs → (l : List A) × (r : List A) × (xs ≡ l ++ x ∷ r)
  parted {x = x} (here {x = y} {xs} e) = ([], xs, ap (λ z. z ∷ xs) (sym e))
  parted (there {x = y} m) = let q = parted m in (y ∷ q.0, q.1, ap (λ zs. y ∷ zs) q.2)

  pub in_around : (l : List A) (y : A) (r : List A) {x : A} → In x (l ++ r) → In x (l ++ y ∷ r)
  in_around [] y r m = there m
  in_around (z ∷ l) y r (here e) = here e
  in_around (z ∷ l) y r (there m) = there (in_around l y r m)

  pub in_middle : (l : List A) (x : A) (r : List A) → In x (l ++ x ∷ r)
  in_middle [] x r = here refl
  in_middle (z ∷ l) x r = there (in_middle l x r)

  pub get_or_in : (xs : List A) (i : ℕ) (e : A) → i < length xs → In (get_or xs i e) xs
  get_or_in [] i e h = absurd (omega arith)
  get_or_in (x ∷ xs) zero e h = here refl
  get_or_in (x ∷ xs) (suc i) e h = there (get_or_in xs i e (omega arith))

  pub in_at : {x : A} {xs : List A} (e : A) → In x xs → (i : ℕ) × (i < length xs) × (get_or xs i e ≡ x)
  in_at e (here q) = (0, omega arith, sym q)
  in_at e (there m) = let r = in_at e m in (suc r.0, omega (arith, r.1), r.2)

pub in_map : {A B : Type 0} (f : A → B) (xs : List A) {y : B} → In y (map f xs) → (x : A) × In x xs × (y ≡ f x)
in_map f [] m = absurd (not-in-nil m)
in_map f (x ∷ xs) (here e) = (x, here refl, e)
in_map f (x ∷ xs) (there m) = let r = in_map f xs m in (r.0, there r.1, r.2)

pub map_in : {A B : Type 0} (f : A → B) {x : A} {xs : List A} → In x xs → In (f x) (map f xs)
map_in f (here e) = here (ap f e)
map_in f (there m) = there (map_in f m)

pub is_empty_lem : {v : ℤ} (vs : List ℤ) → is_empty vs ≡ true → In v vs → ⊥
is_empty_lem [] e i = not-in-nil i
is_empty_lem (v ∷ vs) e i = clash e refl

-- among the members that have a property, one that comes last in an order
module _ {A : Type 0} (P : A → Type 0) (dec : (x : A) → P x ⊎ (P x → ⊥)) (R : A → A → Type 0) (total : (x y : A) → R x y ⊎ R y x) (trans : (x y z : A) → R x y → R y z → R x z) where
  abbrev Last : List A → Type 0
  Last xs = (x : A) × In x xs × P x × ((y : A) → In y xs → P y → R y x)

  abbrev None : List A → Type 0
  None xs = (y : A) → In y xs → P y → ⊥

  pub last_of : (xs : List A) → Last xs ⊎ None xs
  last_of [] = inr (λ y m p. not-in-nil m)
  last_of (x ∷ xs) = go (dec x) (last_of xs)
    where
      later : (z : A) → In z xs → P z → ((y : A) → In y xs → P y → R y z) → P x → R x z ⊎ R z x → Last (x ∷ xs)
      later z m q f p (inl r) = (z, there m, q, on_cons (λ y. P y → R y z) (λ k. r) f)
      later z m q f p (inr r) = (x, here refl, p, on_cons (λ y. P y → R y x) (λ k. ⊎_elim (λ r. r) (λ r. r) (total x x)) (λ y n k. trans y z x (f y n k) r))

      go : P x ⊎ (P x → ⊥) → Last xs ⊎ None xs → Last (x ∷ xs) ⊎ None (x ∷ xs)
      go (inl p) (inl l) = inl (later l.0 l.1 l.2 l.3 p (total x l.0))
      go (inl p) (inr n) = inl (x, here refl, p, on_cons (λ y. P y → R y x) (λ k. ⊎_elim (λ r. r) (λ r. r) (total x x)) (λ y m q. absurd (n y m q)))
      go (inr n) (inl l) = inl (l.0, there l.1, l.2, on_cons (λ y. P y → R y l.0) (λ k. absurd (n k)) l.3)
      go (inr n) (inr k) = inr (on_cons (λ y. P y → ⊥) n k)

-- ---- the tests `any` and `all`, and what a test keeps
module _ {A : Type 0} (p : A → Bool) where
  pub any_found : (xs : List A) → any p xs ≡ true → (x : A) × In x xs × (p x ≡ true)
  any_found [] e = clash e refl
  any_found (x ∷ xs) e = ⊎_elim (λ q. (x, here refl, q)) (λ h. let r = any_found xs h in (r.0, there r.1, r.2)) (or_cases (p x) (any p xs) e)

  pub any_holds : {x : A} {xs : List A} → In x xs → p x ≡ true → any p xs ≡ true
  any_holds (here {xs = xs} e) h = or_left (any p xs) (ap p (sym e) ∙ h)
  any_holds (there {x = y} m) h = or_right (p y) (any_holds m h)

  pub all_at : {x : A} {xs : List A} → all p xs ≡ true → In x xs → p x ≡ true
  all_at h (here {x = y} {xs} e) = ap p e ∙ (and_true (p y) (all p xs) h).0
  all_at h (there {x = y} {xs} m) = all_at (and_true (p y) (all p xs) h).1 m

  pub all_by : (xs : List A) → ((x : A) → In x xs → p x ≡ true) → all p xs ≡ true
  all_by [] h = refl
  all_by (x ∷ xs) h = and_both (p x) (all p xs) (h x (here refl)) (all_by xs (λ y m. h y (there m)))

  keep_if_in : {v : A} (b : Bool) (w : A) (vs : List A) → In v vs → In v (keep_if b w vs)
  keep_if_in true w vs i = there i
  keep_if_in false w vs i = i

  pub keep_in : {v : A} (vs : List A) → In v vs → p v ≡ true → In v (keep p vs)
  keep_in [] i t = absurd (not-in-nil i)
  keep_in {v} (w ∷ vs) (here e) t = subst (λ b. In v (keep_if b w (keep p vs))) (sym t ∙ ap p e) (here e)
  keep_in (w ∷ vs) (there i) t = keep_if_in (p w) w (keep p vs) (keep_in vs i t)

  pub in_keep : {v : A} (vs : List A) → In v (keep p vs) → In v vs × (p v ≡ true)
  in_keep [] i = absurd (not-in-nil i)
  in_keep {v} (w ∷ vs) i = go (p w) refl i (in_keep vs)
    where
      go : (b : Bool) → p w ≡ b → In v (keep_if b w (keep p vs)) → (In v (keep p vs) → In v vs × (p v ≡ true)) → In v (w ∷ vs) × (p v ≡ true)
      go true y (here e) f = (here e, ap p e ∙ y)
      go true y (there j) f = (there (f j).0, (f j).1)
      go false n j f = (there (f j).0, (f j).1)

pub member_in : (v : ℤ) (vs : List ℤ) → member eq_z v vs ≡ true → In v vs
member_in v vs h = let r = any_found (eq_z v) vs h in subst (λ z. In z vs) (sym (eq_z_eq v r.0 r.2)) r.1

pub in_member : {v : ℤ} {vs : List ℤ} → In v vs → member eq_z v vs ≡ true
in_member {v} m = any_holds (eq_z v) m (eq_z_refl v)

-- ---- every member
module _ {A : Type 0} {P : A → Type 0} where
  pub each_in : {x : A} {xs : List A} → All P xs → In x xs → P x
  each_in empty i = absurd (not-in-nil i)
  each_in (also h hs) (here e) = subst P (sym e) h
  each_in (also h hs) (there i) = each_in hs i

  pub each_of : (xs : List A) → ((x : A) → In x xs → P x) → All P xs
  each_of [] h = empty
  each_of (x ∷ xs) h = also (h x (here refl)) (each_of xs (λ y i. h y (there i)))

  pub each_append : (xs : List A) {ys : List A} → All P xs → All P ys → All P (xs ++ ys)
  each_append [] empty k = k
  each_append (x ∷ xs) (also h hs) k = also h (each_append xs hs k)

  pub each_map : {Q : A → Type 0} {xs : List A} → ((x : A) → P x → Q x) → All P xs → All Q xs
  each_map k empty = empty
  each_map k (also h hs) = also (k _ h) (each_map k hs)

  -- by index
  pub each_at_lem : {xs : List A} (d : A) (i : ℕ) → i < length xs → All P xs → P (get_or xs i d)
  each_at_lem d i l empty = absurd (omega arith)
  each_at_lem d zero l (also p h) = p
  each_at_lem d (suc i) l (also p h) = each_at_lem d i (omega arith) h

  -- the default too
  pub each_or : {xs : List A} (d : A) (i : ℕ) → P d → All P xs → P (get_or xs i d)
  each_or d i h empty = h
  each_or d zero h (also k ks) = k
  each_or d (suc i) h (also k ks) = each_or d i h ks

  pub each_from : (d : A) (xs : List A) → ((j : ℕ) → j < length xs → P (get_or xs j d)) → All P xs
  each_from d [] h = empty
  each_from d (x ∷ xs) h = also (h 0 (omega arith)) (each_from d xs (λ j k. h (suc j) (omega arith)))

-- ---- sums
module _ {A : Type 0} where
  pub sum_le : (f g : A → ℕ) (xs : List A) → ((x : A) → In x xs → f x ≤ g x) → sum_of f xs ≤ sum_of g xs
  sum_le f g [] h = omega arith
  sum_le f g (x ∷ xs) h = omega (arith, h x (here refl), sum_le f g xs (λ y m. h y (there m)))

  -- one part moves to the front
  pub sum_part : (f : A → ℕ) (l : List A) (x : A) (r : List A) → sum_of f (l ++ x ∷ r) ≡ f x + sum_of f (l ++ r)
  sum_part f [] x r = refl
  sum_part f (y ∷ l) x r = omega (arith, sum_part f l x r)

  pub sum_some : (f : A → ℕ) (xs : List A) → 0 < sum_of f xs → (x : A) × In x xs × (0 < f x)
  sum_some f [] h = absurd (omega arith)
  sum_some f (x ∷ xs) h = go (tested (ltb 0 (f x))) (sum_some f xs)
    where
      go : (ltb 0 (f x) ≡ true) ⊎ (ltb 0 (f x) ≡ false) → (0 < sum_of f xs → (y : A) × In y xs × (0 < f y)) → (y : A) × In y (x ∷ xs) × (0 < f y)
      go (inl e) k = (x, here refl, ltb-true 0 (f x) e)
      go (inr e) k = let r = k (omega (arith, ltb-false 0 (f x) e)) in (r.0, there r.1, r.2)

-- ---- span v n holds the numbers from v up to, not including, v + n
pub in_span : (v : ℤ) (n : ℕ) {w : ℤ} → In w (span v n) → (v ≤ℤ w) × (w <ℤ (v +ℤ pos n))
in_span v zero i = absurd (not-in-nil i)
in_span v (suc n) (here e) = (omega (arith, zz), omega (arith, zz))
in_span v (suc n) (there i) = let h = in_span (v +ℤ pos 1) n i in (omega (arith, zz), omega (arith, zz, sum v (pos 1)))

pub span_in : (v : ℤ) (n : ℕ) {w : ℤ} → v ≤ℤ w → w <ℤ (v +ℤ pos n) → In w (span v n)
span_in v zero h k = absurd (omega (arith, zz))
span_in v (suc n) {w} h k = go (tested (le_z w v)) (span_in (v +ℤ pos 1) n)
  where
    go : (le_z w v ≡ true) ⊎ (le_z w v ≡ false) → ((v +ℤ pos 1) ≤ℤ w → w <ℤ ((v +ℤ pos 1) +ℤ pos n) → In w (span (v +ℤ pos 1) n)) → In w (span v (suc n))
    go (inl e) f = here {x = v} (omega (arith, zz))
    go (inr e) f = there (f (omega (arith, zz)) (omega (arith, zz, sum v (pos 1))))

-- ---- rising lists: each number is below all that stand after it
abbrev pub Rising : List ℤ → Type 0
Rising [] = Unit {0}
Rising (v ∷ vs) = ((w : ℤ) → In w vs → v <ℤ w) × Rising vs

pub least_below : {vs : List ℤ} {v : ℤ} → Rising vs → In v vs → least vs ≤ℤ v
least_below r (here e) = omega (arith, zz)
least_below {v = v} r (there m) = let h = r.0 v m in omega (arith, zz)

pub largest_above : (vs : List ℤ) {v : ℤ} → Rising vs → In v vs → v ≤ℤ largest vs
largest_above [] r i = absurd (not-in-nil i)
largest_above (v ∷ []) r (here e) = omega (arith, zz)
largest_above (v ∷ []) r (there m) = absurd (not-in-nil m)
largest_above (v ∷ (w ∷ vs)) r (here e) = let h = r.0 w (here refl) in let k = largest_above (w ∷ vs) r.1 (here refl) in omega (arith, zz)
largest_above (v ∷ (w ∷ vs)) r (there m) = largest_above (w ∷ vs) r.1 m

pub ends_ordered : (vs : List ℤ) → Rising vs → least vs ≤ℤ largest vs
ends_ordered [] r = ≤ℤ_refl (pos 0)
ends_ordered (v ∷ vs) r = largest_above (v ∷ vs) r (here refl)

pub least_in : (v : ℤ) (vs : List ℤ) → In (least (v ∷ vs)) (v ∷ vs)
least_in v vs = here refl

pub largest_in : (v : ℤ) (vs : List ℤ) → In (largest (v ∷ vs)) (v ∷ vs)
largest_in v [] = here refl
largest_in v (w ∷ vs) = there (largest_in w vs)

pub span_rising : (v : ℤ) (n : ℕ) → Rising (span v n)
span_rising v zero = tt
span_rising v (suc n) = (λ w m. let h = in_span (v +ℤ pos 1) n m in omega (arith, zz), span_rising (v +ℤ pos 1) n)

pub keep_rising : (p : ℤ → Bool) (vs : List ℤ) → Rising vs → Rising (keep p vs)
keep_rising p [] r = tt
keep_rising p (v ∷ vs) r = go (p v) (keep_rising p vs r.1)
  where
    go : (b : Bool) → Rising (keep p vs) → Rising (keep_if b v (keep p vs))
    go true k = (λ w m. r.0 w (in_keep p vs m).0, k)
    go false k = k

-- ---- naturals that climb: each is at least `from`, below `to`, and above the one before it
pub data Climbs (to : ℕ) : ℕ → List ℕ → Type 0 where
  nil : {from : ℕ} → Climbs to from []
  next : {from x : ℕ} {xs : List ℕ} → from ≤ x → x < to → Climbs to (suc x) xs → Climbs to from (x ∷ xs)

pub climbs_from : {to from from' : ℕ} {xs : List ℕ} → from' ≤ from → Climbs to from xs → Climbs to from' xs
climbs_from l nil = nil
climbs_from l (next a b r) = next (le_trans l a) b r

pub climbs_within : {to from : ℕ} {xs : List ℕ} (i : ℕ) → i < length xs → Climbs to from xs → (from ≤ get_or xs i 0) × (get_or xs i 0 < to)
climbs_within i l nil = absurd (omega arith)
climbs_within zero l (next a b r) = (a, b)
climbs_within (suc i) l (next a b r) = let h = climbs_within i (omega arith) r in (omega arith, h.1)

pub climbs_apart : {to from : ℕ} {xs : List ℕ} (i j : ℕ) → i < j → j < length xs → Climbs to from xs → get_or xs i 0 < get_or xs j 0
climbs_apart i j h l nil = absurd (omega arith)
climbs_apart i zero h l (next a b r) = absurd (omega arith)
climbs_apart zero (suc j) h l (next a b r) = (climbs_within j (omega arith) r).0
climbs_apart (suc i) (suc j) h l (next a b r) = climbs_apart i j (omega arith) (omega arith) r
