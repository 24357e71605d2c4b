-- The circuit row is sound: a closed set of positions, neither empty nor all, leaves no tour.
use Rattle.std.specs.Prelude.{ℕ, zero, suc, ◌+◌, ◌-◌, ◌<◌, ◌≡◌, refl, Bool, true, false, not, ◌&&◌, ◌⊎◌, length, get_or, ℤ, pos, negsuc, nat_abs, ◌≤ℤ◌, ◌<ℤ◌}
use Rattle.std.proofs.Common.{sym, ap, subst, ◌∙◌, inl, inr, arith, lt-ltb}
use mathlib.Core.List.Memᴰ
use mathlib.Core.List.Memᴰ.{head as here}
use mathlib.Core.List.Memᴰ.{tail as there}
use mathlib.Core.List.{List, [], ◌∷◌, map, Memᴰ as In}
use Rattle.std.proofs.lemmas.Bool.{not-true}
use Rattle.words.specs.Int.{zz, abs_is, one_side}
use Rattle.words.specs.Lists.{any, all}
use Rattle.words.specs.ListFacts.{clash, any_found, all_at, get_or_in, in_at, in_map, and_true}
use Rattle.meaning.specs.Model.{circuit}
use Rattle.meaning.specs.Rule.{sets, holds, inside, closed, proper, trapped}
use Rattle.meaning.specs.Meets.{Assignment, reached, Meets}
use Rattle.meaning.proofs.Proved.Pigeons.{all_met}

-- ---- sets of positions
pub sets_length : (n : ℕ) (s : List Bool) → In s (sets n) → length s ≡ n
sets_length zero s (here e) = ap length e
sets_length zero s (there m) = absurd (Memᴰ.not-nil m)
sets_length (suc n) s m = go (Memᴰ.append_cases (map (λ t. true ∷ t) (sets n)) m) (sets_length n)
  where
    grown : (b : Bool) → In s (map (λ t. b ∷ t) (sets n)) → ((t : List Bool) → In t (sets n) → length t ≡ n) → length s ≡ suc n
    grown b k f = let r = in_map (λ t. b ∷ t) (sets n) k in ap length r.2 ∙ ap suc (f r.0 r.1)

    go : In s (map (λ t. true ∷ t) (sets n)) ⊎ In s (map (λ t. false ∷ t) (sets n)) → ((t : List Bool) → In t (sets n) → length t ≡ n) → length s ≡ suc n
    go (inl k) f = grown true k f
    go (inr k) f = grown false k f

pub closed_at : (n : ℕ) (d : ℕ → List ℤ) (s : List Bool) (xs : List ℕ) (bs : List Bool) → closed n d s xs bs ≡ true
    → (i : ℕ) → i < length xs → holds i bs ≡ true → all (inside n s) (d (get_or xs i 0)) ≡ true
closed_at n d s [] bs h i l e = absurd (omega arith)
closed_at n d s (x ∷ xs) [] h i l e = absurd (clash e refl)
closed_at n d s (x ∷ xs) (true ∷ bs) h zero l e = (and_true (all (inside n s) (d x)) (closed n d s xs bs) h).0
closed_at n d s (x ∷ xs) (true ∷ bs) h (suc i) l e = closed_at n d s xs bs (and_true (all (inside n s) (d x)) (closed n d s xs bs) h).1 i (omega arith) e
closed_at n d s (x ∷ xs) (false ∷ bs) h zero l e = absurd (clash e refl)
closed_at n d s (x ∷ xs) (false ∷ bs) h (suc i) l e = closed_at n d s xs bs h i (omega arith) e

pub inside_at : (n : ℕ) (s : List Bool) (j : ℕ) → j < n → inside n s (pos j) ≡ true → holds j s ≡ true
inside_at n s j l h = rw (lt-ltb j n l) at h

inside_holds : (n : ℕ) (s : List Bool) (v : ℤ) → pos 0 ≤ℤ v → v <ℤ pos n → inside n s v ≡ true → holds (nat_abs v) s ≡ true
inside_holds n s (pos i) h l e = inside_at n s i (omega (arith, zz)) e
inside_holds n s (negsuc i) h l e = absurd (omega (arith, zz))

-- what a set that traps is: some position is in it and some is not, and a value left at a member names a member
pub record Trap (d : ℕ → List ℤ) (xs : List ℕ) (s : List Bool) : Type 0 where
  pub sized : length s ≡ length xs
  pub insider : (i : ℕ) × (i < length xs) × (holds i s ≡ true)
  pub outsider : (i : ℕ) × (i < length xs) × (holds i s ≡ false)
  pub kept : (i : ℕ) → i < length xs → holds i s ≡ true → (v : ℤ) → In v (d (get_or xs i 0)) → inside (length xs) s v ≡ true

holder : (s : List Bool) (n : ℕ) (p : Bool → Bool) (b : Bool) → ((c : Bool) → p c ≡ true → c ≡ b) → length s ≡ n → any p s ≡ true → (i : ℕ) × (i < n) × (holds i s ≡ b)
holder s n p b f e h = let r = any_found p s h in let q = in_at false r.1 in (q.0, omega (arith, q.1), q.2 ∙ f r.0 r.2)

trap_from : (d : ℕ → List ℤ) (xs : List ℕ) (s : List Bool) → In s (sets (length xs)) → proper s && closed (length xs) d s xs s ≡ true → Trap d xs s
trap_from d xs s k h =
    let n = length xs in
    let e = sets_length n s k in
    let p = (and_true (proper s) (closed n d s xs s) h).0 in
    record {
      sized = e;
      insider = holder s n (λ b. b) true (λ c q. q) e (and_true (any (λ b. b) s) (any not s) p).0;
      outsider = holder s n not false not-true e (and_true (any (λ b. b) s) (any not s) p).1;
      kept = λ i l g v m. all_at (inside n s) (closed_at n d s xs s (and_true (proper s) (closed n d s xs s) h).1 i l g) m;
    }

pub trap_of : (d : ℕ → List ℤ) (xs : List ℕ) → trapped d xs ≡ true → (s : List Bool) × Trap d xs s
trap_of d xs h = let f = any_found (λ s. proper s && closed (length xs) d s xs s) (sets (length xs)) h in (f.0, trap_from d xs f.0 f.1 f.2)

module _ (a : Assignment) (xs : List ℕ) (some : 0 < length xs) (m : Meets a (circuit xs)) where
  reached_below : (k : ℕ) → reached a xs k < length xs
  reached_below zero = some
  reached_below (suc k) = let z = a (get_or xs (reached a xs k) 0) in let r = m.0 (reached a xs k) (reached_below k) in omega (arith, zz, r.0, r.1, abs_is z, one_side z)

  visited : (p : ℕ) → p < length xs → (k : ℕ) × (k < length xs) × (reached a xs k ≡ p)
  visited = all_met (length xs) (reached a xs) (λ i h. reached_below i) m.1

  module _ (s : List Bool) (stays : (i : ℕ) → i < length xs → holds i s ≡ true → holds (nat_abs (a (get_or xs i 0))) s ≡ true) where
    stays_on : (j k : ℕ) → holds (reached a xs k) s ≡ true → holds (reached a xs (j + k)) s ≡ true
    stays_on zero k h = let e : k ≡ 0 + k = omega arith in subst (λ z. holds (reached a xs z) s ≡ true) e h
    stays_on (suc j) k h = let e : suc (j + k) ≡ suc j + k = omega arith in subst (λ z. holds (reached a xs z) s ≡ true) e (stays (reached a xs (j + k)) (reached_below (j + k)) (stays_on j k h))

    -- from a member the tour comes back to position 0, and from there it goes through all positions
    holds_start : (i : ℕ) → i < length xs → holds i s ≡ true → holds 0 s ≡ true
    holds_start i l h =
        let (k, below, is) = visited i l in
        let e : (length xs - k) + k ≡ length xs = omega arith in
        subst (λ p. holds p s ≡ true) (ap (reached a xs) e ∙ m.2) (stays_on (length xs - k) k (subst (λ p. holds p s ≡ true) (sym is) h))

    holds_everywhere : (i : ℕ) → i < length xs → holds i s ≡ true → (j : ℕ) → j < length xs → holds j s ≡ true
    holds_everywhere i l h j g =
        let (k, below, is) = visited j g in
        let e : k + 0 ≡ k = omega arith in
        subst (λ p. holds p s ≡ true) (ap (reached a xs) e ∙ is) (stays_on k 0 (holds_start i l h))

-- where a set traps the values left, no assignment of those values makes the tour
pub trapped_refuses : (d : ℕ → List ℤ) (xs : List ℕ) → trapped d xs ≡ true → (a : Assignment) → ((x : ℕ) → In x xs → In (a x) (d x)) → Meets a (circuit xs) → ⊥
trapped_refuses d xs h a left m =
    let (s, t) = trap_of d xs h in
    let (i, l, e) = t.insider in
    let (j, g, f) = t.outsider in
    clash (holds_everywhere a xs (omega arith) m s (λ p b q. inside_holds (length xs) s (a (get_or xs p 0)) (m.0 p b).0 (m.0 p b).1 (t.kept p b q (a (get_or xs p 0)) (left (get_or xs p 0) (get_or_in xs p 0 b)))) i l e j g) f
