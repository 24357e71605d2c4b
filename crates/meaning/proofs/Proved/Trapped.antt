-- A set of positions that traps is found by the circuit rule.
use Rattle.std.specs.Prelude.{ℕ, suc, ◌<◌, ◌≡◌, refl, Bool, true, false, not, ◌&&◌, ◌||◌, ltb, length, get_or, ℤ, pos, negsuc}
use Rattle.std.proofs.Common.{ap, subst, arith, ltb-true}
use mathlib.Core.List.Memᴰ
use mathlib.Core.List.Memᴰ.{head as here}
use mathlib.Core.List.{List, [], ◌∷◌, map, Memᴰ as In}
use Rattle.words.specs.Lists.{any, all}
use Rattle.words.specs.ListFacts.{and_both, get_or_in, any_holds, all_by, map_in}
use Rattle.meaning.specs.Rule.{sets, holds, inside, closed, proper, trapped}
use Rattle.meaning.proofs.Proved.Tour.{Trap}

-- ---- a set that traps is found
pub in_sets : (s : List Bool) → In s (sets (length s))
in_sets [] = here refl
in_sets (true ∷ s) = Memᴰ.append_left (map (λ t. false ∷ t) (sets (length s))) (map_in (λ t. true ∷ t) (in_sets s))
in_sets (false ∷ s) = Memᴰ.append_right (map (λ t. true ∷ t) (sets (length s))) (map_in (λ t. false ∷ t) (in_sets s))

held_in : (s : List Bool) (i : ℕ) → i < length s → In (holds i s) s
held_in s i h = get_or_in s i false h

pub closed_by : (n : ℕ) (d : ℕ → List ℤ) (s : List Bool) (xs : List ℕ) (bs : List Bool)
    → ((i : ℕ) → i < length xs → holds i bs ≡ true → all (inside n s) (d (get_or xs i 0)) ≡ true) → closed n d s xs bs ≡ true
closed_by n d s [] bs f = refl
closed_by n d s (x ∷ xs) [] f = refl
closed_by n d s (x ∷ xs) (true ∷ bs) f = and_both (all (inside n s) (d x)) (closed n d s xs bs) (f 0 (omega arith) refl) (closed_by n d s xs bs (λ i l e. f (suc i) (omega arith) e))
closed_by n d s (x ∷ xs) (false ∷ bs) f = closed_by n d s xs bs (λ i l e. f (suc i) (omega arith) e)

pub trapped_by : (d : ℕ → List ℤ) (xs : List ℕ) (s : List Bool) → Trap d xs s → trapped d xs ≡ true
trapped_by d xs s t =
    let n = length xs in
    let (i, l, e) = t.insider in
    let (j, g, f) = t.outsider in
    any_holds (λ s. proper s && closed n d s xs s) (subst (λ m. In s (sets m)) t.sized (in_sets s))
    (and_both (proper s) (closed n d s xs s)
    (and_both (any (λ b. b) s) (any not s) (any_holds (λ b. b) (held_in s i (omega (arith, t.sized))) e) (any_holds not (held_in s j (omega (arith, t.sized))) (ap not f)))
    (closed_by n d s xs s (λ i l e. all_by (inside n s) (d (get_or xs i 0)) (t.kept i l e))))

pub inside_by : (n : ℕ) (s : List Bool) (v : ℤ) → ((j : ℕ) → j < n → v ≡ pos j → holds j s ≡ true) → inside n s v ≡ true
inside_by n s (pos i) f = go (ltb i n) refl
  where
    go : (b : Bool) → ltb i n ≡ b → not b || holds i s ≡ true
    go true e = f i (ltb-true i n e) refl
    go false e = refl
inside_by n s (negsuc i) f = refl
