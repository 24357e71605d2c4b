-- Pairs of words: whether one of them is a given one.
use Rattle.std.specs.Prelude.{ℕ, zero, suc, ◌≤◌, ◌≡◌, Bool, true, false, ◌&&◌, ◌||◌, List, [], ◌∷◌, ◌++◌, ℤ, pos, get_or, take}
use Rattle.std.specs.List.{list_any}
use Rattle.std.proofs.Math.Path.{refl}
use Rattle.std.proofs.Math.Bool.{or_assoc}
use Rattle.std.proofs.Common.{sym, ap, ◌∙◌, ⊎_elim, arith}
use Rattle.std.proofs.lemmas.List.Folds.{list_any-append}
use Rattle.words.specs.Int.{eq_z}
use Rattle.words.specs.ListFacts.{clash, or_cases, or_left, or_right}

-- a pair is that of a and v
abbrev pub is_pair : ℤ → ℤ → List ℤ → Bool
is_pair a v p = eq_z (get_or p 0 (pos 0)) a && eq_z (get_or p 1 (pos 0)) v

abbrev pub among : List (List ℤ) → ℤ → ℤ → Bool
among pairs a v = list_any (is_pair a v) pairs

module _ (a v : ℤ) where
  pub among_none : among [] a v ≡ false
  among_none = refl

  -- one pair more, behind the others
  pub among_step : (xs : List (List ℤ)) (p : List ℤ) → among (xs ++ p ∷ []) a v ≡ (is_pair a v p || among xs a v)
  among_step xs p = list_any-append (is_pair a v) xs (p ∷ []) ∙ turned (among xs a v) (is_pair a v p)
    where
      turned : (b c : Bool) → (b || (c || false)) ≡ (c || b)
      turned true true = refl
      turned true false = refl
      turned false true = refl
      turned false false = refl

  -- a block of pairs behind those of xs, one more: found is what the pairs before p say, and t what p says
  pub among_more : (xs ys : List (List ℤ)) (p : List ℤ) (found t r : Bool) → (found || among xs a v) ≡ among ys a v → t ≡ is_pair a v p → r ≡ (t || found) → (r || among xs a v) ≡ among (ys ++ p ∷ []) a v
  among_more xs ys p found t r e q s = ap (λ b. b || among xs a v) s ∙ or_assoc t found (among xs a v) ∙ ap (λ b. t || b) e ∙ ap (λ b. b || among ys a v) q ∙ sym (among_step ys p)

  -- what is among a front part is among the whole
  pub among_stays : (front rest : List (List ℤ)) → among front a v ≡ true → among (front ++ rest) a v ≡ true
  among_stays front rest e = list_any-append (is_pair a v) front rest ∙ or_left (among rest a v) e

  -- what one of the first k says, more of them say
  pub among_first : (k m : ℕ) (xs : List (List ℤ)) → k ≤ m → among (take k xs) a v ≡ true → among (take m xs) a v ≡ true
  among_first zero m xs h e = clash e refl
  among_first (suc k) zero xs h e = absurd (omega arith)
  among_first (suc k) (suc m) [] h e = e
  among_first (suc k) (suc m) (p ∷ xs) h e = ⊎_elim (λ f. or_left (among (take m xs) a v) f) (λ f. or_right (is_pair a v p) (among_first k m xs (omega arith) f)) (or_cases (is_pair a v p) (among (take k xs) a v) e)

  -- a block found it, or did not
  pub block_found : (front block rest : List (List ℤ)) (r : Bool) → (r || among front a v) ≡ among (front ++ block) a v → r ≡ true → among (front ++ block ++ rest) a v ≡ true
  block_found front block rest r e q = among_stays (front ++ block) rest (sym e ∙ or_left (among front a v) q)

  pub block_free : (front block : List (List ℤ)) (r : Bool) → (r || among front a v) ≡ among (front ++ block) a v → r ≡ false → among front a v ≡ false → among (front ++ block) a v ≡ false
  block_free front block r e q f = sym e ∙ rw (q, f)

  -- so did a single one
  pub one_found : (front : List (List ℤ)) (p : List ℤ) (rest : List (List ℤ)) {r : Bool} → r ≡ is_pair a v p → r ≡ true → among (front ++ p ∷ rest) a v ≡ true
  one_found front p rest e q = list_any-append (is_pair a v) front (p ∷ rest) ∙ or_right (among front a v) (or_left (among rest a v) (sym e ∙ q))

  pub one_free : (front : List (List ℤ)) (p : List ℤ) {r : Bool} → r ≡ is_pair a v p → r ≡ false → among front a v ≡ false → among (front ++ p ∷ []) a v ≡ false
  one_free front p e q f = among_step front p ∙ rw (sym e ∙ q, f)
