-- The walk over the log from a step on, one step at a time, and the state that the places hold.
use Rattle.std.specs.Prelude.{ℕ, suc, pred, ◌+◌, ◌<◌, ◌≡◌, refl, Bool, List, [], ◌∷◌, ◌++◌, map, length, take, set, ℤ}
use Rattle.std.proofs.Common.{ap, ◌∙◌, arith, le_refl, add-one, take-suc-set}
use Rattle.meaning.specs.Model.{Model}
use Rattle.meaning.specs.Log.{Fact, Step}
use Rattle.meaning.specs.Check.{Answer, Conclusion, Outcome, State, passed, stops, goes, advance, onward, walk}
use Rattle.meaning.proofs.Proved.Walked.{walk_once, walked, walked_is}

module _ (held : Step → Bool) (say : Conclusion → Answer) (m : Model) where
  -- from step k on, with as much fuel as there are words
  abbrev pub from : ℕ → State → ℕ → List ℤ → Outcome
  from k s at ws = walk held say m (length ws) k s at ws

  module _ (k : ℕ) (s : State) (at : ℕ) (ws : List ℤ) where
    once : from k s at ws ≡ onward (walk held say m (pred (length ws)) (suc k)) (advance held say m k s at ws)
    once = walk_once held say m (length ws) k s at ws (le_refl (length ws))

    pub from_stops : {o : Outcome} → advance held say m k s at ws ≡ stops o → from k s at ws ≡ o
    from_stops e = once ∙ ap (onward (walk held say m (pred (length ws)) (suc k))) e

    pub from_goes : {s' : State} {at' : ℕ} {rest : List ℤ} → advance held say m k s at ws ≡ goes s' at' rest → length rest < length ws → from k s at ws ≡ from (suc k) s' at' rest
    from_goes {s'} {at'} {rest} e l =
        once ∙ ap (onward (walk held say m (pred (length ws)) (suc k))) e
        ∙ walked_is held say m (pred (length ws)) (omega arith) (walked held say m (length rest) (suc k) s' at' rest (le_refl (length rest)))

-- the state after the steps passed, by their first words; `made p` is the fact of the step that begins at p, j steps were judged
abbrev pub state_at : (ℕ → Fact) → List ℕ → ℕ → State
state_at made passed j = record { facts = map made passed; starts = passed; judged = j }

map_append : {A B : Type 0} (f : A → B) (xs ys : List A) → map f (xs ++ ys) ≡ map f xs ++ map f ys
map_append f [] ys = refl
map_append f (x ∷ xs) ys = ap (λ l. f x ∷ l) (map_append f xs ys)

pub one_more_place : (places : List ℕ) (k at : ℕ) → k < length places → take (k + 1) (set places k at) ≡ take k places ++ (at ∷ [])
one_more_place places k at h = rw (add-one, take-suc-set)

pub state_passed : (made : ℕ → Fact) (places : List ℕ) (k j at : ℕ) → k < length places → passed (state_at made (take k places) j) at (made at) ≡ state_at made (take (k + 1) (set places k at)) j
state_passed made places k j at h = rw (one_more_place places k at h, map_append made (take k places) (at ∷ []))
