-- The walk over a log said without fuel: a relation that the walk meets, and that nothing else meets.
use Rattle.std.specs.Prelude.{ℕ, zero, suc, pred, ◌≤◌, ◌<◌, ◌≡◌, refl, Bool, List, [], ◌∷◌, length, ℤ}
use Rattle.std.proofs.Common.{◌∙◌, ap, ap₂, arith}
use Rattle.meaning.specs.Read.{Got, got, refused}
use Rattle.meaning.specs.Model.{Model}
use Rattle.meaning.specs.Log.{Fact, Step}
use Rattle.meaning.specs.Judge.{Verdict, passes, fails}
use Rattle.meaning.specs.Check.{Answer, Conclusion, Outcome, State, Turn, makes, concludes, turn, shut_at, passed, counted, ends, verdict_of, read_step, after_verdict, after_reading, advance, onward, walk}
use Rattle.meaning.proofs.Proved.ReadStep.{step_shorter}

-- from step k, which begins at position `at`, where the words `ws` are left
pub data Walked (held : Step → Bool) (say : Conclusion → Answer) (m : Model) : ℕ → State → ℕ → List ℤ → Outcome → Type 0 where
  cut : {k at : ℕ} {s : State} → Walked held say m k s at [] (shut_at 10 k at s)
  unread : {k at num p : ℕ} {s : State} {w : ℤ} {ws : List ℤ}
      → read_step m k at (w ∷ ws) ≡ refused num p → Walked held say m k s at (w ∷ ws) (shut_at num k p s)
  failed : {k at at' num p : ℕ} {s : State} {ws rest : List ℤ} {t : Step}
      → read_step m k at ws ≡ got t at' rest → verdict_of (held t) m s.facts t ≡ fails num p
      → Walked held say m k s at ws (shut_at num k p (counted (held t) s))
  made : {k at at' : ℕ} {s : State} {ws rest : List ℤ} {t : Step} {f : Fact} {o : Outcome}
      → read_step m k at ws ≡ got t at' rest → verdict_of (held t) m s.facts t ≡ passes → turn t ≡ makes f
      → Walked held say m (suc k) (passed (counted (held t) s) at f) at' rest o → Walked held say m k s at ws o
  ended : {k at at' : ℕ} {s : State} {ws : List ℤ} {t : Step} {c : Conclusion}
      → read_step m k at ws ≡ got t at' [] → verdict_of (held t) m s.facts t ≡ passes → turn t ≡ concludes c
      → Walked held say m k s at ws (ends (say c) k at at' (counted (held t) s) [])
  trailed : {k at at' : ℕ} {s : State} {w : ℤ} {ws rest : List ℤ} {t : Step} {c : Conclusion}
      → read_step m k at ws ≡ got t at' (w ∷ rest) → verdict_of (held t) m s.facts t ≡ passes → turn t ≡ concludes c
      → Walked held say m k s at ws (shut_at 13 k at' (counted (held t) s))

module _ (held : Step → Bool) (say : Conclusion → Answer) (m : Model) where
  module _ (k at : ℕ) (s : State) (ws : List ℤ) (go : State → ℕ → List ℤ → Outcome) where
    -- what is to be shown of the rest, in each case where there is one
    walked_turn : (t : Step) (at' : ℕ) (rest : List ℤ) → read_step m k at ws ≡ got t at' rest
        → ((f : Fact) → Walked held say m (suc k) (passed (counted (held t) s) at f) at' rest (go (passed (counted (held t) s) at f) at' rest))
        → (v : Verdict) → verdict_of (held t) m s.facts t ≡ v → (u : Turn) → turn t ≡ u
        → Walked held say m k s at ws (onward go (after_verdict say k at at' rest (counted (held t) s) u v))
    walked_turn t at' rest r later (fails num p) j u e = failed r j
    walked_turn t at' rest r later passes j (makes f) e = made r j e (later f)
    walked_turn t at' [] r later passes j (concludes c) e = ended r j e
    walked_turn t at' (w ∷ rest) r later passes j (concludes c) e = trailed r j e

  walked_read : (k at : ℕ) (s : State) (w : ℤ) (ws : List ℤ) (go : State → ℕ → List ℤ → Outcome)
      → ((s : State) (at : ℕ) (rest : List ℤ) → length rest < length (w ∷ ws) → Walked held say m (suc k) s at rest (go s at rest))
      → (g : Got Step) → read_step m k at (w ∷ ws) ≡ g → Walked held say m k s at (w ∷ ws) (onward go (after_reading held say m k s at g))
  walked_read k at s w ws go later (refused num p) r = unread r
  walked_read k at s w ws go later (got t at' rest) r = walked_turn k at s (w ∷ ws) go t at' rest r (λ f. later _ at' rest (step_shorter _ _ k at (w ∷ ws) r)) _ refl _ refl

  pub walked : (fuel k : ℕ) (s : State) (at : ℕ) (ws : List ℤ) → length ws ≤ fuel → Walked held say m k s at ws (walk held say m fuel k s at ws)
  walked zero k s at [] l = cut
  walked zero k s at (w ∷ ws) l = absurd (omega arith)
  walked (suc fuel) k s at [] l = cut
  walked (suc fuel) k s at (w ∷ ws) l = walked_read k at s w ws (walk held say m fuel (suc k)) (λ s' at' rest h. walked fuel (suc k) s' at' rest (omega arith)) _ refl

  -- one step of the walk, at any fuel that suffices
  pub walk_once : (fuel k : ℕ) (s : State) (at : ℕ) (ws : List ℤ) → length ws ≤ fuel
      → walk held say m fuel k s at ws ≡ onward (walk held say m (pred fuel) (suc k)) (advance held say m k s at ws)
  walk_once zero k s at [] l = refl
  walk_once zero k s at (w ∷ ws) l = absurd (omega arith)
  walk_once (suc fuel) k s at ws l = refl

  advance_got : (k : ℕ) (s : State) (at : ℕ) (ws : List ℤ) {t : Step} {at' : ℕ} {rest : List ℤ} → read_step m k at ws ≡ got t at' rest
      → advance held say m k s at ws ≡ after_verdict say k at at' rest (counted (held t) s) (turn t) (verdict_of (held t) m s.facts t)
  advance_got k s at [] r = absurd (let z : ◌≡◌ {A = ℕ} 0 1 = cc in omega arith)
  advance_got k s at (w ∷ ws) r = ap (after_reading held say m k s at) r

  -- the same with the verdict and the turn known
  advance_to : (k : ℕ) (s : State) (at : ℕ) (ws : List ℤ) {t : Step} {at' : ℕ} {rest : List ℤ} {v : Verdict} {u : Turn}
      → read_step m k at ws ≡ got t at' rest → verdict_of (held t) m s.facts t ≡ v → turn t ≡ u
      → advance held say m k s at ws ≡ after_verdict say k at at' rest (counted (held t) s) u v
  advance_to k s at ws {t} {at'} {rest} r j e = advance_got k s at ws r ∙ ap₂ (after_verdict say k at at' rest (counted (held t) s)) e j

  pub walked_is : {k at : ℕ} {s : State} {ws : List ℤ} {o : Outcome} (fuel : ℕ) → length ws ≤ fuel → Walked held say m k s at ws o → walk held say m fuel k s at ws ≡ o
  walked_is {s = s} fuel l (cut {k} {at}) = walk_once fuel k s at [] l
  walked_is fuel l (unread {k} {at} {s = s} {w} {ws} r) = walk_once fuel k s at (w ∷ ws) l ∙ ap (λ g. onward (walk held say m (pred fuel) (suc k)) (after_reading held say m k s at g)) r
  walked_is fuel l (failed {k} {at} {s = s} {ws} r j) = walk_once fuel k s at ws l ∙ ap (onward (walk held say m (pred fuel) (suc k))) (advance_to k s at ws r j refl)
  walked_is fuel l (made {k} {at} {s = s} {ws} r j e w) =
      walk_once fuel k s at ws l ∙ ap (onward (walk held say m (pred fuel) (suc k))) (advance_to k s at ws r j e)
      ∙ walked_is (pred fuel) (let h = step_shorter _ _ k at ws r in omega arith) w
  walked_is fuel l (ended {k} {at} {s = s} {ws} r j e) = walk_once fuel k s at ws l ∙ ap (onward (walk held say m (pred fuel) (suc k))) (advance_to k s at ws r j e)
  walked_is fuel l (trailed {k} {at} {s = s} {ws = ws} r j e) = walk_once fuel k s at ws l ∙ ap (onward (walk held say m (pred fuel) (suc k))) (advance_to k s at ws r j e)
