-- `Sound`: an accepted log's conclusion is true of the model.
use Rattle.std.specs.Prelude.{ℕ, ◌<◌, ◌≡◌, refl, List, [], ◌∷◌, length, ℤ}
use Rattle.std.proofs.Common.{arith, sym, ◌∙◌, subst, length-append}
use Rattle.meaning.specs.Read.{got}
use Rattle.meaning.specs.Model.{Model}
use Rattle.meaning.specs.Log.{Fact, Step, inference, deduction, no_assignment, never_below, step}
use Rattle.meaning.specs.Judge.{judge, passes}
use Rattle.meaning.specs.Check.{Conclusion, nothing, at_least, turn, makes, concludes, no_fact, fact_at}
use Rattle.words.specs.Lists.{All, empty, also}
use Rattle.words.specs.ListFacts.{get_or_in, each_in, each_map, each_append}
use Rattle.meaning.specs.Meets.{Assignment, Solves}
use Rattle.meaning.specs.Claims.{Concludes, Holds, more, last, Sound}
use Rattle.meaning.proofs.Proved.ReadStep.{KnownFact, KnownStep, step_left}
use Rattle.meaning.proofs.Proved.ReadModel.{KnownModel, known_model}
use Rattle.meaning.proofs.Proved.Exact.{check_holds}
use Rattle.meaning.proofs.Proved.StepSound.{FactHolds, inference_sound, deduction_sound, no_assignment_sound, never_below_sound}

-- a fact over the model's variables that holds for every assignment that solves the model
pub record Sure (m : Model) (f : Fact) : Type 0 where
  pub known : KnownFact (length m.bounds) f
  pub holds : (a : Assignment) → Solves a m → FactHolds a f

makes_not : {f : Fact} {c : Conclusion} → concludes c ≡ makes f → ⊥
makes_not e = let z : ◌≡◌ {A = ℕ} 0 1 = cc in omega arith

module _ (m : Model) (good : KnownModel m) where
  module _ (fs : List Fact) (sure : All (Sure m) fs) where
    cited : {n : ℕ} → n < length fs → Sure m (fact_at fs n)
    cited {n} h = each_in sure (get_or_in fs n no_fact h)

    -- a passed step makes a sure fact, or concludes what is true
    made : (t : Step) (f : Fact) → KnownStep (length m.bounds) (length m.rows) (length fs) t → judge m (fact_at fs) t ≡ passes → turn t ≡ makes f → Sure m f
    made (inference r g) f h e u =
        let p : g ≡ f = cc in
        subst (Sure m) p (record { known = h.1; holds = λ a v. inference_sound m good.rows_known a v (fact_at fs) r g h.0 e })
    made (deduction g hs) f h e u =
        let p : g ≡ f = cc in
        subst (Sure m) p (record { known = h.0; holds = λ a v. deduction_sound m good.rows_known a v (fact_at fs) g hs (each_map (λ n k. ((cited k).known, (cited k).holds a v)) h.2) e })
    made (no_assignment n) f h e u = absurd (makes_not u)
    made (never_below x v n) f h e u = absurd (makes_not u)

    concluded : (t : Step) (c : Conclusion) → KnownStep (length m.bounds) (length m.rows) (length fs) t → judge m (fact_at fs) t ≡ passes → turn t ≡ concludes c → Concludes m c
    concluded (inference r g) c h e u = absurd (makes_not (sym u))
    concluded (deduction g hs) c h e u = absurd (makes_not (sym u))
    concluded (no_assignment n) c h e u =
        let p : nothing ≡ c = cc in
        subst (Concludes m) p (λ a v. no_assignment_sound m good.rows_known a v (fact_at fs) n ((cited h).holds a v) e)
    concluded (never_below x w n) c h e u =
        let p : at_least x w ≡ c = cc in
        subst (Concludes m) p (λ a v. never_below_sound m good.rows_known a v (fact_at fs) x w n ((cited h.1).holds a v) e)

  known_at : {k at' : ℕ} {rest : List ℤ} {t : Step} (at : ℕ) (fs : List Fact) (ws : List ℤ) → length fs ≡ k → step (length m.bounds) (length m.rows) k at ws ≡ got t at' rest
      → KnownStep (length m.bounds) (length m.rows) (length fs) t
  known_at {k} {t = t} at fs ws l e = subst (λ (n : ℕ). KnownStep (length m.bounds) (length m.rows) n t) (sym l) (step_left (length m.bounds) (length m.rows) k at ws e).known

  pub holds_sound : {k at : ℕ} {fs : List Fact} {ws : List ℤ} {c : Conclusion} → Holds m k at fs ws c → length fs ≡ k → All (Sure m) fs → Concludes m c
  holds_sound (more {at = at} {fs = fs} {ws = ws} {t = t} {f = f} e j u rest) l sure =
      holds_sound rest (length-append fs (f ∷ []) ∙ omega arith) (each_append fs sure (also (made fs sure t f (known_at at fs ws l e) j u) empty))
  holds_sound (last {at = at} {fs = fs} {ws = ws} {t = t} {c = c} e j u) l sure = concluded fs sure t c (known_at at fs ws l e) j u

pub sound : Sound
sound model log places m at rest c r e = holds_sound m (known_model model r) (check_holds model log places r e) refl empty
