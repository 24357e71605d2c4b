-- What an outcome tells besides its answer: which steps have a start, how many steps were judged, and where a refusal stands.
use Rattle.std.specs.Prelude.{ℕ, suc, ◌+◌, ◌*◌, ◌≤◌, ◌<◌, ◌≡◌, refl, Bool, true, false, List, [], ◌∷◌, ◌++◌, length, ℤ}
use Rattle.std.proofs.Common.{sym, ◌∙◌, ap, subst, subst₂, append_assoc, append-nil, arith, add-one, le_refl, zero-add}
use Rattle.meaning.specs.Read.{got, refused}
use Rattle.meaning.specs.Model.{Model}
use Rattle.meaning.specs.Log.{Fact, Step}
use Rattle.meaning.specs.Judge.{fails}
use Rattle.meaning.specs.Check.{fact_at, Answer, shut, accepted, carried, Conclusion, Outcome, State, one_more, verdict_of, read_step, start, over}
use Rattle.meaning.specs.Outcomes.{OnShut, late, Told, ran_out, broke_off, word_off, faulty, trailing, concluded, went}
use Rattle.meaning.proofs.Proved.Classes.{fault_read}
use Rattle.meaning.proofs.Proved.Reading.{Fair, short, off}
use Rattle.meaning.proofs.Proved.ReadStep.{StepRead, reads_step, step_left, fewest_some, makes_four}
use Rattle.meaning.proofs.Proved.Faults.{fault}
use Rattle.meaning.proofs.Proved.Walked.{Walked, cut, unread, failed, made, ended, trailed, walked}
use Rattle.words.specs.ListFacts.{Climbs, nil, next, climbs_from}

pub record Tells (held : Step → Bool) (say : Conclusion → Answer) (m : Model) (k : ℕ) (s : State) (at : ℕ) (ws : List ℤ) (o : Outcome) : Type 0 where
  pub more : List ℕ
  pub count : ℕ
  pub starts_are : o.starts ≡ s.starts ++ more
  pub judged_is : o.judged ≡ s.judged + count
  pub told : Told held say m k at s.facts ws more count o.answer

one_more_lem : (b : Bool) (i j : ℕ) → one_more b i + j ≡ i + one_more b j
one_more_lem true i j = omega arith
one_more_lem false i j = refl

module _ {held : Step → Bool} {say : Conclusion → Answer} {m : Model} where
  pub tell_unread : (fs : List Fact) {k at num p : ℕ} {w : ℤ} {ws : List ℤ} → read_step m k at (w ∷ ws) ≡ refused num p → Told held say m k at fs (w ∷ ws) [] 0 (shut num k p)
  tell_unread fs {k} {at} {num} {p} {w} {ws} e = go (subst (Fair 11 (λ num. num ≡ 12) (StepRead (length m.bounds) (length m.rows) k) at (w ∷ ws)) e (reads_step _ _ k at (w ∷ ws))) e
    where
      go : {num p : ℕ} → Fair 11 (λ num. num ≡ 12) (StepRead (length m.bounds) (length m.rows) k) at (w ∷ ws) (refused num p) → read_step m k at (w ∷ ws) ≡ refused num p
          → Told held say m k at fs (w ∷ ws) [] 0 (shut num k p)
      go (short x) r = broke_off r x
      go (off {p = p} q lo hi) r = subst (λ x. read_step m k at (w ∷ ws) ≡ refused x p → Told held say m k at fs (w ∷ ws) [] 0 (shut x k p)) (sym q) (λ e. word_off e lo hi) r

  tell_failed : (fs : List Fact) {k at at' num p : ℕ} {ws rest : List ℤ} {t : Step} → read_step m k at ws ≡ got t at' rest → verdict_of (held t) m fs t ≡ fails num p
      → (held t ≡ true) × Told held say m k at fs ws [] 1 (shut num k p)
  tell_failed fs {k} {at} {at'} {num} {p} {ws} {rest} {t} r v = go (held t) refl v
    where
      go : (b : Bool) → held t ≡ b → verdict_of b m fs t ≡ fails num p → (held t ≡ true) × Told held say m k at fs ws [] 1 (shut num k p)
      go true e v = (e, faulty r e v (fault m (fact_at fs) t v))
      go false e v = absurd (let z : ◌≡◌ {A = ℕ} 0 1 = cc in omega arith)

  pub tells : {k at : ℕ} {s : State} {ws : List ℤ} {o : Outcome} → Walked held say m k s at ws o → Tells held say m k s at ws o
  tells {s = s} cut = record { more = []; count = 0; starts_are = sym (append-nil _); judged_is = omega arith; told = ran_out }
  tells (unread {s = s} r) = record { more = []; count = 0; starts_are = sym (append-nil _); judged_is = omega arith; told = tell_unread s.facts r }
  tells (failed {s = s} {t = t} r v) =
      let h = tell_failed s.facts r v in
      record { more = []; count = 1; starts_are = sym (append-nil _); judged_is = ap (λ b. one_more b s.judged) h.0 ∙ sym (add-one s.judged); told = h.1 }
  tells (made {at = at} {s = s} {t = t} r v u w) =
      let h = tells w in
      record {
        more = at ∷ h.more;
        count = one_more (held t) h.count;
        starts_are = h.starts_are ∙ append_assoc s.starts (at ∷ []) h.more;
        judged_is = h.judged_is ∙ one_more_lem (held t) s.judged h.count;
        told = went r v u h.told;
      }
  tells (ended {at = at} {s = s} {t = t} r v u) = record { more = at ∷ []; count = one_more (held t) 0; starts_are = refl; judged_is = omega (arith, one_more_lem (held t) s.judged 0); told = concluded r v u }
  tells (trailed {s = s} {t = t} r v u) = record { more = []; count = one_more (held t) 0; starts_are = sym (append-nil _); judged_is = omega (arith, one_more_lem (held t) s.judged 0); told = trailing r v u }

pub over_told : (held : Step → Bool) (say : Conclusion → Answer) (m : Model) (log : List ℤ) → let o : Outcome = over held say m log in Told held say m 0 0 [] log o.starts o.judged o.answer
over_told held say m log =
    let t = tells (walked held say m (length log) 0 start 0 log (le_refl _)) in
    subst₂ (λ l j. Told held say m 0 0 [] log l j (over held say m log).answer) (sym t.starts_are) (sym (t.judged_is ∙ zero-add t.count)) t.told

-- ---- what follows

-- a refusal, or a conclusion said in the one way
pub data Spoken (say : Conclusion → Answer) : Answer → Type 0 where
  shut_so : {num k p : ℕ} → Spoken say (shut num k p)
  said_so : {c : Conclusion} → Spoken say (say c)

pub on_each : (P Q : ℕ → ℕ → ℕ → Type 0) (a : Answer) → ((num k p : ℕ) → P num k p → Q num k p) → OnShut P a → OnShut Q a
on_each P Q (shut num k p) f h = f num k p h
on_each P Q (accepted c) f h = tt
on_each P Q (carried c) f h = tt

-- the whole check judges each step that it reads well
pub told_judged : {m : Model} {k at j : ℕ} {fs : List Fact} {ws : List ℤ} {l : List ℕ} {a : Answer} → Told (λ t. true) accepted m k at fs ws l j a → j ≡ length l + late a
told_judged ran_out = refl
told_judged (broke_off r e) = refl
told_judged (word_off r lo hi) = refl
told_judged (faulty {k} r h v f) = let e = fault_read k f in omega arith
told_judged (trailing r v u) = refl
told_judged (concluded r v u) = refl
told_judged (went r v u w) = let h = told_judged w in omega arith

module _ {held : Step → Bool} {say : Conclusion → Answer} {m : Model} where
  pub told_climbs : {k at j : ℕ} {fs : List Fact} {ws : List ℤ} {l : List ℕ} {a : Answer} → Told held say m k at fs ws l j a → Climbs (at + length ws) at l
  told_climbs ran_out = nil
  told_climbs (broke_off r e) = nil
  told_climbs (word_off r lo hi) = nil
  told_climbs (faulty r h v f) = nil
  told_climbs (trailing r v u) = nil
  told_climbs (concluded {k} {at} {ws = ws} {t} r v u) = let h = step_left _ _ k at ws r in let g = fewest_some t in let b : at < at + length ws = omega arith in next (le_refl at) b nil
  told_climbs (went {k} {at} {at'} {ws = ws} {t = t} {l = l} r v u w) =
      let h = step_left _ _ k at ws r in let g = fewest_some t in let b : at < at + length ws = omega arith in let c : suc at ≤ at' = omega arith in
      next (le_refl at) b (climbs_from c (subst (λ x. Climbs x at' l) h.ends_at (told_climbs w)))

  -- each step that makes a fact has four words at least, and a conclusion has two
  pub told_few : {k at j : ℕ} {fs : List Fact} {ws : List ℤ} {l : List ℕ} {a : Answer} → Told held say m k at fs ws l j a → 4 * length l ≤ length ws + 2
  told_few ran_out = omega arith
  told_few (broke_off r e) = omega arith
  told_few (word_off r lo hi) = omega arith
  told_few (faulty r h v f) = omega arith
  told_few (trailing r v u) = omega arith
  told_few (concluded {k} {at} {ws = ws} {t} r v u) = let h = step_left _ _ k at ws r in let g = fewest_some t in omega arith
  told_few (went {k} {at} {ws = ws} {t = t} r v u w) = let h = step_left _ _ k at ws r in let g = makes_four t u in let i = told_few w in omega arith

  -- a refusal at step i: the steps before it, and no other, have a start
  pub told_step : {k at j : ℕ} {fs : List Fact} {ws : List ℤ} {l : List ℕ} {a : Answer} → ((P : ℕ → ℕ → ℕ → Type 0) (c : Conclusion) → OnShut P (say c)) → Told held say m k at fs ws l j a
      → OnShut (λ num i p. i ≡ k + length l) a
  told_step s ran_out = omega arith
  told_step s (broke_off r e) = omega arith
  told_step s (word_off r lo hi) = omega arith
  told_step s (faulty r h v f) = omega arith
  told_step s (trailing r v u) = omega arith
  told_step s (concluded {c = c} r v u) = s _ c
  told_step s (went {k} {l = l} {a = a} r v u w) = on_each (λ num i p. i ≡ suc k + length l) (λ num i p. i ≡ k + suc (length l)) a (λ num i p e. omega arith) (told_step s w)

  pub told_spoken : {k at j : ℕ} {fs : List Fact} {ws : List ℤ} {l : List ℕ} {a : Answer} → Told held say m k at fs ws l j a → Spoken say a
  told_spoken ran_out = shut_so
  told_spoken (broke_off r e) = shut_so
  told_spoken (word_off r lo hi) = shut_so
  told_spoken (faulty r h v f) = shut_so
  told_spoken (trailing r v u) = shut_so
  told_spoken (concluded r v u) = said_so
  told_spoken (went r v u w) = told_spoken w
