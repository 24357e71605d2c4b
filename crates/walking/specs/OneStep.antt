-- One step of the walk, case by case: what `advance` gives where the log ran out, could not be read, failed its rule or passed.
use Rattle.std.specs.Prelude.{ℕ, ◌+◌, ◌≤◌, ◌<◌, ◌≡◌, refl, Bool, true, false, List, [], ltb, ℤ, pos, length, drop}
use Rattle.std.proofs.Common.{sym, ap, subst, ◌∙◌, ⊎_elim, arith, ltb-true, ltb-false, drop_of_length-le, drop-cons}
use Rattle.words.specs.ListFacts.{tested}
use Rattle.meaning.specs.Limits.{most_hints}
use Rattle.meaning.specs.Refusals.{no_conclusion}
use Rattle.meaning.specs.Log.{Fact}
use Rattle.meaning.specs.Outcomes.{Fault, box_empty, no_conflict, start_empty, hint_off, used_up, unfit_nothing, unfit_bound}
use Rattle.meaning.proofs.Proved.Faults.{fault}
use Rattle.meaning.proofs.Proved.ReadStep.{step_left}
use Rattle.reading.specs.At.{nat_at, length_each}
use Rattle.meaning.specs.Read.{got, refused}
use Rattle.meaning.specs.Model.{Model}
use Rattle.meaning.specs.Log as logs
use Rattle.meaning.specs.Judge as judge
use Rattle.meaning.specs.Check as says
use Rattle.meaning.specs.Check.{State, advance, after_reading, after_verdict, counted, one_more, shut_at, stops, goes, verdict_of, read_step}
use Rattle.steps.specs.Told.{step_of, placed}
use Rattle.steps.specs.Laws.{PartsIn, Stepped, Unread}
use Rattle.steps.specs.Facts.{fact_of, made_fact, MadeFrom}
use Rattle.steps.specs.declared.Step.{Step}
use Rattle.steps.specs.declared.Step.TheVariants as step
use Rattle.walking.specs.Told.{told_moved, told_conclusion, after_passing, concluded, held_by, RowBelow}
use Rattle.walking.specs.LeadsTo.{LeadsTo}
use Rattle.walking.specs.Told.{ConclusionIn}
use Rattle.walking.specs.declared.Conclusion.{Conclusion}

-- the fact of a step that makes one is found again where the step begins
abbrev pub MadeBy : List ℤ → ℕ → Step → Type 0
MadeBy log at (step.Inference r f) = fact_of log f ≡ made_fact log at
MadeBy log at (step.Deduction f h) = fact_of log f ≡ made_fact log at
MadeBy log at (step.NoAssignment k) = Unit {0}
MadeBy log at (step.NeverBelow x a k) = Unit {0}

module _ (held : logs.Step → Bool) (say : says.Conclusion → says.Answer) (m : Model) (log : List ℤ) (s : State) (k at : ℕ) where
  pub ran_out : length log ≤ at → stops (shut_at no_conclusion k at (counted false s)) ≡ advance held say m k s at (drop at log)
  ran_out h = rw (drop_of_length-le log)

  advance_read : at < length log → advance held say m k s at (drop at log) ≡ after_reading held say m k s at (read_step m k at (drop at log))
  advance_read h = rw (drop-cons log at (pos 0))

  module _ (h : at < length log) where
    pub not_read : {num p : ℕ} → read_step m k at (drop at log) ≡ refused num p → stops (shut_at num k p (counted false s)) ≡ advance held say m k s at (drop at log)
    not_read e = sym (advance_read h ∙ ap (after_reading held say m k s at) e)

    module _ (t : Step) (n : ℕ) (e : read_step m k at (drop at log) ≡ got (step_of log t) n (drop n log)) (b : Bool) (i : held (step_of log t) ≡ b) where
      advance_is : {v : judge.Verdict} → verdict_of b m s.facts (step_of log t) ≡ v
          → advance held say m k s at (drop at log) ≡ after_verdict say k at n (drop n log) (counted b s) (says.turn (step_of log t)) v
      advance_is {v} j =
          advance_read h ∙ ap (after_reading held say m k s at) e
          ∙ ap (λ c. after_verdict say k at n (drop n log) (counted c s) (says.turn (step_of log t)) (verdict_of c m s.facts (step_of log t))) i
          ∙ ap (after_verdict say k at n (drop n log) (counted b s) (says.turn (step_of log t))) j

      pub has_failed : {num p : ℕ} → verdict_of b m s.facts (step_of log t) ≡ judge.fails num p → stops (shut_at num k p (counted b s)) ≡ advance held say m k s at (drop at log)
      has_failed j = sym (advance_is j)

      ends_so : (c : Conclusion) → told_moved say log (counted b s) k at (made_fact log at) (concluded c n (length log)) ≡ stops (says.ends (say (told_conclusion c)) k at n (counted b s) (drop n log))
      ends_so c =
          ⊎_elim (λ y. let l = ltb-true n (length log) y in rw (y, drop-cons log n (pos 0)))
          (λ y. let l = ltb-false n (length log) y in rw (y, drop_of_length-le log))
          (tested (ltb n (length log)))

      pub has_passed : MadeBy log at t → verdict_of b m s.facts (step_of log t) ≡ judge.passes
          → told_moved say log (counted b s) k at (made_fact log at) (after_passing t n (length log)) ≡ advance held say m k s at (drop at log)
      has_passed f j = go t f ∙ sym (advance_is j)
        where
          go : (t : Step) → MadeBy log at t → told_moved say log (counted b s) k at (made_fact log at) (after_passing t n (length log)) ≡ after_verdict say k at n (drop n log) (counted b s) (says.turn (step_of log t)) judge.passes
          go (step.Inference r f) p = rw p
          go (step.Deduction f i) p = rw p
          go (step.NoAssignment i) p = ends_so _
          go (step.NeverBelow x a i) p = ends_so _

-- ---- the step that begins at `at` was read

pub record Reached (m : Model) (v c : ℕ) (log : List ℤ) (k at : ℕ) (t : Step) (n : ℕ) : Type 0 where
  pub below : at < length log
  pub reads : read_step m k at (drop at log) ≡ got (step_of log t) n (drop n log)
  pub parts : PartsIn v c k log t
  pub made : MadeBy log at t
  pub leads : LeadsTo v log at (after_passing t n (length log))
  pub hints_few : (facts : ℕ → Fact) {num p : ℕ} → judge.judge m facts (step_of log t) ≡ judge.fails num p → p ≤ most_hints

-- v variables, c rows and k facts can be named; and what is known of the fact that the step makes
abbrev MakesAt : ℕ → List ℤ → ℕ → Step → Type 0
MakesAt v log at t = (f : Fact) → says.turn (step_of log t) ≡ says.makes f → MadeFrom v log at × (f ≡ made_fact log at)

module _ (v c : ℕ) (log : List ℤ) (k at : ℕ) where
  made_by : (t : Step) → MakesAt v log at t → MadeBy log at t
  made_by (step.Inference r f) h = (h (fact_of log f) refl).1
  made_by (step.Deduction f i) h = (h (fact_of log f) refl).1
  made_by (step.NoAssignment i) h = tt
  made_by (step.NeverBelow x a i) h = tt

  conclude_leads : (n : ℕ) (d : Conclusion) → length log ≤ 65536 → at < length log → ConclusionIn v d → LeadsTo v log at (concluded d n (length log))
  conclude_leads n d s h i = ⊎_elim (λ y. rw y (let l = ltb-true n (length log) y in omega arith)) (λ y. rw y (h, i)) (tested (ltb n (length log)))

  leads_on : (t : Step) {n : ℕ} → length log ≤ 65536 → at < length log → n ≤ length log → PartsIn v c k log t → MakesAt v log at t → logs.step v c k at (drop at log) ≡ got (step_of log t) n (drop n log) → LeadsTo v log at (after_passing t n (length log))
  leads_on (step.Inference r f) s h l i m e = ((step_left v c k at (drop at log) e).moves, l, (m (fact_of log f) refl).0)
  leads_on (step.Deduction f i) s h l x m e = ((step_left v c k at (drop at log) e).moves, l, (m (fact_of log f) refl).0)
  leads_on (step.NoAssignment i) s h l x m e = conclude_leads _ _ s h tt
  leads_on (step.NeverBelow y a i) s h l x m e = conclude_leads _ _ s h x.0

-- a rule refuses at position 0 or at one of the hints
few_hints : (v c k : ℕ) (log : List ℤ) (t : Step) {num p : ℕ} → PartsIn v c k log t → Fault (step_of log t) num p → p ≤ most_hints
few_hints v c k log (step.Inference r f) i box_empty = omega arith
few_hints v c k log (step.Inference r f) i no_conflict = omega arith
few_hints v c k log (step.Deduction f h) i start_empty = omega arith
few_hints v c k log (step.Deduction f h) i (hint_off l) = omega (arith, i.1.few, length_each nat_at 1 h.many log h.from)
few_hints v c k log (step.Deduction f h) i used_up = omega arith
few_hints v c k log (step.NoAssignment j) i unfit_nothing = omega arith
few_hints v c k log (step.NeverBelow x a j) i unfit_bound = omega arith

-- as it was read; the variables and the rows are the model's
pub reach : (m : Model) {v c : ℕ} → length m.bounds ≡ v → length m.rows ≡ c → {log : List ℤ} {k at n : ℕ} {t : Step} → length log ≤ 65536 → at < length log → Stepped v c k log at n → t ≡ placed log at → Reached m v c log k at t n
reach m {v} {c} p q {log} {k} {at} {n} s h i e =
    let t = placed log at in
    subst (λ t. Reached m v c log k at t n) (sym e)
    (record { below = h; reads = rw (p, q) i.is; parts = i.parts; made = made_by v c log k at t (λ f. i.made {f = f}); leads = leads_on v c log k at t s h i.fits i.parts (λ f. i.made {f = f}) i.is; hints_few = λ facts j. few_hints v c k log t i.parts (fault m facts (step_of log t) j) })

pub refused_so : (m : Model) {v c : ℕ} → length m.bounds ≡ v → length m.rows ≡ c → {log : List ℤ} {k at num r : ℕ} → Unread v c k log at num r → read_step m k at (drop at log) ≡ refused num r
refused_so m p q u = rw (p, q) u.is

-- rows that can be named are few
pub row_below : (v c k : ℕ) (s : List ℤ) (t : Step) (n : ℕ) → c ≤ n → PartsIn v c k s t → RowBelow n t
row_below v c k s (step.Inference r f) n h i = omega (arith, i.0)
row_below v c k s (step.Deduction f l) n h i = tt
row_below v c k s (step.NoAssignment j) n h i = tt
row_below v c k s (step.NeverBelow x a j) n h i = tt

-- what is held does not hang on the words
pub held_any : (w : Bool) (set : ℕ) (s : List ℤ) (t : Step) → held_by w set (step_of s t) ≡ held_by w set (step_of [] t)
held_any true set s t = refl
held_any false set s (step.Inference r f) = refl
held_any false set s (step.Deduction f h) = refl
held_any false set s (step.NoAssignment k) = refl
held_any false set s (step.NeverBelow x a k) = refl

-- a step that is not held does not fail
pub held_fails : {m : Model} {v c : ℕ} {log : List ℤ} {k at : ℕ} {t : Step} {n : ℕ} → Reached m v c log k at t n → (b : Bool) (fs : List Fact) {num p : ℕ} → verdict_of b m fs (step_of log t) ≡ judge.fails num p → p ≤ most_hints
held_fails r true fs e = r.hints_few (says.fact_at fs) e
held_fails r false fs e = absurd (let z : ◌≡◌ {A = ℕ} 0 1 = cc in omega arith)

-- a step that is held has the verdict of its rule, with the facts of the steps passed
pub judged_is : (m : Model) (fs : List Fact) (t : logs.Step) {v : judge.Verdict} {b : Bool} → b ≡ true → v ≡ judge.judge m (says.fact_at fs) t → verdict_of b m fs t ≡ v
judged_is m fs t h e = rw h (sym e)

-- what the step's turn came to: how many steps are judged with it, and that it passed
pub record Turned (m : Model) (fs : List Fact) (t : logs.Step) (b : Bool) (j n : ℕ) : Type 0 where
  pub judged : n ≡ one_more b j
  pub passes : verdict_of b m fs t ≡ judge.passes

pub held_turn : (m : Model) (fs : List Fact) (t : logs.Step) {b : Bool} {j n : ℕ} → b ≡ true → n ≡ j + 1 → judge.passes ≡ judge.judge m (says.fact_at fs) t → Turned m fs t b j n
held_turn m fs t h q e = record { judged = rw h (omega arith); passes = judged_is m fs t h e }

-- one that is not held passes
pub waved_on : (m : Model) (fs : List Fact) (t : logs.Step) {b : Bool} → b ≡ false → verdict_of b m fs t ≡ judge.passes
waved_on m fs t h = rw h refl

pub waved_turn : (m : Model) (fs : List Fact) (t : logs.Step) {b : Bool} {j n : ℕ} → b ≡ false → n ≡ j → Turned m fs t b j n
waved_turn m fs t h q = record { judged = rw h q; passes = waved_on m fs t h }
