-- What `check` and `recheck` promise, and that each way they end keeps the promise.
use Rattle.std.specs.Prelude.{ℕ, ◌<◌, ◌≡◌, refl, Bool, true, false, List, ◌++◌, ℤ, length, drop, get_or, Ok}
use Rattle.std.proofs.Common.{sym, ap, ap₂, ◌∙◌, arith}
use Rattle.std.proofs.Math.Path.{fun_ext}
use Rattle.std.specs.Int.Count as count
use Rattle.meaning.specs.Refusals.{first_of_steps}
use Rattle.meaning.specs.Limits.{most_variables}
use Rattle.meaning.specs.Model.{Model}
use Rattle.meaning.specs.Log.{Step, Fact, inference, deduction, no_assignment, never_below}
use Rattle.meaning.specs.Check as says
use Rattle.meaning.specs.Outcomes.{Told, ran_out, broke_off, word_off, faulty, trailing, concluded, went}
use Rattle.meaning.proofs.Proved.Classes.{early_is, late_is}
use Rattle.meaning.proofs.Proved.Faults.{fault_number}
use Rattle.meaning.proofs.Proved.Told.{over_told}
use Rattle.model.specs.Planned.{model_of}
use Rattle.row_set.specs.Bits.{bit_at}
use Rattle.amend.specs.Changed.{Answered}
use Rattle.amend.specs.Only.{Otherwise, refused, unfit, whole_told, partly_told}
use Rattle.walking.specs.Told.{told_answer, held_by, say_by, NamesIn, Tells}
use Rattle.model.specs.declared.Plan.{Plan}
use Rattle.checker.specs.Entry.{RefusedAt, OpenTo, Enters}
use Rattle.walking.specs.declared.Answer.{Answer}
use Rattle.walking.specs.declared.Answer.TheVariants as answer
use Rattle.walking.specs.declared.Walked.{Walked}
use Rattle.checker.specs.declared.Rechecked.{Rechecked}

-- how many rows are reported: all in whole mode
abbrev pub size_by : Bool → ℕ → ℕ → ℕ
size_by true set rows = rows
size_by false set rows = count.ones set

-- the answer tells the outcome, and the places, `lent` before and `left` after, hold its starts and are otherwise as they were
pub record Checks (r : Answer) (lent left : List ℕ) (o : says.Outcome) : Type 0 where
  pub answered : told_answer r ≡ o.answer
  pub noted : left ≡ o.starts ++ drop (length o.starts) lent
  pub named : NamesIn most_variables r

-- and the size of the changed set and the count of judged steps are told
pub record Rechecks (r : Rechecked) (lent left : List ℕ) (o : says.Rechecked) : Type 0 where
  pub answered : told_answer r.answer ≡ o.outcome.answer
  pub noted : left ≡ o.outcome.starts ++ drop (length o.outcome.starts) lent
  pub sized : r.changed ≡ o.size
  pub counted : r.judged ≡ o.outcome.judged
  pub named : NamesIn most_variables r.answer

-- ---- the whole check
module _ (model log : List ℤ) (places : ℕ) where
  check_refused : {num p : ℕ} → RefusedAt model log places num p → says.check model log places ≡ says.shut_early num p
  check_refused s = s.1 (λ m. says.over (λ t. true) says.accepted m log)

  check_open : {starts : List ℕ} {v c : ℕ} → OpenTo model log places starts v c → says.check model log places ≡ says.over (λ t. true) says.accepted (model_of model) log
  check_open o = o.on (λ m. says.over (λ t. true) says.accepted m log)

  pub checks_refused : (lent : List ℕ) {num p : ℕ} {r : Answer} → RefusedAt model log places num p → r ≡ answer.Refused num 0 p → Checks r lent lent (says.check model log places)
  checks_refused lent s t = rw (check_refused s, t) (record { answered = refl; noted = refl; named = tt })

  pub checks_open : (plan : Plan) (w : Walked) (lent left : List ℕ) → Enters model log places (Ok plan)
      → Tells w lent left (says.over (held_by true 0) (say_by true) (model_of plan.words.now) log) → Checks w.answer lent left (says.check model log places)
  checks_open plan w lent left (e, o) told = let t = rw e at told in rw (check_open o) (record { answered = t.answered; noted = t.noted; named = t.named })

-- ---- the recheck
-- the walk's refusals are none of 1 to 7
told_late : {held : Step → Bool} {say : says.Conclusion → says.Answer} {m : Model} → ((c : says.Conclusion) → says.is_early (say c) ≡ false)
    → {k at : ℕ} {fs : List Fact} {ws : List ℤ} {l : List ℕ} {j : ℕ} {a : says.Answer} → Told held say m k at fs ws l j a → says.is_early a ≡ false
told_late h ran_out = refl
told_late h (broke_off r e) = refl
told_late h (word_off r lo hi) = refl
told_late h (faulty {num = num} r i j f) = let n = fault_number f in late_is num 0 0 (omega arith)
told_late h (trailing r v u) = refl
told_late h (concluded {c = c} r v u) = h c
told_late h (went r v u t) = told_late h t

said_late : (w : Bool) (c : says.Conclusion) → says.is_early (say_by w c) ≡ false
said_late true c = refl
said_late false c = refl

-- a refusal before any step reports no row
sized_early : (n num p : ℕ) → num < first_of_steps → says.sized n (says.shut_early num p) ≡ record { outcome = says.shut_early num p; size = 0 }
sized_early n num p h = rw (early_is num 0 p (omega arith))

sized_late : (held : Step → Bool) (w : Bool) (m : Model) (log : List ℤ) (n : ℕ) → says.sized n (says.over held (say_by w) m log) ≡ record { outcome = says.over held (say_by w) m log; size = n }
sized_late held w m log n = rw (told_late (said_late w) (over_told held (say_by w) m log))

-- an inference that cites a row in the set, and no other step
held_same : (set : ℕ) (ch : List Bool) → ((r : ℕ) → bit_at set r ≡ get_or ch r false) → held_by false set ≡ says.cites_changed ch
held_same set ch h = fun_ext each
  where
    each : (t : Step) → held_by false set t ≡ says.cites_changed ch t
    each (inference r f) = h r
    each (deduction f hs) = refl
    each (no_assignment n) = refl
    each (never_below x v n) = refl

module _ (old new log : List ℤ) (places : ℕ) where
  abbrev Shut : ℕ → ℕ → says.Rechecked
  Shut num p = record { outcome = says.shut_early num p; size = 0 }

  recheck_refused : {num p : ℕ} → RefusedAt new log places num p → says.recheck old new log places ≡ Shut num p
  recheck_refused {num} {p} s = go (says.read_good old) (says.read_good new)
    where
      early : (n : ℕ) (next : Model → says.Outcome) → says.sized n (says.guarded new log places next) ≡ Shut num p
      early n next = ap (says.sized n) (s.1 next) ∙ sized_early n num p (let h = s.0 in omega arith)

      fit : (o n : Model) (b : Bool) → says.rechecked o n b new log places ≡ Shut num p
      fit o n true = early _ _
      fit o n false = early _ _

      go : (g h : says.Good) → says.recheck_of g h new log places ≡ Shut num p
      go says.bad h = early _ _
      go (says.good o) says.bad = early _ _
      go (says.good o) (says.good n) = fit o n (says.fits_old o n)

  pub rechecks_refused : (lent : List ℕ) {num p : ℕ} {r : Answer} → RefusedAt new log places num p → r ≡ answer.Refused num 0 p
      → Rechecks (record { answer = r; changed = 0; judged = 0 }) lent lent (says.recheck old new log places)
  rechecks_refused lent s t = rw (recheck_refused s, t) (record { answered = refl; noted = refl; sized = refl; counted = refl; named = tt })

  module _ {starts : List ℕ} {v c : ℕ} (way : OpenTo new log places starts v c) where
    abbrev walk : Bool → ℕ → says.Outcome
    walk w set = says.over (held_by w set) (say_by w) (model_of new) log

    row_count : says.row_count new ≡ length (model_of new).rows
    row_count = rw (way.is_good, says.row_count)

    wholly_is : says.wholly new log places ≡ record { outcome = walk true 0; size = c }
    wholly_is =
        ap₂ says.sized (row_count ∙ way.planned.rows) (check_open new log places way)
        ∙ sized_late (held_by true 0) true (model_of new) log c

    whole_is : (set : ℕ) → Answered (says.read_good old) (model_of new) true set → says.recheck old new log places ≡ record { outcome = walk true set; size = c }
    whole_is set a = go (says.read_good old) (whole_told {g = says.read_good old} {n = model_of new} {k = set} a)
      where
        go : (g : says.Good) → Otherwise (model_of new) g → says.recheck_of g (says.read_good new) new log places ≡ record { outcome = walk true set; size = c }
        go says.bad refused = wholly_is
        go (says.good o) (unfit e) = ap (λ h. says.recheck_of (says.good o) h new log places) way.is_good ∙ ap (λ b. says.rechecked o (model_of new) b new log places) e ∙ wholly_is

    part_is : (set : ℕ) → Answered (says.read_good old) (model_of new) false set → says.recheck old new log places ≡ record { outcome = walk false set; size = count.ones set }
    part_is set a =
        let p = partly_told {g = says.read_good old} {n = model_of new} a in
        let ch = says.changes p.old.rows (model_of new).rows in
        ap₂ (λ g h. says.recheck_of g h new log places) p.is way.is_good
        ∙ ap (λ b. says.rechecked p.old (model_of new) b new log places) p.fits
        ∙ ap₂ says.sized (sym p.size) (way.on (λ m. says.over (says.cites_changed (says.changes p.old.rows m.rows)) says.carried m log) ∙ ap (λ held. says.over held says.carried (model_of new) log) (sym (held_same set ch p.bits)))
        ∙ sized_late (held_by false set) false (model_of new) log (count.ones set)

    recheck_open : (w : Bool) (set : ℕ) → Answered (says.read_good old) (model_of new) w set → says.recheck old new log places ≡ record { outcome = walk w set; size = size_by w set c }
    recheck_open true set a = whole_is set a
    recheck_open false set a = part_is set a

  pub rechecks_open : (plan : Plan) → Enters new log places (Ok plan) → (w : Bool) (set n : ℕ) (r : Walked) (lent left : List ℕ) → Answered (says.read_good old) (model_of plan.words.now) w set → n ≡ size_by w set plan.rows
      → Tells r lent left (says.over (held_by w set) (say_by w) (model_of plan.words.now) log) → Rechecks (record { answer = r.answer; changed = n; judged = r.judged }) lent left (says.recheck old new log places)
  rechecks_open plan (is, way) w set n r lent left a e told =
      let t = rw is at told in
      rw (recheck_open way w set (rw is at a)) (record { answered = t.answered; noted = t.noted; sized = e; counted = t.counted; named = t.named })
