-- Each answer exactly then: what is told of a log is that the walk gets to a step and how that step ends it.
use Rattle.std.specs.Prelude.{ℕ, ◌≡◌, Bool, true, ◌↔◌, List, [], ◌∷◌, ℤ}
use Rattle.std.proofs.Common.{arith, subst}
use Rattle.meaning.specs.Model.{Model}
use Rattle.meaning.specs.Log.{Fact, Step}
use Rattle.meaning.specs.Check.{Answer, Conclusion, accepted, carried, fact_at, changes, cites_changed}
use Rattle.meaning.specs.Outcomes.{Told, ran_out, broke_off, word_off, faulty, trailing, concluded, went}
use Rattle.meaning.specs.Verdicts.{Reaches, begins, goes_on, Ends, runs_out, cannot_be_read, breaks_its_rule, has_words_after, concludes_so, Answered}
use Rattle.meaning.specs.Claims.{AnswerIs}
use Rattle.meaning.proofs.Proved.LaidOut.{step_refused}
use Rattle.meaning.proofs.Proved.Faults.{fault}
use Rattle.meaning.proofs.Proved.Told.{tell_unread}
use Rattle.meaning.proofs.Proved.ToldOnce.{told_once}
use Rattle.meaning.proofs.Proved.OutcomeFacts.{check_tells}
use Rattle.meaning.proofs.Proved.RecheckFacts.{recheck_part}

module _ (held : Step → Bool) (say : Conclusion → Answer) (m : Model) where
  so : {log : List ℤ} {k at : ℕ} {fs : List Fact} {ws : List ℤ} {a : Answer} → Reaches held m log k at fs ws → Ends held say m k at fs ws a → Answered held say m log a
  so {k = k} {at = at} {fs = fs} {ws = ws} r e = record { step = k; at = at; facts = fs; words = ws; reached = r; ended = e }

  answered : {log : List ℤ} {k at j : ℕ} {fs : List Fact} {ws : List ℤ} {l : List ℕ} {a : Answer} → Reaches held m log k at fs ws → Told held say m k at fs ws l j a → Answered held say m log a
  answered r ran_out = so r (runs_out)
  answered r (broke_off {k} {at} {p} {w = w} {ws = ws} g e) = so r (cannot_be_read ((step_refused m k at (w ∷ ws) 11 p).0 g))
  answered r (word_off {k} {at} {p} {ws = w ∷ ws} g lo hi) = so r (cannot_be_read ((step_refused m k at (w ∷ ws) 12 p).0 g))
  answered r (word_off {at = at} {p = p} {ws = []} g lo hi) = absurd (omega arith)
  answered r (faulty g h v f) = so r (breaks_its_rule g h v)
  answered r (trailing g v u) = so r (has_words_after g v u)
  answered r (concluded g v u) = so r (concludes_so g v u)
  answered r (went g v u t) = answered (goes_on r g v u) t

  -- told so, with some starts and some count
  record Somehow (k at : ℕ) (fs : List Fact) (ws : List ℤ) (a : Answer) : Type 0 where
    starts : List ℕ
    count : ℕ
    told : Told held say m k at fs ws starts count a

  somehow : {k at j : ℕ} {fs : List Fact} {ws : List ℤ} {l : List ℕ} {a : Answer} → Told held say m k at fs ws l j a → Somehow k at fs ws a
  somehow {j = j} {l = l} t = record { starts = l; count = j; told = t }

  ends_told : {k at : ℕ} {fs : List Fact} {ws : List ℤ} {a : Answer} → Ends held say m k at fs ws a → Somehow k at fs ws a
  ends_told runs_out = somehow (ran_out)
  ends_told {k} {at} {fs} (cannot_be_read {w} {ws} {num} {p} b) = somehow (tell_unread fs ((step_refused m k at (w ∷ ws) num p).1 b))
  ends_told {fs = fs} (breaks_its_rule {t = t} g h v) = somehow (faulty g h v (fault m (fact_at fs) t v))
  ends_told (has_words_after g v u) = somehow (trailing g v u)
  ends_told (concludes_so g v u) = somehow (concluded g v u)

  from_the_start : {log : List ℤ} {k at : ℕ} {fs : List Fact} {ws : List ℤ} {a : Answer} → Reaches held m log k at fs ws → Somehow k at fs ws a → Somehow 0 0 [] log a
  from_the_start begins s = s
  from_the_start (goes_on r g v u) s = from_the_start r (somehow (went g v u s.told))

  exactly : {log : List ℤ} {l : List ℕ} {j : ℕ} {b : Answer} → Told held say m 0 0 [] log l j b → (a : Answer) → (b ≡ a) ↔ Answered held say m log a
  exactly {log} {l} {j} {b} t a = (
    λ e. subst (Answered held say m log) e (answered begins t),
    λ h. let s = from_the_start h.reached (ends_told h.ended) in (told_once held say m log l s.starts j s.count b a t s.told).2,
  )

pub answer_is : AnswerIs
answer_is = record {
  of_check = λ model log places m a g l p. exactly (λ t. true) accepted m (check_tells model log places m g l p) a;
  of_recheck = λ old new log places o n a x y f l p. exactly (cites_changed (changes o.rows n.rows)) carried n (recheck_part old new log places o n x y f l p).0 a;
}
