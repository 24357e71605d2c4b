-- What is told of a log is what the walk does, so it can be told in one way only.
use Rattle.std.specs.Prelude.{ℕ, ◌+◌, ◌≡◌, refl, Bool, true, false, List, [], ◌∷◌, ◌++◌, length, ℤ}
use Rattle.std.proofs.Common.{sym, ap, subst₂, ◌∙◌, append_assoc, append-nil, arith, le_refl}
use Rattle.meaning.specs.Model.{Model}
use Rattle.meaning.specs.Log.{Fact, Step}
use Rattle.meaning.specs.Check.{Answer, Conclusion, State, one_more, verdict_of, over}
use Rattle.meaning.specs.Outcomes.{Told, ran_out, broke_off, word_off, faulty, trailing, concluded, went}
use Rattle.meaning.specs.Claims.{ToldOnce}
use Rattle.meaning.proofs.Proved.Walked.{Walked, cut, unread, failed, made, ended, trailed, walked_is}

module _ (held : Step → Bool) (say : Conclusion → Answer) (m : Model) where
  -- the same outcome, its starts and its count written in another way
  rewritten : {k at j j' : ℕ} {s : State} {ws : List ℤ} {a : Answer} {l l' : List ℕ} → l ≡ l' → j ≡ j'
      → Walked held say m k s at ws (record { answer = a; starts = l; judged = j }) → Walked held say m k s at ws (record { answer = a; starts = l'; judged = j' })
  rewritten {k} {at} {s = s} {ws} {a} e f = subst₂ (λ x y. Walked held say m k s at ws (record { answer = a; starts = x; judged = y })) e f

  one_less : (b : Bool) (n j : ℕ) → one_more b n + j ≡ n + one_more b j
  one_less true n j = omega arith
  one_less false n j = refl

  pub told_walked : {k at j : ℕ} {fs : List Fact} {ws : List ℤ} {l : List ℕ} {a : Answer} (ss : List ℕ) (n : ℕ) → Told held say m k at fs ws l j a
      → Walked held say m k (record { facts = fs; starts = ss; judged = n }) at ws (record { answer = a; starts = ss ++ l; judged = n + j })
  told_walked ss n ran_out = rewritten (sym (append-nil ss)) (omega arith) cut
  told_walked ss n (broke_off r e) = rewritten (sym (append-nil ss)) (omega arith) (unread r)
  told_walked ss n (word_off {ws = w ∷ ws} r lo hi) = rewritten (sym (append-nil ss)) (omega arith) (unread r)
  told_walked ss n (word_off {at = at} {p = p} {ws = []} r lo hi) = absurd (omega arith)
  told_walked ss n (faulty {fs = fs} {t = t} r h v f) =
      rewritten (sym (append-nil ss)) (ap (λ b. one_more b n) h ∙ omega arith) (failed r (ap (λ b. verdict_of b m fs t) h ∙ v))
  told_walked ss n (trailing {t = t} r v u) = rewritten (sym (append-nil ss)) (omega (arith, one_less (held t) n 0)) (trailed r v u)
  told_walked ss n (concluded {t = t} r v u) = rewritten refl (omega (arith, one_less (held t) n 0)) (ended r v u)
  told_walked ss n (went {at = at} {j = j} {t = t} {l = l} r v u w) =
      rewritten (append_assoc ss (at ∷ []) l) (one_less (held t) n j) (made r v u (told_walked (ss ++ (at ∷ [])) (one_more (held t) n) w))

  told_is : (log : List ℤ) {l : List ℕ} {j : ℕ} {a : Answer} → Told held say m 0 0 [] log l j a → over held say m log ≡ record { answer = a; starts = l; judged = 0 + j }
  told_is log t = walked_is held say m (length log) (le_refl _) (told_walked [] 0 t)

pub told_once : ToldOnce
told_once held say m log l l' j j' a a' t u =
    let e = sym (told_is held say m log t) ∙ told_is held say m log u in
    (ap (λ o. o.starts) e, (let q : 0 + j ≡ 0 + j' = ap (λ o. o.judged) e in omega arith), ap (λ o. o.answer) e)
