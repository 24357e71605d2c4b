-- `Carries`: after an acceptance against the old model, the recheck says what the whole check of the new model says.
use Rattle.std.specs.Prelude.{ℕ, suc, ◌≡◌, refl, Bool, true, false, List, [], ◌∷◌, ◌++◌, eqb, length, ℤ}
use Rattle.std.proofs.Common.{le_refl, sym, ◌∙◌, subst, arith, eqb-true}
use Rattle.std.proofs.Math.Path.{subst₃}
use Rattle.meaning.specs.Read.{got}
use Rattle.meaning.specs.Model.{Model}
use Rattle.meaning.specs.Log.{Fact, Step}
use Rattle.meaning.specs.Judge.{judge, passes, row_at}
use Rattle.meaning.specs.Check.{fact_at, Answer, accepted, carried, Conclusion, Outcome, makes, turn, verdict_of, read_step, over, check, Good, good, bad, read_good, same_bounds, changes, cites_changed, recheck_of, rechecked, fits_old}
use Rattle.meaning.specs.Claims.{Holds, more, last, Cites, cites, SameVerdict, carries_so, accepts_so, refuses_so, Carries}
use Rattle.meaning.proofs.Proved.Walked.{walked_is}
use Rattle.meaning.proofs.Proved.Guard.{guarded_both, good_read}
use Rattle.meaning.proofs.Proved.Exact.{check_holds, whole_walk}
use Rattle.meaning.proofs.Proved.SameRows.{same_bounds_same, unchanged, judge_same}
use Rattle.words.specs.ListFacts.{and_true}
use Rattle.meaning.proofs.Proved.Alike.{Says, shuts, concludes_so, Alike, matched}
use Rattle.meaning.proofs.Proved.Framed.{same_reading}
use Rattle.meaning.proofs.Proved.Told.{Spoken, shut_so, said_so}
use Rattle.meaning.proofs.Proved.OutcomeFacts.{check_spoken}

-- ---- a log that holds, at the step that is read next
pub holds_passes : {m : Model} {c : Conclusion} {k at at' : ℕ} {fs : List Fact} {ws rest : List ℤ} {t : Step} → Holds m k at fs ws c → read_step m k at ws ≡ got t at' rest
    → judge m (fact_at fs) t ≡ passes
holds_passes {m} {fs = fs} {t = t'} (more {t = t} r j u h) e = let p : t ≡ t' = cc in subst (λ x. judge m (fact_at fs) x ≡ passes) p j
holds_passes {m} {fs = fs} {t = t'} (last {t = t} r j u) e = let p : t ≡ t' = cc in subst (λ x. judge m (fact_at fs) x ≡ passes) p j

pub holds_on : {m : Model} {c : Conclusion} {k at at' : ℕ} {fs : List Fact} {ws rest : List ℤ} {t : Step} {f : Fact}
    → Holds m k at fs ws c → read_step m k at ws ≡ got t at' rest → turn t ≡ makes f → Holds m (suc k) at' (fs ++ (f ∷ [])) rest c
holds_on {m} {c} {k} {fs = fs} {rest = rest'} {t = t'} {f = f'} (more {at' = at'} {rest = rest} {t = t} {f = f} r j u h) e w =
    let p : t ≡ t' = cc in let q : rest ≡ rest' = cc in let i : f ≡ f' = cc in
    subst₃ (λ x y z. Holds m (suc k) x (fs ++ (y ∷ [])) z c) (cc) i q h
holds_on {t = t'} (last {t = t} r j u) e w = let p : t ≡ t' = cc in absurd (let z : ◌≡◌ {A = ℕ} 0 1 = cc in omega arith)

module _ (o n : Model) (b : o.bounds ≡ n.bounds) (l : length o.rows ≡ length n.rows) where
  unchanged_row : (t : Step) → cites_changed (changes o.rows n.rows) t ≡ false → (r : ℕ) → Cites r t → row_at o r ≡ row_at n r
  unchanged_row t e r cites = unchanged _ o.rows n.rows r l e

  part_verdict : (fs : List Fact) (t : Step) → judge o (fact_at fs) t ≡ passes → (held : Bool) → cites_changed (changes o.rows n.rows) t ≡ held → verdict_of held n fs t ≡ judge n (fact_at fs) t
  part_verdict fs t p true e = refl
  part_verdict fs t p false e = sym p ∙ judge_same o n (fact_at fs) t b (unchanged_row t e)

  carried_alike : (c : Conclusion) → Alike (λ t. true) (cites_changed (changes o.rows n.rows)) n n (λ k at fs ws. Holds o k at fs ws c)
  carried_alike c = record {
    reads_same = λ k at ws. refl;
    same_verdict = λ {k} {at} {at'} {fs} {ws} {rest} {t} h r. part_verdict fs t (holds_passes h (sym (same_reading o n b l k at ws) ∙ r)) _ refl;
    known_on = λ {k} {at} {at'} {fs} {ws} h r v u. holds_on h (sym (same_reading o n b l k at ws) ∙ r) u;
  }

pub record SameSaid (x y : Outcome) : Type 0 where
  pub verdict : SameVerdict x.answer y.answer
  pub starts_same : x.starts ≡ y.starts

-- the whole check says the same as itself, as it never says "carried"
same_answer : {x : Answer} → Spoken accepted x → SameVerdict x x
same_answer shut_so = refuses_so
same_answer said_so = accepts_so

whole_said : (model log : List ℤ) (places : ℕ) → SameSaid (check model log places) (check model log places)
whole_said model log places = record { verdict = same_answer (check_spoken model log places); starts_same = refl }

says_verdict : {x y : Answer} → Says accepted carried x y → SameVerdict y x
says_verdict shuts = refuses_so
says_verdict concludes_so = carries_so

carried_walk : (o n : Model) (log : List ℤ) (c : Conclusion) → fits_old o n ≡ true → Holds o 0 0 [] log c
    → SameSaid (over (cites_changed (changes o.rows n.rows)) carried n log) (over (λ t. true) accepted n log)
carried_walk o n log c e h =
    let f = and_true (same_bounds o.bounds n.bounds) (eqb (length o.rows) (length n.rows)) e in
    let w = matched accepted carried (carried_alike o n (same_bounds_same _ _ f.0) (eqb-true _ _ f.1) c) 0 (λ x. refl) h (whole_walk n log) in
    let i = walked_is (cites_changed (changes o.rows n.rows)) carried n (length log) (le_refl _) w.walks in
    subst (λ x. SameSaid x (over (λ t. true) accepted n log)) (sym i) (record { verdict = says_verdict w.says; starts_same = w.starts_same })

module _ (new log : List ℤ) (places : ℕ) where
  rechecked_same : (o n : Model) (c : Conclusion) → read_good new ≡ good n → Holds o 0 0 [] log c → (fitted : Bool) → fits_old o n ≡ fitted
      → SameSaid (rechecked o n fitted new log places).outcome (check new log places)
  rechecked_same o n c g h false e = whole_said new log places
  rechecked_same o n c g h true e = guarded_both SameSaid (λ num p. record { verdict = refuses_so; starts_same = refl }) _ _ new new log places g g (carried_walk o n log c e h)

  recheck_same : (c : Conclusion) (x : Good) → ((o : Model) → x ≡ good o → Holds o 0 0 [] log c) → (y : Good) → read_good new ≡ y
      → SameSaid (recheck_of x y new log places).outcome (check new log places)
  recheck_same c bad h y e = whole_said new log places
  recheck_same c (good o) h bad e = whole_said new log places
  recheck_same c (good o) h (good n) e = rechecked_same o n c e (h o refl) _ refl

pub carries : Carries
carries old new log places places' c e =
    let s = recheck_same new log places' c (read_good old) (λ o g. check_holds old log places (good_read old g).reads e) (read_good new) refl in
    (s.verdict, s.starts_same)
