-- What holds between two steps of the walk, and that each step keeps it or ends with the outcome told.
use Rattle.std.specs.Prelude.{ℕ, suc, ◌+◌, ◌*◌, ◌≤◌, ◌<◌, ◌≡◌, refl, Bool, ◌⊎◌, List, [], ◌∷◌, ◌++◌, ℤ, length, get_or, set, take, drop, Result, Ok, Err}
use Rattle.std.proofs.Common.{sym, ap, subst, ◌∙◌, inl, inr, arith, eq-or-lt_of_le, add-one, length-set, length-take, length-drop, length-append, take-append-drop, get_or-set_same, get_or-set_other, drop-set-lt, take-suc-set, drop-drop}
use Rattle.meaning.specs.Limits.{most_variables}
use Rattle.meaning.specs.Model.{Model}
use Rattle.meaning.specs.Log.{Step}
use Rattle.meaning.specs.Check.{advance, over}
use Rattle.steps.specs.Facts.{made_fact, MadeFrom}
use Rattle.walking.specs.Told.{told_answer, told_moved, say_by, answer_by, answer_told, ConclusionIn, NamesIn, answer_names, Tells}
use Rattle.judging.specs.Cited.{Cited}
use Rattle.walking.specs.LeadsTo.{LeadsTo}
use Rattle.walking.specs.FromStep.{from, from_stops, from_goes, state_at, state_passed}
use Rattle.walking.specs.declared.Conclusion.{Conclusion as Concluded}
use Rattle.reading.specs.Reasons.{number_of}
use Rattle.reading.specs.declared.refusals.Refusal.{Refusal}
use Rattle.walking.specs.declared.Onward.{Onward}
use Rattle.walking.specs.declared.Onward.TheVariants as onward
use Rattle.walking.specs.declared.Walked.{Walked}
use Rattle.walking.specs.declared.Answer.TheVariants as answer

-- the first k places with one more are those of k + 1 steps
cited_more : {v : ℕ} {log : List ℤ} {places : List ℕ} {k : ℕ} (at : ℕ) → k < length places → Cited v log places k → MadeFrom v log at → Cited v log (set places k at) (k + 1)
cited_more {v} {log} {places} {k} at h c m = record { enough = simp length-set (omega arith); made = λ i l. go i (eq-or-lt_of_le (omega arith)) }
  where
    go : (i : ℕ) → (i ≡ k) ⊎ (i < k) → MadeFrom v log (get_or (set places k at) i 0)
    go i (inl e) = rw (e, get_or-set_same places k at 0 h) m
    go i (inr l) = rw (get_or-set_other places k i at 0 (omega arith)) (c.made i l)

module _ (held : Step → Bool) (w : Bool) (m : Model) (v : ℕ) (log : List ℤ) (lent : List ℕ) where
  pub record BetweenSteps (places : List ℕ) (at k j : ℕ) : Type 0 where
    pub long : length places ≡ length lent
    pub inside : at ≤ length log
    pub apart : k * 4 ≤ at
    pub few : j ≤ k
    pub rest : drop k places ≡ drop k lent
    pub cited : Cited v log places k
    pub outcome : over held (say_by w) m log ≡ from held (say_by w) m k (state_at (made_fact log) (take k places) j) at (drop at log)

  pub at_first : BetweenSteps lent 0 0 0
  at_first = record { long = refl; inside = omega arith; apart = omega arith; few = omega arith; rest = refl; cited = record { enough = omega arith; made = λ i h. absurd (omega arith) }; outcome = refl }

  module _ (enough : length log ≤ 4 * length lent) (places : List ℕ) (at k j : ℕ) (s : BetweenSteps places at k j) where
    -- what the step led to, with which i steps were judged
    abbrev Leads : ℕ → Result Onward Refusal → Type 0
    Leads i r = told_moved (say_by w) log (state_at (made_fact log) (take k places) i) k at (made_fact log at) r ≡ advance held (say_by w) m k (state_at (made_fact log) (take k places) j) at (drop at log)

    pub place_below : at < length log → k < length places
    place_below h = omega (arith, s.long, s.apart)

    rest_more : k < length places → drop (k + 1) (set places k at) ≡ drop (k + 1) lent
    rest_more h = drop-set-lt (k + 1) places k at (omega arith) ∙ sym (drop-drop 1 k places) ∙ ap (drop 1) s.rest ∙ drop-drop 1 k lent

    pub goes_on : (n i : ℕ) → Leads i (Ok (onward.To n)) → i ≤ j + 1 → LeadsTo v log at (Ok (onward.To n)) → BetweenSteps (set places k at) n (k + 1) i
    goes_on n i e c o =
        let h : k < length places = place_below (omega (arith, o.0, o.1)) in
        let l : length (drop n log) < length (drop at log) = simp length-drop (omega (arith, o.0, o.1)) in
        record {
          long = simp length-set s.long;
          inside = o.1;
          apart = omega (arith, o.0, s.apart);
          few = omega (arith, s.few);
          rest = rest_more h;
          cited = cited_more at h s.cited o.2;
          outcome = s.outcome ∙ from_goes held (say_by w) m k _ at (drop at log) (sym e) l
              ∙ ap (λ x. from held (say_by w) m (suc k) x n (drop n log)) (state_passed (made_fact log) places k i at h)
              ∙ ap (λ q. from held (say_by w) m q (state_at (made_fact log) (take (k + 1) (set places k at)) i) n (drop n log)) (sym (add-one k));
        }

    pub ends_so : (r : Walked) (c : Concluded) (i : ℕ) → Leads i (Ok (onward.End c)) → at < length log → ConclusionIn most_variables c → r.answer ≡ answer_by w c → r.judged ≡ i
        → Tells r lent (set places k at) (over held (say_by w) m log)
    ends_so r c i e l d p q =
        let h = place_below l in
        let o = s.outcome ∙ from_stops held (say_by w) m k _ at (drop at log) (sym e) in
        record {
          answered = ap told_answer p ∙ answer_told w c ∙ sym (ap (λ x. x.answer) o);
          counted = q ∙ sym (ap (λ x. x.judged) o);
          noted = filled h ∙ sym (ap (λ x. x.starts ++ drop (length x.starts) lent) o);
          named = subst (NamesIn most_variables) (sym p) (answer_names most_variables w c d);
        }
      where
        long : k < length places → length (take k places ++ (at ∷ [])) ≡ k + 1
        long h = simp (length-append, length-take) (omega arith)

        filled : k < length places → set places k at ≡ (take k places ++ (at ∷ [])) ++ drop (length (take k places ++ (at ∷ []))) lent
        filled h =
            let a : take (k + 1) (set places k at) ≡ take k places ++ (at ∷ []) = rw (add-one k, take-suc-set places k at h) in
            sym (take-append-drop (k + 1) (set places k at)) ∙ ap (λ z. z ++ drop (k + 1) (set places k at)) a
            ∙ ap (λ z. (take k places ++ (at ∷ [])) ++ z) (rest_more h ∙ ap (λ n. drop n lent) (sym (long h)))

    pub stops_so : (r : Walked) (f : Refusal) (i : ℕ) → Leads i (Err f) → r.answer ≡ answer.Refused (number_of f.reason) k f.position → r.judged ≡ i
        → Tells r lent places (over held (say_by w) m log)
    stops_so r f i e q p =
        let o = s.outcome ∙ from_stops held (say_by w) m k _ at (drop at log) (sym e) in
        record {
          answered = ap told_answer q ∙ sym (ap (λ x. x.answer) o);
          counted = p ∙ sym (ap (λ x. x.judged) o);
          noted = kept ∙ sym (ap (λ x. x.starts ++ drop (length x.starts) lent) o);
          named = subst (NamesIn most_variables) (sym q) tt;
        }
      where
        long : length (take k places) ≡ k
        long = simp length-take (let c = s.cited.enough in omega arith)

        kept : places ≡ take k places ++ drop (length (take k places)) lent
        kept = sym (take-append-drop k places) ∙ ap (λ z. take k places ++ z) (s.rest ∙ ap (λ n. drop n lent) (sym long))
