-- Each verdict exactly then: the definition gives it where its relation does, and nowhere else.
use Rattle.std.specs.Prelude.{ℕ, suc, ◌≡◌, refl, Bool, true, false, List, [], ◌∷◌, length}
use Rattle.std.proofs.Common.{subst}
use Rattle.std.proofs.Math.Option.{Option, none, some}
use Rattle.words.specs.Lists.{is_empty}
use Rattle.meaning.specs.Model.{Bounds, Model}
use Rattle.meaning.specs.Log.{Atom, Fact}
use Rattle.meaning.specs.Box.{left, box_of, any_empty}
use Rattle.meaning.specs.Rule.{conflicts}
use Rattle.meaning.specs.Verdicts.{Inferred, box_empty, in_conflict, no_conflict, Hinted, used_up, not_yet, says_false_lem, empties, narrows, Deduced, start_empty, hinted, Suits, suits, unfit, JudgeSays}
use Rattle.meaning.specs.Judge.{Verdict, row_at, inferred, premises_hold, unless_emptied, take_hint, follow_hints, deduced, fits24, says_false, says_at_least}

inferred_so : (a b : Bool) → Inferred a b (inferred a b)
inferred_so true b = box_empty
inferred_so false true = in_conflict
inferred_so false false = no_conflict

inferred_back : {a b : Bool} {v : Verdict} → Inferred a b v → inferred a b ≡ v
inferred_back box_empty = refl
inferred_back in_conflict = refl
inferred_back no_conflict = refl

fits_so : (b : Bool) → Suits b (fits24 b)
fits_so true = suits
fits_so false = unfit

fits_back : {b : Bool} {v : Verdict} → Suits b v → fits24 b ≡ v
fits_back suits = refl
fits_back unfit = refl

module _ (bs : List Bounds) (facts : ℕ → Fact) where
  hinted_so : (box : List Atom) (i : ℕ) (hs : List ℕ) → Hinted bs facts box i hs (follow_hints bs facts box i hs)
  hinted_so box i [] = used_up
  hinted_so box i (h ∷ hs) = hint (premises_hold bs box (facts h).premises) refl (facts h).consequent refl (λ narrower. hinted_so narrower (suc i) hs)
    where
      empty : (c : Atom) → premises_hold bs box (facts h).premises ≡ true → (facts h).consequent ≡ some c → ((narrower : List Atom) → Hinted bs facts narrower (suc i) hs (follow_hints bs facts narrower (suc i) hs))
          → (e : Bool) → is_empty (left bs (c ∷ box) c.variable) ≡ e → Hinted bs facts box i (h ∷ hs) (unless_emptied e (c ∷ box) (λ narrower. follow_hints bs facts narrower (suc i) hs))
      empty c p q next true z = empties p q z
      empty c p q next false z = narrows p q z (next (c ∷ box))

      hint : (b : Bool) → premises_hold bs box (facts h).premises ≡ b → (o : Option Atom) → (facts h).consequent ≡ o → ((narrower : List Atom) → Hinted bs facts narrower (suc i) hs (follow_hints bs facts narrower (suc i) hs))
          → Hinted bs facts box i (h ∷ hs) (take_hint bs box i b o (λ narrower. follow_hints bs facts narrower (suc i) hs))
      hint false p o q next = not_yet p
      hint true p none q next = says_false_lem p q
      hint true p (some c) q next = empty c p q next (is_empty (left bs (c ∷ box) c.variable)) refl

  hinted_back : {box : List Atom} {i : ℕ} {hs : List ℕ} {v : Verdict} → Hinted bs facts box i hs v → follow_hints bs facts box i hs ≡ v
  hinted_back used_up = refl
  hinted_back (not_yet p) = rw p
  hinted_back (says_false_lem p q) = rw (p, q)
  hinted_back (empties p q e) = rw (p, q, e)
  hinted_back (narrows p q e f) = rw (p, q, e) (hinted_back f)

  deduced_so : (f : Fact) (hs : List ℕ) (b : Bool) → Deduced bs facts f hs b (deduced b (follow_hints bs facts (box_of f) 0 hs))
  deduced_so f hs true = start_empty
  deduced_so f hs false = hinted (hinted_so (box_of f) 0 hs)

  deduced_back : (f : Fact) (hs : List ℕ) {b : Bool} {v : Verdict} → Deduced bs facts f hs b v → deduced b (follow_hints bs facts (box_of f) 0 hs) ≡ v
  deduced_back f hs start_empty = refl
  deduced_back f hs (hinted w) = hinted_back w

pub judge_says : (m : Model) (facts : ℕ → Fact) (v : Verdict) → JudgeSays m facts v
judge_says m facts v = record {
  inference_is = λ r f. (λ e. subst (Inferred _ _) e (inferred_so (any_empty m.bounds (box_of f) (length m.bounds)) (conflicts f (left m.bounds (box_of f)) (row_at m r))), inferred_back);
  deduction_is = λ f hs. (λ e. subst (Deduced m.bounds facts f hs _) e (deduced_so m.bounds facts f hs (any_empty m.bounds (box_of f) (length m.bounds))), deduced_back m.bounds facts f hs);
  nothing_is = λ n. (λ e. subst (Suits _) e (fits_so (says_false (facts n))), fits_back);
  never_below_is = λ x a n. (λ e. subst (Suits _) e (fits_so (says_at_least x a (facts n))), fits_back);
}
