-- The class of each number: below 10 is early, a rule's number is judged.
use Rattle.std.specs.Prelude.{ℕ, ◌≤◌, ◌≡◌, refl, Bool, true, false, eqb}
use Rattle.std.proofs.Common.{ap, ◌∙◌, arith, lt-ltb, le-ltb}
use Rattle.words.specs.Lists.{member}
use Rattle.meaning.specs.Refusals.{early, judged, of_words, class_by, class_of}
use Rattle.meaning.specs.Log.{Step}
use Rattle.meaning.specs.Check.{Answer, shut, accepted, carried, before_steps, is_early}
use Rattle.meaning.specs.Outcomes.{Fault, box_empty, no_conflict, start_empty, hint_off, used_up, unfit_nothing, unfit_bound, OnShut, of_read, late}

early_class : (num : ℕ) → num ≤ 9 → class_of num ≡ early
early_class num l = ap (λ b. class_by b (member eqb num of_words)) (lt-ltb num 10 (omega arith))

pub early_is : (num k p : ℕ) → num ≤ 9 → is_early (shut num k p) ≡ true
early_is num k p l = ap before_steps (early_class num l)

pub late_is : (num k p : ℕ) → 10 ≤ num → is_early (shut num k p) ≡ false
late_is num k p l = ap (λ b. before_steps (class_by b (member eqb num of_words))) (le-ltb num 10 l) ∙ go (member eqb num of_words)
  where
    go : (b : Bool) → before_steps (class_by false b) ≡ false
    go true = refl
    go false = refl

pub late_answer : (a : Answer) → OnShut (λ num k p. 10 ≤ num) a → is_early a ≡ false
late_answer (shut num k p) l = late_is num k p l
late_answer (accepted c) l = refl
late_answer (carried c) l = refl

pub early_unread : (num k p : ℕ) → num ≤ 9 → late (shut num k p) ≡ 0
early_unread num k p l = ap of_read (early_class num l)

pub fault_class : {t : Step} {num p : ℕ} → Fault t num p → class_of num ≡ judged
fault_class box_empty = refl
fault_class no_conflict = refl
fault_class start_empty = refl
fault_class (hint_off l) = refl
fault_class used_up = refl
fault_class unfit_nothing = refl
fault_class unfit_bound = refl

pub fault_read : {t : Step} {num p : ℕ} (k : ℕ) → Fault t num p → late (shut num k p) ≡ 1
fault_read k f = ap of_read (fault_class f)
