-- Each way in which the comparison of two models ends.
use Rattle.std.specs.Prelude.{ℕ, ◌+◌, ◌-◌, ◌*◌, ◌≤◌, ◌<◌, ◌≡◌, refl, Bool, true, false, ◌&&◌, List, ltb, ℤ, length}
use Rattle.std.proofs.Common.{sym, subst, ◌∙◌, arith, lt-ltb, le-ltb, ne_eqb, eq-eqb}
use Rattle.meaning.specs.Limits.{most_model_words}
use Rattle.meaning.specs.Read.{refused}
use Rattle.meaning.specs.Model.{Model, read_model}
use Rattle.meaning.specs.Check.{good, bad, good_of, read_good, same_words, same_bounds, fits_old, changes}
use Rattle.model.specs.Planned.{model_of, Planned, Modelled}
use Rattle.row_set.specs.Bits.{packed}
use Rattle.amend.specs.Changed.{Answered, Whole}
use Rattle.row_changes.specs.Words.{words_at, other_bounds, bounds_words}

module _ (old : List ℤ) (n : Model) where
  bad_is_whole : read_good old ≡ bad → Whole (read_good old) n
  bad_is_whole e = rw e (refl, refl)

  pub too_long : most_model_words < length old → Whole (read_good old) n
  too_long h = bad_is_whole (rw (lt-ltb most_model_words (length old) h))

  pub not_good : {num p : ℕ} → read_model 0 old ≡ refused num p → Whole (read_good old) n
  not_good e = bad_is_whole (go (ltb most_model_words (length old)))
    where
      go : (b : Bool) → good_of b (read_model 0 old) ≡ bad
      go true = refl
      go false = rw e

  unfit : {o : Model} → read_good old ≡ good o → fits_old o n ≡ false → Whole (read_good old) n
  unfit e f = rw (e, f) (refl, refl)

  fit : {o : Model} → read_good old ≡ good o → fits_old o n ≡ true → Answered (read_good old) n false (packed (changes o.rows n.rows))
  fit e f = rw (e, f) (refl, refl)

-- ---- an old model that was read as a plan: v variables, c rows, and where these begin
pub record Known (old : List ℤ) (starts : List ℕ) (v c : ℕ) : Type 0 where
  pub is : read_good old ≡ good (model_of old)
  pub plan : Planned old starts v c

pub known : {old words : List ℤ} {starts : List ℕ} {v c : ℕ} → length old ≤ most_model_words → (words ≡ old) × Modelled old → Planned words starts v c → Known old starts v c
known {old} {starts = starts} {v = v} {c} short (e, m) p =
    let z : ltb most_model_words (length old) ≡ false = le-ltb most_model_words (length old) short in
    record { is = rw (z, m.is); plan = subst (λ ws. Planned ws starts v c) e p }

none : (b : Bool) → b && false ≡ false
none true = refl
none false = refl

module _ {old new : List ℤ} {olds news : List ℕ} {v c w d : ℕ} (o : Known old olds v c) (n : Planned new news w d) where
  pub other_variables : (v ≡ w → ⊥) → Whole (read_good old) (model_of new)
  other_variables h = unfit old (model_of new) o.is (rw (other_bounds (model_of old).bounds (model_of new).bounds (λ e. h (sym o.plan.variables ∙ e ∙ n.variables))))

  pub other_rows : (c ≡ d → ⊥) → Whole (read_good old) (model_of new)
  other_rows h = unfit old (model_of new) o.is (rw (ne_eqb (length (model_of old).rows) (length (model_of new).rows) (λ e. h (sym o.plan.rows ∙ e ∙ n.rows))) (none (same_bounds (model_of old).bounds (model_of new).bounds)))

-- ---- with as many variables: the words of the bounds are those from 1 to 1 + w * 2
bounds_size : (w : ℕ) → 1 + w * 2 - 1 ≡ w * 2
bounds_size w = omega arith

module _ {old new : List ℤ} {olds news : List ℕ} {v c w d : ℕ} (o : Known old olds v c) (n : Planned new news w d) (same : v ≡ w) where
  by_words : same_bounds (model_of old).bounds (model_of new).bounds ≡ same_words (words_at old 1 (1 + w * 2 - 1)) (words_at new 1 (1 + w * 2 - 1))
  by_words = rw (o.plan.bounds, n.bounds, same, bounds_size w) (bounds_words old new w 1 1 (omega (arith, o.plan.fits)) (omega (arith, n.fits)))

  -- by the answer r to whether they are the same
  module _ {r : Bool} (e : r ≡ same_words (words_at old 1 (1 + w * 2 - 1)) (words_at new 1 (1 + w * 2 - 1))) where
    pub other_bound : r ≡ false → Whole (read_good old) (model_of new)
    other_bound h = unfit old (model_of new) o.is (rw (by_words ∙ sym e ∙ h))

    pub fitting : r ≡ true → c ≡ d → Answered (read_good old) (model_of new) false (packed (changes (model_of old).rows (model_of new).rows))
    fitting h as_many = fit old (model_of new) o.is (rw (by_words ∙ sym e ∙ h, eq-eqb (length (model_of old).rows) (length (model_of new).rows) (o.plan.rows ∙ as_many ∙ sym n.rows)))
