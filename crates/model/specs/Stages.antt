-- The model read in stages: where it is refused before any row is begun, and what is left where its rows begin.
use Rattle.std.specs.Prelude.{ℕ, ◌≤◌, ◌<◌, ◌≡◌, List, [], ℤ, pos, length, drop, Result, Ok, Err}
use Rattle.std.proofs.Common.{sym, arith, drop_of_length-le, drop-cons}
use Rattle.meaning.specs.Limits.{most_variables, most_rows}
use Rattle.meaning.specs.Read.{got, ◌>>=◌, times}
use Rattle.meaning.specs.Model.{Bounds, Model, number, bounds_pair, row, end, read_model}
use Rattle.reading.specs.At.{nat_at}
use Rattle.reading.specs.Reading.{skim_refused}
use Rattle.reading.specs.Back.{times_back, count_back}
use Rattle.reading.specs.Told.{Skims}
use Rattle.reading.specs.Over.{stops, goes, goes_any, got_over, found, ranged, counts}
use Rattle.reading.specs.Reasons.{number_of}
use Rattle.reading.specs.declared.refusals.Refusal.{Refusal}
use Rattle.model.specs.Back.{bounds_back}
use Rattle.model.specs.Starts.{row_starts, model_starts}

-- nothing may follow
more_words : (x : Model) (s : List ℤ) {e : Refusal} → number_of e.reason ≡ 7 → e.position < length s → Skims (end x) s e.position (Err e)
more_words x s {e} a l = record { told = rw (a, drop-cons s e.position (pos 0)) }

no_more : (x : Model) (s : List ℤ) (m : ℕ) → length s ≤ m → Skims (end x) s m (Ok m)
no_more x s m h = record { told = rw (drop_of_length-le s) }

-- the answer is the model's, and no row was begun
abbrev Early : List ℤ → Result ℕ Refusal → Type 0
Early s p = Skims read_model s 0 p × (model_starts s ≡ [])

-- so many variables and rows, which begin at `from`
pub record Headed (s : List ℤ) (v c from : ℕ) : Type 0 where
  pub few_variables : v ≤ most_variables
  pub few_rows : c ≤ most_rows
  pub inside : from ≤ length s
  pub starts : model_starts s ≡ row_starts v c from (drop from s)
  pub rest : {q : Result ℕ Refusal} → ((bs : List Bounds) → Skims (times c (row v) >>= λ rs. end (record { bounds = bs; rows = rs })) s from q) → Skims read_model s 0 q

module _ {s : List ℤ} where
  pub no_variables : {e : Refusal} → Skims (number 1 most_variables) s 0 (Err e) → Early s (Err e)
  unfolding model_starts
  no_variables h = (stops _ h, rw (skim_refused (number 1 most_variables 0 s) (sym h.told)))

  module _ {a v : ℕ} (h₁ : Skims (number 1 most_variables) s 0 (Ok a)) (q₁ : v ≡ nat_at s 0) where
    one : number 1 most_variables 0 s ≡ got v a (drop a s)
    one = rw q₁ (got_over h₁ (count_back 4 5 1 most_variables))

    pub no_bounds : {e : Refusal} → Skims (times v bounds_pair) s a (Err e) → Early s (Err e)
    unfolding model_starts
    no_bounds h = (counts 4 5 1 most_variables h₁ q₁ _ (stops _ h), rw (one, skim_refused (times v bounds_pair a (drop a s)) (sym h.told)))

    module _ {n : ℕ} (h₂ : Skims (times v bounds_pair) s a (Ok n)) where
      pub no_rows : {e : Refusal} → Skims (number 0 most_rows) s n (Err e) → Early s (Err e)
      unfolding model_starts
      no_rows h = (counts 4 5 1 most_variables h₁ q₁ _ (goes h₂ (times_back bounds_back v) _ (stops _ h)), rw (one, got_over h₂ (times_back bounds_back v), skim_refused (number 0 most_rows n (drop n s)) (sym h.told)))

      pub headed : {c from : ℕ} → Skims (number 0 most_rows) s n (Ok from) → c ≡ nat_at s n → Headed s v c from
      unfolding model_starts
      headed h₃ q₂ =
          record {
            few_variables = omega (arith, q₁, (ranged 4 5 1 most_variables h₁).upto);
            few_rows = omega (arith, q₂, (ranged 4 5 0 most_rows h₃).upto);
            inside = omega (arith, (found h₃ (count_back 4 5 0 most_rows)).next, (ranged 4 5 0 most_rows h₃).inside);
            starts = rw (one, got_over h₂ (times_back bounds_back v), got_over h₃ (count_back 4 5 0 most_rows), ← q₂);
            rest = λ k. counts 4 5 1 most_variables h₁ q₁ _ (goes h₂ (times_back bounds_back v) _ (counts 4 5 0 most_rows h₃ q₂ _ (k _)));
          }

module _ {s : List ℤ} {v c from : ℕ} (h : Headed s v c from) where
  pub bad_row : {e : Refusal} → Skims (times c (row v)) s from (Err e) → Skims read_model s 0 (Err e)
  bad_row k = h.rest (λ bs. stops _ k)

  module _ {m : ℕ} (k : Skims (times c (row v)) s from (Ok m)) where
    pub too_long : {e : Refusal} → number_of e.reason ≡ 7 → e.position ≡ m → m < length s → Skims read_model s 0 (Err e)
    too_long {e} a b l = h.rest (λ bs. goes_any k _ (λ rs. rw (← b) (more_words (record { bounds = bs; rows = rs }) s a (omega arith))))

    pub sound : length s ≤ m → Skims read_model s 0 (Ok m)
    sound l = h.rest (λ bs. goes_any k _ (λ rs. no_more (record { bounds = bs; rows = rs }) s m l))
