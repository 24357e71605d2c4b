-- A good model in its table: what the parts that judge a log against it rely on.
use Rattle.std.specs.Prelude.{ℕ, ◌+◌, ◌*◌, ◌≤◌, ◌<◌, ◌≡◌, refl, List, [], ℤ, pos, length, get_or, drop, Ok, Err}
use Rattle.std.proofs.Common.{sym, ap, ◌∙◌, arith}
use Rattle.std.proofs.lemmas.List.Edits.{sets}
use Rattle.std.proofs.Math.Seq.{length-sets}
use Rattle.words.specs.Lists.{All}
use Rattle.meaning.specs.Limits.{most_variables, most_rows}
use Rattle.meaning.specs.Read.{Got, got, refused}
use Rattle.meaning.specs.Model.{Model, linear, read_model}
use Rattle.meaning.specs.Judge as judge
use Rattle.meaning.proofs.Proved.ReadModel.{KnownBounds, known_model}
use Rattle.reading.specs.At.{each_at}
use Rattle.reading.specs.Reading.{skim_got, skim_refused}
use Rattle.reading.specs.Told.{Skims}
use Rattle.reading.specs.Reasons.{number_of}
use Rattle.reading.specs.Over.{is_over}
use Rattle.reading.specs.declared.refusals.Refusal.{Refusal}
use Rattle.model.specs.Rows.{bounds_at, row_at, RowIn}
use Rattle.model.specs.Starts.{model_starts}
use Rattle.model.specs.Laws.{Good, good_model, few_rows, start_of, row_at_start, row_in, refused_inside}

abbrev pub the_model : Got Model → Model
the_model (got m at ws) = m
the_model (refused num p) = record { bounds = []; rows = [] }

-- the model that a good table holds
abbrev pub model_of : List ℤ → Model
model_of ws = the_model (read_model 0 ws)

-- the table holds a good model of v variables and c rows, and the entries of `starts` are its rows' first words
pub record Planned (model : List ℤ) (starts : List ℕ) (v c : ℕ) : Type 0 where
  pub variables : length (model_of model).bounds ≡ v
  pub rows : length (model_of model).rows ≡ c
  pub some_variable : 1 ≤ v
  pub few_variables : v ≤ most_variables
  pub few_rows : c ≤ most_rows
  pub fits : 1 + 2 * v ≤ length model
  pub bounds : (model_of model).bounds ≡ each_at bounds_at 2 v model 1
  pub known : All KnownBounds (model_of model).bounds
  pub noted : c ≤ length starts
  pub row_is : (r : ℕ) → r < c → judge.row_at (model_of model) r ≡ row_at model (get_or starts r 0)
  pub row_in : (r : ℕ) → r < c → RowIn v model (get_or starts r 0)

-- the table was read as a model
pub record Modelled (s : List ℤ) : Type 0 where
  pub next : ℕ
  pub is : read_model 0 s ≡ got (model_of s) next (drop next s)
  pub good : Good s (model_of s)

pub modelled : {s : List ℤ} {n : ℕ} → Skims read_model s 0 (Ok n) → Modelled s
modelled {s} {n} h =
    let (m, q) = skim_got (read_model 0 s) (is_over h) in
    let k : read_model 0 s ≡ got (model_of s) n (drop n s) = q ∙ ap (λ (x : Model). got x n (drop n s)) (sym (ap the_model q)) in
    record { next = n; is = k; good = good_model s k }

-- and not where it was refused: the number is one of the model's, and the position is in the table
pub record Unread (s : List ℤ) (num p : ℕ) : Type 0 where
  pub is : read_model 0 s ≡ refused num p
  pub number : (4 ≤ num) × (num ≤ 7)
  pub inside : p ≤ length s

pub unread : {s : List ℤ} {e : Refusal} → Skims read_model s 0 (Err e) → Unread s (number_of e.reason) e.position
unread {s} h = let q = skim_refused (read_model 0 s) (sym h.told) in let r = refused_inside s q in record { is = q; number = (r.0, r.1); inside = r.2 }

-- the table of starts is as the reading leaves it: of those that were lent the first were set
pub record Noted (s : List ℤ) (starts : List ℕ) : Type 0 where
  pub lent : List ℕ
  pub room : most_rows ≤ length lent
  pub is : starts ≡ sets lent 0 (model_starts s)

-- as the reading leaves it: the first entries of the table of starts were set
pub planned : {s : List ℤ} (l : List ℕ) → Modelled s → most_rows ≤ length l → Planned s (sets l 0 (model_starts s)) (length (model_of s).bounds) (length (model_of s).rows)
planned {s} l k h =
    let g = k.good in
    record {
      variables = refl;
      rows = refl;
      some_variable = omega (arith, g.variables_are, g.variables_in.from);
      few_variables = omega (arith, g.variables_are, g.variables_in.upto);
      few_rows = few_rows s g;
      fits = omega (arith, g.rows_number.inside);
      bounds = g.bounds_are;
      known = (known_model s k.is).bounds_known;
      noted = simp length-sets (omega (arith, few_rows s g));
      row_is = λ r j. rw (start_of s g l h r j) (row_at_start s g (linear (pos 0) []) r j);
      row_in = λ r j. rw (start_of s g l h r j) (row_in s g r j);
    }
