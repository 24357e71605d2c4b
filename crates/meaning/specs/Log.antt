-- The log table: atoms, facts and steps, and how a step's words are read: refusals 11 and 12.
use Rattle.std.specs.Prelude.{ℕ, zero, suc, List, ℤ, pos}
use Rattle.std.proofs.Math.Option.{Option, none, some}
use Rattle.meaning.specs.Limits.{most_value, most_premises, most_hints}
use Rattle.meaning.specs.Refusals.{log_ends_inside_step, log_word_outside}
use Rattle.meaning.specs.Read.{Reader, ◌>>=◌, give, refuse, neg, word, count, below, times}

pub data Relation : Type 0 where
  at_most at_least equal not_equal : Relation

pub record Atom : Type 0 where
  pub variable : ℕ
  pub relation : Relation
  pub value : ℤ

pub record Fact : Type 0 where
  pub premises : List Atom
  pub consequent : Option Atom  -- none is "false"

pub data Step : Type 0 where
  inference : ℕ → Fact → Step  -- the row number
  deduction : Fact → List ℕ → Step  -- the hints: fact numbers
  no_assignment : ℕ → Step  -- the fact number
  never_below : ℕ → ℤ → ℕ → Step  -- the variable, the value, the fact number

-- the log's words: 11 where it ends inside a step, 12 where a word is outside its range
abbrev pub number : ℕ → ℕ → Reader ℕ
number = count log_ends_inside_step log_word_outside

abbrev pub value : Reader ℤ
value = word log_ends_inside_step log_word_outside (neg most_value) (pos most_value)

abbrev pub number_below : ℕ → Reader ℕ
number_below = below log_ends_inside_step log_word_outside

-- of a number that is 1 to 4
abbrev pub relation_of : ℕ → Relation
relation_of zero = at_most
relation_of (suc zero) = at_most
relation_of (suc (suc zero)) = at_least
relation_of (suc (suc (suc zero))) = equal
relation_of (suc (suc (suc (suc n)))) = not_equal

abbrev pub atom : ℕ → Reader Atom
atom v = do
  x ← number_below v
  r ← number 1 4
  a ← value
  give (record { variable = x; relation = relation_of r; value = a })

abbrev pub consequent_of : ℕ → ℕ → Reader (Option Atom)
consequent_of v zero = give none
consequent_of v (suc q) = do
  a ← atom v
  give (some a)

abbrev pub fact : ℕ → Reader Fact
fact v = do
  p ← number 0 most_premises
  ps ← times p (atom v)
  q ← number 0 1
  c ← consequent_of v q
  give (record { premises = ps; consequent = c })

-- the rest of step k after its kind, with v variables and c rows: it cites only facts below k, and all of its words are read, hints behind the one that ends it included
abbrev pub step_of_kind : ℕ → ℕ → ℕ → ℕ → Reader Step
step_of_kind v c k zero = refuse log_word_outside
step_of_kind v c k (suc zero) = do
  r ← number_below c
  f ← fact v
  give (inference r f)
step_of_kind v c k (suc (suc zero)) = do
  f ← fact v
  h ← number 0 most_hints
  hs ← times h (number_below k)
  give (deduction f hs)
step_of_kind v c k (suc (suc (suc zero))) = do
  n ← number_below k
  give (no_assignment n)
step_of_kind v c k (suc (suc (suc (suc n)))) = do
  x ← number_below v
  a ← value
  i ← number_below k
  give (never_below x a i)

abbrev pub step : ℕ → ℕ → ℕ → Reader Step
step v c k = do
  n ← number 1 4
  step_of_kind v c k n
