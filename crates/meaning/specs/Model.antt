-- The model table: its bounds and rows, and how its words are read: refusals 4 to 7.
use Rattle.std.specs.Prelude.{ℕ, zero, suc, true, false, List, [], ◌∷◌, length, eqb, ℤ, pos}
use Rattle.meaning.specs.Limits.{most_variables, most_rows, most_parts, most_value, most_coefficient, most_duration, most_usage}
use Rattle.meaning.specs.Refusals.{model_ends_early, model_word_outside, variable_twice, words_after_model}
use Rattle.meaning.specs.Read.{Reader, Got, got, refused, ◌>>=◌, give, refuse, neg, word, count, below, times}
use Rattle.words.specs.Lists.{member}

pub record Bounds : Type 0 where
  pub low : ℤ
  pub high : ℤ

pub record Term : Type 0 where
  pub coefficient : ℤ
  pub variable : ℕ

pub record Activity : Type 0 where
  pub start : ℕ  -- the start variable
  pub duration : ℕ
  pub usage : ℕ

pub data Row : Type 0 where
  linear : ℤ → List Term → Row  -- the bound, the terms
  all_different : List ℕ → Row  -- the variables
  cumulative : ℕ → List Activity → Row  -- the capacity, the activities
  circuit : List ℕ → Row  -- the variables, by position

pub record Model : Type 0 where
  pub bounds : List Bounds
  pub rows : List Row

-- the model's words: 4 where it ends early, 5 where a word is outside its range
abbrev pub number : ℕ → ℕ → Reader ℕ
number = count model_ends_early model_word_outside

abbrev pub integer : ℤ → ℤ → Reader ℤ
integer = word model_ends_early model_word_outside

-- high is held against the low just read
abbrev pub bounds_pair : Reader Bounds
bounds_pair = do
  l ← integer (neg most_value) (pos most_value)
  h ← integer l (pos most_value)
  give (record { low = l; high = h })

-- the number of one of v variables
abbrev pub variable_of : ℕ → Reader ℕ
variable_of v = below model_ends_early model_word_outside v

-- a variable that was seen: refused with 6 at its word, once the word is there and in range
abbrev pub fresh_word : List ℕ → ℕ → Got ℕ → Got ℕ
fresh_word seen at (got x at' ws) = elim (member eqb x seen) [ true ↦ refused variable_twice at | false ↦ got x at' ws ]
fresh_word seen at (refused num p) = refused num p

abbrev pub fresh : ℕ → List ℕ → Reader ℕ
fresh v seen at ws = fresh_word seen at (variable_of v at ws)

-- n variables, none twice, looked for at each word in its turn
abbrev pub distinct : ℕ → ℕ → List ℕ → Reader (List ℕ)
distinct v zero seen = give []
distinct v (suc n) seen = do
  x ← fresh v seen
  xs ← distinct v n (x ∷ seen)
  give (x ∷ xs)

abbrev pub term : ℕ → Reader Term
term v = do
  c ← integer (neg most_coefficient) (pos most_coefficient)
  x ← variable_of v
  give (record { coefficient = c; variable = x })

abbrev pub activity : ℕ → Reader Activity
activity v = do
  x ← variable_of v
  d ← number 1 most_duration
  u ← number 0 most_usage
  give (record { start = x; duration = d; usage = u })

-- the rest of a row after its kind, which is 1 to 4
abbrev pub row_of_kind : ℕ → ℕ → Reader Row
row_of_kind v zero = refuse model_word_outside
row_of_kind v (suc zero) = do
  n ← number 1 most_parts
  b ← integer (neg 2147483648) (pos 2147483647)
  ts ← times n (term v)
  give (linear b ts)
row_of_kind v (suc (suc zero)) = do
  n ← number 2 most_parts
  xs ← distinct v n []
  give (all_different xs)
row_of_kind v (suc (suc (suc zero))) = do
  n ← number 1 most_parts
  c ← number 0 most_usage
  acts ← times n (activity v)
  give (cumulative c acts)
row_of_kind v (suc (suc (suc (suc k)))) = do
  n ← number 2 most_parts
  xs ← distinct v n []
  give (circuit xs)

abbrev pub row : ℕ → Reader Row
row v = do
  k ← number 1 4
  row_of_kind v k

-- nothing may follow
abbrev pub end : Model → Reader Model
end m at [] = got m at []
end m at (w ∷ ws) = refused words_after_model at

abbrev pub read_model : Reader Model
read_model = do
  v ← number 1 most_variables
  bs ← times v bounds_pair
  c ← number 0 most_rows
  rs ← times c (row v)
  end (record { bounds = bs; rows = rs })

-- ---- a row's words, by which rows are compared
abbrev pub term_words : List Term → List ℤ
term_words [] = []
term_words (t ∷ ts) = t.coefficient ∷ pos t.variable ∷ term_words ts

abbrev pub variable_words : List ℕ → List ℤ
variable_words [] = []
variable_words (x ∷ xs) = pos x ∷ variable_words xs

abbrev pub activity_words : List Activity → List ℤ
activity_words [] = []
activity_words (a ∷ rest) = pos a.start ∷ pos a.duration ∷ pos a.usage ∷ activity_words rest

abbrev pub row_words : Row → List ℤ
row_words (linear b ts) = pos 1 ∷ pos (length ts) ∷ b ∷ term_words ts
row_words (all_different xs) = pos 2 ∷ pos (length xs) ∷ variable_words xs
row_words (cumulative c acts) = pos 3 ∷ pos (length acts) ∷ pos c ∷ activity_words acts
row_words (circuit xs) = pos 4 ∷ pos (length xs) ∷ variable_words xs
