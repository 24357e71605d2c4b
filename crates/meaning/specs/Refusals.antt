-- Document 01's refusals: each number by one name, and the class of a number. What pins them, Layout, Verdicts and Outcomes, has the numbers themselves.
use Rattle.std.specs.Prelude.{ℕ, Bool, true, false, List, [], ◌∷◌, eqb, ltb}
use Rattle.words.specs.Lists.{member}

-- ---- before any step is read: the sizes, the model
abbrev pub model_too_long : ℕ
model_too_long = 1

abbrev pub log_too_long : ℕ
log_too_long = 2

abbrev pub places_too_few : ℕ
places_too_few = 3

abbrev pub model_ends_early : ℕ
model_ends_early = 4

abbrev pub model_word_outside : ℕ
model_word_outside = 5

abbrev pub variable_twice : ℕ
variable_twice = 6

abbrev pub words_after_model : ℕ
words_after_model = 7

-- ---- a step could not be read
abbrev pub no_conclusion : ℕ
no_conclusion = 10

abbrev pub log_ends_inside_step : ℕ
log_ends_inside_step = 11

abbrev pub log_word_outside : ℕ
log_word_outside = 12

-- ---- a step was read well and held against its rule
abbrev pub words_after_conclusion : ℕ
words_after_conclusion = 13

abbrev pub box_empty : ℕ
box_empty = 20

abbrev pub row_does_not_conflict : ℕ
row_does_not_conflict = 21

abbrev pub hint_does_not_apply : ℕ
hint_does_not_apply = 22

abbrev pub hints_used_up : ℕ
hints_used_up = 23

abbrev pub fact_does_not_fit : ℕ
fact_does_not_fit = 24

-- ---- the class of a refusal: given before any step is read; for a step's words alone; for a step that was read well
pub data Class : Type 0 where
  early layout judged : Class

-- the numbers below this one are given before any step is read
abbrev pub first_of_steps : ℕ
first_of_steps = 10

abbrev pub of_words : List ℕ
of_words = no_conclusion ∷ log_ends_inside_step ∷ log_word_outside ∷ []

-- is the number early; is it one of words alone
abbrev pub class_by : Bool → Bool → Class
class_by true words = early
class_by false true = layout
class_by false false = judged

abbrev pub class_of : ℕ → Class
class_of num = class_by (ltb num first_of_steps) (member eqb num of_words)
