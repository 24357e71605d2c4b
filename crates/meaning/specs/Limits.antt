-- Document 01's limits, each by one name. What pins them, Ranges, Layout and Verdicts, has the numbers themselves.
use Rattle.std.specs.Prelude.{ℕ}

-- ---- how large a table may be
abbrev pub most_model_words : ℕ
most_model_words = 4096

abbrev pub most_log_words : ℕ
most_log_words = 16384

-- how many places must be lent
abbrev pub fewest_places : ℕ
fewest_places = 4096

-- ---- how much it may hold
abbrev pub most_variables : ℕ
most_variables = 64

abbrev pub most_rows : ℕ
most_rows = 64

-- the terms, variables or activities of a row
abbrev pub most_parts : ℕ
most_parts = 16

abbrev pub most_premises : ℕ
most_premises = 16

abbrev pub most_hints : ℕ
most_hints = 64

-- ---- how large a number may be
abbrev pub most_value : ℕ
most_value = 100000

abbrev pub most_coefficient : ℕ
most_coefficient = 1000000

abbrev pub most_duration : ℕ
most_duration = 10000

-- a usage, and a capacity
abbrev pub most_usage : ℕ
most_usage = 1000000
