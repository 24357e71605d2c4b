-- The table of a row's sure parts: for each activity the largest start left to it, the end of its sure part (the least start left and
-- the duration), and its usage. An activity surely runs from its largest start left up to, not including, that end.
use Rattle.std.specs.Prelude.{ℕ, zero, suc, ◌+◌, ◌*◌, ◌≤◌, ◌<◌, cond, List, ℤ, pos, ◌+ℤ◌, ◌-ℤ◌, length, get_or, ◌≤ℤ◌}
use Rattle.meaning.specs.Limits.{most_value, most_usage, most_duration, most_parts}
use Rattle.meaning.specs.Read.{neg}
use Rattle.meaning.specs.Rule.{during}
use Rattle.sure_parts.specs.declared.Part.{Part}

-- past the table
abbrev pub nothing : Part
nothing = record { from = pos 0; until = pos 0; usage = pos 0 }

abbrev pub from_of : List Part → ℕ → ℤ
from_of ps k = (get_or ps k nothing).from

abbrev pub until_of : List Part → ℕ → ℤ
until_of ps k = (get_or ps k nothing).until

abbrev pub usage_of : List Part → ℕ → ℤ
usage_of ps k = (get_or ps k nothing).usage

-- what an activity with this sure part surely uses at t
abbrev pub used_by : Part → ℤ → ℤ
used_by p t = cond (during p.from p.until t) p.usage (pos 0)

-- what activity k surely uses at t
abbrev pub used_at : List Part → ℤ → ℕ → ℤ
used_at ps t k = used_by (get_or ps k nothing) t

-- what the first n surely use at t
unfoldable pub load : List Part → ℤ → ℕ → ℤ
load ps t zero = pos 0
load ps t (suc n) = load ps t n +ℤ used_at ps t n

-- what is surely in use just before the end of activity k's sure part
abbrev pub peak : List Part → ℕ → ℕ → ℤ
peak ps n k = load ps (until_of ps k -ℤ pos 1) n

-- ---- the words are small, so that no sum of them overflows
-- the last time when a sure part can end
abbrev pub latest_end : ℕ
latest_end = most_value + most_duration

-- the most that all activities use together
abbrev pub most_load : ℕ
most_load = most_parts * most_usage

pub record Sized (ps : List Part) : Type 0 where
  pub few : length ps ≤ most_parts
  pub starts : (k : ℕ) → k < length ps → (neg most_value ≤ℤ from_of ps k) × (from_of ps k ≤ℤ pos most_value)
  pub ends : (k : ℕ) → k < length ps → (neg most_value ≤ℤ until_of ps k) × (until_of ps k ≤ℤ pos latest_end)
  pub usages : (k : ℕ) → k < length ps → (pos 0 ≤ℤ usage_of ps k) × (usage_of ps k ≤ℤ pos most_usage)

-- the table of what is surely in use just before each end
pub record Loads (peaks : List ℤ) : Type 0 where
  pub few : length peaks ≤ most_parts
  pub small : (k : ℕ) → k < length peaks → (pos 0 ≤ℤ get_or peaks k (pos 0)) × (get_or peaks k (pos 0) ≤ℤ pos most_load)
