-- A cumulative row as it stands in the model table, and the tables that its rule makes.
use Rattle.std.specs.Prelude.{ℕ, ◌+◌, ◌<◌, Bool, ℤ, pos, length, ◌≤ℤ◌}
use mathlib.Core.List.{List}
use Rattle.std.proofs.Math.ListN.{get_or}
use Rattle.meaning.specs.Limits.{most_usage}
use Rattle.meaning.specs.Model.{Activity}
use Rattle.meaning.proofs.Proved.Positions.{squeezed_at}
use Rattle.reading.specs.At.{nat_at, each_at}
use Rattle.model.specs.Rows.{activity_at, Counted, ActivitiesIn}
use Rattle.domain.specs.Box.{variables, values}
use Rattle.rule_facts.specs.Ready.{Ready}
use Rattle.sure_parts.specs.declared.Part.{Part}
use Rattle.sure_parts.specs.Fill.{Filled, Peaked}

abbrev pub activities : List ℤ → ℕ → List Activity
activities m p = each_at activity_at 3 (nat_at m p) m (p + 2)

-- past the last activity
abbrev pub nobody : Activity
nobody = record { start = 0; duration = 0; usage = 0 }

-- every start left to activity i is blocked
unfoldable pub squeezes : (ℕ → List ℤ) → List ℤ → ℕ → ℕ → Bool
squeezes d m p i = squeezed_at d (nat_at m (p + 1)) nobody (activities m p) i

-- the words after the kind of a cumulative row, which begin at p
pub record CumulativeIn (v : ℕ) (m : List ℤ) (p : ℕ) : Type 0 where
  pub counted : Counted 1 m p
  pub inside : p + 1 < length m
  pub capacity : (pos 0 ≤ℤ get_or m (p + 1) (pos 0)) × (get_or m (p + 1) (pos 0) ≤ℤ pos most_usage)
  pub each : ActivitiesIn v m (p + 2) (nat_at m p)

-- the row, the box, and the tables made of them
pub record Prepared (cells m : List ℤ) (p : ℕ) (ps : List Part) (peaks : List ℤ) : Type 0 where
  pub row : CumulativeIn (variables cells) m p
  pub box : Ready cells
  pub filled : Filled (values cells) m (p + 2) (nat_at m p) ps
  pub peaked : Peaked ps (nat_at m p) peaks
