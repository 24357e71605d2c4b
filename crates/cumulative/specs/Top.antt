-- The most that is surely in use at any time: it stands just before the end of some sure part. More than the capacity is an overload,
-- and an activity that fits beside it finds room at every start.
use Prim.Native.Nat.{ℕ, zero, suc}
use Rattle.std.specs.Prelude.{pos}
use mathlib.Core.List.{List}
use Rattle.std.proofs.Math.IntN.{ℤ}
use Rattle.std.proofs.Math.ListN.{get_or}
use Rattle.words.specs.Words.{max_z}

-- the largest of the first n, 0 at least
unfoldable pub top_of : List ℤ → ℕ → ℤ
top_of peaks zero = pos 0
top_of peaks (suc n) = max_z (top_of peaks n) (get_or peaks n (pos 0))
