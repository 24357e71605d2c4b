use Rattle.std.proofs.Common.{◌≡◌, take}
use Rattle.meaning.specs.Check.{changes}
use Rattle.model.specs.Planned.{model_of}
use Rattle.row_set.specs.Bits.{packed}
use Rattle.row_changes.proofs.changed_rows.Given as goal

abbrev pub invariant-loop-k : goal.invariant-loop-k
invariant-loop-k l = l.set ≡ packed (take l.k (changes (model_of l.old.words.now).rows (model_of l.new.words.now).rows))
