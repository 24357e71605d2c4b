-- Where the row asks for them, just the variables that occur in the fact are marked.
use Rattle.std.proofs.Common.{ℕ, ◌+◌, ◌/◌, arith}
use Rattle.meaning.specs.Limits.{most_variables}
use Rattle.domain.specs.Box.{variables}
use Rattle.reading.specs.At.{nat_at}
use Rattle.boxes.specs.Occurrences.{asked_occurs}
use Rattle.judging.proofs.inferences.row_conflicts.Goals as goal

-- a word of marks for every 64 variables
abbrev mark_words : ℕ
mark_words = (most_variables + 63) / 64

pub returns : goal.returns
returns c =
    let a = c.args in
    let h = c.requires.2 in
    c.conflicts.ensures _ (rw c.mark_where_asked.ensures (asked_occurs a.log.now a.fact (variables a.ready.cells.words.now) mark_words (nat_at a.model.now a.at) (omega arith) c.requires.1))
