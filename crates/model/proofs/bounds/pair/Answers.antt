use Rattle.std.proofs.Common.{pos, rules}
use Rattle.std.proofs.lemmas.Int.{to_z-of_z}
use mir.Syntax.{w32}
use mir.Val.{SFits}
use Rattle.meaning.specs.Limits.{most_value}
use Rattle.meaning.specs.Read.{neg}
use Rattle.reading.specs.Back.{word_back}
use Rattle.reading.specs.Over.{goes, gives}
use Rattle.model.proofs.bounds.pair.Goals as goal

pub returns : goal.returns
returns c =
    let f : SFits w32 c.word-low.result = search rules in
    goes c.in_ok-n.ensures (word_back 4 5 (neg most_value) (pos most_value)) _ (gives _ (rw c.word-low.ensures at (simp to_z-of_z at c.word.ensures)))
