use Rattle.std.proofs.Common.{◌≡◌, ◌<◌, ◌*◌, ◌%◌, ◌^◌, arith, length, get_or, false, not, sym, ap, ap₂, ◌∙◌}
use Rattle.std.proofs.Math.Seq.{take_all}
use Rattle.std.specs.Int.Bits.{bit_or}
use Rattle.meaning.specs.Check.{changes, same_words}
use Rattle.model.specs.Planned.{model_of}
use Rattle.row_set.specs.Bits.{packed, row_left, row_put}
use Rattle.row_changes.specs.Rows.{stands, flags_length, flag_is}
use Rattle.row_changes.proofs.changed_rows.Goals as goal
use Rattle.row_changes.proofs.changed_rows.Goals.{then-not-same_words, else-not-same_words}

pub row_words-requires : goal.row_words-requires
row_words-requires c = stands c.args.old.words.now (c.args.old.planned.row_in c.loop-k.k (omega (arith, c.requires)))

pub row_words-requires-in-loop-k : goal.row_words-requires-in-loop-k
row_words-requires-in-loop-k c = stands c.args.new.words.now (c.args.new.planned.row_in c.loop-k.k (omega arith))

pub loop-k-preserved : goal.loop-k-preserved
loop-k-preserved c =
    let o = c.args.old.planned in
    let n = c.args.new.planned in
    let k = c.loop-k.k in
    let flags = changes (model_of c.args.old.words.now).rows (model_of c.args.new.words.now).rows in
    let inside : k < length flags = omega (arith, flags_length o n c.requires) in
    let flag : get_or flags k false ≡ not c.same_words.result = flag_is o n c.requires k (omega arith) ∙ ap not (sym (c.same_words.ensures ∙ ap₂ same_words c.row_words.ensures c.row_words-in-loop-k.ensures)) in
    elim c.if-not-same_words.branch [
      | then-not-same_words w ↦ w.set-is ∙ ap (λ m. bit_or m ((1 * 2 ^ k) % 2 ^ 64)) c.loop-k.invariant ∙ row_put flags k inside (omega (arith, n.few_rows)) (flag ∙ ap not w.if-not-same_words.true)
      | else-not-same_words w ↦ w.set-is ∙ c.loop-k.invariant ∙ row_left flags k inside (flag ∙ ap not w.if-not-same_words.false)
    ]

pub returns : goal.returns
returns c =
    let flags = changes (model_of c.args.old.words.now).rows (model_of c.args.new.words.now).rows in
    c.loop-k.invariant ∙ ap packed (take_all c.loop-k.k flags (omega (arith, flags_length c.args.old.planned c.args.new.planned c.requires)))
