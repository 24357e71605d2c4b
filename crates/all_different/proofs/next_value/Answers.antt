use Rattle.std.proofs.Common.{arith, ◌<◌, length}
use Rattle.std.proofs.Math.ListN.{get_or-map}
use Rattle.std.proofs.lemmas.List.{length-map}
use Rattle.words.specs.declared.VarNo.{VarNo}
use Rattle.words.specs.ListFacts.{each_at_lem}
use Rattle.all_different.specs.Chosen.{numbers}
use Rattle.all_different.proofs.next_value.Goals as goal

pub next_from-requires : goal.next_from-requires
next_from-requires c =
    let xs = c.args.xs.now in
    let i = c.loop-x.x-index in
    let here : i < length (numbers xs) = rw (length-map xs (λ (x : VarNo). x.0)) (omega arith) in
    rw (← get_or-map (λ (x : VarNo). x.0) xs i (record { 0 = 0 })) (each_at_lem 0 i here c.requires)
