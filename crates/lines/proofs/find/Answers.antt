use Rattle.std.proofs.Common.{ℕ, ◌==◌, length, arith, rules}
use Rattle.std.proofs.lemmas.List.Sums.{position_or_len_is}
use Rattle.lines.proofs.find.Goals as goal

pub returns-then-b-byte : goal.returns-then-b-byte
returns-then-b-byte c =
    let found = position_or_len_is (λ (b : ℕ). b == c.args.byte) c.args.text.now c.loop-at.at 0 (search rules) (search rules) (search rules) in
    grind (arith, rules, found)

pub returns : goal.returns
returns c =
    let none = position_or_len_is (λ (b : ℕ). b == c.args.byte) c.args.text.now (length c.args.text.now) 0 (omega arith) (search rules) (search rules) in
    grind (arith, rules, none)
