-- The blocks and what is left over are the whole list.
use Rattle.std.proofs.Common.{◌≡◌, sym, ap, ◌∙◌, rules, Bool, List, refl, true, false, ℕ, zero, suc, ◌+◌, ◌*◌, ◌/◌, length, ◌||◌, take, drop, arith}
use Rattle.std.specs.List.{list_any}
use Rattle.std.specs.Simd.{first_chunks}
use Rattle.std.proofs.lemmas.List.{take-append-drop, drop-drop}
use Rattle.std.proofs.lemmas.List.Folds.{list_any-append}
use Rattle.std.proofs.lemmas.Iterator.{YieldsList-from_slice}
use Rattle.std.proofs.lemmas.Iterator.Search.{any_from_yields_List}
use borrow.Author.Tests.{tests}
use Rattle.pairs.specs.Pairs.{is_pair}
use Rattle.pairs.proofs.has.Goals.{After-any}
use Rattle.pairs.proofs.has.Goals as goal

-- a list in blocks of n and what is left over
in_blocks : {A : Type 0} (p : A → Bool) (n k : ℕ) (xs : List A) → list_any p xs ≡ (list_any (list_any p) (first_chunks n k xs) || list_any p (drop (k * n) xs))
in_blocks p n zero xs = let e : 0 * n ≡ 0 = omega arith in rw e
in_blocks p n (suc k) xs =
    let e : n + k * n ≡ suc k * n = omega arith in
    ap (list_any p) (sym (take-append-drop n xs)) ∙ list_any-append p (take n xs) (drop n xs)
    ∙ ap (λ b. list_any p (take n xs) || b) (in_blocks p n k (drop n xs))
    ∙ rw (drop-drop (k * n) n xs, e) (sym (assoc (list_any p (take n xs)) _ _))
  where
    assoc : (a b c : Bool) → ((a || b) || c) ≡ (a || (b || c))
    assoc true b c = refl
    assoc false b c = refl

-- what the blocks say
blocks : (c : After-any) → c.any.result ≡ list_any (list_any (is_pair c.args.name c.args.value)) (first_chunks 8 (length c.args.pairs.now / 8) c.args.pairs.now)
blocks c =
    let f = c.ranges.name in
    let g = c.ranges.value in
    any_from_yields_List (list_any (is_pair c.args.name c.args.value)) _ _ _ c.any.ensures.ran (YieldsList-from_slice (first_chunks 8 (length c.args.pairs.now / 8) c.args.pairs.now) cc) (λ x b q k. search (rules, tests))

pub returns-then-any : goal.returns-then-any
returns-then-any c = rw (in_blocks (is_pair c.args.name c.args.value) 8 (length c.args.pairs.now / 8) c.args.pairs.now, ← blocks (goal.at.returns-then-any c).After-any, c.if-any.true)

pub returns-else-any : goal.returns-else-any
returns-else-any c =
    let f = c.ranges.name in
    let g = c.ranges.value in
    let k = length c.args.pairs.now / 8 in
    let r : c.any-else-any.result ≡ list_any (is_pair c.args.name c.args.value) (drop (k * 8) c.args.pairs.now)
    = any_from_yields_List (is_pair c.args.name c.args.value) _ _ c.any-else-any.result c.any-else-any.ensures.ran (YieldsList-from_slice (drop (k * 8) c.args.pairs.now) cc) (λ x b q k. search (rules, tests)) in
    rw (in_blocks (is_pair c.args.name c.args.value) 8 k c.args.pairs.now, ← blocks (goal.at.returns-else-any c).After-any, c.if-any.false) r
