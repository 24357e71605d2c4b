-- The values found and those from `from` on are all the values.
use Rattle.std.proofs.Common.{arith, sym, subst, ◌∙◌, ◌≡◌, List, ℕ, ℤ, pos, ◌+ℤ◌, SFits, w32, to_z}
use Rattle.std.specs.Prelude.{Option, Some, None}
use Rattle.std.proofs.lemmas.Int.{to_z-of_z}
use Rattle.std.proofs.lemmas.List.{length-map}
use Rattle.words.specs.declared.VarNo.{VarNo}
use Rattle.words.specs.Int.{abs_fits}
use Rattle.meaning.specs.Rule.{union}
use Rattle.domain.specs.Box.{values, values_rising}
use Rattle.all_different.specs.Chosen.{numbers}
use Rattle.all_different.specs.Soonest.{Soonest, soonest, soonest_of}
use Rattle.all_different.specs.Crowded.{soonest_small, after_fits, count_start, count_next, count_used_up}
use Rattle.all_different.proofs.crowded.Goals as goal
use Rattle.all_different.proofs.crowded.Goals.{In-Some}

pub loop-init : goal.loop-init
loop-init c = count_start (values c.args.ready.cells.words.now) (numbers c.args.xs.now) c.args.ready.ready.small

-- what the next value is, as the definitions say it
next_is : (cells : List ℤ) (xs : List ℕ) (from : ℤ) {p o : Option ℤ} → p ≡ soonest_of from (values cells) None xs → p ≡ o → Soonest from (union (values cells) xs) o
next_is cells xs from e f = subst (Soonest from (union (values cells) xs)) (sym e ∙ f) (soonest from (values cells) (values_rising cells) xs)

pub returns-in_default : goal.returns-in_default
returns-in_default c =
    let a = c.args in
    let from = to_z w32 c.loop.from-bits in
    let s = next_is a.ready.cells.words.now (numbers a.xs.now) from c.next_value.ensures c.in_default.is in
    sym (count_used_up (values a.ready.cells.words.now) (numbers a.xs.now) {from = from} c.loop.index s c.loop.invariant (rw (length-map a.xs.now (λ (x : VarNo). x.0)) (omega arith)))

-- the value that was found
found_is : (c : In-Some) → Soonest (to_z w32 c.loop.from-bits) (union (values c.args.ready.cells.words.now) (numbers c.args.xs.now)) (Some c.in-Some.v)
found_is c = next_is c.args.ready.cells.words.now (numbers c.args.xs.now) (to_z w32 c.loop.from-bits) c.next_value.ensures c.in-Some.is

-- it fits a word, and so does the value after it
both_fit : (c : In-Some) → SFits w32 c.in-Some.v × SFits w32 (c.in-Some.v +ℤ pos 1)
both_fit c =
    let v = c.in-Some.v in
    let h = soonest_small (values c.args.ready.cells.words.now) c.args.ready.ready.small (numbers c.args.xs.now) (found_is c) in
    (abs_fits v (omega arith), after_fits v h)

pub overflow_add-from : goal.overflow_add-from
overflow_add-from c = let f = (both_fit c).0 in simp to_z-of_z (both_fit c).1

pub loop-preserved : goal.loop-preserved
loop-preserved c =
    let f = (both_fit c).0 in
    let g = (both_fit c).1 in
    simp to_z-of_z (count_next (values c.args.ready.cells.words.now) (numbers c.args.xs.now) c.loop.index (found_is c) c.loop.invariant)
