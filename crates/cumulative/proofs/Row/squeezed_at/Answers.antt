-- s is a start left, and all before it are blocked.
use Rattle.std.proofs.Common.{rules, ◌+◌, ◌*◌, ◌<◌, ◌≡◌, ◌∙◌, ℕ, List, ℤ, length, get_or, pos, ◌-ℤ◌, ◌≤ℤ◌, ◌<ℤ◌, arith, sym, SFits, to_z}
use Rattle.std.specs.Int.{w32}
use Rattle.std.proofs.lemmas.Int.{to_z-of_z}
use Rattle.words.specs.Int.{zz, fit}
use Rattle.reading.specs.At.{nat_at}
use Rattle.domain.specs.Sets.{first_from}
use Rattle.domain.specs.Box.{values}
use Rattle.sure_parts.specs.declared.Part.{Part}
use Rattle.sure_parts.specs.Table.{from_of, until_of}
use Rattle.sure_parts.specs.Sizes.{small_fits}
use Rattle.cumulative.specs.Steps.{leap}
use Rattle.cumulative.specs.Row.{Prepared}
use Rattle.cumulative.proofs.RowFacts.{Trying, try_start, try_small, try_free, try_beyond, try_none, try_on}
use Rattle.cumulative.proofs.Row.squeezed_at.Goals as goal
use Rattle.cumulative.proofs.Row.squeezed_at.Goals.{After-leap_from-u, After-next_from, In-Some}

-- how long activity i lasts, where its words are
abbrev lasts : List ℤ → ℕ → ℕ → ℤ
lasts m p i = get_or m (p + 2 + i * 3 + 1) (pos 0)

-- where the leap from s goes
abbrev to : List ℤ → ℕ → List Part → List ℤ → ℕ → ℤ → ℤ
to m p ps peaks i s = leap ps peaks (nat_at m p) (get_or m (p + 1) (pos 0)) i s (lasts m p i)

-- the least start left is a word
least_fits : (cells m : List ℤ) (p : ℕ) (ps : List Part) (peaks : List ℤ) (r : Prepared cells m p ps peaks) (i : ℕ) (here : i < nat_at m p) → SFits w32 (until_of ps i -ℤ lasts m p i)
least_fits cells m p ps peaks r i here =
    let t = try_small cells m p ps peaks r i here _ (try_start cells m p ps peaks r i here) in
    small_fits _ (omega (arith, zz))

pub overflow_sub-s : goal.overflow_sub-s
overflow_sub-s c =
    let f : SFits w32 (until_of c.args.self.now.parts.now c.args.i) = search rules in
    let g : SFits w32 (lasts c.args.model.now c.args.p c.args.i) = search rules in
    simp to_z-of_z (least_fits _ _ _ _ _ c.requires.1 _ c.requires.0)

pub loop-s-init : goal.loop-s-init
loop-s-init c =
    let f : SFits w32 (until_of c.args.self.now.parts.now c.args.i) = search rules in
    let g : SFits w32 (lasts c.args.model.now c.args.p c.args.i) = search rules in
    let h = least_fits _ _ _ _ _ c.requires.1 _ c.requires.0 in
    simp to_z-of_z (try_start _ _ _ _ _ c.requires.1 _ c.requires.0)

pub leap_from-u-requires : goal.leap_from-u-requires
leap_from-u-requires c =
    let r = c.requires.1 in
    let g : SFits w32 (lasts c.args.model.now c.args.p c.args.i) = search rules in
    let long = r.filled.long in
    let few : c.args.i < length c.args.self.now.parts.now = omega (arith, c.requires.0) in
    simp to_z-of_z (few, try_small _ _ _ _ _ r _ c.requires.0 _ c.loop-s.invariant)

-- where the leap goes, as the callee says it
leaps : (c : After-leap_from-u) → c.leap_from-u.result ≡ to c.args.model.now c.args.p c.args.self.now.parts.now c.args.self.now.peaks.now c.args.i (to_z w32 c.loop-s.s-bits)
leaps c =
    let m = c.args.model.now in
    let f : SFits w32 c.args.self.now.capacity = search rules in
    let g : SFits w32 (lasts m c.args.p c.args.i) = search rules in
    rw (← c.requires.1.filled.long, ← c.requires.2) (simp to_z-of_z at c.leap_from-u.ensures)

pub returns-then-u-s : goal.returns-then-u-s
returns-then-u-s c =
    let m = fit w32 c.leap_from-u.result c.leap_from-u.type_inv in
    let h : c.leap_from-u.result ≤ℤ to_z w32 c.loop-s.s-bits = omega (arith, zz, c.if-u-s.true) in
    let e = leaps (goal.at.returns-then-u-s c).After-leap_from-u in
    sym (try_free _ _ _ _ _ c.requires.1 _ c.requires.0 _ c.loop-s.invariant (rw e at h))

pub returns-then-last-u : goal.returns-then-last-u
returns-then-last-u c =
    let f : SFits w32 (from_of c.args.self.now.parts.now c.args.i) = search rules in
    let m = fit w32 c.leap_from-u.result c.leap_from-u.type_inv in
    let h : to_z w32 c.loop-s.s-bits <ℤ c.leap_from-u.result = omega (arith, zz, c.if-u-s.false) in
    let l : from_of c.args.self.now.parts.now c.args.i <ℤ c.leap_from-u.result = omega (arith, zz, c.if-last-u.true) in
    let e = leaps (goal.at.returns-then-last-u c).After-leap_from-u in
    sym (try_beyond _ _ _ _ _ c.requires.1 _ c.requires.0 _ c.loop-s.invariant (rw e at h) (rw e at l))

-- the next start left past the leap
told : (c : After-next_from) (u : ℤ) → c.leap_from-u.result ≡ u → c.next_from.result ≡ first_from u (values c.args.cells.words.now (nat_at c.args.model.now (c.args.p + 2 + c.args.i * 3)))
told c u e =
    let m = fit w32 c.leap_from-u.result c.leap_from-u.type_inv in
    rw (← e, ← c.variable_at-x.ensures) (simp to_z-of_z at c.next_from.ensures)

pub returns-in_default : goal.returns-in_default
returns-in_default c =
    let m = fit w32 c.leap_from-u.result c.leap_from-u.type_inv in
    let h : to_z w32 c.loop-s.s-bits <ℤ c.leap_from-u.result = omega (arith, zz, c.if-u-s.false) in
    let at = goal.at.returns-in_default c in
    let e = leaps at.After-leap_from-u in
    let t = told at.After-next_from _ e in
    sym (try_none _ _ _ _ _ c.requires.1 _ c.requires.0 _ c.loop-s.invariant (rw e at h) (sym t ∙ c.in_default.is))

-- and the search at that start, which is a word
next_try : (c : In-Some) → c.leap_from-u.result ≡ to c.args.model.now c.args.p c.args.self.now.parts.now c.args.self.now.peaks.now c.args.i (to_z w32 c.loop-s.s-bits) → c.next_from.result ≡ first_from (to c.args.model.now c.args.p c.args.self.now.parts.now c.args.self.now.peaks.now c.args.i (to_z w32 c.loop-s.s-bits)) (values c.args.cells.words.now (nat_at c.args.model.now (c.args.p + 2 + c.args.i * 3))) → Trying c.args.cells.words.now c.args.model.now c.args.p c.args.self.now.parts.now c.args.self.now.peaks.now c.requires.1 c.args.i c.requires.0 c.in-Some.v × (to_z w32 c.loop-s.s-bits <ℤ c.in-Some.v) × (c.in-Some.v ≤ℤ from_of c.args.self.now.parts.now c.args.i) × SFits w32 c.in-Some.v
next_try c e t =
    let m = fit w32 c.leap_from-u.result c.leap_from-u.type_inv in
    let h : to_z w32 c.loop-s.s-bits <ℤ c.leap_from-u.result = omega (arith, zz, c.if-u-s.false) in
    let n = try_on _ _ _ _ _ c.requires.1 _ c.requires.0 _ c.loop-s.invariant (rw e at h) c.in-Some.v (sym t ∙ c.in-Some.is) in
    let b = try_small _ _ _ _ _ c.requires.1 _ c.requires.0 _ n.0 in
    (n.0, n.1, n.2, small_fits c.in-Some.v (omega (arith, zz)))

pub loop-s-smaller : goal.loop-s-smaller
loop-s-smaller c =
    let at = goal.at.loop-s-smaller c in
    let e = leaps at.After-leap_from-u in
    let n = next_try at.In-Some e (told at.After-next_from _ e) in
    let f : SFits w32 (from_of c.args.self.now.parts.now c.args.i) = search rules in
    let v = n.3 in
    let p = n.1 in
    let q = n.2 in
    omega (arith, zz)

pub loop-s-preserved : goal.loop-s-preserved
loop-s-preserved c =
    let at = goal.at.loop-s-preserved c in
    let e = leaps at.After-leap_from-u in
    let n = next_try at.In-Some e (told at.After-next_from _ e) in
    let v = n.3 in
    simp to_z-of_z n.0
