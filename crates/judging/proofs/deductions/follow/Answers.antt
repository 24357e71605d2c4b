use Rattle.std.proofs.Common.{◌≡◌, ℕ, suc, ◌+◌, ◌-◌, ◌<◌, Bool, ◌&&◌, List, ℤ, map, length, get_or, true, sym, ◌∙◌, arith}
use Rattle.meaning.specs.Check.{fact_at}
use Rattle.domain.specs.Box.{variables}
use Rattle.reading.specs.At.{nat_at, Names}
use Rattle.steps.specs.declared.FactPlace.{FactPlace}
use Rattle.steps.specs.Facts.{FactIn, made_fact, made_place}
use Rattle.boxes.specs.Boxes.{Boxed, boxed_narrowed, narrowed_at}
use Rattle.boxes.specs.InTurn.{rest, rest_more, rest_none}
use Rattle.judging.specs.Cited.{Cited}
use Rattle.judging.specs.Conclusions.{cited_is}
use Rattle.judging.specs.Following.{and_holds, holds_each, Cites, used_up, not_held, is_false, emptied, narrowed_on}
use Rattle.judging.proofs.deductions.follow.Goals as goal
use Rattle.judging.proofs.deductions.follow.Goals.{After-cited-f, After-loop-j, After-holds_at, After-narrow_atom}

cites : {v : ℕ} {log : List ℤ} {places : List ℕ} {p n : ℕ} {f : FactPlace} → Cited v log places (length places) → Names (length places) log p → n ≡ nat_at log p → f ≡ made_place log (get_or places n 0)
    → Cites v log (fact_at (map (made_fact log) places)) p f
cites {log = log} {places = places} {n = n} c h q e =
    let l : n < length places = rw q h.known in
    record { known = rw e (c.made n l).parts; is = rw (e, ← q) (cited_is (made_fact log) places n l) }

-- it has a consequent
one : {v : ℕ} {log : List ℤ} {f : FactPlace} → FactIn v log f → (f.consequent.many ≡ 0 → ⊥) → f.consequent.many ≡ 1
one i n = omega (arith, i.one)

-- the box after its consequent
narrower : {v k : ℕ} {log cells after : List ℤ} {f : FactPlace} → Boxed v k cells → 0 < k → FactIn v log f → f.consequent.many ≡ 1 → after ≡ narrowed_at log f.consequent.from cells → Boxed v (k - 1) after
narrower {v} {k} {cells = cells} b h i z e =
    let m : k ≡ suc (k - 1) = omega arith in
    let b' : Boxed v (suc (k - 1)) cells = rw m at b in
    rw e (boxed_narrowed cells _ _ _ b' (i.consequence z).named.known)

-- the fact that the hint cites
known : (c : After-cited-f) → Cites (variables c.args.cells.now) c.args.log.now (fact_at (map (made_fact c.args.log.now) c.args.places.now)) (c.args.hints.from + c.hint.i) c.cited-f.result
known c = cites c.requires.0 (c.requires.1.named c.hint.i c.if-i-many.false) c.number_at-n.ensures c.cited-f.ensures

-- its premises hold if this one does and those behind it
scanned : (c : After-holds_at) {b : Bool} → c.holds_at.result ≡ b
    → holds_each c.args.log.now c.cited-f.result.premises.many c.cited-f.result.premises.from c.hint.cells ≡ (b && rest (and_holds c.args.log.now c.hint.cells) c.cited-f.result.premises.many c.cited-f.result.premises.from true (c.loop-j.j + 1))
scanned c e = let f = c.cited-f.result in c.loop-j.invariant ∙ rest_more (and_holds c.args.log.now c.hint.cells) f.premises.many f.premises.from true c.loop-j.j c.loop-j-test.true ∙ rw (sym c.holds_at.ensures ∙ e)

-- all do
held : (c : After-loop-j) → holds_each c.args.log.now c.cited-f.result.premises.many c.cited-f.result.premises.from c.hint.cells ≡ true
held c = let f = c.cited-f.result in c.loop-j.invariant ∙ rest_none (and_holds c.args.log.now c.hint.cells) f.premises.many f.premises.from true c.loop-j.j c.loop-j-test.false

-- the box after the hint's consequent
narrowed : (c : After-narrow_atom) → FactIn (variables c.args.cells.now) c.args.log.now c.cited-f.result → Boxed (variables c.args.cells.now) (c.args.hints.many - c.hint.i - 1) c.narrow_atom.new.cells
narrowed c i = narrower c.hint.invariant.boxed (omega arith) i (one i c.if-f-eq0.false) c.narrow_atom.ensures

pub loop-j-preserved : goal.loop-j-preserved
loop-j-preserved c = scanned (goal.at.loop-j-preserved c).After-holds_at c.if-not-holds_at.false

pub invariant_of-after : goal.invariant_of-after
invariant_of-after c =
    let at = goal.at.invariant_of-after c in
    record { formed = (narrowed at.After-narrow_atom (known at.After-cited-f).known).formed }

pub is_empty_at-requires : goal.is_empty_at-requires
is_empty_at-requires c =
    let at = goal.at.is_empty_at-requires c in
    let k = (known at.After-cited-f).known in
    rw (narrowed at.After-narrow_atom k).counted (k.consequence (one k c.if-f-eq0.false))

pub hint-preserved : goal.hint-preserved
hint-preserved c =
    let a = c.args in
    let at = goal.at.hint-preserved c in
    let k = known at.After-cited-f in
    let z = one k.known c.if-f-eq0.false in
    let m : a.hints.many - (c.hint.i + 1) ≡ a.hints.many - c.hint.i - 1 = omega arith in
    let q = c.narrow_atom.ensures in
    record {
      long = c.narrow_atom.auto.cells ∙ c.hint.invariant.long;
      boxed = rw m (narrowed at.After-narrow_atom k.known);
      sofar = rw q (narrowed_on c.hint.invariant.sofar c.if-i-many.false k (held at.After-loop-j) z (rw q at (sym c.is_empty_at.ensures ∙ c.if-is_empty_at.false)));
    }

pub returns-then-i-many : goal.returns-then-i-many
returns-then-i-many c = rw (c.at.ensures.0, c.at.ensures.1) (used_up c.hint.invariant.sofar c.if-i-many.true)

pub returns-then-not-holds_at : goal.returns-then-not-holds_at
returns-then-not-holds_at c =
    let at = goal.at.returns-then-not-holds_at c in
    let e = c.at-then-not-holds_at.ensures in
    rw (e.0, e.1) (not_held c.hint.invariant.sofar c.if-i-many.false (known at.After-cited-f) (scanned at.After-holds_at c.if-not-holds_at.true))

pub returns-then-f-eq0 : goal.returns-then-f-eq0
returns-then-f-eq0 c =
    let at = goal.at.returns-then-f-eq0 c in
    is_false c.hint.invariant.sofar c.if-i-many.false (known at.After-cited-f) (held at.After-loop-j) c.if-f-eq0.true

pub returns-then-is_empty_at : goal.returns-then-is_empty_at
returns-then-is_empty_at c =
    let at = goal.at.returns-then-is_empty_at c in
    let k = known at.After-cited-f in
    emptied c.hint.invariant.sofar c.if-i-many.false k (held at.After-loop-j) (one k.known c.if-f-eq0.false) (rw c.narrow_atom.ensures at (sym c.is_empty_at.ensures ∙ c.if-is_empty_at.true))
