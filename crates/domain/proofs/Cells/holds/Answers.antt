-- The ends decide, where they do not cross.
use Rattle.std.proofs.Common.{rules, ◌≡◌, sym, ap, ◌∙◌, ℤ, pos, w32, SFits, to_z-of_z, option_map}
use Rattle.std.specs.Prelude.{refl}
use Rattle.words.specs.Int.{eq32_t, eqb_bits}
use Rattle.domain.specs.Box.Answers.{holds_at_most, holds_at_least, holds_equal, holds_not_equal}
use Rattle.domain.specs.Relations.{same_relation, last_relation}
use Rattle.domain.specs.declared.relation.Relation.TheVariants.{AtMost, AtLeast, Equal}
use Rattle.domain.proofs.Cells.holds.Goals as goal

pub returns-then-eq : goal.returns-then-eq
returns-then-eq c =
    let f = c.ranges.value in
    let g : SFits w32 c.in-Some.high = search rules in
    let h = sym c.ends.ensures.last ∙ ap (option_map (λ (e : ℤ × ℤ). e.1)) c.in-Some.is in
    let q = same_relation c.args.relation AtMost (sym c.eq.ensures ∙ c.if-eq.true) in
    simp to_z-of_z (rw (q, holds_at_most c.args.self.words.now c.args.x.0 (pos 1) c.args.value refl, h))

pub returns-then-eq-2 : goal.returns-then-eq-2
returns-then-eq-2 c =
    let f = c.ranges.value in
    let g : SFits w32 c.in-Some-ends.low = search rules in
    let h = sym c.ends-then-eq-2.ensures.first ∙ ap (option_map (λ (e : ℤ × ℤ). e.0)) c.in-Some-ends.is in
    let q = same_relation c.args.relation AtLeast (sym c.eq-2.ensures ∙ c.if-eq-2.true) in
    simp to_z-of_z (rw (q, holds_at_least c.args.self.words.now c.args.x.0 (pos 2) c.args.value refl, h))

pub returns-then-low-value : goal.returns-then-low-value
returns-then-low-value c =
    let f = c.ranges.value in
    let g : SFits w32 c.in-Some-ends-2.low = search rules in
    let g' : SFits w32 c.in-Some-ends-2.high = search rules in
    let h = sym c.ends-then-eq-3.ensures.first ∙ ap (option_map (λ (e : ℤ × ℤ). e.0)) c.in-Some-ends-2.is in
    let h' = sym c.ends-then-eq-3.ensures.last ∙ ap (option_map (λ (e : ℤ × ℤ). e.1)) c.in-Some-ends-2.is in
    let q = same_relation c.args.relation Equal (sym c.eq-3.ensures ∙ c.if-eq-3.true) in
    rw (q, holds_equal c.args.self.words.now c.args.x.0 (pos 3) c.args.value refl, h, h', eq32_t c.in-Some-ends-2.low c.args.value g f c.if-low-value.true) (eqb_bits g' f)

pub returns : goal.returns
returns c =
    let f = c.ranges.value in
    let q = last_relation c.args.relation (sym c.eq.ensures ∙ c.if-eq.false) (sym c.eq-2.ensures ∙ c.if-eq-2.false) (sym c.eq-3.ensures ∙ c.if-eq-3.false) in
    rw (q, simp to_z-of_z at c.has.ensures) (sym (holds_not_equal c.args.self.words.now c.args.x.0 (pos 4) c.args.value refl refl refl))
