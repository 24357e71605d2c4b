-- The words from the first hole on are the holes, two and two.
use Rattle.std.proofs.Common.{◌≡◌, ap, ap₂, ◌∙◌, arith, List, ℕ, ◌+◌, ◌-◌, ◌*◌, ◌/◌, ◌≤◌, ℤ, pos, length, take, drop}
use Rattle.std.specs.Simd.{first_chunks}
use Rattle.std.proofs.lemmas.List.{length-take, length-drop}
use Rattle.pairs.specs.Pairs.{among}
use Rattle.domain.specs.Box.{variables, holes, hole_place, hole, is_hole}
use Rattle.domain.specs.Box.Walk.{hole_among}
use Rattle.domain.proofs.Cells.hole_pairs.Goals as goal

module _ (cells : List ℤ) (n k : ℕ) (e : n ≡ variables cells) (f : k ≡ holes cells) (fits : hole_place n k ≤ length cells) where
  abbrev many : ℕ
  many = 2 * n + 2 + 2 * k - (2 * n + 2)

  abbrev words : List ℤ
  words = take many (drop (2 * n + 2) cells)

  taken : (x : ℕ) (v : ℤ) → among (first_chunks 2 (length words / 2) words) (pos x) v ≡ is_hole cells x v
  taken x v =
      let l : length words / 2 ≡ k = simp (length-take, length-drop) (omega arith) in
      let q : 2 * n + 2 ≡ hole_place n 0 = omega arith in
      ap (λ j. among (first_chunks 2 j words) (pos x) v) l
      ∙ ap (λ at. among (first_chunks 2 k (take many (drop at cells))) (pos x) v) q
      ∙ hole_among cells n x v k many (omega arith)
      ∙ ap₂ (λ n k. hole cells n k x v) e f

pub returns-clause-taken : goal.returns-clause-taken
returns-clause-taken c x v =
    ap (λ ps. among ps (pos x) v) c.as_chunks.ensures.front
    ∙ taken c.args.self.words.now c.variables.result c.holes-many.result c.variables.ensures.0 c.holes-many.ensures.0 (omega arith) x v
