-- Tables that agree on what is looked at.
use Rattle.std.specs.Prelude.{◌≡◌, refl, Bool, List, ℕ, zero, suc, ◌+◌, ◌≤◌, ◌<◌, ltb, ℤ, pos, get_or}
use Rattle.std.proofs.Common.{ap, ap₂, ◌∙◌, arith}
use Rattle.std.proofs.Math.Path.{fun_ext}
use Rattle.domain.specs.Sets.{without}
use Rattle.domain.specs.Box.{variables, hole_place, low_of, high_of, hole, is_hole, only_if, values}

pub hole_same : (cells d : List ℤ) (n k x : ℕ) (v : ℤ) → ((i : ℕ) → hole_place n 0 ≤ i → i < hole_place n k → get_or d i (pos 0) ≡ get_or cells i (pos 0)) → hole d n k x v ≡ hole cells n k x v
unfolding hole
hole_same cells d n zero x v h = refl
hole_same cells d n (suc k) x v h =
    rw (h (hole_place n k) (omega arith) (omega arith), h (hole_place n k + 1) (omega arith) (omega arith), hole_same cells d n k x v (λ i l m. h i l (omega arith)))

pub values_same : (cells d : List ℤ) (x : ℕ) → variables d ≡ variables cells → low_of d x ≡ low_of cells x → high_of d x ≡ high_of cells x → ((v : ℤ) → is_hole d x v ≡ is_hole cells x v) → values d x ≡ values cells x
unfolding values
values_same cells d x e l h i =
    let q : is_hole d x ≡ is_hole cells x = fun_ext i in
    ap₂ only_if (ap (ltb x) e) (ap₂ (λ (g : ℤ → Bool) a. without g a (high_of d x)) q l ∙ ap (without (is_hole cells x) (low_of cells x)) h)
