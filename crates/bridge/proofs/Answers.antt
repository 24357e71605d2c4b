-- What a box answers is what the meaning asks of the values left.
use Rattle.std.specs.Prelude.{◌≡◌, Bool, false, ℕ, zero, suc, ◌≤◌, ◌<◌, ℤ, pos, nat_abs, length, ◌≤ℤ◌}
use Rattle.std.proofs.Common.{ap, ap₂, ◌∙◌, ⊎_elim, arith}
use Rattle.std.proofs.Math.Path.{fun_ext}
use mathlib.Core.List.{List, Memᴰ as In}
use Rattle.words.specs.Int.{eq_z}
use Rattle.words.specs.Lists.{all, member, is_empty, least, largest, All}
use Rattle.words.specs.ListFacts.{or_none_lem}
use Rattle.domain.specs.Box.{variables, values, stands}
use Rattle.meaning.specs.Limits.{most_value}
use Rattle.meaning.specs.Model.{Bounds}
use Rattle.meaning.specs.Log.{relation_of, Atom}
use Rattle.meaning.specs.Box.{meets, left, any_empty}
use Rattle.meaning.specs.Below.{up_to_lem}
use Rattle.meaning.proofs.Proved.ReadModel.{KnownBounds}
use Rattle.bridge.proofs.Relations.{stands_meets}
use Rattle.bridge.specs.Lefts.{left_small}
use Rattle.bridge.specs.Agrees.{Agrees}

module _ (cells : List ℤ) (bs : List Bounds) (atoms : List Atom) (agrees : Agrees cells bs atoms) where
  pub values_left : (x : ℕ) → values cells x ≡ left bs atoms x
  values_left x = ap (λ (f : ℕ → List ℤ). f x) agrees.same

  pub least_left : (x : ℕ) → least (values cells x) ≡ least (left bs atoms x)
  least_left x = ap least (values_left x)

  pub largest_left : (x : ℕ) → largest (values cells x) ≡ largest (left bs atoms x)
  largest_left x = ap largest (values_left x)

  pub empty_left : (x : ℕ) → is_empty (values cells x) ≡ is_empty (left bs atoms x)
  empty_left x = ap is_empty (values_left x)

  pub has_left : (x : ℕ) (v : ℤ) → member eq_z v (values cells x) ≡ member eq_z v (left bs atoms x)
  has_left x v = ap (member eq_z v) (values_left x)

  -- a premise, by its words
  pub holds_left : (x : ℕ) (r a : ℤ) → pos 1 ≤ℤ r → r ≤ℤ pos 4 → all (stands r a) (values cells x) ≡ all (λ v. meets (relation_of (nat_abs r)) v a) (left bs atoms x)
  holds_left x r a h k = ap₂ (λ (p : ℤ → Bool) vs. all p vs) (fun_ext (λ v. stands_meets r a v h k)) (values_left x)

  -- ---- the sets of all variables
  none_empty : (n x : ℕ) → any_empty bs atoms n ≡ false → x < n → is_empty (left bs atoms x) ≡ false
  none_empty zero x e h = absurd (omega arith)
  none_empty (suc n) x e h =
      let o = or_none_lem (is_empty (left bs atoms n)) (any_empty bs atoms n) e in
      ⊎_elim (λ k. none_empty n x o.1 k) (λ q. ap (λ y. is_empty (left bs atoms y)) q ∙ o.0) (up_to_lem h)

  -- what a box that is judged has: no set is empty, and its values are those of known bounds
  pub all_some : any_empty bs atoms (length bs) ≡ false → (x : ℕ) → x < variables cells → is_empty (values cells x) ≡ false
  all_some e x h = empty_left x ∙ none_empty (length bs) x e (omega (arith, agrees.counted))

  pub all_small : All KnownBounds bs → (x : ℕ) (v : ℤ) → In v (values cells x) → nat_abs v ≤ most_value
  all_small known x v i = left_small bs atoms x known (rw (values_left x) at i)
