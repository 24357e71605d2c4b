-- The laws of `BoxSays`: the values left, the least and the largest, and what hints do, in document 01's words.
use Rattle.std.specs.Prelude.{ℕ, zero, suc, ◌<◌, ◌≡◌, refl, Bool, true, false, not, ◌↔◌, length, ℤ}
use Rattle.std.proofs.Common.{arith, sym, ap, subst, ◌∙◌, ⊎_elim}
use mathlib.Core.List.Memᴰ.{not-nil as not-in-nil}
use mathlib.Core.List.{List, [], ◌∷◌, Memᴰ as In}
use Rattle.std.proofs.Math.Option.{Option, none, some}
use Rattle.words.specs.Int.{eq_z, eq_z_eq, eq_z_refl}
use Rattle.words.specs.Lists.{all, is_empty, least, largest, All, also}
use Rattle.words.specs.ListFacts.{clash, tested, le_of, of_le, or_cases, or_left, or_right, or_none_lem, is_empty_lem, all_at, all_by, each_map, in_keep, keep_in, least_in, largest_in, least_below, largest_above}
use Rattle.meaning.specs.Model.{Bounds}
use Rattle.meaning.specs.Log.{Relation, at_most, at_least, equal, not_equal, Atom}
use Rattle.meaning.specs.Box.{meets, opposite, shifted, add_negated, met_by, box_of, left, any_empty}
use Rattle.meaning.specs.Judge.{premises_hold}
use Rattle.meaning.specs.Meets.{Between, bounds_at}
use Rattle.meaning.specs.Faithful.{Stands, Obeys, BoxSays}
use Rattle.meaning.specs.Below.{up_to_lem}
use Rattle.meaning.proofs.Proved.ReadModel.{KnownBounds}
use Rattle.meaning.proofs.Proved.BoxFacts.{MetBy, met_of, of_met, left_is, left_rising, opposite_is}
use Rattle.meaning.proofs.Proved.Narrow.{left_narrowed, emptied_is}

-- ---- atoms
pub stands_of : (r : Relation) (v a : ℤ) → meets r v a ≡ true → Stands r v a
stands_of at_most v a h = le_of v a h
stands_of at_least v a h = le_of a v h
stands_of equal v a h = eq_z_eq v a h
stands_of not_equal v a h = λ e. clash (subst (λ w. eq_z v w ≡ true) e (eq_z_refl v)) (not_at (eq_z v a) h)
  where
    not_at : (b : Bool) → not b ≡ true → b ≡ false
    not_at true e = clash refl (sym e)
    not_at false e = refl

pub of_stands : (r : Relation) (v a : ℤ) → Stands r v a → meets r v a ≡ true
of_stands at_most v a h = of_le h
of_stands at_least v a h = of_le h
of_stands equal v a h = subst (λ w. eq_z v w ≡ true) h (eq_z_refl v)
of_stands not_equal v a h = ⊎_elim (λ e. absurd (h (eq_z_eq v a e))) (λ e. ap not e) (tested (eq_z v a))

-- a value that does not meet an atom meets its opposite, and the other way round
opposed_of : (r : Relation) (v a : ℤ) → Stands (opposite r) v (shifted r a) → Stands r v a → ⊥
opposed_of r v a h k = clash (sym (opposite_is r v a) ∙ of_stands (opposite r) v (shifted r a) h) (ap not (of_stands r v a k))

of_opposed : (r : Relation) (v a : ℤ) → (Stands r v a → ⊥) → Stands (opposite r) v (shifted r a)
of_opposed r v a h =
    stands_of (opposite r) v (shifted r a) (opposite_is r v a ∙ ⊎_elim (λ e. absurd (h (stands_of r v a e))) (λ e. ap not e) (tested (meets r v a)))

obeys_of : (x : ℕ) (v : ℤ) (c : Atom) → MetBy x v c → Obeys x v c
obeys_of x v c h e = stands_of c.relation v c.value (h e)

of_obeys : (x : ℕ) (v : ℤ) (c : Atom) → Obeys x v c → MetBy x v c
of_obeys x v c h e = of_stands c.relation v c.value (h e)

-- ---- the box of a fact
module _ (x : ℕ) (v : ℤ) where
  -- v does not meet the consequent, if there is one
  abbrev Not : Option Atom → Type 0
  Not o = (c : Atom) → o ≡ some c → x ≡ c.variable → Stands c.relation v c.value → ⊥

  negated_of : (o : Option Atom) (ps : List Atom) → All (Obeys x v) (add_negated o ps) → All (Obeys x v) ps × Not o
  negated_of none ps h = (h, λ c e. absurd (let z : ◌≡◌ {A = ℕ} 0 1 = cc in omega arith))
  negated_of (some b) ps (also h hs) = (hs, λ c e. let p : b ≡ c = cc in subst (λ y. x ≡ y.variable → Stands y.relation v y.value → ⊥) p (λ q. opposed_of b.relation v b.value (h q)))

  of_negated : (o : Option Atom) (ps : List Atom) → All (Obeys x v) ps → Not o → All (Obeys x v) (add_negated o ps)
  of_negated none ps h n = h
  of_negated (some b) ps h n = also (λ q. of_opposed b.relation v b.value (n b refl q)) h

-- ---- the least and the largest of a list that has a member
least_there : (vs : List ℤ) {v : ℤ} → In v vs → In (least vs) vs
least_there [] m = absurd (not-in-nil m)
least_there (w ∷ vs) m = least_in w vs

largest_there : (vs : List ℤ) {v : ℤ} → In v vs → In (largest vs) vs
largest_there [] m = absurd (not-in-nil m)
largest_there (w ∷ vs) m = largest_in w vs

-- ---- empty sets
empty_by : (vs : List ℤ) → ((v : ℤ) → In v vs → ⊥) → is_empty vs ≡ true
empty_by [] h = refl
empty_by (v ∷ vs) h = absurd (h v (least_in v vs))

module _ (bs : List Bounds) (box : List Atom) where
  abbrev Barren : ℕ → Type 0
  Barren n = (x : ℕ) × (x < n) × ((v : ℤ) → In v (left bs box x) → ⊥)

  barren_of : (n : ℕ) → any_empty bs box n ≡ true → Barren n
  barren_of zero h = clash h refl
  barren_of (suc n) h =
      ⊎_elim (λ e. (n, omega arith, λ v. is_empty_lem (left bs box n) e)) (λ e. let (x, l, k) = barren_of n e in (x, omega (arith, l), k))
      (or_cases (is_empty (left bs box n)) (any_empty bs box n) h)

  of_barren : (n x : ℕ) → x < n → ((v : ℤ) → In v (left bs box x) → ⊥) → any_empty bs box n ≡ true
  of_barren zero x l h = absurd (omega arith)
  of_barren (suc n) x l h =
      ⊎_elim (λ k. or_right (is_empty (left bs box n)) (of_barren n x k h)) (λ e. or_left (any_empty bs box n) (subst (λ y. is_empty (left bs box y) ≡ true) e (empty_by (left bs box x) h))) (up_to_lem l)

  -- none is empty: each has a value
  pub some_left : (n : ℕ) → any_empty bs box n ≡ false → (x : ℕ) → x < n → is_empty (left bs box x) ≡ false
  some_left zero h x l = absurd (omega arith)
  some_left (suc n) h x l =
      let k = or_none_lem (is_empty (left bs box n)) (any_empty bs box n) h in
      ⊎_elim (λ i. some_left n k.1 x i) (λ e. subst (λ y. is_empty (left bs box y) ≡ false) (sym e) k.0) (up_to_lem l)

  holding : Atom → Bool
  holding p = all (λ v. meets p.relation v p.value) (left bs box p.variable)

  hold_of : (ps : List Atom) → premises_hold bs box ps ≡ true → (p : Atom) → In p ps → (v : ℤ) → In v (left bs box p.variable) → Stands p.relation v p.value
  unfolding holding
  hold_of ps h p m v i = stands_of p.relation v p.value (all_at (λ w. meets p.relation w p.value) (all_at holding h m) i)

  of_hold : (ps : List Atom) → ((p : Atom) → In p ps → (v : ℤ) → In v (left bs box p.variable) → Stands p.relation v p.value) → premises_hold bs box ps ≡ true
  unfolding holding
  of_hold ps h = all_by holding ps (λ p m. all_by (λ w. meets p.relation w p.value) (left bs box p.variable) (λ v i. of_stands p.relation v p.value (h p m v i)))

-- ---- one atom more
module _ (bs : List Bounds) (c : Atom) (box : List Atom) (x : ℕ) (v : ℤ) where
  narrowed_of : In v (left bs (c ∷ box) x) → In v (left bs box x) × Obeys x v c
  narrowed_of m =
      let k = in_keep (λ w. met_by x w c) (left bs box x) (subst (In v) (left_narrowed bs c box x) m) in
      (k.0, obeys_of x v c (met_of x v c k.1))

  of_narrowed : In v (left bs box x) × Obeys x v c → In v (left bs (c ∷ box) x)
  of_narrowed h = subst (In v) (sym (left_narrowed bs c box x)) (keep_in (λ w. met_by x w c) (left bs box x) h.0 (of_met x v c (of_obeys x v c h.1)))

pub box_says : (bs : List Bounds) → All KnownBounds bs → BoxSays bs
box_says bs known = record {
  left_is = is;
  box_is = λ f x l v. (
    λ i. let h = (is (box_of f) x l v).0 i in (h.0, negated_of x v f.consequent f.premises h.1),
    λ h. (is (box_of f) x l v).1 (h.0, of_negated x v f.consequent f.premises h.1.0 h.1.1),
  );
  rises = left_rising bs;
  least_is = λ box x m. (least_there (left bs box x) m, λ w n. least_below (left_rising bs box x) n);
  largest_is = λ box x m. (largest_there (left bs box x) m, λ w n. largest_above (left bs box x) (left_rising bs box x) n);
  empty_is = λ box. (barren_of bs box (length bs), λ h. of_barren bs box (length bs) h.0 h.1 h.2);
  hold_is = λ box ps. (hold_of bs box ps, of_hold bs box ps);
  narrowed_is = λ c box x v. (narrowed_of bs c box x v, of_narrowed bs c box x v);
  emptied_is = λ c box l h. emptied_is bs c box l h;
}
  where
    is : (box : List Atom) (x : ℕ) → x < length bs → (v : ℤ) → In v (left bs box x) ↔ (Between (bounds_at bs x) v × All (Obeys x v) box)
    is box x l v = (
      λ i. let h = (left_is bs box x known l v).0 i in (h.0, each_map (obeys_of x v) h.1),
      λ h. (left_is bs box x known l v).1 (h.0, each_map (of_obeys x v) h.1),
    )
