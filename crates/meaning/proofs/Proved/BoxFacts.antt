-- The box, over any number of variables: the values left are exactly those within the bounds that meet the atoms; they rise; an assignment that meets the atoms has its values among them.
use Rattle.std.specs.Prelude.{ℕ, zero, suc, ◌<◌, ◌≤◌, ◌≡◌, refl, Bool, true, false, not, ◌↔◌, eqb, length, ℤ, pos, nat_abs, ◌+ℤ◌, ◌-ℤ◌}
use Rattle.std.proofs.Common.{arith, sym, ap, ◌∙◌, ⊎_elim, eqb-true, eq-eqb}
use mathlib.Core.List.Memᴰ.{not-nil as not-in-nil}
use mathlib.Core.List.{List, [], ◌∷◌, Memᴰ as In}
use Rattle.std.specs.Int.Signed.{le_z}
use Rattle.words.specs.Int.{zz, sum, diff, abs_is, one_side, eq_z}
use Rattle.words.specs.Lists.{all, is_empty, All, also}
use Rattle.words.specs.ListFacts.{tested, clash, or_cases, or_left, or_right, not_not, is_empty_lem, all_at, all_by, each_in, each_of, keep_in, in_keep, span_in, in_span, Rising, span_rising, keep_rising}
use Rattle.meaning.specs.Model.{Bounds}
use Rattle.meaning.specs.Log.{Relation, at_most, at_least, equal, not_equal, Atom}
use Rattle.meaning.specs.Box.{meets, opposite, shifted, negated, met_by, declared, declared_at, left, any_empty}
use Rattle.meaning.specs.Meets.{Assignment, Between, bounds_at, Within}
use Rattle.meaning.proofs.Proved.ReadModel.{KnownBounds}

-- ---- one variable's declared values
abbrev size : Bounds → ℕ
size b = suc (nat_abs (b.high -ℤ b.low))

pub declared_in : (b : Bounds) {v : ℤ} → Between b v → In v (declared b)
declared_in b h = span_in b.low (size b) h.0 (omega (arith, zz, abs_is (b.high -ℤ b.low), diff b.high b.low))

pub in_declared : (b : Bounds) {v : ℤ} → KnownBounds b → In v (declared b) → Between b v
in_declared b o i =
    let h = in_span b.low (size b) i in
    let l : le_z b.low b.high ≡ true = o.low_high in
    (h.0, omega (arith, zz, abs_is (b.high -ℤ b.low), diff b.high b.low, one_side (b.high -ℤ b.low)))

-- ---- by the variable's number
pub declared_at_in : (bs : List Bounds) (x : ℕ) {v : ℤ} → x < length bs → Between (bounds_at bs x) v → In v (declared_at bs x)
declared_at_in [] x h b = absurd (omega arith)
declared_at_in (b ∷ bs) zero h k = declared_in b k
declared_at_in (b ∷ bs) (suc x) h k = declared_at_in bs x (omega arith) k

pub in_declared_at : (bs : List Bounds) (x : ℕ) {v : ℤ} → All KnownBounds bs → In v (declared_at bs x) → Between (bounds_at bs x) v
in_declared_at [] x o i = absurd (not-in-nil i)
in_declared_at (b ∷ bs) zero (also o os) i = in_declared b o i
in_declared_at (b ∷ bs) (suc x) (also o os) i = in_declared_at bs x os i

-- ---- the atoms that speak of x
abbrev pub MetBy : ℕ → ℤ → Atom → Type 0
MetBy x v c = x ≡ c.variable → meets c.relation v c.value ≡ true

pub met_of : (x : ℕ) (v : ℤ) (c : Atom) → met_by x v c ≡ true → MetBy x v c
met_of x v c h e = ⊎_elim (λ n. clash (eq-eqb x c.variable e) (sym (not_not (eqb x c.variable)) ∙ ap not n)) (λ m. m) (or_cases (not (eqb x c.variable)) (meets c.relation v c.value) h)

pub of_met : (x : ℕ) (v : ℤ) (c : Atom) → MetBy x v c → met_by x v c ≡ true
of_met x v c m = ⊎_elim (λ y. or_right (not (eqb x c.variable)) (m (eqb-true x c.variable y))) (λ n. or_left (meets c.relation v c.value) (ap not n)) (tested (eqb x c.variable))

-- ---- the values left are exactly those within the bounds that meet the atoms, and they rise
module _ (bs : List Bounds) (atoms : List Atom) (x : ℕ) where
  pub left_of : (v : ℤ) → x < length bs → Between (bounds_at bs x) v → All (MetBy x v) atoms → In v (left bs atoms x)
  left_of v h b ms = keep_in (λ w. all (met_by x w) atoms) (declared_at bs x) (declared_at_in bs x h b) (all_by (met_by x v) atoms (λ c i. of_met x v c (each_in ms i)))

  pub left_is : All KnownBounds bs → x < length bs → (v : ℤ) → In v (left bs atoms x) ↔ (Between (bounds_at bs x) v × All (MetBy x v) atoms)
  left_is o h v = (
    λ i. let k = in_keep (λ w. all (met_by x w) atoms) (declared_at bs x) i in (in_declared_at bs x o k.0, each_of atoms (λ c m. met_of x v c (all_at (met_by x v) k.1 m))),
    λ k. left_of v h k.0 k.1,
  )

declared_at_rising : (bs : List Bounds) (x : ℕ) → Rising (declared_at bs x)
declared_at_rising [] x = tt
declared_at_rising (b ∷ bs) zero = span_rising b.low (size b)
declared_at_rising (b ∷ bs) (suc x) = declared_at_rising bs x

pub left_rising : (bs : List Bounds) (atoms : List Atom) (x : ℕ) → Rising (left bs atoms x)
left_rising bs atoms x = keep_rising (λ v. all (met_by x v) atoms) (declared_at bs x) (declared_at_rising bs x)

-- ---- an assignment within the bounds that meets the atoms: its values are left, so no set is empty
abbrev pub Met : Assignment → Atom → Type 0
Met a c = meets c.relation (a c.variable) c.value ≡ true

module _ (a : Assignment) (bs : List Bounds) (within : Within a bs) (atoms : List Atom) (met : All (Met a) atoms) where
  pub left_in : (x : ℕ) → x < length bs → In (a x) (left bs atoms x)
  left_in x h = left_of bs atoms x (a x) h (within x h) (each_of atoms (λ c i e. rw e (each_in met i)))

  pub not_empty : (x : ℕ) → x < length bs → is_empty (left bs atoms x) ≡ true → ⊥
  not_empty x h e = is_empty_lem (left bs atoms x) e (left_in x h)

  pub none_empty : (n : ℕ) → n ≤ length bs → any_empty bs atoms n ≡ true → ⊥
  none_empty zero h e = clash e refl
  none_empty (suc n) h e = ⊎_elim (λ y. not_empty n h y) (λ k. none_empty n (omega arith) k) (or_cases (is_empty (left bs atoms n)) (any_empty bs atoms n) e)

-- ---- the negated atom is the negation
pub opposite_is : (r : Relation) (v w : ℤ) → meets (opposite r) v (shifted r w) ≡ not (meets r v w)
opposite_is at_most v w = go (le_z v w) refl
  where
    go : (b : Bool) → le_z v w ≡ b → le_z (w +ℤ pos 1) v ≡ not b
    go true e = omega (arith, zz, sum w (pos 1))
    go false e = omega (arith, zz, sum w (pos 1))
opposite_is at_least v w = go (le_z w v) refl
  where
    go : (b : Bool) → le_z w v ≡ b → le_z v (w -ℤ pos 1) ≡ not b
    go true e = omega (arith, zz, diff w (pos 1))
    go false e = omega (arith, zz, diff w (pos 1))
opposite_is equal v w = refl
opposite_is not_equal v w = sym (not_not (eq_z v w))

pub negated_met : (a : Assignment) (c : Atom) → meets c.relation (a c.variable) c.value ≡ false → Met a (negated c)
negated_met a c n = opposite_is c.relation (a c.variable) c.value ∙ ap not n
