-- A relation by its number, as a log writes it and as `domain` takes it.
use Rattle.std.specs.Prelude.{◌≡◌, refl, ℕ, zero, suc, ℤ, pos, negsuc, nat_abs, ◌≤ℤ◌}
use Rattle.std.proofs.Common.{sym, ap, ◌∙◌, arith}
use Rattle.words.specs.Int.{zz}
use Rattle.domain.specs.Box.{stands}
use Rattle.narrowing.specs.Narrow as D
use Rattle.meaning.specs.Log.{Relation, at_most, at_least, equal, not_equal, relation_of}
use Rattle.meaning.specs.Box.{meets, opposite, shifted, negated}
use Rattle.bridge.specs.Relations.{atom_of, number}

pub relation_back : (r : Relation) → relation_of (nat_abs (number r)) ≡ r
relation_back at_most = refl
relation_back at_least = refl
relation_back equal = refl
relation_back not_equal = refl

pub number_back : (r : ℤ) → pos 1 ≤ℤ r → r ≤ℤ pos 4 → number (relation_of (nat_abs r)) ≡ r
number_back (pos zero) h k = absurd (omega (arith, zz))
number_back (pos (suc zero)) h k = refl
number_back (pos (suc (suc zero))) h k = refl
number_back (pos (suc (suc (suc zero)))) h k = refl
number_back (pos (suc (suc (suc (suc zero))))) h k = refl
number_back (pos (suc (suc (suc (suc (suc n)))))) h k = absurd (omega (arith, zz))
number_back (negsuc n) h k = absurd (omega (arith, zz))

-- ---- what a relation's number says of two values
pub stands_number : (r : Relation) (a v : ℤ) → stands (number r) a v ≡ meets r v a
stands_number at_most a v = refl
stands_number at_least a v = refl
stands_number equal a v = refl
stands_number not_equal a v = refl

pub stands_meets : (r a v : ℤ) → pos 1 ≤ℤ r → r ≤ℤ pos 4 → stands r a v ≡ meets (relation_of (nat_abs r)) v a
stands_meets r a v h k = ap (λ n. stands n a v) (sym (number_back r h k)) ∙ stands_number (relation_of (nat_abs r)) a v

-- ---- the negated atom
opposite_number : (r : Relation) → relation_of (nat_abs (D.opposite (number r))) ≡ opposite r
opposite_number at_most = refl
opposite_number at_least = refl
opposite_number equal = refl
opposite_number not_equal = refl

shifted_number : (r : Relation) (a : ℤ) → D.shifted (number r) a ≡ shifted r a
shifted_number at_most a = refl
shifted_number at_least a = refl
shifted_number equal a = refl
shifted_number not_equal a = refl

pub negated_atom : (x : ℕ) (r a : ℤ) → pos 1 ≤ℤ r → r ≤ℤ pos 4 → atom_of x (D.opposite r) (D.shifted r a) ≡ negated (atom_of x r a)
negated_atom x r a h k = go (relation_of (nat_abs r)) (number_back r h k)
  where
    go : (s : Relation) → number s ≡ r → atom_of x (D.opposite r) (D.shifted r a) ≡ record { variable = x; relation = opposite s; value = shifted s a }
    go s e = rw (← e, opposite_number s, shifted_number s a)

pub opposite_in : (r : ℤ) → pos 1 ≤ℤ r → r ≤ℤ pos 4 → (pos 1 ≤ℤ D.opposite r) × (D.opposite r ≤ℤ pos 4)
opposite_in r h k = go (relation_of (nat_abs r)) (number_back r h k)
  where
    go : (s : Relation) → number s ≡ r → (pos 1 ≤ℤ D.opposite r) × (D.opposite r ≤ℤ pos 4)
    go at_most e = rw (← e) (omega (arith, zz), omega (arith, zz))
    go at_least e = rw (← e) (omega (arith, zz), omega (arith, zz))
    go equal e = rw (← e) (omega (arith, zz), omega (arith, zz))
    go not_equal e = rw (← e) (omega (arith, zz), omega (arith, zz))
