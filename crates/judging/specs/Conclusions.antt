-- What the words of a fact tell of a conclusion that cites it, and how a cited fact is found.
use Prim.Native.Nat.{ℕ, zero, suc, ◌≤◌, ◌<◌}
use Rattle.std.specs.Prelude.{◌≡◌, refl, true, false, eqb, ℤ, length, get_or}
use Rattle.std.proofs.Common.{sym, arith, ne_eqb, ◌⊎◌, ⊎_elim}
use mathlib.Core.List.{List, [], ◌∷◌, map}
use Rattle.std.proofs.Math.Option.{some}
use Rattle.meaning.specs.Log.{Atom, Fact, relation_of}
use Rattle.meaning.specs.Judge.{gives_false, says_false, is_at_least, gives_at_least, says_at_least}
use Rattle.meaning.specs.Check.{fact_at}
use Rattle.reading.specs.At.{each_at}
use Rattle.steps.specs.Facts.{atom_at, then_at, fact_of}
use Rattle.steps.specs.declared.FactPlace.{FactPlace}

-- the fact of step n
pub cited_is : (f : ℕ → Fact) (places : List ℕ) (n : ℕ) → n < length places → fact_at (map f places) n ≡ f (get_or places n 0)
cited_is f [] n h = absurd (omega arith)
cited_is f (p ∷ places) zero h = refl
cited_is f (p ∷ places) (suc n) h = cited_is f places n (omega arith)

module _ (log : List ℤ) (f : FactPlace) where
  no_premise : f.premises.many ≡ 0 → (fact_of log f).premises ≡ []
  unfolding each_at
  no_premise e = rw e

  some_premise : (f.premises.many ≡ 0 → ⊥) → (a : Atom) × (as' : List Atom) × ((fact_of log f).premises ≡ a ∷ as')
  unfolding each_at
  some_premise n = go f.premises.many n
    where
      go : (c : ℕ) → (c ≡ 0 → ⊥) → (a : Atom) × (as' : List Atom) × (each_at atom_at 3 c log f.premises.from ≡ a ∷ as')
      go zero n = absurd (n refl)
      go (suc c) n = (_, _, refl)

  pub false_so : f.premises.many ≡ 0 → says_false (fact_of log f) ≡ eqb f.consequent.many 0
  false_so e = rw (no_premise e) (go f.consequent.many)
    where
      go : (q : ℕ) → gives_false [] (then_at q log f.consequent.from) ≡ eqb q 0
      go zero = refl
      go (suc q) = sym (ne_eqb (suc q) 0 (λ e. omega arith))

  pub false_not : (f.premises.many ≡ 0 → ⊥) → says_false (fact_of log f) ≡ false
  false_not n = let q = some_premise n in rw q.2

  module _ (x : ℕ) (v : ℤ) where
    pub least_so : f.premises.many ≡ 0 → f.consequent.many ≡ 1 → says_at_least x v (fact_of log f) ≡ gives_at_least x v [] (some (atom_at log f.consequent.from))
    least_so e t = rw (no_premise e, t)

    pub least_none : f.premises.many ≡ 0 → f.consequent.many ≤ 1 → (f.consequent.many ≡ 1 → ⊥) → says_at_least x v (fact_of log f) ≡ false
    least_none e l n = rw (no_premise e) (go f.consequent.many l n)
      where
        go : (q : ℕ) → q ≤ 1 → (q ≡ 1 → ⊥) → gives_at_least x v [] (then_at q log f.consequent.from) ≡ false
        go zero l n = refl
        go (suc zero) l n = absurd (n refl)
        go (suc (suc q)) l n = absurd (omega arith)

    pub least_not : (f.premises.many ≡ 0 → ⊥) → says_at_least x v (fact_of log f) ≡ false
    least_not n = let q = some_premise n in rw q.2

    -- there is a premise, or there is none and no consequent
    pub least_else : (f.premises.many ≡ 0 × (f.consequent.many ≡ 1 → ⊥)) ⊎ (f.premises.many ≡ 0 → ⊥) → f.consequent.many ≤ 1 → says_at_least x v (fact_of log f) ≡ false
    least_else e l = ⊎_elim (λ p. least_none p.0 l p.1) least_not e

-- relation 2 is "at least"
pub second_relation : (n : ℕ) → n ≡ 2 → is_at_least (relation_of n) ≡ true
second_relation n e = rw e

pub other_relation : (n : ℕ) → (n ≡ 2 → ⊥) → is_at_least (relation_of n) ≡ false
other_relation zero h = refl
other_relation (suc zero) h = refl
other_relation (suc (suc zero)) h = absurd (h refl)
other_relation (suc (suc (suc zero))) h = refl
other_relation (suc (suc (suc (suc n)))) h = refl
