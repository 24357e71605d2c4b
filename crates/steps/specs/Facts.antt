-- The fact that stands at a position of the log table, and what is known of its words once it was read well.
use Rattle.std.specs.Prelude.{ℕ, zero, suc, ◌+◌, ◌*◌, ◌<◌, ◌≤◌, List, ◌≡◌, ℤ, pos, nat_abs, length, get_or, ◌≤ℤ◌}
use Rattle.std.proofs.Math.Option.{Option, none, some}
use Rattle.meaning.specs.Limits.{most_value, most_premises}
use Rattle.meaning.specs.Log.{Atom, Fact, relation_of}
use Rattle.reading.specs.At.{At, int_at, nat_at, each_at, Names, Between}
use Rattle.steps.specs.declared.FactPlace.{FactPlace}

-- three words
abbrev pub atom_at : At Atom
atom_at s p = record { variable = nat_at s p; relation = relation_of (nat_at s (p + 1)); value = int_at s (p + 2) }

-- q consequents, none or one
abbrev pub then_at : ℕ → At (Option Atom)
then_at zero s p = none
then_at (suc q) s p = some (atom_at s p)

-- the fact whose parts stand at such places
abbrev pub fact_of : List ℤ → FactPlace → Fact
fact_of s f = record { premises = each_at atom_at 3 f.premises.many s f.premises.from; consequent = then_at f.consequent.many s f.consequent.from }

-- ---- the fact that begins at p: how many premises, these, how many consequents, this

abbrev pub premises_end : At ℕ
premises_end s p = p + 1 + nat_at s p * 3

-- where its parts stand
abbrev pub place_at : List ℤ → ℕ → FactPlace
place_at s p = record {
  premises = record { from = p + 1; many = nat_at s p };
  consequent = record { from = premises_end s p + 1; many = nat_at s (premises_end s p) };
}

abbrev pub fact_at : At Fact
fact_at s p = fact_of s (place_at s p)

abbrev pub fact_next : At ℕ
fact_next s p = premises_end s p + 1 + nat_at s (premises_end s p) * 3

-- ---- what is known of the words: v is the number of variables

pub record AtomIn (v : ℕ) (s : List ℤ) (p : ℕ) : Type 0 where
  pub fits : p + 3 ≤ length s
  pub named : Names v s p
  pub relation : (pos 1 ≤ℤ get_or s (p + 1) (pos 0)) × (get_or s (p + 1) (pos 0) ≤ℤ pos 4)
  pub value : nat_abs (get_or s (p + 2) (pos 0)) ≤ most_value

pub record FactIn (v : ℕ) (s : List ℤ) (f : FactPlace) : Type 0 where
  pub few : f.premises.many ≤ most_premises
  pub one : f.consequent.many ≤ 1
  pub fits : (f.premises.from + f.premises.many * 3 ≤ length s) × (f.consequent.from + f.consequent.many * 3 ≤ length s)
  pub premise : (i : ℕ) → i < f.premises.many → AtomIn v s (f.premises.from + i * 3)
  pub consequence : f.consequent.many ≡ 1 → AtomIn v s f.consequent.from

-- both numbers of the fact that begins at p are in range
pub record FactBegins (s : List ℤ) (p : ℕ) : Type 0 where
  pub counts : Between 0 most_premises s p
  pub ends : Between 0 1 s (premises_end s p)

-- and so is everything that they announce
pub record FactFrom (v : ℕ) (s : List ℤ) (p : ℕ) : Type 0 where
  pub begins : FactBegins s p
  pub parts : FactIn v s (place_at s p)

-- ---- the fact that the step at p makes: an inference's stands behind its row number, a deduction's right behind the kind

abbrev pub fact_start : ℕ → ℕ → ℕ
fact_start zero p = p + 1
fact_start (suc zero) p = p + 2
fact_start (suc (suc n)) p = p + 1

abbrev pub made_start : At ℕ
made_start s p = fact_start (nat_at s p) p

abbrev pub made_place : List ℤ → ℕ → FactPlace
made_place s p = place_at s (made_start s p)

abbrev pub made_fact : At Fact
made_fact s p = fact_of s (made_place s p)

pub record MadeBegins (s : List ℤ) (p : ℕ) : Type 0 where
  pub kind : Between 1 2 s p
  pub fact : FactBegins s (made_start s p)

pub record MadeFrom (v : ℕ) (s : List ℤ) (p : ℕ) : Type 0 where
  pub begins : MadeBegins s p
  pub parts : FactIn v s (made_place s p)
