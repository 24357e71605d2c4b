-- The variables that occur in a fact, marked atom by atom.
use Rattle.std.specs.Prelude.{ℕ, zero, suc, ◌+◌, ◌*◌, ◌≤◌, ◌≡◌, refl, Bool, true, false, ◌||◌, List, [], ◌∷◌, ◌++◌, eqb, ℤ, length}
use Rattle.std.proofs.Common.{sym, ap, ap₂, ◌∙◌, arith}
use Rattle.words.specs.Lists.{any}
use Rattle.marks.specs.Marks.{marked, added, added_is, added_length, blank, blank_none, blank_length}
use Rattle.meaning.specs.Log.{Atom}
use Rattle.meaning.specs.Rule.{optional}
use Rattle.reading.specs.At.{nat_at, each_at}
use Rattle.rule_facts.specs.Occurring.{Occurring}
use Rattle.steps.specs.Facts.{AtomIn, FactIn, atom_at, then_at, fact_of}
use Rattle.steps.specs.declared.FactPlace.{FactPlace}
use Rattle.boxes.specs.InTurn.{in_turn}
use Rattle.boxes.specs.Boxes.{AtomsIn}
use Rattle.boxes.specs.Filled.{atoms_rest, atoms_first}

-- the variable of the atom at p is marked, and those of n atoms from p on
abbrev pub marked_at : List ℤ → ℕ → List ℕ → List ℕ
marked_at log p ws = added ws (nat_at log p)

abbrev pub marked_each : List ℤ → ℕ → ℕ → List ℕ → List ℕ
marked_each log = in_turn (marked_at log)

abbrev pub marked_fact : List ℤ → FactPlace → List ℕ → List ℕ
marked_fact log f ws = marked_each log f.consequent.many f.consequent.from (marked_each log f.premises.many f.premises.from ws)

-- only an all-different row, kind 2, asks for them
abbrev pub asks_for : ℕ → Bool
asks_for kind = eqb kind 2

abbrev pub marked_where : Bool → List ℤ → FactPlace → List ℕ → List ℕ
marked_where true log f ws = marked_fact log f ws
marked_where false log f ws = ws

-- ---- so many marks fit
atom_of_more : {v w : ℕ} {log : List ℤ} {p : ℕ} → v ≤ w → AtomIn v log p → AtomIn w log p
atom_of_more h a = record { fits = a.fits; named = record { inside = a.named.inside; signless = a.named.signless; known = omega (arith, a.named.known) }; relation = a.relation; value = a.value }

pub fact_of_more : {v w : ℕ} {log : List ℤ} {f : FactPlace} → v ≤ w → FactIn v log f → FactIn w log f
fact_of_more h i = record { few = i.few; one = i.one; fits = i.fits; premise = λ j l. atom_of_more h (i.premise j l); consequence = λ e. atom_of_more h (i.consequence e) }

-- one consequent or none, as atoms one after the other
pub consequents_in : {v : ℕ} {log : List ℤ} (f : FactPlace) → FactIn v log f → AtomsIn v log f.consequent.from f.consequent.many
consequents_in f i j h = let e : f.consequent.from + j * 3 ≡ f.consequent.from = let o = i.one in omega arith in rw e (i.consequence (let o = i.one in omega arith))

consequents : (n : ℕ) (log : List ℤ) (p : ℕ) → n ≤ 1 → optional (then_at n log p) ≡ each_at atom_at 3 n log p
unfolding each_at
consequents zero log p h = refl
consequents (suc zero) log p h = refl
consequents (suc (suc n)) log p h = absurd (omega arith)

-- ---- what is marked: what was, and the atoms' variables
abbrev about : ℕ → Atom → Bool
about x a = eqb x a.variable

pub marked_length : (log : List ℤ) (n p : ℕ) (ws : List ℕ) → length (marked_each log n p ws) ≡ length ws
unfolding in_turn
marked_length log zero p ws = refl
marked_length log (suc n) p ws = marked_length log n (p + 3) (marked_at log p ws) ∙ added_length ws (nat_at log p)

marked_each_lem : (log : List ℤ) (x n p : ℕ) (ws : List ℕ) → AtomsIn (64 * length ws) log p n → marked (marked_each log n p ws) x ≡ (any (about x) (each_at atom_at 3 n log p) || marked ws x)
unfolding in_turn each_at
marked_each_lem log x zero p ws a = refl
marked_each_lem log x (suc n) p ws a =
    marked_each_lem log x n (p + 3) (marked_at log p ws) (rw (added_length ws (nat_at log p)) (atoms_rest p n a))
    ∙ ap (λ b. any (about x) (each_at atom_at 3 n log (p + 3)) || b) (added_is ws (nat_at log p) x (atoms_first p n a).named.known)
    ∙ move (any (about x) (each_at atom_at 3 n log (p + 3))) (eqb x (nat_at log p)) (marked ws x)
  where
    move : (a b c : Bool) → (a || (b || c)) ≡ ((b || a) || c)
    move true true c = refl
    move true false c = refl
    move false true c = refl
    move false false c = refl

any_append : {A : Type 0} (t : A → Bool) (xs ys : List A) → any t (xs ++ ys) ≡ (any t ys || any t xs)
any_append t [] ys = last (any t ys)
  where
    last : (b : Bool) → b ≡ (b || false)
    last true = refl
    last false = refl
any_append t (x ∷ xs) ys = ap (λ b. t x || b) (any_append t xs ys) ∙ move (t x) (any t ys) (any t xs)
  where
    move : (a b c : Bool) → (a || (b || c)) ≡ (b || (a || c))
    move true true c = refl
    move true false c = refl
    move false b c = refl

-- just the variables that occur in the fact, in a set that had none
pub marked_occurs : (log : List ℤ) (f : FactPlace) (ws : List ℕ) → ((x : ℕ) → marked ws x ≡ false) → FactIn (64 * length ws) log f → Occurring (fact_of log f) (marked_fact log f ws)
marked_occurs log f ws none i x =
    let l = marked_length log f.premises.many f.premises.from ws in
    marked_each_lem log x f.consequent.many f.consequent.from (marked_each log f.premises.many f.premises.from ws) (rw l (consequents_in f i))
    ∙ ap₂ ◌||◌ (ap (any (about x)) (sym (consequents f.consequent.many log f.consequent.from i.one)))
    (marked_each_lem log x f.premises.many f.premises.from ws i.premise ∙ ap (λ b. any (about x) (each_at atom_at 3 f.premises.many log f.premises.from) || b) (none x) ∙ last (any (about x) (each_at atom_at 3 f.premises.many log f.premises.from)))
    ∙ sym (any_append (about x) (each_at atom_at 3 f.premises.many log f.premises.from) (optional (then_at f.consequent.many log f.consequent.from)))
  where
    last : (b : Bool) → (b || false) ≡ b
    last true = refl
    last false = refl

-- blank words have room for v variables, and are just the marks that the row asks for once those of the fact are added
module _ (log : List ℤ) (f : FactPlace) (v words kind : ℕ) (room : v ≤ 64 * words) (i : FactIn v log f) where
  pub blank_room : FactIn (64 * length (blank words)) log f
  blank_room = let e = blank_length words in fact_of_more (omega arith) i

  pub asked_occurs : kind ≡ 2 → Occurring (fact_of log f) (marked_where (asks_for kind) log f (blank words))
  asked_occurs e = rw e (marked_occurs log f (blank words) (blank_none words) blank_room)
