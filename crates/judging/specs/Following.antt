-- The hints of a deduction, taken in order from a box in its table.
use Prim.Native.Nat.{ℕ, zero, suc, ◌+◌, ◌-◌, ◌≤◌, ◌<◌}
use Rattle.std.specs.Prelude.{◌≡◌, Bool, true, false, List, [], ◌∷◌, ℤ, length}
use Rattle.std.proofs.Math.Path.{refl, ap₂}
use Rattle.std.proofs.Common.{sym, ap, subst, ◌∙◌, add-one}
use Rattle.std.proofs.Math.Bool.{◌&&◌}
use native.Mathlib.Omega.{arith}
use Rattle.std.proofs.Math.Nat.{sub-zero}
use Rattle.words.specs.Lists.{all}
use Rattle.meaning.specs.Refusals.{hint_does_not_apply, hints_used_up}
use Rattle.meaning.specs.Model.{Bounds}
use Rattle.meaning.specs.Log.{Atom, Fact}
use Rattle.meaning.specs.Judge.{Verdict, passes, fails, premises_hold, unless_emptied, take_hint, follow_hints}
use Rattle.domain.specs.Box.{values, stands}
use Rattle.bridge.specs.Agrees.{Agrees}
use Rattle.bridge.proofs.Answers.{holds_left, empty_left}
use Rattle.reading.specs.At.{nat_at, int_at, each_at}
use Rattle.steps.specs.Facts.{AtomIn, FactIn, atom_at, then_at, fact_of}
use Rattle.steps.specs.declared.FactPlace.{FactPlace}
use Rattle.boxes.specs.InTurn.{from_all}
use Rattle.boxes.specs.Boxes.{AtomsIn, narrowed_at, empty_at}
use Rattle.boxes.specs.Filled.{Holds, holds_front, atoms_first, atoms_rest}

-- the atom at p holds for every value left; n atoms from p on do
abbrev pub holds_at : List ℤ → ℕ → List ℤ → Bool
holds_at log p cells = all (stands (int_at log (p + 1)) (int_at log (p + 2))) (values cells (nat_at log p))

abbrev pub and_holds : List ℤ → List ℤ → ℕ → Bool → Bool
and_holds log cells p b = holds_at log p cells && b

abbrev pub holds_each : List ℤ → ℕ → ℕ → List ℤ → Bool
holds_each log n p cells = from_all (and_holds log cells) true n p

-- ---- against the meaning
module _ (log : List ℤ) (bs : List Bounds) (box : List Atom) (cells : List ℤ) (agrees : Agrees cells bs box) where
  pub holds_is : (n p : ℕ) → AtomsIn (length bs) log p n → holds_each log n p cells ≡ premises_hold bs box (each_at atom_at 3 n log p)
  unfolding from_all each_at
  holds_is zero p a = refl
  holds_is (suc n) p a =
      let i = atoms_first p n a in
      ap₂ ◌&&◌ (holds_left cells bs box agrees (nat_at log p) (int_at log (p + 1)) (int_at log (p + 2)) i.relation.0 i.relation.1) (holds_is n (p + 3) (atoms_rest p n a))

-- the fact that the hint at p cites stands at f
pub record Cites (v : ℕ) (log : List ℤ) (facts : ℕ → Fact) (p : ℕ) (f : FactPlace) : Type 0 where
  pub known : FactIn v log f
  pub is : facts (nat_at log p) ≡ fact_of log f

-- ---- the loop over the hints
module _ (v : ℕ) (log : List ℤ) (facts : ℕ → Fact) (hints many : ℕ) (before : List ℤ) where
  -- the hints' verdict, whatever the box stands for that the cells hold before the first hint
  abbrev pub Says : Verdict → Type 0
  Says w = (bs : List Bounds) (box : List Atom) → length bs ≡ v → Holds log bs box many before → w ≡ follow_hints bs facts box 0 (each_at nat_at 1 many log hints)

  -- before hint i the cells hold a narrower box, from which the later hints say the same
  pub record Following (bs : List Bounds) (box : List Atom) (cells : List ℤ) (i : ℕ) : Type 0 where
    pub narrower : List Atom
    pub holds : Holds log bs narrower (many - i) cells
    pub same : follow_hints bs facts box 0 (each_at nat_at 1 many log hints) ≡ follow_hints bs facts narrower i (each_at nat_at 1 (many - i) log (hints + i))

  -- the same whatever the box stands for that they hold before the first
  pub record Sofar (cells : List ℤ) (i : ℕ) : Type 0 where
    pub so : (bs : List Bounds) (box : List Atom) → length bs ≡ v → Holds log bs box many before → Following bs box cells i

  pub at_first : Sofar before 0
  at_first = record { so = λ bs box e h. record { narrower = box; holds = rw sub-zero h; same = let q : hints + 0 ≡ hints = omega arith in rw (q, sub-zero) } }

  hints_more : (i : ℕ) → i < many → each_at nat_at 1 (many - i) log (hints + i) ≡ nat_at log (hints + i) ∷ each_at nat_at 1 (many - (i + 1)) log (hints + (i + 1))
  unfolding each_at
  hints_more i h = let z : many - i ≡ suc (many - (i + 1)) = omega arith in let q : hints + i + 1 ≡ hints + (i + 1) = omega arith in rw (z, q)

  hints_none : (i : ℕ) → many ≤ i → each_at nat_at 1 (many - i) log (hints + i) ≡ []
  unfolding each_at
  hints_none i h = let z : many - i ≡ 0 = omega arith in rw z

-- before hint i
module _ {v : ℕ} {log : List ℤ} {facts : ℕ → Fact} {hints many : ℕ} {before cells : List ℤ} {i : ℕ} (s : Sofar v log facts hints many before cells i) where
  abbrev Told : Verdict → Type 0
  Told = Says v log facts hints many before

  pub used_up : many ≤ i → Told (fails hints_used_up 0)
  used_up h bs box e b = let g = s.so bs box e b in sym (g.same ∙ ap (follow_hints bs facts g.narrower i) (hints_none v log facts hints many before i h))

  -- the hint cites the fact that stands at f
  module _ (h : i < many) {f : FactPlace} (cites : Cites v log facts (hints + i) f) where
    abbrev later : List Bounds → List Atom → Verdict
    later bs narrower = follow_hints bs facts narrower (suc i) (each_at nat_at 1 (many - (i + 1)) log (hints + (i + 1)))

    -- do the premises hold, and the consequent
    taken : (bs : List Bounds) (box : List Atom) (e : length bs ≡ v) (b : Holds log bs box many before) (t : Bool) → holds_each log f.premises.many f.premises.from cells ≡ t
        → follow_hints bs facts box 0 (each_at nat_at 1 many log hints) ≡ take_hint bs (s.so bs box e b).narrower i t (fact_of log f).consequent (later bs)
    taken bs box e b t q =
        let g = s.so bs box e b in
        let a = holds_is log bs g.narrower cells g.holds.agrees f.premises.many f.premises.from (subst (λ n. AtomsIn n log f.premises.from f.premises.many) (sym e) cites.known.premise) in
        g.same ∙ ap (follow_hints bs facts g.narrower i) (hints_more v log facts hints many before i h)
        ∙ ap (λ c. take_hint bs g.narrower i (premises_hold bs g.narrower c.premises) c.consequent (later bs)) cites.is
        ∙ ap (λ c. take_hint bs g.narrower i c (fact_of log f).consequent (later bs)) (sym a ∙ q)

    pub not_held : holds_each log f.premises.many f.premises.from cells ≡ false → Told (fails hint_does_not_apply i)
    not_held q bs box e b = sym (taken bs box e b false q)

    module _ (q : holds_each log f.premises.many f.premises.from cells ≡ true) where
      pub is_false : f.consequent.many ≡ 0 → Told passes
      is_false z bs box e b = sym (taken bs box e b true q ∙ ap (λ n. take_hint bs (s.so bs box e b).narrower i true (then_at n log f.consequent.from) (later bs)) z)

      module _ (z : f.consequent.many ≡ 1) where
        abbrev narrow : List ℤ
        narrow = narrowed_at log f.consequent.from cells

        front : (bs : List Bounds) (box : List Atom) (e : length bs ≡ v) (b : Holds log bs box many before) → Holds log bs (atom_at log f.consequent.from ∷ (s.so bs box e b).narrower) (many - (i + 1)) narrow
        front bs box e b =
            let g = s.so bs box e b in
            let m : many - i ≡ suc (many - (i + 1)) = omega arith in
            holds_front log bs f.consequent.from (many - (i + 1)) g.narrower cells (subst (λ n. AtomIn n log f.consequent.from) (sym e) (cites.known.consequence z)) (subst (λ n. Holds log bs g.narrower n cells) m g.holds)

        step : (bs : List Bounds) (box : List Atom) (e : length bs ≡ v) (b : Holds log bs box many before) (t : Bool) → empty_at log f.consequent.from narrow ≡ t
            → follow_hints bs facts box 0 (each_at nat_at 1 many log hints) ≡ unless_emptied t (atom_at log f.consequent.from ∷ (s.so bs box e b).narrower) (later bs)
        step bs box e b t y =
            let g = s.so bs box e b in
            taken bs box e b true q ∙ ap (λ n. take_hint bs g.narrower i true (then_at n log f.consequent.from) (later bs)) z
            ∙ ap (λ c. unless_emptied c (atom_at log f.consequent.from ∷ g.narrower) (later bs)) (sym (empty_left narrow bs (atom_at log f.consequent.from ∷ g.narrower) (front bs box e b).agrees (nat_at log f.consequent.from)) ∙ y)

        pub emptied : empty_at log f.consequent.from narrow ≡ true → Told passes
        emptied y bs box e b = sym (step bs box e b true y)

        pub narrowed_on : empty_at log f.consequent.from narrow ≡ false → Sofar v log facts hints many before narrow (i + 1)
        narrowed_on y =
            record {
              so = λ bs box e b.
                  record {
                    narrower = atom_at log f.consequent.from ∷ (s.so bs box e b).narrower;
                    holds = front bs box e b;
                    same = step bs box e b false y ∙ ap (λ n. follow_hints bs facts (atom_at log f.consequent.from ∷ (s.so bs box e b).narrower) n (each_at nat_at 1 (many - (i + 1)) log (hints + (i + 1)))) (sym (add-one i));
                  };
            }
