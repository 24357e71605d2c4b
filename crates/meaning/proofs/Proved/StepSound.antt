-- A step that passes makes a fact that holds for every assignment that solves the model, or draws a conclusion that does.
use Rattle.std.specs.Prelude.{ℕ, suc, ◌<◌, ◌≡◌, refl, Bool, true, false, ◌&&◌, List, [], ◌∷◌, eqb, length, ℤ, pos, ◌≤ℤ◌}
use Rattle.std.proofs.Common.{arith, eqb-true}
use Rattle.std.proofs.Math.Option.{Option, none, some}
use Rattle.std.specs.Int.Signed.{le_z}
use Rattle.words.specs.Int.{zz}
use Rattle.words.specs.Lists.{all, is_empty, All, empty, also}
use Rattle.words.specs.ListFacts.{clash, is_true, and_true, all_at, each_at_lem}
use Rattle.meaning.specs.Model.{Model, Bounds, linear}
use Rattle.meaning.specs.Log.{Relation, at_most, at_least, equal, not_equal, Atom, Fact, inference, deduction, no_assignment, never_below}
use Rattle.meaning.specs.Box.{meets, add_negated, box_of, left, any_empty}
use Rattle.meaning.specs.Rule.{conflicts}
use Rattle.meaning.specs.Judge.{Verdict, passes, fails, row_at, inferred, deduced, unless_emptied, take_hint, judge, premises_hold, follow_hints, fits24, says_false, is_at_least, says_at_least}
use Rattle.meaning.specs.Meets.{Assignment, Within, Solves}
use Rattle.meaning.proofs.Proved.ReadStep.{Known, KnownConsequent, KnownFact}
use Rattle.meaning.proofs.Proved.ReadModel.{KnownRow}
use Rattle.meaning.proofs.Proved.BoxFacts.{Met, left_in, left_rising, not_empty, negated_met}
use Rattle.meaning.proofs.Proved.RowSound.{AmongLeft, row_refutes}

abbrev pub Consequence : Assignment → Option Atom → Type 0
Consequence a none = ⊥
Consequence a (some c) = Met a c

-- the premises give the consequent
pub record FactHolds (a : Assignment) (f : Fact) : Type 0 where
  pub gives : All (Met a) f.premises → Consequence a f.consequent

-- ---- a fact whose box is refuted holds
refuted : (a : Assignment) (o : Option Atom) (ps : List Atom) → (All (Met a) (add_negated o ps) → ⊥) → All (Met a) ps → Consequence a o
refuted a none ps h ms = h ms
refuted a (some c) ps h ms = is_true (λ n. h (also (negated_met a c n) ms))

pub holds_of : (a : Assignment) (f : Fact) → (All (Met a) (box_of f) → ⊥) → FactHolds a f
holds_of a f h = record { gives = refuted a f.consequent f.premises h }

fails_not : {num p : ℕ} → fails num p ≡ passes → ⊥
fails_not e = let z : ◌≡◌ {A = ℕ} 0 1 = cc in omega arith

-- ---- what a step that passes was found to meet
inferred_conflict : (a b : Bool) → inferred a b ≡ passes → b ≡ true
inferred_conflict true b e = absurd (fails_not e)
inferred_conflict false true e = refl
inferred_conflict false false e = absurd (fails_not e)

deduced_follows : (a : Bool) (v : Verdict) → deduced a v ≡ passes → v ≡ passes
deduced_follows true v e = absurd (fails_not e)
deduced_follows false v e = e

fits_true : (b : Bool) → fits24 b ≡ passes → b ≡ true
fits_true true e = refl
fits_true false e = absurd (fails_not e)

-- ---- for an assignment that solves the model
module _ (a : Assignment) (bs : List Bounds) (within : Within a bs) where
  among_left : (box : List Atom) → All (Met a) box → AmongLeft a (length bs) (left bs box)
  among_left box met = record { among = left_in a bs within box met; rising = left_rising bs box }

  premises_met : (box : List Atom) → All (Met a) box → (ps : List Atom) → All (Known (length bs)) ps → premises_hold bs box ps ≡ true → All (Met a) ps
  premises_met box met [] known t = empty
  premises_met box met (p ∷ ps) (also k ks) t =
      let h = and_true (all (λ v. meets p.relation v p.value) (left bs box p.variable)) (premises_hold bs box ps) t in
      also (all_at (λ v. meets p.relation v p.value) h.0 (left_in a bs within box met p.variable k))
      (premises_met box met ps ks h.1)

  -- the hints of a deduction that passes refute its box
  module _ (facts : ℕ → Fact) where
    follow_sound : (hs : List ℕ) → All (λ (h : ℕ). KnownFact (length bs) (facts h) × FactHolds a (facts h)) hs
        → (box : List Atom) (i : ℕ) → All (Met a) box → follow_hints bs facts box i hs ≡ passes → ⊥
    follow_sound [] empty box i met e = fails_not e
    follow_sound (h ∷ hs) (also k ks) box i met e =
        hint (premises_hold bs box (facts h).premises) refl (facts h).consequent k.1.gives k.0.consequent_known e (follow_sound hs ks)
      where
        next : (c : Atom) (b : Bool) → is_empty (left bs (c ∷ box) c.variable) ≡ b → Met a c → Known (length bs) c
            → unless_emptied b (c ∷ box) (λ narrower. follow_hints bs facts narrower (suc i) hs) ≡ passes
            → ((box : List Atom) (i : ℕ) → All (Met a) box → follow_hints bs facts box i hs ≡ passes → ⊥) → ⊥
        next c true y n known p later = not_empty a bs within (c ∷ box) (also n met) c.variable known y
        next c false y n known p later = later (c ∷ box) (suc i) (also n met) p

        hint : (b : Bool) → premises_hold bs box (facts h).premises ≡ b → (o : Option Atom) → (All (Met a) (facts h).premises → Consequence a o) → KnownConsequent (length bs) o
            → take_hint bs box i b o (λ narrower. follow_hints bs facts narrower (suc i) hs) ≡ passes
            → ((box : List Atom) (i : ℕ) → All (Met a) box → follow_hints bs facts box i hs ≡ passes → ⊥) → ⊥
        hint false t o g known p later = fails_not p
        hint true t none g known p later = g (premises_met box met (facts h).premises k.0.premises_known t)
        hint true t (some c) g known p later = next c (is_empty (left bs (c ∷ box) c.variable)) refl (g (premises_met box met (facts h).premises k.0.premises_known t)) known p later

-- ---- the four kinds of step, for an assignment that solves the model
at_least_of : (r : Relation) (v w : ℤ) → is_at_least r ≡ true → meets r v w ≡ true → le_z w v ≡ true
at_least_of at_most v w t m = clash t refl
at_least_of at_least v w t m = m
at_least_of equal v w t m = clash t refl
at_least_of not_equal v w t m = clash t refl

says_false_lem : (a : Assignment) (ps : List Atom) (o : Option Atom) → says_false (record { premises = ps; consequent = o }) ≡ true → FactHolds a (record { premises = ps; consequent = o }) → ⊥
says_false_lem a [] none t h = h.gives empty
says_false_lem a [] (some c) t h = clash t refl
says_false_lem a (p ∷ ps) o t h = clash t refl

says_at_least_lem : (a : Assignment) (x : ℕ) (v : ℤ) (ps : List Atom) (o : Option Atom) → says_at_least x v (record { premises = ps; consequent = o }) ≡ true
    → FactHolds a (record { premises = ps; consequent = o }) → v ≤ℤ a x
says_at_least_lem a x v [] none t h = clash t refl
says_at_least_lem a x v (p ∷ ps) o t h = clash t refl
says_at_least_lem a x v [] (some c) t h =
    let p = and_true (is_at_least c.relation) (eqb x c.variable && le_z v c.value) t in
    let q = and_true (eqb x c.variable) (le_z v c.value) p.1 in
    let low : le_z v c.value ≡ true = q.1 in
    let high : le_z c.value (a x) ≡ true = rw (eqb-true x c.variable q.0) (at_least_of c.relation (a c.variable) c.value p.0 (h.gives empty)) in
    omega (arith, zz)

module _ (m : Model) (rows-known : All (KnownRow (length m.bounds)) m.rows) (a : Assignment) (solves : Solves a m) (facts : ℕ → Fact) where
  pub conflict_refutes : (f : Fact) → All (Met a) (box_of f) → (r : ℕ) → r < length m.rows → conflicts f (left m.bounds (box_of f)) (row_at m r) ≡ true → ⊥
  conflict_refutes f met r below e =
      row_refutes (row_at m r) a (length m.bounds) f (left m.bounds (box_of f)) (among_left a m.bounds solves.0 (box_of f) met)
      (each_at_lem (linear (pos 0) []) r below rows-known) e (each_at_lem (linear (pos 0) []) r below solves.1)

  pub inference_sound : (r : ℕ) (f : Fact) → r < length m.rows → judge m facts (inference r f) ≡ passes → FactHolds a f
  inference_sound r f below e = holds_of a f (λ met. conflict_refutes f met r below (inferred_conflict (any_empty m.bounds (box_of f) (length m.bounds)) (conflicts f (left m.bounds (box_of f)) (row_at m r)) e))

  pub deduction_sound : (f : Fact) (hs : List ℕ) → All (λ (h : ℕ). KnownFact (length m.bounds) (facts h) × FactHolds a (facts h)) hs → judge m facts (deduction f hs) ≡ passes → FactHolds a f
  deduction_sound f hs cited e = holds_of a f (λ met. follow_sound a m.bounds solves.0 facts hs cited (box_of f) 0 met (deduced_follows (any_empty m.bounds (box_of f) (length m.bounds)) (follow_hints m.bounds facts (box_of f) 0 hs) e))

  pub no_assignment_sound : (n : ℕ) → FactHolds a (facts n) → judge m facts (no_assignment n) ≡ passes → ⊥
  no_assignment_sound n h e = says_false_lem a (facts n).premises (facts n).consequent (fits_true (says_false (facts n)) e) h

  pub never_below_sound : (x : ℕ) (v : ℤ) (n : ℕ) → FactHolds a (facts n) → judge m facts (never_below x v n) ≡ passes → v ≤ℤ a x
  never_below_sound x v n h e = says_at_least_lem a x v (facts n).premises (facts n).consequent (fits_true (says_at_least x v (facts n)) e) h
