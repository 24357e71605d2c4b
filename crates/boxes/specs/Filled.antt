-- The box that the words of the tables make leaves what the meaning's box of the fact leaves; and it has an empty set exactly where the variable of one of the fact's atoms has no value left.
use Prim.Native.Nat.{ℕ, zero, suc, ◌+◌, ◌*◌, ◌≤◌, ◌<◌}
use Rattle.std.specs.Prelude.{◌≡◌, Bool, true, false, eqb, ℤ, length}
use Rattle.std.proofs.Math.Path.{refl, ap₂, subst}
use Rattle.std.proofs.Common.{sym, ap, ◌∙◌, ⊎_elim, arith, eqb-true}
use Rattle.std.proofs.Math.Bool.{◌||◌}
use mathlib.Core.List.Memᴰ.{head as here}
use mathlib.Core.List.Memᴰ.{tail as there}
use mathlib.Core.List.{List, [], ◌∷◌, ◌++◌, append-nil, append_assoc, Memᴰ as In}
use Rattle.words.specs.Lists.{any, all, is_empty}
use Rattle.words.specs.ListFacts.{clash, same_test, or_cases, or_left, or_right, or_none_lem, any_found, any_holds, in_at}
use Rattle.meaning.specs.Limits.{most_premises}
use Rattle.meaning.specs.Model.{Bounds}
use Rattle.meaning.specs.Log.{Atom}
use Rattle.meaning.specs.Box.{met_by, declared_at, left, any_empty, box_of, add_negated, negated}
use Rattle.meaning.proofs.Proved.Narrow.{keep_all}
use Rattle.meaning.specs.Below.{up_to_lem}
use Rattle.narrowing.specs.Load.{loaded}
use Rattle.narrowing.specs.Narrow.{Room}
use Rattle.narrowing.proofs.NarrowFacts.{narrowed_room, room_one}
use Rattle.bridge.specs.Agrees.{Agrees}
use Rattle.bridge.proofs.Agrees.{agrees_words, agrees_words_last, agrees_negated}
use Rattle.bridge.proofs.Answers.{empty_left}
use Rattle.reading.specs.At.{nat_at, int_at, each_at, length_each, get_or_each}
use Rattle.steps.specs.Facts.{AtomIn, FactIn, atom_at, then_at, fact_of}
use Rattle.steps.specs.declared.FactPlace.{FactPlace}
use Rattle.boxes.specs.InTurn.{in_turn, from_all}
use Rattle.boxes.specs.Boxes.{AtomsIn, narrowed_at, narrowed_not, narrowed_each, narrowed_then, filled, empty_each, empty_then, box_empty}

-- the atoms after the first
pub atoms_rest : {v : ℕ} {log : List ℤ} (p n : ℕ) → AtomsIn v log p (suc n) → AtomsIn v log (p + 3) n
atoms_rest {v} {log} p n a i h = let e : p + suc i * 3 ≡ (p + 3) + i * 3 = omega arith in subst (AtomIn v log) e (a (suc i) (omega arith))

pub atoms_first : {v : ℕ} {log : List ℤ} (p n : ℕ) → AtomsIn v log p (suc n) → AtomIn v log p
atoms_first {v} {log} p n a = let e : p + 0 * 3 ≡ p = omega arith in subst (AtomIn v log) e (a 0 (omega arith))

room_fewer : (cells : List ℤ) {j k : ℕ} → k ≤ j → Room cells j → Room cells k
room_fewer cells h r = record { fits = omega (arith, r.fits); counted = omega (arith, r.counted) }

module _ (log : List ℤ) (bs : List Bounds) where
  -- what a table agrees with, and how many more holes fit
  pub record Holds (atoms : List Atom) (k : ℕ) (cells : List ℤ) : Type 0 where
    pub agrees : Agrees cells bs atoms
    pub room : Room cells k

  pub holds_at : (p k : ℕ) (atoms : List Atom) (cells : List ℤ) → AtomIn (length bs) log p → Holds atoms (suc k) cells → Holds (atoms ++ (atom_at log p ∷ [])) k (narrowed_at log p cells)
  holds_at p k atoms cells a h =
      let o = room_one cells k h.room in
      record {
        agrees = agrees_words_last cells (nat_at log p) (int_at log (p + 1)) (int_at log (p + 2)) a.relation.0 a.relation.1 bs atoms h.agrees o a.named.known;
        room = narrowed_room cells (nat_at log p) (int_at log (p + 1)) (int_at log (p + 2)) o k h.room;
      }

  -- the same with the atom in front
  pub holds_front : (p k : ℕ) (atoms : List Atom) (cells : List ℤ) → AtomIn (length bs) log p → Holds atoms (suc k) cells → Holds (atom_at log p ∷ atoms) k (narrowed_at log p cells)
  holds_front p k atoms cells a h =
      let o = room_one cells k h.room in
      record {
        agrees = agrees_words cells (nat_at log p) (int_at log (p + 1)) (int_at log (p + 2)) a.relation.0 a.relation.1 bs atoms h.agrees o a.named.known;
        room = narrowed_room cells (nat_at log p) (int_at log (p + 1)) (int_at log (p + 2)) o k h.room;
      }

  pub holds_not : (p k : ℕ) (atoms : List Atom) (cells : List ℤ) → AtomIn (length bs) log p → Holds atoms (suc k) cells → Holds (negated (atom_at log p) ∷ atoms) k (narrowed_not log p cells)
  holds_not p k atoms cells a h =
      let o = room_one cells k h.room in
      record {
        agrees = agrees_negated cells (nat_at log p) (int_at log (p + 1)) (int_at log (p + 2)) a.relation.0 a.relation.1 bs atoms h.agrees o a.named.known;
        room = narrowed_room cells (nat_at log p) _ _ o k h.room;
      }

  pub holds_each : (n p k : ℕ) (atoms : List Atom) (cells : List ℤ) → AtomsIn (length bs) log p n → Holds atoms (n + k) cells → Holds (atoms ++ each_at atom_at 3 n log p) k (narrowed_each log n p cells)
  unfolding in_turn each_at
  holds_each zero p k atoms cells a h = record { agrees = subst (Agrees cells bs) (sym (append-nil atoms)) h.agrees; room = room_fewer cells (omega arith) h.room }
  holds_each (suc n) p k atoms cells a h =
      let h' : Holds atoms (suc (n + k)) cells = record { agrees = h.agrees; room = room_fewer cells (omega arith) h.room } in
      let r = holds_each n (p + 3) k (atoms ++ (atom_at log p ∷ [])) (narrowed_at log p cells) (atoms_rest p n a) (holds_at p (n + k) atoms cells (atoms_first p n a) h') in
      record { agrees = subst (Agrees (narrowed_each log n (p + 3) (narrowed_at log p cells)) bs) (append_assoc atoms (atom_at log p ∷ []) (each_at atom_at 3 n log (p + 3))) r.agrees; room = r.room }

  pub holds_then : (q p k : ℕ) (atoms : List Atom) (cells : List ℤ) → q ≤ 1 → (q ≡ 1 → AtomIn (length bs) log p) → Holds atoms (suc k) cells → Holds (add_negated (then_at q log p) atoms) k (narrowed_then log q p cells)
  holds_then zero p k atoms cells l a h = record { agrees = h.agrees; room = room_fewer cells (omega arith) h.room }
  holds_then (suc zero) p k atoms cells l a h = holds_not p k atoms cells (a refl) h
  holds_then (suc (suc q)) p k atoms cells l a h = absurd (omega arith)

  -- the box of a fact, from the declared bounds on
  pub holds_filled : (f : FactPlace) (k : ℕ) (model cells : List ℤ) → FactIn (length bs) log f → Holds [] (suc (most_premises + k)) (loaded model 1 (length bs) cells)
      → Holds (box_of (fact_of log f)) k (filled model (length bs) log f cells)
  holds_filled f k model cells i h =
      let l = loaded model 1 (length bs) cells in
      let h' : Holds [] (f.premises.many + suc k) l = record { agrees = h.agrees; room = room_fewer l (omega (arith, i.few)) h.room } in
      holds_then f.consequent.many f.consequent.from k _ _ i.one i.consequence (holds_each f.premises.many f.premises.from (suc k) [] l i.premise h')

-- ---- which sets can be empty
declared_some : (bs : List Bounds) (x : ℕ) → x < length bs → is_empty (declared_at bs x) ≡ false
declared_some [] x h = absurd (omega arith)
declared_some (b ∷ bs) zero h = refl
declared_some (b ∷ bs) (suc x) h = declared_some bs x (omega arith)

module _ (bs : List Bounds) (atoms : List Atom) where
  -- no atom speaks of x
  untouched : (x : ℕ) → any (λ a. eqb x a.variable) atoms ≡ false → left bs atoms x ≡ declared_at bs x
  untouched x h = keep_all (λ v. all (met_by x v) atoms) (declared_at bs x) (λ v. free v atoms h)
    where
      free : (v : ℤ) (cs : List Atom) → any (λ a. eqb x a.variable) cs ≡ false → all (met_by x v) cs ≡ true
      free v [] e = refl
      free v (c ∷ cs) e =
          let o = or_none_lem (eqb x c.variable) (any (λ a. eqb x a.variable) cs) e in
          rw (o.0, free v cs o.1)

  -- a set that is empty is that of an atom's variable
  pub empty_is : ((a : Atom) → In a atoms → a.variable < length bs)
      → any_empty bs atoms (length bs) ≡ any (λ a. is_empty (left bs atoms a.variable)) atoms
  empty_is named = same_test (any_empty bs atoms (length bs)) (any test atoms) (λ h. found (length bs) (omega arith) h) (λ h. let r = any_found test atoms h in some (length bs) r.0.variable (named r.0 r.1) r.2)
    where
      test : Atom → Bool
      test a = is_empty (left bs atoms a.variable)

      some : (n x : ℕ) → x < n → is_empty (left bs atoms x) ≡ true → any_empty bs atoms n ≡ true
      some zero x h e = absurd (omega arith)
      some (suc n) x h e = ⊎_elim (λ l. or_right (is_empty (left bs atoms n)) (some n x l e)) (λ q. or_left (any_empty bs atoms n) (subst (λ y. is_empty (left bs atoms y) ≡ true) q e)) (up_to_lem h)

      touched : (x : ℕ) → x < length bs → is_empty (left bs atoms x) ≡ true → (b : Bool) → any (λ a. eqb x a.variable) atoms ≡ b → any test atoms ≡ true
      touched x h e true y =
          let r = any_found (λ a. eqb x a.variable) atoms y in
          any_holds test r.1 (subst (λ z. is_empty (left bs atoms z) ≡ true) (eqb-true x r.0.variable r.2) e)
      touched x h e false y = clash e (ap is_empty (untouched x y) ∙ declared_some bs x h)

      found : (n : ℕ) → n ≤ length bs → any_empty bs atoms n ≡ true → any test atoms ≡ true
      found zero l h = clash h refl
      found (suc n) l h = ⊎_elim (λ e. touched n (omega arith) e _ refl) (found n (omega arith)) (or_cases (is_empty (left bs atoms n)) (any_empty bs atoms n) h)

-- ---- the same as the words tell it
module _ (log : List ℤ) (cells : List ℤ) (bs : List Bounds) (atoms : List Atom) (agrees : Agrees cells bs atoms) where
  abbrev emptied : Atom → Bool
  emptied a = is_empty (left bs atoms a.variable)

  each_emptied : (n p : ℕ) → empty_each log n p cells ≡ any emptied (each_at atom_at 3 n log p)
  unfolding from_all each_at
  each_emptied zero p = refl
  each_emptied (suc n) p = ap₂ ◌||◌ (empty_left cells bs atoms agrees (nat_at log p)) (each_emptied n (p + 3))

  or_swap : (a b : Bool) → (a || b) ≡ (b || a)
  or_swap true true = refl
  or_swap true false = refl
  or_swap false true = refl
  or_swap false false = refl

  then_emptied : (q p : ℕ) (ps : List Atom) → (any emptied ps || empty_then log q p cells) ≡ any emptied (add_negated (then_at q log p) ps)
  then_emptied zero p ps = or_swap (any emptied ps) false
  then_emptied (suc q) p ps = or_swap (any emptied ps) (empty_then log (suc q) p cells) ∙ ap (λ b. b || any emptied ps) (empty_left cells bs atoms agrees (nat_at log p))

-- every atom of a fact that was read names one of the variables
fact_named : (v : ℕ) (log : List ℤ) (f : FactPlace) → FactIn v log f → (a : Atom) → In a (box_of (fact_of log f)) → a.variable < v
fact_named v log f i a m = go f.consequent.many i.one i.consequence m
  where
    premise : In a (each_at atom_at 3 f.premises.many log f.premises.from) → a.variable < v
    premise m =
        let (j, h, e) = in_at (atom_at log 0) m in
        let l : j < f.premises.many = omega (arith, length_each atom_at 3 f.premises.many log f.premises.from) in
        let q = get_or_each atom_at 3 f.premises.many log f.premises.from j (atom_at log 0) l in
        subst (λ c. c.variable < v) (sym q ∙ e) (i.premise j l).named.known

    go : (q : ℕ) → q ≤ 1 → (q ≡ 1 → AtomIn v log f.consequent.from) → In a (add_negated (then_at q log f.consequent.from) (each_at atom_at 3 f.premises.many log f.premises.from)) → a.variable < v
    go zero l c m = premise m
    go (suc zero) l c (here e) = subst (λ x. x.variable < v) (sym e) (c refl).named.known
    go (suc zero) l c (there m) = premise m
    go (suc (suc q)) l c m = absurd (omega arith)

pub box_empty_is : (log cells : List ℤ) (bs : List Bounds) (f : FactPlace) → FactIn (length bs) log f → Agrees cells bs (box_of (fact_of log f))
    → box_empty log f cells ≡ any_empty bs (box_of (fact_of log f)) (length bs)
box_empty_is log cells bs f i a =
    ap (λ b. b || empty_then log f.consequent.many f.consequent.from cells) (each_emptied log cells bs (box_of (fact_of log f)) a f.premises.many f.premises.from)
    ∙ then_emptied log cells bs (box_of (fact_of log f)) a f.consequent.many f.consequent.from (each_at atom_at 3 f.premises.many log f.premises.from)
    ∙ sym (empty_is bs (box_of (fact_of log f)) (fact_named (length bs) log f i))
