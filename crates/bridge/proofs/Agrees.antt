-- A table leaves to every variable what the meaning says is left: from loading the declared bounds on, through every atom.
use Rattle.std.specs.Prelude.{◌≡◌, refl, Bool, false, List, [], ◌∷◌, ◌++◌, ℕ, zero, suc, ◌+◌, ◌*◌, ◌≤◌, ◌<◌, eqb, ltb, ℤ, pos, length, get_or, ◌≤ℤ◌}
use Rattle.std.proofs.Common.{sym, ap, subst, ◌∙◌, ⊎_elim, append-nil, append_assoc, arith, eqb-true, ltb-true, ltb-false}
use Rattle.std.proofs.Math.Path.{fun_ext}
use Rattle.std.proofs.lemmas.Bool.{eqb-false}
use Rattle.words.specs.Lists.{keep, All, empty, also}
use Rattle.words.specs.ListFacts.{tested, each_at_lem, le_of}
use Rattle.domain.specs.Sets.{from_to, from_to_span}
use Rattle.domain.specs.Box.{variables, values, values_beyond, stands}
use Rattle.narrowing.specs.Load.{loaded, loaded_variables, loaded_formed, loaded_values}
use Rattle.narrowing.specs.Narrow as D
use Rattle.narrowing.specs.Narrow.{Room, narrowed}
use Rattle.narrowing.proofs.NarrowFacts.{narrowed_variables, narrowed_formed, narrowed_room, narrowed_own, narrowed_others, room_less, room_one}
use Rattle.meaning.specs.Model.{Bounds}
use Rattle.meaning.specs.Log.{Atom}
use Rattle.meaning.specs.Box.{negated, declared, left}
use Rattle.meaning.proofs.Proved.ReadModel.{KnownBounds}
use Rattle.meaning.proofs.Proved.Narrow.{left_own, left_other}
use Rattle.reading.specs.At.{At, each_at, get_or_each}
use Rattle.model.specs.Rows.{bounds_at}
use Rattle.bridge.specs.Relations.{number, atom_of}
use Rattle.bridge.proofs.Relations.{number_back, stands_number, negated_atom, opposite_in}
use Rattle.bridge.specs.Lefts.{declared_known, left_beyond, left_declared, left_turned}
use Rattle.bridge.specs.Agrees.{Agrees, narrowed_all, narrowed_by}

-- ---- the declared bounds, loaded
module _ (ws : List ℤ) (p : ℕ) (cells : List ℤ) (bs : List Bounds) (given : bs ≡ each_at bounds_at 2 (length bs) ws p) (known : All KnownBounds bs) (fits : 2 * length bs + 2 ≤ length cells) where
  loaded_left : (x : ℕ) → x < length bs → values (loaded ws p (length bs) cells) x ≡ left bs [] x
  loaded_left x h =
      let d : Bounds = record { low = pos 0; high = pos 0 } in
      let e : get_or bs x d ≡ bounds_at ws (p + x * 2) = ap (λ l. get_or l x d) given ∙ get_or_each bounds_at 2 (length bs) ws p x d h in
      let o = le_of (get_or bs x d).low (get_or bs x d).high (each_at_lem d x h known).low_high in
      loaded_values ws p (length bs) cells fits x h
      ∙ subst (λ b. from_to b.low b.high ≡ declared (get_or bs x d)) e (from_to_span (get_or bs x d).low (get_or bs x d).high o)
      ∙ sym (declared_known bs x d h)
      ∙ sym (left_declared bs x)

  pub agrees_loaded : Agrees (loaded ws p (length bs) cells) bs []
  agrees_loaded =
      record {
        formed = loaded_formed ws p (length bs) cells fits;
        counted = loaded_variables ws p (length bs) cells fits;
        same =
            fun_ext λ x.
            ⊎_elim (λ t. loaded_left x (ltb-true x (length bs) t))
            (λ t. let h = ltb-false x (length bs) t in values_beyond (loaded ws p (length bs) cells) x (rw (loaded_variables ws p (length bs) cells fits) h) ∙ sym (left_beyond bs [] x h))
            (tested (ltb x (length bs)));
      }

module _ (cells : List ℤ) (bs : List Bounds) (atoms : List Atom) (c : Atom) (agrees : Agrees cells bs atoms) (room : Room cells 1) (known : c.variable < length bs) where
  below : c.variable < variables cells
  below = rw agrees.counted known

  own : values (narrowed_by cells c) c.variable ≡ left bs (c ∷ atoms) c.variable
  own =
      narrowed_own cells c.variable (number c.relation) c.value room agrees.formed below
      ∙ ap (λ l. keep (stands (number c.relation) c.value) l) (ap (λ (f : ℕ → List ℤ). f c.variable) agrees.same)
      ∙ ap (λ (q : ℤ → Bool). keep q (left bs atoms c.variable)) (fun_ext (λ v. stands_number c.relation c.value v))
      ∙ sym (left_own bs c atoms)

  other : (x : ℕ) → eqb x c.variable ≡ false → values (narrowed_by cells c) x ≡ left bs (c ∷ atoms) x
  other x e =
      narrowed_others cells c.variable (number c.relation) c.value room agrees.formed below x (eqb-false x c.variable e)
      ∙ ap (λ (f : ℕ → List ℤ). f x) agrees.same
      ∙ sym (left_other bs c atoms x e)

  pub agrees_narrowed : Agrees (narrowed_by cells c) bs (c ∷ atoms)
  agrees_narrowed =
      record {
        formed = narrowed_formed cells c.variable (number c.relation) c.value room agrees.formed below;
        counted = narrowed_variables cells c.variable (number c.relation) c.value room ∙ agrees.counted;
        same =
            fun_ext λ x.
            ⊎_elim (λ t. subst (λ y. values (narrowed_by cells c) y ≡ left bs (c ∷ atoms) y) (sym (eqb-true x c.variable t)) own) (other x)
            (tested (eqb x c.variable));
      }

  pub narrowed_less : (k : ℕ) → Room cells (suc k) → Room (narrowed_by cells c) k
  narrowed_less k r = narrowed_room cells c.variable (number c.relation) c.value room k r

-- ---- the order of the atoms says nothing
pub agrees_turned : {cells : List ℤ} {bs : List Bounds} (xs ys : List Atom) → Agrees cells bs (xs ++ ys) → Agrees cells bs (ys ++ xs)
agrees_turned {bs = bs} xs ys a = record { formed = a.formed; counted = a.counted; same = a.same ∙ left_turned bs xs ys }

-- so the new atom may as well come last
pub agrees_last : (cells : List ℤ) (bs : List Bounds) (atoms : List Atom) (c : Atom) → Agrees cells bs atoms → Room cells 1 → c.variable < length bs → Agrees (narrowed_by cells c) bs (atoms ++ (c ∷ []))
agrees_last cells bs atoms c a room known = agrees_turned (c ∷ []) atoms (agrees_narrowed cells bs atoms c a room known)

-- ---- the same by the words of a log, whose relation is one of the four
module _ (cells : List ℤ) (x : ℕ) (r a : ℤ) (from : pos 1 ≤ℤ r) (upto : r ≤ℤ pos 4) where
  pub narrowed_words : narrowed cells x r a ≡ narrowed_by cells (atom_of x r a)
  narrowed_words = ap (λ n. narrowed cells x n a) (sym (number_back r from upto))

  module _ (bs : List Bounds) (atoms : List Atom) (agrees : Agrees cells bs atoms) (room : Room cells 1) (known : x < length bs) where
    pub agrees_words : Agrees (narrowed cells x r a) bs (atom_of x r a ∷ atoms)
    agrees_words = subst (λ d. Agrees d bs (atom_of x r a ∷ atoms)) (sym narrowed_words) (agrees_narrowed cells bs atoms (atom_of x r a) agrees room known)

    pub agrees_words_last : Agrees (narrowed cells x r a) bs (atoms ++ (atom_of x r a ∷ []))
    agrees_words_last = agrees_turned (atom_of x r a ∷ []) atoms agrees_words

-- and by the words of an atom's negation
pub agrees_negated : (cells : List ℤ) (x : ℕ) (r a : ℤ) → pos 1 ≤ℤ r → r ≤ℤ pos 4 → (bs : List Bounds) (atoms : List Atom) → Agrees cells bs atoms → Room cells 1 → x < length bs → Agrees (narrowed cells x (D.opposite r) (D.shifted r a)) bs (negated (atom_of x r a) ∷ atoms)
agrees_negated cells x r a h k bs atoms agrees room known =
    let o = opposite_in r h k in
    subst (λ c. Agrees (narrowed cells x (D.opposite r) (D.shifted r a)) bs (c ∷ atoms)) (negated_atom x r a h k) (agrees_words cells x (D.opposite r) (D.shifted r a) o.0 o.1 bs atoms agrees room known)

pub narrowed_all_last : (cells : List ℤ) (atoms : List Atom) (c : Atom) → narrowed_all cells (atoms ++ (c ∷ [])) ≡ narrowed_by (narrowed_all cells atoms) c
narrowed_all_last cells [] c = refl
narrowed_all_last cells (b ∷ atoms) c = narrowed_all_last (narrowed_by cells b) atoms c

pub agrees_all : (atoms : List Atom) (cells : List ℤ) (bs : List Bounds) (before : List Atom) (k : ℕ) → Agrees cells bs before → Room cells (length atoms + k) → All (λ c. c.variable < length bs) atoms
    → Agrees (narrowed_all cells atoms) bs (before ++ atoms) × Room (narrowed_all cells atoms) k
agrees_all [] cells bs before k a room empty = (subst (Agrees cells bs) (sym (append-nil before)) a, room_less cells (omega arith) room)
agrees_all (c ∷ atoms) cells bs before k a room (also h hs) =
    let more : Room cells (suc (length atoms + k)) = room_less cells (omega arith) room in
    let one = room_one cells (length atoms + k) more in
    let r = agrees_all atoms (narrowed_by cells c) bs (before ++ (c ∷ [])) k (agrees_last cells bs before c a one h) (narrowed_less cells bs before c a one h (length atoms + k) more) hs in
    (subst (Agrees (narrowed_all (narrowed_by cells c) atoms) bs) (append_assoc before (c ∷ []) atoms) r.0, r.1)

-- one more of the things that stand one after the other comes last
pub each_more : {A : Type 0} (f : At A) (k n : ℕ) (s : List ℤ) (p : ℕ) → each_at f k (suc n) s p ≡ each_at f k n s p ++ (f s (p + n * k) ∷ [])
unfolding each_at
each_more f k zero s p = let e : p + 0 * k ≡ p = omega arith in rw e
each_more f k (suc n) s p = let e : (p + k) + n * k ≡ p + suc n * k = omega arith in ap (λ l. f s p ∷ l) (each_more f k n s (p + k) ∙ rw e)
