-- What an atom does to a box: its variable keeps the values that meet it, every other variable keeps all, and the table stays a box.
use Rattle.std.specs.Prelude.{◌≡◌, refl, ◌≢◌, Bool, true, not, ◌&&◌, ◌||◌, ℕ, suc, ◌+◌, ◌≤◌, ◌<◌, ltb, eqb, ◌+ℤ◌, ◌-ℤ◌, set, ◌≤ℤ◌, ◌<ℤ◌}
use Rattle.std.proofs.Common.{sym, ◌∙◌, arith, ltb-true, ltb-false, eqb-true}
use Rattle.std.proofs.Math.Path.{ap, ap₂, fun_ext}
use Rattle.std.proofs.Math.Logic.{⊎_elim}
use Rattle.std.proofs.Math.Bool.{false}
use Rattle.std.specs.Prelude.{Option, None, Some}
use mathlib.Core.List.Memᴰ.{not-nil as not-in-nil}
use mathlib.Core.List.{List, [], ◌∷◌, Memᴰ as In}
use Rattle.std.proofs.lemmas.Bool.{not-true, eqb-false}
use Rattle.std.proofs.Math.IntN.{ℤ, pos, nat_abs}
use Rattle.std.proofs.Math.ListN.{length, get_or, length-set}
use Rattle.std.proofs.Math.Seq.{get_or-set_same, get_or-set_other}
use Rattle.std.proofs.lemmas.List.{set-get_or}
use Rattle.std.specs.Int.Signed.{le_z, lt_z}
use Rattle.words.specs.Int.{zz, sum, diff, ne_read, eq_z, eq_z_eq, eq_z_refl, eq_z_t, eq_z_f}
use Rattle.words.specs.Words.{in_z}
use Rattle.words.specs.Lists.{keep, least, largest}
use Rattle.words.specs.ListFacts.{tested, clash, not_not, same_test, and_true, and_both, or_none_lem, le_of, of_le, Rising, keep_rising, keep_in, in_keep, least_in, least_below, largest_in, largest_above}
use Rattle.domain.specs.Sets.{rising_same, keep_agree, keep_every, without, without_rising, in_without, without_in, end_of, no_member, first_of, last_of, first_from, last_to, only_of, or_none, but, first_kept, last_kept, first_from_in, last_to_in, only_last}
use Rattle.domain.specs.Sides.{from_on}
use Rattle.domain.specs.Box.{variables, holes, low_place, high_place, hole_place, low_of, high_of, Formed, Tight, is_hole, values, values_known, values_beyond, values_rising, is_left, left_is, stands, by_other, each_relation}
use Rattle.domain.specs.Box.Walk.{hole_step}
use Rattle.domain.specs.Box.Same.{hole_same, values_same}
use Rattle.domain.specs.Box.Answers.{first_is, last_is, ends_first, ends_last}
use Rattle.domain.specs.declared.relation.Relation.{Relation}
use Rattle.domain.specs.Relations.{code, relation_of, by_code, stands_code}
use Rattle.narrowing.specs.Narrow.{Room, between, bounded, excluded, holed, inside, marked, narrowed, opposite, put, shifted, squeezed, standing}

-- ---- a relation's opposite says the contrary
pub stands_opposite : (r a v : ℤ) → stands (opposite r) (shifted r a) v ≡ not (stands r a v)
stands_opposite r a v =
    each_relation (λ r. stands (opposite r) (shifted r a) v ≡ not (stands r a v)) r (flip (le_z v a) (le_z (a +ℤ pos 1) v) (λ t. omega (arith, zz, sum a (pos 1))) (λ t. omega (arith, zz, sum a (pos 1))))
    (flip (le_z a v) (le_z v (a -ℤ pos 1)) (λ t. omega (arith, zz, diff a (pos 1))) (λ t. omega (arith, zz, diff a (pos 1))))
    refl
    (λ e f g. rw (e, f, g) (sym (not_not (eq_z v a))))
  where
    flip : (s t : Bool) → (s ≡ true → t ≡ false) → (s ≡ false → t ≡ true) → t ≡ not s
    flip true t f g = f refl
    flip false t f g = g refl

-- ---- both ends are set
module _ (cells : List ℤ) (x : ℕ) (a b : ℤ) where
  put_word : (i : ℕ) → i ≢ low_place x → i ≢ high_place x → get_or (put cells x a b) i (pos 0) ≡ get_or cells i (pos 0)
  put_word i l h = get_or-set_other (set cells (low_place x) a) (high_place x) i b (pos 0) h ∙ get_or-set_other cells (low_place x) i a (pos 0) l

  put_length : length (put cells x a b) ≡ length cells
  put_length = simp length-set

  put_first : get_or (put cells x a b) 0 (pos 0) ≡ get_or cells 0 (pos 0)
  put_first = put_word 0 (omega arith) (omega arith)

  put_second : get_or (put cells x a b) 1 (pos 0) ≡ get_or cells 1 (pos 0)
  put_second = put_word 1 (omega arith) (omega arith)

  put_room : (k : ℕ) → Room cells k → Room (put cells x a b) k
  put_room k r = record { fits = rw (put_first, put_second, put_length) r.fits; counted = rw put_second r.counted }

  module _ (known : x < variables cells) where
    put_holes : (y : ℕ) (v : ℤ) → is_hole (put cells x a b) y v ≡ is_hole cells y v
    put_holes y v = rw (put_first, put_second) (hole_same cells (put cells x a b) (variables cells) (holes cells) y v (λ i l m. put_word i (omega arith) (omega arith)))

    module _ (y : ℕ) (n : y ≢ x) where
      put_other_low : low_of (put cells x a b) y ≡ low_of cells y
      put_other_low = put_word (low_place y) (omega arith) (omega arith)

      put_other_high : high_of (put cells x a b) y ≡ high_of cells y
      put_other_high = put_word (high_place y) (omega arith) (omega arith)

      put_others : values (put cells x a b) y ≡ values cells y
      put_others = values_same cells (put cells x a b) y (ap nat_abs put_first) put_other_low put_other_high (put_holes y)

    module _ (inside : high_place x < length cells) where
      put_low : low_of (put cells x a b) x ≡ a
      put_low = get_or-set_other (set cells (low_place x) a) (high_place x) (low_place x) b (pos 0) (omega arith) ∙ get_or-set_same cells (low_place x) a (pos 0) (omega arith)

      put_high : high_of (put cells x a b) x ≡ b
      put_high = get_or-set_same (set cells (low_place x) a) (high_place x) b (pos 0) (simp length-set inside)

      put_own : values (put cells x a b) x ≡ without (is_hole cells x) a b
      put_own = values_known (put cells x a b) x (rw put_first known) ∙ rw (put_low, put_high) (ap (λ (h : ℤ → Bool). without h a b) (fun_ext (put_holes x)))

put_same : (cells d : List ℤ) (x : ℕ) → low_of d x ≡ low_of cells x → high_of d x ≡ high_of cells x → put d x (low_of cells x) (high_of cells x) ≡ d
put_same cells d x l h = rw (← l, ← h) (ap (λ e. set e (high_place x) (high_of d x)) (set-get_or d (low_place x) (pos 0)) ∙ set-get_or d (high_place x) (pos 0))

-- whatever the ends are
bounded_put : (P : List ℤ → Type 0) (cells : List ℤ) (x : ℕ) (l g : Option ℤ) → ((a b : ℤ) → P (put cells x a b)) → P (bounded cells x l g)
bounded_put P cells x None g h = h (pos 1) (pos 0)
bounded_put P cells x (Some a) None h = h (pos 1) (pos 0)
bounded_put P cells x (Some a) (Some b) h = h a b

-- ---- one more hole
module _ (cells : List ℤ) (x : ℕ) (a : ℤ) (room : Room cells 1) where
  abbrev n : ℕ
  n = variables cells

  abbrev spot : ℕ
  spot = hole_place n (holes cells)

  abbrev written : List ℤ
  written = set (set cells spot (pos x)) (spot + 1) a

  holed_word : (i : ℕ) → i ≢ 1 → i ≢ spot → i ≢ spot + 1 → get_or (holed cells x a) i (pos 0) ≡ get_or cells i (pos 0)
  unfolding holed
  holed_word i h k l = get_or-set_other written 1 i (pos (holes cells + 1)) (pos 0) h ∙ get_or-set_other (set cells spot (pos x)) (spot + 1) i a (pos 0) l ∙ get_or-set_other cells spot i (pos x) (pos 0) k

  holed_variable : get_or (holed cells x a) spot (pos 0) ≡ pos x
  unfolding holed
  holed_variable =
      get_or-set_other written 1 spot (pos (holes cells + 1)) (pos 0) (omega arith)
      ∙ get_or-set_other (set cells spot (pos x)) (spot + 1) spot a (pos 0) (omega arith)
      ∙ get_or-set_same cells spot (pos x) (pos 0) (omega (arith, room.fits))

  holed_value : get_or (holed cells x a) (spot + 1) (pos 0) ≡ a
  unfolding holed
  holed_value = get_or-set_other written 1 (spot + 1) (pos (holes cells + 1)) (pos 0) (omega arith) ∙ get_or-set_same (set cells spot (pos x)) (spot + 1) a (pos 0) (simp length-set (omega (arith, room.fits)))

  holed_count : get_or (holed cells x a) 1 (pos 0) ≡ pos (holes cells + 1)
  unfolding holed
  holed_count = get_or-set_same written 1 (pos (holes cells + 1)) (pos 0) (simp length-set (omega (arith, room.fits)))

  holed_length : length (holed cells x a) ≡ length cells
  unfolding holed
  holed_length = simp length-set

  holed_first : get_or (holed cells x a) 0 (pos 0) ≡ get_or cells 0 (pos 0)
  holed_first = holed_word 0 (omega arith) (omega arith) (omega arith)

  holed_holes : (y : ℕ) (v : ℤ) → is_hole (holed cells x a) y v ≡ ((eq_z (pos x) (pos y) && eq_z a v) || is_hole cells y v)
  holed_holes y v =
      rw (holed_first, holed_count, hole_step (holed cells x a) n y v (holes cells), holed_variable, holed_value, hole_same cells (holed cells x a) n (holes cells) y v (λ i l m. holed_word i (omega arith) (omega arith) (omega arith)))

-- a table that has at most one hole more, a of x, where c says so
record Marks (cells d : List ℤ) (x : ℕ) (a : ℤ) (c : Bool) : Type 0 where
  first : get_or d 0 (pos 0) ≡ get_or cells 0 (pos 0)
  long : length d ≡ length cells
  ends : (i : ℕ) → 2 ≤ i → i < hole_place (variables cells) 0 → get_or d i (pos 0) ≡ get_or cells i (pos 0)
  counted : pos 0 ≤ℤ get_or cells 1 (pos 0) → pos 0 ≤ℤ get_or d 1 (pos 0)
  few : holes d ≤ holes cells + 1
  are : (y : ℕ) (v : ℤ) → is_hole d y v ≡ ((c && (eq_z (pos x) (pos y) && eq_z a v)) || is_hole cells y v)

marks : (cells : List ℤ) (x : ℕ) (a : ℤ) (c : Bool) → Room cells 1 → Marks cells (marked cells x a c) x a c
marks cells x a true room =
    record {
      first = holed_first cells x a room;
      long = holed_length cells x a room;
      ends = λ i l m. holed_word cells x a room i (omega arith) (omega arith) (omega arith);
      counted = λ h. rw (holed_count cells x a room) (omega (arith, zz));
      few = rw (holed_count cells x a room) (omega arith);
      are = holed_holes cells x a room;
    }
marks cells x a false room = record { first = refl; long = refl; ends = λ i l m. refl; counted = λ h. h; few = omega arith; are = λ y v. refl }

marked_length : (cells : List ℤ) (x : ℕ) (a : ℤ) (c : Bool) → length (marked cells x a c) ≡ length cells
unfolding holed
marked_length cells x a true = simp length-set
marked_length cells x a false = refl

other_hole : (cells : List ℤ) (x : ℕ) (a : ℤ) (d : List ℤ) (y : ℕ) (c : Bool) → ((y : ℕ) (v : ℤ) → is_hole d y v ≡ ((c && (eq_z (pos x) (pos y) && eq_z a v)) || is_hole cells y v)) → y ≢ x → (v : ℤ) → is_hole d y v ≡ is_hole cells y v
other_hole cells x a d y c are n v = are y v ∙ rw (eq_z_f {a = pos x} {b = pos y} (λ q. n (omega (arith, zz)))) (never c)
  where
    never : (c : Bool) → ((c && false) || is_hole cells y v) ≡ is_hole cells y v
    never true = refl
    never false = refl

-- ---- what stands to a in a relation, between two that do
other_than : (r a v : ℤ) → eq_z r (pos 1) ≡ false → eq_z r (pos 2) ≡ false → eq_z r (pos 3) ≡ false → stands r a v ≡ true → v ≡ a → ⊥
other_than r a v e f g t q = clash (eq_z_t {a = v} {b = a} q) (not-true (eq_z v a) (sym (by_other (le_z v a) (le_z a v) (eq_z v a) (not (eq_z v a)) r e f g) ∙ t))

stands_between : (r a p v q : ℤ) → stands r a p ≡ true → stands r a q ≡ true → p ≤ℤ v → v ≤ℤ q
    → (eq_z r (pos 1) ≡ false → eq_z r (pos 2) ≡ false → eq_z r (pos 3) ≡ false → v ≡ a → ⊥) → stands r a v ≡ true
stands_between r a p v q =
    each_relation (λ r. stands r a p ≡ true → stands r a q ≡ true → p ≤ℤ v → v ≤ℤ q → (eq_z r (pos 1) ≡ false → eq_z r (pos 2) ≡ false → eq_z r (pos 3) ≡ false → v ≡ a → ⊥) → stands r a v ≡ true) r
    (λ s t h k n. omega (arith, zz))
    (λ s t h k n. omega (arith, zz))
    (λ s t h k n. let e = eq_z_eq p a s in let f = eq_z_eq q a t in eq_z_t {a = v} {b = a} (omega (arith, zz)))
    (λ e f g s t h k n. by_other (le_z v a) (le_z a v) (eq_z v a) (not (eq_z v a)) r e f g ∙ ap not (eq_z_f {a = v} {b = a} (n e f g)))

-- ---- the table after an atom
pub holed_is : (cells : List ℤ) (x : ℕ) (a : ℤ) → holed cells x a ≡ set (set (set cells (hole_place (variables cells) (holes cells)) (pos x)) (hole_place (variables cells) (holes cells) + 1) a) 1 (pos (holes cells + 1))
unfolding holed
holed_is cells x a = refl

module _ (cells : List ℤ) (x : ℕ) (r a : ℤ) where
  abbrev d : List ℤ
  d = marked cells x a (inside cells x r a)

  abbrev left : List ℤ
  left = standing cells x r a

  pub narrowed_length : length (narrowed cells x r a) ≡ length cells
  unfolding narrowed
  narrowed_length = bounded_put (λ e. length e ≡ length cells) d x (first_of left) (last_of left) (λ p q. put_length d x p q ∙ marked_length cells x a (inside cells x r a))

  module _ (room : Room cells 1) where
    d_marks : Marks cells d x a (inside cells x r a)
    d_marks = marks cells x a (inside cells x r a) room

    pub narrowed_variables : variables (narrowed cells x r a) ≡ variables cells
    unfolding narrowed
    narrowed_variables = bounded_put (λ e. variables e ≡ variables cells) d x (first_of left) (last_of left) (λ p q. ap nat_abs (put_first d x p q ∙ d_marks.first))

    pub narrowed_room : (k : ℕ) → Room cells (suc k) → Room (narrowed cells x r a) k
    unfolding narrowed
    narrowed_room k s =
        let m = d_marks in
        let few = m.few in
        let less : Room d k = record { fits = rw (m.first, m.long) (omega (arith, s.fits)); counted = omega (arith, s.counted) } in
        bounded_put (λ e. Room e k) d x (first_of left) (last_of left) (λ p q. put_room d x p q k less)

    module _ (formed : Formed cells) (known : x < variables cells) where
      d_known : x < variables d
      d_known = rw d_marks.first known

      d_high_in : high_place x < length d
      d_high_in = rw d_marks.long (omega (arith, formed.fits))

      -- what is left is no hole
      left_free : {v : ℤ} → In v left → is_hole d x v ≡ false
      left_free {v} i =
          let k = in_keep (stands r a) (values cells x) i in
          d_marks.are x v
          ∙ rw ((is_left cells x k.0).free, eq_z_refl (pos x)) (or_false (inside cells x r a) (eq_z a v) (λ t. eq_z_f {a = a} {b = v} (λ q. not_inside t k.1 (sym q))))
        where
          or_false : (c e : Bool) → (c ≡ true → e ≡ false) → ((c && (true && e)) || false) ≡ false
          or_false true e h = rw (h refl)
          or_false false e h = refl

          not_inside : inside cells x r a ≡ true → stands r a v ≡ true → v ≡ a → ⊥
          not_inside = each_relation (λ r. inside cells x r a ≡ true → stands r a v ≡ true → v ≡ a → ⊥) r (λ t. clash t refl) (λ t. clash t refl) (λ t. clash t refl) (λ e f g t s q. other_than r a v e f g s q)

      -- and what is no hole between two that are left is left
      free_left : {p v q : ℤ} → In p left → In q left → p ≤ℤ v → v ≤ℤ q → is_hole d x v ≡ false → In v left
      free_left {p} {v} {q} i j h k e =
          let m = in_keep (stands r a) (values cells x) i in
          let n = in_keep (stands r a) (values cells x) j in
          let lp = is_left cells x m.0 in
          let lq = is_left cells x n.0 in
          let b = lp.above in
          let u = lq.under in
          let o = or_none_lem (inside cells x r a && (eq_z (pos x) (pos x) && eq_z a v)) (is_hole cells x v) (sym (d_marks.are x v) ∙ e) in
          keep_in (stands r a) (values cells x) (left_is cells x (record { known = known; above = omega (arith, zz); under = omega (arith, zz); free = o.1 }))
          (stands_between r a p v q m.1 n.1 h k (λ e1 e2 e3 w. not_a o.0 m.1 n.1 b u e1 e2 e3 w))
        where
          not_a : inside cells x r a && (eq_z (pos x) (pos x) && eq_z a v) ≡ false → stands r a p ≡ true → stands r a q ≡ true → low_of cells x ≤ℤ p → q ≤ℤ high_of cells x
              → eq_z r (pos 1) ≡ false → eq_z r (pos 2) ≡ false → eq_z r (pos 3) ≡ false → v ≡ a → ⊥
          not_a z s t b u e1 e2 e3 w =
              let np : p ≡ a → ⊥ = other_than r a p e1 e2 e3 s in
              let nq : q ≡ a → ⊥ = other_than r a q e1 e2 e3 t in
              let c : inside cells x r a ≡ true = by_other false false false (between cells x a) r e1 e2 e3 ∙ and_both (lt_z (low_of cells x) a) (lt_z a (high_of cells x)) (omega (arith, zz, ne_read np)) (omega (arith, zz, ne_read nq)) in
              clash (and_both (inside cells x r a) (eq_z (pos x) (pos x) && eq_z a v) c (and_both (eq_z (pos x) (pos x)) (eq_z a v) (eq_z_refl (pos x)) (eq_z_t {a = a} {b = v} (sym w)))) z

      left_rising : Rising left
      left_rising = keep_rising (stands r a) (values cells x) (values_rising cells x)

      -- the atom's variable keeps the values that meet it
      pub narrowed_own : values (narrowed cells x r a) x ≡ keep (stands r a) (values cells x)
      unfolding narrowed
      narrowed_own = go left left_rising (λ v. left_free {v = v}) (λ p v q. free_left {p = p} {v = v} {q = q})
        where
          go : (vs : List ℤ) → Rising vs → ((v : ℤ) → In v vs → is_hole d x v ≡ false) → ((p v q : ℤ) → In p vs → In q vs → p ≤ℤ v → v ≤ℤ q → is_hole d x v ≡ false → In v vs)
              → values (bounded d x (first_of vs) (last_of vs)) x ≡ vs
          go [] s f g = put_own d x (pos 1) (pos 0) d_known d_high_in ∙ rising_same (without (is_hole d x) (pos 1) (pos 0)) [] (without_rising (is_hole d x) (pos 1) (pos 0)) tt (λ v i. let m = in_without (is_hole d x) (pos 1) (pos 0) i in absurd (omega (arith, zz, m.0, m.1))) (λ v i. absurd (not-in-nil i))
          go (u ∷ us) s f g =
              put_own d x u (largest (u ∷ us)) d_known d_high_in
              ∙ rising_same (without (is_hole d x) u (largest (u ∷ us))) (u ∷ us) (without_rising (is_hole d x) u (largest (u ∷ us))) s
              (λ v i. let m = in_without (is_hole d x) u (largest (u ∷ us)) i in g u v (largest (u ∷ us)) (least_in u us) (largest_in u us) m.0 m.1 m.2)
              (λ v i. without_in (is_hole d x) u (largest (u ∷ us)) (least_below {vs = u ∷ us} s i) (largest_above (u ∷ us) s i) (f v i))

      -- every other variable keeps all
      pub narrowed_others : (y : ℕ) → y ≢ x → values (narrowed cells x r a) y ≡ values cells y
      unfolding narrowed
      narrowed_others y n =
          bounded_put (λ e. values e y ≡ values cells y) d x (first_of left) (last_of left)
          (λ p q. put_others d x p q d_known y n ∙ ⊎_elim (λ t. d_others (ltb-true y (variables cells) t)) (λ t. d_beyond (ltb-false y (variables cells) t)) (tested (ltb y (variables cells))))
        where
          d_others : y < variables cells → values d y ≡ values cells y
          d_others h =
              values_same cells d y (ap nat_abs d_marks.first) (d_marks.ends (low_place y) (omega arith) (omega arith)) (d_marks.ends (high_place y) (omega arith) (omega arith))
              (λ v. other_hole cells x a d y (inside cells x r a) d_marks.are n v)

          d_beyond : variables cells ≤ y → values d y ≡ values cells y
          d_beyond h = values_beyond d y (rw d_marks.first h) ∙ sym (values_beyond cells y h)

      -- and the table stays a box
      pub narrowed_formed : Formed (narrowed cells x r a)
      unfolding narrowed
      narrowed_formed =
          record {
            some_variables = bounded_put (λ e. pos 0 ≤ℤ get_or e 0 (pos 0)) d x (first_of left) (last_of left) (λ p q. rw (put_first d x p q, d_marks.first) formed.some_variables);
            some_holes = bounded_put (λ e. pos 0 ≤ℤ get_or e 1 (pos 0)) d x (first_of left) (last_of left) (λ p q. rw (put_second d x p q) (d_marks.counted formed.some_holes));
            fits = bounded_put (λ e. hole_place (variables e) (holes e) ≤ length e) d x (first_of left) (last_of left) (λ p q. let few = d_marks.few in rw (put_first d x p q, put_second d x p q, put_length d x p q, d_marks.first, d_marks.long) (omega (arith, room.fits)));
            tight = λ y h. ⊎_elim (λ t. rw (eqb-true y x t) (own left left_rising (λ v. left_free {v = v}))) (λ t. others y (rw (← narrowed_variables) h) (eqb-false y x t)) (tested (eqb y x));
          }
        where
          own : (vs : List ℤ) → Rising vs → ((v : ℤ) → In v vs → is_hole d x v ≡ false) → Tight (bounded d x (first_of vs) (last_of vs)) x
          own [] s f = λ h. absurd (crossed (rw (put_low d x (pos 1) (pos 0) d_known d_high_in, put_high d x (pos 1) (pos 0) d_known d_high_in) at h))
            where
              crossed : pos 1 ≤ℤ pos 0 → ⊥
              crossed h = omega (arith, zz)
          own (u ∷ us) s f = λ h. (own_free (low_of (put d x u (largest (u ∷ us))) x) (put_low d x u (largest (u ∷ us)) d_known d_high_in) (least_in u us), own_free (high_of (put d x u (largest (u ∷ us))) x) (put_high d x u (largest (u ∷ us)) d_known d_high_in) (largest_in u us))
            where
              own_free : (w : ℤ) {v : ℤ} → w ≡ v → In v (u ∷ us) → is_hole (put d x u (largest (u ∷ us))) x w ≡ false
              own_free w {v} e i = put_holes d x u (largest (u ∷ us)) d_known x w ∙ ap (is_hole d x) e ∙ f v i

          others : (y : ℕ) → y < variables cells → y ≢ x → Tight (bounded d x (first_of left) (last_of left)) y
          others y h n =
              bounded_put (λ e. Tight e y) d x (first_of left) (last_of left)
              (λ p q k.
              let l : low_of (put d x p q) y ≡ low_of cells y = put_other_low d x p q d_known y n ∙ d_marks.ends (low_place y) (omega arith) (omega arith) in
              let g : high_of (put d x p q) y ≡ high_of cells y = put_other_high d x p q d_known y n ∙ d_marks.ends (high_place y) (omega arith) (omega arith) in
              let t = formed.tight y h (rw (l, g) at k) in
              (same p q (low_of (put d x p q) y) l t.0, same p q (high_of (put d x p q) y) g t.1))
            where
              same : (p q w : ℤ) {v : ℤ} → w ≡ v → is_hole cells y v ≡ false → is_hole (put d x p q) y w ≡ false
              same p q w {v} e f = put_holes d x p q d_known y w ∙ other_hole cells x a d y (inside cells x r a) d_marks.are n w ∙ ap (is_hole cells y) e ∙ f

-- ---- the ends once a value is taken away
module _ (cells : List ℤ) (x : ℕ) (a : ℤ) where
  but_low : a ≡ low_of cells x → keep (le_z (a +ℤ pos 1)) (values cells x) ≡ but a (values cells x)
  but_low e = (keep_agree (le_z (a +ℤ pos 1)) (λ v. not (eq_z v a)) (values cells x) (λ v i. above v (is_left cells x i).above))
    where
      above : (v : ℤ) → low_of cells x ≤ℤ v → le_z (a +ℤ pos 1) v ≡ not (eq_z v a)
      above v h =
          same_test (le_z (a +ℤ pos 1) v) (not (eq_z v a)) (λ t. let l = le_of (a +ℤ pos 1) v t in ap not (eq_z_f {a = v} {b = a} (λ q. omega (arith, zz))))
          (λ t. let n : v ≡ a → ⊥ = λ q. clash (eq_z_t q) (not-true (eq_z v a) t) in of_le {v = a +ℤ pos 1} {w = v} (omega (arith, zz, ne_read n)))

  but_high : a ≡ high_of cells x → keep (λ v. le_z v (a -ℤ pos 1)) (values cells x) ≡ but a (values cells x)
  but_high e = (keep_agree (λ v. le_z v (a -ℤ pos 1)) (λ v. not (eq_z v a)) (values cells x) (λ v i. under v (is_left cells x i).under))
    where
      under : (v : ℤ) → v ≤ℤ high_of cells x → le_z v (a -ℤ pos 1) ≡ not (eq_z v a)
      under v h =
          same_test (le_z v (a -ℤ pos 1)) (not (eq_z v a)) (λ t. let l = le_of v (a -ℤ pos 1) t in ap not (eq_z_f {a = v} {b = a} (λ q. omega (arith, zz, diff a (pos 1)))))
          (λ t. let n : v ≡ a → ⊥ = λ q. clash (eq_z_t q) (not-true (eq_z v a) t) in of_le {v = v} {w = a -ℤ pos 1} (omega (arith, zz, ne_read n, diff a (pos 1))))

  -- it is the only one
  but_alone : low_of cells x ≡ a → high_of cells x ≤ℤ a → (f : List ℤ → ℤ) → end_of f (but a (values cells x)) ≡ None
  but_alone e h f = no_member f (but a (values cells x)) (λ v i. other v i)
    where
      other : (v : ℤ) → In v (but a (values cells x)) → ⊥
      other v i =
          let k = in_keep (λ v. not (eq_z v a)) (values cells x) i in
          let l = is_left cells x k.0 in
          let p = l.above in
          let q = l.under in
          clash (eq_z_t {a = v} {b = a} (omega (arith, zz))) (not-true (eq_z v a) k.1)

  -- it is none of them
  but_outside : in_z (low_of cells x) (high_of cells x) a ≡ false → but a (values cells x) ≡ values cells x
  but_outside e = keep_every (λ v. not (eq_z v a)) (values cells x) (λ v i. ap not (eq_z_f {a = v} {b = a} (λ q. other v i q)))
    where
      other : (v : ℤ) → In v (values cells x) → v ≡ a → ⊥
      other v i q =
          let l = is_left cells x i in
          let p = l.above in
          let m = l.under in
          clash (and_both (le_z (low_of cells x) a) (le_z a (high_of cells x)) (omega (arith, zz)) (omega (arith, zz))) e

  -- the other end stays
  module _ (formed : Formed cells) (known : x < variables cells) (some_left : low_of cells x ≤ℤ high_of cells x) where
    but_first : low_of cells x <ℤ a → first_of (but a (values cells x)) ≡ Some (low_of cells x)
    but_first h =
        let e = first_is cells x formed known some_left in
        first_kept (λ v. not (eq_z v a)) (values cells x) (λ u q. let s : Some u ≡ Some (low_of cells x) = sym q ∙ sym e in ap not (eq_z_f {a = u} {b = a} (λ w. differs u (cc) w))) ∙ sym e
      where
        differs : (u : ℤ) → u ≡ low_of cells x → u ≡ a → ⊥
        differs u p q = omega (arith, zz)

    but_last : a <ℤ high_of cells x → last_of (but a (values cells x)) ≡ Some (high_of cells x)
    but_last h =
        let e = last_is cells x formed known some_left in
        last_kept (λ v. not (eq_z v a)) (values cells x) (values_rising cells x) (λ u q. let s : Some u ≡ Some (high_of cells x) = sym q ∙ sym e in ap not (eq_z_f {a = u} {b = a} (λ w. differs u (cc) w))) ∙ sym e
      where
        differs : (u : ℤ) → u ≡ high_of cells x → u ≡ a → ⊥
        differs u p q = omega (arith, zz)

-- ---- one end moves: v is the first that is left
module _ (cells : List ℤ) (x : ℕ) (a : ℤ) where
  pub squeezed_none : (up : Bool) → None ≡ from_on up a (values cells x) → put cells x (pos 1) (pos 0) ≡ squeezed cells x up a
  squeezed_none true q = ap (λ l. bounded cells x l (last_of (keep (le_z a) (values cells x)))) q
  squeezed_none false q = go (first_of (keep (λ v. le_z v a) (values cells x))) ∙ ap (bounded cells x (first_of (keep (λ v. le_z v a) (values cells x)))) q
    where
      go : (l : Option ℤ) → put cells x (pos 1) (pos 0) ≡ bounded cells x l None
      go None = refl
      go (Some u) = refl

  module _ (formed : Formed cells) (known : x < variables cells) {v : ℤ} where
    pub squeezed_up : Some v ≡ first_from a (values cells x) → put cells x v (high_of cells x) ≡ squeezed cells x true a
    squeezed_up q =
        let m = first_from_in a (values cells x) (sym q) in
        let l = is_left cells x m.0 in
        let p = l.above in
        let u = l.under in
        let g = last_is cells x formed known (omega (arith, zz)) in
        ap₂ (bounded cells x) q (g ∙ sym (last_kept (le_z a) (values cells x) (values_rising cells x) (λ w h. let s : Some w ≡ Some (high_of cells x) = sym h ∙ sym g in of_le (ahead w (cc) u m.1))))
      where
        ahead : (w : ℤ) → w ≡ high_of cells x → v ≤ℤ high_of cells x → a ≤ℤ v → a ≤ℤ w
        ahead w s p t = omega (arith, zz)

    pub squeezed_down : Some v ≡ last_to a (values cells x) → put cells x (low_of cells x) v ≡ squeezed cells x false a
    squeezed_down q =
        let m = last_to_in a (values cells x) (sym q) in
        let l = is_left cells x m.0 in
        let p = l.above in
        let u = l.under in
        let g = first_is cells x formed known (omega (arith, zz)) in
        ap₂ (bounded cells x) (g ∙ sym (first_kept (λ v. le_z v a) (values cells x) (λ w h. let s : Some w ≡ Some (low_of cells x) = sym h ∙ sym g in of_le (behind w (cc) p m.1)))) q
      where
        behind : (w : ℤ) → w ≡ low_of cells x → low_of cells x ≤ℤ v → v ≤ℤ a → w ≤ℤ a
        behind w s p t = omega (arith, zz)

-- ---- what each relation does to the table
module _ (cells : List ℤ) (x : ℕ) (r a : ℤ) where
  pub narrowed_at_most : r ≡ pos 1 → squeezed cells x false a ≡ narrowed cells x r a
  unfolding narrowed
  narrowed_at_most e = rw e

  pub narrowed_at_least : r ≡ pos 2 → squeezed cells x true a ≡ narrowed cells x r a
  unfolding narrowed
  narrowed_at_least e = rw e

  pub narrowed_equal : r ≡ pos 3 → bounded cells x (only_of a (values cells x)) (only_of a (values cells x)) ≡ narrowed cells x r a
  unfolding narrowed
  narrowed_equal e = rw e (ap (bounded cells x (only_of a (values cells x))) (sym (only_last a (values cells x))))

  pub narrowed_not_equal : eq_z r (pos 1) ≡ false → eq_z r (pos 2) ≡ false → eq_z r (pos 3) ≡ false → excluded cells x a ≡ narrowed cells x r a
  unfolding narrowed
  narrowed_not_equal e f g =
      ap₂ (λ c (p : ℤ → Bool). bounded (marked cells x a c) x (first_of (keep p (values cells x))) (last_of (keep p (values cells x)))) (sym (by_other false false false (between cells x a) r e f g))
      (sym (fun_ext (λ v. by_other (le_z v a) (le_z a v) (eq_z v a) (not (eq_z v a)) r e f g)))

-- ---- a relation by its number does what the number does
module _ (cells : List ℤ) (x : ℕ) (r a : ℤ) {relation : Relation} (e : relation ≡ relation_of r) where
  pub narrowed_code : narrowed cells x (code relation) a ≡ narrowed cells x r a
  unfolding narrowed
  narrowed_code =
      ap₂ (λ c (p : ℤ → Bool). bounded (marked cells x a c) x (first_of (keep p (values cells x))) (last_of (keep p (values cells x)))) (by_code r e _ _ _ _) (fun_ext (stands_code r e a))

  pub narrowed_not_code : narrowed cells x (opposite (code relation)) (shifted (code relation) a) ≡ narrowed cells x (opposite r) (shifted r a)
  narrowed_not_code = ap₂ (narrowed cells x) (by_code r e _ _ _ _) (by_code r e _ _ _ _)

-- ---- a value is taken away: outside the ends, between them, at the low end, at the high end, the only one
module _ (cells : List ℤ) (x : ℕ) (a : ℤ) (formed : Formed cells) (known : x < variables cells) where
  pub excluded_outside : in_z (low_of cells x) (high_of cells x) a ≡ false → bounded cells x (or_none (le_z (low_of cells x) (high_of cells x)) (low_of cells x)) (or_none (le_z (low_of cells x) (high_of cells x)) (high_of cells x)) ≡ excluded cells x a
  excluded_outside e =
      ap₂ (bounded cells x) (ends_first cells x formed known ∙ ap first_of (sym (but_outside cells x a e))) (ends_last cells x formed known ∙ ap last_of (sym (but_outside cells x a e)))
      ∙ ap (λ c. bounded (marked cells x a c) x (first_of (but a (values cells x))) (last_of (but a (values cells x)))) (sym (is_not (λ t. both t)))
    where
      is_not : {b : Bool} → (b ≡ true → ⊥) → b ≡ false
      is_not {b = true} f = absurd (f refl)
      is_not {b = false} f = refl

      both : between cells x a ≡ true → ⊥
      both t = let m = and_true (lt_z (low_of cells x) a) (lt_z a (high_of cells x)) t in let p = m.0 in let q = m.1 in clash (and_both (le_z (low_of cells x) a) (le_z a (high_of cells x)) (omega (arith, zz)) (omega (arith, zz))) e

  pub excluded_between : Room cells 1 → low_of cells x <ℤ a → a <ℤ high_of cells x → holed cells x a ≡ excluded cells x a
  excluded_between room h k =
      let s : low_of cells x ≤ℤ high_of cells x = omega (arith, zz) in
      sym (ap₂ (bounded (marked cells x a (between cells x a)) x) (but_first cells x a formed known s h) (but_last cells x a formed known s k)
      ∙ ap (λ c. put (marked cells x a c) x (low_of cells x) (high_of cells x)) (and_both (lt_z (low_of cells x) a) (lt_z a (high_of cells x)) (omega (arith, zz)) (omega (arith, zz)))
      ∙ put_same cells (holed cells x a) x (holed_word cells x a room (low_place x) (omega arith) (omega arith) (omega arith)) (holed_word cells x a room (high_place x) (omega arith) (omega arith) (omega arith)))

  -- an end is taken away: what is left begins one further
  not_marked : between cells x a ≡ false → bounded cells x (first_of (but a (values cells x))) (last_of (but a (values cells x))) ≡ excluded cells x a
  not_marked n = ap (λ c. bounded (marked cells x a c) x (first_of (but a (values cells x))) (last_of (but a (values cells x)))) (sym n)

  pub excluded_low : a ≡ low_of cells x → squeezed cells x true (a +ℤ pos 1) ≡ excluded cells x a
  excluded_low e = ap (λ l. bounded cells x (first_of l) (last_of l)) (but_low cells x a e) ∙ not_marked (ap (λ b. b && lt_z a (high_of cells x)) not_above)
    where
      not_above : lt_z (low_of cells x) a ≡ false
      not_above = omega (arith, zz)

  pub excluded_high : a ≡ high_of cells x → squeezed cells x false (a -ℤ pos 1) ≡ excluded cells x a
  excluded_high e = ap (λ l. bounded cells x (first_of l) (last_of l)) (but_high cells x a e) ∙ not_marked (ap (λ b. lt_z (low_of cells x) a && b) not_under ∙ and_no (lt_z (low_of cells x) a))
    where
      not_under : lt_z a (high_of cells x) ≡ false
      not_under = omega (arith, zz)

      and_no : (b : Bool) → (b && false) ≡ false
      and_no true = refl
      and_no false = refl

  pub excluded_alone : a ≡ low_of cells x → high_of cells x ≤ℤ a → put cells x (pos 1) (pos 0) ≡ excluded cells x a
  excluded_alone e k =
      sym (ap₂ (λ c l. bounded (marked cells x a c) x l (last_of (but a (values cells x)))) (ap (λ b. b && lt_z a (high_of cells x)) not_above) (but_alone cells x a (sym e) k least))
    where
      not_above : lt_z (low_of cells x) a ≡ false
      not_above = omega (arith, zz)

-- room for some is room for fewer
pub room_less : (cells : List ℤ) {k n : ℕ} → k ≤ n → Room cells n → Room cells k
room_less cells h r = record { fits = omega (arith, r.fits); counted = omega (arith, r.counted) }

pub room_one : (cells : List ℤ) (k : ℕ) → Room cells (suc k) → Room cells 1
room_one cells k r = room_less cells (omega arith) r
