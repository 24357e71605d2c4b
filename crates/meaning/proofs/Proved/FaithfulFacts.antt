-- `Faithful`: the laws of the box and of the rows brought together, and those of the conclusions and of the recheck.
use Rattle.std.specs.Prelude.{ℕ, zero, suc, ◌<◌, ◌≡◌, refl, true, false, not, ◌&&◌, List, [], ◌∷◌, ◌++◌, eqb, length, get_or, ℤ, pos, ◌≤ℤ◌}
use Rattle.std.proofs.Common.{arith, sym, ap, ap₂, subst, ◌∙◌, ⊎_elim, eqb-true, eq-eqb}
use Rattle.std.proofs.Math.Option.{Option, none, some}
use Rattle.std.specs.Int.Signed.{le_z}
use Rattle.std.proofs.lemmas.Bool.{not-true}
use Rattle.words.specs.Int.{eq_z, eq_z_refl}
use Rattle.words.specs.ListFacts.{clash, tested, and_true, and_both, le_of, of_le, each_at_lem}
use Rattle.meaning.specs.Model.{Bounds, Term, Activity, Row, linear, all_different, cumulative, circuit, Model, term_words, variable_words, activity_words, row_words}
use Rattle.meaning.specs.Log.{Relation, at_most, at_least, equal, not_equal, Atom}
use Rattle.meaning.specs.Box.{left}
use Rattle.meaning.specs.Judge.{row_at, is_at_least, gives_false, gives_at_least}
use Rattle.meaning.specs.Check.{same_words, same_bounds, changes, fits_old}
use Rattle.meaning.specs.Faithful.{RecheckSays, Faithful}
use Rattle.meaning.specs.Ranges.{each, number_table, term_table, activity_table, row_table}
use Rattle.meaning.proofs.Proved.ReadModel.{known_model}
use Rattle.meaning.proofs.Proved.BoxFacts.{left_rising}
use Rattle.meaning.proofs.Proved.SameRows.{same_words_same, same_bounds_same}
use Rattle.meaning.proofs.Proved.BoxSays.{box_says, some_left}
use Rattle.meaning.proofs.Proved.RuleSays.{rule_says, conflict_says}

-- ---- conclusions
false_of : (ps : List Atom) (o : Option Atom) → gives_false ps o ≡ true → (ps ≡ []) × (o ≡ none)
false_of [] none h = (refl, refl)
false_of [] (some c) h = clash h refl
false_of (p ∷ ps) o h = clash h refl

of_false : (ps : List Atom) (o : Option Atom) → (ps ≡ []) × (o ≡ none) → gives_false ps o ≡ true
of_false ps o (e, q) = rw (e, q)

-- "at least w" on x
abbrev floor : ℕ → ℤ → Atom
floor x w = record { variable = x; relation = at_least; value = w }

is_at_least_lem : (r : Relation) → is_at_least r ≡ true → r ≡ at_least
is_at_least_lem at_most h = clash h refl
is_at_least_lem at_least h = refl
is_at_least_lem equal h = clash h refl
is_at_least_lem not_equal h = clash h refl

floor_of : (x : ℕ) (v : ℤ) (ps : List Atom) (o : Option Atom) → gives_at_least x v ps o ≡ true → (ps ≡ []) × ((w : ℤ) × (o ≡ some (floor x w)) × (v ≤ℤ w))
floor_of x v [] none h = clash h refl
floor_of x v (p ∷ ps) o h = clash h refl
floor_of x v [] (some c) h =
    let a = and_true (is_at_least c.relation) (eqb x c.variable && le_z v c.value) h in
    let b = and_true (eqb x c.variable) (le_z v c.value) a.1 in
    let r = is_at_least_lem c.relation a.0 in
    let y = eqb-true x c.variable b.0 in
    (refl, (c.value, ap some (λ i. record { variable = sym y i; relation = r i; value = c.value }), le_of v c.value b.1))

of_floor : (x : ℕ) (v : ℤ) (ps : List Atom) (o : Option Atom) → (ps ≡ []) × ((w : ℤ) × (o ≡ some (floor x w)) × (v ≤ℤ w)) → gives_at_least x v ps o ≡ true
of_floor x v ps o (e, (w, q, l)) = rw (e, q) (and_both (eqb x x) (le_z v w) (eq-eqb x x refl) (of_le l))

-- ---- the recheck: a row's words, as it compares them and as they stand in the table
terms_compared : (ts : List Term) → term_words ts ≡ each term_table ts
terms_compared [] = refl
terms_compared (t ∷ ts) = ap (λ ws. term_table t ++ ws) (terms_compared ts)

variables_compared : (xs : List ℕ) → variable_words xs ≡ each number_table xs
variables_compared [] = refl
variables_compared (x ∷ xs) = ap (λ ws. pos x ∷ ws) (variables_compared xs)

activities_compared : (js : List Activity) → activity_words js ≡ each activity_table js
activities_compared [] = refl
activities_compared (j ∷ js) = ap (λ ws. activity_table j ++ ws) (activities_compared js)

row_compared : (r : Row) → row_words r ≡ row_table r
row_compared (linear b ts) = ap (λ ws. pos 1 ∷ pos (length ts) ∷ b ∷ ws) (terms_compared ts)
row_compared (all_different xs) = ap (λ ws. pos 2 ∷ pos (length xs) ∷ ws) (variables_compared xs)
row_compared (cumulative c js) = ap (λ ws. pos 3 ∷ pos (length js) ∷ pos c ∷ ws) (activities_compared js)
row_compared (circuit xs) = ap (λ ws. pos 4 ∷ pos (length xs) ∷ ws) (variables_compared xs)

words_same : (ws : List ℤ) → same_words ws ws ≡ true
words_same [] = refl
words_same (w ∷ ws) = and_both (eq_z w w) (same_words ws ws) (eq_z_refl w) (words_same ws)

bounds_same : (bs : List Bounds) → same_bounds bs bs ≡ true
bounds_same [] = refl
bounds_same (b ∷ bs) = and_both (eq_z b.low b.low) (eq_z b.high b.high && same_bounds bs bs) (eq_z_refl b.low) (and_both (eq_z b.high b.high) (same_bounds bs bs) (eq_z_refl b.high) (bounds_same bs))

fits_of : (o n : Model) → fits_old o n ≡ true → (o.bounds ≡ n.bounds) × (length o.rows ≡ length n.rows)
fits_of o n h = let p = and_true (same_bounds o.bounds n.bounds) (eqb (length o.rows) (length n.rows)) h in (same_bounds_same o.bounds n.bounds p.0, eqb-true (length o.rows) (length n.rows) p.1)

of_fits : (o n : Model) → (o.bounds ≡ n.bounds) × (length o.rows ≡ length n.rows) → fits_old o n ≡ true
of_fits o n (b, l) =
    and_both (same_bounds o.bounds n.bounds) (eqb (length o.rows) (length n.rows)) (subst (λ bs. same_bounds o.bounds bs ≡ true) b (bounds_same o.bounds))
    (eq-eqb (length o.rows) (length n.rows) l)

changed_at : (d : Row) (ps qs : List Row) (r : ℕ) → r < length ps → r < length qs → get_or (changes ps qs) r false ≡ not (same_words (row_table (get_or ps r d)) (row_table (get_or qs r d)))
changed_at d [] qs r l k = absurd (omega arith)
changed_at d (p ∷ ps) [] r l k = absurd (omega arith)
changed_at d (p ∷ ps) (q ∷ qs) zero l k = ap₂ (λ us ws. not (same_words us ws)) (row_compared p) (row_compared q)
changed_at d (p ∷ ps) (q ∷ qs) (suc r) l k = changed_at d ps qs r (omega arith) (omega arith)

differ_of : (as' bs : List ℤ) → not (same_words as' bs) ≡ true → as' ≡ bs → ⊥
differ_of as' bs h e = clash (subst (λ ws. same_words as' ws ≡ true) e (words_same as')) (not-true (same_words as' bs) h)

of_differ : (as' bs : List ℤ) → (as' ≡ bs → ⊥) → not (same_words as' bs) ≡ true
of_differ as' bs h = ⊎_elim (λ e. absurd (h (same_words_same as' bs e))) (λ e. ap not e) (tested (same_words as' bs))

recheck_says : RecheckSays
recheck_says = record {
  compared_is = row_compared;
  fits_is = λ o n. (fits_of o n, of_fits o n);
  changed_is = λ o n r l k.
      let e = changed_at (linear (pos 0) []) o.rows n.rows r l k in
      (λ h. differ_of _ _ (sym e ∙ h), λ h. e ∙ of_differ _ _ h);
}

pub faithful : Faithful
faithful = record {
  box = λ model e. box_says _ (known_model model e).bounds_known;
  rule = rule_says;
  conflict = λ model {m} e f box h r l.
      let known = known_model model e in
      conflict_says (length m.bounds) (left m.bounds box) (left_rising m.bounds box) (some_left m.bounds box (length m.bounds) h) f (row_at m r) (each_at_lem (linear (pos 0) []) r l known.rows_known);
  conclusion = record {
    says_false_lem = λ f. (false_of f.premises f.consequent, of_false f.premises f.consequent);
    says_at_least_lem = λ x v f. (floor_of x v f.premises f.consequent, of_floor x v f.premises f.consequent);
  };
  recheck = recheck_says;
}
