-- A model table reads as m exactly where it is the words of m and m is in range.
use Rattle.std.specs.Prelude.{ℕ, zero, suc, ◌+◌, ◌<◌, ◌≤◌, ◌≡◌, refl, Bool, true, false, ◌||◌, ◌↔◌, List, [], ◌∷◌, ◌++◌, eqb, length, get_or, ℤ, pos}
use Rattle.std.proofs.Common.{arith, sym, ap, subst, ◌∙◌, append-nil, length-append, eqb-true}
use Rattle.std.specs.Int.Signed.{le_z}
use Rattle.words.specs.Int.{zz}
use Rattle.words.specs.Lists.{member, All, empty, also}
use Rattle.words.specs.ListFacts.{and_true, le_of, each_map}
use Rattle.meaning.specs.Limits.{most_coefficient, most_duration, most_parts, most_rows, most_usage, most_value, most_variables}
use Rattle.meaning.specs.Read.{Reader, got, bind_got, ◌>>=◌, neg, within, times}
use Rattle.meaning.specs.Model.{Bounds, Term, Activity, Row, linear, all_different, cumulative, circuit, Model, number, integer, bounds_pair, variable_of, fresh_word, fresh, distinct, term, activity, row_of_kind, row, end, read_model}
use Rattle.meaning.specs.Ranges.{Ranges, each, number_table, bounds_table, term_table, activity_table, row_table, model_table, BoundsInRange, TermInRange, ActivityInRange, NoneTwice, RowInRange, InRange}
use Rattle.meaning.proofs.Proved.ReadModel.{KnownBounds, KnownTerm, KnownActivity, Fresh, fresh_nil, fresh_next, fresh_apart, KnownRow, KnownModel, known_model}
use Rattle.meaning.proofs.Proved.Spelled.{good_spelled}
use Rattle.meaning.proofs.Proved.Rereads.{Rereads, again_give, again_bind, again_last, again_word, again_count, again_below, again_times}

-- ---- what was read is in range
pub within_ranges : {lo hi w : ℤ} → within lo hi w ≡ true → Ranges lo hi w
within_ranges {lo} {hi} {w} e = let h = and_true (le_z lo w) (le_z w hi) e in (le_of lo w h.0, le_of w hi h.1)

bounds_in : (b : Bounds) → KnownBounds b → BoundsInRange b
bounds_in b k =
    let p = le_of (neg most_value) b.low k.low_least in
    let q = le_of b.low b.high k.low_high in
    let r = le_of b.high (pos most_value) k.high_most in
    record { low_in = (p, omega (arith, zz)); high_in = (q, r) }

term_in : (v : ℕ) (t : Term) → KnownTerm v t → TermInRange v t
term_in v t k = record { coefficient_in = within_ranges k.coefficient_range; variable_in = k.variable_known }

activity_in : (v : ℕ) (j : Activity) → KnownActivity v j → ActivityInRange v j
activity_in v j k = record { start_in = k.start_known; duration_in = (k.duration_some, k.duration_most); usage_in = (omega arith, k.usage_most) }

row_in : (v : ℕ) (r : Row) → KnownRow v r → RowInRange v r
row_in v (linear b ts) k = ((k.1.0, k.1.1), within_ranges k.0, each_map (term_in v) k.1.2)
row_in v (all_different xs) k = ((k.0.0, k.0.1), k.0.2, λ i j h l. fresh_apart i j h l k.1)
row_in v (cumulative c js) k = ((k.1.0, k.1.1), (omega arith, k.0), each_map (activity_in v) k.1.2)
row_in v (circuit xs) k = ((k.0.0, k.0.1), k.0.2, λ i j h l. fresh_apart i j h l k.1)

model_in : (m : Model) → KnownModel m → InRange m
model_in m k = record {
  variables = (k.some_variable, k.few_variables);
  bounds_in = each_map bounds_in k.bounds_known;
  rows_some = (omega arith, k.few_rows);
  rows_in = each_map (row_in (length m.bounds)) k.rows_known;
}

-- ---- the words of what is in range are read
again_bounds : (b : Bounds) → BoundsInRange b → Rereads bounds_pair b (bounds_table b)
again_bounds b h =
    again_bind (integer (neg most_value) (pos most_value)) _ (b.low ∷ []) (b.high ∷ []) (again_word 4 5 h.low_in.0 h.low_in.1)
    (again_last (integer b.low (pos most_value)) (λ z. record { low = b.low; high = z }) (b.high ∷ []) (again_word 4 5 h.high_in.0 h.high_in.1))

again_term : (v : ℕ) (t : Term) → TermInRange v t → Rereads (term v) t (term_table t)
again_term v t h =
    again_bind (integer (neg most_coefficient) (pos most_coefficient)) _ (t.coefficient ∷ []) (pos t.variable ∷ []) (again_word 4 5 h.coefficient_in.0 h.coefficient_in.1)
    (again_last (variable_of v) (λ x. record { coefficient = t.coefficient; variable = x }) (pos t.variable ∷ []) (again_below 4 5 v h.variable_in))

again_activity : (v : ℕ) (j : Activity) → ActivityInRange v j → Rereads (activity v) j (activity_table j)
again_activity v j h =
    again_bind (variable_of v) _ (pos j.start ∷ []) (pos j.duration ∷ pos j.usage ∷ []) (again_below 4 5 v h.start_in)
    (again_bind (number 1 most_duration) _ (pos j.duration ∷ []) (pos j.usage ∷ []) (again_count 4 5 h.duration_in.0 h.duration_in.1)
    (again_last (number 0 most_usage) (λ u. record { start = j.start; duration = j.duration; usage = u }) (pos j.usage ∷ []) (again_count 4 5 h.usage_in.0 h.usage_in.1)))

again_fresh : (v : ℕ) (seen : List ℕ) (x : ℕ) → x < v → member eqb x seen ≡ false → Rereads (fresh v seen) x (pos x ∷ [])
again_fresh v seen x l e at rest = ap (fresh_word seen at) (again_below 4 5 v l at rest) ∙ rw (e, fresh_word)

again_distinct : (v : ℕ) {seen xs : List ℕ} → All (λ x. x < v) xs → Fresh seen xs → Rereads (distinct v (length xs) seen) xs (each number_table xs)
again_distinct v empty fresh_nil = again_give
again_distinct v {seen} (also {x} {xs} l ls) (fresh_next e f) =
    again_bind (fresh v seen) _ (pos x ∷ []) (each number_table xs) (again_fresh v seen x l e)
    (again_last (distinct v (length xs) (x ∷ seen)) (λ ys. x ∷ ys) (each number_table xs) (again_distinct v ls f))

-- none twice, so each is fresh
unseen : (x : ℕ) (seen : List ℕ) → ((i : ℕ) → i < length seen → x ≡ get_or seen i 0 → ⊥) → member eqb x seen ≡ false
unseen x [] h = refl
unseen x (y ∷ seen) h = go (eqb x y) refl (unseen x seen (λ i l. h (suc i) (omega arith)))
  where
    go : (b : Bool) → eqb x y ≡ b → member eqb x seen ≡ false → b || member eqb x seen ≡ false
    go true e k = absurd (h 0 (omega arith) (eqb-true x y e))
    go false e k = k

fresh_of : (seen xs : List ℕ) → ((i j : ℕ) → i < length seen → j < length xs → get_or xs j 0 ≡ get_or seen i 0 → ⊥) → NoneTwice xs → Fresh seen xs
fresh_of seen [] h n = fresh_nil
fresh_of seen (x ∷ xs) h n = fresh_next (unseen x seen (λ i l. h i 0 l (omega arith))) (fresh_of (x ∷ seen) xs other (λ i j k l. n (suc i) (suc j) (omega arith) (omega arith)))
  where
    other : (i j : ℕ) → i < suc (length seen) → j < length xs → get_or xs j 0 ≡ get_or (x ∷ seen) i 0 → ⊥
    other zero j l k = λ e. n 0 (suc j) (omega arith) (omega arith) (sym e)
    other (suc i) j l k = h i (suc j) (omega arith) (omega arith)

apart_fresh : (xs : List ℕ) → NoneTwice xs → Fresh [] xs
apart_fresh xs n = fresh_of [] xs (λ i j l. absurd (omega arith)) n

-- the kind is one of 1 to 4
again_kind : (v k : ℕ) (r : Row) (ws : List ℤ) → 1 ≤ k → k ≤ 4 → Rereads (row_of_kind v k) r ws → Rereads (row v) r (pos k ∷ ws)
again_kind v k r ws l h = again_bind (number 1 4) (row_of_kind v) (pos k ∷ []) ws (again_count 4 5 l h)

again_row : (v : ℕ) (r : Row) → RowInRange v r → Rereads (row v) r (row_table r)
again_row v (linear b ts) h =
    again_kind v 1 (linear b ts) (pos (length ts) ∷ b ∷ each term_table ts) (omega arith) (omega arith)
    (again_bind (number 1 most_parts) _ (pos (length ts) ∷ []) (b ∷ each term_table ts) (again_count 4 5 h.0.0 h.0.1)
    (again_bind (integer (neg 2147483648) (pos 2147483647)) _ (b ∷ []) (each term_table ts) (again_word 4 5 h.1.0 h.1.1)
    (again_last (times (length ts) (term v)) (linear b) (each term_table ts) (again_times term_table (term v) (each_map (again_term v) h.2)))))
again_row v (all_different xs) h =
    again_kind v 2 (all_different xs) (pos (length xs) ∷ each number_table xs) (omega arith) (omega arith)
    (again_bind (number 2 most_parts) _ (pos (length xs) ∷ []) (each number_table xs) (again_count 4 5 h.0.0 h.0.1)
    (again_last (distinct v (length xs) []) all_different (each number_table xs) (again_distinct v h.1 (apart_fresh xs h.2))))
again_row v (cumulative c js) h =
    again_kind v 3 (cumulative c js) (pos (length js) ∷ pos c ∷ each activity_table js) (omega arith) (omega arith)
    (again_bind (number 1 most_parts) _ (pos (length js) ∷ []) (pos c ∷ each activity_table js) (again_count 4 5 h.0.0 h.0.1)
    (again_bind (number 0 most_usage) _ (pos c ∷ []) (each activity_table js) (again_count 4 5 h.1.0 h.1.1)
    (again_last (times (length js) (activity v)) (cumulative c) (each activity_table js) (again_times activity_table (activity v) (each_map (again_activity v) h.2)))))
again_row v (circuit xs) h =
    again_kind v 4 (circuit xs) (pos (length xs) ∷ each number_table xs) (omega arith) (omega arith)
    (again_bind (number 2 most_parts) _ (pos (length xs) ∷ []) (each number_table xs) (again_count 4 5 h.0.0 h.0.1)
    (again_last (distinct v (length xs) []) circuit (each number_table xs) (again_distinct v h.1 (apart_fresh xs h.2))))

-- the last words of a table: nothing may follow them
abbrev Finishes : {A : Type 0} → Reader A → A → List ℤ → Type 0
Finishes r a ws = (at : ℕ) → r at ws ≡ got a (at + length ws) []

finish_bind : {A B : Type 0} (r : Reader A) (f : A → Reader B) {a : A} {b : B} (us ws : List ℤ) → Rereads r a us → Finishes (f a) b ws → Finishes (r >>= f) b (us ++ ws)
finish_bind r f {a} {b} us ws h k at =
    let e : at + length us + length ws ≡ at + length (us ++ ws) = omega (arith, length-append us ws) in
    ap (λ g. bind_got g f) (h at ws) ∙ k (at + length us) ∙ ap (λ z. got b z []) e

finish_last : {A : Type 0} (r : Reader A) (g : A → Model) {a : A} (us : List ℤ) → Rereads r a us → Finishes (r >>= (λ x. end (g x))) (g a) us
finish_last r g {a} us h at = ap (λ ws. bind_got (r at ws) (λ x. end (g x))) (sym (append-nil us)) ∙ ap (λ z. bind_got z (λ x. end (g x))) (h at [])

model_again : (m : Model) → InRange m → read_model 0 (model_table m) ≡ got m (length (model_table m)) []
model_again m h = all 0 ∙ ap (λ z. got m z []) (let e : 0 + length (model_table m) ≡ length (model_table m) = omega arith in e)
  where
    v : ℕ
    v = length m.bounds

    c : ℕ
    c = length m.rows

    rows : List ℤ
    rows = each row_table m.rows

    all : Finishes read_model m (model_table m)
    all =
        finish_bind (number 1 most_variables) _ (pos v ∷ []) (each bounds_table m.bounds ++ (pos c ∷ rows)) (again_count 4 5 h.variables.0 h.variables.1)
        (finish_bind (times v bounds_pair) _ (each bounds_table m.bounds) (pos c ∷ rows) (again_times bounds_table bounds_pair (each_map again_bounds h.bounds_in))
        (finish_bind (number 0 most_rows) _ (pos c ∷ []) rows (again_count 4 5 h.rows_some.0 h.rows_some.1)
        (finish_last (times c (row v)) (λ rs. record { bounds = m.bounds; rows = rs }) rows (again_times row_table (row v) (each_map (again_row v) h.rows_in)))))

pub model_is : (ws : List ℤ) (m : Model) (at : ℕ) (rest : List ℤ) → (read_model 0 ws ≡ got m at rest) ↔ ((ws ≡ model_table m) × InRange m × (at ≡ length ws) × (rest ≡ []))
model_is ws m at rest = (to, from)
  where
    again : ws ≡ model_table m → InRange m → read_model 0 ws ≡ got m (length ws) []
    again e h = subst (λ us. read_model 0 us ≡ got m (length us) []) (sym e) (model_again m h)

    to : read_model 0 ws ≡ got m at rest → (ws ≡ model_table m) × InRange m × (at ≡ length ws) × (rest ≡ [])
    to e =
        let s = good_spelled ws e in
        let h = model_in m (known_model ws e) in
        let q = again s h in
        (s, h, cc, cc)

    from : (ws ≡ model_table m) × InRange m × (at ≡ length ws) × (rest ≡ []) → read_model 0 ws ≡ got m at rest
    from (s, h, p, q) = let e = again s h in cc
