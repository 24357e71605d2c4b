-- Refusals of reading, exactly then: the readers of the model and of a step follow document 01's tables slot by slot.
use Rattle.std.specs.Prelude.{ℕ, zero, suc, ◌≤◌, ◌≡◌, refl, Bool, true, false, ◌||◌, ◌↔◌, eqb, length, ℤ, pos, ◌-ℤ◌}
use Rattle.std.proofs.Common.{arith, ap, subst, eqb-true, eq-eqb}
use mathlib.Core.List.Memᴰ.{head as here}
use mathlib.Core.List.Memᴰ.{not-nil as not-in-nil}
use mathlib.Core.List.Memᴰ.{tail as there}
use mathlib.Core.List.{List, [], ◌∷◌, Memᴰ as In}
use Rattle.words.specs.Lists.{member}
use Rattle.words.specs.ListFacts.{clash, or_left, or_right}
use Rattle.meaning.specs.Limits.{most_coefficient, most_duration, most_hints, most_parts, most_premises, most_rows, most_usage, most_value, most_variables}
use Rattle.meaning.specs.Read.{Reader, Got, got, refused, bind_got, ◌>>=◌, give, neg, times}
use Rattle.meaning.specs.Model.{Model, bounds_pair, variable_of, fresh_word, fresh, distinct, term, activity, row_of_kind, row, end, read_model}
use Rattle.meaning.specs.Log as log
use Rattle.meaning.specs.Log.{Step, atom, consequent_of, fact, step_of_kind, step}
use Rattle.meaning.specs.Check.{read_step}
use Rattle.meaning.specs.Layout.{Layout, slot, nothing, over, FirstBad, missing, out_of_range, twice, surplus, later, repeat, bounds_part, different_part, term_part, activity_part, linear_part, variables_part, cumulative_part, row_part, choice, model_layout, atom_part, fact_part, inference_layout, deduction_layout, no_assignment_layout, never_below_layout, step_layout}
use Rattle.meaning.specs.Ranges.{Ranges, each, number_table}
use Rattle.meaning.proofs.Proved.Ranged.{model_is}
use Rattle.meaning.proofs.Proved.Slots.{stayed, took, OneNumber, no_word, good_word, bad_word, numbered, bad_left, one_bad, none_over, none_after, Follows, gives, fails, Lays, lays_give, lays_bind, lays_word, lays_count, lays_below, lays_times}

-- ---- a step of the log
lays_atom : (v : ℕ) (z : Layout) → Lays 11 12 z (atom v) (atom_part (pos v) z)
lays_atom v z =
    lays_below 11 12 v _ _ λ x.
    lays_count 11 12 1 4 _ _ λ r i j.
    lays_word 11 12 (neg most_value) (pos most_value) _ _ λ a h.
    lays_give 11 12

lays_consequent : (v q : ℕ) → q ≤ 1 → (z : Layout) → Lays 11 12 z (consequent_of v q) (repeat q (atom_part (pos v)) z)
lays_consequent v zero l z = lays_give 11 12
lays_consequent v (suc zero) l z = lays_bind 11 12 (atom v) _ (lays_atom v z) (λ a. lays_give 11 12)
lays_consequent v (suc (suc q)) l z = absurd (omega arith)

lays_fact : (v : ℕ) (z : Layout) → Lays 11 12 z (fact v) (fact_part (pos v) z)
lays_fact v z =
    lays_count 11 12 0 most_premises _ _ λ p i j.
    lays_bind 11 12 (times p (atom v)) _ (lays_times 11 12 (atom v) (atom_part (pos v)) (lays_atom v) p _) λ ps.
    lays_count 11 12 0 1 _ _ λ q k l.
    lays_bind 11 12 (consequent_of v q) _ (lays_consequent v q l z) λ c.
    lays_give 11 12

lays_hint : (k : ℕ) (z : Layout) → Lays 11 12 z (log.number_below k) (slot (pos 0) (pos k -ℤ pos 1) [] (λ n. z))
lays_hint k z at ws = subst (Follows 11 12 z (slot (pos 0) (pos k -ℤ pos 1) [] (λ n. z)) at ws) (alone (log.number_below k at ws)) (lays_below 11 12 k (λ n. give n) (λ n. z) (λ n. lays_give 11 12) at ws)
  where
    alone : (g : Got ℕ) → bind_got g (λ n. give n) ≡ g
    alone (got n at ws) = refl
    alone (refused num p) = refl

lays_kind : (v c k n : ℕ) → 1 ≤ n → n ≤ 4
    → Lays 11 12 over (step_of_kind v c k n) (choice n (inference_layout (pos v) (pos c)) (deduction_layout (pos v) (pos k)) (no_assignment_layout (pos k)) (never_below_layout (pos v) (pos k)))
lays_kind v c k zero l h = absurd (omega arith)
lays_kind v c k (suc zero) l h =
    lays_below 11 12 c _ _ λ r.
    lays_bind 11 12 (fact v) _ (lays_fact v over) λ f.
    lays_give 11 12
lays_kind v c k (suc (suc zero)) l h =
    lays_bind 11 12 (fact v) _ (lays_fact v _) λ f.
    lays_count 11 12 0 most_hints _ _ λ n i j.
    lays_bind 11 12 (times n (log.number_below k)) _ (lays_times 11 12 (log.number_below k) _ (lays_hint k) n over) λ hs.
    lays_give 11 12
lays_kind v c k (suc (suc (suc zero))) l h = lays_below 11 12 k _ _ λ n. lays_give 11 12
lays_kind v c k (suc (suc (suc (suc n)))) l h =
    lays_below 11 12 v _ _ λ x.
    lays_word 11 12 (neg most_value) (pos most_value) _ _ λ a r.
    lays_below 11 12 k _ _ λ i.
    lays_give 11 12

lays_step : (v c k : ℕ) → Lays 11 12 over (step v c k) (step_layout v c k)
lays_step v c k = lays_count 11 12 1 4 _ _ (lays_kind v c k)

pub step_refused : (m : Model) (k at : ℕ) (ws : List ℤ) (num p : ℕ) → (read_step m k at ws ≡ refused num p) ↔ FirstBad 11 12 (step_layout (length m.bounds) (length m.rows) k) at ws num p
step_refused m k at ws num p = (to, from (read_step m k at ws) (follows))
  where
    l : Layout
    l = step_layout (length m.bounds) (length m.rows) k

    follows : Follows 11 12 over l at ws (read_step m k at ws)
    follows = lays_step (length m.bounds) (length m.rows) k at ws

    bad : Follows 11 12 {A = Step} over l at ws (refused num p) → FirstBad 11 12 l at ws num p
    bad (fails b) = b

    to : read_step m k at ws ≡ refused num p → FirstBad 11 12 l at ws num p
    to e = bad (subst (Follows 11 12 over l at ws) e follows)

    from : (g : Got Step) → Follows 11 12 over l at ws g → FirstBad 11 12 l at ws num p → g ≡ refused num p
    from (got t at' rest) (gives r) b = absurd (none_over (bad_left r b))
    from (refused num' p') (fails c) b = let (e, q) = one_bad c b in rw (e, q)

-- ---- the model
lays_bounds : (z : Layout) → Lays 4 5 z bounds_pair (bounds_part z)
lays_bounds z =
    lays_word 4 5 (neg most_value) (pos most_value) _ _ λ l i.
    lays_word 4 5 l (pos most_value) _ _ λ h j.
    lays_give 4 5

lays_term : (v : ℕ) (z : Layout) → Lays 4 5 z (term v) (term_part (pos v) z)
lays_term v z =
    lays_word 4 5 (neg most_coefficient) (pos most_coefficient) _ _ λ c i.
    lays_below 4 5 v _ _ λ x.
    lays_give 4 5

lays_activity : (v : ℕ) (z : Layout) → Lays 4 5 z (activity v) (activity_part (pos v) z)
lays_activity v z =
    lays_below 4 5 v _ _ λ x.
    lays_count 4 5 1 most_duration _ _ λ d j h.
    lays_count 4 5 0 most_usage _ _ λ u k l.
    lays_give 4 5

-- a variable that was seen is one of the words that spell those seen
seen_word : (x : ℕ) (seen : List ℕ) → member eqb x seen ≡ true → In (pos x) (each number_table seen)
seen_word x (y ∷ seen) h = go (eqb x y) refl h (seen_word x seen)
  where
    go : (b : Bool) → eqb x y ≡ b → b || member eqb x seen ≡ true → (member eqb x seen ≡ true → In (pos x) (each number_table seen)) → In (pos x) (pos y ∷ each number_table seen)
    go true e h k = here (ap pos (eqb-true x y e))
    go false e h k = there (k h)
seen_word x [] h = clash h refl

word_seen : (x : ℕ) (seen : List ℕ) → In (pos x) (each number_table seen) → member eqb x seen ≡ true
word_seen x [] m = absurd (not-in-nil m)
word_seen x (y ∷ seen) (here e) = or_left (member eqb x seen) (eq-eqb x y (let q : x ≡ y = cc in q))
word_seen x (y ∷ seen) (there m) = or_right (eqb x y) (word_seen x seen m)

lays_fresh : {B : Type 0} {z : Layout} (v : ℕ) (seen : List ℕ) (f : ℕ → Reader B) (next : ℤ → Layout) → ((x : ℕ) → Lays 4 5 z (f x) (next (pos x)))
    → Lays 4 5 z (fresh v seen >>= f) (slot (pos 0) (pos v -ℤ pos 1) (each number_table seen) next)
lays_fresh {B} {z} v seen f next k at ws = go (variable_of v at ws) (numbered 4 5 v at ws)
  where
    l : Layout
    l = slot (pos 0) (pos v -ℤ pos 1) (each number_table seen) next

    more : {ws : List ℤ} (x : ℕ) (g : Got B) → Ranges (pos 0) (pos v -ℤ pos 1) (pos x) → (In (pos x) (each number_table seen) → ⊥) → Follows 4 5 z (next (pos x)) (suc at) ws g → Follows 4 5 z l at (pos x ∷ ws) g
    more x (got b at' rest) r n (gives p) = gives (took r n p)
    more x (refused num i) r n (fails b) = fails (later r n b)

    test : (ws : List ℤ) (x : ℕ) → Ranges (pos 0) (pos v -ℤ pos 1) (pos x) → (b : Bool) → member eqb x seen ≡ b
        → Follows 4 5 z l at (pos x ∷ ws) (bind_got {A = ℕ} (elim b [ true ↦ refused 6 at | false ↦ got x (suc at) ws ]) f)
    test ws x r true e = fails (twice r (seen_word x seen e))
    test ws x r false e = more x (f x (suc at) ws) r (λ m. clash (word_seen x seen m) e) (k x (suc at) ws)

    go : {ws : List ℤ} (g : Got ℕ) → OneNumber 4 5 (pos 0) (pos v -ℤ pos 1) at ws g → Follows 4 5 z l at ws (bind_got (fresh_word seen at g) f)
    go (refused num p) no_word = fails missing
    go (got x at' rest) (good_word y r) = test rest x r (member eqb x seen) refl
    go (refused num p) (bad_word b) = fails (out_of_range b)

lays_distinct : (v n : ℕ) (seen : List ℕ) (z : Layout) → Lays 4 5 z (distinct v n seen) (different_part (pos v) n (each number_table seen) z)
lays_distinct v zero seen z = lays_give 4 5
lays_distinct v (suc n) seen z = lays_fresh v seen _ _ (λ x. lays_bind 4 5 (distinct v n (x ∷ seen)) _ (lays_distinct v n (x ∷ seen) z) (λ xs. lays_give 4 5))

lays_row_kind : (v k : ℕ) → 1 ≤ k → k ≤ 4 → (z : Layout) → Lays 4 5 z (row_of_kind v k) (choice k (linear_part (pos v) z) (variables_part (pos v) z) (cumulative_part (pos v) z) (variables_part (pos v) z))
lays_row_kind v zero l h z = absurd (omega arith)
lays_row_kind v (suc zero) l h z =
    lays_count 4 5 1 most_parts _ _ λ n i j.
    lays_word 4 5 (neg 2147483648) (pos 2147483647) _ _ λ b r.
    lays_bind 4 5 (times n (term v)) _ (lays_times 4 5 (term v) (term_part (pos v)) (lays_term v) n z) λ ts.
    lays_give 4 5
lays_row_kind v (suc (suc zero)) l h z =
    lays_count 4 5 2 most_parts _ _ λ n i j.
    lays_bind 4 5 (distinct v n []) _ (lays_distinct v n [] z) λ xs.
    lays_give 4 5
lays_row_kind v (suc (suc (suc zero))) l h z =
    lays_count 4 5 1 most_parts _ _ λ n i j.
    lays_count 4 5 0 most_usage _ _ λ c k o.
    lays_bind 4 5 (times n (activity v)) _ (lays_times 4 5 (activity v) (activity_part (pos v)) (lays_activity v) n z) λ js.
    lays_give 4 5
lays_row_kind v (suc (suc (suc (suc k)))) l h z =
    lays_count 4 5 2 most_parts _ _ λ n i j.
    lays_bind 4 5 (distinct v n []) _ (lays_distinct v n [] z) λ xs.
    lays_give 4 5

lays_row : (v : ℕ) (z : Layout) → Lays 4 5 z (row v) (row_part (pos v) z)
lays_row v z = lays_count 4 5 1 4 _ _ (λ k l h. lays_row_kind v k l h z)

lays_end : (m : Model) → Lays 4 5 nothing (end m) nothing
lays_end m at [] = gives stayed
lays_end m at (w ∷ ws) = fails surplus

lays_model : Lays 4 5 nothing read_model model_layout
lays_model =
    lays_count 4 5 1 most_variables _ _ λ v i j.
    lays_bind 4 5 (times v bounds_pair) _ (lays_times 4 5 bounds_pair bounds_part lays_bounds v _) λ bs.
    lays_count 4 5 0 most_rows _ _ λ c k l.
    lays_bind 4 5 (times c (row v)) _ (lays_times 4 5 (row v) (row_part (pos v)) (lays_row v) c nothing) λ rs.
    lays_end (record { bounds = bs; rows = rs })

pub model_refused : (ws : List ℤ) (num p : ℕ) → (read_model 0 ws ≡ refused num p) ↔ FirstBad 4 5 model_layout 0 ws num p
model_refused ws num p = (to, from (read_model 0 ws) refl (lays_model 0 ws))
  where
    bad : Follows 4 5 {A = Model} nothing model_layout 0 ws (refused num p) → FirstBad 4 5 model_layout 0 ws num p
    bad (fails b) = b

    to : read_model 0 ws ≡ refused num p → FirstBad 4 5 model_layout 0 ws num p
    to e = bad (subst (Follows 4 5 nothing model_layout 0 ws) e (lays_model 0 ws))

    from : (g : Got Model) → read_model 0 ws ≡ g → Follows 4 5 nothing model_layout 0 ws g → FirstBad 4 5 model_layout 0 ws num p → g ≡ refused num p
    from (got m at rest) e (gives r) b = absurd (none_after (subst (λ us. FirstBad 4 5 nothing at us num p) ((model_is ws m at rest).0 e).3 (bad_left r b)))
    from (refused num' p') e (fails c) b = let (q, o) = one_bad c b in rw (q, o)
