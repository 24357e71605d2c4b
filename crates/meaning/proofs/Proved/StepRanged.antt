-- A step is read from the log exactly where the words there are its own and it is in range.
use Rattle.std.specs.Prelude.{ℕ, zero, suc, ◌+◌, ◌<◌, ◌≤◌, ◌≡◌, refl, ◌↔◌, List, [], ◌∷◌, ◌++◌, length, ℤ, pos}
use Rattle.std.proofs.Common.{arith, sym, ap, ap₂, subst, ◌∙◌, append-nil}
use Rattle.std.proofs.Math.Option.{Option, none, some}
use Rattle.words.specs.Lists.{All, empty, also}
use Rattle.words.specs.ListFacts.{each_map}
use Rattle.meaning.specs.Limits.{most_hints, most_premises, most_value}
use Rattle.meaning.specs.Read.{Reader, got, ◌>>=◌, give, neg, word, times}
use Rattle.meaning.specs.Model.{Model}
use Rattle.meaning.specs.Log.{Relation, at_most, at_least, equal, not_equal, Atom, Fact, Step, inference, deduction, no_assignment, never_below, number, value, number_below, relation_of, atom, consequent_of, fact, step_of_kind, step}
use Rattle.meaning.specs.Check.{read_step}
use Rattle.meaning.specs.Ranges.{Ranges, Counts, each, number_table, relation_word, atom_table, consequent_table, fact_table, step_table, AtomInRange, ConsequentInRange, FactInRange, StepInRange}
use Rattle.meaning.proofs.Proved.Reading.{within_counts}
use Rattle.meaning.proofs.Proved.Spelled.{Took, took, nothing, Takes, takes_give, weaker, takes_bind, takes_word, Number, natural}
use Rattle.meaning.proofs.Proved.Ranged.{within_ranges}
use Rattle.meaning.proofs.Proved.Rereads.{Rereads, again_bind, again_last, again_word, again_count, again_below, again_times}

-- ---- what was read, its words and its range
takes_range : (lo hi : ℤ) → Takes (λ w part. (part ≡ w ∷ []) × Ranges lo hi w) (word 11 12 lo hi)
takes_range lo hi at ws = weaker (λ w part h. (h.0, within_ranges h.1)) (takes_word 11 12 lo hi at ws)

takes_number : (lo hi : ℕ) → Takes (λ n part. Number n part × Counts lo hi n) (number lo hi)
takes_number lo hi = takes_bind (takes_word 11 12 (pos lo) (pos hi)) λ w part h. takes_give (append-nil part ∙ h.0 ∙ ap (λ z. z ∷ []) (natural lo hi w h.1), within_counts lo hi w h.1)

takes_cited : (n : ℕ) → Takes (λ x part. Number x part × (x < n)) (number_below n)
takes_cited zero = takes_bind (takes_word 11 12 (pos 1) (pos 0)) λ w part h. absurd (let i = within_counts 1 0 w h.1 in omega arith)
takes_cited (suc n) = λ at ws. weaker (λ x part h. (h.0, let k = h.1.1 in omega arith)) (takes_number 0 n at ws)

takes_each : {A : Type 0} (W : A → List ℤ) {P : A → Type 0} {r : Reader A} (n : ℕ) → Takes (λ a part. (part ≡ W a) × P a) r → Takes (λ xs part. (part ≡ each W xs) × (length xs ≡ n) × All P xs) (times n r)
takes_each W zero h = takes_give (refl, refl, empty)
takes_each W (suc n) h =
    takes_bind h λ a p e.
    takes_bind (takes_each W n h) λ xs q f.
    takes_give (ap (λ z. p ++ z) (append-nil q) ∙ ap₂ ◌++◌ e.0 f.0, ap suc f.1, also e.1 f.2)

relation_spelled : (r : ℕ) → Counts 1 4 r → pos r ≡ relation_word (relation_of r)
relation_spelled zero h = absurd (let l = h.0 in omega arith)
relation_spelled (suc zero) h = refl
relation_spelled (suc (suc zero)) h = refl
relation_spelled (suc (suc (suc zero))) h = refl
relation_spelled (suc (suc (suc (suc zero)))) h = refl
relation_spelled (suc (suc (suc (suc (suc r))))) h = absurd (let l = h.1 in omega arith)

takes_atom : (v : ℕ) → Takes (λ a part. (part ≡ atom_table a) × AtomInRange v a) (atom v)
takes_atom v =
    takes_bind (takes_cited v) λ x p e.
    takes_bind (takes_number 1 4) λ r q f.
    takes_bind (takes_range (neg most_value) (pos most_value)) λ a o g.
    takes_give (rw (e.0, f.0, g.0, relation_spelled r f.1), record { variable_in = e.1; value_in = g.1 })

takes_consequent : (v q : ℕ) → q ≤ 1 → Takes (λ c part. (pos q ∷ part ≡ consequent_table c) × ConsequentInRange v c) (consequent_of v q)
takes_consequent v zero h = takes_give (refl, tt)
takes_consequent v (suc zero) h = takes_bind (takes_atom v) λ a p e. takes_give (rw (append-nil p, e.0), e.1)
takes_consequent v (suc (suc q)) h = absurd (omega arith)

takes_fact : (v : ℕ) → Takes (λ f part. (part ≡ fact_table f) × FactInRange v f) (fact v)
takes_fact v =
    takes_bind (takes_number 0 most_premises) λ p i e.
    takes_bind (takes_each atom_table p (takes_atom v)) λ ps j f.
    takes_bind (takes_number 0 1) λ q k g.
    takes_bind (takes_consequent v q g.1.1) λ c l h.
    takes_give (spelled p i j q k l ps c e.0 f.0 f.1 g.0 h.0, record { premises_few = subst (Counts 0 most_premises) (sym f.1) e.1; premises_in = f.2; consequent_in = h.1 })
  where
    spelled : (p : ℕ) (i j : List ℤ) (q : ℕ) (k l : List ℤ) (ps : List Atom) (c : Option Atom) → i ≡ pos p ∷ [] → j ≡ each atom_table ps → length ps ≡ p → k ≡ pos q ∷ [] → pos q ∷ l ≡ consequent_table c
        → i ++ (j ++ (k ++ (l ++ []))) ≡ pos (length ps) ∷ (each atom_table ps ++ consequent_table c)
    spelled p i j q k l ps c e f n g h = rw (e, f, n, g, append-nil l, h)

takes_kind : (v c k n : ℕ) → n ≤ 4 → Takes (λ t part. (pos n ∷ part ≡ step_table t) × StepInRange v c k t) (step_of_kind v c k n)
takes_kind v c k zero h = λ at ws. nothing
takes_kind v c k (suc zero) h =
    takes_bind (takes_cited c) λ r p e.
    takes_bind (takes_fact v) λ f q g.
    takes_give (rw (e.0, append-nil q, g.0), (e.1, g.1))
takes_kind v c k (suc (suc zero)) h =
    takes_bind (takes_fact v) λ f p e.
    takes_bind (takes_number 0 most_hints) λ n q g.
    takes_bind (takes_each number_table n (takes_cited k)) λ hs r o.
    takes_give (rw (e.0, g.0, append-nil r, o.0, o.1), (e.1, subst (Counts 0 most_hints) (sym o.1) g.1, o.2))
takes_kind v c k (suc (suc (suc zero))) h = takes_bind (takes_cited k) λ n p e. takes_give (rw e.0, e.1)
takes_kind v c k (suc (suc (suc (suc zero)))) h =
    takes_bind (takes_cited v) λ x p e.
    takes_bind (takes_range (neg most_value) (pos most_value)) λ a q f.
    takes_bind (takes_cited k) λ n r g.
    takes_give (rw (e.0, f.0, g.0), (e.1, f.1, g.1))
takes_kind v c k (suc (suc (suc (suc (suc n))))) h = absurd (omega arith)

takes_step : (v c k : ℕ) → Takes (λ t part. (part ≡ step_table t) × StepInRange v c k t) (step v c k)
takes_step v c k = takes_bind (takes_number 1 4) λ n p e at ws. weaker (λ t part h. (ap (λ z. z ++ part) e.0 ∙ h.0, h.1)) (takes_kind v c k n e.1.1 at ws)

-- ---- the words of what is in range are read
relation_again : (r : Relation) → (n : ℕ) × Counts 1 4 n × (relation_word r ≡ pos n) × (relation_of n ≡ r)
relation_again at_most = (1, (omega arith, omega arith), refl, refl)
relation_again at_least = (2, (omega arith, omega arith), refl, refl)
relation_again equal = (3, (omega arith, omega arith), refl, refl)
relation_again not_equal = (4, (omega arith, omega arith), refl, refl)

abbrev atom_of : ℕ → Relation → ℤ → Atom
atom_of x r z = record { variable = x; relation = r; value = z }

abbrev fact_of : List Atom → Option Atom → Fact
fact_of ps c = record { premises = ps; consequent = c }

again_atom : (v : ℕ) (a : Atom) → AtomInRange v a → Rereads (atom v) a (atom_table a)
again_atom v a h =
    let (n, c, w, q) = relation_again a.relation in
    again_bind (number_below v) _ (pos a.variable ∷ []) (relation_word a.relation ∷ a.value ∷ []) (again_below 11 12 v h.variable_in)
    (again_bind (number 1 4) _ (relation_word a.relation ∷ []) (a.value ∷ []) (subst (λ z. Rereads (number 1 4) n (z ∷ [])) (sym w) (again_count 11 12 c.0 c.1))
    (subst (λ r. Rereads (value >>= (λ z. give (atom_of a.variable (relation_of n) z))) (atom_of a.variable r a.value) (a.value ∷ [])) q
    (again_last value (atom_of a.variable (relation_of n)) (a.value ∷ []) (again_word 11 12 h.value_in.0 h.value_in.1))))

-- q and the consequent
again_consequent : (v : ℕ) (ps : List Atom) (c : Option Atom) → ConsequentInRange v c
    → Rereads (number 0 1 >>= (λ q. consequent_of v q >>= (λ o. give (fact_of ps o)))) (fact_of ps c) (consequent_table c)
again_consequent v ps none h = again_last (number 0 1) (λ q. fact_of ps none) (pos 0 ∷ []) (again_count 11 12 {lo = 0} {hi = 1} {n = 0} (omega arith) (omega arith))
again_consequent v ps (some a) h =
    again_bind (number 0 1) (λ q. consequent_of v q >>= (λ o. give (fact_of ps o))) (pos 1 ∷ []) (atom_table a) (again_count 11 12 {lo = 0} {hi = 1} {n = 1} (omega arith) (omega arith))
    (again_last (consequent_of v 1) (fact_of ps) (atom_table a) (again_last (atom v) some (atom_table a) (again_atom v a h)))

again_fact : (v : ℕ) (f : Fact) → FactInRange v f → Rereads (fact v) f (fact_table f)
again_fact v f h =
    let ps = f.premises in
    again_bind (number 0 most_premises) _ (pos (length ps) ∷ []) (each atom_table ps ++ consequent_table f.consequent) (again_count 11 12 h.premises_few.0 h.premises_few.1)
    (again_bind (times (length ps) (atom v)) _ (each atom_table ps) (consequent_table f.consequent) (again_times atom_table (atom v) (each_map (again_atom v) h.premises_in))
    (again_consequent v ps f.consequent h.consequent_in))

again_kind : (v c k n : ℕ) (t : Step) (ws : List ℤ) → 1 ≤ n → n ≤ 4 → Rereads (step_of_kind v c k n) t ws → Rereads (step v c k) t (pos n ∷ ws)
again_kind v c k n t ws l h = again_bind (number 1 4) (step_of_kind v c k) (pos n ∷ []) ws (again_count 11 12 l h)

step_again : (v c k : ℕ) (t : Step) → StepInRange v c k t → Rereads (step v c k) t (step_table t)
step_again v c k (inference r f) h =
    again_kind v c k 1 (inference r f) (pos r ∷ fact_table f) (omega arith) (omega arith)
    (again_bind (number_below c) _ (pos r ∷ []) (fact_table f) (again_below 11 12 c h.0) (again_last (fact v) (inference r) (fact_table f) (again_fact v f h.1)))
step_again v c k (deduction f hs) h =
    again_kind v c k 2 (deduction f hs) (fact_table f ++ (pos (length hs) ∷ each number_table hs)) (omega arith) (omega arith)
    (again_bind (fact v) _ (fact_table f) (pos (length hs) ∷ each number_table hs) (again_fact v f h.0)
    (again_bind (number 0 most_hints) _ (pos (length hs) ∷ []) (each number_table hs) (again_count 11 12 h.1.0 h.1.1)
    (again_last (times (length hs) (number_below k)) (deduction f) (each number_table hs) (again_times number_table (number_below k) (each_map (λ n l. again_below 11 12 k l) h.2)))))
step_again v c k (no_assignment n) h =
    again_kind v c k 3 (no_assignment n) (pos n ∷ []) (omega arith) (omega arith) (again_last (number_below k) no_assignment (pos n ∷ []) (again_below 11 12 k h))
step_again v c k (never_below x a n) h =
    again_kind v c k 4 (never_below x a n) (pos x ∷ a ∷ pos n ∷ []) (omega arith) (omega arith)
    (again_bind (number_below v) _ (pos x ∷ []) (a ∷ pos n ∷ []) (again_below 11 12 v h.0)
    (again_bind value _ (a ∷ []) (pos n ∷ []) (again_word 11 12 h.1.0 h.1.1)
    (again_last (number_below k) (never_below x a) (pos n ∷ []) (again_below 11 12 k h.2))))

pub step_is : (m : Model) (k at : ℕ) (ws : List ℤ) (t : Step) (at' : ℕ) (rest : List ℤ)
    → (read_step m k at ws ≡ got t at' rest) ↔ ((ws ≡ step_table t ++ rest) × (at' ≡ at + length (step_table t)) × StepInRange (length m.bounds) (length m.rows) k t)
step_is m k at ws t at' rest = (to, from)
  where
    v : ℕ
    v = length m.bounds

    c : ℕ
    c = length m.rows

    again : ws ≡ step_table t ++ rest → StepInRange v c k t → read_step m k at ws ≡ got t (at + length (step_table t)) rest
    again e h = ap (step v c k at) e ∙ step_again v c k t h at rest

    spelled : Took (λ t part. (part ≡ step_table t) × StepInRange v c k t) ws (got t at' rest) → (ws ≡ step_table t ++ rest) × StepInRange v c k t
    spelled (took part e h) = (e ∙ ap (λ z. z ++ rest) h.0, h.1)

    to : read_step m k at ws ≡ got t at' rest → (ws ≡ step_table t ++ rest) × (at' ≡ at + length (step_table t)) × StepInRange v c k t
    to e =
        let h = spelled (subst (Took (λ t part. (part ≡ step_table t) × StepInRange v c k t) ws) e (takes_step v c k at ws)) in
        let q = again h.0 h.1 in
        (h.0, cc, h.1)

    from : (ws ≡ step_table t ++ rest) × (at' ≡ at + length (step_table t)) × StepInRange v c k t → read_step m k at ws ≡ got t at' rest
    from (e, p, h) = let q = again e h in cc
