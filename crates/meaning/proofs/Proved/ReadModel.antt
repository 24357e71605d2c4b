-- What reading the model does: it is refused with 4 at its end, or with 5, 6 or 7 at one of its words.
use Rattle.std.specs.Prelude.{ℕ, zero, suc, ◌+◌, ◌≤◌, ◌<◌, ◌≡◌, refl, Bool, true, false, ◌||◌, List, [], ◌∷◌, eqb, length, get_or, ℤ, pos}
use Rattle.std.proofs.Common.{sym, ap, subst, arith}
use Rattle.std.specs.Int.Signed.{le_z}
use Rattle.std.proofs.lemmas.Bool.{eqb-false}
use Rattle.words.specs.Lists.{member, All, empty, also}
use Rattle.words.specs.ListFacts.{clash, and_true}
use Rattle.meaning.specs.Limits.{most_coefficient, most_duration, most_parts, most_rows, most_usage, most_value, most_variables}
use Rattle.meaning.specs.Read.{Reader, Got, got, refused, within, neg}
use Rattle.meaning.specs.Model.{Model, Row, linear, all_different, cumulative, circuit, Bounds, Term, Activity, bounds_pair, fresh_word, fresh, distinct, term, activity, row_of_kind, row, end, read_model}
use Rattle.meaning.specs.Outcomes.{ModelWrong, outside, twice, after}
use Rattle.meaning.proofs.Proved.Reading.{Fair, took, short, off, Reads, reads_give, reads_bind, reads_word, reads_count, reads_times, reads_below}

abbrev pub ReadsModel : {A : Type 0} → (A → ℕ → Type 0) → Reader A → Type 0
ReadsModel = Reads 4 ModelWrong

-- ---- what is known of a model that was read: the ranges of document 01

pub record KnownBounds (b : Bounds) : Type 0 where
  pub low_least : le_z (neg most_value) b.low ≡ true
  pub low_high : le_z b.low b.high ≡ true
  pub high_most : le_z b.high (pos most_value) ≡ true

pub record KnownTerm (v : ℕ) (t : Term) : Type 0 where
  pub coefficient_range : within (neg most_coefficient) (pos most_coefficient) t.coefficient ≡ true
  pub variable_known : t.variable < v

pub record KnownActivity (v : ℕ) (a : Activity) : Type 0 where
  pub start_known : a.start < v
  pub duration_some : 1 ≤ a.duration
  pub duration_most : a.duration ≤ most_duration
  pub usage_most : a.usage ≤ most_usage

-- none twice, and none of those seen before
pub data Fresh : List ℕ → List ℕ → Type 0 where
  fresh_nil : {seen : List ℕ} → Fresh seen []
  fresh_next : {seen xs : List ℕ} {x : ℕ} → member eqb x seen ≡ false → Fresh (x ∷ seen) xs → Fresh seen (x ∷ xs)

abbrev pub Sized : {A : Type 0} → ℕ → (A → Type 0) → List A → Type 0
Sized least P xs = (least ≤ length xs) × (length xs ≤ most_parts) × All P xs

abbrev pub KnownRow : ℕ → Row → Type 0
KnownRow v (linear b ts) = (within (neg 2147483648) (pos 2147483647) b ≡ true) × Sized 1 (KnownTerm v) ts
KnownRow v (all_different xs) = Sized 2 (λ x. x < v) xs × Fresh [] xs
KnownRow v (cumulative c js) = (c ≤ most_usage) × Sized 1 (KnownActivity v) js
KnownRow v (circuit xs) = Sized 2 (λ x. x < v) xs × Fresh [] xs

pub record KnownModel (m : Model) : Type 0 where
  pub some_variable : 1 ≤ length m.bounds
  pub few_variables : length m.bounds ≤ most_variables
  pub few_rows : length m.rows ≤ most_rows
  pub bounds_known : All KnownBounds m.bounds
  pub rows_known : All (KnownRow (length m.bounds)) m.rows

-- ---- the readers
reads_fresh : (v : ℕ) (seen : List ℕ) → ReadsModel (λ x n. (x < v) × (member eqb x seen ≡ false)) (fresh v seen)
reads_fresh v seen at ws = go (reads_below 5 v outside at ws)
  where
    test : (x n at' : ℕ) (rest : List ℤ) → at' ≡ at + n → length ws ≡ n + length rest → (x < v) × (n ≡ 1) → (b : Bool) → member eqb x seen ≡ b
        → Fair {A = ℕ} 4 ModelWrong (λ x n. (x < v) × (member eqb x seen ≡ false)) at ws (elim b [ true ↦ refused 6 at | false ↦ got x at' rest ])
    test x n at' rest m l o true e = off {p = at} twice (omega arith) (omega arith)
    test x n at' rest m l o false e = took n m l (o.0, e)

    go : {g : Got ℕ} → Fair 4 ModelWrong (λ x n. (x < v) × (n ≡ 1)) at ws g → Fair 4 ModelWrong (λ x n. (x < v) × (member eqb x seen ≡ false)) at ws (fresh_word seen at g)
    go (took {a} {at'} {rest} n m l c) = test a n at' rest m l c (member eqb a seen) refl
    go (short e) = short e
    go (off w lo hi) = off w lo hi

reads_distinct : (v n : ℕ) (seen : List ℕ) → ReadsModel (λ xs e. (length xs ≡ n) × All (λ x. x < v) xs × Fresh seen xs) (distinct v n seen)
reads_distinct v zero seen = reads_give (refl, empty, fresh_nil)
reads_distinct v (suc n) seen =
    reads_bind (reads_fresh v seen) λ x i f.
    reads_bind (reads_distinct v n (x ∷ seen)) λ xs j g.
    reads_give (ap suc g.0, also f.0 g.1, fresh_next f.1 g.2)

reads_bounds : ReadsModel (λ b n. KnownBounds b) bounds_pair
reads_bounds =
    reads_bind (reads_word 5 (neg most_value) (pos most_value) outside) λ l i h.
    reads_bind (reads_word 5 l (pos most_value) outside) λ u j g.
    reads_give (record {
      low_least = (and_true (le_z (neg most_value) l) (le_z l (pos most_value)) h.0).0;
      low_high = (and_true (le_z l u) (le_z u (pos most_value)) g.0).0;
      high_most = (and_true (le_z l u) (le_z u (pos most_value)) g.0).1;
    })

reads_term : (v : ℕ) → ReadsModel (λ t n. KnownTerm v t) (term v)
reads_term v = reads_bind (reads_word 5 (neg most_coefficient) (pos most_coefficient) outside) λ c i h. reads_bind (reads_below 5 v outside) λ x j g. reads_give (record { coefficient_range = h.0; variable_known = g.0 })

reads_activity : (v : ℕ) → ReadsModel (λ a n. KnownActivity v a) (activity v)
reads_activity v =
    reads_bind (reads_below 5 v outside) λ x i h.
    reads_bind (reads_count 5 1 most_duration outside) λ d j g.
    reads_bind (reads_count 5 0 most_usage outside) λ u l o.
    reads_give (record { start_known = h.0; duration_some = g.0; duration_most = g.1; usage_most = o.1 })

reads_kind : (v k : ℕ) → 1 ≤ k → ReadsModel (λ r n. KnownRow v r) (row_of_kind v k)
reads_kind v zero h = absurd (omega arith)
reads_kind v (suc zero) h =
    reads_bind (reads_count 5 1 most_parts outside) λ n i o.
    reads_bind (reads_word 5 (neg 2147483648) (pos 2147483647) outside) λ b j g.
    reads_bind (reads_times (KnownTerm v) (λ a n h. h) n (reads_term v)) λ ts l u.
    reads_give (g.0, (omega arith, omega arith, u.1))
reads_kind v (suc (suc zero)) h =
    reads_bind (reads_count 5 2 most_parts outside) λ n i o.
    reads_bind (reads_distinct v n []) λ xs j g.
    reads_give ((omega arith, omega arith, g.1), g.2)
reads_kind v (suc (suc (suc zero))) h =
    reads_bind (reads_count 5 1 most_parts outside) λ n i o.
    reads_bind (reads_count 5 0 most_usage outside) λ c j g.
    reads_bind (reads_times (KnownActivity v) (λ a n h. h) n (reads_activity v)) λ js l u.
    reads_give (g.1, (omega arith, omega arith, u.1))
reads_kind v (suc (suc (suc (suc k)))) h =
    reads_bind (reads_count 5 2 most_parts outside) λ n i o.
    reads_bind (reads_distinct v n []) λ xs j g.
    reads_give ((omega arith, omega arith, g.1), g.2)

reads_row : (v : ℕ) → ReadsModel (λ r n. KnownRow v r) (row v)
reads_row v = reads_bind (reads_count 5 1 4 outside) λ k i h. reads_kind v k h.0

reads_end : (m : Model) → KnownModel m → ReadsModel (λ m n. KnownModel m) (end m)
reads_end m h at [] = took {at' = at} {rest = []} 0 (omega arith) (omega arith) h
reads_end m h at (w ∷ ws) = off {p = at} after (omega arith) (omega arith)

pub reads_model : ReadsModel (λ m n. KnownModel m) read_model
reads_model =
    reads_bind (reads_count 5 1 most_variables outside) λ v i h.
    reads_bind (reads_times KnownBounds (λ b n k. k) v reads_bounds) λ bs j g.
    reads_bind (reads_count 5 0 most_rows outside) λ c l o.
    reads_bind (reads_times (KnownRow v) (λ r n k. k) c (reads_row v)) λ rs u w.
    reads_end (record { bounds = bs; rows = rs }) (record {
      some_variable = omega arith;
      few_variables = omega arith;
      few_rows = omega arith;
      bounds_known = g.1;
      rows_known = subst (λ n. All (KnownRow n) rs) (sym g.0) w.1;
    })

pub known_model : (model : List ℤ) {m : Model} {at : ℕ} {rest : List ℤ} → read_model 0 model ≡ got m at rest → KnownModel m
known_model model {m} {at} {rest} e = go (subst (Fair 4 ModelWrong (λ m n. KnownModel m) 0 model) e (reads_model 0 model))
  where
    go : Fair 4 ModelWrong (λ m n. KnownModel m) 0 model (got m at rest) → KnownModel m
    go (took n h l k) = k

-- ---- none twice, by place
member_cons : (x y : ℕ) (seen : List ℕ) → member eqb y (x ∷ seen) ≡ false → (y ≡ x → ⊥) × (member eqb y seen ≡ false)
member_cons x y seen e = go (eqb y x) refl e
  where
    go : (b : Bool) → eqb y x ≡ b → b || member eqb y seen ≡ false → (y ≡ x → ⊥) × (member eqb y seen ≡ false)
    go true h e = clash refl e
    go false h e = (eqb-false y x h, e)

fresh_unseen : {seen xs : List ℕ} (i : ℕ) → i < length xs → Fresh seen xs → member eqb (get_or xs i 0) seen ≡ false
fresh_unseen i l fresh_nil = absurd (omega arith)
fresh_unseen zero l (fresh_next e f) = e
fresh_unseen (suc i) l (fresh_next {seen} {xs} {x} e f) = (member_cons x (get_or xs i 0) seen (fresh_unseen i (omega arith) f)).1

pub fresh_apart : {seen xs : List ℕ} (i j : ℕ) → i < j → j < length xs → Fresh seen xs → get_or xs i 0 ≡ get_or xs j 0 → ⊥
fresh_apart i j h l fresh_nil = absurd (omega arith)
fresh_apart i zero h l (fresh_next e f) = absurd (omega arith)
fresh_apart zero (suc j) h l (fresh_next {seen} {xs} {x} e f) = λ q. (member_cons x (get_or xs j 0) seen (fresh_unseen j (omega arith) f)).0 (sym q)
fresh_apart (suc i) (suc j) h l (fresh_next e f) = fresh_apart i j (omega arith) (omega arith) f
