-- A good model table is spelled by what was read from it: each reader takes exactly the words of its value.
use Rattle.std.specs.Prelude.{ℕ, zero, suc, ◌≤◌, ◌≡◌, refl, Bool, true, false, List, [], ◌∷◌, ◌++◌, eqb, length, ℤ, pos, negsuc, nat_abs}
use Rattle.std.proofs.Common.{sym, ap, ap₂, subst, ◌∙◌, append_assoc, append-nil, arith}
use Rattle.words.specs.Lists.{member}
use Rattle.meaning.specs.Limits.{most_coefficient, most_duration, most_parts, most_rows, most_usage, most_value, most_variables}
use Rattle.meaning.specs.Read.{Reader, Got, got, refused, bind_got, ◌>>=◌, give, neg, within, word, count, below, times}
use Rattle.meaning.specs.Model.{Bounds, Row, Model, number, bounds_pair, fresh_word, fresh, distinct, term, activity, row_of_kind, row, end, read_model}
use Rattle.meaning.specs.Ranges.{each, number_table, bounds_table, term_table, activity_table, row_table, model_table}
use Rattle.meaning.proofs.Proved.Reading.{within_counts}

-- `Q a part`: the words `part` were taken for the value a
pub data Took {A : Type 0} (Q : A → List ℤ → Type 0) (ws : List ℤ) : Got A → Type 0 where
  took : {a : A} {at : ℕ} {rest : List ℤ} (part : List ℤ) → ws ≡ part ++ rest → Q a part → Took Q ws (got a at rest)
  nothing : {num p : ℕ} → Took Q ws (refused num p)

abbrev pub Takes : {A : Type 0} → (A → List ℤ → Type 0) → Reader A → Type 0
Takes Q r = (at : ℕ) (ws : List ℤ) → Took Q ws (r at ws)

pub takes_give : {A : Type 0} {Q : A → List ℤ → Type 0} {a : A} → Q a [] → Takes Q (give a)
takes_give q at ws = took [] refl q

pub weaker : {A : Type 0} {P Q : A → List ℤ → Type 0} {ws : List ℤ} {g : Got A} → ((a : A) (part : List ℤ) → P a part → Q a part) → Took P ws g → Took Q ws g
weaker h (took part e p) = took part e (h _ part p)
weaker h nothing = nothing

further : {A : Type 0} {Q : A → List ℤ → Type 0} (part : List ℤ) {ws rest : List ℤ} {g : Got A} → ws ≡ part ++ rest → Took (λ a more. Q a (part ++ more)) rest g → Took Q ws g
further part e (took {rest = rest} more f q) = took (part ++ more) (e ∙ ap (λ z. part ++ z) f ∙ sym (append_assoc part more rest)) q
further part e nothing = nothing

bound : {A B : Type 0} {P : A → List ℤ → Type 0} {Q : B → List ℤ → Type 0} {ws : List ℤ} {g : Got A} {f : A → Reader B}
    → Took P ws g → ((a : A) (part : List ℤ) → P a part → Takes (λ b more. Q b (part ++ more)) (f a)) → Took Q ws (bind_got g f)
bound (took {a} {at} {rest} part e p) h = further part e (h a part p at rest)
bound nothing h = nothing

pub takes_bind : {A B : Type 0} {P : A → List ℤ → Type 0} {Q : B → List ℤ → Type 0} {r : Reader A} {f : A → Reader B}
    → Takes P r → ((a : A) (part : List ℤ) → P a part → Takes (λ b more. Q b (part ++ more)) (f a)) → Takes Q (r >>= f)
takes_bind h k at ws = bound (h at ws) k

-- ---- one word, one number
pub takes_word : (early outside : ℕ) (lo hi : ℤ) → Takes (λ w part. (part ≡ w ∷ []) × (within lo hi w ≡ true)) (word early outside lo hi)
takes_word early outside lo hi at [] = nothing
takes_word early outside lo hi at (w ∷ ws) = go (within lo hi w) refl
  where
    go : (b : Bool) → within lo hi w ≡ b → Took (λ w part. (part ≡ w ∷ []) × (within lo hi w ≡ true)) (w ∷ ws) (elim b [ true ↦ got w (suc at) ws | false ↦ refused outside at ])
    go true e = took (w ∷ []) refl (refl, e)
    go false e = nothing

-- n is spelled by one word
abbrev pub Number : ℕ → List ℤ → Type 0
Number n part = part ≡ pos n ∷ []

pub natural : (lo hi : ℕ) (w : ℤ) → within (pos lo) (pos hi) w ≡ true → w ≡ pos (nat_abs w)
natural lo hi (pos n) e = refl
natural lo hi (negsuc n) e = absurd (let z : ◌≡◌ {A = ℕ} 0 1 = cc in omega arith)

pub takes_count : (early outside lo hi : ℕ) → Takes Number (count early outside lo hi)
takes_count early outside lo hi = takes_bind (takes_word early outside (pos lo) (pos hi)) λ w part h. takes_give (append-nil part ∙ h.0 ∙ ap (λ z. z ∷ []) (natural lo hi w h.1))

pub takes_below : (early outside n : ℕ) → Takes Number (below early outside n)
takes_below early outside zero = takes_bind (takes_word early outside (pos 1) (pos 0)) λ w part h. absurd (let i = within_counts 1 0 w h.1 in omega arith)
takes_below early outside (suc n) = takes_count early outside 0 n

-- ---- the same reader again and again
takes_times : {A : Type 0} (W : A → List ℤ) {r : Reader A} (n : ℕ) → Takes (λ a part. part ≡ W a) r → Takes (λ xs part. (part ≡ each W xs) × (length xs ≡ n)) (times n r)
takes_times W zero h = takes_give (refl, refl)
takes_times W (suc n) h =
    takes_bind h λ a p e.
    takes_bind (takes_times W n h) λ xs q f.
    takes_give (ap (λ z. p ++ z) (append-nil q) ∙ ap₂ ◌++◌ e f.0, ap suc f.1)

-- ---- the parts of a model
takes_bounds : Takes (λ b part. part ≡ bounds_table b) bounds_pair
takes_bounds =
    takes_bind (takes_word 4 5 (neg most_value) (pos most_value)) λ l p e.
    takes_bind (takes_word 4 5 l (pos most_value)) λ h q f.
    takes_give (rw (e.0, f.0))

takes_term : (v : ℕ) → Takes (λ t part. part ≡ term_table t) (term v)
takes_term v =
    takes_bind (takes_word 4 5 (neg most_coefficient) (pos most_coefficient)) λ c p e.
    takes_bind (takes_below 4 5 v) λ x q f.
    takes_give (rw (e.0, f))

takes_activity : (v : ℕ) → Takes (λ j part. part ≡ activity_table j) (activity v)
takes_activity v =
    takes_bind (takes_below 4 5 v) λ x p e.
    takes_bind (takes_count 4 5 1 most_duration) λ d q f.
    takes_bind (takes_count 4 5 0 most_usage) λ u r g.
    takes_give (rw (e, f, g))

takes_fresh : (v : ℕ) (seen : List ℕ) → Takes Number (fresh v seen)
takes_fresh v seen at ws = go (takes_below 4 5 v at ws)
  where
    test : (x at' : ℕ) (rest : List ℤ) (b : Bool) → Took Number ws (got x at' rest) → Took Number ws (elim b [ true ↦ refused 6 at | false ↦ got x at' rest ])
    test x at' rest true t = nothing
    test x at' rest false t = t

    go : {g : Got ℕ} → Took Number ws g → Took Number ws (fresh_word seen at g)
    go (took {a = x} {at = at'} {rest = rest} part e q) = test x at' rest (member eqb x seen) (took part e q)
    go nothing = nothing

takes_distinct : (v n : ℕ) (seen : List ℕ) → Takes (λ xs part. (part ≡ each number_table xs) × (length xs ≡ n)) (distinct v n seen)
takes_distinct v zero seen = takes_give (refl, refl)
takes_distinct v (suc n) seen =
    takes_bind (takes_fresh v seen) λ x p e.
    takes_bind (takes_distinct v n (x ∷ seen)) λ xs q f.
    takes_give (rw (e, append-nil q, f.0), ap suc f.1)

-- the words of a row after its kind k
takes_kind : (v k : ℕ) → k ≤ 4 → Takes (λ r part. pos k ∷ part ≡ row_table r) (row_of_kind v k)
takes_kind v zero h = λ at ws. nothing
takes_kind v (suc zero) h =
    takes_bind (takes_count 4 5 1 most_parts) λ n p e.
    takes_bind (takes_word 4 5 (neg 2147483648) (pos 2147483647)) λ b q f.
    takes_bind (takes_times term_table n (takes_term v)) λ ts r g.
    takes_give (rw (e, f.0, append-nil r, g.0, g.1))
takes_kind v (suc (suc zero)) h =
    takes_bind (takes_count 4 5 2 most_parts) λ n p e.
    takes_bind (takes_distinct v n []) λ xs q f.
    takes_give (rw (e, append-nil q, f.0, f.1))
takes_kind v (suc (suc (suc zero))) h =
    takes_bind (takes_count 4 5 1 most_parts) λ n p e.
    takes_bind (takes_count 4 5 0 most_usage) λ c q f.
    takes_bind (takes_times activity_table n (takes_activity v)) λ js r g.
    takes_give (rw (e, f, append-nil r, g.0, g.1))
takes_kind v (suc (suc (suc (suc zero)))) h =
    takes_bind (takes_count 4 5 2 most_parts) λ n p e.
    takes_bind (takes_distinct v n []) λ xs q f.
    takes_give (rw (e, append-nil q, f.0, f.1))
takes_kind v (suc (suc (suc (suc (suc k))))) h = absurd (omega arith)

-- a kind is at most 4
takes_small : Takes (λ k part. Number k part × (k ≤ 4)) (count 4 5 1 4)
takes_small = takes_bind (takes_word 4 5 (pos 1) (pos 4)) λ w part h. takes_give (append-nil part ∙ h.0 ∙ ap (λ z. z ∷ []) (natural 1 4 w h.1), (within_counts 1 4 w h.1).1)

takes_row : (v : ℕ) → Takes (λ r part. part ≡ row_table r) (row v)
takes_row v = takes_bind takes_small λ k p e at ws. weaker (λ r part h. ap (λ z. z ++ part) e.0 ∙ h) (takes_kind v k e.1 at ws)

pub takes_model : Takes (λ m part. part ≡ model_table m) read_model
takes_model =
    takes_bind (takes_count 4 5 1 most_variables) λ v p e.
    takes_bind (takes_times bounds_table v takes_bounds) λ bs q f.
    takes_bind (takes_count 4 5 0 most_rows) λ c r g.
    takes_bind (takes_times row_table c (takes_row v)) λ rs s h at ws.
    end_taken p q r s bs rs (e ∙ ap (λ n. pos n ∷ []) (sym f.1)) f.0 (g ∙ ap (λ n. pos n ∷ []) (sym h.1)) h.0 at ws
  where
    end_taken : (p q r s : List ℤ) (bs : List Bounds) (rs : List Row) → p ≡ pos (length bs) ∷ [] → q ≡ each bounds_table bs → r ≡ pos (length rs) ∷ [] → s ≡ each row_table rs
        → Takes (λ m more. p ++ (q ++ (r ++ (s ++ more))) ≡ model_table m) (end (record { bounds = bs; rows = rs }))
    end_taken p q r s bs rs e f g h at [] = took {a = record { bounds = bs; rows = rs }} {at = at} [] refl (rw (e, f, g, append-nil s, h))
    end_taken p q r s bs rs e f g h at (w ∷ ws) = nothing

-- ---- a reader after which no word is left
pub data Done {A : Type 0} : Got A → Type 0 where
  done : {a : A} {at : ℕ} → Done (got a at [])
  barred : {num p : ℕ} → Done (refused num p)

abbrev Ends : {A : Type 0} → Reader A → Type 0
Ends r = (at : ℕ) (ws : List ℤ) → Done (r at ws)

ends_bind : {A B : Type 0} (r : Reader A) (f : A → Reader B) → ((a : A) → Ends (f a)) → Ends (r >>= f)
ends_bind {A} {B} r f h at ws = go (r at ws)
  where
    go : (g : Got A) → Done (bind_got g f)
    go (got a at' rest) = h a at' rest
    go (refused num p) = barred

ends_end : (m : Model) → Ends (end m)
ends_end m at [] = done
ends_end m at (w ∷ ws) = barred

ends_model : Ends read_model
ends_model = ends_bind (number 1 most_variables) _ λ v. ends_bind (times v bounds_pair) _ λ bs. ends_bind (number 0 most_rows) _ λ c. ends_bind (times c (row v)) _ λ rs. ends_end (record { bounds = bs; rows = rs })

pub good_spelled : (model : List ℤ) {m : Model} {at : ℕ} {rest : List ℤ} → read_model 0 model ≡ got m at rest → model ≡ model_table m
good_spelled model {m} {at} {rest} e = go (subst Done e (ends_model 0 model)) (subst (Took (λ n part. part ≡ model_table n) model) e (takes_model 0 model))
  where
    go : {rest : List ℤ} → Done (got m at rest) → Took (λ n part. part ≡ model_table n) model (got m at rest) → model ≡ model_table m
    go done (took part q h) = q ∙ append-nil part ∙ h
