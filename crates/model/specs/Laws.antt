-- What a model that was read well says of the words of its table: its bounds, and each row where the table of starts says.
use Rattle.std.specs.Prelude.{ℕ, zero, suc, ◌+◌, ◌*◌, ◌≤◌, ◌<◌, ◌≡◌, refl, List, [], ◌∷◌, map, ℤ, length, get_or, drop}
use Rattle.std.proofs.Common.{sym, ap, subst, ◌∙◌, arith}
use Rattle.std.proofs.lemmas.List.{length-map}
use Rattle.std.proofs.Math.ListN.{get_or-append}
use Rattle.std.proofs.lemmas.List.Edits.{sets, sets-eq}
use Rattle.words.specs.Lists.{All, empty, also}
use Rattle.words.specs.ListFacts.{each_at_lem}
use Rattle.meaning.specs.Limits.{most_variables, most_rows}
use Rattle.meaning.specs.Read.{got, refused, times}
use Rattle.meaning.specs.Model.{Bounds, Row, Model, number, bounds_pair, row, end, read_model}
use Rattle.meaning.specs.Outcomes.{ModelWrong, outside, twice, after}
use Rattle.meaning.proofs.Proved.Reading.{Fair, short, off}
use Rattle.meaning.proofs.Proved.ReadModel.{KnownModel, reads_model}
use Rattle.reading.specs.At.{nat_at, each_at, get_or_each, Between}
use Rattle.reading.specs.Reading.{bind_got_lem, times_length}
use Rattle.reading.specs.Back.{times_back, count_back, bind_at}
use Rattle.model.specs.Rows.{bounds_at, row_at, RowIn}
use Rattle.model.specs.Back.{BoundsIn, bounds_back, row_back}
use Rattle.model.specs.Starts.{row_starts, model_starts}

-- ---- the rows of a model are the rows at its starts
pub record AtStarts (v : ℕ) (s : List ℤ) (rs : List Row) (starts : List ℕ) : Type 0 where
  pub are : rs ≡ map (row_at s) starts
  pub known : All (RowIn v s) starts

next_row : (v c : ℕ) (s : List ℤ) (at : ℕ) {r : Row} {rest : List Row} {m o : ℕ} {us ts : List ℤ}
    → (times c (row v) m (drop m s) ≡ got rest o ts → AtStarts v s rest (row_starts v c m (drop m s)))
    → row v at (drop at s) ≡ got r m us → times c (row v) m us ≡ got rest o ts
    → AtStarts v s (r ∷ rest) (row_starts v (suc c) at (drop at s))
unfolding row_starts
next_row v c s at {r} {rest} {m} {o} {us} {ts} rec p q =
    let h = (row_back v).back s at p in
    let k = rec (rw (← h.rest) q) in
    rw (p, h.rest, h.value) (record { are = ap (λ rs. row_at s at ∷ rs) k.are; known = also h.known k.known })

rows_at_starts : (v c : ℕ) (s : List ℤ) (at : ℕ) {rs : List Row} {n : ℕ} {vs : List ℤ} → times c (row v) at (drop at s) ≡ got rs n vs → AtStarts v s rs (row_starts v c at (drop at s))
unfolding row_starts
rows_at_starts v zero s at {rs} e = let q : rs ≡ [] = cc in rw q (record { are = refl; known = empty })
rows_at_starts v (suc c) s at {rs} e =
    let (r, m, us, p, q) = bind_got_lem (row v at (drop at s)) _ e in
    let (rest, o, ts, p', q') = bind_got_lem (times c (row v) m us) _ q in
    let h : rs ≡ r ∷ rest = cc in
    rw h (next_row v c s at (rows_at_starts v c s m) p p')

-- ---- a good model, from its reading alone
pub record Good (s : List ℤ) (m : Model) : Type 0 where
  pub variables_are : length m.bounds ≡ nat_at s 0
  pub variables_in : Between 1 most_variables s 0
  pub rows_counted : length m.rows ≡ nat_at s (1 + length m.bounds * 2)
  pub rows_number : Between 0 most_rows s (1 + length m.bounds * 2)
  pub bounds_are : m.bounds ≡ each_at bounds_at 2 (length m.bounds) s 1
  pub bounds_in : (x : ℕ) → x < length m.bounds → BoundsIn s (1 + x * 2)
  pub rows_are : m.rows ≡ map (row_at s) (model_starts s)
  pub rows_in : All (RowIn (length m.bounds) s) (model_starts s)

end_got : (x m : Model) (at n : ℕ) (ws : List ℤ) {vs : List ℤ} → end x at ws ≡ got m n vs → x ≡ m
end_got x m at n [] e = cc
end_got x m at n (w ∷ ws) e = let z : ◌≡◌ {A = ℕ} 0 1 = cc in absurd (omega arith)

starts_are : (s : List ℤ) {v a n c from : ℕ} {bs : List Bounds} → number 1 most_variables 0 s ≡ got v a (drop a s) → times v bounds_pair a (drop a s) ≡ got bs n (drop n s) → number 0 most_rows n (drop n s) ≡ got c from (drop from s) → model_starts s ≡ row_starts v c from (drop from s)
unfolding model_starts
starts_are s e₁ e₂ e₃ = rw (e₁, e₂, e₃)

good_by : (s : List ℤ) {v a n c from o : ℕ} {bs : List Bounds} {rs : List Row} {us : List ℤ} → number 1 most_variables 0 s ≡ got v a (drop a s) → times v bounds_pair a (drop a s) ≡ got bs n (drop n s) → number 0 most_rows n (drop n s) ≡ got c from (drop from s) → times c (row v) from (drop from s) ≡ got rs o us → Good s (record { bounds = bs; rows = rs })
good_by s {v} {a} {n} {c} {from} {bs = bs} {rs = rs} e₁ e₂ e₃ e₄ =
    let x = (count_back 4 5 1 most_variables).back s 0 e₁ in
    let b = (times_back bounds_back v).back s a e₂ in
    let y = (count_back 4 5 0 most_rows).back s n e₃ in
    let lb = times_length bounds_pair v a (drop a s) e₂ in
    let lr = times_length (row v) c from (drop from s) e₄ in
    let r = rows_at_starts v c s from e₄ in
    let q = sym (starts_are s e₁ e₂ e₃) in
    let z : n ≡ 1 + length bs * 2 = omega (arith, x.next, b.next, lb) in
    record {
      variables_are = lb ∙ x.value;
      variables_in = x.known;
      rows_counted = lr ∙ y.value ∙ ap (nat_at s) z;
      rows_number = subst (Between 0 most_rows s) z y.known;
      bounds_are = rw lb (b.value ∙ ap (each_at bounds_at 2 v s) x.next);
      bounds_in = λ i h. rw (← x.next) (b.known.each i (omega (arith, lb, h)));
      rows_are = r.are ∙ ap (map (row_at s)) q;
      rows_in = rw (lb, ← q) r.known;
    }

pub good_model : (s : List ℤ) {m : Model} {n : ℕ} {vs : List ℤ} → read_model 0 s ≡ got m n vs → Good s m
good_model s {m} {n} e =
    let (v, a, e₁, q₁) = bind_at (count_back 4 5 1 most_variables) s 0 _ e in
    let (bs, k, e₂, q₂) = bind_at (times_back bounds_back v) s a _ q₁ in
    let (c, f, e₃, q₃) = bind_at (count_back 4 5 0 most_rows) s k _ q₂ in
    let (rs, o, us, e₄, q₄) = bind_got_lem (times c (row v) f (drop f s)) _ q₃ in
    subst (Good s) (end_got (record { bounds = bs; rows = rs }) m o n us q₄) (good_by s e₁ e₂ e₃ e₄)

-- ---- by number: variable x, row r
get_d_map : {B : Type 0} (f : ℕ → B) (xs : List ℕ) (d : B) (r : ℕ) → r < length xs → get_or (map f xs) r d ≡ f (get_or xs r 0)
get_d_map f [] d r h = absurd (omega arith)
get_d_map f (x ∷ xs) d zero h = refl
get_d_map f (x ∷ xs) d (suc r) h = get_d_map f xs d r (omega arith)

get_sets : (l xs : List ℕ) (r : ℕ) → length xs ≤ length l → r < length xs → get_or (sets l 0 xs) r 0 ≡ get_or xs r 0
get_sets l xs r h k = rw (sets-eq xs l 0 (omega arith)) (get_or-append xs (drop (0 + length xs) l) 0 r k)

pub bounds_at_lem : (s : List ℤ) {m : Model} → Good s m → (d : Bounds) (x : ℕ) → x < length m.bounds → get_or m.bounds x d ≡ bounds_at s (1 + x * 2)
bounds_at_lem s {m} g d x h = rw g.bounds_are (get_or_each bounds_at 2 (length m.bounds) s 1 x d h)

module _ (s : List ℤ) {m : Model} (g : Good s m) where
  pub starts_length : length (model_starts s) ≡ length m.rows
  starts_length = sym (ap length g.rows_are ∙ length-map (model_starts s) (row_at s))

  pub few_rows : length m.rows ≤ most_rows
  few_rows = omega (arith, g.rows_counted, g.rows_number.upto)

  -- entry r of a table of starts, of which the first were set
  pub start_of : (l : List ℕ) → most_rows ≤ length l → (r : ℕ) → r < length m.rows → get_or (sets l 0 (model_starts s)) r 0 ≡ get_or (model_starts s) r 0
  start_of l h r k = get_sets l (model_starts s) r (omega (arith, starts_length, few_rows)) (omega (arith, starts_length))

  pub row_at_start : (d : Row) (r : ℕ) → r < length m.rows → get_or m.rows r d ≡ row_at s (get_or (model_starts s) r 0)
  row_at_start d r k = rw g.rows_are (get_d_map (row_at s) (model_starts s) d r (omega (arith, starts_length)))

  pub row_in : (r : ℕ) → r < length m.rows → RowIn (length m.bounds) s (get_or (model_starts s) r 0)
  row_in r k = each_at_lem 0 r (omega (arith, starts_length)) g.rows_in

-- a refusal names a number from 4 to 7 and a position of the table or its length
refused_by : (s : List ℤ) {num p : ℕ} → Fair 4 ModelWrong (λ m n. KnownModel m) 0 s (refused num p) → (4 ≤ num) × (num ≤ 7) × (p ≤ length s)
refused_by s (short e) = (omega arith, omega arith, omega arith)
refused_by s (off outside lo hi) = (omega arith, omega arith, omega arith)
refused_by s (off twice lo hi) = (omega arith, omega arith, omega arith)
refused_by s (off after lo hi) = (omega arith, omega arith, omega arith)

pub refused_inside : (s : List ℤ) {num p : ℕ} → read_model 0 s ≡ refused num p → (4 ≤ num) × (num ≤ 7) × (p ≤ length s)
refused_inside s e = refused_by s (subst (Fair 4 ModelWrong (λ m n. KnownModel m) 0 s) e (reads_model 0 s))
