-- Rows and bounds with the same words are the same, and a step is judged alike against two models that agree on what it looks at.
use Rattle.std.specs.Prelude.{ℕ, zero, suc, ◌≡◌, refl, true, false, ◌&&◌, List, [], ◌∷◌, length, get_or, ℤ, pos, nat_abs}
use Rattle.std.proofs.Common.{sym, ◌∙◌, ap, ap₂, arith}
use Rattle.std.proofs.lemmas.Bool.{not-false}
use Rattle.words.specs.Int.{eq_z, eq_z_eq}
use Rattle.words.specs.ListFacts.{and_true}
use Rattle.meaning.specs.Model.{Bounds, Term, Activity, Row, linear, all_different, cumulative, circuit, Model, row_words, term_words, variable_words, activity_words}
use Rattle.meaning.specs.Log.{Fact, Step, inference, deduction, no_assignment, never_below}
use Rattle.meaning.specs.Judge.{row_at, judge, judge_inference, judge_deduction}
use Rattle.meaning.specs.Check.{same_words, same_bounds, changes}
use Rattle.meaning.specs.Claims.{Cites, cites}

-- ---- a row from its words
first : List ℤ → ℤ
first [] = pos 0
first (w ∷ ws) = w

others : List ℤ → List ℤ
others [] = []
others (w ∷ ws) = ws

terms_of : List ℤ → List Term
terms_of [] = []
terms_of (c ∷ []) = []
terms_of (c ∷ (x ∷ ws)) = record { coefficient = c; variable = nat_abs x } ∷ terms_of ws

variables_of : List ℤ → List ℕ
variables_of [] = []
variables_of (x ∷ ws) = nat_abs x ∷ variables_of ws

activities_of : List ℤ → List Activity
activities_of [] = []
activities_of (x ∷ []) = []
activities_of (x ∷ (d ∷ [])) = []
activities_of (x ∷ (d ∷ (u ∷ ws))) = record { start = nat_abs x; duration = nat_abs d; usage = nat_abs u } ∷ activities_of ws

row_of : ℕ → List ℤ → Row
row_of zero ws = circuit []
row_of (suc zero) ws = linear (first ws) (terms_of (others ws))
row_of (suc (suc zero)) ws = all_different (variables_of ws)
row_of (suc (suc (suc zero))) ws = cumulative (nat_abs (first ws)) (activities_of (others ws))
row_of (suc (suc (suc (suc k)))) ws = circuit (variables_of ws)

terms_back : (ts : List Term) → terms_of (term_words ts) ≡ ts
unfolding terms_of
terms_back [] = refl
terms_back (t ∷ ts) = ap (λ l. t ∷ l) (terms_back ts)

variables_back : (xs : List ℕ) → variables_of (variable_words xs) ≡ xs
unfolding variables_of
variables_back [] = refl
variables_back (x ∷ xs) = ap (λ l. x ∷ l) (variables_back xs)

activities_back : (js : List Activity) → activities_of (activity_words js) ≡ js
unfolding activities_of
activities_back [] = refl
activities_back (j ∷ js) = ap (λ l. j ∷ l) (activities_back js)

row_back : (p : Row) → row_of (nat_abs (first (row_words p))) (others (others (row_words p))) ≡ p
unfolding row_of first others
row_back (linear b ts) = ap (linear b) (terms_back ts)
row_back (all_different xs) = ap all_different (variables_back xs)
row_back (cumulative c js) = ap (cumulative c) (activities_back js)
row_back (circuit xs) = ap circuit (variables_back xs)

pub same_row : (p q : Row) → row_words p ≡ row_words q → p ≡ q
same_row p q e = sym (row_back p) ∙ ap (λ ws. row_of (nat_abs (first ws)) (others (others ws))) e ∙ row_back q

-- ---- the tests
pub same_words_same : (as' bs : List ℤ) → same_words as' bs ≡ true → as' ≡ bs
same_words_same [] [] e = refl
same_words_same [] (b ∷ bs) e = absurd (let z : ◌≡◌ {A = ℕ} 0 1 = cc in omega arith)
same_words_same (a ∷ as') [] e = absurd (let z : ◌≡◌ {A = ℕ} 0 1 = cc in omega arith)
same_words_same (a ∷ as') (b ∷ bs) e = let h = and_true (eq_z a b) (same_words as' bs) e in ap₂ ◌∷◌ (eq_z_eq a b h.0) (same_words_same as' bs h.1)

pub same_bounds_same : (as' bs : List Bounds) → same_bounds as' bs ≡ true → as' ≡ bs
same_bounds_same [] [] e = refl
same_bounds_same [] (b ∷ bs) e = absurd (let z : ◌≡◌ {A = ℕ} 0 1 = cc in omega arith)
same_bounds_same (a ∷ as') [] e = absurd (let z : ◌≡◌ {A = ℕ} 0 1 = cc in omega arith)
same_bounds_same (a ∷ as') (b ∷ bs) e =
    let h = and_true (eq_z a.low b.low) (eq_z a.high b.high && same_bounds as' bs) e in
    let g = and_true (eq_z a.high b.high) (same_bounds as' bs) h.1 in
    let p = eq_z_eq a.low b.low h.0 in
    let q = eq_z_eq a.high b.high g.0 in
    ap₂ ◌∷◌ (λ i. record { low = p i; high = q i }) (same_bounds_same as' bs g.1)

pub unchanged : (d : Row) (ps qs : List Row) (r : ℕ) → length ps ≡ length qs → get_or (changes ps qs) r false ≡ false → get_or ps r d ≡ get_or qs r d
unchanged d [] [] r l e = refl
unchanged d [] (q ∷ qs) r l e = absurd (omega arith)
unchanged d (p ∷ ps) [] r l e = absurd (omega arith)
unchanged d (p ∷ ps) (q ∷ qs) zero l e = same_row p q (same_words_same (row_words p) (row_words q) (not-false _ e))
unchanged d (p ∷ ps) (q ∷ qs) (suc r) l e = unchanged d ps qs r (omega arith) e

-- ---- deductions and conclusions look at no row
pub judge_same : (m n : Model) (facts : ℕ → Fact) (t : Step) → m.bounds ≡ n.bounds → ((r : ℕ) → Cites r t → row_at m r ≡ row_at n r) → judge m facts t ≡ judge n facts t
judge_same m n facts (inference r f) b h = ap₂ (λ bs row. judge_inference bs row f) b (h r cites)
judge_same m n facts (deduction f hs) b h = ap (λ bs. judge_deduction bs facts f hs) b
judge_same m n facts (no_assignment i) b h = refl
judge_same m n facts (never_below x v i) b h = refl
