-- A row is changed where its words differ: the flags of the meaning, row by row of the two tables.
use Rattle.std.specs.Prelude.{ℕ, zero, suc, ◌+◌, ◌≤◌, ◌<◌, ◌≡◌, refl, Bool, false, not, List, [], ◌∷◌, ℤ, pos, length, get_or}
use Rattle.std.proofs.Common.{sym, ap, ap₂, ◌∙◌, arith}
use Rattle.meaning.specs.Model.{Row, linear, row_words}
use Rattle.meaning.specs.Check.{same_words, changes}
use Rattle.model.specs.Rows.{RowIn}
use Rattle.model.specs.RowWords.{RowBegins, row_size, row_words_lem, row_fits, row_begins}
use Rattle.model.specs.Planned.{model_of, Planned}
use Rattle.row_changes.specs.Words.{words_at, words_length, other_words}

-- the words of the row that begins at p
abbrev pub row_words_at : List ℤ → ℕ → List ℤ
row_words_at s p = words_at s p (row_size s p)

-- a row begins at p, and all its words are there
pub record Stands (s : List ℤ) (p : ℕ) : Type 0 where
  pub begins : RowBegins s p
  pub fits : p + row_size s p ≤ length s

pub stands : {v p : ℕ} (s : List ℤ) → RowIn v s p → Stands s p
stands {v} {p} s h = record { begins = row_begins s p h; fits = row_fits s h }

-- rows of different sizes differ
pub other_size : (a b : List ℤ) {p q : ℕ} → Stands a p → Stands b q → (row_size b q ≡ row_size a p → ⊥) → same_words (row_words_at a p) (row_words_at b q) ≡ false
other_size a b {p} {q} x y h = other_words (row_words_at a p) (row_words_at b q) (λ e. h (sym (words_length b q (row_size b q) y.fits) ∙ sym e ∙ words_length a p (row_size a p) x.fits))

-- ---- the flags by number
length_changes : (ps qs : List Row) → length ps ≡ length qs → length (changes ps qs) ≡ length ps
length_changes [] qs h = refl
length_changes (p ∷ ps) [] h = absurd (omega arith)
length_changes (p ∷ ps) (q ∷ qs) h = ap suc (length_changes ps qs (omega arith))

flag_at : (d : Row) (ps qs : List Row) (r : ℕ) → length ps ≡ length qs → r < length ps → get_or (changes ps qs) r false ≡ not (same_words (row_words (get_or ps r d)) (row_words (get_or qs r d)))
flag_at d [] qs r l h = absurd (omega arith)
flag_at d (p ∷ ps) [] r l h = absurd (omega arith)
flag_at d (p ∷ ps) (q ∷ qs) zero l h = refl
flag_at d (p ∷ ps) (q ∷ qs) (suc r) l h = flag_at d ps qs r (omega arith) (omega arith)

-- the words of row r
words_of : {s : List ℤ} {starts : List ℕ} {v c : ℕ} (m : Planned s starts v c) (r : ℕ) → r < c → row_words (get_or (model_of s).rows r (linear (pos 0) [])) ≡ row_words_at s (get_or starts r 0)
words_of {s} m r h = ap row_words (m.row_is r h) ∙ row_words_lem s (m.row_in r h)

-- ---- two good models with as many rows
module _ {old new : List ℤ} {olds news : List ℕ} {v c w d : ℕ} (o : Planned old olds v c) (n : Planned new news w d) (e : c ≡ d) where
  abbrev pub flags : List Bool
  flags = changes (model_of old).rows (model_of new).rows

  as_many : length (model_of old).rows ≡ length (model_of new).rows
  as_many = o.rows ∙ e ∙ sym n.rows

  pub flags_length : length flags ≡ d
  flags_length = length_changes (model_of old).rows (model_of new).rows as_many ∙ o.rows ∙ e

  pub flag_is : (r : ℕ) → r < d → get_or flags r false ≡ not (same_words (row_words_at old (get_or olds r 0)) (row_words_at new (get_or news r 0)))
  flag_is r h =
      flag_at (linear (pos 0) []) (model_of old).rows (model_of new).rows r as_many (omega (arith, o.rows))
      ∙ ap₂ (λ x y. not (same_words x y)) (words_of o r (omega arith)) (words_of n r h)
