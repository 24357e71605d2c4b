-- Reading back: from a value's own words a reader gives the value, takes just these words, and leaves what stands after them.
use Rattle.std.specs.Prelude.{ℕ, zero, suc, ◌+◌, ◌<◌, ◌≤◌, ◌≡◌, true, List, [], ◌∷◌, ◌++◌, length, ℤ, pos, nat_abs, ◌≤ℤ◌}
use Rattle.std.proofs.Common.{arith, ap, ◌∙◌, append_assoc, length-append}
use Rattle.std.specs.Int.Signed.{le_z}
use Rattle.words.specs.Int.{zz}
use Rattle.words.specs.Lists.{All, empty, also}
use Rattle.words.specs.ListFacts.{and_both, of_le}
use Rattle.meaning.specs.Read.{Reader, got, bind_got, ◌>>=◌, give, within, word, count, below, times}
use Rattle.meaning.specs.Ranges.{each}

abbrev pub Rereads : {A : Type 0} → Reader A → A → List ℤ → Type 0
Rereads r a ws = (at : ℕ) (rest : List ℤ) → r at (ws ++ rest) ≡ got a (at + length ws) rest

pub again_give : {A : Type 0} {a : A} → Rereads (give a) a []
again_give {a = a} at rest = let e : at ≡ at + 0 = omega arith in ap (λ z. got a z rest) e

-- the words of the first, then those of the second
pub again_bind : {A B : Type 0} (r : Reader A) (f : A → Reader B) {a : A} {b : B} (us ws : List ℤ) → Rereads r a us → Rereads (f a) b ws → Rereads (r >>= f) b (us ++ ws)
again_bind r f {a} {b} us ws h k at rest =
    let e : at + length us + length ws ≡ at + length (us ++ ws) = omega (arith, length-append us ws) in
    ap (λ z. bind_got (r at z) f) (append_assoc us ws rest) ∙ ap (λ g. bind_got g f) (h at (ws ++ rest)) ∙ k (at + length us) rest ∙ ap (λ z. got b z rest) e

-- a last part, and what is made of it
pub again_last : {A B : Type 0} (r : Reader A) (g : A → B) {a : A} (us : List ℤ) → Rereads r a us → Rereads (r >>= (λ x. give (g x))) (g a) us
again_last r g us h at rest = ap (λ z. bind_got z (λ x. give (g x))) (h at rest)

within_of : {lo hi w : ℤ} → lo ≤ℤ w → w ≤ℤ hi → within lo hi w ≡ true
within_of {lo} {hi} {w} l h = and_both (le_z lo w) (le_z w hi) (of_le l) (of_le h)

pub again_word : (early outside : ℕ) {lo hi w : ℤ} → lo ≤ℤ w → w ≤ℤ hi → Rereads (word early outside lo hi) w (w ∷ [])
again_word early outside {lo} {hi} {w} l h at rest = let e : suc at ≡ at + 1 = omega arith in rw (within_of l h, word) (ap (λ z. got w z rest) e)

pub again_count : (early outside : ℕ) {lo hi n : ℕ} → lo ≤ n → n ≤ hi → Rereads (count early outside lo hi) n (pos n ∷ [])
again_count early outside {lo} {hi} {n} l h at rest =
    let k : pos lo ≤ℤ pos n = omega (arith, zz) in
    let g : pos n ≤ℤ pos hi = omega (arith, zz) in
    again_last (word early outside (pos lo) (pos hi)) nat_abs (pos n ∷ []) (again_word early outside k g) at rest

pub again_below : (early outside n : ℕ) {x : ℕ} → x < n → Rereads (below early outside n) x (pos x ∷ [])
again_below early outside zero l = absurd (omega arith)
again_below early outside (suc n) {x} l = again_count early outside {lo = 0} {hi = n} {n = x} (omega arith) (omega arith)

pub again_times : {A : Type 0} (W : A → List ℤ) (r : Reader A) {xs : List A} → All (λ a. Rereads r a (W a)) xs → Rereads (times (length xs) r) xs (each W xs)
again_times W r empty = again_give
again_times W r (also {x} {xs} h hs) = again_bind r _ (W x) (each W xs) h (again_last (times (length xs) r) (λ ys. x ∷ ys) (each W xs) (again_times W r hs))
