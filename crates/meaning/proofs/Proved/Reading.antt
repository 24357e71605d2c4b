-- What any reader does, said once: it takes words and moves its position by as many, or it refuses at the table's end or at a word of the table.
use Rattle.std.specs.Prelude.{ℕ, zero, suc, ◌+◌, ◌≤◌, ◌<◌, ◌≡◌, refl, Bool, true, false, List, [], ◌∷◌, length, ℤ, pos, negsuc, nat_abs}
use Rattle.std.proofs.Common.{ap, arith, leb-true}
use Rattle.std.specs.Int.Signed.{le_z}
use Rattle.meaning.specs.Read.{Reader, Got, got, refused, bind_got, ◌>>=◌, give, within, word, count, times, below}
use Rattle.words.specs.Lists.{All, empty, also}
use Rattle.words.specs.ListFacts.{and_true}

-- `early`: the number given at the table's end; `wrong`: the numbers given at a word; `Q a n`: what is known of a value that was read from n words
pub data Fair {A : Type 0} (early : ℕ) (wrong : ℕ → Type 0) (Q : A → ℕ → Type 0) (at : ℕ) (ws : List ℤ) : Got A → Type 0 where
  took : {a : A} {at' : ℕ} {rest : List ℤ} (n : ℕ) → at' ≡ at + n → length ws ≡ n + length rest → Q a n → Fair early wrong Q at ws (got a at' rest)
  short : {p : ℕ} → p ≡ at + length ws → Fair early wrong Q at ws (refused early p)
  off : {num p : ℕ} → wrong num → at ≤ p → p < at + length ws → Fair early wrong Q at ws (refused num p)

abbrev pub Reads : {A : Type 0} → ℕ → (ℕ → Type 0) → (A → ℕ → Type 0) → Reader A → Type 0
Reads early wrong Q r = (at : ℕ) (ws : List ℤ) → Fair early wrong Q at ws (r at ws)

pub reads_give : {A : Type 0} {early : ℕ} {wrong : ℕ → Type 0} {Q : A → ℕ → Type 0} {a : A} → Q a 0 → Reads early wrong Q (give a)
reads_give q at ws = took {at' = at} {rest = ws} 0 (omega arith) (omega arith) q

pub weaker : {A : Type 0} {early : ℕ} {wrong : ℕ → Type 0} {P Q : A → ℕ → Type 0} {at : ℕ} {ws : List ℤ} {g : Got A}
    → ((a : A) (n : ℕ) → P a n → Q a n) → Fair early wrong P at ws g → Fair early wrong Q at ws g
weaker h (took n e l p) = took n e l (h _ n p)
weaker h (short e) = short e
weaker h (off w l u) = off w l u

-- a reader that begins n words further on
further : {A : Type 0} {early : ℕ} {wrong : ℕ → Type 0} {Q : A → ℕ → Type 0} {at at' : ℕ} {ws rest : List ℤ} {g : Got A} (n : ℕ)
    → at' ≡ at + n → length ws ≡ n + length rest → Fair early wrong (λ a e. Q a (n + e)) at' rest g → Fair early wrong Q at ws g
further n m l (took {a} {at'} {rest} e m' l' q) = took {at' = at'} {rest = rest} (n + e) (omega arith) (omega arith) q
further n m l (short {p} e) = short {p = p} (omega arith)
further n m l (off {num} {p} w lo hi) = off {p = p} w (omega arith) (omega arith)

bound : {A B : Type 0} {early : ℕ} {wrong : ℕ → Type 0} {P : A → ℕ → Type 0} {Q : B → ℕ → Type 0} {at : ℕ} {ws : List ℤ} {g : Got A} {f : A → Reader B}
    → Fair early wrong P at ws g → ((a : A) (n : ℕ) → P a n → Reads early wrong (λ b e. Q b (n + e)) (f a)) → Fair early wrong Q at ws (bind_got g f)
bound (took {a} {at'} {rest} n m l p) h = further n m l (h a n p at' rest)
bound (short e) h = short e
bound (off w lo hi) h = off w lo hi

pub reads_bind : {A B : Type 0} {early : ℕ} {wrong : ℕ → Type 0} {P : A → ℕ → Type 0} {Q : B → ℕ → Type 0} {r : Reader A} {f : A → Reader B}
    → Reads early wrong P r → ((a : A) (n : ℕ) → P a n → Reads early wrong (λ b e. Q b (n + e)) (f a)) → Reads early wrong Q (r >>= f)
reads_bind h k at ws = bound (h at ws) k

-- one word
abbrev pub One : ℤ → ℤ → ℤ → ℕ → Type 0
One lo hi w n = (within lo hi w ≡ true) × (n ≡ 1)

pub reads_word : {early : ℕ} {wrong : ℕ → Type 0} (outside : ℕ) (lo hi : ℤ) → wrong outside → Reads early wrong (One lo hi) (word early outside lo hi)
reads_word outside lo hi o at [] = short {p = at} (omega arith)
reads_word {early} {wrong} outside lo hi o at (w ∷ ws) = go (within lo hi w) refl
  where
    go : (b : Bool) → within lo hi w ≡ b → Fair early wrong (One lo hi) at (w ∷ ws) (elim b [ true ↦ got w (suc at) ws | false ↦ refused outside at ])
    go true e = took {at' = suc at} {rest = ws} 1 (omega arith) (omega arith) (e, refl)
    go false e = off {p = at} o (omega arith) (omega arith)

abbrev pub Count : ℕ → ℕ → ℕ → ℕ → Type 0
Count lo hi x n = (lo ≤ x) × (x ≤ hi) × (n ≡ 1)

pub within_counts : (lo hi : ℕ) (w : ℤ) → within (pos lo) (pos hi) w ≡ true → (lo ≤ nat_abs w) × (nat_abs w ≤ hi)
within_counts lo hi (pos n) e = let h = and_true (le_z (pos lo) (pos n)) (le_z (pos n) (pos hi)) e in (leb-true lo n h.0, leb-true n hi h.1)
within_counts lo hi (negsuc n) e = absurd (let z : ◌≡◌ {A = ℕ} 0 1 = cc in omega arith)

pub reads_count : {early : ℕ} {wrong : ℕ → Type 0} (outside lo hi : ℕ) → wrong outside → Reads early wrong (Count lo hi) (count early outside lo hi)
reads_count outside lo hi o = reads_bind (reads_word outside (pos lo) (pos hi) o) (λ w n h. reads_give ((within_counts lo hi w h.0).0, (within_counts lo hi w h.0).1, omega arith))

-- a number below b
pub reads_below : {early : ℕ} {wrong : ℕ → Type 0} (outside b : ℕ) → wrong outside → Reads early wrong (λ x n. (x < b) × (n ≡ 1)) (below early outside b)
reads_below outside zero o = reads_bind (reads_word outside (pos 1) (pos 0) o) (λ w n h. absurd (let i = within_counts 1 0 w h.0 in omega arith))
reads_below outside (suc b) o = λ at ws. weaker (λ x n h. (omega arith, omega arith)) (reads_count outside 0 b o at ws)

-- the same reader again and again
pub reads_times : {A : Type 0} {early : ℕ} {wrong : ℕ → Type 0} {P : A → ℕ → Type 0} {r : Reader A} (Q : A → Type 0) → ((a : A) (n : ℕ) → P a n → Q a) → (n : ℕ) → Reads early wrong P r
    → Reads early wrong (λ xs e. (length xs ≡ n) × All Q xs) (times n r)
reads_times Q q zero h = reads_give (refl, empty)
reads_times Q q (suc n) h = reads_bind h (λ a d p. reads_bind (reads_times Q q n h) (λ rest e l. reads_give (ap suc l.0, also (q a d p) l.1)))
