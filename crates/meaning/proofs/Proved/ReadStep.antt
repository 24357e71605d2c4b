-- What reading a step of the log does: how many words it takes at least, and where and with which number it is refused.
use Rattle.std.specs.Prelude.{ℕ, zero, suc, ◌+◌, ◌≤◌, ◌<◌, ◌≡◌, refl, List, length, ℤ, pos}
use Rattle.std.proofs.Common.{subst, arith}
use Rattle.std.proofs.Math.Option.{Option, none, some}
use Rattle.meaning.specs.Limits.{most_hints, most_premises, most_value}
use Rattle.meaning.specs.Read.{Reader, got, neg}
use Rattle.meaning.specs.Log.{Atom, Fact, Step, inference, deduction, no_assignment, never_below, atom, consequent_of, fact, step_of_kind, step}
use Rattle.meaning.specs.Check.{turn, makes}
use Rattle.words.specs.Lists.{All}
use Rattle.meaning.proofs.Proved.Reading.{Fair, took, Reads, weaker, reads_give, reads_bind, reads_word, reads_count, reads_times, reads_below}

-- the log's numbers: 11 at its end, 12 at a word
abbrev pub ReadsLog : {A : Type 0} → (A → ℕ → Type 0) → Reader A → Type 0
ReadsLog = Reads 11 (λ num. num ≡ 12)

pub reads_atom : (v : ℕ) → ReadsLog (λ a n. (a.variable < v) × (n ≡ 3)) (atom v)
reads_atom v =
    reads_bind (reads_below 12 v refl) λ x i h.
    reads_bind (reads_count 12 1 4 refl) λ r j g.
    reads_bind (reads_word 12 (neg most_value) (pos most_value) refl) λ a l o.
    reads_give (omega arith, omega arith)

-- the variables that a fact names are the model's
abbrev pub Known : ℕ → Atom → Type 0
Known v a = a.variable < v

abbrev pub KnownConsequent : ℕ → Option Atom → Type 0
KnownConsequent v none = Unit {0}
KnownConsequent v (some a) = Known v a

pub record KnownFact (v : ℕ) (f : Fact) : Type 0 where
  pub premises_known : All (Known v) f.premises
  pub consequent_known : KnownConsequent v f.consequent

reads_consequent : (v q : ℕ) → ReadsLog (λ c n. KnownConsequent v c) (consequent_of v q)
reads_consequent v zero = reads_give tt
reads_consequent v (suc q) = reads_bind (reads_atom v) λ a n h. reads_give h.0

pub reads_fact : (v : ℕ) → ReadsLog (λ f n. KnownFact v f × (2 ≤ n)) (fact v)
reads_fact v =
    reads_bind (reads_count 12 0 most_premises refl) λ p i g.
    reads_bind (reads_times (Known v) (λ a n h. h.0) p (reads_atom v)) λ ps j l.
    reads_bind (reads_count 12 0 1 refl) λ q o h.
    reads_bind (reads_consequent v q) λ c u w.
    reads_give (record { premises_known = l.1; consequent_known = w }, omega arith)

-- the fewest words of such a step
abbrev pub fewest : Step → ℕ
fewest (inference r f) = 4
fewest (deduction f hs) = 4
fewest (no_assignment n) = 2
fewest (never_below x v n) = 4

-- what step k cites: rows and variables of the model, and facts made before it
abbrev pub KnownStep : ℕ → ℕ → ℕ → Step → Type 0
KnownStep v c k (inference r f) = (r < c) × KnownFact v f
KnownStep v c k (deduction f hs) = KnownFact v f × (length hs ≤ most_hints) × All (λ n. n < k) hs
KnownStep v c k (no_assignment n) = n < k
KnownStep v c k (never_below x a n) = (x < v) × (n < k)

reads_kind : (v c k n : ℕ) → 1 ≤ n → ReadsLog (λ t d. KnownStep v c k t × (fewest t ≤ 1 + d)) (step_of_kind v c k n)
reads_kind v c k zero h = absurd (omega arith)
reads_kind v c k (suc zero) h = reads_bind (reads_below 12 c refl) λ r i g. reads_bind (reads_fact v) λ f j l. reads_give ((g.0, l.0), omega arith)
reads_kind v c k (suc (suc zero)) h =
    reads_bind (reads_fact v) λ f i g.
    reads_bind (reads_count 12 0 most_hints refl) λ n j l.
    reads_bind (reads_times (λ n. n < k) (λ a n h. h.0) n (reads_below 12 k refl)) λ hs o u.
    reads_give ((g.0, omega arith, u.1), omega arith)
reads_kind v c k (suc (suc (suc zero))) h = reads_bind (reads_below 12 k refl) λ n i g. reads_give (g.0, omega arith)
reads_kind v c k (suc (suc (suc (suc n)))) h =
    reads_bind (reads_below 12 v refl) λ x i g.
    reads_bind (reads_word 12 (neg most_value) (pos most_value) refl) λ a j l.
    reads_bind (reads_below 12 k refl) λ n o u.
    reads_give ((g.0, u.0), omega arith)

-- what is known of a step that was read from n words
abbrev pub StepRead : ℕ → ℕ → ℕ → Step → ℕ → Type 0
StepRead v c k t n = KnownStep v c k t × (fewest t ≤ n)

pub reads_step : (v c k : ℕ) → ReadsLog (StepRead v c k) (step v c k)
reads_step v c k = reads_bind (reads_count 12 1 4 refl) λ n i h at ws. weaker (λ t d l. (l.0, omega arith)) (reads_kind v c k n h.0 at ws)

-- a step that was read, seen from the words that it left
pub record Left (v c k : ℕ) (t : Step) (at : ℕ) (ws : List ℤ) (at' : ℕ) (rest : List ℤ) : Type 0 where
  pub ends_at : at' + length rest ≡ at + length ws
  pub moves : at + fewest t ≤ at'
  pub known : KnownStep v c k t

pub step_left : (v c k at : ℕ) (ws : List ℤ) {t : Step} {at' : ℕ} {rest : List ℤ} → step v c k at ws ≡ got t at' rest → Left v c k t at ws at' rest
step_left v c k at ws {t} {at'} {rest} e = go (subst (Fair 11 (λ num. num ≡ 12) (StepRead v c k) at ws) e (reads_step v c k at ws))
  where
    go : Fair 11 (λ num. num ≡ 12) (StepRead v c k) at ws (got t at' rest) → Left v c k t at ws at' rest
    go (took n m l q) = record { ends_at = omega arith; moves = omega arith; known = q.0 }

pub fewest_some : (t : Step) → 2 ≤ fewest t
fewest_some (inference r f) = omega arith
fewest_some (deduction f hs) = omega arith
fewest_some (no_assignment n) = omega arith
fewest_some (never_below x v n) = omega arith

pub makes_four : (t : Step) {f : Fact} → turn t ≡ makes f → fewest t ≡ 4
makes_four (inference r f) e = refl
makes_four (deduction f hs) e = refl
makes_four (no_assignment n) e = absurd (let z : ◌≡◌ {A = ℕ} 0 1 = cc in omega arith)
makes_four (never_below x v n) e = refl

pub step_shorter : (v c k at : ℕ) (ws : List ℤ) {t : Step} {at' : ℕ} {rest : List ℤ} → step v c k at ws ≡ got t at' rest → length rest < length ws
step_shorter v c k at ws {t} e = let h = fewest_some t in let l = step_left v c k at ws e in omega arith
