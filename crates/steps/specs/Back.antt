-- The log's parts read back from a position: atoms, facts and steps, and what is known of their words.
use Rattle.std.specs.Prelude.{ℕ, zero, suc, ◌+◌, ◌*◌, ◌≤◌, ◌≡◌, refl, List, ℤ, pos, length}
use Rattle.std.proofs.Math.Option.{Option, none, some}
use Rattle.std.proofs.Common.{arith}
use Rattle.meaning.specs.Limits.{most_value, most_premises, most_hints}
use Rattle.meaning.specs.Read.{neg}
use Rattle.meaning.specs.Log.{Atom, Step, atom, consequent_of, fact, step_of_kind, step}
use Rattle.reading.specs.At.{At, int_at, nat_at, Names, Between, Each}
use Rattle.reading.specs.Back.{Known, Back, Ranged, said_as, word_back, count_back, below_back, give_back, refuse_back, bind_back, times_back, ranged_size, between_orders}
use Rattle.steps.specs.Facts.{atom_at, then_at, premises_end, fact_at, fact_next, fact_start, AtomIn, FactFrom}
use Rattle.steps.specs.Told.{step_of, placed_kind, placed}

-- ---- an atom
atom_in : (v : ℕ) (s : List ℤ) (p : ℕ) → Names v s p → Between 1 4 s (p + 1) → Ranged (neg most_value) (pos most_value) s (p + 2) → AtomIn v s p
atom_in v s p x r a = record { fits = omega (arith, a.0); named = x; relation = between_orders r; value = ranged_size most_value (omega arith) (int_at s (p + 2)) a.1 }

two : (p : ℕ) → p + 1 + 1 ≡ p + 2
two p = omega arith

pub atom_back : (v : ℕ) → Back (atom v) atom_at (λ s p. p + 3) (AtomIn v)
atom_back v =
    said_as (bind_back (below_back 11 12 v) (λ x. bind_back (count_back 11 12 1 4) (λ r. bind_back (word_back 11 12 (neg most_value) (pos most_value)) (λ a. give_back _))))
    (λ s p h. rw (two p))
    (λ s p h. omega arith)
    (λ s p h. atom_in v s p h.0 h.1.0 (rw (two p) at h.1.1.0))

-- ---- a fact
abbrev then_next : ℕ → At ℕ
then_next zero s p = p
then_next (suc q) s p = p + 3

abbrev ThenIn : ℕ → ℕ → Known
ThenIn v zero s p = Unit {0}
ThenIn v (suc q) s p = AtomIn v s p

pub then_back : (v q : ℕ) → Back (consequent_of v q) (then_at q) (then_next q) (ThenIn v q)
then_back v zero = give_back {A = Option Atom} none
then_back v (suc q) = said_as (bind_back (atom_back v) (λ a. give_back (some a))) (λ s p h. refl) (λ s p h. refl) (λ s p h. h.0)

then_next_lem : (q p : ℕ) (s : List ℤ) → q ≤ 1 → then_next q s p ≡ p + q * 3
then_next_lem zero p s h = omega arith
then_next_lem (suc zero) p s h = omega arith
then_next_lem (suc (suc q)) p s h = absurd (omega arith)

then_fits : (v q p : ℕ) (s : List ℤ) → q ≤ 1 → p ≤ length s → ThenIn v q s p → p + q * 3 ≤ length s
then_fits v zero p s h l t = omega arith
then_fits v (suc zero) p s h l t = omega (arith, t.fits)
then_fits v (suc (suc q)) p s h l t = absurd (omega arith)

then_one : (v q p : ℕ) (s : List ℤ) → ThenIn v q s p → q ≡ 1 → AtomIn v s p
then_one v zero p s t e = absurd (omega arith)
then_one v (suc q) p s t e = t

fact_from : (v : ℕ) (s : List ℤ) (p : ℕ) → Between 0 most_premises s p → Each (AtomIn v) 3 (nat_at s p) s (p + 1) → Between 0 1 s (premises_end s p) → ThenIn v (nat_at s (premises_end s p)) s (premises_end s p + 1) → FactFrom v s p
fact_from v s p n ps q c =
    record {
      begins = record { counts = n; ends = q };
      parts = record {
        few = n.upto;
        one = q.upto;
        fits = (ps.fits (omega (arith, n.inside)), then_fits v (nat_at s (premises_end s p)) (premises_end s p + 1) s q.upto (omega (arith, q.inside)) c);
        premise = ps.each;
        consequence = then_one v (nat_at s (premises_end s p)) (premises_end s p + 1) s c;
      };
    }

pub fact_back : (v : ℕ) → Back (fact v) fact_at fact_next (FactFrom v)
fact_back v =
    said_as (bind_back (count_back 11 12 0 most_premises) (λ n. bind_back (times_back (atom_back v) n) (λ ps. bind_back (count_back 11 12 0 1) (λ q. bind_back (then_back v q) (λ c. give_back _)))))
    (λ s p h. refl)
    (λ s p h. then_next_lem (nat_at s (premises_end s p)) (premises_end s p + 1) s h.1.1.0.upto)
    (λ s p h. fact_from v s p h.0 h.1.0 h.1.1.0 h.1.1.1.0)

-- ---- a step: its kind and what comes after it
abbrev pub kind_next : ℕ → At ℕ
kind_next zero s p = p
kind_next (suc zero) s p = fact_next s (p + 1)
kind_next (suc (suc zero)) s p = fact_next s p + 1 + nat_at s (fact_next s p)
kind_next (suc (suc (suc zero))) s p = p + 1
kind_next (suc (suc (suc (suc n)))) s p = p + 3

abbrev kind_at : ℕ → At Step
kind_at n s p = step_of s (placed_kind n s p)

abbrev pub step_at : At Step
step_at s p = step_of s (placed s p)

abbrev pub step_next : At ℕ
step_next s p = kind_next (nat_at s p) s (p + 1)

-- with v variables, c rows and k facts that can be named
abbrev pub KindIn : ℕ → ℕ → ℕ → ℕ → Known
KindIn v c k zero s p = ⊥
KindIn v c k (suc zero) s p = Names c s p × FactFrom v s (p + 1)
KindIn v c k (suc (suc zero)) s p = FactFrom v s p × Between 0 most_hints s (fact_next s p) × Each (Names k) 1 (nat_at s (fact_next s p)) s (fact_next s p + 1)
KindIn v c k (suc (suc (suc zero))) s p = Names k s p
KindIn v c k (suc (suc (suc (suc n)))) s p = Names v s p × Ranged (neg most_value) (pos most_value) s (p + 1) × Names k s (p + 2)

pub record StepIn (v c k : ℕ) (s : List ℤ) (p : ℕ) : Type 0 where
  pub kind : Between 1 4 s p
  pub rest : KindIn v c k (nat_at s p) s (p + 1)

kind_back : (v c k n : ℕ) → Back (step_of_kind v c k n) (kind_at n) (kind_next n) (KindIn v c k n)
kind_back v c k zero = refuse_back 12 _ _ _
kind_back v c k (suc zero) = said_as (bind_back (below_back 11 12 c) (λ r. bind_back (fact_back v) (λ f. give_back _))) (λ s p h. refl) (λ s p h. refl) (λ s p h. (h.0, h.1.0))
kind_back v c k (suc (suc zero)) =
    said_as (bind_back (fact_back v) (λ f. bind_back (count_back 11 12 0 most_hints) (λ h. bind_back (times_back (below_back 11 12 k) h) (λ hs. give_back _))))
    (λ s p h. refl)
    (λ s p h. omega arith)
    (λ s p h. (h.0, h.1.0, h.1.1.0))
kind_back v c k (suc (suc (suc zero))) = said_as (bind_back (below_back 11 12 k) (λ n. give_back _)) (λ s p h. refl) (λ s p h. refl) (λ s p h. h.0)
kind_back v c k (suc (suc (suc (suc n)))) =
    said_as (bind_back (below_back 11 12 v) (λ x. bind_back (word_back 11 12 (neg most_value) (pos most_value)) (λ a. bind_back (below_back 11 12 k) (λ i. give_back _))))
    (λ s p h. rw (two p))
    (λ s p h. omega arith)
    (λ s p h. (h.0, h.1.0, rw (two p) at h.1.1.0))

pub step_back : (v c k : ℕ) → Back (step v c k) step_at step_next (StepIn v c k)
step_back v c k = said_as (bind_back (count_back 11 12 1 4) (λ n. kind_back v c k n)) (λ s p h. refl) (λ s p h. refl) (λ s p h. record { kind = h.0; rest = h.1 })

-- the fact of any kind but the first stands right behind the kind
pub at_once : (n p : ℕ) → (n ≡ 1 → ⊥) → fact_start n p ≡ p + 1
at_once zero p h = refl
at_once (suc zero) p h = absurd (h refl)
at_once (suc (suc n)) p h = refl
