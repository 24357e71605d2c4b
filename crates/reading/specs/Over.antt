-- What follows from what was read over or refused, for the reader that goes on from it.
use Rattle.std.specs.Prelude.{ℕ, ◌+◌, ◌≤◌, ◌<◌, ◌≡◌, List, ℤ, pos, length, get_or, drop, ◌≤ℤ◌, Result, Ok, Err}
use Rattle.std.proofs.Common.{sym, ◌∙◌, arith}
use Rattle.meaning.specs.Read.{got, refused, Reader, ◌>>=◌, give, count, times}
use Rattle.reading.specs.At.{At, nat_at, Between}
use Rattle.reading.specs.Reading.{skim, skim_give, skim_got, skim_refused, left, left_all, left_more, left_stop, left_none}
use Rattle.reading.specs.Back.{Known, Found, Back, skim_back, count_back}
use Rattle.reading.specs.Reasons.{number_of}
use Rattle.reading.specs.Told.{Skims}
use Rattle.reading.specs.declared.refusals.Refusal.{Refusal}

-- r was refused, and so is what goes on from it
pub stops : {A B : Type 0} {r : Reader A} {s : List ℤ} {at : ℕ} {e : Refusal} (g : A → Reader B) → Skims r s at (Err e) → Skims (r >>= g) s at (Err e)
stops {r = r} {s} {at} g h = record { told = rw (skim_refused (r at (drop at s)) (sym h.told)) }

pub is_refused : {A : Type 0} {r : Reader A} {s : List ℤ} {at : ℕ} {e : Refusal} → Skims r s at (Err e) → skim (r at (drop at s)) ≡ refused (number_of e.reason) e.position
is_refused h = sym h.told

-- r is the last: its value is made into another
pub gives : {A B : Type 0} {r : Reader A} {s : List ℤ} {at : ℕ} {p : Result ℕ Refusal} (f : A → B) → Skims r s at p → Skims (r >>= λ a. give (f a)) s at p
gives {r = r} {s} {at} f h = record { told = h.told ∙ sym (skim_give (r at (drop at s)) f) }

module _ {A : Type 0} {r : Reader A} {s : List ℤ} {at n : ℕ} (h : Skims r s at (Ok n)) where
  pub is_over : skim (r at (drop at s)) ≡ got tt n (drop n s)
  is_over = sym h.told

  -- r was read over, and what goes on from it does not depend on its value
  pub goes_any : {B : Type 0} (g : A → Reader B) {q : Result ℕ Refusal} → ((a : A) → Skims (g a) s n q) → Skims (r >>= g) s at q
  goes_any g k = let (a, w) = skim_got (r at (drop at s)) is_over in record { told = rw w (k a).told }

  module _ {f : At A} {z : At ℕ} {P : Known} (b : Back r f z P) where
    -- r was read over: what stands there
    pub got_over : r at (drop at s) ≡ got (f s at) n (drop n s)
    got_over = skim_back b s at is_over

    pub found : Found s at (f s at) (f s at) n (z s at) (drop n s) (P s at)
    found = b.back s at got_over

    -- and what goes on from it
    pub goes : {B : Type 0} (g : A → Reader B) {q : Result ℕ Refusal} → Skims (g (f s at)) s n q → Skims (r >>= g) s at q
    goes g k = record { told = rw got_over k.told }

-- ---- a number that was read over, and that goes on by what it is
module _ (early outside lo hi : ℕ) {s : List ℤ} {at n : ℕ} (h : Skims (count early outside lo hi) s at (Ok n)) where
  pub ranged : Between lo hi s at
  ranged = (found h (count_back early outside lo hi)).known

  pub is_number : (at < length s) × (pos 0 ≤ℤ get_or s at (pos 0))
  is_number = (ranged.inside, ranged.signless)

  pub counts : {x : ℕ} → x ≡ nat_at s at → {B : Type 0} (g : ℕ → Reader B) {q : Result ℕ Refusal} → Skims (g x) s n q → Skims (count early outside lo hi >>= g) s at q
  counts k g w = goes h (count_back early outside lo hi) g (rw (sym k) w)

-- ---- n things in turn: i were read, and the next begins at `at`
pub record Turned {A : Type 0} (r : Reader A) (s : List ℤ) (from n at i : ℕ) : Type 0 where
  pub few : i ≤ n
  pub rest : skim (times n r from (drop from s)) ≡ left r s n i at

pub first_turn : {A : Type 0} (r : Reader A) (s : List ℤ) (from n : ℕ) → Turned r s from n from 0
first_turn r s from n = record { few = omega arith; rest = left_all r s n from }

module _ {A : Type 0} {r : Reader A} {s : List ℤ} {from n at i : ℕ} (t : Turned r s from n at i) where
  pub turn_more : {m : ℕ} → i < n → Skims r s at (Ok m) → Turned r s from n m (i + 1)
  turn_more l h = record { few = omega arith; rest = t.rest ∙ left_more r s n i at l (is_over h) }

  pub turn_refused : {e : Refusal} → i < n → Skims r s at (Err e) → Skims (times n r) s from (Err e)
  turn_refused l h = record { told = sym (t.rest ∙ left_stop r s n i at l (sym h.told)) }

  pub turns_over : n ≤ i → Skims (times n r) s from (Ok at)
  turns_over l = record { told = sym (t.rest ∙ left_none r s n i at l) }
