-- A direction: up, towards high numbers, or down. What is known of both is said of turned numbers: ahead is more.
use Rattle.std.specs.Prelude.{◌≡◌, refl, Bool, true, false, ℤ, pos, neg_ℤ, ◌+ℤ◌, ◌-ℤ◌, ◌≤ℤ◌, ◌<ℤ◌}
use mathlib.Core.List.{List, Memᴰ as In}
use Rattle.std.specs.Prelude.{Option, None, Some}
use Rattle.std.proofs.Common.{arith}
use Rattle.std.specs.Int.Signed.{lt_z}
use Rattle.words.specs.Int.{zz, neg, sum, diff}
use Rattle.words.specs.Words.{min_z, max_z}
use Rattle.words.specs.ListFacts.{Rising}
use Rattle.windows.specs.Window.{min_under, under_min, max_above, above_max}
use Rattle.domain.specs.Sets.{first_from, last_to, is_first_from, none_from, first_from_in, is_last_to, none_to, last_to_in}

abbrev pub turn : Bool → ℤ → ℤ
turn true v = v
turn false v = neg_ℤ v

-- n steps ahead of v
abbrev pub onward : Bool → ℤ → ℤ → ℤ
onward true v n = v +ℤ n
onward false v n = v -ℤ n

-- v comes before w
abbrev pub precedes : Bool → ℤ → ℤ → Bool
precedes true v w = lt_z v w
precedes false v w = lt_z w v

-- the one that is ahead of the other
abbrev pub further : Bool → ℤ → ℤ → ℤ
further true v w = max_z v w
further false v w = min_z v w

-- where a window of 64 numbers begins that v is the first of
abbrev pub window_at : Bool → ℤ → ℤ
window_at true v = v
window_at false v = v -ℤ pos 63

-- the first of a list at `from` or ahead of it
abbrev pub from_on : Bool → ℤ → List ℤ → Option ℤ
from_on true = first_from
from_on false = last_to

turned : (a b : ℤ) → neg_ℤ a ≤ℤ neg_ℤ b → b ≤ℤ a
turned a b h = omega (arith, zz, neg a, neg b)

turn_over : (a b : ℤ) → b ≤ℤ a → neg_ℤ a ≤ℤ neg_ℤ b
turn_over a b h = omega (arith, zz, neg a, neg b)

pub turn_same : (up : Bool) (a b : ℤ) → turn up a ≡ turn up b → a ≡ b
turn_same true a b e = e
turn_same false a b e = omega (arith, zz, neg a, neg b)

pub turn_onward : (up : Bool) (v n : ℤ) → turn up (onward up v n) ≡ turn up v +ℤ n
turn_onward true v n = refl
turn_onward false v n = omega (arith, zz, neg (v -ℤ n), neg v, diff v n, sum (neg_ℤ v) n)

module _ (up : Bool) (v w : ℤ) where
  pub does_precede : precedes up v w ≡ true → turn up v <ℤ turn up w
  does_precede = go up
    where
      go : (up : Bool) → precedes up v w ≡ true → turn up v <ℤ turn up w
      go true e = omega (arith, zz)
      go false e = omega (arith, zz, neg v, neg w)

  pub not_precedes : precedes up v w ≡ false → turn up w ≤ℤ turn up v
  not_precedes = go up
    where
      go : (up : Bool) → precedes up v w ≡ false → turn up w ≤ℤ turn up v
      go true e = omega (arith, zz)
      go false e = omega (arith, zz, neg v, neg w)

pub past_both : (up : Bool) (v w : ℤ) → (turn up v ≤ℤ turn up (further up v w)) × (turn up w ≤ℤ turn up (further up v w))
past_both true v w = max_above v w
past_both false v w = let m = min_under v w in (turn_over v (min_z v w) m.0, turn_over w (min_z v w) m.1)

pub both_past : (up : Bool) (v w u : ℤ) → turn up v ≤ℤ turn up u → turn up w ≤ℤ turn up u → turn up (further up v w) ≤ℤ turn up u
both_past true v w u h k = above_max v w h k
both_past false v w u h k = turn_over (min_z v w) u (under_min v w (turned v u h) (turned w u k))

-- the first ahead, by what it is
pub is_from_on : (up : Bool) (from : ℤ) (l : List ℤ) {v : ℤ} → Rising l → In v l → turn up from ≤ℤ turn up v → ((w : ℤ) → In w l → turn up from ≤ℤ turn up w → turn up v ≤ℤ turn up w) → from_on up from l ≡ Some v
is_from_on true from l r i k h = is_first_from from l r i k h
is_from_on false from l {v} r i k h = is_last_to from l r i (turned from v k) (λ w j m. turned v w (h w j (turn_over from w m)))

pub none_on : (up : Bool) (from : ℤ) (l : List ℤ) → ((w : ℤ) → In w l → turn up from ≤ℤ turn up w → ⊥) → from_on up from l ≡ None
none_on true from l h = none_from from l h
none_on false from l h = none_to from l (λ w j m. h w j (turn_over from w m))

pub from_on_in : (up : Bool) (from : ℤ) (l : List ℤ) {v : ℤ} → from_on up from l ≡ Some v → In v l × (turn up from ≤ℤ turn up v)
from_on_in true from l e = first_from_in from l e
from_on_in false from l {v} e = let m = last_to_in from l e in (m.0, turn_over from v m.1)
