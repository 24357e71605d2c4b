-- What is surely in use, one activity at a time, and how large sums of the table's words are.
use Prim.Native.Nat.{ℕ, zero, suc, ◌+◌, ◌*◌, ◌≤◌, ◌<◌}
use Rattle.std.specs.Prelude.{◌≡◌, Bool, true, false, cond, List, ltb, ℤ, pos, ◌+ℤ◌, ◌-ℤ◌, length, ◌≤ℤ◌}
use Rattle.std.proofs.Math.Path.{refl}
use Rattle.std.proofs.Common.{add-one, arith, SFits, ltb-true, ltb-false}
use Rattle.std.proofs.lemmas.List.{get_or_past}
use Rattle.std.specs.Int.{w32}
use Rattle.meaning.specs.Limits.{most_usage}
use Rattle.meaning.specs.Read.{neg}
use Rattle.words.specs.Int.{zz, sum, diff}
use Rattle.meaning.specs.Rule.{during}
use Rattle.sure_parts.specs.declared.Part.{Part}
use Rattle.sure_parts.specs.Table.{nothing, from_of, until_of, usage_of, used_at, load, latest_end, most_load, Sized}

-- ---- one activity more
module _ (ps : List Part) (t : ℤ) (k : ℕ) where
  pub load_none : load ps t 0 ≡ pos 0
  unfolding load
  load_none = refl

  pub load_more : load ps t (k + 1) ≡ load ps t k +ℤ used_at ps t k
  unfolding load
  load_more = rw (add-one k)

-- ---- sizes
pub sum_fits : (a b : ℤ) → (pos 0 ≤ℤ a) × (a ≤ℤ pos most_load) → (pos 0 ≤ℤ b) × (b ≤ℤ pos most_load) → SFits w32 (a +ℤ b)
sum_fits a b h k = omega (arith, zz, sum a b)

pub diff_fits : (a b : ℤ) → (pos 0 ≤ℤ a) × (a ≤ℤ pos most_load) → (pos 0 ≤ℤ b) × (b ≤ℤ pos most_load) → SFits w32 (a -ℤ b)
diff_fits a b h k = omega (arith, zz, diff a b)

-- sums of times: none is farther from 0 than a sure part's end, but for one
abbrev pub farthest : ℕ
farthest = latest_end + 1

pub near_fits : (a b : ℤ) → (neg farthest ≤ℤ a) × (a ≤ℤ pos farthest) → (neg farthest ≤ℤ b) × (b ≤ℤ pos farthest) → SFits w32 (a +ℤ b)
near_fits a b h k = omega (arith, zz, sum a b)

pub small_fits : (a : ℤ) → (neg farthest ≤ℤ a) × (a ≤ℤ pos farthest) → SFits w32 a
small_fits a h = omega (arith, zz)

module _ (ps : List Part) (sized : Sized ps) (t : ℤ) where
  -- past the table nothing is in use
  pub used_any : (k : ℕ) → (pos 0 ≤ℤ used_at ps t k) × (used_at ps t k ≤ℤ pos most_usage)
  used_any k = go (during (from_of ps k) (until_of ps k) t)
    where
      usage : (b : Bool) → ltb k (length ps) ≡ b → (pos 0 ≤ℤ usage_of ps k) × (usage_of ps k ≤ℤ pos most_usage)
      usage true e = sized.usages k (ltb-true k (length ps) e)
      usage false e = rw (get_or_past ps k nothing (ltb-false k (length ps) e), usage_of) (omega (arith, zz), omega (arith, zz))

      go : (b : Bool) → (pos 0 ≤ℤ cond b (usage_of ps k) (pos 0)) × (cond b (usage_of ps k) (pos 0) ≤ℤ pos most_usage)
      go true = usage (ltb k (length ps)) refl
      go false = (omega (arith, zz), omega (arith, zz))

  pub used_small : (k : ℕ) → k < length ps → (pos 0 ≤ℤ used_at ps t k) × (used_at ps t k ≤ℤ pos most_usage)
  used_small k h = used_any k

  pub load_any : (n : ℕ) → (pos 0 ≤ℤ load ps t n) × (load ps t n ≤ℤ pos (n * most_usage))
  unfolding load
  load_any zero = (omega (arith, zz), omega (arith, zz))
  load_any (suc n) =
      let a = load_any n in
      let b = used_any n in
      (omega (arith, zz), omega (arith, zz))

  pub load_small : (n : ℕ) → n ≤ length ps → (pos 0 ≤ℤ load ps t n) × (load ps t n ≤ℤ pos (n * most_usage))
  load_small n h = load_any n
