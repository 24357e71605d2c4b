-- A cumulative row as it stands in the model table, and the tables that its rule makes.
use Rattle.std.specs.Prelude.{ℕ, ◌+◌, ◌*◌, ◌≤◌, ◌<◌, ◌≡◌, Bool, true, false, ◌||◌, ℤ, pos, ◌+ℤ◌, ◌-ℤ◌, ◌≤ℤ◌, ◌<ℤ◌}
use Rattle.std.proofs.Common.{sym, subst, ◌∙◌, add-one, arith}
use Rattle.std.proofs.Math.Path.{ap}
use mathlib.Core.List.{List, [], Memᴰ as In}
use Rattle.std.specs.Prelude.{Some, None}
use Rattle.std.proofs.Math.ListN.{get_or}
use Rattle.words.specs.Int.{zz, sum, neg, abs_is}
use Rattle.words.specs.Lists.{least}
use Rattle.words.specs.ListFacts.{largest_above, or_left}
use Rattle.meaning.specs.Rule.{overloaded, squeezed}
use Rattle.meaning.specs.Below.{some_below}
use Rattle.meaning.proofs.Proved.Loads.{cumulative_is_squeezed}
use Rattle.meaning.proofs.Proved.Positions.{squeezed_at_some}
use Rattle.reading.specs.At.{nat_at, length_each, get_or_each}
use Rattle.model.specs.Rows.{activity_at}
use Rattle.domain.specs.Box.{variables, values, values_rising}
use Rattle.domain.specs.Sets.{first_from}
use Rattle.sure_parts.specs.declared.Part.{Part}
use Rattle.sure_parts.specs.Table.{from_of, until_of, usage_of, most_load}
use Rattle.cumulative.specs.Steps.{leap, Start}
use Rattle.cumulative.proofs.Leaps.{Tables}
use Rattle.cumulative.specs.Top.{top_of}
use Rattle.cumulative.proofs.Top.{top_is, top_upto, top_overload, top_fits}
use Rattle.sure_parts.specs.Fill.{ActivityIn, one_activity, signless}
use Rattle.cumulative.proofs.Search.{Searching, search_start, search_free, search_beyond, search_none, search_on}
use Rattle.cumulative.specs.Row.{Prepared, activities, nobody, squeezes}

module _ (m : List ℤ) (p : ℕ) where
  pub activity_is : (i : ℕ) → i < nat_at m p → get_or (activities m p) i nobody ≡ activity_at m (p + 2 + i * 3)
  activity_is i h = get_or_each activity_at 3 (nat_at m p) m (p + 2) i nobody h

  pub prepared_tables : (cells : List ℤ) (ps : List Part) (peaks : List ℤ) → Prepared cells m p ps peaks → Tables (values cells) nobody (activities m p) (nat_at m p) ps peaks
  prepared_tables cells ps peaks r =
      record {
        size = length_each activity_at 3 (nat_at m p) m (p + 2);
        parts = λ k l. rw (activity_is k l) (r.filled.parts k l);
        peaked = r.peaked.each;
      }

  -- the rule, activity by activity
  pub by_activity : (cells : List ℤ) → (overloaded (values cells) (nat_at m (p + 1)) (activities m p) || squeezed (values cells) (nat_at m (p + 1)) [] (activities m p)) ≡ some_below (squeezes (values cells) m p) (nat_at m p)
  unfolding squeezes
  by_activity cells =
      cumulative_is_squeezed (values cells) (values_rising cells) (nat_at m (p + 1)) (activities m p)
      ∙ squeezed_at_some (values cells) (nat_at m (p + 1)) nobody (activities m p)
      ∙ ap (some_below (squeezes (values cells) m p)) (length_each activity_at 3 (nat_at m p) m (p + 2))

back_again : (a b : ℤ) → (a +ℤ b) -ℤ b ≡ a
back_again a b = omega (arith, zz, neg b, sum a b)

-- ---- the search for a start of activity i, over the words that it reads
module _ (cells m : List ℤ) (p : ℕ) (ps : List Part) (peaks : List ℤ) (r : Prepared cells m p ps peaks) (i : ℕ) (here : i < nat_at m p) where
  abbrev place : ℕ
  place = p + 2 + i * 3

  abbrev starts : List ℤ
  starts = values cells (nat_at m place)

  abbrev lasts : ℤ
  lasts = get_or m (place + 1) (pos 0)

  abbrev to : ℤ → ℤ
  to s = leap ps peaks (nat_at m p) (get_or m (p + 1) (pos 0)) i s lasts

  abbrev pub Trying : ℤ → Type 0
  Trying s = Searching (values cells) (nat_at m (p + 1)) nobody (activities m p) i s

  pub own_activity : ActivityIn (variables cells) m place
  own_activity = one_activity r.row.each i here

  own_is : get_or (activities m p) i nobody ≡ activity_at m place
  own_is = activity_is m p i here

  tables : Tables (values cells) nobody (activities m p) (nat_at m p) ps peaks
  tables = prepared_tables m p cells ps peaks r

  lasts_is : pos (nat_at m (place + 1)) ≡ lasts
  lasts_is = let b = own_activity.lasting in signless lasts (omega (arith, zz))

  starts_is : values cells (get_or (activities m p) i nobody).start ≡ starts
  starts_is = ap (λ a. values cells a.start) own_is

  long_enough : 1 ≤ (get_or (activities m p) i nobody).duration
  long_enough = let b = own_activity.lasting in let e = lasts_is in rw own_is (omega (arith, zz))

  to_is : (s : ℤ) → leap ps peaks (nat_at m p) (pos (nat_at m (p + 1))) i s (pos (get_or (activities m p) i nobody).duration) ≡ to s
  to_is s = ap (λ c. leap ps peaks (nat_at m p) c i s (pos (get_or (activities m p) i nobody).duration)) (signless (get_or m (p + 1) (pos 0)) r.row.capacity.0) ∙ ap (leap ps peaks (nat_at m p) (get_or m (p + 1) (pos 0)) i s) (ap (λ a. pos a.duration) own_is ∙ lasts_is)

  -- the least start left is the sure part's end less the duration
  pub start_is : until_of ps i -ℤ lasts ≡ least starts
  start_is =
      let e = (r.filled.parts i here).until_is in
      let q = lasts_is in
      rw (e, ← q) (back_again (least starts) (pos (nat_at m (place + 1))))

  pub try_start : Trying (until_of ps i -ℤ lasts)
  try_start = rw start_is (subst Trying (ap least starts_is) (search_start (values cells) (values_rising cells) (nat_at m (p + 1)) nobody (activities m p) i (rw starts_is (r.box.some_left (nat_at m place) own_activity.named.known))))

  module _ (s : ℤ) (at : Trying s) where
    pub try_small : Start s lasts
    try_small =
        let b = own_activity.lasting in
        let v = r.box.small (nat_at m place) s (subst (In s) starts_is at.left) in
        record { from = omega (arith, zz, abs_is s); upto = omega (arith, zz, abs_is s); some = omega (arith, zz); short = b.1 }

    pub try_free : to s ≤ℤ s → squeezes (values cells) m p i ≡ false
    unfolding squeezes
    try_free h = search_free (values cells) (values_rising cells) (nat_at m (p + 1)) nobody (activities m p) i (nat_at m p) ps peaks tables here long_enough s at (rw (to_is s) h)

    module _ (h : s <ℤ to s) where
      ahead : s <ℤ leap ps peaks (nat_at m p) (pos (nat_at m (p + 1))) i s (pos (get_or (activities m p) i nobody).duration)
      ahead = rw (to_is s) h

      pub try_beyond : from_of ps i <ℤ to s → squeezes (values cells) m p i ≡ true
      unfolding squeezes
      try_beyond l = search_beyond (values cells) (values_rising cells) (nat_at m (p + 1)) nobody (activities m p) i (nat_at m p) ps peaks tables here long_enough s at ahead (rw (to_is s) l)

      pub try_none : first_from (to s) starts ≡ None → squeezes (values cells) m p i ≡ true
      unfolding squeezes
      try_none e = search_none (values cells) (values_rising cells) (nat_at m (p + 1)) nobody (activities m p) i (nat_at m p) ps peaks tables here long_enough s at ahead (rw (to_is s, starts_is) e)

      pub try_on : (v : ℤ) → first_from (to s) starts ≡ Some v → Trying v × (s <ℤ v) × (v ≤ℤ from_of ps i)
      try_on v e =
          let f = search_on (values cells) (values_rising cells) (nat_at m (p + 1)) nobody (activities m p) i (nat_at m p) ps peaks tables here long_enough s at ahead v (rw (to_is s, starts_is) e) in
          let g = largest_above starts (values_rising cells (nat_at m place)) (subst (In v) starts_is f.0.left) in
          let q = (r.filled.parts i here).from_is in
          (f.0, f.1, omega (arith, zz))

-- ---- the whole row, by the most that is surely in use
module _ (cells m : List ℤ) (p : ℕ) (ps : List Part) (peaks : List ℤ) (r : Prepared cells m p ps peaks) where
  abbrev top : ℤ
  top = top_of peaks (nat_at m p)

  capacity_is : pos (nat_at m (p + 1)) ≡ get_or m (p + 1) (pos 0)
  capacity_is = signless (get_or m (p + 1) (pos 0)) r.row.capacity.0

  -- no sum of the words that are compared overflows
  pub top_small : (pos 0 ≤ℤ top) × (top ≤ℤ pos most_load)
  top_small = ((top_is peaks (nat_at m p)).signless, top_upto peaks (nat_at m p) r.peaked.loads (omega (arith, r.peaked.long)))

  pub row_overload : get_or m (p + 1) (pos 0) <ℤ top → some_below (squeezes (values cells) m p) (nat_at m p) ≡ true
  row_overload h =
      sym (by_activity m p cells)
      ∙ or_left (squeezed (values cells) (nat_at m (p + 1)) [] (activities m p))
      (top_overload (values cells) (values_rising cells) nobody (activities m p) (nat_at m p) ps peaks (prepared_tables m p cells ps peaks r) (nat_at m (p + 1)) (rw capacity_is h))

  pub row_fits : (i : ℕ) → i < nat_at m p → usage_of ps i ≤ℤ (get_or m (p + 1) (pos 0) -ℤ top) → squeezes (values cells) m p i ≡ false
  unfolding squeezes
  row_fits i here h =
      top_fits (values cells) (values_rising cells) nobody (activities m p) (nat_at m p) ps peaks (prepared_tables m p cells ps peaks r) (nat_at m (p + 1)) i here
      (until_of ps i -ℤ get_or m (p + 2 + i * 3 + 1) (pos 0)) (try_start cells m p ps peaks r i here).left
      (rw capacity_is (omega (arith, zz, neg top, sum (usage_of ps i) top)))

-- one number more of which a test is not true
pub none_more : (t : ℕ → Bool) (n : ℕ) → some_below t n ≡ false → t n ≡ false → some_below t (n + 1) ≡ false
none_more t n e f = rw (add-one n, e) f
