-- The most that is surely in use at any time: it stands just before the end of some sure part. More than the capacity is an overload,
-- and an activity that fits beside it finds room at every start.
use Prim.Native.Nat.{ℕ, zero, suc, ◌+◌, ◌≤◌, ◌<◌}
use Rattle.std.specs.Prelude.{◌≡◌, true, false, ◌⊎◌, ltb, pos, length, ◌+ℤ◌, ◌-ℤ◌, ◌≤ℤ◌, ◌<ℤ◌}
use Rattle.std.proofs.Math.Path.{refl}
use Rattle.std.proofs.Common.{ap, subst, ◌∙◌, inr, ⊎_elim, add-one, arith, ltb-true, ltb-false}
use Rattle.std.proofs.Math.Logic.{inl}
use mathlib.Core.List.{List, Memᴰ as In}
use Rattle.std.proofs.Math.IntN.{ℤ}
use Rattle.std.proofs.Math.ListN.{get_or}
use Rattle.std.specs.Int.Signed.{le_z}
use Rattle.words.specs.Int.{zz}
use Rattle.words.specs.Words.{max_z}
use Rattle.words.specs.ListFacts.{Rising, tested, last_of, le_total, lt_or_not, in_at, all_at, before_le, before_lt}
use Rattle.meaning.specs.Model.{Activity}
use Rattle.meaning.specs.Rule.{surely, sure, overloaded, blocked_from}
use Rattle.meaning.specs.Below.{up_to_lem}
use Rattle.meaning.proofs.Proved.Loads.{sure_some, overloaded_by, Blocked, blocked_of}
use Rattle.sure_parts.specs.declared.Part.{Part}
use Rattle.sure_parts.specs.Parts.{ending}
use Rattle.cumulative.specs.Jumps.{sure_rises}
use Rattle.meaning.proofs.Proved.Positions.{others_of, sum_others, squeezed_at}
use Rattle.sure_parts.specs.Table.{until_of, usage_of, most_load, Loads}
use Rattle.sure_parts.specs.Parts.{load_is}
use Rattle.cumulative.proofs.Leaps.{Tables}
use Rattle.cumulative.specs.Top.{top_of}

module _ (peaks : List ℤ) where
  pub top_none : top_of peaks 0 ≡ pos 0
  unfolding top_of
  top_none = refl

  pub top_more : (k : ℕ) → top_of peaks (k + 1) ≡ max_z (top_of peaks k) (get_or peaks k (pos 0))
  unfolding top_of
  top_more k = rw (add-one k)

  -- it is not below any of them, and it is one of them or 0
  pub record Top (n : ℕ) (t : ℤ) : Type 0 where
    pub signless : pos 0 ≤ℤ t
    pub above : (k : ℕ) → k < n → get_or peaks k (pos 0) ≤ℤ t
    pub one : (t ≡ pos 0) ⊎ ((k : ℕ) × (k < n) × (t ≡ get_or peaks k (pos 0)))

  pub top_is : (n : ℕ) → Top n (top_of peaks n)
  unfolding top_of
  top_is zero = record { signless = omega (arith, zz); above = λ k l. absurd (omega arith); one = inl refl }
  top_is (suc n) = go (top_of peaks n) (top_is n)
    where
      at : ℤ
      at = get_or peaks n (pos 0)

      higher : (t : ℤ) → Top n t → le_z t at ≡ true → Top (suc n) at
      higher t f h =
          let a = f.signless in
          record {
            signless = omega (arith, zz);
            above = λ k l. ⊎_elim (λ j. let b = f.above k j in omega (arith, zz)) (λ j. rw j (omega (arith, zz))) (up_to_lem l);
            one = inr (n, omega arith, refl);
          }

      lower : (t : ℤ) → Top n t → le_z t at ≡ false → Top (suc n) t
      lower t f h =
          record {
            signless = f.signless;
            above = λ k l. ⊎_elim (λ j. f.above k j) (λ j. rw j (omega (arith, zz))) (up_to_lem l);
            one = ⊎_elim (λ e. inl e) (λ g. let (k, l, e) = g in inr (k, omega arith, e)) f.one;
          }

      go : (t : ℤ) → Top n t → Top (suc n) (max_z t at)
      go t f = ⊎_elim (λ h. rw h (higher t f h)) (λ h. rw h (lower t f h)) (tested (le_z t at))

pub top_upto : (peaks : List ℤ) (n : ℕ) → Loads peaks → n ≤ length peaks → top_of peaks n ≤ℤ pos most_load
top_upto peaks n small few = ⊎_elim (λ e. omega (arith, zz)) (λ g. let (k, l, e) = g in rw e (small.small k (omega arith)).1) (top_is peaks n).one

module _ (d : ℕ → List ℤ) (rising : (x : ℕ) → Rising (d x)) (nobody : Activity) (acts : List Activity) (n : ℕ) (ps : List Part) (peaks : List ℤ) (tables : Tables d nobody acts n ps peaks) where
  peak_is : (k : ℕ) → k < n → get_or peaks k (pos 0) ≡ pos (sure d (until_of ps k -ℤ pos 1) acts)
  peak_is k l = tables.peaked k l ∙ load_is d ps (until_of ps k -ℤ pos 1) nobody acts n tables.size tables.parts

  -- just before the end of the sure part of one of the activities
  at_ending : (k : Activity) → In k acts → pos (sure d (ending d k -ℤ pos 1) acts) ≤ℤ top_of peaks n
  at_ending k m = let (q, l, e) = in_at nobody m in at q (omega (arith, tables.size)) e
    where
      at : (q : ℕ) → q < n → get_or acts q nobody ≡ k → pos (sure d (ending d k -ℤ pos 1) acts) ≤ℤ top_of peaks n
      at q l e = subst (λ z. pos (sure d (z -ℤ pos 1) acts) ≤ℤ top_of peaks n) ((tables.parts q l).until_is ∙ ap (ending d) e) (subst (λ z. z ≤ℤ top_of peaks n) (peak_is q l) ((top_is peaks n).above q l))

  -- at any time
  top_sure : (t : ℤ) → pos (sure d t acts) ≤ℤ top_of peaks n
  top_sure t =
      ⊎_elim (λ q. let (k, m, p, f) = q in at k m p f) (λ none. nothing none (tested (ltb 0 (sure d t acts))))
      (last_of (λ k. t <ℤ ending d k) (λ k. lt_or_not t (ending d k)) (λ k i. ending d i ≤ℤ ending d k) (λ k i. le_total (ending d i) (ending d k)) (λ k i h p q. omega (arith, zz)) acts)
    where
      at : (k : Activity) → In k acts → t <ℤ ending d k → ((i : Activity) → In i acts → t <ℤ ending d i → ending d k ≤ℤ ending d i) → pos (sure d t acts) ≤ℤ top_of peaks n
      at k m p f =
          let more = sure_rises d t (ending d k -ℤ pos 1) acts (before_le t (ending d k) p) (λ i q h. before_lt (ending d k) (ending d i) (f i q h)) in
          let top = at_ending k m in
          omega (arith, zz)

      nothing : ((k : Activity) → In k acts → t <ℤ ending d k → ⊥) → (ltb 0 (sure d t acts) ≡ true) ⊎ (ltb 0 (sure d t acts) ≡ false) → pos (sure d t acts) ≤ℤ top_of peaks n
      nothing none (inl e) = let (k, m, g) = sure_some d t acts (ltb-true 0 (sure d t acts) e) in absurd (none k m g.until)
      nothing none (inr e) = let top = (top_is peaks n).signless in omega (arith, zz, ltb-false 0 (sure d t acts) e)

  -- more than the capacity
  pub top_overload : (c : ℕ) → pos c <ℤ top_of peaks n → overloaded d c acts ≡ true
  top_overload c h = ⊎_elim (λ e. absurd (omega (arith, zz))) (λ g. let (k, l, e) = g in at k l e) (top_is peaks n).one
    where
      at : (k : ℕ) → k < n → top_of peaks n ≡ get_or peaks k (pos 0) → overloaded d c acts ≡ true
      at k l e = let q = peak_is k l in overloaded_by d rising c acts (until_of ps k -ℤ pos 1) (omega (arith, zz))

  -- an activity that fits beside the most that is surely in use
  module _ (c i : ℕ) (here : i < n) (s : ℤ) (left : In s (d (get_or acts i nobody).start)) (fits : (usage_of ps i +ℤ top_of peaks n) ≤ℤ pos c) where
    abbrev own : Activity
    own = get_or acts i nobody

    pub top_fits : squeezed_at d c nobody acts i ≡ false
    top_fits = ⊎_elim (λ e. absurd (room (blocked_of d c own (others_of i acts) s (all_at (blocked_from d c own (others_of i acts)) e left)))) (λ e. e) (tested (squeezed_at d c nobody acts i))
      where
        room : Blocked d c own (others_of i acts) s → ⊥
        room b =
            let top = top_sure b.time in
            let others = sum_others (surely d b.time) acts i nobody (omega (arith, tables.size)) in
            let u = (tables.parts i here).usage_is in
            omega (arith, zz, b.bad)
