-- The cumulative row: what its tests say, that they are sound, and that the second covers the first.
use Rattle.std.specs.Prelude.{ℕ, ◌+◌, ◌≤◌, ◌<◌, ◌≡◌, refl, Bool, true, false, ◌||◌, ◌⊎◌, ltb, ℤ, pos, ◌+ℤ◌, ◌≤ℤ◌, ◌<ℤ◌}
use Rattle.std.proofs.Common.{sym, ap, subst, inl, inr, ⊎_elim, arith, ltb-true, lt-ltb}
use mathlib.Core.List.{List, [], ◌∷◌, ◌++◌, append_assoc, Memᴰ as In}
use Rattle.std.specs.Int.Signed.{le_z, lt_z}
use Rattle.words.specs.Int.{zz}
use Rattle.words.specs.Lists.{any, all, least, largest, span}
use Rattle.words.specs.ListFacts.{clash, tested, and_both, or_cases, le_of, of_le, lt_of, of_lt, any_found, any_holds, all_at, all_by, parted, in_around, in_middle, in_span, Rising, least_below, largest_above, ends_ordered, sum_le, sum_part, sum_some, and_true, span_in, or_left, or_right}
use Rattle.meaning.specs.Model.{Activity, cumulative}
use Rattle.meaning.specs.Rule.{surely, sure, run_times, blocked_from, squeezed, overloaded, usage_if, during}
use Rattle.meaning.specs.Meets.{Assignment, used, running, Meets}

-- t stands from p up to, not including, q
pub record During (p q t : ℤ) : Type 0 where
  pub from : p ≤ℤ t
  pub until : t <ℤ q

-- t is a time of activity j started at s
abbrev pub Covers : ℤ → ℤ → Activity → Type 0
Covers s t j = During s (s +ℤ pos j.duration) t

-- activity j runs at t whatever start it takes
abbrev pub Surely : (ℕ → List ℤ) → ℤ → Activity → Type 0
Surely d t j = During (largest (d j.start)) (least (d j.start) +ℤ pos j.duration) t

module _ (p q t : ℤ) where
  pub during_of : during p q t ≡ true → During p q t
  during_of h = record { from = le_of p t (and_true (le_z p t) (lt_z t q) h).0; until = lt_of t q (and_true (le_z p t) (lt_z t q) h).1 }

  pub of_during : During p q t → during p q t ≡ true
  of_during h = and_both (le_z p t) (lt_z t q) (of_le h.from) (of_lt h.until)

  -- what an activity uses at t is its usage during its times, else nothing
  module _ (u : ℕ) where
    during_yes : During p q t → usage_if (during p q t) u ≡ u
    during_yes h = rw (of_during h)

    during_is : During p q t ⊎ ((During p q t → ⊥) × (usage_if (during p q t) u ≡ 0))
    during_is = go (tested (during p q t))
      where
        go : (during p q t ≡ true) ⊎ (during p q t ≡ false) → During p q t ⊎ ((During p q t → ⊥) × (usage_if (during p q t) u ≡ 0))
        go (inl e) = inl (during_of e)
        go (inr e) = inr (λ h. clash (of_during h) e, rw e)

pub surely_yes : (d : ℕ → List ℤ) (t : ℤ) (j : Activity) → Surely d t j → surely d t j ≡ j.usage
surely_yes d t j = during_yes (largest (d j.start)) (least (d j.start) +ℤ pos j.duration) t j.usage

pub surely_is : (d : ℕ → List ℤ) (t : ℤ) (j : Activity) → Surely d t j ⊎ ((Surely d t j → ⊥) × (surely d t j ≡ 0))
surely_is d t j = during_is (largest (d j.start)) (least (d j.start) +ℤ pos j.duration) t j.usage

pub used_yes : (a : Assignment) (t : ℤ) (j : Activity) → Covers (a j.start) t j → used a t j ≡ j.usage
used_yes a t j = during_yes (a j.start) (a j.start +ℤ pos j.duration) t j.usage

-- what is surely used is at most what a function gives that gives the usage where the activity surely runs
pub surely_most : (d : ℕ → List ℤ) (t : ℤ) (j : Activity) (n : ℕ) → (Surely d t j → n ≡ j.usage) → surely d t j ≤ n
surely_most d t j n f = go (surely_is d t j)
  where
    go : Surely d t j ⊎ ((Surely d t j → ⊥) × (surely d t j ≡ 0)) → surely d t j ≤ n
    go (inl h) = omega (arith, surely_yes d t j h, f h)
    go (inr e) = omega arith

-- where something is surely used, some activity surely runs
pub sure_some : (d : ℕ → List ℤ) (t : ℤ) (acts : List Activity) → 0 < sure d t acts → (j : Activity) × In j acts × Surely d t j
sure_some d t acts h = let (j, m, p) = sum_some (surely d t) acts h in (j, m, go j (surely_is d t j) p)
  where
    go : (j : Activity) → Surely d t j ⊎ ((Surely d t j → ⊥) × (surely d t j ≡ 0)) → 0 < surely d t j → Surely d t j
    go j (inl h) p = h
    go j (inr e) p = absurd (omega arith)

-- a start blocked: at some of its times the activity and the sure parts of the others take more than the capacity
abbrev pub Bad : (ℕ → List ℤ) → ℕ → Activity → List Activity → ℤ → Type 0
Bad d c j others t = c < j.usage + sure d t others

pub record Blocked (d : ℕ → List ℤ) (c : ℕ) (j : Activity) (others : List Activity) (s : ℤ) : Type 0 where
  pub time : ℤ
  pub covered : Covers s time j
  pub bad : Bad d c j others time

module _ (d : ℕ → List ℤ) (c : ℕ) where
  pub blocked_of : (j : Activity) (others : List Activity) (s : ℤ) → blocked_from d c j others s ≡ true → Blocked d c j others s
  blocked_of j others s h =
      let (t, m, e) = any_found (λ t. ltb c (j.usage + sure d t others)) (span s j.duration) h in
      record { time = t; covered = record { from = (in_span s j.duration m).0; until = (in_span s j.duration m).1 }; bad = ltb-true c (j.usage + sure d t others) e }

  pub blocked_by : (j : Activity) (others : List Activity) (s : ℤ) → Blocked d c j others s → blocked_from d c j others s ≡ true
  blocked_by j others s b = any_holds (λ t. ltb c (j.usage + sure d t others)) (span_in s j.duration b.covered.from b.covered.until) (lt-ltb c (j.usage + sure d b.time others) b.bad)

  -- an activity every start of which is blocked, by the activities at the other positions
  pub record Squeeze (acts : List Activity) : Type 0 where
    pub before : List Activity
    pub activity : Activity
    pub after : List Activity
    pub parts : acts ≡ before ++ activity ∷ after
    pub blocked : (s : ℤ) → In s (d activity.start) → Blocked d c activity (before ++ after) s

  pub squeeze_of : (before acts : List Activity) → squeezed d c before acts ≡ true → Squeeze (before ++ acts)
  squeeze_of before [] h = clash h refl
  squeeze_of before (j ∷ acts) h =
      ⊎_elim (λ e. record { before = before; activity = j; after = acts; parts = refl; blocked = λ s m. blocked_of j (before ++ acts) s (all_at (blocked_from d c j (before ++ acts)) e m) })
      (λ e. subst Squeeze (append_assoc before (j ∷ []) acts) (squeeze_of (before ++ (j ∷ [])) acts e))
      (or_cases (all (blocked_from d c j (before ++ acts)) (d j.start)) (squeezed d c (before ++ (j ∷ [])) acts) h)

  pub squeezed_by : (before l : List Activity) (j : Activity) (r : List Activity) → ((s : ℤ) → In s (d j.start) → Blocked d c j (before ++ (l ++ r)) s) → squeezed d c before (l ++ j ∷ r) ≡ true
  squeezed_by before [] j r f =
      or_left (squeezed d c (before ++ (j ∷ [])) r) (all_by (blocked_from d c j (before ++ r)) (d j.start) (λ s m. blocked_by j (before ++ r) s (f s m)))
  squeezed_by before (k ∷ l) j r f =
      or_right (all (blocked_from d c k (before ++ (l ++ j ∷ r))) (d k.start)) (squeezed_by (before ++ (k ∷ [])) l j r (λ s m. rw (append_assoc before (k ∷ []) (l ++ r)) (f s m)))

  -- what an overload is: a time at which the sure parts take more than the capacity
  pub overload_of : (acts : List Activity) → overloaded d c acts ≡ true → (t : ℤ) × (c < sure d t acts)
  overload_of acts h =
      let (j, m, e) = any_found (λ a. any (λ t. ltb c (sure d t acts)) (run_times d a)) acts h in
      let (t, k, f) = any_found (λ t. ltb c (sure d t acts)) (run_times d j) e in
      (t, ltb-true c (sure d t acts) f)

-- each start is among the values left to it
abbrev pub StartsLeft : (ℕ → List ℤ) → Assignment → List Activity → Type 0
StartsLeft d a js = (j : Activity) → In j js → In (a j.start) (d j.start)

-- ---- soundness: no assignment of values left meets a row that is overloaded or squeezed
module _ (d : ℕ → List ℤ) (rising : (x : ℕ) → Rising (d x)) where
  -- an activity that surely runs at t runs at t from each start left
  pub surely_covers : (j : Activity) (s t : ℤ) → In s (d j.start) → Surely d t j → Covers s t j
  surely_covers j s t m h =
      let r = rising j.start in
      let l = least_below r m in
      let g = largest_above (d j.start) r m in
      record { from = omega (arith, zz); until = omega (arith, zz) }

  module _ (c : ℕ) (acts : List Activity) (a : Assignment) where
    sure_used : (t : ℤ) (js : List Activity) → StartsLeft d a js → sure d t js ≤ running a t js
    sure_used t js left = sum_le (surely d t) (used a t) js (λ j m. surely_most d t j (used a t j) (λ h. used_yes a t j (surely_covers j (a j.start) t (left j m) h)))

    pub overloaded_refuses : overloaded d c acts ≡ true → StartsLeft d a acts → Meets a (cumulative c acts) → ⊥
    overloaded_refuses h left meets = let (t, e) = overload_of d c acts h in omega (arith, e, sure_used t acts left, meets t)

    pub squeezed_refuses : squeezed d c [] acts ≡ true → StartsLeft d a acts → Meets a (cumulative c acts) → ⊥
    squeezed_refuses h left meets =
        let q = squeeze_of d c [] acts h in
        let j = q.activity in
        let others = q.before ++ q.after in
        let here_left : StartsLeft d a (q.before ++ j ∷ q.after) = subst (StartsLeft d a) q.parts left in
        let b = q.blocked (a j.start) (here_left j (in_middle q.before j q.after)) in
        let t = b.time in
        omega (arith, b.bad, used_yes a t j b.covered, sure_used t others (λ k m. here_left k (in_around q.before j q.after m)), sum_part (used a t) q.before j q.after, ap (running a t) q.parts, meets t)

    pub cumulative_refuses : (overloaded d c acts || squeezed d c [] acts) ≡ true → StartsLeft d a acts → Meets a (cumulative c acts) → ⊥
    cumulative_refuses h left meets = ⊎_elim (λ e. overloaded_refuses e left meets) (λ e. squeezed_refuses e left meets) (or_cases (overloaded d c acts) (squeezed d c [] acts) h)

  -- ---- the second test covers the first
  module _ (c : ℕ) where
    -- a time with too much sure usage is an overload
    pub overloaded_by : (acts : List Activity) (t : ℤ) → c < sure d t acts → overloaded d c acts ≡ true
    overloaded_by acts t h =
        let (j, m, g) = sure_some d t acts (omega arith) in
        let o = ends_ordered (d j.start) (rising j.start) in
        any_holds (λ a. any (λ t. ltb c (sure d t acts)) (run_times d a)) m
        (any_holds (λ t. ltb c (sure d t acts)) (span_in (largest (d j.start)) j.duration g.from (omega (arith, zz))) (lt-ltb c (sure d t acts) h))

    load_squeezes : (t : ℤ) (l : List Activity) (j : Activity) (r : List Activity) → Surely d t j → c < sure d t (l ++ j ∷ r) → squeezed d c [] (l ++ j ∷ r) ≡ true
    load_squeezes t l j r h e = squeezed_by d c [] l j r (λ s m. record { time = t; covered = surely_covers j s t m h; bad = omega (arith, surely_yes d t j h, sum_part (surely d t) l j r) })

    pub overloaded_squeezed : (acts : List Activity) → overloaded d c acts ≡ true → squeezed d c [] acts ≡ true
    overloaded_squeezed acts h =
        let (t, e) = overload_of d c acts h in
        let (j, m, sure-j) = sure_some d t acts (omega arith) in
        let (l, r, parts) = parted m in
        subst (λ js. squeezed d c [] js ≡ true) (sym parts) (load_squeezes t l j r sure-j (subst (λ js. c < sure d t js) parts e))

    -- so the row conflicts exactly when it is squeezed
    pub cumulative_is_squeezed : (acts : List Activity) → (overloaded d c acts || squeezed d c [] acts) ≡ squeezed d c [] acts
    cumulative_is_squeezed acts = go (overloaded d c acts) refl
      where
        go : (b : Bool) → overloaded d c acts ≡ b → (b || squeezed d c [] acts) ≡ squeezed d c [] acts
        go true e = sym (overloaded_squeezed acts e)
        go false e = refl
