-- The cumulative row's efficient rule: which times have to be tried, and how far a blocked start lets a program jump.
use Rattle.std.specs.Prelude.{ℕ, ◌+◌, ◌≤◌, ◌≡◌, refl, Bool, true, false, ◌&&◌, ◌||◌, ◌⊎◌, ltb, ℤ, pos, ◌+ℤ◌, ◌-ℤ◌, ◌≤ℤ◌, ◌<ℤ◌}
use Rattle.std.proofs.Common.{sym, subst, ◌∙◌, inl, inr, ⊎_elim, arith, ltb-true, lt-ltb}
use mathlib.Core.List.{List, Memᴰ as In}
use Rattle.std.specs.Int.Signed.{le_z, lt_z, ≤ℤ_refl}
use Rattle.words.specs.Int.{zz, nlt_read}
use Rattle.words.specs.Lists.{any, all, least}
use Rattle.words.specs.ListFacts.{tested, and_both, or_cases, or_left, or_right, last_of, le_total, lt_or_not, before_lt, before_le, clash, same_test, any_found, any_holds, all_at, all_by, Rising, least_below, sum_le, and_true}
use Rattle.meaning.specs.Model.{Activity}
use Rattle.meaning.specs.Rule.{surely, sure, blocked_from}
use Rattle.sure_parts.specs.Parts.{ending}
use Rattle.meaning.proofs.Proved.Loads.{during_of, of_during, Covers, Surely, surely_yes, surely_most, Bad, Blocked, blocked_of, blocked_by}

module _ (d : ℕ → List ℤ) where
  -- ---- sure usage at two times
  pub sure_most : (t u : ℤ) (js : List Activity) → ((j : Activity) → In j js → Surely d t j → Surely d u j) → sure d t js ≤ sure d u js
  sure_most t u js h = sum_le (surely d t) (surely d u) js (λ j m. surely_most d t j (surely d u j) (λ g. surely_yes d u j (h j m g)))

  -- no sure part that has not ended at t has ended at u
  abbrev pub Unended : ℤ → ℤ → List Activity → Type 0
  Unended t u js = (j : Activity) → In j js → t <ℤ ending d j → u <ℤ ending d j

  -- sure usage falls only where a sure part ends
  pub sure_rises : (t u : ℤ) (js : List Activity) → t ≤ℤ u → Unended t u js → sure d t js ≤ sure d u js
  sure_rises t u js h f = sure_most t u js (λ j m g. record { from = omega (arith, zz, g.from); until = f j m g.until })

  -- ---- jumps: activity j, whose usage and the sure usage of the others are held against the capacity c
  module _ (c : ℕ) (j : Activity) (others : List Activity) where
    -- a bad time makes every time after it bad, up to where a sure part ends
    pub bad_on : (t u : ℤ) → t ≤ℤ u → Unended t u others → Bad d c j others t → Bad d c j others u
    bad_on t u h f b = omega (arith, sure_rises t u others h f)

    -- a bad time t of the start s blocks every start from s to t
    pub blocked_to : (s t v : ℤ) → Covers s t j → Bad d c j others t → s ≤ℤ v → v ≤ℤ t → Blocked d c j others v
    blocked_to s t v cover b h l = record { time = t; covered = record { from = l; until = omega (arith, zz, cover.until) }; bad = b }

    -- and it blocks those after t, up to where a sure part ends
    pub jump : (s t v : ℤ) → Covers s t j → Bad d c j others t → s ≤ℤ v → Unended t v others → Blocked d c j others v
    jump s t v cover b h f = go (le_total v t)
      where
        go : (v ≤ℤ t) ⊎ (t ≤ℤ v) → Blocked d c j others v
        go (inl l) = blocked_to s t v cover b h l
        go (inr l) = record { time = v; covered = record { from = ≤ℤ_refl v; until = omega (arith, zz, cover.from, cover.until) }; bad = bad_on t v l f b }

    -- ---- the times to try for a start s: its last one, and the last one of each sure part
    abbrev pub Tried : ℤ → ℤ → Type 0
    Tried s t = (t ≡ (s +ℤ pos j.duration) -ℤ pos 1) ⊎ ((k : Activity) × In k others × (t ≡ ending d k -ℤ pos 1))

    -- up to e no sure part ends that has not ended when the start is blocked, so it is blocked just before e
    blocked_before : (s e : ℤ) (b : Blocked d c j others s) → b.time <ℤ e → e ≤ℤ (s +ℤ pos j.duration) → ((k : Activity) → In k others → b.time <ℤ ending d k → e ≤ℤ ending d k)
        → Tried s (e -ℤ pos 1) → (r : Blocked d c j others s) × Tried s r.time
    blocked_before s e b l h f g =
        let t = b.time in
        let le = before_le t e l in
        let cover : Covers s (e -ℤ pos 1) j = record { from = omega (arith, zz, b.covered.from, le); until = before_lt e (s +ℤ pos j.duration) h } in
        (record { time = e -ℤ pos 1; covered = cover; bad = bad_on t (e -ℤ pos 1) le (λ k m p. before_lt e (ending d k) (f k m p)) b.bad }, g)

    -- a start that is blocked is blocked at one of these
    pub tried_blocked : (s : ℤ) → Blocked d c j others s → (r : Blocked d c j others s) × Tried s r.time
    tried_blocked s b =
        ⊎_elim (λ q. let (k, m, p, f) = q in part k m p f (le_total (ending d k) (s +ℤ pos j.duration))) (λ n. whole (λ k m h. absurd (n k m h)))
        (last_of (λ k. b.time <ℤ ending d k) (λ k. lt_or_not b.time (ending d k)) (λ k i. ending d i ≤ℤ ending d k) (λ k i. le_total (ending d i) (ending d k)) (λ k i h p q. omega (arith, zz)) others)
      where
        whole : ((k : Activity) → In k others → b.time <ℤ ending d k → (s +ℤ pos j.duration) ≤ℤ ending d k) → (r : Blocked d c j others s) × Tried s r.time
        whole f = blocked_before s (s +ℤ pos j.duration) b b.covered.until (≤ℤ_refl (s +ℤ pos j.duration)) f (inl refl)

        part : (k : Activity) → In k others → b.time <ℤ ending d k → ((i : Activity) → In i others → b.time <ℤ ending d i → ending d k ≤ℤ ending d i)
            → (ending d k ≤ℤ (s +ℤ pos j.duration)) ⊎ ((s +ℤ pos j.duration) ≤ℤ ending d k) → (r : Blocked d c j others s) × Tried s r.time
        part k m p f (inl l) = blocked_before s (ending d k) b p l f (inr (k, m, refl))
        part k m p f (inr l) = whole (λ i n h. omega (arith, zz, l, f i n h))

    -- the same as a test: the times that a program tries for the start s
    abbrev pub bad : ℤ → Bool
    bad t = ltb c (j.usage + sure d t others)

    abbrev pub tries : ℤ → ℤ → Bool
    tries s t = le_z s t && lt_z t (s +ℤ pos j.duration) && bad t

    abbrev pub tried : ℤ → Bool
    tried s = tries s ((s +ℤ pos j.duration) -ℤ pos 1) || any (λ k. tries s (ending d k -ℤ pos 1)) others

    pub tries_covers : (s t : ℤ) → tries s t ≡ true → Covers s t j
    tries_covers s t h = let u = s +ℤ pos j.duration in during_of s u t (and_true (le_z s t && lt_z t u) (bad t) h).0

    pub tries_bad : (s t : ℤ) → tries s t ≡ true → Bad d c j others t
    tries_bad s t h = ltb-true c (j.usage + sure d t others) (and_true (le_z s t && lt_z t (s +ℤ pos j.duration)) (bad t) h).1

    tries_of : (s t : ℤ) → tries s t ≡ true → Blocked d c j others s
    tries_of s t h = record { time = t; covered = tries_covers s t h; bad = tries_bad s t h }

    tries_by : (s : ℤ) (b : Blocked d c j others s) → tries s b.time ≡ true
    tries_by s b =
        let t = b.time in
        let u = s +ℤ pos j.duration in
        and_both (le_z s t && lt_z t u) (bad t) (of_during s u t b.covered) (lt-ltb c (j.usage + sure d t others) b.bad)

    pub blocked_is_tried : (s : ℤ) → blocked_from d c j others s ≡ tried s
    blocked_is_tried s = same_test (blocked_from d c j others s) (tried s)
        (λ h. let (b, g) = tried_blocked s (blocked_of d c j others s h) in found b g)
        (λ h. blocked_by d c j others s (⊎_elim (tries_of s last) (λ g. let (k, m, e) = any_found ends others g in tries_of s (ending d k -ℤ pos 1) e) (or_cases (tries s last) (any ends others) h)))
      where
        last : ℤ
        last = (s +ℤ pos j.duration) -ℤ pos 1

        ends : Activity → Bool
        ends k = tries s (ending d k -ℤ pos 1)

        found : (b : Blocked d c j others s) → Tried s b.time → tried s ≡ true
        found b (inl e) = or_left (any ends others) (subst (λ t. tries s t ≡ true) e (tries_by s b))
        found b (inr (k, m, e)) = or_right (tries s last) (any_holds ends m (subst (λ t. tries s t ≡ true) e (tries_by s b)))

    -- ---- the loop over the starts left: every start left below s is blocked
    abbrev pub Passed : ℤ → Type 0
    Passed s = (v : ℤ) → In v (d j.start) → v <ℤ s → Blocked d c j others v

    pub passed_none : Rising (d j.start) → Passed (least (d j.start))
    passed_none r v m h = absurd (let l = least_below r m in omega (arith, zz))

    -- no start is left from s up to u
    pub passed_gap : (s u : ℤ) → Passed s → ((v : ℤ) → In v (d j.start) → s ≤ℤ v → u ≤ℤ v) → Passed u
    passed_gap s u f g v m h = ⊎_elim (λ l. f v m l) (λ n. absurd (let k = g v m (omega (arith, zz, nlt_read {a = v} {b = s} n)) in omega (arith, zz))) (lt_or_not v s)

    -- a bad time t of s passes all starts up to the next end of a sure part, u
    pub passed_jump : (s t u : ℤ) → Passed s → Covers s t j → Bad d c j others t → ((k : Activity) → In k others → t <ℤ ending d k → u ≤ℤ ending d k) → Passed u
    passed_jump s t u f cover b g v m h = ⊎_elim (λ l. f v m l) (λ n. jump s t v cover b (omega (arith, zz, nlt_read {a = v} {b = s} n)) (λ k q l. omega (arith, zz, h, g k q l))) (lt_or_not v s)

    -- every start left is blocked
    pub passed_all : ((v : ℤ) → In v (d j.start) → Blocked d c j others v) → all (blocked_from d c j others) (d j.start) ≡ true
    passed_all f = all_by (blocked_from d c j others) (d j.start) (λ v m. blocked_by d c j others v (f v m))

    -- a start left that no try blocks
    pub stopped : (s : ℤ) → In s (d j.start) → tried s ≡ false → all (blocked_from d c j others) (d j.start) ≡ false
    stopped s m h = ⊎_elim (λ e. absurd (clash (sym (blocked_is_tried s) ∙ all_at (blocked_from d c j others) e m) h)) (λ e. e) (tested (all (blocked_from d c j others) (d j.start)))
