-- A leap is right: it stays at a start that is not blocked, and passes no other.
use Rattle.std.specs.Prelude.{ℕ, ◌+◌, ◌≤◌, ◌<◌, ◌≡◌, Bool, true, false, ◌&&◌, ◌⊎◌, ◌≢◌, ℤ, pos, ◌+ℤ◌, ◌-ℤ◌, length, get_or, ◌≤ℤ◌, ◌<ℤ◌}
use Rattle.std.proofs.Common.{sym, ap, subst, ◌∙◌, inl, inr, ⊎_elim, arith, ltb-true}
use mathlib.Core.List.{List, Memᴰ as In}
use Rattle.std.specs.Int.Signed.{le_z, lt_z, ≤ℤ_refl}
use Rattle.words.specs.Int.{zz, diff}
use Rattle.words.specs.Lists.{any}
use Rattle.words.specs.ListFacts.{tested, clash, any_found, or_cases, and_true, before_le, before_lt}
use Rattle.meaning.specs.Model.{Activity}
use Rattle.meaning.specs.Rule.{sure}
use Rattle.meaning.proofs.Proved.Loads.{Bad}
use Rattle.sure_parts.specs.declared.Part.{Part}
use Rattle.sure_parts.specs.Parts.{ending}
use Rattle.cumulative.specs.Jumps.{bad, tries, tried, tries_covers, Passed, passed_jump}
use Rattle.meaning.proofs.Proved.Positions.{others_of, others_at}
use Rattle.sure_parts.specs.Table.{from_of, until_of, peak}
use Rattle.cumulative.specs.Steps.{over, over_by, next_end, leap}
use Rattle.cumulative.proofs.Turns.{leap_over, leap_under}
use Rattle.cumulative.proofs.Ends.{next_first, no_room, Last, nowhere, found, last_is}
use Rattle.sure_parts.specs.Parts.{PartOf}
use Rattle.cumulative.proofs.Beside.{over_is}

-- the number before v, the other way round
of_before : (v w : ℤ) → (v -ℤ pos 1) <ℤ w → v ≤ℤ w
of_before v w h = omega (arith, zz, diff v (pos 1))

after_before : (v w : ℤ) → v ≤ℤ (w -ℤ pos 1) → v <ℤ w
after_before v w h = omega (arith, zz, diff w (pos 1))

-- the tables of a row: the sure parts of its n activities, and what is surely in use just before each ends
pub record Tables (d : ℕ → List ℤ) (none : Activity) (acts : List Activity) (n : ℕ) (ps : List Part) (peaks : List ℤ) : Type 0 where
  pub size : length acts ≡ n
  pub parts : (k : ℕ) → k < n → PartOf d (get_or acts k none) ps k
  pub peaked : (k : ℕ) → k < n → get_or peaks k (pos 0) ≡ peak ps n k

module _ (d : ℕ → List ℤ) (c : ℕ) (j : Activity) (others : List Activity) where
  -- what a leap from s to u says of activity j
  pub data Leapt (s : ℤ) : ℤ → Type 0 where
    free : tried d c j others s ≡ false → Leapt s s
    onward : {u : ℤ} → s <ℤ u → (Passed d c j others s → Passed d c j others u) → Leapt s u

module _ (d : ℕ → List ℤ) (c : ℕ) (none : Activity) (acts : List Activity) (n : ℕ) (ps : List Part) (peaks : List ℤ) (tables : Tables d none acts n ps peaks) (i : ℕ) (here : i < n) where
  abbrev own : Activity
  own = get_or acts i none

  abbrev others : List Activity
  others = others_of i acts

  over_bad : (t : ℤ) → over ps n (pos c) i t ≡ bad d c own others t
  over_bad t = over_is d ps t none acts n c i tables.size here tables.parts

  -- the ends of the others, by their places in the table
  by_place : (Q : ℤ → Type 0) → ((q : ℕ) → q < n → q ≢ i → Q (until_of ps q)) → (k : Activity) → In k others → Q (ending d k)
  by_place Q f k m =
      let (q, l, ne, e) = others_at acts i none m in
      at q (omega (arith, tables.size)) ne e
    where
      at : (q : ℕ) → q < n → q ≢ i → get_or acts q none ≡ k → Q (ending d k)
      at q l ne e = subst Q ((tables.parts q l).until_is ∙ ap (ending d) e) (f q l ne)

  -- just before an end, by what the second table says
  room_is : (k : ℕ) → k < n → no_room ps peaks (pos c) i k ≡ bad d c own others (until_of ps k -ℤ pos 1)
  room_is k l = ap (over_by ps (pos c) i (until_of ps k -ℤ pos 1)) (tables.peaked k l) ∙ over_bad (until_of ps k -ℤ pos 1)

  bad_is : (t : ℤ) → bad d c own others t ≡ true → Bad d c own others t
  bad_is t h = ltb-true c (own.usage + sure d t others) h

  module _ (s : ℤ) (lasts : 1 ≤ own.duration) where
    abbrev stop : ℤ
    stop = s +ℤ pos own.duration

    abbrev last : ℤ
    last = stop -ℤ pos 1

    -- the last time is bad: on to the next end
    at_last : s ≤ℤ from_of ps i → bad d c own others last ≡ true → Leapt d c own others s (next_end ps i last (from_of ps i +ℤ pos 1) n)
    at_last l h =
        let u = next_end ps i last (from_of ps i +ℤ pos 1) n in
        let f = next_first ps i last (from_of ps i +ℤ pos 1) n in
        let a : s ≤ℤ last = before_le s stop (omega (arith, zz)) in
        let b : last <ℤ stop = before_lt stop stop (≤ℤ_refl stop) in
        onward (f.ahead s a (omega (arith, zz)))
        (λ passed. passed_jump d c own others s last u passed (record { from = a; until = b }) (bad_is last h) (by_place (λ e. last <ℤ e → u ≤ℤ e) (λ q m ne g. f.before q m ne g)))

    -- else on to the last bad end, and where there is none the start is not blocked
    at_end : {e : ℤ} → bad d c own others last ≡ false → Last ps peaks (pos c) i s stop n e → Leapt d c own others s e
    at_end h (nowhere f) = free (⊎_elim (λ e. absurd (cases (or_cases (tries d c own others s last) (any ends others) e))) (λ e. e) (tested (tried d c own others s)))
      where
        ends : Activity → Bool
        ends k = tries d c own others s (ending d k -ℤ pos 1)

        bad_then : (t : ℤ) → tries d c own others s t ≡ true → bad d c own others t ≡ true
        bad_then t e = (and_true (le_z s t && lt_z t stop) (bad d c own others t) e).1

        at_place : (q : ℕ) → q < n → q ≢ i → tries d c own others s (until_of ps q -ℤ pos 1) ≡ true → ⊥
        at_place q l ne e =
            let t = until_of ps q -ℤ pos 1 in
            let cover = tries_covers d c own others s t e in
            clash (bad_then t e) (sym (room_is q l) ∙ f q l (after_before s (until_of ps q) cover.from) (of_before (until_of ps q) stop cover.until))

        cases : (tries d c own others s last ≡ true) ⊎ (any ends others ≡ true) → ⊥
        cases (inl e) = clash (bad_then last e) h
        cases (inr e) = let (k, m, t) = any_found ends others e in by_place (λ z. tries d c own others s (z -ℤ pos 1) ≡ true → ⊥) at_place k m t
    at_end h (found k l a b r) =
        let e = until_of ps k in
        let t = e -ℤ pos 1 in
        onward a
        (λ passed. passed_jump d c own others s t e passed (record { from = before_le s e a; until = before_lt e stop b }) (bad_is t (sym (room_is k l) ∙ r))
        (by_place (λ z. t <ℤ z → e ≤ℤ z) (λ q m ne g. of_before e (until_of ps q) g)))

    pub leapt : s ≤ℤ from_of ps i → Leapt d c own others s (leap ps peaks n (pos c) i s (pos own.duration))
    leapt l =
        ⊎_elim (λ h. rw (leap_over ps peaks n (pos c) i s (pos own.duration) (over_bad last ∙ h)) (at_last l h))
        (λ h. rw (leap_under ps peaks n (pos c) i s (pos own.duration) (over_bad last ∙ h)) (at_end h (last_is ps peaks (pos c) i s stop n)))
        (tested (bad d c own others last))
