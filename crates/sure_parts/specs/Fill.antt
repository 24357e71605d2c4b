-- The tables of a cumulative row as they are filled, one activity at a time.
use Rattle.std.specs.Prelude.{ℕ, ◌+◌, ◌*◌, ◌≤◌, ◌<◌, ◌≡◌, refl, ◌≢◌, eqb, ℤ, pos, negsuc, nat_abs, ◌-ℤ◌, length, get_or, set, replicate, ◌≤ℤ◌}
use Rattle.std.proofs.Common.{sym, ap, subst, ◌∙◌, ⊎_elim, arith, eqb-true, length-set, get_or-set_same, get_or-set_other}
use mathlib.Core.List.{List, [], ◌∷◌, ◌++◌, Memᴰ as In}
use Rattle.std.proofs.lemmas.Bool.{eqb-false}
use Rattle.std.proofs.lemmas.List.{length-append, length-replicate, get_or-replicate, get_or_append_left, get_or_push}
use Rattle.meaning.specs.Read.{neg}
use Rattle.meaning.specs.Limits.{most_value, most_usage, most_duration, most_parts}
use Rattle.words.specs.Int.{zz, abs_is}
use Rattle.words.specs.Lists.{least, largest}
use Rattle.words.specs.ListFacts.{tested}
use Rattle.meaning.specs.Model.{Activity}
use Rattle.reading.specs.At.{Names}
use Rattle.model.specs.Rows.{activity_at, ActivitiesIn}
use Rattle.rule_facts.specs.Ready as ready
use Rattle.sure_parts.specs.declared.Part.{Part}
use Rattle.sure_parts.specs.Table.{nothing, until_of, peak, latest_end, most_load, Sized, Loads}
use Rattle.sure_parts.specs.Sizes.{load_any}
use Rattle.sure_parts.specs.Parts.{ending, part_of, part_is, PartOf}

-- what holds at k, and at j where j is another place, holds at j
same_or_other : (Q : ℕ → Type 0) (k j : ℕ) → Q k → (j ≢ k → Q j) → Q j
same_or_other Q k j q f = ⊎_elim (λ e. subst Q (sym (eqb-true j k e)) q) (λ e. f (eqb-false j k e)) (tested (eqb j k))

-- ---- what is surely in use just before each end
pub record Peaked (ps : List Part) (n : ℕ) (peaks : List ℤ) : Type 0 where
  pub long : length peaks ≡ n
  pub loads : Loads peaks
  pub each : (j : ℕ) → j < n → get_or peaks j (pos 0) ≡ peak ps n j

pub peaked_of : (ps : List Part) → Sized ps → (peaks : List ℤ) → length peaks ≡ length ps → ((j : ℕ) → j < length ps → get_or peaks j (pos 0) ≡ peak ps (length ps) j) → Peaked ps (length ps) peaks
peaked_of ps sized peaks e f = record {
  long = e;
  loads = record {
    few = omega (arith, sized.few);
    small = λ k h.
        let b = load_any ps sized (until_of ps k -ℤ pos 1) (length ps) in
        let few = sized.few in
        rw (f k (omega arith)) (b.0, omega (arith, zz));
  };
  each = f;
}

-- the first k entries are there
pub record PeakedFirst (ps : List Part) (n k : ℕ) (peaks : List ℤ) : Type 0 where
  pub loads : Loads peaks
  pub each : (j : ℕ) → j < k → get_or peaks j (pos 0) ≡ peak ps n j

module _ (ps : List Part) (n : ℕ) (peaks : List ℤ) where
  pub peaked_none : Loads peaks → PeakedFirst ps n 0 peaks
  peaked_none l = record { loads = l; each = λ j h. absurd (omega arith) }

  pub peaked_more : Sized ps → n ≤ most_parts → (k : ℕ) → k < length peaks → PeakedFirst ps n k peaks → PeakedFirst ps n (k + 1) (set peaks k (peak ps n k))
  peaked_more sized few k h f =
      let b = load_any ps sized (until_of ps k -ℤ pos 1) n in
      let after = set peaks k (peak ps n k) in
      let long = length-set peaks k (peak ps n k) in
      let same = get_or-set_same peaks k (peak ps n k) (pos 0) h in
      let other : (j : ℕ) → j ≢ k → get_or after j (pos 0) ≡ get_or peaks j (pos 0) = λ j ne. get_or-set_other peaks k j (peak ps n k) (pos 0) ne in
      record {
        loads = record {
          few = omega (arith, long, f.loads.few);
          small = λ j m. same_or_other (λ z. (pos 0 ≤ℤ get_or after z (pos 0)) × (get_or after z (pos 0) ≤ℤ pos most_load)) k j (rw same (b.0, omega (arith, zz))) (λ ne. rw (other j ne) (f.loads.small j (omega (arith, long))));
        };
        each = λ j m. same_or_other (λ z. get_or after z (pos 0) ≡ peak ps n z) k j same (λ ne. other j ne ∙ f.each j (omega (arith, ne)));
      }

  -- when all are there, that is the whole table
  pub peaked_all : length peaks ≡ n → PeakedFirst ps n n peaks → Peaked ps n peaks
  peaked_all e f = record { long = e; loads = f.loads; each = f.each }

-- ---- the sure parts
-- the table with the sure part of an activity at place k
abbrev pub part_put : (ℕ → List ℤ) → Activity → ℕ → List Part → List Part
part_put d a k ps = set ps k (part_of d a)

-- the table holds the sure parts of n activities, which begin at q of the model
pub record Filled (d : ℕ → List ℤ) (m : List ℤ) (q n : ℕ) (ps : List Part) : Type 0 where
  pub long : length ps ≡ n
  pub sized : Sized ps
  pub parts : (j : ℕ) → j < n → PartOf d (activity_at m (q + j * 3)) ps j

-- the words of one part are small
record SmallPart (p : Part) : Type 0 where
  pub from_small : (neg most_value ≤ℤ p.from) × (p.from ≤ℤ pos most_value)
  pub until_small : (neg most_value ≤ℤ p.until) × (p.until ≤ℤ pos latest_end)
  pub usage_small : (pos 0 ≤ℤ p.usage) × (p.usage ≤ℤ pos most_usage)

sized_of : (ps : List Part) → length ps ≤ most_parts → ((k : ℕ) → k < length ps → SmallPart (get_or ps k nothing)) → Sized ps
sized_of ps few f = record { few = few; starts = λ k h. (f k h).from_small; ends = λ k h. (f k h).until_small; usages = λ k h. (f k h).usage_small }

small_in : {ps : List Part} → Sized ps → (k : ℕ) → k < length ps → SmallPart (get_or ps k nothing)
small_in s k h = record { from_small = s.starts k h; until_small = s.ends k h; usage_small = s.usages k h }

-- a part that stands in another table as well
same_part : {d : ℕ → List ℤ} {b : Activity} {ps after : List Part} {j : ℕ} → get_or after j nothing ≡ get_or ps j nothing → PartOf d b ps j → PartOf d b after j
same_part e f = record { from_is = ap (λ (p : Part). p.from) e ∙ f.from_is; until_is = ap (λ (p : Part). p.until) e ∙ f.until_is; usage_is = ap (λ (p : Part). p.usage) e ∙ f.usage_is }

-- values of a box that is judged are small, and so are the least and the largest
module _ (vs : List ℤ) (small : (v : ℤ) → In v vs → nat_abs v ≤ most_value) where
  in_range : (v : ℤ) → nat_abs v ≤ most_value → (neg most_value ≤ℤ v) × (v ≤ℤ pos most_value)
  in_range v h = (omega (arith, zz, abs_is v), omega (arith, zz, abs_is v))

  pub least_small : (neg most_value ≤ℤ least vs) × (least vs ≤ℤ pos most_value)
  least_small = in_range (least vs) (ready.least_small most_value vs small)

  pub largest_small : (neg most_value ≤ℤ largest vs) × (largest vs ≤ℤ pos most_value)
  largest_small = in_range (largest vs) (ready.largest_small most_value vs small)

-- the words of one activity
pub record ActivityIn (v : ℕ) (m : List ℤ) (p : ℕ) : Type 0 where
  pub inside : p + 2 < length m
  pub named : Names v m p
  pub lasting : (pos 1 ≤ℤ get_or m (p + 1) (pos 0)) × (get_or m (p + 1) (pos 0) ≤ℤ pos most_duration)
  pub uses : (pos 0 ≤ℤ get_or m (p + 2) (pos 0)) × (get_or m (p + 2) (pos 0) ≤ℤ pos most_usage)

pub one_activity : {v n q : ℕ} {m : List ℤ} → ActivitiesIn v m q n → (i : ℕ) → i < n → ActivityIn v m (q + i * 3)
one_activity {n} {q} {m} f i l = record { inside = omega (arith, f.fits); named = f.named i l; lasting = f.lasting i l; uses = f.uses i l }

-- numbers that are not negative, as words and as numbers
pub signless : (z : ℤ) → pos 0 ≤ℤ z → pos (nat_abs z) ≡ z
signless (pos n) h = refl
signless (negsuc n) h = absurd h.le

module _ (d : ℕ → List ℤ) (small : (x : ℕ) (v : ℤ) → In v (d x) → nat_abs v ≤ most_value) (v : ℕ) (m : List ℤ) (p : ℕ) (ok : ActivityIn v m p) where
  abbrev act : Activity
  act = activity_at m p

  -- the sure part's end is a word
  pub ending_small : (neg most_value ≤ℤ ending d act) × (ending d act ≤ℤ pos latest_end)
  ending_small =
      let a = least_small (d act.start) (small act.start) in
      let b = ok.lasting in
      let e = signless (get_or m (p + 1) (pos 0)) (omega (arith, zz)) in
      (omega (arith, zz), omega (arith, zz))

  usage_small : (pos 0 ≤ℤ pos act.usage) × (pos act.usage ≤ℤ pos most_usage)
  usage_small = rw (signless (get_or m (p + 2) (pos 0)) ok.uses.0) ok.uses

  part_small : SmallPart (part_of d act)
  part_small = record { from_small = largest_small (d act.start) (small act.start); until_small = ending_small; usage_small = usage_small }

  module _ (ps : List Part) (k : ℕ) (here : k < length ps) (sized : Sized ps) where
    abbrev after : List Part
    after = part_put d act k ps

    same : get_or after k nothing ≡ part_of d act
    same = get_or-set_same ps k (part_of d act) nothing here

    other : (j : ℕ) → j ≢ k → get_or after j nothing ≡ get_or ps j nothing
    other j ne = get_or-set_other ps k j (part_of d act) nothing ne

    pub put_sized : Sized after
    put_sized =
        let long = length-set ps k (part_of d act) in
        let few = sized.few in
        sized_of after (omega (arith, long)) (λ j h. same_or_other (λ z. SmallPart (get_or after z nothing)) k j (rw same part_small) (λ ne. rw (other j ne) (small_in sized j (omega (arith, long)))))

    pub put_here : PartOf d act after k
    put_here = part_is same

    pub put_there : (b : Activity) (j : ℕ) → j ≢ k → PartOf d b ps j → PartOf d b after j
    put_there b j ne f = same_part (other j ne) f

-- every place holds the sure part of its activity
pub filled_of : (d : ℕ → List ℤ) (m : List ℤ) (q : ℕ) (ps : List Part) → ((x : ℕ) (v : ℤ) → In v (d x) → nat_abs v ≤ most_value) → {v n : ℕ} → ActivitiesIn v m q n → n ≤ most_parts → length ps ≡ n
    → ((j : ℕ) → j < n → get_or ps j nothing ≡ part_of d (activity_at m (q + j * 3))) → Filled d m q n ps
filled_of d m q ps small {v} {n} ok few e f = record {
  long = e;
  sized = sized_of ps (omega arith) (λ k h. rw (f k (omega arith)) (part_small d small v m (at k) (one k h)));
  parts = holds;
}
  where
    at : ℕ → ℕ
    at k = q + k * 3

    one : (k : ℕ) → k < length ps → ActivityIn v m (at k)
    one k h = one_activity ok k (omega arith)

    holds : (k : ℕ) → k < n → PartOf d (activity_at m (at k)) ps k
    holds k h = part_is (f k h)

-- one activity more
module _ (d : ℕ → List ℤ) (m : List ℤ) (q : ℕ) where
  pub filled_none : Filled d m q 0 []
  filled_none = record {
    long = refl;
    sized = record { few = omega arith; starts = λ k h. absurd (omega arith); ends = λ k h. absurd (omega arith); usages = λ k h. absurd (omega arith) };
    parts = λ j h. absurd (omega arith);
  }

  pub filled_more : ((x : ℕ) (v : ℤ) → In v (d x) → nat_abs v ≤ most_value) → {v n : ℕ} → ActivitiesIn v m q n → n ≤ most_parts → (k : ℕ) → k < n → (ps : List Part) → Filled d m q k ps → Filled d m q (k + 1) (ps ++ part_of d (activity_at m (q + k * 3)) ∷ [])
  filled_more small {v} {n} ok few k l ps f =
      let at = q + k * 3 in
      let part = part_of d (activity_at m at) in
      let after : List Part = ps ++ part ∷ [] in
      let before = f.long in
      let long : length after ≡ k + 1 = length-append ps (part ∷ []) ∙ ap (λ z. z + 1) before in
      let same : get_or after k nothing ≡ part = get_or_push ps part nothing k before in
      let other : (j : ℕ) → j < k → get_or after j nothing ≡ get_or ps j nothing = λ j h. get_or_append_left ps (part ∷ []) nothing j (omega arith) in
      record {
        long = long;
        sized = sized_of after (omega arith) (λ j h. same_or_other (λ z. SmallPart (get_or after z nothing)) k j (rw same (part_small d small v m at (one_activity ok k l))) (λ ne. rw (other j (omega (arith, ne))) (small_in f.sized j (omega (arith, ne)))));
        parts = λ j h. same_or_other (λ z. PartOf d (activity_at m (q + z * 3)) after z) k j (part_is same) (λ ne. same_part (other j (omega (arith, ne))) (f.parts j (omega (arith, ne))));
      }

-- ---- tables of zeros
pub sized_zeros : (n : ℕ) → n ≤ most_parts → Sized (replicate n nothing)
sized_zeros n few =
    let long = length-replicate n nothing in
    let zeros : SmallPart nothing = record { from_small = (omega (arith, zz), omega (arith, zz)); until_small = (omega (arith, zz), omega (arith, zz)); usage_small = (omega (arith, zz), omega (arith, zz)) } in
    sized_of (replicate n nothing) (omega (arith, long)) (λ k h. rw (get_or-replicate n k nothing nothing (omega (arith, long))) zeros)

pub loads_zeros : (n : ℕ) → n ≤ most_parts → Loads (replicate n (pos 0))
loads_zeros n few =
    let long = length-replicate n (pos 0) in
    record { few = omega (arith, long); small = λ k h. rw (get_or-replicate n k (pos 0) (pos 0) (omega (arith, long))) (omega (arith, zz), omega (arith, zz)) }
