-- The table holds the sure parts of a row's activities, so what is computed from it is what document 01 speaks of.
use Prim.Native.Nat.{ℕ, zero, suc, ◌+◌, ◌≤◌, ◌<◌}
use Rattle.std.specs.Prelude.{◌≡◌, Bool, true, false, cond, List, [], ℤ, ◌+ℤ◌, length, get_or, take}
use Rattle.std.proofs.Math.Path.{refl}
use Rattle.std.proofs.Common.{sym, ap, ◌∙◌, append-nil, arith, take-suc, take_all}
use Rattle.std.proofs.Math.IntN.{pos}
use Rattle.words.specs.Lists.{sum_of, least, largest}
use Rattle.words.specs.ListFacts.{sum_part}
use Rattle.meaning.specs.Model.{Activity}
use Rattle.meaning.specs.Rule.{during, usage_if, surely, sure}
use Rattle.sure_parts.specs.declared.Part.{Part}
use Rattle.sure_parts.specs.Table.{nothing, from_of, until_of, usage_of, used_at, load}

-- where the sure part of an activity ends, if it has one
abbrev pub ending : (ℕ → List ℤ) → Activity → ℤ
ending d j = least (d j.start) +ℤ pos j.duration

-- the sure part of an activity, and its usage
abbrev pub part_of : (ℕ → List ℤ) → Activity → Part
part_of d j = record { from = largest (d j.start); until = ending d j; usage = pos j.usage }

-- place k of the table holds the sure part of the activity j
pub record PartOf (d : ℕ → List ℤ) (j : Activity) (ps : List Part) (k : ℕ) : Type 0 where
  pub from_is : from_of ps k ≡ largest (d j.start)
  pub until_is : until_of ps k ≡ ending d j
  pub usage_is : usage_of ps k ≡ pos j.usage

pub part_is : {d : ℕ → List ℤ} {j : Activity} {ps : List Part} {k : ℕ} → get_or ps k nothing ≡ part_of d j → PartOf d j ps k
part_is e = record { from_is = ap (λ (p : Part). p.from) e; until_is = ap (λ (p : Part). p.until) e; usage_is = ap (λ (p : Part). p.usage) e }

module _ (d : ℕ → List ℤ) (ps : List Part) (t : ℤ) where
  either : (b : Bool) (u : ℕ) → cond b (pos u) (pos 0) ≡ pos (usage_if b u)
  either true u = refl
  either false u = refl

  pub used_is : (j : Activity) (k : ℕ) → PartOf d j ps k → used_at ps t k ≡ pos (surely d t j)
  used_is j k p = rw (p.from_is, p.until_is, p.usage_is) (either (during (largest (d j.start)) (ending d j) t) j.usage)

  module _ (none : Activity) (acts : List Activity) where
    one_more_lem : (k : ℕ) → k < length acts → sure d t (take (suc k) acts) ≡ sure d t (take k acts) + surely d t (get_or acts k none)
    one_more_lem k h =
        let f = surely d t in
        let a = ap (sum_of f) (take-suc acts k none h) in
        let b = sum_part f (take k acts) (get_or acts k none) [] in
        let q = ap (sum_of f) (append-nil (take k acts)) in
        omega arith

    load_first : (n : ℕ) → n ≤ length acts → ((k : ℕ) → k < n → PartOf d (get_or acts k none) ps k) → load ps t n ≡ pos (sure d t (take n acts))
    unfolding load
    load_first zero h f = refl
    load_first (suc n) h f = rw (load_first n (omega arith) (λ k l. f k (omega arith)), used_is (get_or acts n none) n (f n (omega arith))) (ap pos (sym (one_more_lem n (omega arith))))

    -- all activities together
    pub load_is : (n : ℕ) → length acts ≡ n → ((k : ℕ) → k < n → PartOf d (get_or acts k none) ps k) → load ps t n ≡ pos (sure d t acts)
    load_is n e f = load_first n (omega arith) f ∙ ap (λ js. pos (sure d t js)) (take_all n acts (omega arith))
