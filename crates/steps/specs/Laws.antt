-- What a step that was read well says of the words of the log: which step it is and where its parts stand, the fact that it makes, and where the next step begins.
use Rattle.std.specs.Prelude.{ℕ, zero, suc, ◌+◌, ◌*◌, ◌≤◌, ◌<◌, ◌≡◌, refl, List, ℤ, nat_abs, length, drop, Ok, Err}
use Rattle.std.proofs.Common.{sym, subst, arith, length-drop}
use Rattle.meaning.specs.Limits.{most_value, most_hints}
use Rattle.meaning.specs.Read.{got, refused}
use Rattle.meaning.specs.Log.{Fact, step}
use Rattle.meaning.specs.Check.{turn, makes}
use Rattle.meaning.proofs.Proved.Reading.{Fair, short, off}
use Rattle.meaning.proofs.Proved.ReadStep.{StepRead, reads_step, step_left, fewest_some}
use Rattle.reading.specs.At.{int_at, nat_at, Names, Between, Each}
use Rattle.reading.specs.Reading.{skim_refused}
use Rattle.reading.specs.Back.{ranged_size}
use Rattle.reading.specs.Reasons.{number_of}
use Rattle.reading.specs.Told.{Skims}
use Rattle.reading.specs.Over.{got_over}
use Rattle.reading.specs.declared.refusals.Refusal.{Refusal}
use Rattle.steps.specs.Facts.{fact_of, fact_next, made_start, made_place, FactIn, FactFrom, MadeFrom}
use Rattle.steps.specs.Told.{step_of, placed_kind, placed}
use Rattle.steps.specs.Back.{KindIn, StepIn, step_back}
use Rattle.steps.specs.declared.Step.{Step}
use Rattle.steps.specs.declared.Step.TheVariants as step

-- some step was read at p
pub record Stands (s : List ℤ) (p : ℕ) : Type 0 where
  pub variables : ℕ
  pub rows : ℕ
  pub facts : ℕ
  pub known : StepIn variables rows facts s p

-- the parts of some step of kind n were read at p
pub record KindStands (n : ℕ) (s : List ℤ) (p : ℕ) : Type 0 where
  pub variables : ℕ
  pub rows : ℕ
  pub facts : ℕ
  pub known : KindIn variables rows facts n s p

pub kind_stands : {s : List ℤ} {p n : ℕ} → Stands s p → nat_at s p ≡ n → KindStands n s (p + 1)
kind_stands {s} {p} h e = record { variables = h.variables; rows = h.rows; facts = h.facts; known = subst (λ n. KindIn h.variables h.rows h.facts n s (p + 1)) e h.known.rest }

-- the last of the four kinds
pub last_stands : (n : ℕ) {s : List ℤ} {p : ℕ} → (n ≡ 1 → ⊥) → (n ≡ 2 → ⊥) → (n ≡ 3 → ⊥) → KindStands n s p → KindStands 4 s p × (placed_kind n s p ≡ placed_kind 4 s p)
last_stands zero a b c h = absurd h.known
last_stands (suc zero) a b c h = absurd (a refl)
last_stands (suc (suc zero)) a b c h = absurd (b refl)
last_stands (suc (suc (suc zero))) a b c h = absurd (c refl)
last_stands (suc (suc (suc (suc n)))) a b c h = (record { variables = h.variables; rows = h.rows; facts = h.facts; known = h.known }, refl)

-- ---- the parts of a step: v variables, c rows and k facts can be named

-- q hints that begin at h
pub record HintsIn (k : ℕ) (s : List ℤ) (h q : ℕ) : Type 0 where
  pub few : q ≤ most_hints
  pub fits : h + q ≤ length s
  pub named : (i : ℕ) → i < q → Names k s (h + i)

abbrev pub PartsIn : ℕ → ℕ → ℕ → List ℤ → Step → Type 0
PartsIn v c k s (step.Inference r f) = (r.0 < c) × FactIn v s f
PartsIn v c k s (step.Deduction f h) = FactIn v s f × HintsIn k s h.from h.many
PartsIn v c k s (step.NoAssignment j) = j.0 < k
PartsIn v c k s (step.NeverBelow x a j) = (x.0 < v) × (nat_abs a ≤ most_value) × (j.0 < k)

hints_in : (k : ℕ) (s : List ℤ) (p : ℕ) → Between 0 most_hints s p → Each (Names k) 1 (nat_at s p) s (p + 1) → HintsIn k s (p + 1) (nat_at s p)
hints_in k s p b e =
    record {
      few = b.upto;
      fits = omega (arith, e.fits (omega (arith, b.inside)));
      named = λ i h. let q : p + 1 + i * 1 ≡ p + 1 + i = omega arith in subst (Names k s) q (e.each i h);
    }

parts_in : (v c k n : ℕ) (s : List ℤ) (p : ℕ) → KindIn v c k n s p → PartsIn v c k s (placed_kind n s p)
parts_in v c k zero s p h = absurd h
parts_in v c k (suc zero) s p h = (h.0.known, h.1.parts)
parts_in v c k (suc (suc zero)) s p h = (h.0.parts, hints_in k s (fact_next s p) h.1 h.2)
parts_in v c k (suc (suc (suc zero))) s p h = h.known
parts_in v c k (suc (suc (suc (suc n)))) s p h = (h.0.known, ranged_size most_value (omega arith) (int_at s (p + 1)) h.1.1, h.2.known)

-- ---- the fact that a step makes
made_by : {v : ℕ} {s : List ℤ} (p m : ℕ) → made_start s p ≡ m → nat_at s p ≤ 2 → Between 1 4 s p → FactFrom v s m → MadeFrom v s p
made_by p m q l b f = record { begins = record { kind = record { inside = b.inside; signless = b.signless; from = b.from; upto = l }; fact = rw q f.begins }; parts = rw q f.parts }

made_kind : (v c k n : ℕ) (s : List ℤ) (p : ℕ) {f : Fact} → nat_at s p ≡ n → Between 1 4 s p → KindIn v c k n s (p + 1) → turn (step_of s (placed_kind n s (p + 1))) ≡ makes f → MadeFrom v s p × (f ≡ fact_of s (made_place s p))
made_kind v c k zero s p q b h e = absurd h
made_kind v c k (suc zero) s p q b h e = let t : p + 2 ≡ p + 1 + 1 = omega arith in (made_by p (p + 1 + 1) (rw q t) (omega arith) b h.1, rw (q, t) (cc))
made_kind v c k (suc (suc zero)) s p q b h e = (made_by p (p + 1) (rw q) (omega arith) b h.0, rw q (cc))
made_kind v c k (suc (suc (suc zero))) s p q b h e = let z : ◌≡◌ {A = ℕ} 0 1 = cc in absurd (omega arith)
made_kind v c k (suc (suc (suc (suc n)))) s p q b h e = let z : ◌≡◌ {A = ℕ} 0 1 = cc in absurd (omega arith)

-- ---- the step that the answer says was read over
pub record Stepped (v c k : ℕ) (s : List ℤ) (p n : ℕ) : Type 0 where
  pub is : step v c k p (drop p s) ≡ got (step_of s (placed s p)) n (drop n s)
  pub stands : Stands s p
  pub parts : PartsIn v c k s (placed s p)
  pub made : {f : Fact} → turn (step_of s (placed s p)) ≡ makes f → MadeFrom v s p × (f ≡ fact_of s (made_place s p))
  pub onward : p < n
  pub fits : n ≤ length s

pub record Unread (v c k : ℕ) (s : List ℤ) (p num q : ℕ) : Type 0 where
  pub is : step v c k p (drop p s) ≡ refused num q
  pub inside : p ≤ length s → q ≤ length s

refused_by : (v c k : ℕ) (s : List ℤ) (p : ℕ) {num q : ℕ} → Fair 11 (λ num. num ≡ 12) (StepRead v c k) p (drop p s) (refused num q) → p ≤ length s → q ≤ length s
refused_by v c k s p (short h) l = omega (arith, length-drop p s)
refused_by v c k s p (off w lo hi) l = omega (arith, length-drop p s)

module _ {v c k : ℕ} {s : List ℤ} {p : ℕ} where
  pub stepped : {n : ℕ} → Skims (step v c k) s p (Ok n) → Stepped v c k s p n
  stepped h =
      let q = got_over h (step_back v c k) in
      let b = (step_back v c k).back s p q in
      let l = step_left v c k p (drop p s) q in
      let d = b.known in
      record {
        is = q;
        stands = record { variables = v; rows = c; facts = k; known = d };
        parts = parts_in v c k (nat_at s p) s (p + 1) d.rest;
        made = made_kind v c k (nat_at s p) s p refl d.kind d.rest;
        onward = omega (arith, l.moves, fewest_some (step_of s (placed s p)));
        fits = b.fits (omega (arith, d.kind.inside));
      }

  pub unread : {e : Refusal} → Skims (step v c k) s p (Err e) → Unread v c k s p (number_of e.reason) e.position
  unread h =
      let r = skim_refused (step v c k p (drop p s)) (sym h.told) in
      record { is = r; inside = refused_by v c k s p (subst (Fair 11 (λ num. num ≡ 12) (StepRead v c k) p (drop p s)) r (reads_step v c k p (drop p s))) }
