-- What the quick pass says, and how it is put together: where it is sure, the reader goes over the words and on from the end that it names.
use Rattle.std.specs.Prelude.{ℕ, zero, suc, ◌+◌, ◌≤◌, ◌<◌, ◌≡◌, refl, ◌*◌, Bool, true, false, List, ℤ, pos, nat_abs, length, get_or, drop, Ok, Option, None, Some, IfSome}
use Rattle.std.proofs.Common.{sym, ap, subst, ◌∙◌, arith}
use Rattle.std.proofs.Math.Option.{some}
use Rattle.std.proofs.lemmas.Bool.{MatchBool-at_true}
use Rattle.std.proofs.lemmas.List.FromFn.{length-range_with_len, get_or-range_with_len}
use Rattle.std.specs.Bool.{MatchBool}
use Rattle.std.specs.List.{AllWithin, range_with_len}
use Rattle.std.specs.Int.Signed.{le_z}
use Rattle.words.specs.Int.{zz, le_z_f, abs_is, one_side}
use Rattle.words.specs.ListFacts.{clash, le_of, of_le}
use Rattle.meaning.specs.Limits.{most_value, most_premises, most_hints}
use Rattle.meaning.specs.Read.{Reader, ◌>>=◌, neg, within, word, count, below, times}
use Rattle.meaning.specs.Log.{number, number_below, atom, consequent_of, fact, step_of_kind, step}
use Rattle.reading.specs.At.{int_at, nat_at, Names, Between}
use Rattle.reading.specs.Reading.{skim, word_in, times_more}
use Rattle.reading.specs.Back.{between_orders}
use Rattle.reading.specs.Kinds.{step_kind, is_inference, is_deduction}
use Rattle.reading.specs.declared.kinds.StepKind.{StepKind}
use Rattle.reading.specs.declared.kinds.StepKind.TheVariants as kind
use Rattle.reading.specs.Told.{Skims}
use Rattle.reading.specs.Over.{goes_any, gives, counts}

-- r goes over the words at a position, and on from e
abbrev pub Passes : {A : Type 0} → Reader A → List ℤ → ℕ → ℕ → Type 0
Passes r s at e = Skims r s at (Ok e)

-- where there is no end, nothing is said
pub record Ends {A : Type 0} (r : Reader A) (s : List ℤ) (at : ℕ) (e : Option ℕ) : Type 0 where
  pub over : IfSome e (Passes r s at)

-- nor where a test fails
pub record Well {A : Type 0} (r : Reader A) (s : List ℤ) (at e : ℕ) (b : Bool) : Type 0 where
  pub over : b ≡ true → Passes r s at e

-- the number x stands at a position, and is at most hi
pub record Numbered (hi : ℕ) (s : List ℤ) (at x : ℕ) : Type 0 where
  pub between : Between 0 hi s at
  pub is : x ≡ nat_at s at

-- a number of at most hi, and what it announces
pub record Announced {A : Type 0} (hi : ℕ) (g : ℕ → Reader A) (s : List ℤ) (at e : ℕ) : Type 0 where
  pub between : Between 0 hi s at
  pub rest : Passes (g (nat_at s at)) s (at + 1) e

pub record Counted {A : Type 0} (hi : ℕ) (g : ℕ → Reader A) (s : List ℤ) (at : ℕ) (e : Option ℕ) : Type 0 where
  pub over : IfSome e (Announced hi g s at)

-- a number of at most hi, and so many things, each k words long, that are P together
pub record Runs (hi k : ℕ) (P : ℕ → ℕ → Type 0) (s : List ℤ) (at e : ℕ) : Type 0 where
  pub between : Between 0 hi s at
  pub ends : e ≡ at + 1 + nat_at s at * k
  pub run : (nat_at s at ≡ 0 → ⊥) → P (at + 1) (nat_at s at)

-- what stands before the fact of a step of a kind, and what behind it
abbrev pub Starts : ℕ → StepKind → List ℤ → ℕ → Option ℕ → Type 0
Starts c kind.Inference s at e = Ends (number_below c) s at e
Starts c kind.Deduction s at e = e ≡ Some at
Starts c kind.NoAssignment s at e = e ≡ None
Starts c kind.NeverBelow s at e = e ≡ None

abbrev pub Follows : ℕ → StepKind → List ℤ → ℕ → Option ℕ → Type 0
Follows k kind.Inference s at e = e ≡ Some at
Follows k kind.Deduction s at e = Counted most_hints (λ h. times h (number_below k)) s at e
Follows k kind.NoAssignment s at e = Counted most_hints (λ h. times h (number_below k)) s at e
Follows k kind.NeverBelow s at e = Counted most_hints (λ h. times h (number_below k)) s at e

-- ---- where it is not sure
pub no_end : {A : Type 0} (r : Reader A) (s : List ℤ) (at : ℕ) → Ends r s at None
no_end r s at = record { over = tt }

pub unwell : {A : Type 0} (r : Reader A) (s : List ℤ) (at e : ℕ) → Well r s at e false
unwell r s at e = record { over = λ h. clash h refl }

-- ---- one word
pub names_by : {n : ℕ} {s : List ℤ} {at : ℕ} (m w : ℤ) → at < length s → m ≡ pos n → w ≡ int_at s at → le_z m w ≡ false → le_z (pos 0) w ≡ true → Names n s at
names_by {n} {s} {at} m w l p q a b =
    let v = int_at s at in
    let g = le_of (pos 0) v (rw q at b) in
    record { inside = l; signless = g; known = omega (arith, zz, le_z_f (pos n) v (rw (p, q) at a), g, abs_is v, one_side v) }

pub word_over : (early outside : ℕ) (lo hi : ℤ) {s : List ℤ} {at : ℕ} → at < length s → within lo hi (get_or s at (pos 0)) ≡ true → Passes (word early outside lo hi) s at (at + 1)
word_over early outside lo hi {s} {at} l e = record { told = sym (ap skim (word_in early outside lo hi s at l e)) }

pub number_over : (early outside lo hi : ℕ) {s : List ℤ} {at : ℕ} → at < length s → within (pos lo) (pos hi) (get_or s at (pos 0)) ≡ true → Passes (count early outside lo hi) s at (at + 1)
number_over early outside lo hi l e = gives nat_abs (word_over early outside (pos lo) (pos hi) l e)

both : (lo hi w : ℤ) → le_z lo w ≡ true → le_z w hi ≡ true → within lo hi w ≡ true
both lo hi w a b = rw (a, b)

count_over : (early outside lo hi : ℕ) {s : List ℤ} {at : ℕ} → Between lo hi s at → Passes (count early outside lo hi) s at (at + 1)
count_over early outside lo hi {s} {at} b = let o = between_orders b in number_over early outside lo hi b.inside (both (pos lo) (pos hi) (int_at s at) (of_le o.0) (of_le o.1))

pub below_over : (early outside n : ℕ) {s : List ℤ} {at : ℕ} → Names n s at → Passes (below early outside n) s at (at + 1)
below_over early outside zero h = absurd (omega (arith, h.known))
below_over early outside (suc n) h = count_over early outside 0 n (record { inside = h.inside; signless = h.signless; from = omega arith; upto = omega (arith, h.known) })

-- ---- an atom
pub atom_over : (v : ℕ) {s : List ℤ} {p : ℕ} → p + 3 ≤ length s → Names v s p → within (pos 1) (pos 4) (int_at s (p + 1)) ≡ true → within (neg most_value) (pos most_value) (int_at s (p + 2)) ≡ true → Passes (atom v) s p (p + 3)
atom_over v {s} {p} l x r a =
    let two : p + 2 ≡ p + 1 + 1 = omega arith in
    let three : p + 3 ≡ p + 1 + 1 + 1 = omega arith in
    rw three
    (goes_any (below_over 11 12 v x) _ (λ x. goes_any (number_over 11 12 1 4 (omega arith) r) _ (λ r. gives _ (word_over 11 12 (neg most_value) (pos most_value) (omega arith) (rw two at a)))))

-- ---- several in turn, each k words long
pub times_over : {A : Type 0} (r : Reader A) (k n : ℕ) {s : List ℤ} {at : ℕ} → ((i : ℕ) → i < n → Passes r s (at + i * k) (at + i * k + k)) → Passes (times n r) s at (at + n * k)
times_over r k zero {s} {at} h = let e : at + 0 * k ≡ at = omega arith in record { told = rw e refl }
times_over r k (suc n) {s} {at} h =
    let e : at + 0 * k ≡ at = omega arith in
    let q : at + suc n * k ≡ at + k + n * k = omega arith in
    let one : Passes r s at (at + k) = rw e at (h 0 (omega arith)) in
    let rest = times_over r k n {at = at + k} (λ i l. let z : at + k + i * k ≡ at + suc i * k = omega arith in rw z (h (suc i) (omega arith))) in
    rw q (record { told = rest.told ∙ sym (times_more r n at (drop at s) (sym one.told)) })

-- what holds of each number below n, where the test of all of them is true
pub each_below : (P : ℕ → Type 0) (Q : Type 0) (n : ℕ) {b : Bool} → MatchBool b (AllWithin P (range_with_len 0 n) 0 (length (range_with_len 0 n))) Q → b ≡ true → (i : ℕ) → i < n → P i
each_below P Q n m e i l =
    let z : i < length (range_with_len 0 n) = rw (length-range_with_len 0 n) l in
    let q : get_or (range_with_len 0 n) i 0 ≡ i = get_or-range_with_len 0 n i 0 l ∙ omega arith in
    subst P q (MatchBool-at_true _ Q e m i 0 (omega arith) z)

-- ---- what a number announces
pub none_counted : {A : Type 0} (hi : ℕ) (g : ℕ → Reader A) (s : List ℤ) (at : ℕ) → Counted hi g s at None
none_counted hi g s at = record { over = tt }

pub counted : {A : Type 0} (hi : ℕ) (g : ℕ → Reader A) {s : List ℤ} {at x e : ℕ} → Numbered hi s at x → Passes (g x) s (at + 1) e → Counted hi g s at (Some e)
counted hi g n p = record { over = record { between = n.between; rest = rw (← n.is) p } }

pub announces : {A B : Type 0} {hi : ℕ} {g : ℕ → Reader A} {s : List ℤ} {at e : ℕ} → Announced hi g s at e → (f : A → Reader B) {m : ℕ} → ((a : A) → Passes (f a) s e m) → Passes (number 0 hi >>= λ n. g n >>= f) s at m
announces {hi} {g} a f k = counts 11 12 0 hi (count_over 11 12 0 hi a.between) refl _ (goes_any a.rest f k)

-- so many things in turn
pub counted_times : {A : Type 0} (r : Reader A) (hi k : ℕ) {P : ℕ → ℕ → Type 0} {s : List ℤ} {at : ℕ} (e : Option ℕ) → IfSome e (Runs hi k P s at) → ((p n : ℕ) → P p n → Passes (times n r) s p (p + n * k)) → Counted hi (λ n. times n r) s at e
counted_times r hi k None h f = record { over = tt }
counted_times r hi k {P} {s} {at} (Some e) h f = record { over = record { between = h.between; rest = rw h.ends (by_number (nat_at s at) refl) } }
  where
    by_number : (n : ℕ) → nat_at s at ≡ n → Passes (times (nat_at s at) r) s (at + 1) (at + 1 + nat_at s at * k)
    by_number zero q = let z : at + 1 + 0 * k ≡ at + 1 = omega arith in rw (q, z) (record { told = refl })
    by_number (suc n) q = f (at + 1) (nat_at s at) (h.run (λ z. absurd (omega (arith, q, z))))

pub consequent_over : (v n : ℕ) {s : List ℤ} {at e : ℕ} → (n ≡ 0 → ⊥) → n ≤ 1 → Passes (atom v) s at e → Passes (consequent_of v n) s at e
consequent_over v zero z l p = absurd (z refl)
consequent_over v (suc zero) z l p = gives some p
consequent_over v (suc (suc n)) z l p = absurd (omega arith)

-- ---- a fact, and a step of kind 1 or 2
pub fact_over : (v : ℕ) {s : List ℤ} {at m e : ℕ} → Announced most_premises (λ n. times n (atom v)) s at m → Announced 1 (consequent_of v) s m e → Passes (fact v) s at e
fact_over v p q = announces p _ (λ ps. announces q _ (λ c. record { told = refl }))

pub fact_ends : (v : ℕ) {s : List ℤ} {at m : ℕ} (e : Option ℕ) → Counted most_premises (λ n. times n (atom v)) s at (Some m) → Counted 1 (consequent_of v) s m e → Ends (fact v) s at e
fact_ends v None p q = record { over = tt }
fact_ends v (Some e) p q = record { over = fact_over v p.over q.over }

pub inference_ends : (v c : ℕ) {s : List ℤ} {at m : ℕ} (e : Option ℕ) → Ends (number_below c) s at (Some m) → Ends (fact v) s m e → Ends (step_of_kind v c 0 1) s at e
inference_ends v c None p q = record { over = tt }
inference_ends v c (Some e) p q = record { over = goes_any p.over _ (λ r. gives _ q.over) }

pub deduction_ends : (v k : ℕ) {s : List ℤ} {at m : ℕ} (e : Option ℕ) → Ends (fact v) s at (Some m) → Counted most_hints (λ h. times h (number_below k)) s m e → Ends (step_of_kind v 0 k 2) s at e
deduction_ends v k None p q = record { over = tt }
deduction_ends v k (Some e) p q = record { over = goes_any p.over _ (λ f. announces q.over _ (λ hs. record { told = refl })) }

step_ends : (v c k : ℕ) {s : List ℤ} {at n : ℕ} (e : Option ℕ) → Numbered 4 s at n → 1 ≤ n → Ends (step_of_kind v c k n) s (at + 1) e → Ends (step v c k) s at e
step_ends v c k None i l p = record { over = tt }
step_ends v c k (Some e) i l p =
    let t = i.between in
    record { over = counts 11 12 1 4 (count_over 11 12 1 4 (record { inside = t.inside; signless = t.signless; from = omega (arith, i.is); upto = t.upto })) i.is _ p.over }

pub step_over : (v c k : ℕ) (x : StepKind) {s : List ℤ} {at n f m : ℕ} (e : Option ℕ) → Numbered 4 s at n → step_kind n ≡ x → Starts c x s (at + 1) (Some f) → Ends (fact v) s f (Some m) → Follows k x s m e → Ends (step v c k) s at e
step_over v c k kind.Inference {s} {n = n} {f} e i x p q r = let z = is_inference n x in step_ends v c k e i (omega (arith, z)) (rw z (inference_ends v c e p (subst (Ends (fact v) s f) (sym r) q)))
step_over v c k kind.Deduction {s} {at} {n} {f} {m} e i x p q r = let z = is_deduction n x in let y : f ≡ at + 1 = cc in step_ends v c k e i (omega (arith, z)) (rw z (deduction_ends v k e (subst (λ a. Ends (fact v) s a (Some m)) y q) r))
step_over v c k kind.NoAssignment e i x p q r = let z : ◌≡◌ {A = ℕ} 0 1 = cc in absurd (omega arith)
step_over v c k kind.NeverBelow e i x p q r = let z : ◌≡◌ {A = ℕ} 0 1 = cc in absurd (omega arith)
