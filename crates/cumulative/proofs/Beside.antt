-- An activity beside the sure parts of the others: what the table says of it is what document 01 speaks of.
use Rattle.std.specs.Prelude.{ℕ, ◌+◌, ◌<◌, ◌≡◌, List, ltb, ℤ, pos, ◌+ℤ◌, length, get_or}
use Rattle.std.proofs.Common.{◌∙◌, arith, ltb-true, lt-ltb}
use Rattle.std.specs.Int.Signed.{lt_z}
use Rattle.words.specs.ListFacts.{same_test}
use Rattle.meaning.specs.Model.{Activity}
use Rattle.meaning.specs.Rule.{surely, sure}
use Rattle.meaning.proofs.Proved.Positions.{others_of, sum_others}
use Rattle.sure_parts.specs.declared.Part.{Part}
use Rattle.sure_parts.specs.Parts.{PartOf, used_is, load_is}
use Rattle.cumulative.specs.Jumps.{bad}
use Rattle.cumulative.specs.Steps.{over}

in_naturals : (c : ℕ) (a b l : ℤ) (own u total : ℕ) → a ≡ pos own → b ≡ pos u → l ≡ pos total → lt_z (pos c +ℤ a) (b +ℤ l) ≡ ltb (c + own) (u + total)
in_naturals c a b l own u total p q r = rw (p, q, r)

module _ (d : ℕ → List ℤ) (ps : List Part) (t : ℤ) (none : Activity) (acts : List Activity) where
  pub over_is : (n c i : ℕ) → length acts ≡ n → i < n → ((k : ℕ) → k < n → PartOf d (get_or acts k none) ps k)
      → over ps n (pos c) i t ≡ bad d c (get_or acts i none) (others_of i acts) t
  over_is n c i e l f =
      let j = get_or acts i none in
      let total = sum_others (surely d t) acts i none (omega arith) in
      in_naturals c _ _ _ (surely d t j) j.usage (sure d t acts) (used_is d ps t j i (f i l)) (f i l).usage_is (load_is d ps t none acts n e f)
      ∙ same_test (ltb (c + surely d t j) (j.usage + sure d t acts)) (ltb c (j.usage + sure d t (others_of i acts)))
      (λ h. lt-ltb c (j.usage + sure d t (others_of i acts)) (omega (arith, ltb-true (c + surely d t j) (j.usage + sure d t acts) h)))
      (λ h. lt-ltb (c + surely d t j) (j.usage + sure d t acts) (omega (arith, ltb-true c (j.usage + sure d t (others_of i acts)) h)))
