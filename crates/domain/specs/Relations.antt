-- A relation and its number: what is said of numbers is said of relations by `code`.
use Rattle.std.specs.Prelude.{◌≡◌, refl, Bool, true, false, ℤ, pos}
use mathlib.Core.List.{List}
use Rattle.words.specs.Lists.{all}
use Rattle.std.proofs.Common.{ap, ◌∙◌}
use Rattle.std.proofs.Math.Path.{fun_ext}
use Rattle.std.proofs.lemmas.Bool.{false≢true, true≢false}
use denote.Enum.Bare.{sameb}
use Rattle.domain.specs.Box.{by_relation, stands, each_relation}
use Rattle.domain.specs.contracts.relation.Relation.{the_type}
use Rattle.domain.specs.declared.relation.Relation.{Relation}
use Rattle.domain.specs.declared.relation.Relation.TheVariants.{AtMost, AtLeast, Equal, Different}

abbrev pub code : Relation → ℤ
code AtMost = pos 1
code AtLeast = pos 2
code Equal = pos 3
code Different = pos 4

-- the relation that a number stands for
abbrev pub relation_of : ℤ → Relation
relation_of r = by_relation r AtMost AtLeast Equal Different

-- ---- whatever goes by a number goes by the relation that the number stands for
module _ (r : ℤ) {relation : Relation} (e : relation ≡ relation_of r) where
  pub by_code : {A : Type 0} (p q s t : A) → by_relation (code relation) p q s t ≡ by_relation r p q s t
  by_code p q s t = ap (λ (k : Relation). by_relation (code k) p q s t) e ∙ each_relation (λ r. by_relation (code (relation_of r)) p q s t ≡ by_relation r p q s t) r refl refl refl (λ e f g. rw (e, f, g))

  pub stands_code : (a v : ℤ) → stands (code relation) a v ≡ stands r a v
  stands_code a v = by_code _ _ _ _

  pub all_code : (a : ℤ) (vs : List ℤ) → all (stands (code relation) a) vs ≡ all (stands r a) vs
  all_code a vs = ap (λ (p : ℤ → Bool). all p vs) (fun_ext (stands_code a))

-- no two relations have one number
pub relation_code : (relation : Relation) → relation_of (code relation) ≡ relation
relation_code AtMost = refl
relation_code AtLeast = refl
relation_code Equal = refl
relation_code Different = refl

-- ---- what `==` of two relations tells
pub same_relation : (a b : Relation) → sameb the_type a b ≡ true → a ≡ b
same_relation AtMost AtMost e = refl
same_relation AtMost AtLeast e = absurd (false≢true e)
same_relation AtMost Equal e = absurd (false≢true e)
same_relation AtMost Different e = absurd (false≢true e)
same_relation AtLeast AtMost e = absurd (false≢true e)
same_relation AtLeast AtLeast e = refl
same_relation AtLeast Equal e = absurd (false≢true e)
same_relation AtLeast Different e = absurd (false≢true e)
same_relation Equal AtMost e = absurd (false≢true e)
same_relation Equal AtLeast e = absurd (false≢true e)
same_relation Equal Equal e = refl
same_relation Equal Different e = absurd (false≢true e)
same_relation Different AtMost e = absurd (false≢true e)
same_relation Different AtLeast e = absurd (false≢true e)
same_relation Different Equal e = absurd (false≢true e)
same_relation Different Different e = refl

-- what is none of the first three is the last
pub last_relation : (a : Relation) → sameb the_type a AtMost ≡ false → sameb the_type a AtLeast ≡ false → sameb the_type a Equal ≡ false → a ≡ Different
last_relation AtMost e f g = absurd (true≢false e)
last_relation AtLeast e f g = absurd (true≢false f)
last_relation Equal e f g = absurd (true≢false g)
last_relation Different e f g = refl
