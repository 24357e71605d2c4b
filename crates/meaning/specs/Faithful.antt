-- Where a definition is a test, or finite, for computing's sake: document 01's words over whole numbers, times and sets, and the laws that the definition says the same.
use Rattle.std.specs.Prelude.{ℕ, suc, ◌+◌, ◌<◌, ◌≡◌, Bool, true, false, ◌↔◌, ◌⊎◌, length, get_or, take, drop, ℤ, pos, ◌+ℤ◌, ◌*ℤ◌, ◌≤ℤ◌, ◌<ℤ◌}
use mathlib.Core.List.{List, [], ◌∷◌, ◌++◌, Memᴰ as In}
use Rattle.std.proofs.Math.Option.{none, some}
use Rattle.words.specs.Lists.{All, keep, is_empty, least, largest}
use Rattle.words.specs.ListFacts.{Rising}
use Rattle.meaning.specs.Read.{got}
use Rattle.meaning.specs.Model.{Bounds, Term, Activity, Row, linear, all_different, cumulative, circuit, Model, read_model, row_words}
use Rattle.meaning.specs.Log.{Relation, at_most, at_least, equal, not_equal, Atom, Fact}
use Rattle.meaning.specs.Box.{left, box_of, any_empty}
use Rattle.meaning.specs.Rule.{least_sum, occurs, once, union, crowded, sure, overloaded, squeezed, trapped, conflicts}
use Rattle.meaning.specs.Judge.{row_at, premises_hold, says_false, says_at_least}
use Rattle.meaning.specs.Check.{changes, fits_old}
use Rattle.meaning.specs.Meets.{Between, bounds_at}
use Rattle.meaning.specs.Ranges.{row_table}

-- ---- the values left

-- what an atom says of its variable's value v
abbrev pub Stands : Relation → ℤ → ℤ → Type 0
Stands at_most v a = v ≤ℤ a
Stands at_least v a = a ≤ℤ v
Stands equal v a = v ≡ a
Stands not_equal v a = v ≡ a → ⊥

-- v as a value of x meets the atom: an atom on another variable says nothing of it
abbrev pub Obeys : ℕ → ℤ → Atom → Type 0
Obeys x v c = x ≡ c.variable → Stands c.relation v c.value

-- v as a value of x meets all premises and the negated consequent
abbrev pub InBox : Fact → ℕ → ℤ → Type 0
InBox f x v = All (Obeys x v) f.premises × ((c : Atom) → f.consequent ≡ some c → x ≡ c.variable → Stands c.relation v c.value → ⊥)

abbrev pub LeastOf : (ℤ → Type 0) → ℤ → Type 0
LeastOf P n = P n × ((v : ℤ) → P v → n ≤ℤ v)

abbrev pub LargestOf : (ℤ → Type 0) → ℤ → Type 0
LargestOf P n = P n × ((v : ℤ) → P v → v ≤ℤ n)

-- of the bounds of a good model
pub record BoxSays (bs : List Bounds) : Type 0 where
  -- exactly the whole numbers within the declared bounds that meet every atom of the box
  pub left_is : (box : List Atom) (x : ℕ) → x < length bs → (v : ℤ) → In v (left bs box x) ↔ (Between (bounds_at bs x) v × All (Obeys x v) box)
  -- and so for the box of a fact
  pub box_is : (f : Fact) (x : ℕ) → x < length bs → (v : ℤ) → In v (left bs (box_of f) x) ↔ (Between (bounds_at bs x) v × InBox f x v)
  pub rises : (box : List Atom) (x : ℕ) → Rising (left bs box x)
  -- the least and the largest of the values left, where there are any
  pub least_is : (box : List Atom) (x : ℕ) {v : ℤ} → In v (left bs box x) → LeastOf (λ w. In w (left bs box x)) (least (left bs box x))
  pub largest_is : (box : List Atom) (x : ℕ) {v : ℤ} → In v (left bs box x) → LargestOf (λ w. In w (left bs box x)) (largest (left bs box x))
  -- refusal 20: some variable has no value left
  pub empty_is : (box : List Atom) → (any_empty bs box (length bs) ≡ true) ↔ ((x : ℕ) × (x < length bs) × ((v : ℤ) → In v (left bs box x) → ⊥))
  -- a hint's premises hold for every value left
  pub hold_is : (box ps : List Atom) → (premises_hold bs box ps ≡ true) ↔ ((p : Atom) → In p ps → (v : ℤ) → In v (left bs box p.variable) → Stands p.relation v p.value)
  -- a hint's consequent narrows its own variable's set alone: where some set becomes empty it is that one
  pub narrowed_is : (c : Atom) (box : List Atom) (x : ℕ) (v : ℤ) → In v (left bs (c ∷ box) x) ↔ (In v (left bs box x) × Obeys x v c)
  pub emptied_is : (c : Atom) (box : List Atom) → c.variable < length bs → any_empty bs box (length bs) ≡ false → any_empty bs (c ∷ box) (length bs) ≡ is_empty (left bs (c ∷ box) c.variable)

-- ---- when a row conflicts with a box; d x is the set of the values left to x

-- the sum may come to this: each term takes a value left to its variable, and where a variable repeats each term takes its own
pub data Sums (d : ℕ → List ℤ) : List Term → ℤ → Type 0 where
  no_term : Sums d [] (pos 0)
  one_term : {t : Term} {ts : List Term} {v s : ℤ} → In v (d t.variable) → Sums d ts s → Sums d (t ∷ ts) ((t.coefficient *ℤ v) +ℤ s)

-- in a premise or the consequent
abbrev pub Occurs : Fact → ℕ → Type 0
Occurs f x = (a : Atom) × (In a f.premises ⊎ (f.consequent ≡ some a)) × (x ≡ a.variable)

-- the union of the sets of these variables, each value once
pub record Union (d : ℕ → List ℤ) (xs : List ℕ) (us : List ℤ) : Type 0 where
  pub none_twice : (i j : ℕ) → i < j → j < length us → get_or us i (pos 0) ≡ get_or us j (pos 0) → ⊥
  pub members : (v : ℤ) → In v us ↔ ((x : ℕ) × In x xs × In v (d x))

-- t stands from p up to, not including, q
abbrev pub Lies : ℤ → ℤ → ℤ → Type 0
Lies p q t = (p ≤ℤ t) × (t <ℤ q)

-- activity j surely runs at t
abbrev pub RunsSurely : (ℕ → List ℤ) → ℤ → Activity → Type 0
RunsSurely d t j = Lies (largest (d j.start)) (least (d j.start) +ℤ pos j.duration) t

-- the sure usages at t come to this: of each activity its usage where it surely runs then, and nothing where it does not
pub data Uses (d : ℕ → List ℤ) (t : ℤ) : List Activity → ℕ → Type 0 where
  no_activity_lem : Uses d t [] 0
  runs : {j : Activity} {js : List Activity} {n : ℕ} → RunsSurely d t j → Uses d t js n → Uses d t (j ∷ js) (j.usage + n)
  rests : {j : Activity} {js : List Activity} {n : ℕ} → (RunsSurely d t j → ⊥) → Uses d t js n → Uses d t (j ∷ js) n

-- at some whole time whatever the sure usages exceed the capacity c
abbrev pub Overload : (ℕ → List ℤ) → ℕ → List Activity → Type 0
Overload d c acts = (t : ℤ) × (c < sure d t acts)

-- the activity at a position, those at all other positions; what stands for a position that there is not is never looked at
abbrev pub no_activity : Activity
no_activity = record { start = 0; duration = 0; usage = 0 }

abbrev pub activity_in : List Activity → ℕ → Activity
activity_in acts p = get_or acts p no_activity

abbrev pub all_but : ℕ → List Activity → List Activity
all_but p acts = take p acts ++ drop (suc p) acts

-- every start left of the activity at p covers a whole time at which its usage and the sure usages of the others exceed c
abbrev pub SqueezedAt : (ℕ → List ℤ) → ℕ → List Activity → ℕ → Type 0
SqueezedAt d c acts p =
    (s : ℤ) → In s (d (activity_in acts p).start)
    → (t : ℤ) × Lies s (s +ℤ pos (activity_in acts p).duration) t × (c < (activity_in acts p).usage + sure d t (all_but p acts))

abbrev pub Squeeze : (ℕ → List ℤ) → ℕ → List Activity → Type 0
Squeeze d c acts = (p : ℕ) × (p < length acts) × SqueezedAt d c acts p

-- the value names a position of the set S, or none of the n positions
pub data Stays (n : ℕ) (S : ℕ → Bool) : ℤ → Type 0 where
  in_set : {v : ℤ} (i : ℕ) → v ≡ pos i → S i ≡ true → Stays n S v
  below_all : {v : ℤ} → v <ℤ pos 0 → Stays n S v
  above_all : {v : ℤ} → pos n ≤ℤ v → Stays n S v

-- a set of positions whatever, neither empty nor all, such that every value left at its members stays
pub record Closed (d : ℕ → List ℤ) (xs : List ℕ) (S : ℕ → Bool) : Type 0 where
  pub not_empty : (i : ℕ) × (i < length xs) × (S i ≡ true)
  pub not_all : (i : ℕ) × (i < length xs) × (S i ≡ false)
  pub stays : (i : ℕ) → i < length xs → S i ≡ true → (v : ℤ) → In v (d (get_or xs i 0)) → Stays (length xs) S v

-- a row conflicts, in document 01's words
abbrev pub Conflicts : Fact → (ℕ → List ℤ) → Row → Type 0
Conflicts f d (linear b ts) = (s : ℤ) × LeastOf (Sums d ts) s × (b <ℤ s)
Conflicts f d (all_different xs) = (us : List ℤ) × Union d (keep (occurs f) xs) us × (length us < length (keep (occurs f) xs))
Conflicts f d (cumulative c acts) = Overload d c acts ⊎ Squeeze d c acts
Conflicts f d (circuit xs) = (S : ℕ → Bool) × Closed d xs S

-- of sets as rising lists
pub record RuleSays (d : ℕ → List ℤ) : Type 0 where
  -- the least sum is the least that the sum may come to, where each of its variables has a value left
  pub least_sum_is : (ts : List Term) → All (λ t. is_empty (d t.variable) ≡ false) ts → LeastOf (Sums d ts) (least_sum d ts)
  pub occurs_is : (f : Fact) (x : ℕ) → (occurs f x ≡ true) ↔ Occurs f x
  -- the union counts each value once, whatever list it is written as
  pub union_is : (xs : List ℕ) → Union d xs (once (union d xs))
  pub crowded_is : (xs : List ℕ) (us : List ℤ) → Union d xs us → (crowded d xs ≡ true) ↔ (length us < length xs)
  pub sure_is : (t : ℤ) (acts : List Activity) → Uses d t acts (sure d t acts)
  pub overloaded_is : (c : ℕ) (acts : List Activity) → (overloaded d c acts ≡ true) ↔ Overload d c acts
  pub squeezed_is : (c : ℕ) (acts : List Activity) → (squeezed d c [] acts ≡ true) ↔ Squeeze d c acts
  pub trapped_is : (xs : List ℕ) → (trapped d xs ≡ true) ↔ ((S : ℕ → Bool) × Closed d xs S)

-- ---- the conclusions: refusal 24
pub record ConclusionSays : Type 0 where
  pub says_false_lem : (f : Fact) → (says_false f ≡ true) ↔ ((f.premises ≡ []) × (f.consequent ≡ none))
  pub says_at_least_lem : (x : ℕ) (v : ℤ) (f : Fact)
      → (says_at_least x v f ≡ true) ↔ ((f.premises ≡ []) × ((w : ℤ) × (f.consequent ≡ some (record { variable = x; relation = at_least; value = w })) × (v ≤ℤ w)))

-- ---- the recheck: when the old model lends itself, and which rows are changed
pub record RecheckSays : Type 0 where
  -- what is compared are a row's words in the table, all of them
  pub compared_is : (r : Row) → row_words r ≡ row_table r
  pub fits_is : (o n : Model) → (fits_old o n ≡ true) ↔ ((o.bounds ≡ n.bounds) × (length o.rows ≡ length n.rows))
  pub changed_is : (o n : Model) (r : ℕ) → r < length o.rows → r < length n.rows → (get_or (changes o.rows n.rows) r false ≡ true) ↔ (row_table (row_at o r) ≡ row_table (row_at n r) → ⊥)

pub record Faithful : Type 0 where
  pub box : (model : List ℤ) {m : Model} {at : ℕ} {rest : List ℤ} → read_model 0 model ≡ got m at rest → BoxSays m.bounds
  pub rule : (d : ℕ → List ℤ) → ((x : ℕ) → Rising (d x)) → RuleSays d
  -- a row of a good model, and a box none of whose sets is empty
  pub conflict : (model : List ℤ) {m : Model} {at : ℕ} {rest : List ℤ} → read_model 0 model ≡ got m at rest
      → (f : Fact) (box : List Atom) → any_empty m.bounds box (length m.bounds) ≡ false → (r : ℕ) → r < length m.rows
      → (conflicts f (left m.bounds box) (row_at m r) ≡ true) ↔ Conflicts f (left m.bounds box) (row_at m r)
  pub conclusion : ConclusionSays
  pub recheck : RecheckSays
