-- Words for lists that every other crate uses: some, every, those that, their sum; and sets of whole numbers as rising lists.
use Rattle.std.specs.Prelude.{ℕ, zero, suc, ◌+◌, Bool, true, false, ◌&&◌, ◌||◌, List, [], ◌∷◌, ℤ, pos, ◌+ℤ◌}

abbrev pub any : {A : Type 0} → (A → Bool) → List A → Bool
any p [] = false
any p (x ∷ xs) = p x || any p xs

abbrev pub all : {A : Type 0} → (A → Bool) → List A → Bool
all p [] = true
all p (x ∷ xs) = p x && all p xs

-- `same` is the test of equality
abbrev pub member : {A : Type 0} → (A → A → Bool) → A → List A → Bool
member same x = any (same x)

abbrev pub keep_if : {A : Type 0} → Bool → A → List A → List A
keep_if true x xs = x ∷ xs
keep_if false x xs = xs

-- those that pass the test
abbrev pub keep : {A : Type 0} → (A → Bool) → List A → List A
keep p [] = []
keep p (x ∷ xs) = keep_if (p x) x (keep p xs)

abbrev pub sum_of : {A : Type 0} → (A → ℕ) → List A → ℕ
sum_of f [] = 0
sum_of f (x ∷ xs) = f x + sum_of f xs

-- every member is P
pub data All {A : Type 0} (P : A → Type 0) : List A → Type 0 where
  empty : All P []
  also : {x : A} {xs : List A} → P x → All P xs → All P (x ∷ xs)

-- ---- whole numbers

-- n of them from v on
abbrev pub span : ℤ → ℕ → List ℤ
span v zero = []
span v (suc n) = v ∷ span (v +ℤ pos 1) n

abbrev pub is_empty : List ℤ → Bool
is_empty [] = true
is_empty (v ∷ vs) = false

-- of a rising list, 0 where it is empty
abbrev pub least : List ℤ → ℤ
least [] = pos 0
least (v ∷ vs) = v

abbrev pub largest : List ℤ → ℤ
largest [] = pos 0
largest (v ∷ []) = v
largest (v ∷ (w ∷ vs)) = largest (w ∷ vs)
