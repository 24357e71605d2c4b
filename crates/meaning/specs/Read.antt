-- Reading a table word by word. A reader is handed the position and the words from there on; it gives a value with what is left, or a refusal's number with its position.
use Rattle.std.specs.Prelude.{ℕ, zero, suc, pred, Bool, true, false, ◌&&◌, List, [], ◌∷◌, ℤ, pos, negsuc, nat_abs}
use Rattle.std.specs.Int.Signed.{le_z}

pub data Got (A : Type 0) : Type 0 where
  got : A → ℕ → List ℤ → Got A
  refused : ℕ → ℕ → Got A

abbrev pub Reader : Type 0 → Type 0
Reader A = ℕ → List ℤ → Got A

abbrev pub bind_got : {A B : Type 0} → Got A → (A → Reader B) → Got B
bind_got (got a at ws) f = f a at ws
bind_got (refused num at) f = refused num at

infixl 20 ◌>>=◌
abbrev pub ◌>>=◌ : {A B : Type 0} → Reader A → (A → Reader B) → Reader B
◌>>=◌ r f at ws = bind_got (r at ws) f

abbrev pub give : {A : Type 0} → A → Reader A
give a at ws = got a at ws

abbrev pub refuse : {A : Type 0} → ℕ → Reader A
refuse num at ws = refused num at

-- minus n, for n from 1 on
abbrev pub neg : ℕ → ℤ
neg n = negsuc (pred n)

abbrev pub within : ℤ → ℤ → ℤ → Bool
within lo hi w = le_z lo w && le_z w hi

-- the next word: that it is missing is found before its range is looked at. `early` where there is none, `outside` where it is not in lo..hi
abbrev pub word : ℕ → ℕ → ℤ → ℤ → Reader ℤ
word early outside lo hi at [] = refused early at
word early outside lo hi at (w ∷ ws) = elim (within lo hi w) [ true ↦ got w (suc at) ws | false ↦ refused outside at ]

-- the same where the range has no negative number
abbrev pub count : ℕ → ℕ → ℕ → ℕ → Reader ℕ
count early outside lo hi = do
  w ← word early outside (pos lo) (pos hi)
  give (nat_abs w)

-- a number below n: with n = 0 no word is in range, and so each is refused as outside
abbrev pub below : ℕ → ℕ → ℕ → Reader ℕ
below early outside zero = do
  w ← word early outside (pos 1) (pos 0)
  give 0
below early outside (suc n) = count early outside 0 n

-- n in turn: the first word that is missing or bad decides, whatever a count before it announced
abbrev pub times : {A : Type 0} → ℕ → Reader A → Reader (List A)
times zero r = give []
times (suc n) r = do
  a ← r
  rest ← times n r
  give (a ∷ rest)
