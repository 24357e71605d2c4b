-- Nothing else satisfies the contracts: `range_mask` and `taken_mask` say which bits their answer has, `zeros` says what its answer is: `only_equal` of `words`.
use Rattle.std.specs.Prelude.{ℕ, ◌≡◌, Bool, ℤ}
use Rattle.windows.specs.Window.{Window, window_one}

pub only_mask : {p : ℤ → Bool} {base : ℤ} {a b : ℕ} → Window p base a → Window p base b → a ≡ b
only_mask v w = window_one v w
