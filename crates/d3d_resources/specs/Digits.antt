-- The binary digits of a number.
use Rattle.std.specs.Prelude.{ℕ, ◌<◌, ◌≤◌, ◌^◌, length}
use Rattle.std.specs.Int.Digits.{digits_of}

-- how many binary digits a number has, without leading zeros: 0 has none
unfoldable pub binary_digits : ℕ → ℕ
binary_digits number = length (digits_of 2 number)

-- what that means: the least exponent of a power of two above the number
pub record IsDigits (number digits : ℕ) : Type 0 where
  pub above : number < 2 ^ digits
  pub least : (k : ℕ) → number < 2 ^ k → digits ≤ k
