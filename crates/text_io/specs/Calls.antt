-- What contracts see of the calls of a source or a sink in memory.
use Rattle.std.specs.Prelude.{ℕ, ◌+◌, ◌-◌, ◌^◌, ◌==◌, nat_lt, Bool, if◌then◌else◌, List}
use Rattle.std.specs.List.{list_any}

-- the calls so far
pub record Calls : Type 0 where
  -- the numbers of the calls that fail, counted from 1
  pub fails : List ℕ
  -- how many calls were made, which stops at the last number of its type
  pub made : ℕ
  -- how many faults came, which stops there too
  pub faults : ℕ

-- no call was made
abbrev pub no_calls : List ℕ → Calls
no_calls fails = record { fails = fails; made = 0; faults = 0 }

-- the next call is one that fails
abbrev pub fails_next : Calls → Bool
fails_next c = list_any (λ k. k == c.made + 1) c.fails

-- one more, but for the last number of the type
abbrev pub one_more : ℕ → ℕ
one_more n = if nat_lt n (2 ^ 64 - 1) then n + 1 else n

-- after a call that did not fail
abbrev pub after_success : Calls → Calls
after_success c = record c { made = one_more c.made }

-- after a call that failed
abbrev pub after_fault : Calls → Calls
after_fault c = record c { made = one_more c.made; faults = one_more c.faults }
