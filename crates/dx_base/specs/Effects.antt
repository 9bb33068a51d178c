-- The parts of an effect: each is for the object of one place, or there is none.
use Rattle.std.specs.Prelude.{ℕ, List, Option, Some, None}
use Rattle.dx_base.specs.Lists.{changed_at}
use Rattle.dx_base.specs.declared.hresult.Hresult.{Hresult}

-- something for the object of a place
pub record At (B : Type 0) : Type 0 where
  pub place : ℕ
  pub what : B

abbrev pub at : {B : Type 0} → ℕ → B → Option (At B)
at k x = Some (record { place = k; what = x })

-- the objects after a change of the one that it is for
abbrev pub changed_by : {A B : Type 0} → (B → A → A) → Option (At B) → List A → List A
changed_by f None xs = xs
changed_by f (Some x) xs = changed_at (f x.what) x.place xs

-- a part of an effect, unless the call is refused
abbrev pub unless : {A : Type 0} → Option A → Option Hresult → Option A
unless None r = None
unless (Some x) None = Some x
unless (Some x) (Some e) = None
