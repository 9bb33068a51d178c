-- The parts of an effect: what a change keeps, and what a refusal leaves.
use Rattle.std.proofs.Common.{◌≡◌, refl, List, length, Option, Some, None}
use Rattle.dx_base.proofs.Lists.{length_changed}
use Rattle.dx_base.specs.declared.hresult.Hresult.{Hresult}
use Rattle.dx_base.specs.Effects.{At, changed_by, unless}

-- a change of one object keeps how many there are
pub length_by : {A B : Type 0} (f : B → A → A) (o : Option (At B)) (xs : List A) → length (changed_by f o xs) ≡ length xs
length_by f None xs = refl
length_by f (Some x) xs = length_changed (f x.what) xs x.place

-- a refused call does no part
pub unless_refused : {A : Type 0} (o : Option A) (e : Hresult) → unless o (Some e) ≡ None
unless_refused None e = refl
unless_refused (Some x) e = refl

-- what is done is not refused
pub unless_some : {A : Type 0} (o : Option A) (r : Option Hresult) (x : A) → unless o r ≡ Some x → o ≡ Some x
unless_some None r x h = absurd (cc)
unless_some (Some y) None x h = h
unless_some (Some y) (Some e) x h = absurd (cc)
