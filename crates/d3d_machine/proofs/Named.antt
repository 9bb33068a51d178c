-- A call that may come names objects of the world.
use Rattle.std.proofs.Common.{ℕ, zero, suc, ◌≡◌, ◌&&◌, refl, Bool, true, false, List, [], ◌∷◌, slice_get, Some, None}
use Rattle.std.specs.List.{list_all}
use Rattle.d3d_machine.specs.declared.world.World.{World}
use Rattle.d3d_machine.specs.declared.calls.Call.{Call}
use Rattle.d3d_machine.specs.World.{is_named, are_named, IsWorld}
use Rattle.d3d_machine.specs.State.{Desk, next_call, place_of}

pub and_left : (a b : Bool) → (a && b) ≡ true → a ≡ true
and_left true b h = refl
and_left false b h = h

pub and_right : (a b : Bool) → (a && b) ≡ true → b ≡ true
and_right true b h = h
and_right false b h = cc

-- what all items pass, the item at a place passes
pub all_at : {A : Type 0} (p : A → Bool) (xs : List A) (i : ℕ) (x : A) → list_all p xs ≡ true → slice_get xs i ≡ Some x → p x ≡ true
all_at p [] i x h e = cc
all_at p (y ∷ xs) zero x h e = let same : x ≡ y = cc in rw same (and_left (p y) (list_all p xs) h)
all_at p (y ∷ xs) (suc i) x h e = all_at p xs i x (and_right (p y) (list_all p xs) h) e

pub all_in_scripts : (p : Call → Bool) (scripts : List (List Call)) (u i : ℕ) (c : Call) → list_all (λ script. list_all p script) scripts ≡ true →
    slice_get (elim (slice_get scripts u) [ None ↦ [] | Some cs ↦ cs ]) i ≡ Some c → p c ≡ true
all_in_scripts p [] u i c h e = cc
all_in_scripts p (x ∷ xs) zero i c h e = all_at p x i c (and_left (list_all p x) (list_all (λ script. list_all p script) xs) h) e
all_in_scripts p (x ∷ xs) (suc u) i c h e = all_in_scripts p xs u i c (and_right (list_all p x) (list_all (λ script. list_all p script) xs) h) e

-- a thread's next call names objects of the world, where all calls do
pub next_named : (w : World) (d : Desk) (t : ℕ) (c : Call) → are_named w ≡ true → next_call w d t ≡ Some c → is_named w c ≡ true
next_named w d t c named e = all_in_scripts (is_named w) w.scripts t (place_of d t).made c named e

pub next_is_named : (w : World) (d : Desk) (t : ℕ) (c : Call) → IsWorld w → next_call w d t ≡ Some c → is_named w c ≡ true
next_is_named w d t c world e = next_named w d t c world.named e
