-- The updates of a fence, looked up.
use Rattle.std.proofs.Common.{ℕ, zero, suc, ◌≡◌, refl, ap, arith, List, [], ◌∷◌, map, Some, None}
use Rattle.std.specs.List.{slice_get}
use Rattle.dx_base.specs.Roomy.{Roomy}
use Rattle.std.proofs.Common.{◌<◌, ◌≤◌, ◌+◌, ◌++◌, ◌∙◌, sym, subst, length, take, set, get_or, Option, Bool, true, false, inl, inr}
use Rattle.std.proofs.lemmas.Bool.{cases_lt}
use Rattle.vk_port.proofs.Lists.{get_of_take}
use Rattle.std.proofs.lemmas.List.{length-map, length-take}
use Rattle.std.proofs.lemmas.Option.{slice_get_within, slice_get_read}
use Rattle.std.specs.Prelude.{◌==◌, if◌then◌else◌}
use Rattle.dx_base.specs.Lists.{changed_at}
use Rattle.dx_base.proofs.Lists.{changed_past}
use Rattle.sys_core.specs.declared.parts.Signalled.{Signalled}
use Rattle.d3d_machine.specs.Past.{updates_at}
use Rattle.sys_core.specs.declared.parts.Held.{Held}
use Rattle.sys_core.specs.Parts.{queued, updates_in, first_signal, with_number, HasRoomAt, HasRoomFor, HasRoomForEach, KeepsRoom}

pub updates_of_none : (fences : List (Roomy ℕ)) (f : ℕ) → slice_get fences f ≡ None → updates_at (map updates_in fences) f ≡ []
updates_of_none [] f is = refl
updates_of_none (x ∷ xs) zero is = absurd (cc)
updates_of_none (x ∷ xs) (suc f) is = updates_of_none xs f is

pub updates_of_some : (fences : List (Roomy ℕ)) (f : ℕ) (r : Roomy ℕ) → slice_get fences f ≡ Some r → updates_at (map updates_in fences) f ≡ r.items
updates_of_some [] f r is = absurd (cc)
updates_of_some (x ∷ xs) zero r is = ap updates_in (let e : x ≡ r = grind arith in e)
updates_of_some (x ∷ xs) (suc f) r is = updates_of_some xs f r is

set_room : (fences : List (Roomy ℕ)) (f : ℕ) (y r : Roomy ℕ) → 1 ≤ y.spare → slice_get (set fences f y) f ≡ Some r → 1 ≤ r.spare
set_room [] f y r some is = absurd (cc)
set_room (x ∷ xs) zero y r some is = let e : y ≡ r = grind arith in subst (λ (z : Roomy ℕ). 1 ≤ z.spare) e some
set_room (x ∷ xs) (suc f) y r some is = set_room xs f y r some is

-- room that was made in a fence
pub room_made : (fences : List (Roomy ℕ)) (f : ℕ) (y : Roomy ℕ) → 1 ≤ y.spare → HasRoomAt (set fences f y) f
room_made fences f y some = record { room = λ r is. set_room fences f y r some is }

-- and the room of all fences stays
set_keeps : (fences : List (Roomy ℕ)) (f : ℕ) (y : Roomy ℕ) (i : ℕ) (r : Roomy ℕ) → 1 ≤ y.spare → ((x : Roomy ℕ) → slice_get fences i ≡ Some x → 1 ≤ x.spare) →
    slice_get (set fences f y) i ≡ Some r → 1 ≤ r.spare
set_keeps [] f y i r some had is = absurd (cc)
set_keeps (x ∷ xs) zero y zero r some had is = let e : y ≡ r = grind arith in subst (λ (z : Roomy ℕ). 1 ≤ z.spare) e some
set_keeps (x ∷ xs) zero y (suc i) r some had is = had r is
set_keeps (x ∷ xs) (suc f) y zero r some had is = had r is
set_keeps (x ∷ xs) (suc f) y (suc i) r some had is = set_keeps xs f y i r some had is

pub room_kept : (fences : List (Roomy ℕ)) (f : ℕ) (y : Roomy ℕ) → 1 ≤ y.spare → KeepsRoom fences (set fences f y)
room_kept fences f y some = record { each = λ i had. record { room = λ r is. set_keeps fences f y i r some had.room is } }

pub room_same : (fences : List (Roomy ℕ)) → KeepsRoom fences fences
room_same fences = record { each = λ i had. had }

-- a fence that is not there
pub room_past : (fences : List (Roomy ℕ)) (f : ℕ) → length fences ≤ f → HasRoomAt fences f
room_past fences f past = record { room = λ r is. absurd (omega (arith, slice_get_within fences f r is)) }

-- the item that was lent
pub room_lent : (fences : List (Roomy ℕ)) (f : ℕ) (x : Roomy ℕ) → f < length fences → x ≡ get_or fences f x → HasRoomAt fences f → 1 ≤ x.spare
room_lent fences f x within lent room = room.room x (slice_get_read fences (length fences) f x refl within lent)

-- an update of a fence that is not there changes nothing
pub updated_past : (fences : List (Roomy ℕ)) (f v : ℕ) → length fences ≤ f → map updates_in fences ≡ changed_at (λ us. us ++ v ∷ []) f (map updates_in fences)
updated_past fences f v past = sym (changed_past (λ us. us ++ v ∷ []) (map updates_in fences) f (omega (arith, length-map fences updates_in)))

-- room for a signal is room for it where its number is asked for
pub room_numbered : (n : ℕ) (o : Option Signalled) (fences : List (Roomy ℕ)) → HasRoomFor o fences → HasRoomFor (with_number n o) fences
room_numbered n None fences room = room
room_numbered n (Some s) fences room = by_test (s.number == n)
  where
    by_test : (b : Bool) → HasRoomFor (if b then Some s else None) fences
    by_test true = room
    by_test false = tt

-- room for a signal stays
kept_for : (o : Option Signalled) (old new : List (Roomy ℕ)) → KeepsRoom old new → HasRoomFor o old → HasRoomFor o new
kept_for None old new keeps room = tt
kept_for (Some s) old new keeps room = keeps.each s.fence.0 room

-- no queue needs room
pub room_none : (fences : List (Roomy ℕ)) → HasRoomForEach [] fences
room_none fences = record { each = λ q x is. absurd (cc) }

-- one queue more has its room
pub room_more : (held : List Held) (old new : List (Roomy ℕ)) (i : ℕ) (y : Held) → slice_get held i ≡ Some y → HasRoomForEach (take i held) old → KeepsRoom old new →
    HasRoomFor (first_signal (queued y)) new → HasRoomForEach (take (i + 1) held) new
room_more held old new i y at before keeps room = record {
  each = λ q x is.
      let less : q < i + 1 = omega (arith, slice_get_within (take (i + 1) held) q x is, length-take (i + 1) held) in
      let there : slice_get held q ≡ Some x = sym (get_of_take (i + 1) held q less) ∙ is in
      elim (cases_lt q i) [
        | inl earlier ↦ kept_for (first_signal (queued x)) old new keeps (before.each q x (get_of_take i held q earlier ∙ there))
        | inr past ↦
            let same : i ≡ q = omega (arith, past, less) in
            let one : y ≡ x = let e : Some y ≡ Some x = sym at ∙ ap (slice_get held) same ∙ there in grind arith in
            subst (λ (z : Held). HasRoomFor (first_signal (queued z)) new) one room
      ];
}
