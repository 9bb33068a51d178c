-- What is ordered and seen at a place is so at later ones.
use Rattle.std.proofs.Common.{◌≡◌, ℕ, nat_le, Bool, true, false, ◌&&◌, ◌==◌, List, [], ◌∷◌, inl, inr, arith, Option, Some, None}
use Rattle.std.specs.List.{list_any}
use Rattle.std.proofs.lemmas.Bool.{and_parts, and_from, or_cases, or_right, or_left}
use Rattle.vk_types.specs.declared.accesses.Accesses.{Accesses}
use Rattle.vk_types.specs.declared.stages.Stages.{Stages}
use Rattle.vk_types.specs.Stages.{meets}
use Rattle.vk_sync_rules.specs.declared.accesses.DoneAccess.{DoneAccess}
use Rattle.vk_sync_rules.specs.declared.accesses.Gain.{Gain}
use Rattle.vk_sync_rules.specs.declared.accesses.Maker.{Maker}
use Rattle.vk_sync_rules.specs.declared.places.Place.{Place}
use Rattle.vk_sync_rules.specs.AccessSets.{share}
use Rattle.vk_sync_rules.specs.DoneAccesses.{gives_order, in_scope, is_direct, is_ended, ordered, reaches, sees}
use Rattle.vk_sync_rules.specs.Places.{is_before, is_by}

-- what is ordered and seen at a place is so at later ones
by_later : (a b c : Place) → is_by a b ≡ true → is_before b c ≡ true → is_by a c ≡ true
by_later a b c h k = grind (arith, h, k)

gives_later : (q : ℕ) (stages : Stages) (p d : Place) (g : Gain) → is_before p d ≡ true → gives_order q stages p g ≡ true → gives_order q stages d g ≡ true
gives_later q stages p d g before h =
    let one = and_parts (g.queue == q) (meets g.stages stages && is_by g.place p) h in
    let two = and_parts (meets g.stages stages) (is_by g.place p) one.1 in
    and_from (g.queue == q) (meets g.stages stages && is_by g.place d) one.0
    (and_from (meets g.stages stages) (is_by g.place d) two.0 (by_later g.place p d two.1 before))

any_more : {A : Type 0} (f g : A → Bool) (xs : List A) → ((x : A) → f x ≡ true → g x ≡ true) → list_any f xs ≡ true → list_any g xs ≡ true
any_more f g [] h e = e
any_more f g (x ∷ xs) h e =
    elim (or_cases (f x) (list_any f xs) e) [
      | inl here ↦ or_left (g x) (list_any g xs) (h x here)
      | inr there ↦ or_right (g x) (list_any g xs) (any_more f g xs h there)
    ]

pub ordered_later : (q : ℕ) (stages : Stages) (p d : Place) (r : DoneAccess) → is_before p d ≡ true → ordered q stages p r ≡ true → ordered q stages d r ≡ true
ordered_later q stages p d r before h = any_more (gives_order q stages p) (gives_order q stages d) r.gains (λ g. gives_later q stages p d g before) h

pub sees_later : (q : ℕ) (stages : Stages) (accesses : Accesses) (p d : Place) (r : DoneAccess) → is_before p d ≡ true → sees q stages accesses p r ≡ true → sees q stages accesses d r ≡ true
sees_later q stages accesses p d r before h =
    any_more (λ g. gives_order q stages p g && (g.available && share g.accesses accesses)) (λ g. gives_order q stages d g && (g.available && share g.accesses accesses)) r.gains
    (λ g e. let parts = and_parts (gives_order q stages p g) (g.available && share g.accesses accesses) e in
    and_from (gives_order q stages d g) (g.available && share g.accesses accesses) (gives_later q stages p d g before parts.0) parts.1) h

pub reaches_later : (q : ℕ) (stages : Stages) (p d : Place) (r : DoneAccess) → is_before p d ≡ true → reaches q stages p r ≡ true → reaches q stages d r ≡ true
reaches_later q stages p d r before h =
    any_more (λ g. gives_order q stages p g && g.available) (λ g. gives_order q stages d g && g.available) r.gains
    (λ g e. let parts = and_parts (gives_order q stages p g) g.available e in
    and_from (gives_order q stages d g) g.available (gives_later q stages p d g before parts.0) parts.1) h

-- what is seen at a place is reached there
pub sees_reaches : (q : ℕ) (stages : Stages) (accesses : Accesses) (p : Place) (r : DoneAccess) → sees q stages accesses p r ≡ true → reaches q stages p r ≡ true
sees_reaches q stages accesses p r h =
    any_more (λ g. gives_order q stages p g && (g.available && share g.accesses accesses)) (λ g. gives_order q stages p g && g.available) r.gains
    (λ g e. let parts = and_parts (gives_order q stages p g) (g.available && share g.accesses accesses) e in
    and_from (gives_order q stages p g) g.available parts.0 (and_parts g.available (share g.accesses accesses) parts.1).0) h

-- made before a place
pub direct_of : (q : ℕ) (from : Stages) (p : Place) (r : DoneAccess) (m : Maker) → r.by ≡ Some m → ((m.queue == q) && (meets m.stage from && is_before m.place p)) ≡ true → is_direct q from p r ≡ true
direct_of q from p r m e h = rw e h

-- what is in the first scope of a barrier ends with the barrier's batch
direct_ends : (q : ℕ) (from : Stages) (p : Place) (o : Option Maker) → elim o [ None ↦ false | Some m ↦ (m.queue == q) && (meets m.stage from && is_before m.place p) ] ≡ true →
    elim o [ None ↦ false | Some m ↦ (m.queue == q) && nat_le m.place.number p.number ] ≡ true
direct_ends q from p None h = h
direct_ends q from p (Some m) h =
    let one = and_parts (m.queue == q) (meets m.stage from && is_before m.place p) h in
    let two = (and_parts (meets m.stage from) (is_before m.place p) one.1).1 in
    and_from (m.queue == q) (nat_le m.place.number p.number) one.0 (grind (arith, two))

ordered_ends : (q : ℕ) (from : Stages) (p : Place) (gs : List Gain) → list_any (gives_order q from p) gs ≡ true → list_any (λ g. (g.queue == q) && nat_le g.place.number p.number) gs ≡ true
ordered_ends q from p [] h = h
ordered_ends q from p (g ∷ gs) h = elim (or_cases (gives_order q from p g) (list_any (gives_order q from p) gs) h) [
  | inl here ↦
      let one = and_parts (g.queue == q) (meets g.stages from && is_by g.place p) here in
      let two = (and_parts (meets g.stages from) (is_by g.place p) one.1).1 in
      or_left ((g.queue == q) && nat_le g.place.number p.number) (list_any (λ g. (g.queue == q) && nat_le g.place.number p.number) gs) (and_from (g.queue == q) (nat_le g.place.number p.number) one.0 (grind (arith, two)))
  | inr there ↦ or_right ((g.queue == q) && nat_le g.place.number p.number) (list_any (λ g. (g.queue == q) && nat_le g.place.number p.number) gs) (ordered_ends q from p gs there)
]

pub scope_ends : (q : ℕ) (from : Stages) (p : Place) (r : DoneAccess) → in_scope q from p r ≡ true → is_ended q p.number r ≡ true
scope_ends q from p r h = elim (or_cases (is_direct q from p r) (ordered q from p r) h) [
  | inl direct ↦ or_left (elim r.by [ None ↦ false | Some m ↦ (m.queue == q) && nat_le m.place.number p.number ]) (list_any (λ g. (g.queue == q) && nat_le g.place.number p.number) r.gains) (direct_ends q from p r.by direct)
  | inr order ↦ or_right (elim r.by [ None ↦ false | Some m ↦ (m.queue == q) && nat_le m.place.number p.number ]) (list_any (λ g. (g.queue == q) && nat_le g.place.number p.number) r.gains) (ordered_ends q from p r.gains order)
]
