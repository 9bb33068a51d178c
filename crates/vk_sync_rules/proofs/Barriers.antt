-- Each access is behind each done barrier, along a run.
use Rattle.std.specs.Prelude.{slice_get}
use Rattle.std.proofs.Common.{◌≡◌, ℕ, ◌<◌, ◌==◌, ◌∙◌, Bool, true, false, not, ◌&&◌, ◌||◌, cond, ◌⊎◌, inl, inr, List, [], ◌∷◌, ◌++◌, map, refl, sym, ap, subst, arith, true≢false, Option, Some, None, eq-eqb}
use Rattle.std.specs.List.{list_any, flat_map}
use Rattle.std.proofs.lemmas.Bool.{and_parts, and_from, or_cases, or_right, or_left, or_from, cases_Bool, eqb-true, false≢true, false_from_ne_true}
use Rattle.vk_types.specs.declared.accesses.Accesses.{Accesses}
use Rattle.vk_types.specs.declared.batches.Batch.{Batch}
use Rattle.vk_types.specs.declared.commands.VkCommand.{VkCommand}
use Rattle.vk_types.specs.declared.commands.VkCommand.TheVariants.{Barrier, Copy, CopyImage, CopyIn, CopyOut, Clear, Dispatch}
use Rattle.vk_types.specs.declared.layouts.Change.{Change}
use Rattle.vk_types.specs.declared.stages.Stages.{Stages}
use Rattle.vk_types.specs.Stages.{meets, whole}
use Rattle.std.specs.Int.Bits.{and_zero_l}
use Rattle.vk_types.specs.declared.steps.VkStep.{VkStep}
use Rattle.vk_types.specs.declared.steps.VkStep.TheVariants.{Submit, Pass, Command, Bump, HostWrite, HostRead, Update}
use Rattle.vk_sync_rules.proofs.Soundness.{same_item, same_place, done_cases, still_in, enabled_command, enabled_pass, sound_step}
use Rattle.vk_sync_rules.specs.AccessSets.{is_some_access, share}
use Rattle.vk_sync_rules.specs.Barriers.{AreBehind, IsBehind, IsHonest}
use Rattle.vk_sync_rules.specs.Commands.{lacks_sub, passes_end, pieces, subs_of}
use Rattle.vk_sync_rules.specs.DoneAccesses.{across, after_bump, after_pass, after_submit, avail, gain, gain_where, gives_order, in_scope, is_direct, is_ended, is_made_available, ordered, reaches, sees}
use Rattle.vk_sync_rules.specs.EnabledSteps.{is_enabled}
use Rattle.vk_sync_rules.specs.NextState.{after_run, change_made, changes_made, host_access, host_made, host_passes_end, kept_by, made_at, maker_of, moved}
use Rattle.vk_sync_rules.specs.Orders.{orders, sort_of}
use Rattle.vk_sync_rules.specs.Pieces.{Piece, made_by, one_made}
use Rattle.vk_sync_rules.specs.Places.{is_at, is_before, is_by}
use Rattle.vk_sync_rules.specs.Rules.{after_step, after_steps}
use Rattle.vk_sync_rules.specs.Runs.{Fits, Runs}
use Rattle.vk_sync_rules.specs.Soundness.{IsSound}
use Rattle.vk_sync_rules.specs.VkState.{VkState, command_at, counts_of, is_done}
use Rattle.vk_sync_rules.specs.declared.accesses.DoneAccess.{DoneAccess}
use Rattle.vk_sync_rules.specs.declared.accesses.Gain.{Gain}
use Rattle.vk_sync_rules.specs.declared.places.Place.{Place}
use Rattle.vk_sync_rules.specs.declared.ranges.WordRange.{WordRange}
use Rattle.vk_sync_rules.specs.declared.rules.VkRule.{VkRule}
use Rattle.dx_base.specs.Each.{Each}
use Rattle.dx_base.proofs.Each.{each_map, each_append, each_new, each_from}
use Rattle.vk_sync_rules.specs.Numbers.{Numbers}
use Rattle.vk_types.specs.declared.plan.DevicePlan.{DevicePlan}
use Rattle.vk_sync_rules.specs.Makers.{IsOfPiece}

-- places
by_cases : (a b : Place) → is_by a b ≡ true → (is_before a b ≡ true) ⊎ (is_at a b ≡ true)
by_cases a b h = elim (cases_Bool (is_before a b)) [ inl is ↦ inl is | inr not_is ↦ inr (grind (arith, h, not_is)) ]

pub by_self : (a : Place) → is_by a a ≡ true
by_self a = grind (arith)

same_queue : (q : ℕ) → (q == q) ≡ true
same_queue q = eq-eqb q q refl

-- where there is order, and a write was available
reaches_order : (q : ℕ) (stages : Stages) (p : Place) (gs : List Gain) → list_any (λ g. gives_order q stages p g && g.available) gs ≡ true → list_any (gives_order q stages p) gs ≡ true
reaches_order q stages p [] h = h
reaches_order q stages p (g ∷ gs) h =
    elim (or_cases (gives_order q stages p g && g.available) (list_any (λ g. gives_order q stages p g && g.available) gs) h) [
      | inl here ↦ or_left (gives_order q stages p g) (list_any (gives_order q stages p) gs) (and_parts (gives_order q stages p g) g.available here).0
      | inr there ↦ or_right (gives_order q stages p g) (list_any (gives_order q stages p) gs) (reaches_order q stages p gs there)
    ]

-- honest accesses
honest_gain : (g : Gain) (r : DoneAccess) → (g.available ≡ true → r.available ≡ true) → IsHonest r → IsHonest (gain g r)
honest_gain g r new is = record {
  available = λ q stages p h. elim (or_cases (gives_order q stages p g && g.available) (reaches q stages p r) h) [
    | inl here ↦ new (and_parts (gives_order q stages p g) g.available here).1
    | inr there ↦ is.available q stages p there
  ];
}

honest_where : (t : Bool) (q : ℕ) (p : Place) (to : Stages) (seen : Accesses) (r : DoneAccess) → IsHonest r → IsHonest (gain_where t q p to seen r)
honest_where true q p to seen r is = honest_gain (record { queue = q; place = p; stages = to; accesses = seen; available = r.writes && r.available }) r (λ h. (and_parts r.writes r.available h).1) is
honest_where false q p to seen r is = is

honest_avail : (t : Bool) (r : DoneAccess) → IsHonest r → IsHonest (avail t r)
honest_avail t r is = record { available = λ q stages p h. or_left r.available (t && r.writes) (is.available q stages p h) }

honest_bump : (t : Bool) (q n : ℕ) (sets : List (ℕ × ℕ)) (r : DoneAccess) → is_ended q n r ≡ t → IsHonest r → IsHonest (after_bump q n sets r)
honest_bump true q n sets r e is = rw e (record { available = λ q stages p h. or_left r.available r.writes (is.available q stages p h) })
honest_bump false q n sets r e is = rw e is

honest_command : (q : ℕ) (p : Place) (c : VkCommand) (r : DoneAccess) → IsHonest r → IsHonest (kept_by q p c r)
honest_command q p (Barrier from made to seen change) r is = honest_where (in_scope q from p r) q p to seen _ (honest_avail (is_made_available q p from made r) r is)
honest_command q p (Copy to to_first from from_first words) r is = is
honest_command q p (CopyImage to to_sub to_layout from from_sub from_layout) r is = is
honest_command q p (CopyIn image sub layout buffer first pitch) r is = is
honest_command q p (CopyOut buffer first pitch image sub layout) r is = is
honest_command q p (Clear target word) r is = is
honest_command q p (Dispatch routine count t0 t1 u0 b0) r is = is

-- an access that a command makes anew by a piece
abbrev pub fresh_access : ℕ → Place → VkCommand → WordRange → Bool → Accesses → DoneAccess
fresh_access q p c range writes access = record { range = range; writes = writes; access = access; by = Some (maker_of q p c); gains = []; signals = []; available = false }

new_one : (P : DoneAccess → Type 0) (q : ℕ) (p : Place) (c : VkCommand) (range : WordRange) (writes : Bool) (access : Accesses) →
    (is_some_access access ≡ true → P (fresh_access q p c range writes access)) → Each P (one_made (maker_of q p c) range writes access)
new_one P q p c range writes access h = by_test (not (range.count == 0) && is_some_access access) refl where
  by_test : (t : Bool) → (not (range.count == 0) && is_some_access access) ≡ t → Each P (cond t (fresh_access q p c range writes access ∷ []) [])
  by_test true e = (h (and_parts (not (range.count == 0)) (is_some_access access) e).1, tt)
  by_test false e = tt

-- an item with its place in a list
abbrev pub IsIn : {A : Type 0} → List A → A → Type 0
IsIn xs x = (i : ℕ) × (slice_get xs i ≡ Some x)

each_in : {A : Type 0} (xs : List A) → Each (IsIn xs) xs
each_in xs = each_from (IsIn xs) xs (λ i x e. (i, e))

each_flat_of : {A B : Type 0} (Q : A → Type 0) (P : B → Type 0) (f : A → List B) → ((x : A) → Q x → Each P (f x)) → (xs : List A) → Each Q xs → Each P (flat_map f xs)
each_flat_of Q P f h [] all = tt
each_flat_of Q P f h (x ∷ xs) all = each_append P (f x) (flat_map f xs) (h x all.0) (each_flat_of Q P f h xs all.1)

new_pieces : (P : DoneAccess → Type 0) (q : ℕ) (p : Place) (c : VkCommand) (ps : List Piece) →
    ((range : WordRange) (writes : Bool) (access : Accesses) → IsOfPiece ps (fresh_access q p c range writes access) → P (fresh_access q p c range writes access)) →
    Each P (flat_map (made_by (maker_of q p c)) ps)
new_pieces P q p c ps h =
    each_flat_of (IsIn ps) P (made_by (maker_of q p c)) (λ x at. each_append P (one_made (maker_of q p c) x.range false x.reads) (one_made (maker_of q p c) x.range true x.writes)
    (new_one P q p c x.range false x.reads (λ some. h x.range false x.reads (record { place = at.0; piece = x; there = at.1; range = refl; access = refl; some = some })))
    (new_one P q p c x.range true x.writes (λ some. h x.range true x.writes (record { place = at.0; piece = x; there = at.1; range = refl; access = refl; some = some })))) ps (each_in ps)

-- what the change of a barrier makes anew
new_changes : (P : DoneAccess → Type 0) (v : VkState) (q : ℕ) (p : Place) (c : VkCommand) →
    ((from : Stages) (made : Accesses) (to : Stages) (seen : Accesses) (change : Change) → c ≡ Barrier from made to seen (Some change) → (s : ℕ) → IsIn (subs_of v.plan change) s → P (change_made v q p to seen change.image s)) →
    Each P (changes_made v q p c)
new_changes P v q p (Barrier from made to seen None) changed = tt
new_changes P v q p (Barrier from made to seen (Some change)) changed =
    each_map (IsIn (subs_of v.plan change)) P (change_made v q p to seen change.image) (changed from made to seen change refl) (subs_of v.plan change) (each_in (subs_of v.plan change))
new_changes P v q p (Copy to to_first from from_first words) changed = tt
new_changes P v q p (CopyImage to to_sub to_layout from from_sub from_layout) changed = tt
new_changes P v q p (CopyIn image sub layout buffer first pitch) changed = tt
new_changes P v q p (CopyOut buffer first pitch image sub layout) changed = tt
new_changes P v q p (Clear target word) changed = tt
new_changes P v q p (Dispatch routine count t0 t1 u0 b0) changed = tt

-- a barrier touches nothing by pieces
barrier_cases : (plan : DevicePlan) (loaded : List ℕ) (c : VkCommand) → ((sort_of c).is_barrier ≡ false) ⊎ (pieces plan loaded c ≡ [])
barrier_cases plan loaded (Barrier from made to seen change) = inr refl
barrier_cases plan loaded (Copy to to_first from from_first words) = inl refl
barrier_cases plan loaded (CopyImage to to_sub to_layout from from_sub from_layout) = inl refl
barrier_cases plan loaded (CopyIn image sub layout buffer first pitch) = inl refl
barrier_cases plan loaded (CopyOut buffer first pitch image sub layout) = inl refl
barrier_cases plan loaded (Clear target word) = inl refl
barrier_cases plan loaded (Dispatch routine count t0 t1 u0 b0) = inl refl

-- a property of what a command that is no barrier makes anew of one of its pieces
abbrev pub OfPieces : (DoneAccess → Type 0) → VkState → ℕ → Place → List ℕ → VkCommand → Type 0
OfPieces P v q p loaded c =
    (sort_of c).is_barrier ≡ false → (range : WordRange) (writes : Bool) (access : Accesses) → IsOfPiece (pieces v.plan loaded c) (fresh_access q p c range writes access) → P (fresh_access q p c range writes access)

pieces_made : (P : DoneAccess → Type 0) (v : VkState) (q : ℕ) (p : Place) (loaded : List ℕ) (c : VkCommand) → OfPieces P v q p loaded c → Each P (flat_map (made_by (maker_of q p c)) (pieces v.plan loaded c))
pieces_made P v q p loaded c plain = elim (barrier_cases v.plan loaded c) [
  | inl work ↦ new_pieces P q p c (pieces v.plan loaded c) (plain work)
  | inr none ↦ subst (λ (ps : List Piece). Each P (flat_map (made_by (maker_of q p c)) ps)) (sym none) tt
]

-- what a command makes anew: accesses of its pieces, where it is no barrier, and layout changes, where it is one
pub new_made : (P : DoneAccess → Type 0) (v : VkState) (q : ℕ) (p : Place) (loaded : List ℕ) (c : VkCommand) → OfPieces P v q p loaded c →
    ((from : Stages) (made : Accesses) (to : Stages) (seen : Accesses) (change : Change) → c ≡ Barrier from made to seen (Some change) → (s : ℕ) → IsIn (subs_of v.plan change) s → P (change_made v q p to seen change.image s)) →
    Each P (made_at v q p loaded c)
new_made P v q p loaded c plain changed = by_end (passes_end v.plan loaded c) where
  by_end : (t : Bool) → Each P (cond t [] (changes_made v q p c ++ flat_map (made_by (maker_of q p c)) (pieces v.plan loaded c)))
  by_end true = tt
  by_end false = each_append P (changes_made v q p c) (flat_map (made_by (maker_of q p c)) (pieces v.plan loaded c)) (new_changes P v q p c changed) (pieces_made P v q p loaded c plain)

-- what the host makes anew
pub new_host : (P : DoneAccess → Type 0) (v : VkState) (writes : Bool) (buffer first count : ℕ) → P (host_access writes buffer first count) → Each P (host_made v writes buffer first count)
new_host P v writes buffer first count h = by_end (host_passes_end v buffer first count || (count == 0)) where
  by_end : (t : Bool) → Each P (cond t [] (host_access writes buffer first count ∷ []))
  by_end true = tt
  by_end false = (h, tt)

module _ (q : ℕ) (p : Place) (from : Stages) (made : Accesses) (to : Stages) (seen : Accesses) where
  abbrev B : DoneAccess → Type 0
  B = IsBehind q p from made to seen

  -- a gain that is not there yet for the barrier
  behind_gain : (g : Gain) (r : DoneAccess) → gives_order q from p g ≡ false → B r → B (gain g r)
  behind_gain g r none is = record {
    order = λ stages h m.
        or_right (gives_order q stages p g) (ordered q stages p r)
        (is.order stages (subst (λ t. (is_direct q from p r || (t || ordered q from p r)) ≡ true) none h) m);
    reach = λ stages w h m.
        or_right (gives_order q stages p g && g.available) (reaches q stages p r)
        (is.reach stages w (subst (λ t. ((is_made_available q p from made r) || ((t && g.available) || reaches q from p r)) ≡ true) none h) m);
    sight = λ stages accesses w h m a.
        or_right (gives_order q stages p g && (g.available && share g.accesses accesses)) (sees q stages accesses p r)
        (is.sight stages accesses w (subst (λ t. ((is_made_available q p from made r) || ((t && g.available) || reaches q from p r)) ≡ true) none h) m a);
  }

  behind_where : (t : Bool) (q2 : ℕ) (p2 : Place) (to2 : Stages) (seen2 : Accesses) (r : DoneAccess) → ((q2 == q) && (meets to2 from && is_by p2 p)) ≡ false → B r → B (gain_where t q2 p2 to2 seen2 r)
  behind_where true q2 p2 to2 seen2 r none is = behind_gain (record { queue = q2; place = p2; stages = to2; accesses = seen2; available = r.writes && r.available }) r none is
  behind_where false q2 p2 to2 seen2 r none is = is

  behind_avail : (t : Bool) (r : DoneAccess) → B r → B (avail t r)
  behind_avail t r is = record { order = is.order; reach = is.reach; sight = is.sight }

  behind_bump : (t : Bool) (q2 n : ℕ) (sets : List (ℕ × ℕ)) (r : DoneAccess) → is_ended q2 n r ≡ t → B r → B (after_bump q2 n sets r)
  behind_bump true q2 n sets r e is = rw e (record { order = is.order; reach = is.reach; sight = is.sight })
  behind_bump false q2 n sets r e is = rw e is

  -- an access that nothing is ordered after and that is not made before the barrier
  behind_none : (r : DoneAccess) → in_scope q from p r ≡ false → B r
  behind_none r none = record {
    order = λ stages h m. absurd (true≢false (sym h ∙ none));
    reach = λ stages w h m. absurd (true≢false (sym (scope h) ∙ none));
    sight = λ stages accesses w h m a. absurd (true≢false (sym (scope h) ∙ none));
  } where
    scope : (is_made_available q p from made r || reaches q from p r) ≡ true → in_scope q from p r ≡ true
    scope h = elim (or_cases (is_made_available q p from made r) (reaches q from p r) h) [
      | inl direct ↦ or_left (is_direct q from p r) (ordered q from p r) (and_parts (is_direct q from p r) (share made r.access) direct).0
      | inr reach ↦ or_right (is_direct q from p r) (ordered q from p r) (reaches_order q from p r.gains reach)
    ]

  gives : (stages : Stages) → meets to stages ≡ true → ((q == q) && (meets to stages && is_by p p)) ≡ true
  gives stages m = and_from (q == q) (meets to stages && is_by p p) (same_queue q) (and_from (meets to stages) (is_by p p) m (by_self p))

  -- the barrier itself gains the scope
  behind_gained : (g : Gain) (r : DoneAccess) → g.queue ≡ q → g.place ≡ p → g.stages ≡ to → g.accesses ≡ seen →
      (r.writes ≡ true → ((is_direct q from p (gain g r) && share made r.access) || reaches q from p (gain g r)) ≡ true → g.available ≡ true) → B (gain g r)
  behind_gained g r same_q same_p same_to same_seen new = record {
    order = λ stages h m. or_left (gives_order q stages p g) (ordered q stages p r) (here stages m);
    reach = λ stages w h m.
        or_left (gives_order q stages p g && g.available) (reaches q stages p r) (and_from (gives_order q stages p g) g.available (here stages m) (new w h));
    sight = λ stages accesses w h m a.
        or_left (gives_order q stages p g && (g.available && share g.accesses accesses)) (sees q stages accesses p r)
        (and_from (gives_order q stages p g) (g.available && share g.accesses accesses) (here stages m)
        (and_from g.available (share g.accesses accesses) (new w h) (subst (λ x. share x accesses ≡ true) (sym same_seen) a)));
  } where
    here : (stages : Stages) → meets to stages ≡ true → gives_order q stages p g ≡ true
    here stages m =
        subst (λ x. ((x == q) && (meets g.stages stages && is_by g.place p)) ≡ true) (sym same_q)
        (subst (λ x. ((q == q) && (meets x stages && is_by g.place p)) ≡ true) (sym same_to)
        (subst (λ x. ((q == q) && (meets to stages && is_by x p)) ≡ true) (sym same_p) (gives stages m)))

  behind_own : (t : Bool) (r : DoneAccess) → in_scope q from p r ≡ t → IsHonest r → B (across q p from made to seen r)
  behind_own true r e honest = rw e (behind_gained g more refl refl refl refl new) where
    more : DoneAccess
    more = avail (is_made_available q p from made r) r

    g : Gain
    g = record { queue = q; place = p; stages = to; accesses = seen; available = more.writes && more.available }

    new : r.writes ≡ true → ((is_made_available q p from made r) || ((gives_order q from p g && g.available) || reaches q from p r)) ≡ true → g.available ≡ true
    new w h = elim (or_cases (is_made_available q p from made r) ((gives_order q from p g && g.available) || reaches q from p r) h) [
      | inl direct ↦ and_from r.writes more.available w (or_right r.available ((is_made_available q p from made r) && r.writes) (and_from (is_made_available q p from made r) r.writes direct w))
      | inr rest ↦ elim (or_cases (gives_order q from p g && g.available) (reaches q from p r) rest) [
        | inl own ↦ (and_parts (gives_order q from p g) g.available own).1
        | inr old ↦ and_from r.writes more.available w (or_left r.available ((is_made_available q p from made r) && r.writes) (honest.available q from p old))
      ]
    ]
  behind_own false r e honest = rw e (behind_none (avail (is_made_available q p from made r) r) e)

  -- the access of the barrier's own change
  behind_change : (v : VkState) (i s : ℕ) → B (change_made v q p to seen i s)
  behind_change v i s = record {
    order = λ stages h m. or_left ((q == q) && (meets to stages && is_by p p)) false (gives stages m);
    reach = λ stages w h m.
        or_left (((q == q) && (meets to stages && is_by p p)) && true) false (and_from ((q == q) && (meets to stages && is_by p p)) true (gives stages m) refl);
    sight = λ stages accesses w h m a.
        or_left (((q == q) && (meets to stages && is_by p p)) && share seen accesses) false
        (and_from ((q == q) && (meets to stages && is_by p p)) (share seen accesses) (gives stages m) a);
  }

module _ (v : VkState) (sound : IsSound v) (are : AreBehind v) where
  -- a command that is not done need not be before a done one
  not_before : (q2 : ℕ) (p2 : Place) (c2 : VkCommand) (q : ℕ) (p : Place) (c : VkCommand) → command_at v q2 p2 ≡ Some c2 → is_done v.done q2 p2 ≡ false → command_at v q p ≡ Some c → is_done v.done q p ≡ true →
      (q2 == q) ≡ true → is_before p2 p ≡ true → orders (sort_of c2) (sort_of c) ≡ true → ⊥
  not_before q2 p2 c2 q p c has2 left has done same before order =
      let e : q2 ≡ q = eqb-true q2 q same in
      true≢false (sym (sound.order q p2 p c2 c (subst (λ x. command_at v x p2 ≡ Some c2) e has2) has before order done) ∙ subst (λ x. is_done v.done x p2 ≡ false) e left)

  module _ (q2 : ℕ) (p2 : Place) (c2 : VkCommand) (has2 : command_at v q2 p2 ≡ Some c2) (left : is_done v.done q2 p2 ≡ false)
      (q : ℕ) (p : Place) (from : Stages) (made : Accesses) (to : Stages) (seen : Accesses) (change : Option Change)
      (has : command_at v q p ≡ Some (Barrier from made to seen change)) (done : is_done v.done q p ≡ true) where
    -- it is not at the place of the done barrier
    not_at : (q2 == q) ≡ true → is_at p2 p ≡ true → ⊥
    not_at same at =
        true≢false (sym done ∙ subst (λ y. is_done v.done q y ≡ false) (same_place p2 p at) (subst (λ x. is_done v.done x p2 ≡ false) (eqb-true q2 q same) left))

    -- what it gives does not come before the done barrier, if it is a barrier
    gives_late : (from2 : Stages) (made2 : Accesses) (to2 : Stages) (seen2 : Accesses) (change2 : Option Change) → c2 ≡ Barrier from2 made2 to2 seen2 change2 → ((q2 == q) && (meets to2 from && is_by p2 p)) ≡ false
    gives_late from2 made2 to2 seen2 change2 e = false_from_ne_true ((q2 == q) && (meets to2 from && is_by p2 p)) (λ h.
        let one = and_parts (q2 == q) (meets to2 from && is_by p2 p) h in
        let two = and_parts (meets to2 from) (is_by p2 p) one.1 in
        elim (by_cases p2 p two.1) [
          | inl before ↦ not_before q2 p2 c2 q p (Barrier from made to seen change) has2 left has done one.0 before (subst (λ c. orders (sort_of c) (sort_of (Barrier from made to seen change)) ≡ true) (sym e) two.0)
          | inr at ↦ not_at one.0 at
        ])

    behind_command : (r : DoneAccess) → IsBehind q p from made to seen r → IsBehind q p from made to seen (kept_by q2 p2 c2 r)
    behind_command r is = by_command c2 refl where
      by_command : (c : VkCommand) → c2 ≡ c → IsBehind q p from made to seen (kept_by q2 p2 c r)
      by_command (Barrier from2 made2 to2 seen2 change2) e =
          behind_where q p from made to seen (in_scope q2 from2 p2 r) q2 p2 to2 seen2 _ (gives_late from2 made2 to2 seen2 change2 e) (behind_avail q p from made to seen (is_direct q2 from2 p2 r && share made2 r.access) r is)
      by_command (Copy to_ to_first from_ from_first words) e = is
      by_command (CopyImage to_ to_sub to_layout from_ from_sub from_layout) e = is
      by_command (CopyIn image sub layout buffer first pitch) e = is
      by_command (CopyOut buffer first pitch image sub layout) e = is
      by_command (Clear target word) e = is
      by_command (Dispatch routine count t0 t1 u0 b0) e = is

    -- what it makes anew is not before the done barrier
    new_late : (stage : Stages) → (is_before p2 p ≡ true → meets stage from ≡ true → orders (sort_of c2) (sort_of (Barrier from made to seen change)) ≡ true) → ((q2 == q) && (meets stage from && is_before p2 p)) ≡ false
    new_late stage order = false_from_ne_true ((q2 == q) && (meets stage from && is_before p2 p)) (λ h.
        let one = and_parts (q2 == q) (meets stage from && is_before p2 p) h in
        let two = and_parts (meets stage from) (is_before p2 p) one.1 in
        not_before q2 p2 c2 q p (Barrier from made to seen change) has2 left has done one.0 two.1 (order two.1 two.0))

    no_stage : meets (record { 0 = 0 }) from ≡ true → ⊥
    no_stage h = true≢false (sym h ∙ ap (λ (n : ℕ). not (n == 0)) (and_zero_l (whole from)))

    behind_new : (loaded : List ℕ) → Each (IsBehind q p from made to seen) (made_at v q2 p2 loaded c2)
    behind_new loaded = new_made (IsBehind q p from made to seen) v q2 p2 loaded c2
        (λ work range writes access is. behind_none q p from made to seen _
        (or_from ((q2 == q) && (meets (sort_of c2).gives from && is_before p2 p)) false
        (new_late (sort_of c2).gives (λ before m. and_from ((sort_of c2).is_barrier || true) (meets (sort_of c2).gives from) (or_right (sort_of c2).is_barrier true refl) m)) refl))
        (λ from2 made2 to2 seen2 change2 e s at. behind_none q p from made to seen _
        (or_from ((q2 == q) && (meets (record { 0 = 0 }) from && is_before p2 p)) (((q2 == q) && (meets to2 from && is_by p2 p)) || false)
        (new_late (record { 0 = 0 }) (λ before m. absurd (no_stage m)))
        (or_from ((q2 == q) && (meets to2 from && is_by p2 p)) false (gives_late from2 made2 to2 seen2 (Some change2) e) refl)))

  -- behind the barrier that is done
  behind_barrier : (q : ℕ) (p : Place) (from : Stages) (made : Accesses) (to : Stages) (seen : Accesses) (change : Option Change) (loaded : List ℕ) →
      Each (IsBehind q p from made to seen) (map (kept_by q p (Barrier from made to seen change)) v.accesses ++ made_at v q p loaded (Barrier from made to seen change))
  behind_barrier q p from made to seen change loaded =
      each_append (IsBehind q p from made to seen) (map (kept_by q p (Barrier from made to seen change)) v.accesses) (made_at v q p loaded (Barrier from made to seen change))
      (each_map IsHonest (IsBehind q p from made to seen) (kept_by q p (Barrier from made to seen change)) (λ r honest. behind_own q p from made to seen (in_scope q from p r) r refl honest) v.accesses are.honest)
      (by_change change) where
        by_end : (c : Change) (t : Bool) → Each (IsBehind q p from made to seen) (cond t [] (map (change_made v q p to seen c.image) (subs_of v.plan c) ++ []))
        by_end c true = tt
        by_end c false =
            each_append (IsBehind q p from made to seen) (map (change_made v q p to seen c.image) (subs_of v.plan c)) []
            (each_new (IsBehind q p from made to seen) (change_made v q p to seen c.image) (behind_change q p from made to seen v c.image) (subs_of v.plan c)) tt

        by_change : (c : Option Change) → Each (IsBehind q p from made to seen) (made_at v q p loaded (Barrier from made to seen c))
        by_change None = tt
        by_change (Some c) = by_end c (lacks_sub v.plan c)

  -- a command is done
  behind_run : (q2 : ℕ) (p2 : Place) (loaded : List ℕ) (c2 : VkCommand) → command_at v q2 p2 ≡ Some c2 → is_done v.done q2 p2 ≡ false → AreBehind (after_run v q2 p2 loaded (Some c2))
  behind_run q2 p2 loaded c2 has2 left = record {
    honest = each_append IsHonest (map (kept_by q2 p2 c2) v.accesses) (made_at v q2 p2 loaded c2)
        (each_map IsHonest IsHonest (kept_by q2 p2 c2) (honest_command q2 p2 c2) v.accesses are.honest)
        (new_made IsHonest v q2 p2 loaded c2 (λ work range writes access is. record { available = λ q stages p h. absurd (false≢true h) }) (λ from made to seen change e s at. record { available = λ q stages p h. refl }));
    behind = λ q p from made to seen change has done. elim (done_cases q2 p2 v.done q p done) [
      | inl new ↦
          let command : c2 ≡ Barrier from made to seen change = same_item c2 (Barrier from made to seen change) (sym (subst (λ x. command_at v x p ≡ Some c2) new.0 (subst (λ y. command_at v q2 y ≡ Some c2) new.1 has2)) ∙ has) in
          subst (λ x. Each (IsBehind q p from made to seen) (map (kept_by x p2 c2) v.accesses ++ made_at v x p2 loaded c2)) (sym new.0)
          (subst (λ y. Each (IsBehind q p from made to seen) (map (kept_by q y c2) v.accesses ++ made_at v q y loaded c2)) (sym new.1)
          (subst (λ z. Each (IsBehind q p from made to seen) (map (kept_by q p z) v.accesses ++ made_at v q p loaded z)) (sym command)
          (behind_barrier q p from made to seen change loaded)))
      | inr old ↦
          each_append (IsBehind q p from made to seen) (map (kept_by q2 p2 c2) v.accesses) (made_at v q2 p2 loaded c2)
          (each_map (IsBehind q p from made to seen) (IsBehind q p from made to seen) (kept_by q2 p2 c2) (behind_command q2 p2 c2 has2 left q p from made to seen change has old) v.accesses (are.behind q p from made to seen change has old))
          (behind_new q2 p2 c2 has2 left q p from made to seen change has old loaded)
    ];
  }

  -- a batch was submitted
  behind_submit : (b : Batch) → b.number ≡ (counts_of v b.queue).submitted → AreBehind (moved v (Submit b))
  behind_submit b number = record {
    honest = each_map IsHonest IsHonest (after_submit b.queue b.number) (λ r h. honest_where _ _ _ _ _ r h) v.accesses are.honest;
    behind = λ q p from made to seen change has done.
        let old = sound.there q p done in
        let command : old.0 ≡ Barrier from made to seen change = same_item old.0 (Barrier from made to seen change) (sym (still_in q v.journal b p old.0 old.1) ∙ has) in
        let has_old : command_at v q p ≡ Some (Barrier from made to seen change) = subst (λ z. command_at v q p ≡ Some z) command old.1 in
        each_map (IsBehind q p from made to seen) (IsBehind q p from made to seen) (after_submit b.queue b.number)
        (λ r is. behind_where q p from made to seen _ b.queue (record { number = b.number; index = 0 }) _ _ r (late q p _ (sound.submitted q p old.0 old.1)) is)
        v.accesses (are.behind q p from made to seen change has_old done);
  } where
    late : (q : ℕ) (p : Place) (m : Bool) → p.number < (counts_of v q).submitted → ((b.queue == q) && (m && is_by (record { number = b.number; index = 0 }) p)) ≡ false
    late q p m h = false_from_ne_true ((b.queue == q) && (m && is_by (record { number = b.number; index = 0 }) p)) (λ t.
        let one = and_parts (b.queue == q) (m && is_by (record { number = b.number; index = 0 }) p) t in
        let by = (and_parts m (is_by (record { number = b.number; index = 0 }) p) one.1).1 in
        let at : b.number ≡ (counts_of v q).submitted = number ∙ ap (λ x. (counts_of v x).submitted) (eqb-true b.queue q one.0) in
        grind (arith, h, by, at))

  -- a batch has passed
  behind_pass : (q2 n : ℕ) → n ≡ (counts_of v q2).passed → AreBehind (moved v (Pass q2 n))
  behind_pass q2 n next = record {
    honest = each_map IsHonest IsHonest (after_pass q2 n _) (λ r h. honest_where _ _ _ _ _ r h) v.accesses are.honest;
    behind = λ q p from made to seen change has done.
        each_map (IsBehind q p from made to seen) (IsBehind q p from made to seen) (after_pass q2 n _)
        (λ r is. behind_where q p from made to seen _ q2 (record { number = n; index = 0 }) _ _ r (late q p _ (sound.passed q p done)) is)
        v.accesses (are.behind q p from made to seen change has done);
  } where
    late : (q : ℕ) (p : Place) (m : Bool) → p.number < (counts_of v q).passed → ((q2 == q) && (m && is_by (record { number = n; index = 0 }) p)) ≡ false
    late q p m h = false_from_ne_true ((q2 == q) && (m && is_by (record { number = n; index = 0 }) p)) (λ t.
        let one = and_parts (q2 == q) (m && is_by (record { number = n; index = 0 }) p) t in
        let by = (and_parts m (is_by (record { number = n; index = 0 }) p) one.1).1 in
        let at : n ≡ (counts_of v q).passed = next ∙ ap (λ x. (counts_of v x).passed) (eqb-true q2 q one.0) in
        grind (arith, h, by, at))

  -- a batch has ended
  behind_end : (q2 n : ℕ) → AreBehind (moved v (Bump q2 n))
  behind_end q2 n = record {
    honest = each_map IsHonest IsHonest (after_bump q2 n _) (λ r h. honest_bump (is_ended q2 n r) q2 n _ r refl h) v.accesses are.honest;
    behind = λ q p from made to seen change has done.
        each_map (IsBehind q p from made to seen) (IsBehind q p from made to seen) (after_bump q2 n _)
        (λ r is. behind_bump q p from made to seen (is_ended q2 n r) q2 n _ r refl is) v.accesses (are.behind q p from made to seen change has done);
  }

  -- the host made an access
  behind_host : (writes : Bool) (buffer first count : ℕ) (numbers : Numbers) → AreBehind (record v { numbers = numbers; accesses = v.accesses ++ host_made v writes buffer first count })
  behind_host writes buffer first count numbers = record {
    honest = each_append IsHonest v.accesses (host_made v writes buffer first count) are.honest (new_host IsHonest v writes buffer first count (record { available = λ q stages p h. absurd (false≢true h) }));
    behind = λ q p from made to seen change has done.
        each_append (IsBehind q p from made to seen) v.accesses (host_made v writes buffer first count) (are.behind q p from made to seen change has done)
        (new_host (IsBehind q p from made to seen) v writes buffer first count (behind_none q p from made to seen (host_access writes buffer first count) refl));
  }

-- a broken rule changes nothing of it
behind_broken : (v : VkState) (b : Option VkRule) → AreBehind v → AreBehind (record v { broken = b })
behind_broken v b are = record { honest = are.honest; behind = are.behind }

behind_found : (v : VkState) (q n k : ℕ) (loaded : List ℕ) → IsSound v → AreBehind v → is_enabled v (Command q n k loaded) ≡ true →
    AreBehind (after_run v q (record { number = n; index = k }) loaded (command_at v q (record { number = n; index = k })))
behind_found v q n k loaded sound are h =
    let p : Place = record { number = n; index = k } in
    let e = enabled_command v q n k loaded h in
    subst (λ o. AreBehind (after_run v q p loaded o)) (sym e.2.1) (behind_run v sound are q p loaded e.2.0 e.2.1 e.1)

-- a step keeps it
pub behind_step : (v : VkState) (s : VkStep) → IsSound v → AreBehind v → is_enabled v s ≡ true → Fits v s → AreBehind (after_step v s)
behind_step v (Submit b) sound are h fits = behind_broken (moved v (Submit b)) _ (behind_submit v sound are b fits.1)
behind_step v (Pass q n) sound are h fits = behind_broken (moved v (Pass q n)) _ (behind_pass v sound are q n (enabled_pass v q n h))
behind_step v (Command q n k loaded) sound are h fits = behind_broken (moved v (Command q n k loaded)) _ (behind_found v q n k loaded sound are h)
behind_step v (Bump q n) sound are h fits = behind_broken (moved v (Bump q n)) _ (behind_end v sound are q n)
behind_step v (HostWrite buffer first words) sound are h fits = behind_broken (moved v (HostWrite buffer first words)) _ (behind_host v sound are true buffer first _ _)
behind_step v (HostRead buffer first words) sound are h fits = behind_broken (moved v (HostRead buffer first words)) _ (behind_host v sound are false buffer first _ v.numbers)
behind_step v (Update heap slot) sound are h fits = behind_broken v _ are

-- a run keeps it
pub behind_steps : (v : VkState) (ss : List VkStep) → IsSound v → AreBehind v → Runs v ss → AreBehind (after_steps v ss)
behind_steps v [] sound are runs = are
behind_steps v (s ∷ ss) sound are runs = behind_steps (after_step v s) ss (sound_step v s sound runs.0 runs.1) (behind_step v s sound are runs.0 runs.1) runs.2
