-- What was made never shrinks.
use Rattle.std.proofs.Common.{◌≡◌, ℕ, Bool, true, false, ◌&&◌, ◌||◌, List, [], ◌∷◌, ◌++◌, map, refl, subst, Option, Some, None, if◌then◌else◌}
use Rattle.std.proofs.lemmas.List.Folds.{list_any-append}
use Rattle.std.proofs.lemmas.Bool.{or_left, or_right}
use Rattle.vk_types.specs.declared.accesses.Accesses.{Accesses}
use Rattle.vk_types.specs.declared.commands.VkCommand.{VkCommand}
use Rattle.vk_types.specs.declared.commands.VkCommand.TheVariants.{Barrier, Copy, CopyImage, CopyIn, CopyOut, Clear, Dispatch}
use Rattle.vk_types.specs.declared.stages.Stages.{Stages}
use Rattle.vk_types.specs.declared.steps.VkStep.{VkStep}
use Rattle.vk_types.specs.declared.steps.VkStep.TheVariants.{Submit, Pass, Command, Bump, HostWrite, HostRead, Update}
use Rattle.vk_sync_rules.specs.AccessSets.{all_accesses, all_stages, share}
use Rattle.vk_sync_rules.specs.DoneAccesses.{after_bump, after_submit, avail, covers, gain, gain_where, gives_order, in_scope, is_covered, is_ended, is_made_available, is_host, ordered, reaches, sees, start_of}
use Rattle.vk_sync_rules.specs.Growth.{EndsSignal, GainsAdd, Grows, Keeps}
use Rattle.vk_sync_rules.specs.NextState.{after_run, kept_by}
use Rattle.vk_sync_rules.specs.Rules.{after_step, after_steps}
use Rattle.vk_sync_rules.specs.VkState.{VkState, command_at}
use Rattle.vk_sync_rules.specs.declared.accesses.DoneAccess.{DoneAccess}
use Rattle.vk_sync_rules.specs.declared.accesses.Gain.{Gain}
use Rattle.vk_sync_rules.specs.declared.places.Place.{Place}

-- a gain adds its scope
pub gains_add : (g : Gain) (r : DoneAccess) → GainsAdd g r
gains_add g r = record { order = λ q stages p. refl; reach = λ q stages p. refl; sight = λ q stages accesses p. refl }

-- the end of a batch adds what it sets
signal_where : (t : Bool) (sets waits : List (ℕ × ℕ)) (r : DoneAccess) →
    is_covered waits (if t then record r { signals = sets ++ r.signals; available = r.available || r.writes } else r).signals ≡ ((t && is_covered waits sets) || is_covered waits r.signals)
signal_where true sets waits r = list_any-append (covers waits) sets r.signals
signal_where false sets waits r = refl

-- a scope that is gained signals nothing
gain_signals : (t : Bool) (q : ℕ) (p : Place) (to : Stages) (seen : Accesses) (r : DoneAccess) → (gain_where t q p to seen r).signals ≡ r.signals
gain_signals true q p to seen r = refl
gain_signals false q p to seen r = refl

pub ends_signal : (r : DoneAccess) → EndsSignal r
ends_signal r = record {
  bump = λ q n sets waits. signal_where (is_ended q n r) sets waits r;
  pass = λ q n waits. gain_signals (is_covered waits r.signals) q (start_of n) all_stages all_accesses r;
  submit = λ q n. gain_signals (is_host r) q (start_of n) all_stages all_accesses r;
  barrier = λ q p from made to seen. gain_signals (in_scope q from p r) q p to seen (avail (is_made_available q p from made r) r);
}

-- an access as it is
pub grows_same : (r : DoneAccess) → Grows r r
grows_same r = record {
  range = refl;
  writes = refl;
  access = refl;
  by = refl;
  order = λ q stages p h. h;
  reach = λ q stages p h. h;
  sight = λ q stages accesses p h. h;
  signal = λ waits h. h;
  stays = λ h. h;
}

-- first one way, then another
pub grows_on : (r s u : DoneAccess) → Grows r s → Grows s u → Grows r u
grows_on r s u a b = record {
  range = subst (λ x. u.range ≡ x) a.range b.range;
  writes = subst (λ x. u.writes ≡ x) a.writes b.writes;
  access = subst (λ x. u.access ≡ x) a.access b.access;
  by = subst (λ x. u.by ≡ x) a.by b.by;
  order = λ q stages p h. b.order q stages p (a.order q stages p h);
  reach = λ q stages p h. b.reach q stages p (a.reach q stages p h);
  sight = λ q stages accesses p h. b.sight q stages accesses p (a.sight q stages accesses p h);
  signal = λ waits h. b.signal waits (a.signal waits h);
  stays = λ h. b.stays (a.stays h);
}

-- an access gains a scope
pub grows_gain : (g : Gain) (r : DoneAccess) → Grows r (gain g r)
grows_gain g r = record {
  range = refl;
  writes = refl;
  access = refl;
  by = refl;
  order = λ q stages p h. or_right (gives_order q stages p g) (ordered q stages p r) h;
  reach = λ q stages p h. or_right (gives_order q stages p g && g.available) (reaches q stages p r) h;
  sight = λ q stages accesses p h. or_right (gives_order q stages p g && (g.available && share g.accesses accesses)) (sees q stages accesses p r) h;
  signal = λ waits h. h;
  stays = λ h. h;
}

pub grows_where : (t : Bool) (q : ℕ) (p : Place) (to : Stages) (seen : Accesses) (r : DoneAccess) → Grows r (gain_where t q p to seen r)
grows_where true q p to seen r = grows_gain (record { queue = q; place = p; stages = to; accesses = seen; available = r.writes && r.available }) r
grows_where false q p to seen r = grows_same r

-- an access becomes available
pub grows_avail : (t : Bool) (r : DoneAccess) → Grows r (avail t r)
grows_avail t r = record {
  range = refl;
  writes = refl;
  access = refl;
  by = refl;
  order = λ q stages p h. h;
  reach = λ q stages p h. h;
  sight = λ q stages accesses p h. h;
  signal = λ waits h. h;
  stays = λ h. or_left r.available (t && r.writes) h;
}

-- more pairs cover no less
pub covered_more : (waits more signals : List (ℕ × ℕ)) → is_covered waits signals ≡ true → is_covered waits (more ++ signals) ≡ true
covered_more waits [] signals h = h
covered_more waits (s ∷ more) signals h = or_right (covers waits s) (is_covered waits (more ++ signals)) (covered_more waits more signals h)

pub grows_signals : (more : List (ℕ × ℕ)) (r : DoneAccess) → Grows r (record r { signals = more ++ r.signals; available = r.available || r.writes })
grows_signals more r = record {
  range = refl;
  writes = refl;
  access = refl;
  by = refl;
  order = λ q stages p h. h;
  reach = λ q stages p h. h;
  sight = λ q stages accesses p h. h;
  signal = λ waits h. covered_more waits more r.signals h;
  stays = λ h. or_left r.available r.writes h;
}

pub grows_bump : (t : Bool) (q n : ℕ) (sets : List (ℕ × ℕ)) (r : DoneAccess) → is_ended q n r ≡ t → Grows r (after_bump q n sets r)
grows_bump true q n sets r e = rw e (grows_signals sets r)
grows_bump false q n sets r e = rw e (grows_same r)

-- what a command does to an access
pub grows_command : (q : ℕ) (p : Place) (c : VkCommand) (r : DoneAccess) → Grows r (kept_by q p c r)
grows_command q p (Barrier from made to seen change) r =
    let more : DoneAccess = avail (is_made_available q p from made r) r in
    grows_on r more (gain_where (in_scope q from p r) q p to seen more) (grows_avail (is_made_available q p from made r) r) (grows_where (in_scope q from p r) q p to seen more)
grows_command q p (Copy to to_first from from_first words) r = grows_same r
grows_command q p (CopyImage to to_sub to_layout from from_sub from_layout) r = grows_same r
grows_command q p (CopyIn image sub layout buffer first pitch) r = grows_same r
grows_command q p (CopyOut buffer first pitch image sub layout) r = grows_same r
grows_command q p (Clear target word) r = grows_same r
grows_command q p (Dispatch routine count t0 t1 u0 b0) r = grows_same r

-- each access is changed, and others are made
pub keeps_mapped : (f : DoneAccess → DoneAccess) (new : List DoneAccess) → ((r : DoneAccess) → Grows r (f r)) → (rs : List DoneAccess) → Keeps rs (map f rs ++ new)
keeps_mapped f new h [] = tt
keeps_mapped f new h (r ∷ rs) = (h r, keeps_mapped f new h rs)

pub keeps_each : (f : DoneAccess → DoneAccess) → ((r : DoneAccess) → Grows r (f r)) → (rs : List DoneAccess) → Keeps rs (map f rs)
keeps_each f h [] = tt
keeps_each f h (r ∷ rs) = (h r, keeps_each f h rs)

pub keeps_more : (rs new : List DoneAccess) → Keeps rs (rs ++ new)
keeps_more [] new = tt
keeps_more (r ∷ rs) new = (grows_same r, keeps_more rs new)

pub keeps_same : (rs : List DoneAccess) → Keeps rs rs
keeps_same [] = tt
keeps_same (r ∷ rs) = (grows_same r, keeps_same rs)

pub keeps_on : (rs ss us : List DoneAccess) → Keeps rs ss → Keeps ss us → Keeps rs us
keeps_on [] ss us a b = tt
keeps_on (r ∷ rs) [] us a b = absurd a
keeps_on (r ∷ rs) (s ∷ ss) [] a b = absurd b
keeps_on (r ∷ rs) (s ∷ ss) (u ∷ us) a b = (grows_on r s u a.0 b.0, keeps_on rs ss us a.1 b.1)

keeps_run : (v : VkState) (q : ℕ) (p : Place) (loaded : List ℕ) (c : Option VkCommand) → Keeps v.accesses (after_run v q p loaded c).accesses
keeps_run v q p loaded None = keeps_same v.accesses
keeps_run v q p loaded (Some c) = keeps_mapped (kept_by q p c) _ (grows_command q p c) v.accesses

-- along one step
pub keeps_step : (v : VkState) (step : VkStep) → Keeps v.accesses (after_step v step).accesses
keeps_step v (Submit b) = keeps_each (after_submit b.queue b.number) (λ r. grows_where (is_host r) _ _ _ _ r) v.accesses
keeps_step v (Pass q n) = keeps_each _ (λ r. grows_where _ _ _ _ _ r) v.accesses
keeps_step v (Command q n k loaded) = keeps_run v q (record { number = n; index = k }) loaded (command_at v q (record { number = n; index = k }))
keeps_step v (Bump q n) = keeps_each _ (λ r. grows_bump (is_ended q n r) q n _ r refl) v.accesses
keeps_step v (HostWrite buffer first words) = keeps_more v.accesses _
keeps_step v (HostRead buffer first words) = keeps_more v.accesses _
keeps_step v (Update heap slot) = keeps_same v.accesses

-- along steps
pub keeps_steps : (v : VkState) (ss : List VkStep) → Keeps v.accesses (after_steps v ss).accesses
keeps_steps v [] = keeps_same v.accesses
keeps_steps v (s ∷ ss) = keeps_on v.accesses (after_step v s).accesses (after_steps (after_step v s) ss).accesses (keeps_step v s) (keeps_steps (after_step v s) ss)
