-- Behind the end of a batch the host sees what was written before its barrier to the host.
use Rattle.std.proofs.Common.{◌≡◌, ℕ, zero, suc, ◌+◌, ◌<◌, ◌≤◌, ◌==◌, Bool, true, false, ◌||◌, List, [], ◌∷◌, length, slice_get, refl, subst, arith, Some}
use Rattle.std.specs.List.{list_any}
use Rattle.std.proofs.lemmas.Bool.{or_right, or_left, false≢true}
use Rattle.dx_base.proofs.Each.{each_got}
use Rattle.vk_sync_rules.specs.declared.accesses.DoneAccess.{DoneAccess}
use Rattle.vk_sync_rules.specs.declared.places.Place.{Place}
use Rattle.vk_sync_rules.specs.AccessSets.{all_stages, every_write, host_reads, host_stage}
use Rattle.vk_sync_rules.specs.Barriers.{AreBehind, IsShown, is_ready, to_host}
use Rattle.vk_sync_rules.specs.BatchEnds.{AreEnded, ArePassed, IsEnded}
use Rattle.vk_sync_rules.specs.DoneAccesses.{covers, in_scope, is_covered, is_host, sees, start_of}
use Rattle.vk_sync_rules.specs.HostAccesses.{HasShown, HostSees}
use Rattle.vk_sync_rules.specs.Numbers.{up_to}
use Rattle.vk_sync_rules.specs.Places.{is_before}
use Rattle.vk_sync_rules.specs.Rules.{is_host_ordered, is_host_seen}
use Rattle.vk_sync_rules.specs.VkState.{Placed, VkState, command_in, counts_of, is_done}
use Rattle.vk_sync_rules.proofs.FirstState.{barriers_show}
use Rattle.vk_sync_rules.proofs.Gains.{scope_ends, sees_later}
use Rattle.vk_sync_rules.proofs.KnownBatches.{got_any}
use Rattle.vk_sync_rules.proofs.Soundness.{nth_got}

-- one of some numbers
any_up_to : (f : ℕ → Bool) (first count k : ℕ) → first ≤ k → k < first + count → f k ≡ true → list_any f (up_to first count) ≡ true
any_up_to f first zero k low high h = absurd (omega (arith, low, high))
any_up_to f first (suc count) k low high h = by_test (first == k) refl (λ low. any_up_to f (first + 1) count k low (omega (arith, high)) h) where
  by_test : (t : Bool) → (first == k) ≡ t → (first + 1 ≤ k → list_any f (up_to (first + 1) count) ≡ true) → list_any f (up_to first (suc count)) ≡ true
  by_test true e rest = or_left (f first) (list_any f (up_to (first + 1) count)) (subst (λ x. f x ≡ true) (grind (arith, e)) h)
  by_test false e rest = or_right (f first) (list_any f (up_to (first + 1) count)) (rest (grind (arith, e, low)))

-- an access that some pair signals is ordered before the host
signalled_ordered : (waits : List (ℕ × ℕ)) (r : DoneAccess) → is_covered waits r.signals ≡ true → is_host_ordered r ≡ true
signalled_ordered waits r h = by_signals r.signals h where
  by_signals : (signals : List (ℕ × ℕ)) → is_covered waits signals ≡ true → (is_host r || elim signals [ [] ↦ false | s ∷ ss ↦ true ]) ≡ true
  by_signals [] h = absurd (false≢true h)
  by_signals (s ∷ ss) h = or_right (is_host r) true refl

pub host_sees : (v : VkState) (q : ℕ) (p : Place) → AreBehind v → ArePassed v → AreEnded v → HasShown v q p → (i : ℕ) (r : DoneAccess) → slice_get v.accesses i ≡ Some r →
    in_scope q all_stages p r ≡ true → (r.writes ≡ true → is_ready q p all_stages every_write r ≡ true) → HostSees v r
host_sees v q p behind passed ends has i r found scope ready = record { order = order; sight = sight } where
  done : is_done v.done q p ≡ true
  done = nth_got (λ (x : Placed). is_done v.done q x.place) p.number p.index has.batch.commands to_host (ends.done q p.number has.batch has.there has.ended) (subst (λ o. command_in o p.index ≡ Some to_host) has.there has.barrier)

  end : IsEnded q p.number has.batch.sets r
  end = each_got (IsEnded q p.number has.batch.sets) v.accesses i r (passed.ended q p.number has.batch has.there has.ended) found

  cover : is_covered (has.pair ∷ []) has.batch.sets ≡ true
  cover = got_any (covers (has.pair ∷ [])) has.batch.sets has.index has.pair has.sets (grind arith)

  order : is_host_ordered r ≡ true
  order = signalled_ordered (has.pair ∷ []) r (end.signal (has.pair ∷ []) (scope_ends q all_stages p r scope) cover)

  shown : IsShown q p r
  shown = each_got (IsShown q p) v.accesses i r (barriers_show v q p behind has.barrier done) found

  sight : r.writes ≡ true → is_host_seen v r ≡ true
  sight w =
      let before : is_before p (start_of (counts_of v q).ended) ≡ true = (let less = has.ended in grind (arith, less)) in
      let seen : sees q host_stage host_reads (start_of (counts_of v q).ended) r ≡ true = sees_later q host_stage host_reads p (start_of (counts_of v q).ended) r before (shown.sight w (ready w)) in
      or_right (is_host r) (list_any (λ x. sees x host_stage host_reads (start_of (counts_of v x).ended) r) (up_to 0 (length v.queues)))
      (any_up_to (λ x. sees x host_stage host_reads (start_of (counts_of v x).ended) r) 0 (length v.queues) q (omega arith) (let less = has.queue in omega (arith, less)) seen)
