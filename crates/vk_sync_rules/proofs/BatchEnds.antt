-- What batches that pass and end do to accesses, along a run.
use Rattle.std.specs.Prelude.{nat_lt, nat_le, slice_index_or}
use Rattle.std.proofs.Common.{◌≡◌, ℕ, zero, suc, ◌+◌, ◌<◌, ◌≤◌, ◌==◌, ◌∙◌, Bool, true, false, ◌&&◌, ◌||◌, ◌⊎◌, inl, inr, List, [], ◌∷◌, ◌++◌, map, length, get_or, set, refl, sym, ap, subst, arith, true≢false, Option, Some, None}
use Rattle.std.specs.List.{list_any}
use Rattle.std.proofs.lemmas.Bool.{and_parts, and_from, or_cases, or_right, or_left, or_from, cases_Bool, eqb-true, false≢true, false_from_ne_true}
use Rattle.vk_types.specs.declared.accesses.Accesses.{Accesses}
use Rattle.vk_types.specs.declared.batches.Batch.{Batch}
use Rattle.vk_types.specs.declared.commands.VkCommand.{VkCommand}
use Rattle.vk_types.specs.declared.commands.VkCommand.TheVariants.{Barrier, Copy, CopyImage, CopyIn, CopyOut, Clear, Dispatch}
use Rattle.vk_types.specs.declared.stages.Stages.{Stages}
use Rattle.vk_types.specs.Stages.{meets}
use Rattle.vk_types.specs.declared.steps.VkStep.{VkStep}
use Rattle.vk_types.specs.declared.steps.VkStep.TheVariants.{Submit, Pass, Command, Bump, HostWrite, HostRead, Update}
use Rattle.vk_types.specs.declared.layouts.Change.{Change}
use Rattle.vk_sync_rules.proofs.Barriers.{IsIn, OfPieces, new_host, new_made}
use Rattle.vk_sync_rules.proofs.Growth.{covered_more}
use Rattle.vk_sync_rules.proofs.Soundness.{batch_cases, same_item, changed_cases, kept_field, got_changed, enabled_command, enabled_pass}
use Rattle.vk_sync_rules.specs.AccessSets.{all_accesses, all_stages, share}
use Rattle.vk_sync_rules.specs.BatchEnds.{ArePassed, IsEnded, IsSignalled, IsReached}
use Rattle.vk_sync_rules.specs.DoneAccesses.{after_bump, after_pass, after_submit, avail, covers, gain_where, gives_order, in_scope, is_covered, is_ended, is_made_available}
use Rattle.vk_sync_rules.specs.EnabledSteps.{is_enabled, reached}
use Rattle.vk_sync_rules.specs.NextState.{after_run, after_sets, change_made, host_access, host_made, kept_by, made_at, moved, sets_in, waits_in}
use Rattle.vk_sync_rules.specs.Rules.{after_step, after_steps}
use Rattle.vk_sync_rules.specs.Runs.{Fits, Runs, are_new}
use Rattle.vk_sync_rules.specs.VkState.{VkState, batch_in, command_at, counts_of, no_counts}
use Rattle.vk_sync_rules.specs.declared.accesses.DoneAccess.{DoneAccess}
use Rattle.vk_sync_rules.specs.declared.accesses.Gain.{Gain}
use Rattle.vk_sync_rules.specs.declared.counts.Counts.{Counts}
use Rattle.vk_sync_rules.specs.declared.places.Place.{Place}
use Rattle.vk_sync_rules.specs.declared.rules.VkRule.{VkRule}
use Rattle.dx_base.specs.Each.{Each}
use Rattle.dx_base.proofs.Each.{each_map, each_append}
use Rattle.vk_sync_rules.specs.Numbers.{Numbers}
use Rattle.vk_sync_rules.specs.Commands.{subs_of}

-- covered pairs
pub covered_cases : (waits more signals : List (ℕ × ℕ)) → is_covered waits (more ++ signals) ≡ true → (is_covered waits more ≡ true) ⊎ (is_covered waits signals ≡ true)
covered_cases waits [] signals h = inr h
covered_cases waits (s ∷ more) signals h = elim (or_cases (covers waits s) (is_covered waits (more ++ signals)) h) [
  | inl here ↦ inl (or_left (covers waits s) (is_covered waits more) here)
  | inr there ↦ elim (covered_cases waits more signals there) [ inl m ↦ inl (or_right (covers waits s) (is_covered waits more) m) | inr k ↦ inr k ]
]

pub covered_left : (waits more signals : List (ℕ × ℕ)) → is_covered waits more ≡ true → is_covered waits (more ++ signals) ≡ true
covered_left waits [] signals h = absurd (false≢true h)
covered_left waits (s ∷ more) signals h = elim (or_cases (covers waits s) (is_covered waits more) h) [
  | inl here ↦ or_left (covers waits s) (is_covered waits (more ++ signals)) here
  | inr there ↦ or_right (covers waits s) (is_covered waits (more ++ signals)) (covered_left waits more signals there)
]

-- values that were reached are not set again
covered_old : (timelines : List ℕ) (waits : List (ℕ × ℕ)) (s : ℕ × ℕ) → reached timelines waits ≡ true → slice_index_or timelines s.0 0 < s.1 → covers waits s ≡ true → ⊥
covered_old timelines [] s all new h = false≢true h
covered_old timelines (w ∷ waits) s all new h =
    let parts = and_parts (nat_le w.1 (slice_index_or timelines w.0 0)) (reached timelines waits) all in
    elim (or_cases ((s.0 == w.0) && nat_le s.1 w.1) (covers waits s) h) [
      | inl here ↦
          let two = and_parts (s.0 == w.0) (nat_le s.1 w.1) here in
          let same : slice_index_or timelines s.0 0 ≡ slice_index_or timelines w.0 0 = ap (λ t. slice_index_or timelines t 0) (eqb-true s.0 w.0 two.0) in
          (let one = parts.0 in let le = two.1 in grind (arith, one, le, same, new))
      | inr there ↦ covered_old timelines waits s parts.1 new there
    ]

none_covered : (timelines : List ℕ) (waits sets : List (ℕ × ℕ)) → reached timelines waits ≡ true → are_new timelines sets ≡ true → is_covered waits sets ≡ true → ⊥
none_covered timelines waits [] all new h = false≢true h
none_covered timelines waits (s ∷ sets) all new h =
    let parts = and_parts (nat_lt (slice_index_or timelines s.0 0) s.1) (are_new timelines sets) new in
    elim (or_cases (covers waits s) (is_covered waits sets) h) [
      | inl here ↦ covered_old timelines waits s all (let one = parts.0 in grind (arith, one)) here
      | inr there ↦ none_covered timelines waits sets all parts.1 there
    ]

-- timelines only rise
pub set_cases : (xs : List ℕ) (k x i : ℕ) → (get_or (set xs k x) i 0 ≡ get_or xs i 0) ⊎ ((i ≡ k) × (get_or (set xs k x) i 0 ≡ x))
set_cases [] k x i = inl refl
set_cases (y ∷ ys) zero x zero = inr (refl, refl)
set_cases (y ∷ ys) zero x (suc i) = inl refl
set_cases (y ∷ ys) (suc k) x zero = inl refl
set_cases (y ∷ ys) (suc k) x (suc i) = elim (set_cases ys k x i) [ inl e ↦ inl e | inr e ↦ inr (ap suc e.0, e.1) ]

pub rise : (first timelines : List ℕ) (sets : List (ℕ × ℕ)) → ((t : ℕ) → get_or first t 0 ≤ get_or timelines t 0) → are_new first sets ≡ true → (t : ℕ) → get_or first t 0 ≤ get_or (after_sets sets timelines) t 0
rise first timelines [] h new t = h t
rise first timelines (s ∷ sets) h new t =
    let parts = and_parts (nat_lt (get_or first s.0 0) s.1) (are_new first sets) new in
    rise first (set timelines s.0 s.1) sets (λ u. elim (set_cases timelines s.0 s.1 u) [
      | inl same ↦ (let old = h u in omega (arith, same, old))
      | inr here ↦
          let at : get_or first u 0 ≡ get_or first s.0 0 = ap (λ k. get_or first k 0) here.0 in
          (let one = parts.0 in let is = here.1 in grind (arith, one, is, at))
    ]) parts.1 t

still_reached : (first timelines : List ℕ) (waits : List (ℕ × ℕ)) → ((t : ℕ) → get_or first t 0 ≤ get_or timelines t 0) → reached first waits ≡ true → reached timelines waits ≡ true
still_reached first timelines [] h all = refl
still_reached first timelines (w ∷ waits) h all =
    let parts = and_parts (nat_le w.1 (get_or first w.0 0)) (reached first waits) all in
    and_from (nat_le w.1 (get_or timelines w.0 0)) (reached timelines waits)
    (let one = parts.0 in let le = h w.0 in grind (arith, one, le)) (still_reached first timelines waits h parts.1)

-- an access by parts
known_where : (t : Bool) (q : ℕ) (p : Place) (to : Stages) (seen : Accesses) (r : DoneAccess) → IsSignalled r → IsSignalled (gain_where t q p to seen r)
known_where true q p to seen r is = record { available = is.available }
known_where false q p to seen r is = is

known_avail : (t : Bool) (r : DoneAccess) → IsSignalled r → IsSignalled (avail t r)
known_avail t r is = record { available = λ waits h w. or_left r.available (t && r.writes) (is.available waits h w) }

known_bump : (t : Bool) (q n : ℕ) (sets : List (ℕ × ℕ)) (r : DoneAccess) → is_ended q n r ≡ t → IsSignalled r → IsSignalled (after_bump q n sets r)
known_bump true q n sets r e is = rw e (record { available = λ waits h w. or_right r.available r.writes w })
known_bump false q n sets r e is = rw e is

module _ (q n : ℕ) (sets : List (ℕ × ℕ)) where
  ended_where : (t : Bool) (q2 : ℕ) (p2 : Place) (to : Stages) (seen : Accesses) (r : DoneAccess) → ((q2 == q) && nat_le p2.number n) ≡ false → IsEnded q n sets r → IsEnded q n sets (gain_where t q2 p2 to seen r)
  ended_where true q2 p2 to seen r none is = record {
    signal = λ waits h. is.signal waits (old h);
    available = λ h. is.available (old h);
  } where
    by : Bool
    by = elim r.by [ None ↦ false | Some m ↦ (m.queue == q) && nat_le m.place.number n ]

    gains : Bool
    gains = list_any (λ (g : Gain). (g.queue == q) && nat_le g.place.number n) r.gains

    old : (by || (((q2 == q) && nat_le p2.number n) || gains)) ≡ true → (by || gains) ≡ true
    old h = subst (λ t. (by || (t || gains)) ≡ true) none h
  ended_where false q2 p2 to seen r none is = is

  ended_avail : (t : Bool) (r : DoneAccess) → IsEnded q n sets r → IsEnded q n sets (avail t r)
  ended_avail t r is = record { signal = is.signal; available = λ h w. or_left r.available (t && r.writes) (is.available h w) }

  ended_bump : (t : Bool) (q2 n2 : ℕ) (more : List (ℕ × ℕ)) (r : DoneAccess) → is_ended q2 n2 r ≡ t → IsEnded q n sets r → IsEnded q n sets (after_bump q2 n2 more r)
  ended_bump true q2 n2 more r e is = rw e (record { signal = λ waits h c. covered_more waits more r.signals (is.signal waits h c); available = λ h w. or_right r.available r.writes w })
  ended_bump false q2 n2 more r e is = rw e is

  ended_none : (r : DoneAccess) → is_ended q n r ≡ false → IsEnded q n sets r
  ended_none r none = record { signal = λ waits h c. absurd (true≢false (sym h ∙ none)); available = λ h w. absurd (true≢false (sym h ∙ none)) }

  ended_own : (t : Bool) (r : DoneAccess) → is_ended q n r ≡ t → IsEnded q n sets (after_bump q n sets r)
  ended_own true r e = rw e (record { signal = λ waits h c. covered_left waits sets r.signals c; available = λ h w. or_right r.available r.writes w })
  ended_own false r e = rw e (ended_none r e)

module _ (q n : ℕ) (waits : List (ℕ × ℕ)) where
  start : Place
  start = record { number = n; index = 0 }

  reached_where : (t : Bool) (q2 : ℕ) (p2 : Place) (to : Stages) (seen : Accesses) (r : DoneAccess) → IsReached q n waits r → IsReached q n waits (gain_where t q2 p2 to seen r)
  reached_where true q2 p2 to seen r is = record {
    order = λ stages h m. or_right (gives_order q stages (record { number = n; index = 0 }) (record { queue = q2; place = p2; stages = to; accesses = seen; available = r.writes && r.available })) _ (is.order stages h m);
    sight = λ stages accesses h w m a. or_right (gives_order q stages (record { number = n; index = 0 }) (record { queue = q2; place = p2; stages = to; accesses = seen; available = r.writes && r.available }) && ((r.writes && r.available) && share seen accesses)) _ (is.sight stages accesses h w m a);
  }
  reached_where false q2 p2 to seen r is = is

  reached_avail : (t : Bool) (r : DoneAccess) → IsReached q n waits r → IsReached q n waits (avail t r)
  reached_avail t r is = record { order = is.order; sight = is.sight }

  reached_bump : (t : Bool) (q2 n2 : ℕ) (more : List (ℕ × ℕ)) (r : DoneAccess) → (is_covered waits more ≡ true → ⊥) → is_ended q2 n2 r ≡ t → IsReached q n waits r → IsReached q n waits (after_bump q2 n2 more r)
  reached_bump true q2 n2 more r none e is = rw e (record { order = λ stages h m. is.order stages (old h) m; sight = λ stages accesses h w m a. is.sight stages accesses (old h) w m a }) where
    old : is_covered waits (more ++ r.signals) ≡ true → is_covered waits r.signals ≡ true
    old h = elim (covered_cases waits more r.signals h) [ inl new ↦ absurd (none new) | inr k ↦ k ]
  reached_bump false q2 n2 more r none e is = rw e is

  reached_none : (r : DoneAccess) → is_covered waits r.signals ≡ false → IsReached q n waits r
  reached_none r none = record { order = λ stages h m. absurd (true≢false (sym h ∙ none)); sight = λ stages accesses h w m a. absurd (true≢false (sym h ∙ none)) }

  reached_own : (t : Bool) (r : DoneAccess) → is_covered waits r.signals ≡ t → IsSignalled r → IsReached q n waits (after_pass q n waits r)
  reached_own true r e known = rw e (record {
    order = λ stages h m. or_left (here stages) _ (gives stages m);
    sight = λ stages accesses h w m a. or_left (here stages && ((r.writes && r.available) && share all_accesses accesses)) _
        (and_from (here stages) ((r.writes && r.available) && share all_accesses accesses) (gives stages m)
        (and_from (r.writes && r.available) (share all_accesses accesses) (and_from r.writes r.available w (known.available waits e w)) a));
  }) where
    here : Stages → Bool
    here stages = (q == q) && (meets all_stages stages && (nat_lt n n || ((n == n) && nat_le 0 0)))

    gives : (stages : Stages) → meets all_stages stages ≡ true → here stages ≡ true
    gives stages m = and_from (q == q) (meets all_stages stages && (nat_lt n n || ((n == n) && nat_le 0 0))) (grind arith) (and_from (meets all_stages stages) (nat_lt n n || ((n == n) && nat_le 0 0)) m (grind arith))
  reached_own false r e known = rw e (reached_none r e)

-- what becoming available and gaining keep, a command keeps
pub kept_cases : (P : DoneAccess → Type 0) (q : ℕ) (p : Place) → ((t : Bool) (r : DoneAccess) → P r → P (avail t r)) → ((t : Bool) (to : Stages) (seen : Accesses) (r : DoneAccess) → P r → P (gain_where t q p to seen r)) →
    (c : VkCommand) (r : DoneAccess) → P r → P (kept_by q p c r)
kept_cases P q p one two (Barrier from made to seen change) r h = two (in_scope q from p r) to seen (avail (is_made_available q p from made r) r) (one (is_made_available q p from made r) r h)
kept_cases P q p one two (Copy to to_first from from_first words) r h = h
kept_cases P q p one two (CopyImage to to_sub to_layout from from_sub from_layout) r h = h
kept_cases P q p one two (CopyIn image sub layout buffer first pitch) r h = h
kept_cases P q p one two (CopyOut buffer first pitch image sub layout) r h = h
kept_cases P q p one two (Clear target word) r h = h
kept_cases P q p one two (Dispatch routine count t0 t1 u0 b0) r h = h

-- each access after a command has what accesses keep and new ones have
pub kept_all : (P : DoneAccess → Type 0) (v : VkState) (q : ℕ) (p : Place) (loaded : List ℕ) (c : VkCommand) → ((r : DoneAccess) → P r → P (kept_by q p c r)) → Each P v.accesses → OfPieces P v q p loaded c →
    ((from : Stages) (made : Accesses) (to : Stages) (seen : Accesses) (change : Change) → c ≡ Barrier from made to seen (Some change) → (s : ℕ) → IsIn (subs_of v.plan change) s → P (change_made v q p to seen change.image s)) →
    Each P (map (kept_by q p c) v.accesses ++ made_at v q p loaded c)
kept_all P v q p loaded c keep all plain changed =
    each_append P (map (kept_by q p c) v.accesses) (made_at v q p loaded c) (each_map P P (kept_by q p c) keep v.accesses all) (new_made P v q p loaded c plain changed)

-- a place that does not come up to the end of a batch
late_by : (q2 q m n : ℕ) → (q2 ≡ q → n < m) → ((q2 == q) && nat_le m n) ≡ false
late_by q2 q m n h = false_from_ne_true ((q2 == q) && nat_le m n) (λ t.
    let parts = and_parts (q2 == q) (nat_le m n) t in
    let less = h (eqb-true q2 q parts.0) in let le = parts.1 in grind (arith, less, le))

module _ (v : VkState) (are : ArePassed v) where
  passed_run : (q2 n2 k2 : ℕ) (loaded : List ℕ) (c2 : VkCommand) → (counts_of v q2).ended ≤ n2 → ArePassed (after_run v q2 (record { number = n2; index = k2 }) loaded (Some c2))
  passed_run q2 n2 k2 loaded c2 running = record {
    ended_passed = are.ended_passed;
    passed_submitted = are.passed_submitted;
    numbered = are.numbered;
    waited = are.waited;
    known = kept_all IsSignalled v q2 p2 loaded c2
        (kept_cases IsSignalled q2 p2 known_avail (λ t to seen r h. known_where t q2 p2 to seen r h) c2) are.known
        (λ work range writes access is. record { available = λ waits h w. absurd (false≢true h) }) (λ from made to seen change e s at. record { available = λ waits h w. absurd (false≢true h) });
    ended = λ q n b is less.
        let none : ((q2 == q) && nat_le n2 n) ≡ false = late_by q2 q n2 n (λ same. let at : (counts_of v q2).ended ≡ (counts_of v q).ended = ap (λ x. (counts_of v x).ended) same in omega (arith, running, less, at)) in
        kept_all (IsEnded q n b.sets) v q2 p2 loaded c2
        (kept_cases (IsEnded q n b.sets) q2 p2 (ended_avail q n b.sets) (λ t to seen r h. ended_where q n b.sets t q2 p2 to seen r none h) c2) (are.ended q n b is less)
        (λ work range writes access is. ended_none q n b.sets _ (or_from ((q2 == q) && nat_le n2 n) false none refl))
        (λ from made to seen change e s at. ended_none q n b.sets _ (or_from ((q2 == q) && nat_le n2 n) (((q2 == q) && nat_le n2 n) || false) none (or_from ((q2 == q) && nat_le n2 n) false none refl)));
    reach = λ q n b is less.
        kept_all (IsReached q n b.waits) v q2 p2 loaded c2
        (kept_cases (IsReached q n b.waits) q2 p2 (reached_avail q n b.waits) (λ t to seen r h. reached_where q n b.waits t q2 p2 to seen r h) c2) (are.reach q n b is less)
        (λ work range writes access is. reached_none q n b.waits _ refl) (λ from made to seen change e s at. reached_none q n b.waits _ refl);
  } where
    p2 : Place
    p2 = record { number = n2; index = k2 }

  passed_host : (writes : Bool) (buffer first count : ℕ) (numbers : Numbers) → ArePassed (record v { numbers = numbers; accesses = v.accesses ++ host_made v writes buffer first count })
  passed_host writes buffer first count numbers = record {
    ended_passed = are.ended_passed;
    passed_submitted = are.passed_submitted;
    numbered = are.numbered;
    waited = are.waited;
    known = each_append IsSignalled v.accesses (host_made v writes buffer first count) are.known (new_host IsSignalled v writes buffer first count (record { available = λ waits h w. w }));
    ended = λ q n b is less.
        each_append (IsEnded q n b.sets) v.accesses (host_made v writes buffer first count) (are.ended q n b is less)
        (new_host (IsEnded q n b.sets) v writes buffer first count (ended_none q n b.sets (host_access writes buffer first count) refl));
    reach = λ q n b is less.
        each_append (IsReached q n b.waits) v.accesses (host_made v writes buffer first count) (are.reach q n b is less)
        (new_host (IsReached q n b.waits) v writes buffer first count (reached_none q n b.waits (host_access writes buffer first count) refl));
  }

  passed_bump : (q2 n2 : ℕ) → n2 ≡ (counts_of v q2).ended → n2 < (counts_of v q2).passed → are_new v.timelines (sets_in (batch_in q2 n2 v.journal)) ≡ true → ArePassed (moved v (Bump q2 n2))
  passed_bump q2 n2 next passed new = record {
    ended_passed = λ q. elim (changed_cases f q2 v.queues q no_counts) [
      | inl same ↦ subst (λ (c : Counts). c.ended ≤ c.passed) (sym same) (are.ended_passed q)
      | inr here ↦ subst (λ (c : Counts). c.ended ≤ c.passed) (sym here.1) (let at : (counts_of v q).passed ≡ (counts_of v q2).passed = ap (λ x. (counts_of v x).passed) here.0 in omega (arith, passed, at))
    ];
    passed_submitted = λ q. subst (λ m. m ≤ (counts_of (moved v (Bump q2 n2)) q).submitted) (sym (keep_passed q)) (subst (λ m. (counts_of v q).passed ≤ m) (sym (kept_field (λ (c : Counts). c.submitted) f q2 v.queues q no_counts (λ c. refl))) (are.passed_submitted q));
    numbered = λ q n b is. subst (λ m. n < m) (sym (kept_field (λ (c : Counts). c.submitted) f q2 v.queues q no_counts (λ c. refl))) (are.numbered q n b is);
    known = each_map IsSignalled IsSignalled (after_bump q2 n2 sets) (λ r h. known_bump (is_ended q2 n2 r) q2 n2 sets r refl h) v.accesses are.known;
    waited = λ q n b is less. still_reached v.timelines (after_sets sets v.timelines) b.waits (rise v.timelines v.timelines sets (λ t. omega arith) new) (are.waited q n b is (subst (λ m. n < m) (keep_passed q) less));
    ended = λ q n b is less. elim (changed_cases f q2 v.queues q no_counts) [
      | inl same ↦ old_ended q n b is (subst (λ (c : Counts). n < c.ended) same less)
      | inr here ↦ elim (cases_Bool (n == n2)) [
        | inl at ↦ own_ended q n b is here.0 (eqb-true n n2 at)
        | inr not_at ↦ old_ended q n b is (let l : n < n2 + 1 = subst (λ (c : Counts). n < c.ended) here.1 less in let e : (counts_of v q).ended ≡ (counts_of v q2).ended = ap (λ x. (counts_of v x).ended) here.0 in grind (arith, l, e, next, not_at))
      ]
    ];
    reach = λ q n b is less.
        let before : n < (counts_of v q).passed = subst (λ m. n < m) (keep_passed q) less in
        each_map (IsReached q n b.waits) (IsReached q n b.waits) (after_bump q2 n2 sets) (λ r h. reached_bump q n b.waits (is_ended q2 n2 r) q2 n2 sets r (none_covered v.timelines b.waits sets (are.waited q n b is before) new) refl h) v.accesses (are.reach q n b is before);
  } where
    f : Counts → Counts
    f = λ (c : Counts). record c { ended = n2 + 1 }

    sets : List (ℕ × ℕ)
    sets = sets_in (batch_in q2 n2 v.journal)

    keep_passed : (q : ℕ) → (counts_of (moved v (Bump q2 n2)) q).passed ≡ (counts_of v q).passed
    keep_passed q = kept_field (λ (c : Counts). c.passed) (λ (c : Counts). record c { ended = n2 + 1 }) q2 v.queues q no_counts (λ c. refl)

    old_ended : (q n : ℕ) (b : Batch) → batch_in q n v.journal ≡ Some b → n < (counts_of v q).ended → Each (IsEnded q n b.sets) (map (after_bump q2 n2 (sets_in (batch_in q2 n2 v.journal))) v.accesses)
    old_ended q n b is less = each_map (IsEnded q n b.sets) (IsEnded q n b.sets) (after_bump q2 n2 sets) (λ r h. ended_bump q n b.sets (is_ended q2 n2 r) q2 n2 sets r refl h) v.accesses (are.ended q n b is less)

    own_ended : (q n : ℕ) (b : Batch) → batch_in q n v.journal ≡ Some b → q ≡ q2 → n ≡ n2 → Each (IsEnded q n b.sets) (map (after_bump q2 n2 (sets_in (batch_in q2 n2 v.journal))) v.accesses)
    own_ended q n b is same_q same_n =
        subst (λ x. Each (IsEnded q n b.sets) (map (after_bump x n2 (sets_in (batch_in x n2 v.journal))) v.accesses)) same_q
        (subst (λ y. Each (IsEnded q n b.sets) (map (after_bump q y (sets_in (batch_in q y v.journal))) v.accesses)) same_n
        (subst (λ o. Each (IsEnded q n b.sets) (map (after_bump q n (sets_in o)) v.accesses)) (sym is)
        (each_map IsSignalled (IsEnded q n b.sets) (after_bump q n b.sets) (λ r h. ended_own q n b.sets (is_ended q n r) r refl) v.accesses are.known)))

  passed_pass : (q2 n2 : ℕ) (b2 : Batch) → n2 ≡ (counts_of v q2).passed → batch_in q2 n2 v.journal ≡ Some b2 → reached v.timelines b2.waits ≡ true → ArePassed (moved v (Pass q2 n2))
  passed_pass q2 n2 b2 next found over = record {
    ended_passed = λ q. elim (changed_cases f q2 v.queues q no_counts) [
      | inl same ↦ subst (λ (c : Counts). c.ended ≤ c.passed) (sym same) (are.ended_passed q)
      | inr here ↦ subst (λ (c : Counts). c.ended ≤ c.passed) (sym here.1) (let old = are.ended_passed q in let at : (counts_of v q).passed ≡ (counts_of v q2).passed = ap (λ x. (counts_of v x).passed) here.0 in omega (arith, old, at, next))
    ];
    passed_submitted = λ q. elim (changed_cases f q2 v.queues q no_counts) [
      | inl same ↦ subst (λ (c : Counts). c.passed ≤ c.submitted) (sym same) (are.passed_submitted q)
      | inr here ↦ subst (λ (c : Counts). c.passed ≤ c.submitted) (sym here.1) (let old = are.numbered q2 n2 b2 found in let at : (counts_of v q).submitted ≡ (counts_of v q2).submitted = ap (λ x. (counts_of v x).submitted) here.0 in omega (arith, old, at))
    ];
    numbered = λ q n b is. subst (λ m. n < m) (sym (kept_field (λ (c : Counts). c.submitted) f q2 v.queues q no_counts (λ c. refl))) (are.numbered q n b is);
    known = each_map IsSignalled IsSignalled (after_pass q2 n2 waits) (λ r h. known_where _ _ _ _ _ r h) v.accesses are.known;
    waited = λ q n b is less. elim (cases q n less) [ inl old ↦ are.waited q n b is old | inr own ↦ subst (λ (x : Batch). reached v.timelines x.waits ≡ true) (same_batch q n b is own.0 own.1) over ];
    ended = λ q n b is less.
        let before : n < (counts_of v q).ended = subst (λ m. n < m) (kept_field (λ (c : Counts). c.ended) f q2 v.queues q no_counts (λ c. refl)) less in
        let none : ((q2 == q) && nat_le n2 n) ≡ false = late_by q2 q n2 n (λ same. let at : (counts_of v q2).passed ≡ (counts_of v q).passed = ap (λ x. (counts_of v x).passed) same in let le = are.ended_passed q in omega (arith, before, at, le, next)) in
        each_map (IsEnded q n b.sets) (IsEnded q n b.sets) (after_pass q2 n2 waits) (λ r h. ended_where q n b.sets _ q2 (record { number = n2; index = 0 }) _ _ r none h) v.accesses (are.ended q n b is before);
    reach = λ q n b is less. elim (cases q n less) [
      | inl old ↦ each_map (IsReached q n b.waits) (IsReached q n b.waits) (after_pass q2 n2 waits) (λ r h. reached_where q n b.waits _ q2 (record { number = n2; index = 0 }) _ _ r h) v.accesses (are.reach q n b is old)
      | inr own ↦ own_reach q n b is own.0 own.1
    ];
  } where
    f : Counts → Counts
    f = λ (c : Counts). record c { passed = n2 + 1 }

    waits : List (ℕ × ℕ)
    waits = waits_in (batch_in q2 n2 v.journal)

    cases : (q n : ℕ) → n < (counts_of (moved v (Pass q2 n2)) q).passed → (n < (counts_of v q).passed) ⊎ ((q ≡ q2) × (n ≡ n2))
    cases q n less = elim (changed_cases (λ (c : Counts). record c { passed = n2 + 1 }) q2 v.queues q no_counts) [
      | inl same ↦ inl (subst (λ (c : Counts). n < c.passed) same less)
      | inr here ↦ elim (cases_Bool (n == n2)) [
        | inl at ↦ inr (here.0, eqb-true n n2 at)
        | inr not_at ↦ inl (let l : n < n2 + 1 = subst (λ (c : Counts). n < c.passed) here.1 less in let e : (counts_of v q).passed ≡ (counts_of v q2).passed = ap (λ x. (counts_of v x).passed) here.0 in grind (arith, l, e, next, not_at))
      ]
    ]

    same_batch : (q n : ℕ) (b : Batch) → batch_in q n v.journal ≡ Some b → q ≡ q2 → n ≡ n2 → b2 ≡ b
    same_batch q n b is same_q same_n =
        same_item b2 b (sym found ∙ subst (λ x. batch_in x n2 v.journal ≡ Some b) same_q (subst (λ y. batch_in q y v.journal ≡ Some b) same_n is))

    own_reach : (q n : ℕ) (b : Batch) → batch_in q n v.journal ≡ Some b → q ≡ q2 → n ≡ n2 → Each (IsReached q n b.waits) (map (after_pass q2 n2 (waits_in (batch_in q2 n2 v.journal))) v.accesses)
    own_reach q n b is same_q same_n =
        subst (λ x. Each (IsReached q n b.waits) (map (after_pass x n2 (waits_in (batch_in x n2 v.journal))) v.accesses)) same_q
        (subst (λ y. Each (IsReached q n b.waits) (map (after_pass q y (waits_in (batch_in q y v.journal))) v.accesses)) same_n
        (subst (λ o. Each (IsReached q n b.waits) (map (after_pass q n (waits_in o)) v.accesses)) (sym is)
        (each_map IsSignalled (IsReached q n b.waits) (after_pass q n b.waits) (λ r h. reached_own q n b.waits (is_covered b.waits r.signals) r refl h) v.accesses are.known)))

  passed_submit : (b2 : Batch) → b2.queue < length v.queues → b2.number ≡ (counts_of v b2.queue).submitted → ArePassed (moved v (Submit b2))
  passed_submit b2 within next = record {
    ended_passed = λ q. elim (changed_cases f b2.queue v.queues q no_counts) [
      | inl same ↦ subst (λ (c : Counts). c.ended ≤ c.passed) (sym same) (are.ended_passed q)
      | inr here ↦ subst (λ (c : Counts). c.ended ≤ c.passed) (sym here.1) (are.ended_passed q)
    ];
    passed_submitted = λ q. elim (changed_cases f b2.queue v.queues q no_counts) [
      | inl same ↦ subst (λ (c : Counts). c.passed ≤ c.submitted) (sym same) (are.passed_submitted q)
      | inr here ↦ subst (λ (c : Counts). c.passed ≤ c.submitted) (sym here.1) (let old = are.passed_submitted q in let at : (counts_of v q).submitted ≡ (counts_of v b2.queue).submitted = ap (λ x. (counts_of v x).submitted) here.0 in omega (arith, old, at, next))
    ];
    numbered = λ q n b is. elim (batch_cases q n v.journal b2 b is) [
      | inl old ↦ elim (changed_cases f b2.queue v.queues q no_counts) [
        | inl same ↦ subst (λ (c : Counts). n < c.submitted) (sym same) (are.numbered q n b old)
        | inr here ↦ subst (λ (c : Counts). n < c.submitted) (sym here.1) (let less = are.numbered q n b old in let at : (counts_of v q).submitted ≡ (counts_of v b2.queue).submitted = ap (λ x. (counts_of v x).submitted) here.0 in omega (arith, less, at, next))
      ]
      | inr new ↦
          let at : (counts_of (moved v (Submit b2)) b2.queue).submitted ≡ b2.number + 1 = ap (λ (c : Counts). c.submitted) (got_changed f b2.queue v.queues no_counts within) in
          subst (λ x. n < (counts_of (moved v (Submit b2)) x).submitted) new.0 (let m = new.1 in omega (arith, at, m))
    ];
    known = each_map IsSignalled IsSignalled (after_submit b2.queue b2.number) (λ r h. known_where _ _ _ _ _ r h) v.accesses are.known;
    waited = λ q n b is less. let before = keep_passed q n less in are.waited q n b (old_batch q n b is before) before;
    ended = λ q n b is less.
        let before : n < (counts_of v q).ended = subst (λ m. n < m) (kept_field (λ (c : Counts). c.ended) f b2.queue v.queues q no_counts (λ c. refl)) less in
        let le = are.ended_passed q in
        let none : ((b2.queue == q) && nat_le b2.number n) ≡ false = late_by b2.queue q b2.number n (λ same. let at : (counts_of v b2.queue).submitted ≡ (counts_of v q).submitted = ap (λ x. (counts_of v x).submitted) same in let le2 = are.passed_submitted q in omega (arith, before, at, le, le2, next)) in
        each_map (IsEnded q n b.sets) (IsEnded q n b.sets) (after_submit b2.queue b2.number) (λ r h. ended_where q n b.sets _ b2.queue (record { number = b2.number; index = 0 }) _ _ r none h) v.accesses (are.ended q n b (old_batch q n b is (omega (arith, before, le))) before);
    reach = λ q n b is less. let before = keep_passed q n less in
        each_map (IsReached q n b.waits) (IsReached q n b.waits) (after_submit b2.queue b2.number) (λ r h. reached_where q n b.waits _ b2.queue (record { number = b2.number; index = 0 }) _ _ r h) v.accesses (are.reach q n b (old_batch q n b is before) before);
  } where
    f : Counts → Counts
    f = λ (c : Counts). record c { submitted = b2.number + 1 }

    keep_passed : (q n : ℕ) → n < (counts_of (moved v (Submit b2)) q).passed → n < (counts_of v q).passed
    keep_passed q n less = subst (λ m. n < m) (kept_field (λ (c : Counts). c.passed) (λ (c : Counts). record c { submitted = b2.number + 1 }) b2.queue v.queues q no_counts (λ c. refl)) less

    old_batch : (q n : ℕ) (b : Batch) → batch_in q n (v.journal ++ b2 ∷ []) ≡ Some b → n < (counts_of v q).passed → batch_in q n v.journal ≡ Some b
    old_batch q n b is less = elim (batch_cases q n v.journal b2 b is) [
      | inl old ↦ old
      | inr new ↦ absurd (let at : (counts_of v b2.queue).submitted ≡ (counts_of v q).submitted = ap (λ x. (counts_of v x).submitted) new.0 in let le = are.passed_submitted q in let m = new.1 in omega (arith, less, at, le, m, next))
    ]

passed_broken : (v : VkState) (b : Option VkRule) → ArePassed v → ArePassed (record v { broken = b })
passed_broken v b are = record { ended_passed = are.ended_passed; passed_submitted = are.passed_submitted; numbered = are.numbered; known = are.known; waited = are.waited; ended = are.ended; reach = are.reach }

-- what a pass and an end that can be taken tell
enabled_wait : (v : VkState) (q n : ℕ) → is_enabled v (Pass q n) ≡ true → (b : Batch) × (batch_in q n v.journal ≡ Some b) × (reached v.timelines b.waits ≡ true)
enabled_wait v q n h = by_found (batch_in q n v.journal) refl (and_parts (n == (counts_of v q).passed) (test (batch_in q n v.journal)) h).1 where
  test : Option Batch → Bool
  test o = elim o [ None ↦ false | Some b ↦ reached v.timelines b.waits ]

  by_found : (o : Option Batch) → batch_in q n v.journal ≡ o → elim o [ None ↦ false | Some b ↦ reached v.timelines b.waits ] ≡ true → (b : Batch) × (batch_in q n v.journal ≡ Some b) × (reached v.timelines b.waits ≡ true)
  by_found None e t = absurd (false≢true t)
  by_found (Some b) e t = (b, e, t)

pub enabled_end : (v : VkState) (q n : ℕ) → is_enabled v (Bump q n) ≡ true → (n ≡ (counts_of v q).ended) × (n < (counts_of v q).passed)
enabled_end v q n h = (eqb-true n (counts_of v q).ended (and_parts (n == (counts_of v q).ended) _ h).0, grind (arith, h))

enabled_running : (v : VkState) (q n k : ℕ) (loaded : List ℕ) → is_enabled v (Command q n k loaded) ≡ true → (counts_of v q).ended ≤ n
enabled_running v q n k loaded h = grind (arith, h)

passed_found : (v : VkState) (q n k : ℕ) (loaded : List ℕ) → ArePassed v → is_enabled v (Command q n k loaded) ≡ true →
    ArePassed (after_run v q (record { number = n; index = k }) loaded (command_at v q (record { number = n; index = k })))
passed_found v q n k loaded are h =
    let e = enabled_command v q n k loaded h in
    subst (λ o. ArePassed (after_run v q (record { number = n; index = k }) loaded o)) (sym e.2.1) (passed_run v are q n k loaded e.2.0 (enabled_running v q n k loaded h))

-- a step keeps it
pub passed_step : (v : VkState) (s : VkStep) → ArePassed v → is_enabled v s ≡ true → Fits v s → ArePassed (after_step v s)
passed_step v (Submit b) are h fits = passed_broken (moved v (Submit b)) _ (passed_submit v are b fits.0 fits.1)
passed_step v (Pass q n) are h fits = let e = enabled_wait v q n h in passed_broken (moved v (Pass q n)) _ (passed_pass v are q n e.0 (enabled_pass v q n h) e.1 e.2)
passed_step v (Command q n k loaded) are h fits = passed_broken (moved v (Command q n k loaded)) _ (passed_found v q n k loaded are h)
passed_step v (Bump q n) are h fits = let e = enabled_end v q n h in passed_broken (moved v (Bump q n)) _ (passed_bump v are q n e.0 e.1 fits)
passed_step v (HostWrite buffer first words) are h fits = passed_broken (moved v (HostWrite buffer first words)) _ (passed_host v are true buffer first _ _)
passed_step v (HostRead buffer first words) are h fits = passed_broken (moved v (HostRead buffer first words)) _ (passed_host v are false buffer first _ v.numbers)
passed_step v (Update heap slot) are h fits = passed_broken v _ are

-- a run keeps it
pub passed_steps : (v : VkState) (ss : List VkStep) → ArePassed v → Runs v ss → ArePassed (after_steps v ss)
passed_steps v [] are runs = are
passed_steps v (s ∷ ss) are runs = passed_steps (after_step v s) ss (passed_step v s are runs.0 runs.1) runs.2
