-- A settled queue: its copies follow all that was made, and the host sees each write where its batches have ended.
use Rattle.std.proofs.Common.{◌≡◌, ℕ, zero, suc, ◌<◌, ◌≤◌, ◌==◌, ◌∙◌, Bool, true, false, ◌&&◌, ◌⊎◌, inl, inr, List, [], ◌∷◌, ◌++◌, length, slice_get, get_or, refl, sym, ap, ap₂, subst, arith, Option, Some, None, eq-eqb}
use Rattle.std.specs.Prelude.{nat_lt}
use Rattle.std.specs.List.{list_all, list_any}
use Rattle.std.proofs.lemmas.Bool.{and_from, and_parts, false≢true, or_left, true≢false}
use Rattle.std.proofs.lemmas.Option.{none-some}
use Rattle.dx_base.specs.Each.{Each}
use Rattle.dx_base.specs.Lists.{changed_at, put, range_of}
use Rattle.dx_base.proofs.Each.{each_from, each_got}
use Rattle.vk_types.specs.declared.accesses.Accesses.{Accesses}
use Rattle.vk_types.specs.declared.batches.Batch.{Batch}
use Rattle.vk_types.specs.declared.commands.VkCommand.{VkCommand}
use Rattle.vk_types.specs.declared.commands.VkCommand.TheVariants.{Barrier, Copy, CopyImage, CopyIn, CopyOut, Clear, Dispatch}
use Rattle.vk_types.specs.declared.stages.Stages.{Stages}
use Rattle.vk_types.specs.declared.steps.VkStep.TheVariants.{Command}
use Rattle.vk_types.specs.Stages.{meets}
use Rattle.vk_sync_rules.specs.declared.accesses.DoneAccess.{DoneAccess}
use Rattle.vk_sync_rules.specs.declared.accesses.Maker.{Maker}
use Rattle.vk_sync_rules.specs.declared.counts.Counts.{Counts}
use Rattle.vk_sync_rules.specs.declared.places.Place.{Place}
use Rattle.vk_sync_rules.specs.AccessSets.{all_accesses, all_stages, every_write, host_reads, host_stage, share}
use Rattle.vk_sync_rules.specs.Barriers.{to_all, to_host}
use Rattle.vk_sync_rules.specs.Commands.{passes_end}
use Rattle.vk_sync_rules.specs.DoneAccesses.{is_direct, is_host, is_made_available, ordered, reaches, sees, start_of}
use Rattle.vk_sync_rules.specs.EnabledSteps.{is_enabled}
use Rattle.vk_sync_rules.specs.Entries.{Enters, leading_of}
use Rattle.vk_sync_rules.specs.FirstState.{Begins}
use Rattle.vk_sync_rules.specs.HostAccesses.{HasShown, IsHosted}
use Rattle.vk_sync_rules.specs.Machines.{known_numbers}
use Rattle.vk_sync_rules.specs.Makers.{HasOwner, IsChanged, IsOwned}
use Rattle.vk_sync_rules.specs.Numbers.{up_to}
use Rattle.vk_sync_rules.specs.Orders.{orders, sort_of}
use Rattle.vk_sync_rules.specs.Places.{is_before}
use Rattle.vk_sync_rules.specs.Rules.{after_step}
use Rattle.vk_sync_rules.specs.VkState.{VkState as Machine, batch_in, command_at, command_in, counts_of, is_done, no_counts, nth_command}
use Rattle.vk_sync_rules.proofs.Entries.{earlier_enter, host_enters, write_of_piece}
use Rattle.vk_sync_rules.proofs.Gains.{direct_of}
use Rattle.vk_sync_rules.proofs.HostAccesses.{host_sees}
use Rattle.vk_sync_rules.proofs.Soundness.{batch_of, enabled_command, same_item}
use Rattle.vk_port.specs.Agreement.{host_numbers}
use Rattle.vk_port.specs.Reads.{AreKnown, IsLed, IsShownWrite}
use Rattle.vk_port.specs.Settled.{HasFinished, IsOfQueue, IsSettled, IsSimple, copies_words}
use Rattle.vk_port.proofs.ReadNumbers.{copies_known, host_reads_known}

-- what a copy of words is to the order
record IsCopyOrder (c : VkCommand) : Type 0 where
  work : (sort_of c).is_barrier ≡ false
  takes : meets all_stages (sort_of c).takes ≡ true
  gives : meets (sort_of c).gives all_stages ≡ true
  behind : orders (sort_of to_all) (sort_of c) ≡ true
  before : orders (sort_of c) (sort_of to_all) ≡ true

copy_order : (c : VkCommand) → copies_words c ≡ true → IsCopyOrder c
copy_order (Barrier from made to seen change) h = absurd (false≢true h)
copy_order (Copy to to_first from from_first words) h = record { work = refl; takes = refl; gives = refl; behind = refl; before = refl }
copy_order (CopyImage to to_sub to_layout from from_sub from_layout) h = absurd (false≢true h)
copy_order (CopyIn image sub layout buffer first pitch) h = absurd (false≢true h)
copy_order (CopyOut buffer first pitch image sub layout) h = absurd (false≢true h)
copy_order (Clear target word) h = absurd (false≢true h)
copy_order (Dispatch routine count t0 t1 u0 b0) h = absurd (false≢true h)

-- a copy in a simple batch: it is the second of three commands
record IsMiddle (b : Batch) (k : ℕ) : Type 0 where
  second : k ≡ 2
  leading : nth_command b.commands 1 ≡ Some to_all
  trailing : nth_command b.commands 3 ≡ Some to_host
  some : b.commands ≡ [] → ⊥
  pair : ℕ × ℕ
  sets : slice_get b.sets 0 ≡ Some pair

-- a command of some in a row
none_of : {A : Type 0} (c : A) (k : ℕ) → slice_get [] k ≡ Some c → ⊥
none_of c zero h = none-some c h
none_of c (suc k) h = none-some c h

-- one of the barriers is no copy
not_copy : (c d : VkCommand) → Some c ≡ Some d → copies_words c ≡ false → copies_words d ≡ true → ⊥
not_copy c d e barrier copy = false≢true (sym barrier ∙ (ap copies_words (same_item c d e) ∙ copy))

-- where a copy stands among the commands between two barriers
copy_place : (copies : List VkCommand) (k : ℕ) (c : VkCommand) → length copies ≤ 1 → slice_get (to_all ∷ (copies ++ to_host ∷ [])) k ≡ Some c → copies_words c ≡ true →
    (k ≡ 1) × (slice_get (to_all ∷ (copies ++ to_host ∷ [])) 2 ≡ Some to_host)
copy_place copies zero c few h is = absurd (not_copy to_all c h refl is)
copy_place [] (suc zero) c few h is = absurd (not_copy to_host c h refl is)
copy_place [] (suc (suc k)) c few h is = absurd (none_of c k h)
copy_place (x ∷ []) (suc zero) c few h is = (refl, refl)
copy_place (x ∷ []) (suc (suc zero)) c few h is = absurd (not_copy to_host c h refl is)
copy_place (x ∷ []) (suc (suc (suc k))) c few h is = absurd (none_of c k h)
copy_place (x ∷ (y ∷ copies)) (suc k) c few h is = absurd (omega (arith, few))

middle : (b : Batch) (k : ℕ) (c : VkCommand) → IsSimple b → nth_command b.commands k ≡ Some c → copies_words c ≡ true → IsMiddle b k
middle b zero c simple h is = absurd (none-some c h)
middle b (suc k) c (inl none) h is = absurd (none_of c k (subst (λ cs. slice_get cs k ≡ Some c) none h))
middle b (suc k) c (inr e) h is =
    let at : (k ≡ 1) × (slice_get (to_all ∷ (e.copies ++ to_host ∷ [])) 2 ≡ Some to_host) = copy_place e.copies k c e.single (subst (λ cs. slice_get cs k ≡ Some c) e.commands h) is in
    record {
      second = ap suc at.0;
      leading = ap (λ cs. nth_command cs 1) e.commands;
      trailing = ap (λ cs. nth_command cs 3) e.commands ∙ at.1;
      some = λ none. none_of c k (subst (λ cs. slice_get cs k ≡ Some c) none h);
      pair = e.pair;
      sets = e.sets;
    }

-- a command of a simple batch is a copy or one of the two barriers
command_cases : (copies : List VkCommand) (k : ℕ) (c : VkCommand) → list_all copies_words copies ≡ true → slice_get (copies ++ to_host ∷ []) k ≡ Some c → (c ≡ to_host) ⊎ (copies_words c ≡ true)
command_cases [] zero c plain h = inl (sym (same_item to_host c h))
command_cases [] (suc k) c plain h = absurd (none_of c k h)
command_cases (x ∷ copies) zero c plain h = inr (ap copies_words (sym (same_item x c h)) ∙ (and_parts (copies_words x) (list_all copies_words copies) plain).0)
command_cases (x ∷ copies) (suc k) c plain h = command_cases copies k c (and_parts (copies_words x) (list_all copies_words copies) plain).1 h

simple_cases : (b : Batch) (k : ℕ) (c : VkCommand) → IsSimple b → nth_command b.commands k ≡ Some c → (c ≡ to_all) ⊎ ((c ≡ to_host) ⊎ (copies_words c ≡ true))
simple_cases b zero c simple h = absurd (none-some c h)
simple_cases b (suc k) c (inl none) h = absurd (none_of c k (subst (λ cs. slice_get cs k ≡ Some c) none h))
simple_cases b (suc zero) c (inr e) h = inl (sym (same_item to_all c (subst (λ cs. slice_get cs 0 ≡ Some c) e.commands h)))
simple_cases b (suc (suc k)) c (inr e) h = inr (command_cases e.copies k c e.plain (subst (λ cs. slice_get cs (suc k) ≡ Some c) e.commands h))

-- an access that a queue made in simple batches: a copy made it
record IsCopied (v : Machine) (m : Maker) (r : DoneAccess) : Type 0 where
  command : VkCommand
  there : command_at v m.queue m.place ≡ Some command
  copies : copies_words command ≡ true
  batch : Batch
  found : batch_in m.queue m.place.number v.journal ≡ Some batch
  at : IsMiddle batch m.place.index
  done : is_done v.done m.queue m.place ≡ true
  stage : meets m.stage all_stages ≡ true
  write : r.writes ≡ true → share every_write r.access ≡ true

copied : (v : Machine) (m : Maker) (r : DoneAccess) → ((n : ℕ) (b : Batch) → batch_in m.queue n v.journal ≡ Some b → IsSimple b) → HasOwner v.plan v.done v.journal r → r.by ≡ Some m → IsCopied v m r
copied v m r simple owner by = by_command (simple_cases found.0 m.place.index o.command (simple m.place.number found.0 found.1) found.2) where
  o : IsOwned v.plan v.done v.journal m r
  o = owner.own m by

  found : (b : Batch) × (batch_in m.queue m.place.number v.journal ≡ Some b) × (nth_command b.commands m.place.index ≡ Some o.command)
  found = batch_of (batch_in m.queue m.place.number v.journal) m.place.index o.command o.there

  none_changed : {P : Type 0} (to : Stages) (seen : Accesses) → IsChanged v.plan m.queue m.place to seen None r → P
  none_changed to seen is = absurd (none-some is.layout is.is)

  by_copy : copies_words o.command ≡ true → IsCopied v m r
  by_copy is =
      let order : IsCopyOrder o.command = copy_order o.command is in
      record {
        command = o.command;
        there = o.there;
        copies = is;
        batch = found.0;
        found = found.1;
        at = middle found.0 m.place.index o.command (simple m.place.number found.0 found.1) found.2 is;
        done = o.is;
        stage = subst (λ s. meets s all_stages ≡ true) (sym (o.plain order.work)) order.gives;
        write = write_of_piece v.plan (o.piece order.work).0 o.command r (o.piece order.work).1;
      }

  by_command : (o.command ≡ to_all) ⊎ ((o.command ≡ to_host) ⊎ (copies_words o.command ≡ true)) → IsCopied v m r
  by_command (inl full) = none_changed all_stages all_accesses (o.changed all_stages every_write all_stages all_accesses None full)
  by_command (inr (inl host)) = none_changed host_stage host_reads (o.changed all_stages every_write host_stage host_reads None host)
  by_command (inr (inr is)) = by_copy is

-- the command at a place of a batch that was found
command_found : (v : Machine) (q : ℕ) (p : Place) (b : Batch) (o : Option VkCommand) → batch_in q p.number v.journal ≡ Some b → nth_command b.commands p.index ≡ o → command_at v q p ≡ o
command_found v q p b o found at = ap (λ x. command_in x p.index) found ∙ at

-- the queue of an access
queue_of : (v : Machine) (q : ℕ) → IsSettled v q → (i : ℕ) (r : DoneAccess) (m : Maker) → slice_get v.accesses i ≡ Some r → r.by ≡ Some m → m.queue ≡ q
queue_of v q is i r m found by = each_got (IsOfQueue q) v.accesses i r is.alone found m by

module _ (v : Machine) (q n k : ℕ) (loaded : List ℕ) (c : VkCommand) (begins : Begins v) (is : IsSettled v q) (there : command_at v q (record { number = n; index = k }) ≡ Some c)
    (copies : copies_words c ≡ true) (enabled : is_enabled v (Command q n k loaded) ≡ true) where
  abbrev here : Place
  here = record { number = n; index = k }

  own : (b : Batch) × (batch_in q n v.journal ≡ Some b) × (nth_command b.commands k ≡ Some c)
  own = batch_of (batch_in q n v.journal) k c there

  own_at : IsMiddle own.0 k
  own_at = middle own.0 k c (is.simple n own.0 own.1) own.2 copies

  not_done : is_done v.done q here ≡ true → ⊥
  not_done h = true≢false (sym h ∙ (enabled_command v q n k loaded enabled).1)

  not_ended : (counts_of v q).ended ≤ n
  not_ended = grind (arith, enabled)

  -- what the host made
  host_entered : (i : ℕ) (r : DoneAccess) → slice_get v.accesses i ≡ Some r → HasOwner v.plan v.done v.journal r → r.by ≡ None → Enters q n r
  host_entered i r found owner by = by_hosted (is.hosted n own.0 own.1 not_ended) where
    by_hosted : (own.0.commands ≡ []) ⊎ Each (IsHosted q n) v.accesses → Enters q n r
    by_hosted (inl none) = absurd (own_at.some none)
    by_hosted (inr all) = host_enters v q n r owner by (each_got (IsHosted q n) v.accesses i r all found)

  -- what a copy of the queue made
  copy_entered : (r : DoneAccess) (m : Maker) → m.queue ≡ q → IsCopied v m r → HasOwner v.plan v.done v.journal r → r.by ≡ Some m → Enters q n r
  copy_entered r m same by_copy owner by = by_number (nat_lt m.place.number n) (m.place.number == n) refl refl where
    order : IsCopyOrder by_copy.command
    order = copy_order by_copy.command by_copy.copies

    leading : Place
    leading = leading_of m.place.number

    second : m.place.index ≡ 2
    second = by_copy.at.second

    -- the access would be made in a later batch: then this copy is done
    not_later : n < m.place.number → ⊥
    not_later less =
        let full : command_at v m.queue leading ≡ Some to_all = command_found v m.queue leading by_copy.batch (Some to_all) by_copy.found by_copy.at.leading in
        let before : is_before leading m.place ≡ true = (let two = second in grind (arith, two)) in
        let done : is_done v.done m.queue leading ≡ true = begins.sound.order m.queue leading m.place to_all by_copy.command full by_copy.there before order.behind by_copy.done in
        let earlier : is_before here leading ≡ true = grind (arith, less) in
        not_done (begins.sound.order q here leading c to_all there (subst (λ x. command_at v x leading ≡ Some to_all) same full) earlier (copy_order c copies).before
        (subst (λ x. is_done v.done x leading ≡ true) same done))

    -- in the same batch it is made by this copy, which is not done
    not_same : m.place.number ≡ n → ⊥
    not_same number =
        let place : m.place ≡ here = ap₂ make number (second ∙ sym own_at.second) in
        not_done (subst (λ p. is_done v.done q p ≡ true) place (subst (λ x. is_done v.done x m.place ≡ true) same by_copy.done)) where
          make : ℕ → ℕ → Place
          make number index = record { number = number; index = index }

    by_number : (s t : Bool) → nat_lt m.place.number n ≡ s → (m.place.number == n) ≡ t → Enters q n r
    by_number true t less e =
        subst (λ x. Enters x n r) same
        (earlier_enter v m n r owner (record { is = by; command = by_copy.command; there = by_copy.there; device = order.gives }) (grind (arith, less)))
    by_number false true less e = absurd (not_same (grind (arith, e)))
    by_number false false less e = absurd (not_later (grind (arith, less, e)))

  entered : (i : ℕ) (r : DoneAccess) → slice_get v.accesses i ≡ Some r → Enters q n r
  entered i r found = by_maker r.by refl where
    owner : HasOwner v.plan v.done v.journal r
    owner = each_got (HasOwner v.plan v.done v.journal) v.accesses i r begins.owned found

    by_maker : (o : Option Maker) → r.by ≡ o → Enters q n r
    by_maker None by = host_entered i r found owner by
    by_maker (Some m) by =
        let same : m.queue ≡ q = queue_of v q is i r m found by in
        copy_entered r m same (copied v m r (subst (λ x. (n : ℕ) (b : Batch) → batch_in x n v.journal ≡ Some b → IsSimple b) (sym same) is.simple) owner by) owner by

pub copies_led : (v : Machine) (q n k : ℕ) (loaded : List ℕ) (c : VkCommand) → Begins v → IsSettled v q → command_at v q (record { number = n; index = k }) ≡ Some c → copies_words c ≡ true →
    is_enabled v (Command q n k loaded) ≡ true → IsLed v q n k loaded c
copies_led v q n k loaded c begins is there copies enabled = record {
  there = there;
  device = (copy_order c copies).takes;
  leading = command_found v q (leading_of n) b (Some to_all) found at.leading;
  behind = (let two = at.second in omega (arith, two));
  enabled = enabled;
  entered = each_from (Enters q n) v.accesses (entered v q n k loaded c begins is there copies enabled);
} where
  own : (b : Batch) × (batch_in q n v.journal ≡ Some b) × (nth_command b.commands k ≡ Some c)
  own = batch_of (batch_in q n v.journal) k c there

  b : Batch
  b = own.0

  found : batch_in q n v.journal ≡ Some b
  found = own.1

  at : IsMiddle b k
  at = middle b k c (is.simple n b found) own.2 copies

pub settled_copies_known : (v : Machine) (q n k : ℕ) (loaded : List ℕ) (to to_first from from_first count : ℕ) (words : List (List ℕ)) → Begins v → IsSettled v q →
    command_at v q (record { number = n; index = k }) ≡ Some (Copy to to_first from from_first count) → is_enabled v (Command q n k loaded) ≡ true →
    passes_end v.plan loaded (Copy to to_first from from_first count) ≡ false → AreKnown v words →
    AreKnown (after_step v (Command q n k loaded)) (changed_at (put to_first (range_of from_first count (get_or words from []))) to words)
settled_copies_known v q n k loaded to to_first from from_first count words begins is there enabled inside known =
    copies_known v q n k loaded to to_first from from_first count words begins (copies_led v q n k loaded (Copy to to_first from from_first count) begins is there refl enabled) inside known

-- a queue of which a batch has ended is there
has_queue : (queues : List Counts) (q n : ℕ) → n < (get_or queues q no_counts).ended → q < length queues
has_queue [] zero n h = absurd (omega (arith, h))
has_queue [] (suc q) n h = absurd (omega (arith, h))
has_queue (c ∷ queues) zero n h = omega arith
has_queue (c ∷ queues) (suc q) n h = let rest : q < length queues = has_queue queues q n h in omega (arith, rest)

-- what a copy wrote in a batch that has ended is seen by the host
copy_shown : (v : Machine) (m : Maker) (i : ℕ) (r : DoneAccess) → Begins v → slice_get v.accesses i ≡ Some r → r.by ≡ Some m → IsCopied v m r → m.place.number < (counts_of v m.queue).ended → IsShownWrite v r
copy_shown v m i r begins found by is ended w =
    (host_sees v m.queue p begins.behind begins.passed begins.ended has i r found
    (or_left (is_direct m.queue all_stages p r) (ordered m.queue all_stages p r) direct)
    (λ w. or_left (is_made_available m.queue p all_stages every_write r) (reaches m.queue all_stages p r)
    (and_from (is_direct m.queue all_stages p r) (share every_write r.access) direct (is.write w)))).sight w where
      p : Place
      p = record { number = m.place.number; index = 3 }

      before : is_before m.place p ≡ true
      before = let two = is.at.second in grind (arith, two)

      direct : is_direct m.queue all_stages p r ≡ true
      direct = direct_of m.queue all_stages p r m by
          (and_from (m.queue == m.queue) (meets m.stage all_stages && is_before m.place p) (eq-eqb m.queue m.queue refl)
          (and_from (meets m.stage all_stages) (is_before m.place p) is.stage before))

      has : HasShown v m.queue p
      has = record {
        batch = is.batch;
        there = is.found;
        barrier = command_found v m.queue p is.batch (Some to_host) is.found is.at.trailing;
        queue = has_queue v.queues m.queue m.place.number ended;
        ended = ended;
        pair = is.at.pair;
        index = 0;
        sets = is.at.sets;
      }

pub writes_shown : (v : Machine) (q : ℕ) → Begins v → IsSettled v q → HasFinished v q → Each (IsShownWrite v) v.accesses
writes_shown v q begins is finished = each_from (IsShownWrite v) v.accesses shown where
  by_queue : (m : Maker) (i : ℕ) (r : DoneAccess) → slice_get v.accesses i ≡ Some r → r.by ≡ Some m → m.queue ≡ q → IsCopied v m r → IsShownWrite v r
  by_queue m i r found by same by_copy = by_end (nat_lt m.place.number (counts_of v m.queue).ended) refl where
    by_end : (t : Bool) → nat_lt m.place.number (counts_of v m.queue).ended ≡ t → IsShownWrite v r
    by_end true less = copy_shown v m i r begins found by by_copy (grind (arith, less))
    by_end false less =
        let late : (counts_of v m.queue).ended ≤ m.place.number = grind (arith, less) in
        absurd (by_copy.at.some (finished m.place.number by_copy.batch (subst (λ x. batch_in x m.place.number v.journal ≡ Some by_copy.batch) same by_copy.found)
        (subst (λ x. (counts_of v x).ended ≤ m.place.number) same late)))

  shown : (i : ℕ) (r : DoneAccess) → slice_get v.accesses i ≡ Some r → IsShownWrite v r
  shown i r found = by_maker r.by refl where
    owner : HasOwner v.plan v.done v.journal r
    owner = each_got (HasOwner v.plan v.done v.journal) v.accesses i r begins.owned found

    by_maker : (o : Option Maker) → r.by ≡ o → IsShownWrite v r
    by_maker None by = λ w.
        let host : is_host r ≡ true = rw by refl in
        or_left (is_host r) (list_any (λ x. sees x host_stage host_reads (start_of (counts_of v x).ended) r) (up_to 0 (length v.queues))) host
    by_maker (Some m) by =
        let same : m.queue ≡ q = queue_of v q is i r m found by in
        by_queue m i r found by same (copied v m r (subst (λ x. (n : ℕ) (b : Batch) → batch_in x n v.journal ≡ Some b → IsSimple b) (sym same) is.simple) owner by)

pub host_reads_settled : (v : Machine) (q : ℕ) (buffer first count : ℕ) (words : List (List ℕ)) → Begins v → IsSettled v q → HasFinished v q → AreKnown v words →
    host_numbers v buffer first count ≡ known_numbers (range_of first count (get_or words buffer []))
host_reads_settled v q buffer first count words begins is finished known = host_reads_known v buffer first count words (writes_shown v q begins is finished) known
