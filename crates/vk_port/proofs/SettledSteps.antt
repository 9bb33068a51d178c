-- A queue is settled at first, and stays so.
use Rattle.std.proofs.Common.{◌≡◌, ℕ, ◌+◌, ◌≤◌, ◌==◌, ◌∙◌, Bool, true, false, ◌&&◌, ◌⊎◌, inl, inr, List, [], ◌∷◌, ◌++◌, length, map, refl, sym, ap, subst, arith, cond, Option, Some, None}
use Rattle.std.proofs.lemmas.Bool.{and_parts, eqb-true, false≢true}
use Rattle.std.proofs.lemmas.Option.{none-some}
use Rattle.dx_base.specs.Each.{Each}
use Rattle.dx_base.proofs.Each.{each_append, each_none}
use Rattle.vk_types.specs.declared.batches.Batch.{Batch}
use Rattle.vk_types.specs.declared.commands.VkCommand.{VkCommand}
use Rattle.vk_types.specs.declared.steps.VkStep.{VkStep}
use Rattle.vk_types.specs.declared.steps.VkStep.TheVariants.{Submit, Pass, Command, Bump, HostWrite, HostRead, Update}
use Rattle.vk_sync_rules.specs.declared.accesses.DoneAccess.{DoneAccess}
use Rattle.vk_sync_rules.specs.declared.accesses.Maker.{Maker}
use Rattle.vk_sync_rules.specs.declared.counts.Counts.{Counts}
use Rattle.vk_sync_rules.specs.declared.places.Place.{Place}
use Rattle.vk_sync_rules.specs.declared.rules.VkRule.{VkRule}
use Rattle.vk_sync_rules.specs.AccessSets.{all_accesses, all_stages}
use Rattle.vk_sync_rules.specs.DoneAccesses.{after_bump, after_pass, after_submit, is_covered, is_ended, is_host, start_of}
use Rattle.vk_sync_rules.specs.EnabledSteps.{is_enabled}
use Rattle.vk_sync_rules.specs.FirstState.{Begins, IsFirst}
use Rattle.vk_sync_rules.specs.Growth.{Grows}
use Rattle.vk_sync_rules.specs.HostAccesses.{IsHosted}
use Rattle.vk_sync_rules.specs.Makers.{HasOwner}
use Rattle.vk_sync_rules.specs.NextState.{after_run, host_made, kept_by, made_at, maker_of, moved, sets_in, waits_in}
use Rattle.vk_sync_rules.specs.Rules.{after_step}
use Rattle.vk_sync_rules.specs.Runs.{Fits}
use Rattle.vk_sync_rules.specs.VkState.{VkState as Machine, batch_in, counts_of, no_counts}
use Rattle.vk_sync_rules.proofs.Barriers.{new_host, new_made}
use Rattle.vk_sync_rules.proofs.BatchEnds.{enabled_end}
use Rattle.vk_sync_rules.proofs.FirstState.{submissions_host}
use Rattle.vk_sync_rules.proofs.Growth.{grows_bump, grows_command, grows_where}
use Rattle.vk_sync_rules.proofs.Soundness.{changed_cases, enabled_command, kept_field, same_item}
use Rattle.vk_port.specs.Settled.{IsOfQueue, IsSettled, IsSimple, Suits}

pub first_settled : (v : Machine) (q : ℕ) → IsFirst v → IsSettled v q
first_settled v q is = record {
  alone = each_none (IsOfQueue q) v.accesses is.accesses;
  simple = λ n b h. no_batch n b h;
  hosted = λ n b h less. no_batch n b h;
} where
  no_batch : {P : Type 0} (n : ℕ) (b : Batch) → batch_in q n v.journal ≡ Some b → P
  no_batch n b h = absurd (none-some b (subst (λ (j : List Batch). batch_in q n j ≡ Some b) is.journal h))

-- a fact of accesses that stays, as they grow
abbrev Stays : Machine → (DoneAccess → Type 0) → Type 0
Stays v P = (r s : DoneAccess) → HasOwner v.plan v.done v.journal r → Grows r s → P r → P s

of_queue_stays : (v : Machine) (q : ℕ) → Stays v (IsOfQueue q)
of_queue_stays v q r s owner grows is m by = is m (sym grows.by ∙ by)

host_by : (r : DoneAccess) → is_host r ≡ true → r.by ≡ None
host_by r h = by_maker r.by refl h where
  by_maker : (o : Option Maker) → r.by ≡ o → elim o [ None ↦ true | Some m ↦ false ] ≡ true → r.by ≡ None
  by_maker None e h = e
  by_maker (Some m) e h = absurd (false≢true h)

hosted_stays : (v : Machine) (q n : ℕ) → Stays v (IsHosted q n)
hosted_stays v q n r s owner grows is = record {
  order = λ stages h m. grows.order q stages (start_of n) (is.order stages (host h) m);
  sight = λ stages accesses h w available m a. grows.sight q stages accesses (start_of n) (is.sight stages accesses (host h) (writes w) (owner.host (host_by r (host h)) (writes w)) m a);
} where
  host : is_host s ≡ true → is_host r ≡ true
  host h = subst (λ (o : Option Maker). elim o [ None ↦ true | Some m ↦ false ] ≡ true) grows.by h

  writes : s.writes ≡ true → r.writes ≡ true
  writes w = sym grows.writes ∙ w

-- each access after a step, where a fact stays
module _ (v : Machine) (P : DoneAccess → Type 0) (stays : Stays v P) (begins : Begins v) (all : Each P v.accesses) where
  mapped : (f : DoneAccess → DoneAccess) → ((r : DoneAccess) → Grows r (f r)) → Each P (map f v.accesses)
  mapped f grows = go v.accesses begins.owned all where
    go : (rs : List DoneAccess) → Each (HasOwner v.plan v.done v.journal) rs → Each P rs → Each P (map f rs)
    go [] owned all = tt
    go (r ∷ rs) owned all = (stays r (f r) owned.0 (grows r) all.0, go rs owned.1 all.1)

  each_submitted : (b : Batch) → Each P (map (after_submit b.queue b.number) v.accesses)
  each_submitted b = mapped (after_submit b.queue b.number) (λ r. grows_where (is_host r) b.queue (start_of b.number) all_stages all_accesses r)

  each_passed : (p n : ℕ) (waits : List (ℕ × ℕ)) → Each P (map (after_pass p n waits) v.accesses)
  each_passed p n waits = mapped (after_pass p n waits) (λ r. grows_where (is_covered waits r.signals) p (start_of n) all_stages all_accesses r)

  each_ended : (p n : ℕ) (sets : List (ℕ × ℕ)) → Each P (map (after_bump p n sets) v.accesses)
  each_ended p n sets = mapped (after_bump p n sets) (λ r. grows_bump (is_ended p n r) p n sets r refl)

  each_run : (p : ℕ) (here : Place) (loaded : List ℕ) (c : VkCommand) → Each P (made_at v p here loaded c) → Each P (map (kept_by p here c) v.accesses ++ made_at v p here loaded c)
  each_run p here loaded c new = each_append P (map (kept_by p here c) v.accesses) (made_at v p here loaded c) (mapped (kept_by p here c) (grows_command p here c)) new

-- what a command makes is of its queue, and no access of the host
of_maker : (q : ℕ) (p : Place) (c : VkCommand) (m : Maker) → Some (maker_of q p c) ≡ Some m → m.queue ≡ q
of_maker q p c m by = sym (ap (λ (x : Maker). x.queue) (same_item (maker_of q p c) m by))

made_of_queue : (v : Machine) (q : ℕ) (p : Place) (loaded : List ℕ) (c : VkCommand) → Each (IsOfQueue q) (made_at v q p loaded c)
made_of_queue v q p loaded c =
    new_made (IsOfQueue q) v q p loaded c (λ work range writes access is m by. of_maker q p c m by)
    (λ from made to seen change e s at m by. sym (ap (λ (x : Maker). x.queue) (same_item _ m by)))

made_hosted : (v : Machine) (q n q2 : ℕ) (p : Place) (loaded : List ℕ) (c : VkCommand) → Each (IsHosted q n) (made_at v q2 p loaded c)
made_hosted v q n q2 p loaded c =
    new_made (IsHosted q n) v q2 p loaded c (λ work range writes access is. record { order = λ stages h m. absurd (false≢true h); sight = λ stages accesses h w available m a. absurd (false≢true h) })
    (λ from made to seen change e s at. record { order = λ stages h m. absurd (false≢true h); sight = λ stages accesses h w available m a. absurd (false≢true h) })

host_of_queue : (v : Machine) (q : ℕ) (writes : Bool) (buffer first count : ℕ) → Each (IsOfQueue q) (host_made v writes buffer first count)
host_of_queue v q writes buffer first count = new_host (IsOfQueue q) v writes buffer first count (λ m by. absurd (none-some m by))

-- the batch of a journal with one more
batch_new : (q n : ℕ) (j : List Batch) (b c : Batch) → batch_in q n (j ++ b ∷ []) ≡ Some c → (batch_in q n j ≡ Some c) ⊎ ((b.queue ≡ q) × (b.number ≡ n) × (b ≡ c))
batch_new q n [] b c h = by_test ((b.queue == q) && (b.number == n)) refl h where
  by_test : (t : Bool) → ((b.queue == q) && (b.number == n)) ≡ t → cond t (Some b) None ≡ Some c → (None ≡ Some c) ⊎ ((b.queue ≡ q) × (b.number ≡ n) × (b ≡ c))
  by_test true e h = let parts = and_parts (b.queue == q) (b.number == n) e in inr (eqb-true b.queue q parts.0, eqb-true b.number n parts.1, same_item b c h)
  by_test false e h = inl h
batch_new q n (x ∷ j) b c h = by_test ((x.queue == q) && (x.number == n)) (batch_new q n j b c) h where
  by_test : (t : Bool) → (batch_in q n (j ++ b ∷ []) ≡ Some c → (batch_in q n j ≡ Some c) ⊎ ((b.queue ≡ q) × (b.number ≡ n) × (b ≡ c))) → cond t (Some x) (batch_in q n (j ++ b ∷ [])) ≡ Some c →
      (cond t (Some x) (batch_in q n j) ≡ Some c) ⊎ ((b.queue ≡ q) × (b.number ≡ n) × (b ≡ c))
  by_test true rest h = inl h
  by_test false rest h = rest h

module _ (v : Machine) (q : ℕ) (begins : Begins v) (is : IsSettled v q) where
  -- the host's accesses are ordered before a batch, whatever becomes of them
  still_hosted : (n : ℕ) (b : Batch) (rs : List DoneAccess) → (Each (IsHosted q n) v.accesses → Each (IsHosted q n) rs) → batch_in q n v.journal ≡ Some b → (counts_of v q).ended ≤ n →
      (b.commands ≡ []) ⊎ Each (IsHosted q n) rs
  still_hosted n b rs keep found less = elim (is.hosted n b found less) [ inl none ↦ inl none | inr all ↦ inr (keep all) ]

  settled_submit : (b : Batch) → (b.queue ≡ q → IsSimple b) → IsSettled (moved v (Submit b)) q
  settled_submit b suits = record {
    alone = each_submitted v (IsOfQueue q) (of_queue_stays v q) begins is.alone b;
    simple = λ n c h. elim (batch_new q n v.journal b c h) [
      | inl old ↦ is.simple n c old
      | inr new ↦ subst (λ x. IsSimple x) new.2 (suits new.0)
    ];
    hosted = λ n c h less. elim (batch_new q n v.journal b c h) [
      | inl old ↦ still_hosted n c (map (after_submit b.queue b.number) v.accesses) (λ all. each_submitted v (IsHosted q n) (hosted_stays v q n) begins all b) old (subst (λ k. k ≤ n) same less)
      | inr new ↦ inr (subst (λ x. Each (IsHosted x n) (map (after_submit b.queue b.number) v.accesses)) new.0
          (subst (λ m. Each (IsHosted b.queue m) (map (after_submit b.queue b.number) v.accesses)) new.1 (submissions_host v b)))
    ];
  } where
    same : (counts_of (moved v (Submit b)) q).ended ≡ (counts_of v q).ended
    same = kept_field (λ (c : Counts). c.ended) (λ (c : Counts). record c { submitted = b.number + 1 }) b.queue v.queues q no_counts (λ x. refl)

  settled_pass : (p n : ℕ) → IsSettled (moved v (Pass p n)) q
  settled_pass p n = record {
    alone = each_passed v (IsOfQueue q) (of_queue_stays v q) begins is.alone p n waits;
    simple = is.simple;
    hosted = λ m c h less. still_hosted m c (map (after_pass p n waits) v.accesses) (λ all. each_passed v (IsHosted q m) (hosted_stays v q m) begins all p n waits) h (subst (λ k. k ≤ m) same less);
  } where
    waits : List (ℕ × ℕ)
    waits = waits_in (batch_in p n v.journal)

    same : (counts_of (moved v (Pass p n)) q).ended ≡ (counts_of v q).ended
    same = kept_field (λ (c : Counts). c.ended) (λ (c : Counts). record c { passed = n + 1 }) p v.queues q no_counts (λ x. refl)

  settled_run : (here : Place) (loaded : List ℕ) (c : VkCommand) → IsSettled (after_run v q here loaded (Some c)) q
  settled_run here loaded c = record {
    alone = each_run v (IsOfQueue q) (of_queue_stays v q) begins is.alone q here loaded c (made_of_queue v q here loaded c);
    simple = is.simple;
    hosted = λ m b h less. still_hosted m b (map (kept_by q here c) v.accesses ++ made_at v q here loaded c)
        (λ all. each_run v (IsHosted q m) (hosted_stays v q m) begins all q here loaded c (made_hosted v q m q here loaded c)) h less;
  }

  settled_command : (n k : ℕ) (loaded : List ℕ) → is_enabled v (Command q n k loaded) ≡ true → IsSettled (moved v (Command q n k loaded)) q
  settled_command n k loaded enabled =
      let e = enabled_command v q n k loaded enabled in
      let here : Place = record { number = n; index = k } in
      subst (λ o. IsSettled (after_run v q here loaded o) q) (sym e.2.1) (settled_run here loaded e.2.0)

  settled_end : (p n : ℕ) → n ≡ (counts_of v p).ended → IsSettled (moved v (Bump p n)) q
  settled_end p n first = record {
    alone = each_ended v (IsOfQueue q) (of_queue_stays v q) begins is.alone p n sets;
    simple = is.simple;
    hosted = λ m c h less. still_hosted m c (map (after_bump p n sets) v.accesses) (λ all. each_ended v (IsHosted q m) (hosted_stays v q m) begins all p n sets) h (later m less);
  } where
    sets : List (ℕ × ℕ)
    sets = sets_in (batch_in p n v.journal)

    later : (m : ℕ) → (counts_of (moved v (Bump p n)) q).ended ≤ m → (counts_of v q).ended ≤ m
    later m less = elim (changed_cases (λ (c : Counts). record c { ended = n + 1 }) p v.queues q no_counts) [
      | inl same ↦ subst (λ (c : Counts). c.ended ≤ m) same less
      | inr here ↦
          let past : n + 1 ≤ m = subst (λ (c : Counts). c.ended ≤ m) here.1 less in
          let at : n ≡ (counts_of v q).ended = first ∙ ap (λ x. (counts_of v x).ended) (sym here.0) in
          omega (arith, past, at)
    ]

  settled_broken : (u : Machine) (b : Option VkRule) → IsSettled u q → IsSettled (record u { broken = b }) q
  settled_broken u b is = record { alone = is.alone; simple = is.simple; hosted = is.hosted }

pub stays_settled : (v : Machine) (q : ℕ) (s : VkStep) → Begins v → IsSettled v q → is_enabled v s ≡ true → Fits v s → Suits v q s → IsSettled (after_step v s) q
stays_settled v q (Submit b) begins is enabled fits suits = settled_broken v q begins is (moved v (Submit b)) _ (settled_submit v q begins is b suits)
stays_settled v q (Pass p n) begins is enabled fits suits = settled_broken v q begins is (moved v (Pass p n)) _ (settled_pass v q begins is p n)
stays_settled v q (Command p n k loaded) begins is enabled fits suits =
    subst (λ x. IsSettled (after_step v (Command x n k loaded)) q) (sym suits)
    (settled_broken v q begins is (moved v (Command q n k loaded)) _ (settled_command v q begins is n k loaded (subst (λ x. is_enabled v (Command x n k loaded) ≡ true) suits enabled)))
stays_settled v q (Bump p n) begins is enabled fits suits = settled_broken v q begins is (moved v (Bump p n)) _ (settled_end v q begins is p n (enabled_end v p n enabled).0)
stays_settled v q (HostWrite buffer first words) begins is enabled fits suits = record {
  alone = each_append (IsOfQueue q) v.accesses (host_made v true buffer first (length words)) is.alone (host_of_queue v q true buffer first (length words));
  simple = is.simple;
  hosted = λ n b found less. inl (suits n b found less);
}
stays_settled v q (HostRead buffer first words) begins is enabled fits suits = record {
  alone = each_append (IsOfQueue q) v.accesses (host_made v false buffer first (length words)) is.alone (host_of_queue v q false buffer first (length words));
  simple = is.simple;
  hosted = λ n b found less. inl (suits n b found less);
}
stays_settled v q (Update heap slot) begins is enabled fits suits = record { alone = is.alone; simple = is.simple; hosted = is.hosted }
