-- What enters a batch, and that it comes before the batch's commands.
use Rattle.std.proofs.Common.{◌≡◌, ℕ, ◌<◌, ◌==◌, ◌∙◌, Bool, true, false, ◌&&◌, ◌||◌, ◌⊎◌, inl, inr, List, [], ◌∷◌, ◌++◌, map, slice_get, refl, sym, ap, subst, arith, Option, Some, None, eq-eqb}
use Rattle.std.specs.List.{flat_map}
use Rattle.std.specs.Prelude.{cond}
use Rattle.std.proofs.lemmas.Bool.{and_parts, and_from, or_cases, or_right, or_left, false≢true}
use Rattle.dx_base.specs.Each.{Each}
use Rattle.dx_base.proofs.Each.{each_append, each_flat, each_got, each_new}
use Rattle.vk_types.specs.declared.accesses.Accesses.{Accesses}
use Rattle.vk_types.specs.declared.commands.VkCommand.{VkCommand}
use Rattle.vk_types.specs.declared.commands.VkCommand.TheVariants.{Barrier, Copy, CopyImage, CopyIn, CopyOut, Clear, Dispatch}
use Rattle.vk_types.specs.declared.layouts.Change.{Change}
use Rattle.vk_types.specs.declared.plan.DevicePlan.{DevicePlan}
use Rattle.vk_types.specs.declared.registers.Count.{Count}
use Rattle.dx_base.specs.declared.kinds.Routine.{Routine}
use Rattle.vk_types.specs.declared.stages.Stages.{Stages}
use Rattle.vk_types.specs.declared.steps.VkStep.TheVariants.{Command}
use Rattle.vk_types.specs.Stages.{meets}
use Rattle.routines.specs.declared.uses.Extent.{Extent}
use Rattle.routines.specs.Uses.{uses_of, words_used}
use Rattle.vk_sync_rules.specs.declared.accesses.DoneAccess.{DoneAccess}
use Rattle.vk_sync_rules.specs.declared.accesses.Maker.{Maker}
use Rattle.vk_sync_rules.specs.declared.places.Place.{Place}
use Rattle.vk_sync_rules.specs.declared.ranges.WordRange.{WordRange}
use Rattle.vk_sync_rules.specs.AccessSets.{all_accesses, all_stages, every_write, is_some_access, no_accesses, shader_reads, share, storage_reads, storage_writes, uniform_reads}
use Rattle.vk_sync_rules.specs.Barriers.{AreBehind, IsBehind, to_all}
use Rattle.vk_sync_rules.specs.BatchEnds.{IsReached}
use Rattle.vk_sync_rules.specs.Commands.{pieces, pieces_of_registers}
use Rattle.vk_sync_rules.specs.Copies.{CopiedRow, copied_rows, sides_of}
use Rattle.vk_sync_rules.specs.Dispatches.{DispatchViews, is_word, most_of, piece_of, pieces_of_dispatch, views_of, word_of_count}
use Rattle.vk_sync_rules.specs.DoneAccesses.{is_covered, is_direct, is_ended, is_host, is_made_available, ordered, reaches, start_of}
use Rattle.vk_sync_rules.specs.EnabledSteps.{is_enabled}
use Rattle.vk_sync_rules.specs.Entries.{Enters, IsCovered, IsMadeBy, leading_of}
use Rattle.vk_sync_rules.specs.HostAccesses.{IsHosted}
use Rattle.vk_sync_rules.specs.Makers.{HasOwner, IsChanged, IsOfPiece, IsOwned}
use Rattle.vk_sync_rules.specs.Orders.{orders, sort_of}
use Rattle.vk_sync_rules.specs.Pieces.{Piece}
use Rattle.vk_sync_rules.specs.Places.{is_before}
use Rattle.vk_sync_rules.specs.Registers.{answer_of, slots_of}
use Rattle.vk_sync_rules.specs.Soundness.{IsSound}
use Rattle.vk_sync_rules.specs.VkState.{VkState, command_at, is_done}
use Rattle.vk_sync_rules.proofs.Gains.{direct_of, ordered_later, reaches_later, scope_ends, sees_later, sees_reaches}
use Rattle.vk_sync_rules.proofs.Soundness.{enabled_command, free_gives, same_item}

-- MEMORY_WRITE stands for each access by which a piece writes
abbrev pub WritesAll : Piece → Type 0
WritesAll x = is_some_access x.writes ≡ true → share every_write x.writes ≡ true

sides_write : (row : CopiedRow) → Each WritesAll (sides_of row)
sides_write row = ((λ h. absurd (false≢true h)), ((λ h. refl), tt))

piece_writes : (view : Option WordRange) (extent : Extent) (n : ℕ) (reads writes : Accesses) → (is_some_access writes ≡ true → share every_write writes ≡ true) → Each WritesAll (piece_of view extent n reads writes)
piece_writes None extent n reads writes h = tt
piece_writes (Some range) extent n reads writes h = by_test (words_used extent n range.count == 0) where
  by_test : (t : Bool) → Each WritesAll (cond t [] (record { range = record range { count = words_used extent n range.count }; reads = reads; writes = writes; named = None } ∷ []))
  by_test true = tt
  by_test false = (h, tt)

-- what a dispatch touches
module _ (routine : Routine) (count : Count) (views : DispatchViews) where
  abbrev piece_at : Option WordRange → Extent → Accesses → Accesses → List Piece
  piece_at view extent reads writes = piece_of view extent (most_of count) reads writes

  abbrev read_at : Option WordRange → Extent → Accesses → List Piece
  read_at view extent reads = piece_at view extent reads no_accesses

  read_writes : (view : Option WordRange) (extent : Extent) (reads : Accesses) → Each WritesAll (read_at view extent reads)
  read_writes view extent reads = piece_writes view extent (most_of count) reads no_accesses (λ h. absurd (false≢true h))

  abbrev count_piece : WordRange → Piece
  count_piece word = record { range = word; reads = shader_reads; writes = no_accesses; named = None }

  abbrev u0_reads : Accesses
  u0_reads = cond ((uses_of routine).updates || is_word count) storage_reads no_accesses

  dispatch_write : Each WritesAll (pieces_of_dispatch routine count views)
  dispatch_write =
      each_append WritesAll (map count_piece (word_of_count count))
      (read_at views.t0 (uses_of routine).t0 shader_reads ++ (read_at views.t1 (uses_of routine).t1 shader_reads ++ (read_at views.b0 (uses_of routine).b0 uniform_reads ++ piece_at views.u0 (uses_of routine).u0 u0_reads storage_writes)))
      (each_new WritesAll count_piece (λ word h. absurd (false≢true h)) (word_of_count count))
      (each_append WritesAll (read_at views.t0 (uses_of routine).t0 shader_reads)
      (read_at views.t1 (uses_of routine).t1 shader_reads ++ (read_at views.b0 (uses_of routine).b0 uniform_reads ++ piece_at views.u0 (uses_of routine).u0 u0_reads storage_writes))
      (read_writes views.t0 (uses_of routine).t0 shader_reads)
      (each_append WritesAll (read_at views.t1 (uses_of routine).t1 shader_reads)
      (read_at views.b0 (uses_of routine).b0 uniform_reads ++ piece_at views.u0 (uses_of routine).u0 u0_reads storage_writes)
      (read_writes views.t1 (uses_of routine).t1 shader_reads)
      (each_append WritesAll (read_at views.b0 (uses_of routine).b0 uniform_reads) (piece_at views.u0 (uses_of routine).u0 u0_reads storage_writes)
      (read_writes views.b0 (uses_of routine).b0 uniform_reads)
      (piece_writes views.u0 (uses_of routine).u0 (most_of count) u0_reads storage_writes (λ h. refl)))))

registers_write : (plan : DevicePlan) (loaded : List ℕ) (c : VkCommand) → Each WritesAll (pieces_of_registers plan loaded c)
registers_write plan loaded (Barrier from made to seen change) = tt
registers_write plan loaded (Copy to to_first from from_first words) = tt
registers_write plan loaded (CopyImage to to_sub to_layout from from_sub from_layout) = tt
registers_write plan loaded (CopyIn image sub layout buffer first pitch) = tt
registers_write plan loaded (CopyOut buffer first pitch image sub layout) = tt
registers_write plan loaded (Clear target word) = by_view _ where
  by_view : (view : Option WordRange) → Each WritesAll (elim view [ None ↦ [] | Some range ↦ record { range = range; reads = no_accesses; writes = storage_writes; named = None } ∷ [] ])
  by_view None = tt
  by_view (Some range) = ((λ h. refl), tt)
registers_write plan loaded (Dispatch routine count t0 t1 u0 b0) = dispatch_write routine count (views_of plan (answer_of (slots_of (Dispatch routine count t0 t1 u0 b0)) loaded) t0 t1 u0 b0)

pub pieces_write : (plan : DevicePlan) (loaded : List ℕ) (c : VkCommand) → Each WritesAll (pieces plan loaded c)
pieces_write plan loaded c =
    each_append WritesAll (flat_map sides_of (copied_rows plan c)) (pieces_of_registers plan loaded c) (each_flat WritesAll sides_of sides_write (copied_rows plan c)) (registers_write plan loaded c)

-- the write of a piece is one of MEMORY_WRITE
pub write_of_piece : (plan : DevicePlan) (loaded : List ℕ) (c : VkCommand) (r : DoneAccess) → IsOfPiece (pieces plan loaded c) r → r.writes ≡ true → share every_write r.access ≡ true
write_of_piece plan loaded c r is w =
    let same : r.access ≡ is.piece.writes = is.access ∙ ap (λ t. cond t is.piece.writes is.piece.reads) w in
    subst (λ a. share every_write a ≡ true) (sym same)
    (each_got WritesAll (pieces plan loaded c) is.place is.piece (pieces_write plan loaded c) is.there (subst (λ a. is_some_access a ≡ true) same is.some))

-- a command that gives no stage of the device to others is a barrier
barrier_or_work : (c : VkCommand) → ((sort_of c).is_barrier ≡ false) ⊎ ((from : Stages) × (made : Accesses) × (to : Stages) × (seen : Accesses) × (change : Option Change) × (c ≡ Barrier from made to seen change))
barrier_or_work (Barrier from made to seen change) = inr (from, made, to, seen, change, refl)
barrier_or_work (Copy to to_first from from_first words) = inl refl
barrier_or_work (CopyImage to to_sub to_layout from from_sub from_layout) = inl refl
barrier_or_work (CopyIn image sub layout buffer first pitch) = inl refl
barrier_or_work (CopyOut buffer first pitch image sub layout) = inl refl
barrier_or_work (Clear target word) = inl refl
barrier_or_work (Dispatch routine count t0 t1 u0 b0) = inl refl

-- what is ordered at an earlier place of the queue, and reaches it, enters
enters_from : (q n : ℕ) (p : Place) (r : DoneAccess) → is_before p (leading_of n) ≡ true → ordered q all_stages p r ≡ true → (r.writes ≡ true → reaches q all_stages p r ≡ true) → Enters q n r
enters_from q n p r before order reach = record {
  scope = or_right (is_direct q all_stages (leading_of n) r) (ordered q all_stages (leading_of n) r) (ordered_later q all_stages p (leading_of n) r before order);
  ready = λ w. or_right (is_made_available q (leading_of n) all_stages every_write r) (reaches q all_stages (leading_of n) r) (reaches_later q all_stages p (leading_of n) r before (reach w));
}

pub earlier_enter : (v : VkState) (m : Maker) (n : ℕ) (r : DoneAccess) → HasOwner v.plan v.done v.journal r → IsMadeBy v m r → m.place.number < n → Enters m.queue n r
earlier_enter v m n r has by less = by_sort (barrier_or_work o.command) where
  o : IsOwned v.plan v.done v.journal m r
  o = has.own m by.is

  device : meets (sort_of o.command).gives all_stages ≡ true
  device = subst (λ c. meets (sort_of c).gives all_stages ≡ true) (same_item by.command o.command (sym by.there ∙ o.there)) by.device

  before : is_before m.place (leading_of n) ≡ true
  before = grind (arith, less)

  by_sort : ((sort_of o.command).is_barrier ≡ false) ⊎ ((from : Stages) × (made : Accesses) × (to : Stages) × (seen : Accesses) × (change : Option Change) × (o.command ≡ Barrier from made to seen change)) → Enters m.queue n r
  by_sort (inl work) =
      let direct : is_direct m.queue all_stages (leading_of n) r ≡ true =
      direct_of m.queue all_stages (leading_of n) r m by.is
      (and_from (m.queue == m.queue) (meets m.stage all_stages && is_before m.place (leading_of n)) (eq-eqb m.queue m.queue refl)
      (and_from (meets m.stage all_stages) (is_before m.place (leading_of n)) (subst (λ s. meets s all_stages ≡ true) (sym (o.plain work)) device) before)) in
      record {
        scope = or_left (is_direct m.queue all_stages (leading_of n) r) (ordered m.queue all_stages (leading_of n) r) direct;
        ready = λ w. or_left (is_made_available m.queue (leading_of n) all_stages every_write r) (reaches m.queue all_stages (leading_of n) r)
            (and_from (is_direct m.queue all_stages (leading_of n) r) (share every_write r.access) direct (write_of_piece v.plan (o.piece work).0 o.command r (o.piece work).1 w));
      }
  by_sort (inr (from, made, to, seen, change, e)) =
      let ch : IsChanged v.plan m.queue m.place to seen change r = o.changed from made to seen change e in
      let meet : meets to all_stages ≡ true = subst (λ c. meets (sort_of c).gives all_stages ≡ true) e device in
      enters_from m.queue n m.place r before (ch.order all_stages meet) (λ w. ch.reach all_stages meet)

start_before : (n : ℕ) → is_before (start_of n) (leading_of n) ≡ true
start_before n = grind arith

host_is : (r : DoneAccess) → r.by ≡ None → is_host r ≡ true
host_is r e = rw e refl

pub host_enters : (v : VkState) (q n : ℕ) (r : DoneAccess) → HasOwner v.plan v.done v.journal r → r.by ≡ None → IsHosted q n r → Enters q n r
host_enters v q n r has e is =
    enters_from q n (start_of n) r (start_before n) (is.order all_stages (host_is r e) refl)
    (λ w. sees_reaches q all_stages all_accesses (start_of n) r (is.sight all_stages all_accesses (host_is r e) w (has.host e w) refl refl))

pub waits_enter : (q n : ℕ) (waits : List (ℕ × ℕ)) (r : DoneAccess) → IsReached q n waits r → is_covered waits r.signals ≡ true → Enters q n r
waits_enter q n waits r is h =
    enters_from q n (start_of n) r (start_before n) (is.order all_stages h refl)
    (λ w. sees_reaches q all_stages all_accesses (start_of n) r (is.sight all_stages all_accesses h w refl refl))

-- made before a place, also before a later one
direct_later : (q : ℕ) (p d : Place) (o : Option Maker) → is_before p d ≡ true → elim o [ None ↦ false | Some m ↦ (m.queue == q) && (meets m.stage all_stages && is_before m.place p) ] ≡ true →
    elim o [ None ↦ false | Some m ↦ (m.queue == q) && (meets m.stage all_stages && is_before m.place d) ] ≡ true
direct_later q p d None before h = h
direct_later q p d (Some m) before h =
    let one = and_parts (m.queue == q) (meets m.stage all_stages && is_before m.place p) h in
    let two = and_parts (meets m.stage all_stages) (is_before m.place p) one.1 in
    and_from (m.queue == q) (meets m.stage all_stages && is_before m.place d) one.0 (and_from (meets m.stage all_stages) (is_before m.place d) two.0 (let three = two.1 in grind (arith, three, before)))

pub entered_stay : (q n m : ℕ) (r : DoneAccess) → n < m → Enters q n r → Enters q m r
entered_stay q n m r less is = record {
  scope = elim (or_cases (is_direct q all_stages (leading_of n) r) (ordered q all_stages (leading_of n) r) is.scope) [
    | inl direct ↦ or_left (is_direct q all_stages (leading_of m) r) (ordered q all_stages (leading_of m) r) (direct_later q (leading_of n) (leading_of m) r.by before direct)
    | inr order ↦ or_right (is_direct q all_stages (leading_of m) r) (ordered q all_stages (leading_of m) r) (ordered_later q all_stages (leading_of n) (leading_of m) r before order)
  ];
  ready = λ w. elim (or_cases (is_made_available q (leading_of n) all_stages every_write r) (reaches q all_stages (leading_of n) r) (is.ready w)) [
    | inl both ↦ or_left (is_made_available q (leading_of m) all_stages every_write r) (reaches q all_stages (leading_of m) r)
        (let parts = and_parts (is_direct q all_stages (leading_of n) r) (share every_write r.access) both in
        and_from (is_direct q all_stages (leading_of m) r) (share every_write r.access) (direct_later q (leading_of n) (leading_of m) r.by before parts.0) parts.1)
    | inr reach ↦ or_right (is_made_available q (leading_of m) all_stages every_write r) (reaches q all_stages (leading_of m) r) (reaches_later q all_stages (leading_of n) (leading_of m) r before reach)
  ];
} where
  before : is_before (leading_of n) (leading_of m) ≡ true
  before = grind (arith, less)

-- what enters a batch ends with it
pub entered_end : (q n : ℕ) (r : DoneAccess) → Enters q n r → is_ended q n r ≡ true
entered_end q n r is = scope_ends q all_stages (leading_of n) r is.scope

-- a batch's commands that can run come behind its leading barrier
leading_done : (v : VkState) (q n k : ℕ) (loaded : List ℕ) (c : VkCommand) → command_at v q (leading_of n) ≡ Some to_all → 1 < k →
    command_at v q (record { number = n; index = k }) ≡ Some c → meets all_stages (sort_of c).takes ≡ true → is_enabled v (Command q n k loaded) ≡ true → is_done v.done q (leading_of n) ≡ true
leading_done v q n k loaded c leading less has device enabled =
    let e = enabled_command v q n k loaded enabled in
    let same : e.2.0 ≡ c = same_item e.2.0 c (sym e.2.1 ∙ has) in
    free_gives v.done q (record { number = n; index = k }) (leading_of n) e.2.0 to_all v.journal e.2.2 leading (grind (arith, less))
    (subst (λ z. orders (sort_of to_all) (sort_of z) ≡ true) (sym same) device)

pub entered_covered : (v : VkState) (q n k : ℕ) (loaded : List ℕ) (c : VkCommand) → IsSound v → AreBehind v → command_at v q (leading_of n) ≡ Some to_all → 1 < k →
    command_at v q (record { number = n; index = k }) ≡ Some c → meets all_stages (sort_of c).takes ≡ true → is_enabled v (Command q n k loaded) ≡ true →
    (i : ℕ) (r : DoneAccess) → slice_get v.accesses i ≡ Some r → Enters q n r → IsCovered q (record { number = n; index = k }) r
entered_covered v q n k loaded c sound are leading less has device enabled i r found enters = record {
  order = λ stages u. ordered_later q stages (leading_of n) at r before (here.order stages enters.scope u);
  reach = λ stages w u. reaches_later q stages (leading_of n) at r before (here.reach stages w (enters.ready w) u);
  sight = λ stages accesses w u a. sees_later q stages accesses (leading_of n) at r before (here.sight stages accesses w (enters.ready w) u a);
} where
  at : Place
  at = record { number = n; index = k }

  before : is_before (leading_of n) at ≡ true
  before = grind (arith, less)

  here : IsBehind q (leading_of n) all_stages every_write all_stages all_accesses r
  here = each_got (IsBehind q (leading_of n) all_stages every_write all_stages all_accesses) v.accesses i r
      (are.behind q (leading_of n) _ _ _ _ None leading (leading_done v q n k loaded c leading less has device enabled)) found
