-- The tables of one subresource tell as much of B1 and B10 as the list of all that was touched.
use Rattle.std.proofs.Common.{ℕ, zero, suc, arith, ◌≡◌, ◌<◌, ◌≤◌, ◌+◌, ◌==◌, ◌&&◌, ◌∙◌, refl, ap, sym, subst, List, [], ◌∷◌, ◌++◌, length, replicate, Bool, true, false, Option, Some, None, Result, Ok, Err}
use Rattle.std.specs.Result.{OnOk, OnErr}
use Rattle.std.proofs.lemmas.List.{length-replicate}
use Rattle.dx_base.specs.Each.{Each}
use Rattle.dx_base.specs.Lists.{changed_at}
use Rattle.dx_base.proofs.Each.{each_changed}
use Rattle.dx_base.proofs.Lists.{length_changed}
use Rattle.d3d_judge.proofs.CarriedClocks.{each_item}
use Rattle.clocks.specs.declared.clock.Clock.{Clock}
use Rattle.clocks.specs.Clocks.{OfQueue, OfThread}
use Rattle.d3d_judge.specs.Carried.{item_or}
use Rattle.d3d_judge.specs.Tables.{any_below, conflicts_in, is_of_queue, is_of_thread, OfQueues, OfThreads, number_of}
use Rattle.d3d_judge.specs.Touches.{Reads, Writes, Touch, conflict, breaks_one, breaks_ten}
use Rattle.d3d_judge.specs.ActorTables.{actor_above, AreTied, AreMade, raised_table, made_table}
use Rattle.d3d_judge.specs.SubTables.{doing_if, scopes_against, calls_against, IsTied, no_touches, IsWide, raised_if, after_scope, after_call, HasScopeTables, HasCallTables, KeepTies, IsWideIfThere, KeepShape, KeepSubTables}
use Rattle.word_trees.proofs.Numbers.{length_raised}
use Rattle.d3d_judge.specs.declared.sub_tables.SubTables.{SubTables}
use Rattle.d3d_judge.proofs.ActorTables.{queues_tell, threads_tell, tied_first, tied_made, tied_raised, tied_missed, item_here}
use Rattle.d3d_judge.proofs.Tables.{is_same, is_other}

-- a touch of words of a subresource
abbrev pub scope_touch : ℕ → ℕ → ℕ → ℕ → ℕ → ℕ → Bool → Touch
scope_touch r s q n first words writes = record { act = OfQueue q n; range = record { resource = r; sub = s; first = first; words = words }; doing = doing_if writes }

abbrev pub call_touch : ℕ → ℕ → ℕ → ℕ → ℕ → ℕ → Bool → Touch
call_touch r s t n first words writes = record { act = OfThread t n; range = record { resource = r; sub = s; first = first; words = words }; doing = doing_if writes }

-- B1 by the tables
pub scopes_tell : (r s n : ℕ) (clock : Clock) (made : List Touch) (t : Touch) (writes : Bool) (x : SubTables) → IsTied r s made x → OfQueues n made →
    t.range.resource ≡ r → t.range.sub ≡ s → t.doing ≡ doing_if writes →
    breaks_one clock made t ≡ any_below n (actor_above (scopes_against writes x) clock.queues t.range.first (t.range.first + t.range.words))
scopes_tell r s n clock made t true x h o er es ed =
    queues_tell n clock made t x.queue_touches o
    (subst (λ d. AreTied (λ q. conflicts_in (is_of_queue q) d t.range.resource t.range.sub) made x.queue_touches) (sym ed)
    (subst (λ y. AreTied (λ q. conflicts_in (is_of_queue q) Writes y t.range.sub) made x.queue_touches) (sym er)
    (subst (λ y. AreTied (λ q. conflicts_in (is_of_queue q) Writes r y) made x.queue_touches) (sym es) h.queue_touches)))
scopes_tell r s n clock made t false x h o er es ed =
    queues_tell n clock made t x.queue_writes o
    (subst (λ d. AreTied (λ q. conflicts_in (is_of_queue q) d t.range.resource t.range.sub) made x.queue_writes) (sym ed)
    (subst (λ y. AreTied (λ q. conflicts_in (is_of_queue q) Reads y t.range.sub) made x.queue_writes) (sym er)
    (subst (λ y. AreTied (λ q. conflicts_in (is_of_queue q) Reads r y) made x.queue_writes) (sym es) h.queue_writes)))

-- B10 by the tables
pub calls_tell : (r s n : ℕ) (clock : Clock) (made : List Touch) (t : Touch) (writes : Bool) (x : SubTables) → IsTied r s made x → OfThreads n made →
    t.range.resource ≡ r → t.range.sub ≡ s → t.doing ≡ doing_if writes →
    breaks_ten clock made t ≡ any_below n (actor_above (calls_against writes x) clock.threads t.range.first (t.range.first + t.range.words))
calls_tell r s n clock made t true x h o er es ed =
    threads_tell n clock made t x.thread_touches o
    (subst (λ d. AreTied (λ q. conflicts_in (is_of_thread q) d t.range.resource t.range.sub) made x.thread_touches) (sym ed)
    (subst (λ y. AreTied (λ q. conflicts_in (is_of_thread q) Writes y t.range.sub) made x.thread_touches) (sym er)
    (subst (λ y. AreTied (λ q. conflicts_in (is_of_thread q) Writes r y) made x.thread_touches) (sym es) h.thread_touches)))
calls_tell r s n clock made t false x h o er es ed =
    threads_tell n clock made t x.thread_writes o
    (subst (λ d. AreTied (λ q. conflicts_in (is_of_thread q) d t.range.resource t.range.sub) made x.thread_writes) (sym ed)
    (subst (λ y. AreTied (λ q. conflicts_in (is_of_thread q) Reads y t.range.sub) made x.thread_writes) (sym er)
    (subst (λ y. AreTied (λ q. conflicts_in (is_of_thread q) Reads r y) made x.thread_writes) (sym es) h.thread_writes)))

-- before anything is touched
pub tied_none : (r s queues threads : ℕ) → IsTied r s [] (no_touches queues threads)
tied_none r s queues threads = record {
  queue_writes = tied_first (λ q. conflicts_in (is_of_queue q) Reads r s) queues;
  queue_touches = tied_first (λ q. conflicts_in (is_of_queue q) Writes r s) queues;
  thread_writes = tied_first (λ q. conflicts_in (is_of_thread q) Reads r s) threads;
  thread_touches = tied_first (λ q. conflicts_in (is_of_thread q) Writes r s) threads;
}

raise_wide : (picks : ℕ → Touch → Bool) (made : List Touch) (t : Touch) (a : ℕ) (o : Option (List ℕ)) (old : List (Option (List ℕ))) → item_or None old a ≡ o → a < length old →
    IsWide (t.range.first + t.range.words) o → picks a t ≡ true → ((b : ℕ) → (a ≡ b → ⊥) → picks b t ≡ false) → AreTied picks made old →
    AreTied picks (made ++ t ∷ []) (changed_at (raised_table t.range.first (t.range.first + t.range.words) (number_of t.act)) a old)
raise_wide picks made t a None old e l w hit miss h = absurd w
raise_wide picks made t a (Some zs) old e l w hit miss h = tied_raised picks made t a zs old l e w hit miss h

self : (k : ℕ) → (k == k) ≡ true
self k = is_same k k refl

hit : (a r s : ℕ) → ((a == a) && (true && ((r == r) && (s == s)))) ≡ true
hit a r s = rw (self a) (rw (self r) (rw (self s) refl))

miss : (a b : ℕ) (x : Bool) → (a ≡ b → ⊥) → ((a == b) && x) ≡ false
miss a b x n = rw (is_other a b n) refl

and_false : (x y : Bool) → (x && (false && y)) ≡ false
and_false true y = refl
and_false false y = refl

-- one touch more by an operation of a queue
pub scope_added : (r s q n first words : ℕ) (writes : Bool) (made : List Touch) (x : SubTables) → q < length x.queue_writes → q < length x.queue_touches →
    HasScopeTables q (first + words) x → IsTied r s made x →
    IsTied r s (made ++ scope_touch r s q n first words writes ∷ []) (after_scope q writes first (first + words) n x)
scope_added r s q n first words true made x lw lt w h = record {
  queue_writes = raise_wide (λ b. conflicts_in (is_of_queue b) Reads r s) made (scope_touch r s q n first words true) q (item_or None x.queue_writes q) x.queue_writes refl lw w.writes
      (hit q r s) (λ b m. miss q b (true && ((r == r) && (s == s))) m) h.queue_writes;
  queue_touches = raise_wide (λ b. conflicts_in (is_of_queue b) Writes r s) made (scope_touch r s q n first words true) q (item_or None x.queue_touches q) x.queue_touches refl lt w.touches
      (hit q r s) (λ b m. miss q b (true && ((r == r) && (s == s))) m) h.queue_touches;
  thread_writes = tied_missed (λ b. conflicts_in (is_of_thread b) Reads r s) made (scope_touch r s q n first words true) x.thread_writes (λ b. refl) h.thread_writes;
  thread_touches = tied_missed (λ b. conflicts_in (is_of_thread b) Writes r s) made (scope_touch r s q n first words true) x.thread_touches (λ b. refl) h.thread_touches;
}
scope_added r s q n first words false made x lw lt w h = record {
  queue_writes = tied_missed (λ b. conflicts_in (is_of_queue b) Reads r s) made (scope_touch r s q n first words false) x.queue_writes
      (λ b. and_false (q == b) ((r == r) && (s == s))) h.queue_writes;
  queue_touches = raise_wide (λ b. conflicts_in (is_of_queue b) Writes r s) made (scope_touch r s q n first words false) q (item_or None x.queue_touches q) x.queue_touches refl lt w.touches
      (hit q r s) (λ b m. miss q b (true && ((r == r) && (s == s))) m) h.queue_touches;
  thread_writes = tied_missed (λ b. conflicts_in (is_of_thread b) Reads r s) made (scope_touch r s q n first words false) x.thread_writes (λ b. refl) h.thread_writes;
  thread_touches = tied_missed (λ b. conflicts_in (is_of_thread b) Writes r s) made (scope_touch r s q n first words false) x.thread_touches (λ b. refl) h.thread_touches;
}

-- one touch more by a call of a thread
pub call_added : (r s q n first words : ℕ) (writes : Bool) (made : List Touch) (x : SubTables) → q < length x.thread_writes → q < length x.thread_touches →
    HasCallTables q (first + words) x → IsTied r s made x →
    IsTied r s (made ++ call_touch r s q n first words writes ∷ []) (after_call q writes first (first + words) n x)
call_added r s q n first words true made x lw lt w h = record {
  queue_writes = tied_missed (λ b. conflicts_in (is_of_queue b) Reads r s) made (call_touch r s q n first words true) x.queue_writes (λ b. refl) h.queue_writes;
  queue_touches = tied_missed (λ b. conflicts_in (is_of_queue b) Writes r s) made (call_touch r s q n first words true) x.queue_touches (λ b. refl) h.queue_touches;
  thread_writes = raise_wide (λ b. conflicts_in (is_of_thread b) Reads r s) made (call_touch r s q n first words true) q (item_or None x.thread_writes q) x.thread_writes refl lw w.writes
      (hit q r s) (λ b m. miss q b (true && ((r == r) && (s == s))) m) h.thread_writes;
  thread_touches = raise_wide (λ b. conflicts_in (is_of_thread b) Writes r s) made (call_touch r s q n first words true) q (item_or None x.thread_touches q) x.thread_touches refl lt w.touches
      (hit q r s) (λ b m. miss q b (true && ((r == r) && (s == s))) m) h.thread_touches;
}
call_added r s q n first words false made x lw lt w h = record {
  queue_writes = tied_missed (λ b. conflicts_in (is_of_queue b) Reads r s) made (call_touch r s q n first words false) x.queue_writes (λ b. refl) h.queue_writes;
  queue_touches = tied_missed (λ b. conflicts_in (is_of_queue b) Writes r s) made (call_touch r s q n first words false) x.queue_touches (λ b. refl) h.queue_touches;
  thread_writes = tied_missed (λ b. conflicts_in (is_of_thread b) Reads r s) made (call_touch r s q n first words false) x.thread_writes
      (λ b. and_false (q == b) ((r == r) && (s == s))) h.thread_writes;
  thread_touches = raise_wide (λ b. conflicts_in (is_of_thread b) Writes r s) made (call_touch r s q n first words false) q (item_or None x.thread_touches q) x.thread_touches refl lt w.touches
      (hit q r s) (λ b m. miss q b (true && ((r == r) && (s == s))) m) h.thread_touches;
}

elsewhere : (x y : Bool) (c : Bool) (a : Bool) → (x && y) ≡ false → (a && (c && (x && y))) ≡ false
elsewhere x y true true e = e
elsewhere x y false true e = refl
elsewhere x y c false e = refl

-- a touch of another subresource changes nothing
pub other_added : (r s : ℕ) (made : List Touch) (t : Touch) (x : SubTables) → ((t.range.resource == r) && (t.range.sub == s)) ≡ false → IsTied r s made x → IsTied r s (made ++ t ∷ []) x
other_added r s made t x e h = record {
  queue_writes = tied_missed (λ b. conflicts_in (is_of_queue b) Reads r s) made t x.queue_writes (λ b. elsewhere (t.range.resource == r) (t.range.sub == s) (conflict t.doing Reads) (is_of_queue b t.act) e) h.queue_writes;
  queue_touches = tied_missed (λ b. conflicts_in (is_of_queue b) Writes r s) made t x.queue_touches (λ b. elsewhere (t.range.resource == r) (t.range.sub == s) (conflict t.doing Writes) (is_of_queue b t.act) e) h.queue_touches;
  thread_writes = tied_missed (λ b. conflicts_in (is_of_thread b) Reads r s) made t x.thread_writes (λ b. elsewhere (t.range.resource == r) (t.range.sub == s) (conflict t.doing Reads) (is_of_thread b t.act) e) h.thread_writes;
  thread_touches = tied_missed (λ b. conflicts_in (is_of_thread b) Writes r s) made t x.thread_touches (λ b. elsewhere (t.range.resource == r) (t.range.sub == s) (conflict t.doing Writes) (is_of_thread b t.act) e) h.thread_touches;
}

tables_keep : {A E : Type 0} (picks : ℕ → Touch → Bool) (made : List Touch) (words a : ℕ) (old new : List (Option (List ℕ))) (r : Result A E) → a < length old →
    OnOk r (AreMade words old a new) → OnErr r (new ≡ old) → AreTied picks made old → AreTied picks made new
tables_keep picks made words a old new (Ok x) l m e h = tied_made picks made words a old new l m h
tables_keep picks made words a old new (Err x) l m e h = subst (λ y. AreTied picks made y) (sym e) h

-- tables that were made have what was touched
pub queue_ties : {A E : Type 0} (x : SubTables) (words a : ℕ) (w t : List (Option (List ℕ))) (r : Result A E) → a < length x.queue_writes → a < length x.queue_touches →
    AreMade words x.queue_writes a w → OnOk r (AreMade words x.queue_touches a t) → OnErr r (t ≡ x.queue_touches) → KeepTies x (record x { queue_writes = w; queue_touches = t })
queue_ties x words a w t res lw lt mw mt et r s made h = record {
  queue_writes = tied_made (λ b. conflicts_in (is_of_queue b) Reads r s) made words a x.queue_writes w lw mw h.queue_writes;
  queue_touches = tables_keep (λ b. conflicts_in (is_of_queue b) Writes r s) made words a x.queue_touches t res lt mt et h.queue_touches;
  thread_writes = h.thread_writes;
  thread_touches = h.thread_touches;
}

pub thread_ties : {A E : Type 0} (x : SubTables) (words a : ℕ) (w t : List (Option (List ℕ))) (r : Result A E) → a < length x.thread_writes → a < length x.thread_touches →
    AreMade words x.thread_writes a w → OnOk r (AreMade words x.thread_touches a t) → OnErr r (t ≡ x.thread_touches) → KeepTies x (record x { thread_writes = w; thread_touches = t })
thread_ties x words a w t res lw lt mw mt et r s made h = record {
  queue_writes = h.queue_writes;
  queue_touches = h.queue_touches;
  thread_writes = tied_made (λ b. conflicts_in (is_of_thread b) Reads r s) made words a x.thread_writes w lw mw h.thread_writes;
  thread_touches = tables_keep (λ b. conflicts_in (is_of_thread b) Writes r s) made words a x.thread_touches t res lt mt et h.thread_touches;
}

wide_replicate : (words n : ℕ) → words ≤ n → words ≤ length {A = ℕ} (replicate n 0)
wide_replicate words n l = let e = length-replicate {A = ℕ} n 0 in omega (arith, l, e)

-- a table that was made is wide
pub wide_made : (words n : ℕ) (o : Option (List ℕ)) → words ≤ n → IsWideIfThere words o → IsWide words (made_table n o)
wide_made words n None l h = wide_replicate words n l
wide_made words n (Some zs) l h = h

wide_there : (words : ℕ) (o : Option (List ℕ)) → IsWide words o → IsWideIfThere words o
wide_there words None h = tt
wide_there words (Some zs) h = h

pub wide_less : (m n : ℕ) (o : Option (List ℕ)) → m ≤ n → IsWide n o → IsWide m o
wide_less m n None l h = absurd h
wide_less m n (Some zs) l h = omega (arith, l, h)

-- the actor's table is there afterwards
pub wide_here : (words a : ℕ) (old new : List (Option (List ℕ))) → a < length old → Each (IsWideIfThere words) old → AreMade words old a new → IsWide words (item_or None new a)
wide_here words a old new l h m =
    subst (λ y. IsWide words (item_or None y a)) (sym m.tables)
    (subst (λ y. IsWide words y) (sym (item_here (made_table m.made) old a l))
    (wide_made words m.made (item_or None old a) m.enough (each_item (IsWideIfThere words) None old a l h)))

wide_kept : {A E : Type 0} (words a : ℕ) (old new : List (Option (List ℕ))) (r : Result A E) → OnOk r (AreMade words old a new) → OnErr r (new ≡ old) →
    Each (IsWideIfThere words) old → Each (IsWideIfThere words) new
wide_kept words a old new (Ok x) m e h =
    subst (λ y. Each (IsWideIfThere words) y) (sym m.tables)
    (each_changed (IsWideIfThere words) (made_table m.made) a old (λ o g. wide_there words (made_table m.made o) (wide_made words m.made o m.enough g)) h)
wide_kept words a old new (Err x) m e h = subst (λ y. Each (IsWideIfThere words) y) (sym e) h

length_kept : {A E : Type 0} (words a : ℕ) (old new : List (Option (List ℕ))) (r : Result A E) → OnOk r (AreMade words old a new) → OnErr r (new ≡ old) → length new ≡ length old
length_kept words a old new (Ok x) m e = ap (λ y. length y) m.tables ∙ length_changed (made_table m.made) old a
length_kept words a old new (Err x) m e = ap (λ y. length y) e

pub queue_shape : {A E : Type 0} (x : SubTables) (words a : ℕ) (w t : List (Option (List ℕ))) (r : Result A E) → AreMade words x.queue_writes a w → OnOk r (AreMade words x.queue_touches a t) →
    OnErr r (t ≡ x.queue_touches) → KeepShape words x (record x { queue_writes = w; queue_touches = t })
queue_shape x words a w t res mw mt et queues threads h = record {
  actors = record {
    queue_writes = length_kept {A = Unit {0}} {E = Unit {0}} words a x.queue_writes w (Ok tt) mw tt ∙ h.actors.queue_writes;
    queue_touches = length_kept words a x.queue_touches t res mt et ∙ h.actors.queue_touches;
    thread_writes = h.actors.thread_writes;
    thread_touches = h.actors.thread_touches;
  };
  queue_writes = wide_kept {A = Unit {0}} {E = Unit {0}} words a x.queue_writes w (Ok tt) mw tt h.queue_writes;
  queue_touches = wide_kept words a x.queue_touches t res mt et h.queue_touches;
  thread_writes = h.thread_writes;
  thread_touches = h.thread_touches;
}

pub thread_shape : {A E : Type 0} (x : SubTables) (words a : ℕ) (w t : List (Option (List ℕ))) (r : Result A E) → AreMade words x.thread_writes a w → OnOk r (AreMade words x.thread_touches a t) →
    OnErr r (t ≡ x.thread_touches) → KeepShape words x (record x { thread_writes = w; thread_touches = t })
thread_shape x words a w t res mw mt et queues threads h = record {
  actors = record {
    queue_writes = h.actors.queue_writes;
    queue_touches = h.actors.queue_touches;
    thread_writes = length_kept {A = Unit {0}} {E = Unit {0}} words a x.thread_writes w (Ok tt) mw tt ∙ h.actors.thread_writes;
    thread_touches = length_kept words a x.thread_touches t res mt et ∙ h.actors.thread_touches;
  };
  queue_writes = h.queue_writes;
  queue_touches = h.queue_touches;
  thread_writes = wide_kept {A = Unit {0}} {E = Unit {0}} words a x.thread_writes w (Ok tt) mw tt h.thread_writes;
  thread_touches = wide_kept words a x.thread_touches t res mt et h.thread_touches;
}

-- a table that is there stays, where a change keeps it
wide_changed : (end : ℕ) (f : Option (List ℕ) → Option (List ℕ)) → ((o : Option (List ℕ)) → IsWide end o → IsWide end (f o)) → (a q : ℕ) (tables : List (Option (List ℕ))) →
    IsWide end (item_or None tables q) → IsWide end (item_or None (changed_at f a tables) q)
wide_changed end f k a q [] h = h
wide_changed end f k zero zero (o ∷ os) h = k o h
wide_changed end f k zero (suc q) (o ∷ os) h = h
wide_changed end f k (suc a) zero (o ∷ os) h = h
wide_changed end f k (suc a) (suc q) (o ∷ os) h = wide_changed end f k a q os h

made_stays : (end n : ℕ) (o : Option (List ℕ)) → IsWide end o → IsWide end (made_table n o)
made_stays end n None h = absurd h
made_stays end n (Some zs) h = h

tables_stay : {A E : Type 0} (words a end q : ℕ) (old new : List (Option (List ℕ))) (r : Result A E) → OnOk r (AreMade words old a new) → OnErr r (new ≡ old) →
    IsWide end (item_or None old q) → IsWide end (item_or None new q)
tables_stay words a end q old new (Ok x) m e h =
    subst (λ y. IsWide end (item_or None y q)) (sym m.tables) (wide_changed end (made_table m.made) (made_stays end m.made) a q old h)
tables_stay words a end q old new (Err x) m e h = subst (λ y. IsWide end (item_or None y q)) (sym e) h

pub queue_tables_stay : {A E : Type 0} (x : SubTables) (words a : ℕ) (w t : List (Option (List ℕ))) (r : Result A E) → AreMade words x.queue_writes a w →
    OnOk r (AreMade words x.queue_touches a t) → OnErr r (t ≡ x.queue_touches) → KeepSubTables x (record x { queue_writes = w; queue_touches = t })
queue_tables_stay x words a w t res mw mt et = record {
  scopes = λ q end h. record {
    writes = tables_stay {A = Unit {0}} {E = Unit {0}} words a end q x.queue_writes w (Ok tt) mw tt h.writes;
    touches = tables_stay words a end q x.queue_touches t res mt et h.touches;
  };
  calls = λ u end h. record { writes = h.writes; touches = h.touches };
}

pub thread_tables_stay : {A E : Type 0} (x : SubTables) (words a : ℕ) (w t : List (Option (List ℕ))) (r : Result A E) → AreMade words x.thread_writes a w →
    OnOk r (AreMade words x.thread_touches a t) → OnErr r (t ≡ x.thread_touches) → KeepSubTables x (record x { thread_writes = w; thread_touches = t })
thread_tables_stay x words a w t res mw mt et = record {
  scopes = λ q end h. record { writes = h.writes; touches = h.touches };
  calls = λ u end h. record {
    writes = tables_stay {A = Unit {0}} {E = Unit {0}} words a end u x.thread_writes w (Ok tt) mw tt h.writes;
    touches = tables_stay words a end u x.thread_touches t res mt et h.touches;
  };
}

raised_stays : (end first last n : ℕ) (o : Option (List ℕ)) → IsWide end o → IsWide end (raised_table first last n o)
raised_stays end first last n None h = absurd h
raised_stays end first last n (Some zs) h = let e = length_raised 0 first last n zs in omega (arith, h, e)

raised_if_stays : (b : Bool) (end first last n a q : ℕ) (tables : List (Option (List ℕ))) → IsWide end (item_or None tables q) → IsWide end (item_or None (raised_if b first last n a tables) q)
raised_if_stays true end first last n a q tables h = wide_changed end (raised_table first last n) (raised_stays end first last n) a q tables h
raised_if_stays false end first last n a q tables h = h

-- what an operation touches takes no table away
pub scope_tables_stay : (p n first last : ℕ) (writes : Bool) (x : SubTables) → KeepSubTables x (after_scope p writes first last n x)
scope_tables_stay p n first last writes x = record {
  scopes = λ q end h. record {
    writes = raised_if_stays writes end first last n p q x.queue_writes h.writes;
    touches = wide_changed end (raised_table first last n) (raised_stays end first last n) p q x.queue_touches h.touches;
  };
  calls = λ t end h. record { writes = h.writes; touches = h.touches };
}
