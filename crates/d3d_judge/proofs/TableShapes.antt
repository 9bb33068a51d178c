-- The shapes of the tables of all resources, at first and after touches.
use Rattle.std.proofs.Common.{ℕ, zero, suc, ◌≡◌, ◌<◌, ◌+◌, ◌∙◌, refl, ap, subst, arith, List, [], ◌∷◌, length, replicate, map, Bool, true, false, Option, Some, None, slice_get}
use Rattle.std.proofs.lemmas.List.{length-replicate}
use Rattle.dx_base.specs.Each.{Each}
use Rattle.dx_base.specs.Lists.{changed_at}
use Rattle.dx_base.proofs.Each.{each_on, each_changed}
use Rattle.dx_base.proofs.Lists.{length_changed}
use Rattle.word_trees.proofs.Numbers.{length_raised}
use Rattle.d3d_judge.specs.Carried.{item_or}
use Rattle.d3d_judge.specs.Setting.{Traits, no_traits}
use Rattle.d3d_judge.specs.ActorTables.{raised_table}
use Rattle.d3d_judge.specs.SubTables.{no_touches, after_scope, after_call, raised_if, IsWideIfThere, IsShaped, HasActors}
use Rattle.d3d_judge.specs.WordTouches.{untouched, SubsShaped, AreShaped, words_at, HasSub, HaveActors, HaveQueue, HaveThread, HasQueue, HasThread, IsWideAt, after_scope_at, after_call_at}
use Rattle.d3d_judge.specs.declared.sub_tables.SubTables.{SubTables}
use Rattle.d3d_judge.specs.declared.word_touches.WordAccess.{WordAccess}
use Rattle.d3d_judge.proofs.CarriedClocks.{some_is}

wide_raised : (words first end n : ℕ) (o : Option (List ℕ)) → IsWideIfThere words o → IsWideIfThere words (raised_table first end n o)
wide_raised words first end n None h = tt
wide_raised words first end n (Some zs) h = let e = length_raised 0 first end n zs in omega (arith, h, e)

all_wide : (words first end n a : ℕ) (tables : List (Option (List ℕ))) → Each (IsWideIfThere words) tables → Each (IsWideIfThere words) (changed_at (raised_table first end n) a tables)
all_wide words first end n a tables h = each_changed (IsWideIfThere words) (raised_table first end n) a tables (λ o g. wide_raised words first end n o g) h

all_wide_if : (b : Bool) (words first end n a : ℕ) (tables : List (Option (List ℕ))) → Each (IsWideIfThere words) tables → Each (IsWideIfThere words) (raised_if b first end n a tables)
all_wide_if true words first end n a tables h = all_wide words first end n a tables h
all_wide_if false words first end n a tables h = h

length_if : (b : Bool) (first end n a : ℕ) (tables : List (Option (List ℕ))) → length (raised_if b first end n a tables) ≡ length tables
length_if true first end n a tables = length_changed (raised_table first end n) tables a
length_if false first end n a tables = refl

scope_shape : (q n first end : ℕ) (writes : Bool) (queues threads words : ℕ) (x : SubTables) → IsShaped queues threads words x → IsShaped queues threads words (after_scope q writes first end n x)
scope_shape q n first end writes queues threads words x h = record {
  actors = record {
    queue_writes = length_if writes first end n q x.queue_writes ∙ h.actors.queue_writes;
    queue_touches = length_changed (raised_table first end n) x.queue_touches q ∙ h.actors.queue_touches;
    thread_writes = h.actors.thread_writes;
    thread_touches = h.actors.thread_touches;
  };
  queue_writes = all_wide_if writes words first end n q x.queue_writes h.queue_writes;
  queue_touches = all_wide words first end n q x.queue_touches h.queue_touches;
  thread_writes = h.thread_writes;
  thread_touches = h.thread_touches;
}

call_shape : (q n first end : ℕ) (writes : Bool) (queues threads words : ℕ) (x : SubTables) → IsShaped queues threads words x → IsShaped queues threads words (after_call q writes first end n x)
call_shape q n first end writes queues threads words x h = record {
  actors = record {
    queue_writes = h.actors.queue_writes;
    queue_touches = h.actors.queue_touches;
    thread_writes = length_if writes first end n q x.thread_writes ∙ h.actors.thread_writes;
    thread_touches = length_changed (raised_table first end n) x.thread_touches q ∙ h.actors.thread_touches;
  };
  queue_writes = h.queue_writes;
  queue_touches = h.queue_touches;
  thread_writes = all_wide_if writes words first end n q x.thread_writes h.thread_writes;
  thread_touches = all_wide words first end n q x.thread_touches h.thread_touches;
}

module _ (queues threads : ℕ) where
  subs_changed : (f : SubTables → SubTables) → ((words : ℕ) (x : SubTables) → IsShaped queues threads words x → IsShaped queues threads words (f x)) →
      (ns : List ℕ) (xs : List SubTables) (s : ℕ) → SubsShaped queues threads ns xs → SubsShaped queues threads ns (changed_at f s xs)
  subs_changed f k [] [] s h = tt
  subs_changed f k [] (x ∷ xs) s h = absurd h
  subs_changed f k (n ∷ ns) [] s h = absurd h
  subs_changed f k (n ∷ ns) (x ∷ xs) zero h = (k n x h.0, h.1)
  subs_changed f k (n ∷ ns) (x ∷ xs) (suc s) h = (h.0, subs_changed f k ns xs s h.1)

  all_changed_shape : (f : SubTables → SubTables) → ((words : ℕ) (x : SubTables) → IsShaped queues threads words x → IsShaped queues threads words (f x)) →
      (rs : List Traits) (all : List (List SubTables)) (r s : ℕ) → AreShaped queues threads rs all → AreShaped queues threads rs (changed_at (changed_at f s) r all)
  all_changed_shape f k [] [] r s h = tt
  all_changed_shape f k [] (x ∷ xs) r s h = absurd h
  all_changed_shape f k (t ∷ rs) [] r s h = absurd h
  all_changed_shape f k (t ∷ rs) (x ∷ xs) zero s h = (subs_changed f k t.subs x s h.0, h.1)
  all_changed_shape f k (t ∷ rs) (x ∷ xs) (suc r) s h = (h.0, all_changed_shape f k rs xs r s h.1)

  pub scope_keeps : (q n : ℕ) (a : WordAccess) (rs : List Traits) (all : List (List SubTables)) → AreShaped queues threads rs all → AreShaped queues threads rs (after_scope_at q n a all)
  scope_keeps q n a rs all h =
      all_changed_shape (after_scope q a.writes a.first (a.first + a.words) n) (λ words x g. scope_shape q n a.first (a.first + a.words) a.writes queues threads words x g) rs all a.resource a.sub h

  pub call_keeps : (t n : ℕ) (a : WordAccess) (rs : List Traits) (all : List (List SubTables)) → AreShaped queues threads rs all → AreShaped queues threads rs (after_call_at t n a all)
  call_keeps t n a rs all h =
      all_changed_shape (after_call t a.writes a.first (a.first + a.words) n) (λ words x g. call_shape t n a.first (a.first + a.words) a.writes queues threads words x g) rs all a.resource a.sub h

  none_wide : (words n : ℕ) → Each (IsWideIfThere words) (replicate n None)
  none_wide words zero = tt
  none_wide words (suc n) = (tt, none_wide words n)

  first_shape : (words : ℕ) → IsShaped queues threads words (no_touches queues threads)
  first_shape words = record {
    actors = record {
      queue_writes = length-replicate {A = Option (List ℕ)} queues None;
      queue_touches = length-replicate {A = Option (List ℕ)} queues None;
      thread_writes = length-replicate {A = Option (List ℕ)} threads None;
      thread_touches = length-replicate {A = Option (List ℕ)} threads None;
    };
    queue_writes = none_wide words queues;
    queue_touches = none_wide words queues;
    thread_writes = none_wide words threads;
    thread_touches = none_wide words threads;
  }

  subs_first : (ns : List ℕ) → SubsShaped queues threads ns (map (λ _. no_touches queues threads) ns)
  subs_first [] = tt
  subs_first (n ∷ ns) = (first_shape n, subs_first ns)

  pub shaped_first : (rs : List Traits) → AreShaped queues threads rs (untouched queues threads rs)
  shaped_first [] = tt
  shaped_first (t ∷ rs) = (subs_first t.subs, shaped_first rs)

  subs_length : (ns : List ℕ) (xs : List SubTables) → SubsShaped queues threads ns xs → length xs ≡ length ns
  subs_length [] [] h = refl
  subs_length [] (x ∷ xs) h = absurd h
  subs_length (n ∷ ns) [] h = absurd h
  subs_length (n ∷ ns) (x ∷ xs) h = ap suc (subs_length ns xs h.1)

  pub shaped_sub : (rs : List Traits) (all : List (List SubTables)) (r s : ℕ) → AreShaped queues threads rs all → s < length (item_or no_traits rs r).subs → HasSub all r s
  shaped_sub [] all r s h l = absurd (omega (arith, l))
  shaped_sub (t ∷ rs) [] r s h l = absurd h
  shaped_sub (t ∷ rs) (x ∷ xs) zero s h l = record { resource = omega arith; sub = let e = subs_length t.subs x h.0 in omega (arith, l, e) }
  shaped_sub (t ∷ rs) (x ∷ xs) (suc r) s h l = let g = shaped_sub rs xs r s h.1 l in record { resource = let k = g.resource in omega (arith, k); sub = g.sub }

  subs_actors : (ns : List ℕ) (xs : List SubTables) → SubsShaped queues threads ns xs → Each (HasActors queues threads) xs
  subs_actors [] [] h = tt
  subs_actors [] (x ∷ xs) h = absurd h
  subs_actors (n ∷ ns) [] h = absurd h
  subs_actors (n ∷ ns) (x ∷ xs) h = (h.0.actors, subs_actors ns xs h.1)

  pub shaped_actors : (rs : List Traits) (all : List (List SubTables)) → AreShaped queues threads rs all → HaveActors queues threads all
  shaped_actors [] [] h = tt
  shaped_actors [] (x ∷ xs) h = absurd h
  shaped_actors (t ∷ rs) [] h = absurd h
  shaped_actors (t ∷ rs) (x ∷ xs) h = (subs_actors t.subs x h.0, shaped_actors rs xs h.1)

  has_queue : (q : ℕ) (x : SubTables) → q < queues → HasActors queues threads x → HasQueue q x
  has_queue q x l h = let a = h.queue_writes in let b = h.queue_touches in record { writes = omega (arith, l, a); touches = omega (arith, l, b) }

  has_thread : (t : ℕ) (x : SubTables) → t < threads → HasActors queues threads x → HasThread t x
  has_thread t x l h = let a = h.thread_writes in let b = h.thread_touches in record { writes = omega (arith, l, a); touches = omega (arith, l, b) }

  pub shaped_queue : (rs : List Traits) (all : List (List SubTables)) (q : ℕ) → q < queues → AreShaped queues threads rs all → HaveQueue q all
  shaped_queue rs all q l h =
      each_on (λ xs. Each (HasActors queues threads) xs) (λ xs. Each (HasQueue q) xs) all
      (λ xs g. each_on (HasActors queues threads) (HasQueue q) xs (λ x k. has_queue q x l k) g) (shaped_actors rs all h)

  pub shaped_thread : (rs : List Traits) (all : List (List SubTables)) (t : ℕ) → t < threads → AreShaped queues threads rs all → HaveThread t all
  shaped_thread rs all t l h =
      each_on (λ xs. Each (HasActors queues threads) xs) (λ xs. Each (HasThread t) xs) all
      (λ xs g. each_on (HasActors queues threads) (HasThread t) xs (λ x k. has_thread t x l k) g) (shaped_actors rs all h)

  subs_at : (ns : List ℕ) (xs : List SubTables) (s : ℕ) (x : SubTables) → SubsShaped queues threads ns xs → slice_get xs s ≡ Some x → IsShaped queues threads (item_or 0 ns s) x
  subs_at [] [] s x h e = cc
  subs_at [] (z ∷ xs) s x h e = absurd h
  subs_at (n ∷ ns) [] s x h e = absurd h
  subs_at (n ∷ ns) (z ∷ xs) zero x h e = subst (λ y. IsShaped queues threads n y) (some_is z x e) h.0
  subs_at (n ∷ ns) (z ∷ xs) (suc s) x h e = subs_at ns xs s x h.1 e

  shaped_at : (rs : List Traits) (all : List (List SubTables)) (r s : ℕ) (xs : List SubTables) (x : SubTables) → AreShaped queues threads rs all → slice_get all r ≡ Some xs → slice_get xs s ≡ Some x →
      IsShaped queues threads (words_at rs r s) x
  shaped_at [] [] r s xs x h er es = cc
  shaped_at [] (z ∷ all) r s xs x h er es = absurd h
  shaped_at (t ∷ rs) [] r s xs x h er es = absurd h
  shaped_at (t ∷ rs) (z ∷ all) zero s xs x h er es = subs_at t.subs xs s x (subst (λ y. SubsShaped queues threads t.subs y) (some_is z xs er) h.0) es
  shaped_at (t ∷ rs) (z ∷ all) (suc r) s xs x h er es = shaped_at rs all r s xs x h.1 er es

  pub shaped_wide : (rs : List Traits) (all : List (List SubTables)) (a : WordAccess) → AreShaped queues threads rs all → IsWideAt all a (words_at rs a.resource a.sub)
  shaped_wide rs all a h xs x er es =
      let g = shaped_at rs all a.resource a.sub xs x h er es in
      record { queue_writes = g.queue_writes; queue_touches = g.queue_touches; thread_writes = g.thread_writes; thread_touches = g.thread_touches }
