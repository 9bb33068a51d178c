-- What the tables need for judging copies: shapes, and tables of the words that they access.
use Rattle.std.proofs.Common.{ℕ, zero, suc, ◌≡◌, ◌<◌, ◌+◌, refl, ap, sym, subst, arith, List, [], ◌∷◌, ◌++◌, map, length, take, drop, get_or, add-one}
use Rattle.dx_base.specs.Each.{Each}
use Rattle.dx_base.proofs.Each.{each_on, each_append}
use Rattle.clocks.specs.declared.clock.Clock.{Clock}
use Rattle.d3d_machine.specs.declared.calls.Record.{Record}
use Rattle.d3d_machine.specs.declared.calls.Record.TheVariants.{Copy}
use Rattle.d3d_machine.specs.declared.events.Command.{Command}
use Rattle.d3d_machine.specs.declared.world.World.{World}
use Rattle.d3d_judge.specs.declared.word_touches.WordAccess.{WordAccess}
use Rattle.d3d_judge.specs.declared.sub_tables.SubTables.{SubTables}
use Rattle.d3d_judge.specs.CarriedClocks.{IsSized}
use Rattle.d3d_judge.specs.Commands.{command_of}
use Rattle.d3d_judge.specs.Setting.{traits_of}
use Rattle.d3d_judge.specs.CopyScopes.{words_from, words_to, range_by, IsIn, AreIn, IsCopyReady, AreCopiesReady, CanAsk, CanAdd, IsShapedFor}
use Rattle.d3d_judge.specs.WordTouches.{HasSub, HaveActors, HaveQueue, HaveThread, HasTablesOfQueue, KeepTables, IsWideAt, words_at, after_scope_at}
use Rattle.d3d_judge.proofs.TableShapes.{scope_keeps, shaped_sub, shaped_actors, shaped_queue, shaped_thread, shaped_wide}
use Rattle.d3d_judge.proofs.WordTouches.{scope_tables_kept}

-- the subresource of an access is there
pub sub_there : (w : World) (all : List (List SubTables)) (a : WordAccess) → IsShapedFor w all → IsIn (map traits_of w.resources) (range_by a) → HasSub all a.resource a.sub
sub_there w all a shaped inside = shaped_sub (length w.queues) (length w.scripts) (map traits_of w.resources) all a.resource a.sub shaped inside.sub

-- there are tables for the queues and threads of a clock
pub actors_there : (w : World) (all : List (List SubTables)) (c : Clock) → IsShapedFor w all → IsSized (length w.queues) (length w.scripts) c → HaveActors (length c.queues) (length c.threads) all
actors_there w all c shaped z =
    subst (λ k. HaveActors k (length c.threads) all) (sym z.queues_are)
    (subst (λ k. HaveActors (length w.queues) k all) (sym z.threads_are)
    (shaped_actors (length w.queues) (length w.scripts) (map traits_of w.resources) all shaped))

pub queue_there : (w : World) (all : List (List SubTables)) (q : ℕ) → IsShapedFor w all → q < length w.queues → HaveQueue q all
queue_there w all q shaped l = shaped_queue (length w.queues) (length w.scripts) (map traits_of w.resources) all q l shaped

pub thread_there : (w : World) (all : List (List SubTables)) (t : ℕ) → IsShapedFor w all → t < length w.scripts → HaveThread t all
thread_there w all t shaped l = shaped_thread (length w.queues) (length w.scripts) (map traits_of w.resources) all t l shaped

pub wide_there : (w : World) (all : List (List SubTables)) (a : WordAccess) (n : ℕ) → IsShapedFor w all → n ≡ words_at (map traits_of w.resources) a.resource a.sub → IsWideAt all a n
wide_there w all a n shaped e = subst (λ k. IsWideAt all a k) (sym e) (shaped_wide (length w.queues) (length w.scripts) (map traits_of w.resources) all a shaped)

module _ (w : World) (all : List (List SubTables)) (c d : Clock) (q : ℕ) (what : Record) (h : AreCopiesReady w all c d q (what ∷ [])) where
  pub asks_from : (a : WordAccess) → a ≡ words_from what → CanAsk w all c a
  asks_from a e = record { small = h.small; shaped = h.shaped; sized = h.clock_sized; inside = subst (λ x. IsIn (map traits_of w.resources) (range_by x)) (sym e) h.copies.0.from }

  pub asks_to : (a : WordAccess) → a ≡ words_to what → CanAsk w all c a
  asks_to a e = record { small = h.small; shaped = h.shaped; sized = h.clock_sized; inside = subst (λ x. IsIn (map traits_of w.resources) (range_by x)) (sym e) h.copies.0.to }

  pub asks_own_from : (a : WordAccess) → a ≡ words_from what → CanAsk w all d a
  asks_own_from a e = record { small = h.small; shaped = h.shaped; sized = h.counts_sized; inside = subst (λ x. IsIn (map traits_of w.resources) (range_by x)) (sym e) h.copies.0.from }

  pub asks_own_to : (a : WordAccess) → a ≡ words_to what → CanAsk w all d a
  asks_own_to a e = record { small = h.small; shaped = h.shaped; sized = h.counts_sized; inside = subst (λ x. IsIn (map traits_of w.resources) (range_by x)) (sym e) h.copies.0.to }

  pub adds_to : (a : WordAccess) → a ≡ words_to what → CanAdd w all q a
  adds_to a e = record {
    small = h.small;
    shaped = h.shaped;
    queue = h.queue;
    inside = subst (λ x. IsIn (map traits_of w.resources) (range_by x)) (sym e) h.copies.0.to;
    tables = subst (HasTablesOfQueue all q) (sym e) h.copies.0.to_tables;
  }

  pub adds_from : (a : WordAccess) → a ≡ words_from what → CanAdd w all q a
  adds_from a e = record {
    small = h.small;
    shaped = h.shaped;
    queue = h.queue;
    inside = subst (λ x. IsIn (map traits_of w.resources) (range_by x)) (sym e) h.copies.0.from;
    tables = subst (HasTablesOfQueue all q) (sym e) h.copies.0.from_tables;
  }

-- tables that keep those that are there stay ready
pub ready_stays : (w : World) (all new : List (List SubTables)) (q : ℕ) (what : Record) → KeepTables all new → IsCopyReady w all q what → IsCopyReady w new q what
ready_stays w all new q what k h = record { from = h.from; to = h.to; from_tables = k.queues q (words_from what) h.from_tables; to_tables = k.queues q (words_to what) h.to_tables }

-- what an operation touches keeps the tables ready
pub ready_touched : (w : World) (all : List (List SubTables)) (c d : Clock) (q p n : ℕ) (a : WordAccess) (whats : List Record) → AreCopiesReady w all c d q whats → AreCopiesReady w (after_scope_at p n a all) c d q whats
ready_touched w all c d q p n a whats h = record {
  small = h.small;
  shaped = scope_keeps (length w.queues) (length w.scripts) p n a (map traits_of w.resources) all h.shaped;
  clock_sized = h.clock_sized;
  counts_sized = h.counts_sized;
  queue = h.queue;
  copies = each_on (IsCopyReady w all q) (IsCopyReady w (after_scope_at p n a all) q) whats (λ x. ready_stays w all (after_scope_at p n a all) q x (scope_tables_kept p n a all)) h.copies;
}

pub ready_after : (w : World) (all new : List (List SubTables)) (c d : Clock) (q p n : ℕ) (a : WordAccess) (whats : List Record) → new ≡ after_scope_at p n a all →
    AreCopiesReady w all c d q whats → AreCopiesReady w new c d q whats
ready_after w all new c d q p n a whats e h = subst (λ x. AreCopiesReady w x c d q whats) (sym e) (ready_touched w all c d q p n a whats h)

-- and so do both accesses of a copy
pub ready_twice : (w : World) (all new : List (List SubTables)) (c d : Clock) (q p n : ℕ) (a b : WordAccess) (whats : List Record) → new ≡ after_scope_at p n b (after_scope_at p n a all) →
    AreCopiesReady w all c d q whats → AreCopiesReady w new c d q whats
ready_twice w all new c d q p n a b whats e h =
    ready_after w (after_scope_at p n a all) new c d q p n b whats e (ready_touched w all c d q p n a whats h)

-- the words of a copy lie inside where its accesses do
pub from_inside : (w : World) (what : Record) → AreIn (map traits_of w.resources) (command_of what) → IsIn (map traits_of w.resources) (range_by (words_from what))
from_inside w (Copy d doff s soff bytes) h = h.0

pub to_inside : (w : World) (what : Record) → AreIn (map traits_of w.resources) (command_of what) → IsIn (map traits_of w.resources) (range_by (words_to what))
to_inside w (Copy d doff s soff bytes) h = h.1.0

pub from_sub : (what : Record) → (words_from what).sub ≡ 0
from_sub (Copy d doff s soff bytes) = refl

pub to_sub : (what : Record) → (words_to what).sub ≡ 0
to_sub (Copy d doff s soff bytes) = refl

take_suc : {A : Type 0} (xs : List A) (i : ℕ) (d : A) → i < length xs → take (suc i) xs ≡ take i xs ++ get_or xs i d ∷ []
take_suc [] i d l = absurd (omega (arith, l))
take_suc (x ∷ xs) zero d l = refl
take_suc (x ∷ xs) (suc i) d l = ap (λ t. x ∷ t) (take_suc xs i d (omega (arith, l)))

-- the first items and one more
pub take_more : {A : Type 0} (xs : List A) (i : ℕ) (d : A) → i < length xs → take (i + 1) xs ≡ take i xs ++ get_or xs i d ∷ []
take_more xs i d l = rw (add-one i) (take_suc xs i d l)

pub take_drop : {A : Type 0} (xs : List A) (i : ℕ) → take i xs ++ drop i xs ≡ xs
take_drop [] zero = refl
take_drop [] (suc i) = refl
take_drop (x ∷ xs) zero = refl
take_drop (x ∷ xs) (suc i) = ap (λ t. x ∷ t) (take_drop xs i)

pub each_index : {A : Type 0} (P : A → Type 0) (xs : List A) (i : ℕ) (d : A) → i < length xs → Each P xs → P (get_or xs i d)
each_index P [] i d l h = absurd (omega (arith, l))
each_index P (x ∷ xs) zero d l h = h.0
each_index P (x ∷ xs) (suc i) d l h = each_index P xs i d (omega (arith, l)) h.1

each_what : (P : Record → Type 0) (cs : List Command) (i : ℕ) (d : Command) → i < length cs → Each P (map (λ c. c.what) cs) → P (get_or cs i d).what
each_what P [] i d l h = absurd (omega (arith, l))
each_what P (x ∷ cs) zero d l h = h.0
each_what P (x ∷ cs) (suc i) d l h = each_what P cs i d (omega (arith, l)) h.1

-- the copy at a place is ready
pub one_ready : (w : World) (all : List (List SubTables)) (c d : Clock) (q : ℕ) (cs : List Command) (i : ℕ) (e : Command) → i < length cs → AreCopiesReady w all c d q (map (λ x. x.what) cs) →
    AreCopiesReady w all c d q ((get_or cs i e).what ∷ [])
one_ready w all c d q cs i e l h = record {
  small = h.small;
  shaped = h.shaped;
  clock_sized = h.clock_sized;
  counts_sized = h.counts_sized;
  queue = h.queue;
  copies = (each_what (IsCopyReady w all q) cs i e l h.copies, tt);
}

-- and the first copies, with one more
pub more_ready : (w : World) (all new : List (List SubTables)) (q : ℕ) (cs : List Command) (i : ℕ) (e : Command) → i < length cs → KeepTables all new →
    IsCopyReady w new q (get_or cs i e).what → Each (λ c. IsCopyReady w all q c.what) (take i cs) → Each (λ c. IsCopyReady w new q c.what) (take (i + 1) cs)
more_ready w all new q cs i e l k one h =
    subst (λ xs. Each (λ c. IsCopyReady w new q c.what) xs) (sym (take_more cs i e l))
    (each_append (λ c. IsCopyReady w new q c.what) (take i cs) (get_or cs i e ∷ [])
    (each_on (λ c. IsCopyReady w all q c.what) (λ c. IsCopyReady w new q c.what) (take i cs) (λ c. ready_stays w all new q c.what k) h) (one, tt))
