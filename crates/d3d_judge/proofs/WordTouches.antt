-- The tables of all resources tell as much of B1 and B10 as the list of all that was touched.
use Rattle.std.proofs.Common.{ℕ, zero, suc, ◌≡◌, ◌<◌, ◌≤◌, ◌+◌, ◌==◌, ◌&&◌, ◌||◌, not, map, ◌∙◌, refl, ap, sym, subst, arith, List, [], ◌∷◌, ◌++◌, length, Bool, true, false, Some, None, slice_get, slice_set, get_or, option_map, inl, inr, Option, Result, Ok, Err}
use Rattle.std.specs.Result.{OnOk}
use Rattle.std.proofs.lemmas.Bool.{cases_eq}
use Rattle.dx_base.specs.Each.{Each}
use Rattle.dx_base.specs.Lists.{changed_at}
use Rattle.dx_base.proofs.Each.{each_got}
use Rattle.dx_base.proofs.Lists.{write_is_changed, get_changed, get_changed_other}
use Rattle.clocks.specs.declared.clock.Clock.{Clock}
use Rattle.clocks.specs.Clocks.{OfQueue, OfThread, knows}
use Rattle.d3d_judge.specs.Carried.{item_or}
use Rattle.d3d_judge.specs.Setting.{Traits}
use Rattle.d3d_judge.specs.Tables.{any_below}
use Rattle.d3d_judge.specs.Touches.{Touch, meets, is_operation, breaks_one, breaks_ten, breaks_ten_host}
use Rattle.d3d_judge.specs.ActorTables.{actor_above, AreMade}
use Rattle.d3d_judge.specs.SubTables.{scopes_against, calls_against, no_touches, IsTied, after_scope, after_call, IsShaped, KeepShape, HasScopeTables, HasCallTables}
use Rattle.d3d_judge.specs.WordTouches.{touch_by, AreAllTied, HasSub, HasQueue, HasThread, TellsOne, TellsTen, HaveOneMore, HasTablesOfQueue, HasTablesOfThread, TellsHost, untouched, SubKept, KeepAllTies, SubsShaped, AreShaped, words_at, KeepShapes, KeepTables, IsWideAt, AreQueuesMade, AreThreadsMade, after_scope_at}
use Rattle.d3d_judge.specs.declared.sub_tables.SubTables.{SubTables}
use Rattle.d3d_judge.specs.declared.word_touches.WordAccess.{WordAccess}
use Rattle.d3d_judge.proofs.CarriedClocks.{got, some_is, item_got}
use Rattle.d3d_judge.proofs.SubTables.{scopes_tell, calls_tell, scope_added, call_added, other_added, tied_none, wide_less, wide_here, scope_tables_stay}
use Rattle.d3d_judge.proofs.Tables.{is_other}

-- the subresources of a resource that was found
pub sub_found : (all : List (List SubTables)) (r s : ℕ) (xs : List SubTables) → HasSub all r s → slice_get all r ≡ Some xs → s < length xs
sub_found all r s xs h e = subst (λ y. s < length y) (item_got [] all r xs e) h.sub

pub one_told : (all : List (List SubTables)) (clock : Clock) (a : WordAccess) (b : Bool) (xs : List SubTables) (x : SubTables) → slice_get all a.resource ≡ Some xs → slice_get xs a.sub ≡ Some x →
    b ≡ any_below (length clock.queues) (actor_above (scopes_against a.writes x) clock.queues a.first (a.first + a.words)) → TellsOne all clock a b
one_told all clock a b xs x er es h act made tied o =
    h ∙ sym (scopes_tell a.resource a.sub (length clock.queues) clock made (touch_by act a) a.writes x (tied a.resource a.sub xs x er es) o refl refl refl)

pub ten_told : (all : List (List SubTables)) (clock : Clock) (a : WordAccess) (b : Bool) (xs : List SubTables) (x : SubTables) → slice_get all a.resource ≡ Some xs → slice_get xs a.sub ≡ Some x →
    b ≡ any_below (length clock.threads) (actor_above (calls_against a.writes x) clock.threads a.first (a.first + a.words)) → TellsTen all clock a b
ten_told all clock a b xs x er es h act made tied o =
    h ∙ sym (calls_tell a.resource a.sub (length clock.threads) clock made (touch_by act a) a.writes x (tied a.resource a.sub xs x er es) o refl refl refl)

apart : (r s u v : ℕ) → (r ≡ u → s ≡ v → ⊥) → ((r == u) && (s == v)) ≡ false
apart r s u v n = elim (cases_eq r u) [ inl e ↦ elim (cases_eq s v) [ inl f ↦ absurd (n e f) | inr m ↦ rw (is_other s v m) (and_none (r == u)) ] | inr m ↦ rw (is_other r u m) refl ]
  where
    and_none : (b : Bool) → (b && false) ≡ false
    and_none true = refl
    and_none false = refl

-- one subresource changed that has one touch more
pub all_added : (f : SubTables → SubTables) (all new : List (List SubTables)) (r s : ℕ) (xs ys : List SubTables) (x : SubTables) (made : List Touch) (t : Touch) →
    slice_get all r ≡ Some xs → slice_get xs s ≡ Some x → ys ≡ changed_at f s xs → new ≡ changed_at (λ _. ys) r all → t.range.resource ≡ r → t.range.sub ≡ s →
    (IsTied r s made x → IsTied r s (made ++ t ∷ []) (f x)) → AreAllTied made all → AreAllTied (made ++ t ∷ []) new
all_added f all new r s xs ys x made t er es ey en tr ts step h u v zs z eu ev =
    elim (cases_eq r u) [
      | inl e ↦
          let zs_is : zs ≡ changed_at f s xs = some_is zs ys (sym eu ∙ (ap (λ k. slice_get new k) (sym e) ∙ (ap (λ k. slice_get k r) en ∙ (get_changed (λ _. ys) all r ∙ ap (option_map (λ _. ys)) er)))) ∙ ey in
          elim (cases_eq s v) [
            | inl g ↦
                let z_is : z ≡ f x = some_is z (f x) (sym ev ∙ (ap (λ k. slice_get zs k) (sym g) ∙ (ap (λ k. slice_get k s) zs_is ∙ (get_changed f xs s ∙ ap (option_map f) es)))) in
                subst (λ k. IsTied k v (made ++ t ∷ []) z) e (subst (λ k. IsTied r k (made ++ t ∷ []) z) g
                (subst (λ k. IsTied r s (made ++ t ∷ []) k) (sym z_is) (step (h r s xs x er es))))
            | inr n ↦
                let old : slice_get xs v ≡ Some z = sym (ap (λ k. slice_get k v) zs_is ∙ get_changed_other f xs s v n) ∙ ev in
                other_added u v made t z (apart t.range.resource t.range.sub u v (λ p q. n (sym ts ∙ q))) (h u v xs z (ap (λ k. slice_get all k) (sym e) ∙ er) old)
          ]
      | inr n ↦
          let old : slice_get all u ≡ Some zs = sym (ap (λ k. slice_get k u) en ∙ get_changed_other (λ _. ys) all r u n) ∙ eu in
          other_added u v made t z (apart t.range.resource t.range.sub u v (λ p q. n (sym tr ∙ p))) (h u v zs z old ev)
    ]

pub scope_added_to_all : (all new : List (List SubTables)) (q n : ℕ) (a : WordAccess) (xs ys : List SubTables) (x : SubTables) →
    slice_get all a.resource ≡ Some xs → slice_get xs a.sub ≡ Some x → HasQueue q x → ys ≡ changed_at (after_scope q a.writes a.first (a.first + a.words) n) a.sub xs → new ≡ changed_at (λ _. ys) a.resource all →
    HasTablesOfQueue all q a → HaveOneMore all (OfQueue q n) a new
scope_added_to_all all new q n a xs ys x er es l ey en w made h =
    all_added (after_scope q a.writes a.first (a.first + a.words) n) all new a.resource a.sub xs ys x made (touch_by (OfQueue q n) a) er es ey en refl refl
    (λ tied. scope_added a.resource a.sub q n a.first a.words a.writes made x l.writes l.touches (w xs x er es) tied) h

pub call_added_to_all : (all new : List (List SubTables)) (q n : ℕ) (a : WordAccess) (xs ys : List SubTables) (x : SubTables) →
    slice_get all a.resource ≡ Some xs → slice_get xs a.sub ≡ Some x → HasThread q x → ys ≡ changed_at (after_call q a.writes a.first (a.first + a.words) n) a.sub xs → new ≡ changed_at (λ _. ys) a.resource all →
    HasTablesOfThread all q a → HaveOneMore all (OfThread q n) a new
call_added_to_all all new q n a xs ys x er es l ey en w made h =
    all_added (after_call q a.writes a.first (a.first + a.words) n) all new a.resource a.sub xs ys x made (touch_by (OfThread q n) a) er es ey en refl refl
    (λ tied. call_added a.resource a.sub q n a.first a.words a.writes made x l.writes l.touches (w xs x er es) tied) h

-- there is an item at a place before the end
pub item_there : {A : Type 0} (xs : List A) (k : ℕ) → k < length xs → (x : A) × (slice_get xs k ≡ Some x)
item_there [] k l = absurd (omega (arith, l))
item_there (x ∷ xs) zero l = (x, refl)
item_there (x ∷ xs) (suc k) l = item_there xs k (omega (arith, l))

or_parts : (o m k : Bool) (x y : Bool) → ((m && k) || (x || y)) ≡ (((o && (m && k)) || x) || ((not o && (m && k)) || y))
or_parts true true true x y = refl
or_parts true true false x y = refl
or_parts true false k x y = refl
or_parts false true true true y = refl
or_parts false true true false y = refl
or_parts false true false x y = refl
or_parts false false k x y = refl

-- what the host meets are operations and calls
pub host_parts : (clock : Clock) (made : List Touch) (t : Touch) → breaks_ten_host clock made t ≡ (breaks_one clock made t || breaks_ten clock made t)
host_parts clock [] t = refl
host_parts clock (m ∷ ms) t =
    ap (λ y. (meets m t && not (knows clock m.act)) || y) (host_parts clock ms t)
    ∙ or_parts (is_operation m.act) (meets m t) (not (knows clock m.act)) (breaks_one clock ms t) (breaks_ten clock ms t)

pub host_told : (all : List (List SubTables)) (clock : Clock) (a : WordAccess) (b d : Bool) → TellsOne all clock a b → TellsTen all clock a d → TellsHost all clock a (b || d)
host_told all clock a b d one ten act made tied o u =
    ap (λ y. y || d) (one act made tied o) ∙ (ap (λ y. breaks_one clock made (touch_by act a) || y) (ten act made tied u) ∙ sym (host_parts clock made (touch_by act a)))

untouched_tied : (queues threads : ℕ) (rs : List Traits) (r s : ℕ) (xs : List SubTables) (x : SubTables) → slice_get (untouched queues threads rs) r ≡ Some xs → slice_get xs s ≡ Some x → x ≡ no_touches queues threads
untouched_tied queues threads [] r s xs x er es = cc
untouched_tied queues threads (t ∷ rs) zero s xs x er es = each t.subs s (ap (λ k. slice_get k s) (some_is (map (λ _. no_touches queues threads) t.subs) xs er) ∙ es)
  where
    each : (subs : List ℕ) (s : ℕ) → slice_get (map (λ _. no_touches queues threads) subs) s ≡ Some x → x ≡ no_touches queues threads
    each [] s e = cc
    each (n ∷ subs) zero e = sym (some_is (no_touches queues threads) x e)
    each (n ∷ subs) (suc s) e = each subs s e
untouched_tied queues threads (t ∷ rs) (suc r) s xs x er es = untouched_tied queues threads rs r s xs x er es

-- before anything was touched
pub all_tied_first : (queues threads : ℕ) (rs : List Traits) → AreAllTied [] (untouched queues threads rs)
all_tied_first queues threads rs r s xs x er es =
    subst (λ y. IsTied r s [] y) (sym (untouched_tied queues threads rs r s xs x er es)) (tied_none r s queues threads)

pub or_then : (b d : Bool) → b ≡ true → (b || d) ≡ b
or_then true d e = refl
or_then false d e = cc

pub or_else : (b d : Bool) → b ≡ false → (b || d) ≡ d
or_else true d e = cc
or_else false d e = refl

-- one subresource replaced by another: what holds of each, and of the new one where it held of the old, holds of each
all_become : (P : ℕ → ℕ → SubTables → Type 0) (words r s : ℕ) (all new : List (List SubTables)) (xs ys : List SubTables) → slice_get all r ≡ Some xs → (k : SubKept words s xs ys) → new ≡ changed_at (λ _. ys) r all →
    (P r s k.before → P r s k.after) → ((u v : ℕ) (zs : List SubTables) (z : SubTables) → slice_get all u ≡ Some zs → slice_get zs v ≡ Some z → P u v z) →
    (u v : ℕ) (zs : List SubTables) (z : SubTables) → slice_get new u ≡ Some zs → slice_get zs v ≡ Some z → P u v z
all_become P words r s all new xs ys er k en go h u v zs z eu ev =
    elim (cases_eq r u) [
      | inl e ↦
          let zs_is : zs ≡ changed_at (λ _. k.after) s xs = some_is zs ys (sym eu ∙ (ap (λ j. slice_get new j) (sym e) ∙ (ap (λ j. slice_get j r) en ∙ (get_changed (λ _. ys) all r ∙ ap (option_map (λ _. ys)) er)))) ∙ k.set in
          elim (cases_eq s v) [
            | inl g ↦
                let z_is : z ≡ k.after = some_is z k.after (sym ev ∙ (ap (λ j. slice_get zs j) (sym g) ∙ (ap (λ j. slice_get j s) zs_is ∙ (get_changed (λ _. k.after) xs s ∙ ap (option_map (λ _. k.after)) k.found)))) in
                subst (λ j. P j v z) e (subst (λ j. P r j z) g
                (subst (λ j. P r s j) (sym z_is) (go (h r s xs k.before er k.found))))
            | inr n ↦
                let old : slice_get xs v ≡ Some z = sym (ap (λ j. slice_get j v) zs_is ∙ get_changed_other (λ _. k.after) xs s v n) ∙ ev in
                h u v xs z (ap (λ j. slice_get all j) (sym e) ∙ er) old
          ]
      | inr n ↦
          let old : slice_get all u ≡ Some zs = sym (ap (λ j. slice_get j u) en ∙ get_changed_other (λ _. ys) all r u n) ∙ eu in
          h u v zs z old ev
    ]

-- one subresource replaced by one that has what was touched
pub all_kept : (words r s : ℕ) (all new : List (List SubTables)) (xs ys : List SubTables) → slice_get all r ≡ Some xs → SubKept words s xs ys → new ≡ changed_at (λ _. ys) r all → KeepAllTies all new
all_kept words r s all new xs ys er k en made h = all_become (λ u v z. IsTied u v made z) words r s all new xs ys er k en (k.ties r s made) h

-- and by one that has the tables that were there
pub all_keep_tables : (words r s : ℕ) (all new : List (List SubTables)) (xs ys : List SubTables) → slice_get all r ≡ Some xs → SubKept words s xs ys → new ≡ changed_at (λ _. ys) r all → KeepTables all new
all_keep_tables words r s all new xs ys er k en = record {
  queues = λ q a h. kept a (HasScopeTables q (a.first + a.words)) (k.tables.scopes q (a.first + a.words)) h;
  threads = λ t a h. kept a (HasCallTables t (a.first + a.words)) (k.tables.calls t (a.first + a.words)) h;
}
  where
    kept : (a : WordAccess) (P : SubTables → Type 0) → (P k.before → P k.after) → ((zs : List SubTables) (z : SubTables) → slice_get all a.resource ≡ Some zs → slice_get zs a.sub ≡ Some z → P z) →
        (zs : List SubTables) (z : SubTables) → slice_get new a.resource ≡ Some zs → slice_get zs a.sub ≡ Some z → P z
    kept a P step h zs z eu ev =
        all_become (λ u v y. u ≡ a.resource → v ≡ a.sub → P y) words r s all new xs ys er k en
        (λ f d e. step (f d e))
        (λ u v us y fu fv d e. h us y (ap (λ j. slice_get all j) (sym d) ∙ fu) (ap (λ j. slice_get us j) (sym e) ∙ fv))
        a.resource a.sub zs z eu ev refl refl

pub tables_twice : (xs ys zs : List (List SubTables)) → KeepTables xs ys → KeepTables ys zs → KeepTables xs zs
tables_twice xs ys zs h k = record { queues = λ q a t. k.queues q a (h.queues q a t); threads = λ u a t. k.threads u a (h.threads u a t) }

pub tables_same : (xs : List (List SubTables)) → KeepTables xs xs
tables_same xs = record { queues = λ q a t. t; threads = λ u a t. t }

subs_shaped : (queues threads : ℕ) (ns : List ℕ) (xs : List SubTables) (s : ℕ) (x y : SubTables) → slice_get xs s ≡ Some x → KeepShape (item_or 0 ns s) x y →
    SubsShaped queues threads ns xs → SubsShaped queues threads ns (changed_at (λ _. y) s xs)
subs_shaped queues threads [] [] s x y e k h = tt
subs_shaped queues threads [] (z ∷ xs) s x y e k h = absurd h
subs_shaped queues threads (n ∷ ns) [] s x y e k h = absurd h
subs_shaped queues threads (n ∷ ns) (z ∷ xs) zero x y e k h = (k queues threads (subst (λ j. IsShaped queues threads n j) (some_is z x e) h.0), h.1)
subs_shaped queues threads (n ∷ ns) (z ∷ xs) (suc s) x y e k h = (h.0, subs_shaped queues threads ns xs s x y e k h.1)

all_shaped : (queues threads : ℕ) (rs : List Traits) (all : List (List SubTables)) (r s : ℕ) (xs : List SubTables) (x y : SubTables) → slice_get all r ≡ Some xs → slice_get xs s ≡ Some x →
    KeepShape (words_at rs r s) x y → AreShaped queues threads rs all → AreShaped queues threads rs (changed_at (λ _. changed_at (λ _. y) s xs) r all)
all_shaped queues threads [] [] r s xs x y er es k h = tt
all_shaped queues threads [] (z ∷ all) r s xs x y er es k h = absurd h
all_shaped queues threads (t ∷ rs) [] r s xs x y er es k h = absurd h
all_shaped queues threads (t ∷ rs) (z ∷ all) zero s xs x y er es k h =
    (subs_shaped queues threads t.subs xs s x y es k (subst (λ j. SubsShaped queues threads t.subs j) (some_is z xs er) h.0), h.1)
all_shaped queues threads (t ∷ rs) (z ∷ all) (suc r) s xs x y er es k h = (h.0, all_shaped queues threads rs all r s xs x y er es k h.1)

pub all_keep_shapes : (words r s : ℕ) (all new : List (List SubTables)) (xs ys : List SubTables) → slice_get all r ≡ Some xs → SubKept words s xs ys → new ≡ changed_at (λ _. ys) r all → KeepShapes r s words all new
all_keep_shapes words r s all new xs ys er k en queues threads rs e h =
    subst (λ j. AreShaped queues threads rs j) (sym (en ∙ ap (λ j. changed_at (λ _. j) r all) k.set))
    (all_shaped queues threads rs all r s xs k.before k.after er k.found (subst (λ j. KeepShape j k.before k.after) (sym e) k.shape) h)

pub scope_tables_at : (words q : ℕ) (a : WordAccess) (all new : List (List SubTables)) (xs ys : List SubTables) → slice_get all a.resource ≡ Some xs → SubKept words a.sub xs ys → new ≡ changed_at (λ _. ys) a.resource all →
    Each (HasQueue q) xs → IsWideAt all a words → a.first + a.words ≤ words → AreQueuesMade words q a.sub xs ys → HasTablesOfQueue new q a
scope_tables_at words q a all new xs ys er k en actors wide l m zs z eu ev =
    let zs_is : zs ≡ ys = some_is zs ys (sym eu ∙ (ap (λ j. slice_get j a.resource) en ∙ (get_changed (λ _. ys) all a.resource ∙ ap (option_map (λ _. ys)) er))) in
    let found : slice_get ys a.sub ≡ Some z = ap (λ j. slice_get j a.sub) (sym zs_is) ∙ ev in
    let w = wide xs k.before er k.found in
    let actor = each_got (HasQueue q) xs a.sub k.before actors k.found in
    record {
      writes = wide_less (a.first + a.words) words (item_or None z.queue_writes q) l (wide_here words q k.before.queue_writes z.queue_writes actor.writes w.queue_writes (m.writes k.before z k.found found));
      touches = wide_less (a.first + a.words) words (item_or None z.queue_touches q) l (wide_here words q k.before.queue_touches z.queue_touches actor.touches w.queue_touches (m.touches k.before z k.found found));
    }

pub call_tables_at : (words q : ℕ) (a : WordAccess) (all new : List (List SubTables)) (xs ys : List SubTables) → slice_get all a.resource ≡ Some xs → SubKept words a.sub xs ys → new ≡ changed_at (λ _. ys) a.resource all →
    Each (HasThread q) xs → IsWideAt all a words → a.first + a.words ≤ words → AreThreadsMade words q a.sub xs ys → HasTablesOfThread new q a
call_tables_at words q a all new xs ys er k en actors wide l m zs z eu ev =
    let zs_is : zs ≡ ys = some_is zs ys (sym eu ∙ (ap (λ j. slice_get j a.resource) en ∙ (get_changed (λ _. ys) all a.resource ∙ ap (option_map (λ _. ys)) er))) in
    let found : slice_get ys a.sub ≡ Some z = ap (λ j. slice_get j a.sub) (sym zs_is) ∙ ev in
    let w = wide xs k.before er k.found in
    let actor = each_got (HasThread q) xs a.sub k.before actors k.found in
    record {
      writes = wide_less (a.first + a.words) words (item_or None z.thread_writes q) l (wide_here words q k.before.thread_writes z.thread_writes actor.writes w.thread_writes (m.writes k.before z k.found found));
      touches = wide_less (a.first + a.words) words (item_or None z.thread_touches q) l (wide_here words q k.before.thread_touches z.thread_touches actor.touches w.thread_touches (m.touches k.before z k.found found));
    }

pub queues_made : {A E : Type 0} (words q s : ℕ) (xs : List SubTables) (x y : SubTables) (r : Result A E) → s < length xs → x ≡ get_or xs s x →
    OnOk r (AreMade words x.queue_writes q y.queue_writes) → OnOk r (AreMade words x.queue_touches q y.queue_touches) → OnOk r (AreQueuesMade words q s xs (slice_set xs s y))
queues_made words q s xs x y (Err e) l g w t = tt
queues_made words q s xs x y (Ok k) l g w t =
    let found : slice_get xs s ≡ Some x = got xs s x l g in
    let after : slice_get (slice_set xs s y) s ≡ Some y = ap (λ j. slice_get j s) (write_is_changed (λ _. y) xs s x y l g refl) ∙ (get_changed (λ _. y) xs s ∙ ap (option_map (λ _. y)) found) in
    record {
      writes = λ u v eu ev. let hu : x ≡ u = some_is x u (sym found ∙ eu) in let hv : y ≡ v = some_is y v (sym after ∙ ev) in
          subst (λ j. AreMade words j.queue_writes q v.queue_writes) hu (subst (λ j. AreMade words x.queue_writes q j.queue_writes) hv w);
      touches = λ u v eu ev. let hu : x ≡ u = some_is x u (sym found ∙ eu) in let hv : y ≡ v = some_is y v (sym after ∙ ev) in
          subst (λ j. AreMade words j.queue_touches q v.queue_touches) hu (subst (λ j. AreMade words x.queue_touches q j.queue_touches) hv t);
    }

pub threads_made : {A E : Type 0} (words q s : ℕ) (xs : List SubTables) (x y : SubTables) (r : Result A E) → s < length xs → x ≡ get_or xs s x →
    OnOk r (AreMade words x.thread_writes q y.thread_writes) → OnOk r (AreMade words x.thread_touches q y.thread_touches) → OnOk r (AreThreadsMade words q s xs (slice_set xs s y))
threads_made words q s xs x y (Err e) l g w t = tt
threads_made words q s xs x y (Ok k) l g w t =
    let found : slice_get xs s ≡ Some x = got xs s x l g in
    let after : slice_get (slice_set xs s y) s ≡ Some y = ap (λ j. slice_get j s) (write_is_changed (λ _. y) xs s x y l g refl) ∙ (get_changed (λ _. y) xs s ∙ ap (option_map (λ _. y)) found) in
    record {
      writes = λ u v eu ev. let hu : x ≡ u = some_is x u (sym found ∙ eu) in let hv : y ≡ v = some_is y v (sym after ∙ ev) in
          subst (λ j. AreMade words j.thread_writes q v.thread_writes) hu (subst (λ j. AreMade words x.thread_writes q j.thread_writes) hv w);
      touches = λ u v eu ev. let hu : x ≡ u = some_is x u (sym found ∙ eu) in let hv : y ≡ v = some_is y v (sym after ∙ ev) in
          subst (λ j. AreMade words j.thread_touches q v.thread_touches) hu (subst (λ j. AreMade words x.thread_touches q j.thread_touches) hv t);
    }

-- the item that a changed list has at a place was one before
item_before : {A : Type 0} (f : A → A) (k : ℕ) (xs : List A) (i : ℕ) (y : A) (P : A → Type 0) → ((x : A) → P x → P (f x)) → ((x : A) → slice_get xs i ≡ Some x → P x) → slice_get (changed_at f k xs) i ≡ Some y → P y
item_before {A} f k xs i y P keeps h e =
    elim (cases_eq k i) [
      | inl g ↦ of_changed (slice_get xs i) refl (sym (ap (λ j. slice_get (changed_at f j xs) i) g) ∙ e)
      | inr n ↦ h y (sym (get_changed_other f xs k i n) ∙ e)
    ]
  where
    of_changed : (o : Option A) → slice_get xs i ≡ o → slice_get (changed_at f i xs) i ≡ Some y → P y
    of_changed None d e2 = let m : option_map f (slice_get xs i) ≡ Some y = sym (get_changed f xs i) ∙ e2 in absurd (cc)
    of_changed (Some x) d e2 =
        let m : Some (f x) ≡ Some y = sym (get_changed f xs i ∙ ap (option_map f) d) ∙ e2 in
        subst P (some_is (f x) y m) (keeps x (h x d))

-- what an operation touches takes no table away
pub scope_tables_kept : (p n : ℕ) (b : WordAccess) (all : List (List SubTables)) → KeepTables all (after_scope_at p n b all)
scope_tables_kept p n b all = record {
  queues = λ q a h. kept a (HasScopeTables q (a.first + a.words)) (λ x. (scope_tables_stay p n b.first (b.first + b.words) b.writes x).scopes q (a.first + a.words)) h;
  threads = λ t a h. kept a (HasCallTables t (a.first + a.words)) (λ x. (scope_tables_stay p n b.first (b.first + b.words) b.writes x).calls t (a.first + a.words)) h;
}
  where
    kept : (a : WordAccess) (P : SubTables → Type 0) → ((x : SubTables) → P x → P (after_scope p b.writes b.first (b.first + b.words) n x)) →
        ((zs : List SubTables) (z : SubTables) → slice_get all a.resource ≡ Some zs → slice_get zs a.sub ≡ Some z → P z) →
        (zs : List SubTables) (z : SubTables) → slice_get (after_scope_at p n b all) a.resource ≡ Some zs → slice_get zs a.sub ≡ Some z → P z
    kept a P step h zs z eu ev =
        item_before (changed_at (after_scope p b.writes b.first (b.first + b.words) n) b.sub) b.resource all a.resource zs
        (λ us. (y : SubTables) → slice_get us a.sub ≡ Some y → P y)
        (λ us g y ey. item_before (after_scope p b.writes b.first (b.first + b.words) n) b.sub us a.sub y P (λ x k. step x k) g ey)
        (λ us eus y ey. h us y eus ey) eu z ev
