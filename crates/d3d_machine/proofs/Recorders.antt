-- The numbers of recording lists stay right when a list changes.
use Rattle.std.proofs.Common.{ℕ, zero, suc, ◌≡◌, ◌<◌, ◌+◌, ◌-◌, ◌==◌, ◌||◌, ◌&&◌, ◌≤◌, inl, inr, not, Bool, true, false, refl, sym, ap, subst, ◌∙◌, List, [], ◌∷◌, map, length, get_or, slice_get, Option, Some, None, zero-add, arith}
use Rattle.std.proofs.lemmas.Option.{get_or_from_slice_get, slice_get_within}
use Rattle.std.specs.List.{list_any}
use Rattle.std.proofs.lemmas.Bool.{cases_eq}
use Rattle.std.proofs.lemmas.Bool.Decides.{nat_tests}
use Rattle.dx_base.specs.Lists.{changed_at}
use Rattle.dx_base.proofs.Lists.{length_changed, get_or_changed, get_or_changed_other, changed_alike}
use Rattle.dx_base.specs.declared.hresult.Hresult.TheVariants.{Fail}
use Rattle.dx_base.specs.declared.hresult.Hresult.{Hresult}
use Rattle.dx_base.specs.declared.ids.AllocatorId.{AllocatorId}
use Rattle.d3d_machine.specs.declared.world.World.{World}
use Rattle.d3d_machine.specs.declared.calls.Record.{Record}
use Rattle.d3d_machine.specs.declared.events.Listed.{Listed}
use Rattle.d3d_machine.specs.State.{declared_list, is_recording, list_of}
use Rattle.d3d_machine.specs.Replies.{refuse_if, records_from, record_error}
use Rattle.d3d_machine.specs.Effects.{recorded, recorded_or, kept_or, begun, closed, failed}
use Rattle.d3d_machine.specs.Recorders.{one_if, recorders, CountsRecorders, allocator_if, recorder_of, released, taken}
use Rattle.d3d_machine.specs.Lists.{lists_or, ended_by, ended, failed_lists_if, lists_after_close}

any_cons : (b c : Bool) (n : ℕ) → c ≡ not (n == 0) → (b || c) ≡ not (one_if b + n == 0)
any_cons true c n h = grind arith
any_cons false c n h = rw zero-add h

-- a list records from an allocator where the number is not 0
pub any_records : (a : ℕ) (xs : List Listed) → list_any (records_from a) xs ≡ not (recorders a xs == 0)
any_records a [] = refl
any_records a (x ∷ xs) = any_cons (records_from a x) (list_any (records_from a) xs) (recorders a xs) (any_records a xs)

-- one list's part in the number changes
pub recorders_changed : (a : ℕ) (f : Listed → Listed) (xs : List Listed) (i : ℕ) (x : Listed) → slice_get xs i ≡ Some x →
    recorders a (changed_at f i xs) + one_if (records_from a x) ≡ recorders a xs + one_if (records_from a (f x))
recorders_changed a f [] i x h = cc
recorders_changed a f (y ∷ xs) zero x h = let e : x ≡ y = cc in rw e (omega arith)
recorders_changed a f (y ∷ xs) (suc i) x h =
    let more : recorders a (changed_at f i xs) + one_if (records_from a x) ≡ recorders a xs + one_if (records_from a (f x))
    = recorders_changed a f xs i x h in
    omega arith

-- the test of one number is the test of all lists
pub has_recorders : (counts : List ℕ) (lists : List Listed) (a n : ℕ) → CountsRecorders counts lists → slice_get counts a ≡ Some n →
    not (n == 0) ≡ list_any (records_from a) lists
has_recorders counts lists a n h e =
    let same : n ≡ recorders a lists = sym (get_or_from_slice_get counts a n 0 e) ∙ h.each a (slice_get_within counts a n e) in
    rw (same, any_records a lists) refl

-- a change that leaves what a list records from leaves the numbers
pub counts_kept : (counts : List ℕ) (f : Listed → Listed) (lists : List Listed) (i : ℕ) (x : Listed) → slice_get lists i ≡ Some x →
    ((a : ℕ) → records_from a (f x) ≡ records_from a x) → CountsRecorders counts lists → CountsRecorders counts (changed_at f i lists)
counts_kept counts f lists i x e same h = record {
  each = λ a l.
      let moved : recorders a (changed_at f i lists) + one_if (records_from a x) ≡ recorders a lists + one_if (records_from a (f x))
      = recorders_changed a f lists i x e in
      let kept : one_if (records_from a (f x)) ≡ one_if (records_from a x) = ap one_if (same a) in
      let was : get_or counts a 0 ≡ recorders a lists = h.each a l in
      omega arith;
}

kept_from : (o e : Option Hresult) (what : Record) (x : Listed) (a : ℕ) → records_from a (kept_or o x (recorded_or e what x)) ≡ records_from a x
kept_from None None what x a = refl
kept_from None (Some e) what x a = refl
kept_from (Some o) e what x a = refl

-- a recording call leaves what a list records from
pub recorded_from : (w : World) (what : Record) (x : Listed) (a : ℕ) → records_from a (recorded w what x) ≡ records_from a x
recorded_from w what x a = kept_from x.error (record_error w x what) what x a

-- a change of one list and the change of the numbers that goes with it
pub counts_changed : (counts more : List ℕ) (f : Listed → Listed) (lists : List Listed) (i : ℕ) (x : Listed) → slice_get lists i ≡ Some x →
    length more ≡ length counts →
    ((a : ℕ) → a < length counts → recorders a lists ≡ get_or counts a 0 → get_or more a 0 + one_if (records_from a x) ≡ get_or counts a 0 + one_if (records_from a (f x))) →
    CountsRecorders counts lists → CountsRecorders more (changed_at f i lists)
counts_changed counts more f lists i x e long moves h = record {
  each = λ a l.
      let inside : a < length counts = omega arith in
      let was : get_or counts a 0 ≡ recorders a lists = h.each a inside in
      let moved : recorders a (changed_at f i lists) + one_if (records_from a x) ≡ recorders a lists + one_if (records_from a (f x))
      = recorders_changed a f lists i x e in
      let number : get_or more a 0 + one_if (records_from a x) ≡ get_or counts a 0 + one_if (records_from a (f x)) = moves a inside (sym was) in
      omega arith;
}

-- the list of an id that names one
pub list_is : (lists : List Listed) (l : ℕ) → l < length lists → slice_get lists l ≡ Some (list_of lists l)
list_is [] l h = absurd (omega arith)
list_is (x ∷ lists) zero h = refl
list_is (x ∷ lists) (suc l) h = list_is lists l (omega arith)

-- after a recording call
pub counts_recorded : (counts : List ℕ) (lists more : List Listed) (w : World) (what : Record) (l : ℕ) → l < length lists →
    more ≡ changed_at (recorded w what) l lists → CountsRecorders counts lists → CountsRecorders counts more
counts_recorded counts lists more w what l h e c =
    rw e (counts_kept counts (recorded w what) lists l (list_of lists l) (list_is lists l h) (recorded_from w what (list_of lists l)) c)

abbrev is_from : ℕ → Option AllocatorId → Bool
is_from a None = false
is_from a (Some b) = b.0 == a

from_recorder : (a : ℕ) (b : Bool) (o : Option AllocatorId) → (b && elim o [ None ↦ false | Some c ↦ c.0 == a ]) ≡ is_from a (allocator_if b o)
from_recorder a true None = refl
from_recorder a true (Some c) = refl
from_recorder a false None = refl
from_recorder a false (Some c) = refl

ended_from : (a : ℕ) (o : Option Hresult) (x : Listed) → records_from a (ended_by o x) ≡ false
ended_from a None x = refl
ended_from a (Some e) x = refl

pub length_released : (o : Option AllocatorId) (counts : List ℕ) → length (released o counts) ≡ length counts
length_released None counts = refl
length_released (Some b) counts = length_changed (λ n. n - 1) counts b.0

-- a number is one less where its allocator is released
less_one : (o : Option AllocatorId) (counts : List ℕ) (a : ℕ) → a < length counts → get_or (released o counts) a 0 ≡ get_or counts a 0 - one_if (is_from a o)
less_one None counts a h = omega arith
less_one (Some b) counts a h = elim (cases_eq b.0 a) [
  | inl e ↦ let now : get_or (changed_at (λ n. n - 1) a counts) a 0 ≡ get_or counts a 0 - 1 = get_or_changed (λ n. n - 1) counts a 0 h in
      let yes : (a == a) ≡ true = grind (arith, nat_tests) in
      rw (e, yes) now
  | inr n ↦ let now : get_or (changed_at (λ n. n - 1) b.0 counts) a 0 ≡ get_or counts a 0 = get_or_changed_other (λ n. n - 1) counts b.0 a 0 n in
      let no : (b.0 == a) ≡ false = grind (arith, nat_tests) in
      rw no (omega arith)
]

-- a list is one of the recorders of its allocator
is_counted : (a : ℕ) (lists : List Listed) (i : ℕ) (x : Listed) → slice_get lists i ≡ Some x → one_if (records_from a x) ≤ recorders a lists
is_counted a [] i x h = cc
is_counted a (y ∷ lists) zero x h = let e : x ≡ y = cc in rw e (omega arith)
is_counted a (y ∷ lists) (suc i) x h = let more : one_if (records_from a x) ≤ recorders a lists = is_counted a lists i x h in omega arith

-- after the end of a recording
pub counts_ended : (counts more : List ℕ) (lists after : List Listed) (l : ℕ) → l < length lists →
    more ≡ released (recorder_of (list_of lists l)) counts → after ≡ changed_at ended l lists → CountsRecorders counts lists → CountsRecorders more after
counts_ended counts more lists after l h m e c =
    rw (m, e) (counts_changed counts (released (recorder_of (list_of lists l)) counts) ended lists l (list_of lists l) (list_is lists l h)
    (length_released (recorder_of (list_of lists l)) counts)
    (λ a inside was.
    let less : get_or (released (recorder_of (list_of lists l)) counts) a 0 ≡ get_or counts a 0 - one_if (is_from a (recorder_of (list_of lists l)))
    = less_one (recorder_of (list_of lists l)) counts a inside in
    let from : one_if (records_from a (list_of lists l)) ≡ one_if (is_from a (recorder_of (list_of lists l)))
    = ap one_if (from_recorder a (is_recording (list_of lists l)) (list_of lists l).allocator) in
    let one : one_if (records_from a (list_of lists l)) ≤ recorders a lists = is_counted a lists l (list_of lists l) (list_is lists l h) in
    let none : one_if (records_from a (ended (list_of lists l))) ≡ 0 = ap one_if (ended_from a (list_of lists l).error (list_of lists l)) in
    omega arith)
    c)

idle_from : (a : ℕ) (x : Listed) → is_recording x ≡ false → records_from a x ≡ false
idle_from a x h = rw h refl

begun_number : (counts : List ℕ) (lists : List Listed) (a b : ℕ) (z : ℕ) → b < length counts → list_any (records_from a) lists ≡ false →
    recorders b lists ≡ get_or counts b 0 → z ≡ 0 → get_or (taken a counts) b 0 + z ≡ get_or counts b 0 + one_if (a == b)
begun_number counts lists a b z inside free was none = elim (cases_eq a b) [
  | inl e ↦ let now : get_or (changed_at (λ _. 1) b counts) b 0 ≡ 1 = get_or_changed (λ _. 1) counts b 0 inside in
      let yes : (b == b) ≡ true = grind (arith, nat_tests) in
      let zero_of : not (recorders b lists == 0) ≡ false = sym (any_records b lists) ∙ subst (λ k. list_any (records_from k) lists ≡ false) e free in
      let no_one : recorders b lists ≡ 0 = grind (arith, nat_tests) in
      rw (e, yes) (omega arith)
  | inr n ↦ let now : get_or (changed_at (λ _. 1) a counts) b 0 ≡ get_or counts b 0 = get_or_changed_other (λ _. 1) counts a b 0 n in
      let no : (a == b) ≡ false = grind (arith, nat_tests) in
      rw no (omega arith)
]

-- after the beginning of a recording from an allocator that none records from
pub counts_begun : (counts more : List ℕ) (lists after : List Listed) (l a : ℕ) → l < length lists →
    is_recording (list_of lists l) ≡ false → list_any (records_from a) lists ≡ false →
    more ≡ taken a counts → after ≡ changed_at (λ _. begun a) l lists → CountsRecorders counts lists → CountsRecorders more after
counts_begun counts more lists after l a h idle free m e c =
    rw (m, e) (counts_changed counts (taken a counts) (λ _. begun a) lists l (list_of lists l) (list_is lists l h)
    (length_changed (λ _. 1) counts a)
    (λ b inside was.
    let none : one_if (records_from b (list_of lists l)) ≡ 0 = ap one_if (idle_from b (list_of lists l) idle) in
    begun_number counts lists a b (one_if (records_from b (list_of lists l))) inside free was none)
    c)

-- no list of a world records at first
pub none_record : {A : Type 0} (a : ℕ) (xs : List A) → recorders a (map (λ _. declared_list) xs) ≡ 0
none_record a [] = refl
none_record a (x ∷ xs) = rw zero-add (none_record a xs)

zero_at : {A : Type 0} (xs : List A) (i : ℕ) → get_or (map {B = ℕ} (λ _. 0) xs) i 0 ≡ 0
zero_at [] i = refl
zero_at (x ∷ xs) zero = refl
zero_at (x ∷ xs) (suc i) = zero_at xs i

pub counts_declared : {A B : Type 0} (counts : List ℕ) (lists : List Listed) (allocators : List A) (types : List B) →
    counts ≡ map {B = ℕ} (λ _. 0) allocators → lists ≡ map (λ _. declared_list) types → CountsRecorders counts lists
counts_declared counts lists allocators types c e = rw (c, e) (record { each = λ a l. zero_at allocators a ∙ sym (none_record a types) })

ended_alike : (lists : List Listed) (l : ℕ) (x : Listed) (o : Option Hresult) → slice_get lists l ≡ Some x → x.error ≡ o →
    changed_at ended l lists ≡ lists_or o (changed_at closed l lists) (changed_at failed l lists)
ended_alike lists l x None h e = changed_alike ended closed lists l x h (ap (λ o. ended_by o x) e)
ended_alike lists l x (Some o) h e = changed_alike ended failed lists l x h (ap (λ o. ended_by o x) e)

-- the end of a recording is what a close makes of a recording list
pub close_is_end : (lists after : List Listed) (l : ℕ) → l < length lists → is_recording (list_of lists l) ≡ true →
    after ≡ changed_at ended l lists → after ≡ lists_after_close lists l
close_is_end lists after l h r e =
    subst (λ b. after ≡ lists_or (refuse_if (not b) Fail (list_of lists l).error) (changed_at closed l lists) (failed_lists_if b l lists)) (sym r)
    (e ∙ ended_alike lists l (list_of lists l) (list_of lists l).error (list_is lists l h) refl)
