-- A command that can run stands behind barriers alone, where batches are in order.
use Rattle.std.proofs.Common.{ℕ, zero, suc, ◌≡◌, ◌∙◌, sym, ap, subst, refl, arith, List, [], ◌∷◌, ◌++◌, take, Some, Bool, true, false, slice_get}
use Rattle.std.specs.Prelude.{◌&&◌, ◌||◌, not, if◌then◌else◌}
use Rattle.std.specs.List.{list_all}
use Rattle.std.proofs.lemmas.Bool.{and_parts}
use Rattle.vk_types.specs.declared.commands.VkCommand.{VkCommand}
use Rattle.vk_types.specs.declared.commands.VkCommand.TheVariants.{Barrier, Copy, CopyImage, CopyIn, CopyOut, Clear, Dispatch}
use Rattle.vk_port.specs.declared.lanes.Running.{Running}
use Rattle.vk_port.specs.Enabled.{undone, unmarked}
use Rattle.vk_port.specs.Orders.{orders, can_run}
use Rattle.sys_core.specs.Ahead.{run_commands, batches_undone}
use Rattle.sys_core.specs.InOrder.{is_barrier, is_ordinary, holds_copies, has_one_at_most, opens, is_short, is_untouched, is_spent, are_in_order}
use Rattle.dx_base.proofs.Lists.{all_append}
use Rattle.d3d_machine.proofs.Named.{all_at}

-- a test of the items of two lists
pub all_front : {A : Type 0} (p : A → Bool) (xs ys : List A) → list_all p (xs ++ ys) ≡ true → list_all p xs ≡ true
all_front p [] ys all = refl
all_front p (x ∷ xs) ys all =
    let both : (p x ≡ true) × (list_all p (xs ++ ys) ≡ true) = and_parts (p x) (list_all p (xs ++ ys)) all in
    ap (λ t. t && list_all p xs) both.0 ∙ all_front p xs ys both.1

pub all_behind : {A : Type 0} (p : A → Bool) (xs ys : List A) → list_all p (xs ++ ys) ≡ true → list_all p ys ≡ true
all_behind p [] ys all = all
all_behind p (x ∷ xs) ys all = all_behind p xs ys (and_parts (p x) (list_all p (xs ++ ys)) all).1

-- what passes a test of all commands of a batch, also passes one of those that are not done
pub all_unmarked : (p : VkCommand → Bool) (cs : List VkCommand) (done : List Bool) → list_all p cs ≡ true → list_all p (unmarked cs done) ≡ true
all_unmarked p [] done all = refl
all_unmarked p (c ∷ cs) [] all = refl
all_unmarked p (c ∷ cs) (true ∷ done) all = all_unmarked p cs done (and_parts (p c) (list_all p cs) all).1
all_unmarked p (c ∷ cs) (false ∷ done) all =
    let both : (p c ≡ true) × (list_all p cs ≡ true) = and_parts (p c) (list_all p cs) all in
    ap (λ t. t && list_all p (unmarked cs done)) both.0 ∙ all_unmarked p cs done both.1

-- of barriers none is no barrier
of_barriers : (ds : List VkCommand) → list_all is_barrier ds ≡ true → has_one_at_most ds ≡ true
of_barriers [] all = refl
of_barriers (d ∷ ds) all =
    let both : (is_barrier d ≡ true) × (list_all is_barrier ds ≡ true) = and_parts (is_barrier d) (list_all is_barrier ds) all in
    ap (λ t. if t then has_one_at_most ds else list_all is_barrier ds) both.0 ∙ of_barriers ds both.1

-- of commands of which at most one is no barrier, at most one that is not done is none
pub one_unmarked : (cs : List VkCommand) (done : List Bool) → has_one_at_most cs ≡ true → has_one_at_most (unmarked cs done) ≡ true
one_unmarked [] done one = refl
one_unmarked (c ∷ cs) [] one = refl
one_unmarked (c ∷ cs) (true ∷ done) one = one_unmarked cs done (without (is_barrier c) one)
  where
    without : (t : Bool) → (if t then has_one_at_most cs else list_all is_barrier cs) ≡ true → has_one_at_most cs ≡ true
    without true is = is
    without false is = of_barriers cs is
one_unmarked (c ∷ cs) (false ∷ done) one = by_kind (is_barrier c) (one_unmarked cs done) one
  where
    by_kind : (t : Bool) → (has_one_at_most cs ≡ true → has_one_at_most (unmarked cs done) ≡ true) → (if t then has_one_at_most cs else list_all is_barrier cs) ≡ true →
        (if t then has_one_at_most (unmarked cs done) else list_all is_barrier (unmarked cs done)) ≡ true
    by_kind true more is = more is
    by_kind false more is = all_unmarked is_barrier cs done is

-- before the one that is no barrier stand barriers
pub barriers_before : (xs : List VkCommand) (c : VkCommand) (ys : List VkCommand) → is_barrier c ≡ false → has_one_at_most (xs ++ c ∷ ys) ≡ true → list_all is_barrier xs ≡ true
barriers_before [] c ys copy one = refl
barriers_before (x ∷ xs) c ys copy one = by_kind (is_barrier x) (barriers_before xs c ys copy) one
  where
    by_kind : (t : Bool) → (has_one_at_most (xs ++ c ∷ ys) ≡ true → list_all is_barrier xs ≡ true) →
        (if t then has_one_at_most (xs ++ c ∷ ys) else list_all is_barrier (xs ++ c ∷ ys)) ≡ true → (t && list_all is_barrier xs) ≡ true
    by_kind true more is = more is
    by_kind false more is =
        let last : list_all is_barrier (c ∷ ys) ≡ true = all_behind is_barrier xs (c ∷ ys) is in
        let barrier : is_barrier c ≡ true = (and_parts (is_barrier c) (list_all is_barrier ys) last).0 in
        absurd (let e : true ≡ false = sym barrier ∙ copy in cc)

-- a copy that is not done holds a barrier that waits for copies
copy_holds : (e c : VkCommand) → is_ordinary e ≡ true → is_ordinary c ≡ true → is_barrier c ≡ true → not (orders e c) ≡ true → is_barrier e ≡ true
copy_holds (Barrier from made to seen change) c ordinary barrier is free = refl
copy_holds (Copy to to_first from from_first words) (Barrier f made t seen change) ordinary waits is free =
    absurd (let e : true ≡ false = sym free ∙ ap not waits in cc)
copy_holds (Copy to to_first from from_first words) (Copy a b d e n) ordinary waits is free = absurd (cc)
copy_holds (Copy to to_first from from_first words) (CopyImage a b d e f g) ordinary waits is free = absurd (cc)
copy_holds (Copy to to_first from from_first words) (CopyIn a b d e f g) ordinary waits is free = absurd (cc)
copy_holds (Copy to to_first from from_first words) (CopyOut a b d e f g) ordinary waits is free = absurd (cc)
copy_holds (Copy to to_first from from_first words) (Clear a b) ordinary waits is free = absurd (cc)
copy_holds (Copy to to_first from from_first words) (Dispatch a b d e f g) ordinary waits is free = absurd (cc)
copy_holds (CopyImage a b d e f g) c ordinary waits is free = absurd (cc)
copy_holds (CopyIn a b d e f g) c ordinary waits is free = absurd (cc)
copy_holds (CopyOut a b d e f g) c ordinary waits is free = absurd (cc)
copy_holds (Clear a b) c ordinary waits is free = absurd (cc)
copy_holds (Dispatch a b d e f g) c ordinary waits is free = absurd (cc)

-- a barrier that can run stands behind barriers alone
pub barrier_is_behind : (before : List VkCommand) (c : VkCommand) → list_all is_ordinary before ≡ true → is_ordinary c ≡ true → is_barrier c ≡ true →
    can_run before c ≡ true → list_all is_barrier before ≡ true
barrier_is_behind [] c ordinary waits is free = refl
barrier_is_behind (e ∷ before) c ordinary waits is free =
    let these : (is_ordinary e ≡ true) × (list_all is_ordinary before ≡ true) = and_parts (is_ordinary e) (list_all is_ordinary before) ordinary in
    let those : (not (orders e c) ≡ true) × (can_run before c ≡ true) = and_parts (not (orders e c)) (can_run before c) free in
    ap (λ t. t && list_all is_barrier before) (copy_holds e c these.0 waits is those.0) ∙ barrier_is_behind before c these.1 waits is those.1

-- a first barrier for which copies wait holds a copy
first_holds : (e c : VkCommand) → holds_copies e ≡ true → is_ordinary c ≡ true → is_barrier c ≡ false → not (orders e c) ≡ true → ⊥
first_holds (Barrier from made to seen change) (Copy a b d e n) holds ordinary copy free = let e : true ≡ false = sym free ∙ ap not holds in cc
first_holds (Barrier from made to seen change) (Barrier f m t s ch) holds ordinary copy free = cc
first_holds (Barrier from made to seen change) (CopyImage a b d e f g) holds ordinary copy free = cc
first_holds (Barrier from made to seen change) (CopyIn a b d e f g) holds ordinary copy free = cc
first_holds (Barrier from made to seen change) (CopyOut a b d e f g) holds ordinary copy free = cc
first_holds (Barrier from made to seen change) (Clear a b) holds ordinary copy free = cc
first_holds (Barrier from made to seen change) (Dispatch a b d e f g) holds ordinary copy free = cc
first_holds (Copy to to_first from from_first words) c holds ordinary copy free = cc
first_holds (CopyImage a b d e f g) c holds ordinary copy free = cc
first_holds (CopyIn a b d e f g) c holds ordinary copy free = cc
first_holds (CopyOut a b d e f g) c holds ordinary copy free = cc
first_holds (Clear a b) c holds ordinary copy free = cc
first_holds (Dispatch a b d e f g) c holds ordinary copy free = cc

-- a barrier for which copies wait is one
holder_is_barrier : (e : VkCommand) → holds_copies e ≡ true → is_barrier e ≡ true
holder_is_barrier (Barrier from made to seen change) holds = refl
holder_is_barrier (Copy to to_first from from_first words) holds = absurd (cc)
holder_is_barrier (CopyImage a b d e f g) holds = absurd (cc)
holder_is_barrier (CopyIn a b d e f g) holds = absurd (cc)
holder_is_barrier (CopyOut a b d e f g) holds = absurd (cc)
holder_is_barrier (Clear a b) holds = absurd (cc)
holder_is_barrier (Dispatch a b d e f g) holds = absurd (cc)

-- where no command of a batch is done, a copy of it can not run
pub untouched_copy : (pre cs : List VkCommand) (done : List Bool) (before after : List VkCommand) (c : VkCommand) → is_short cs ≡ true → list_all (λ mark. not mark) done ≡ true →
    unmarked cs done ≡ before ++ c ∷ after → is_ordinary c ≡ true → is_barrier c ≡ false → can_run (pre ++ before) c ≡ true → ⊥
untouched_copy pre [] done [] after c short none was ordinary copy free = cc
untouched_copy pre [] done (b ∷ before) after c short none was ordinary copy free = cc
untouched_copy pre (d ∷ cs) [] [] after c short none was ordinary copy free = cc
untouched_copy pre (d ∷ cs) [] (b ∷ before) after c short none was ordinary copy free = cc
untouched_copy pre (d ∷ cs) (true ∷ done) before after c short none was ordinary copy free = cc
untouched_copy pre (d ∷ cs) (false ∷ done) [] after c short none was ordinary copy free =
    let opening : holds_copies d ≡ true = (and_parts (holds_copies d) (list_all is_ordinary (d ∷ cs) && has_one_at_most (d ∷ cs)) short).0 in
    let same : d ≡ c = cc in
    let barrier : is_barrier c ≡ true = subst (λ x. is_barrier x ≡ true) same (holder_is_barrier d opening) in
    let e : true ≡ false = sym barrier ∙ copy in cc
untouched_copy pre (d ∷ cs) (false ∷ done) (b ∷ before) after c short none was ordinary copy free =
    let opening : holds_copies d ≡ true = (and_parts (holds_copies d) (list_all is_ordinary (d ∷ cs) && has_one_at_most (d ∷ cs)) short).0 in
    let same : d ≡ b = cc in
    let later : can_run (b ∷ before) c ≡ true = all_behind (λ e. not (orders e c)) pre (b ∷ before) free in
    let first : not (orders b c) ≡ true = (and_parts (not (orders b c)) (can_run before c) later).0 in
    first_holds d c opening ordinary copy (subst (λ x. not (orders x c) ≡ true) (sym same) first)

-- barriers do nothing to words
pub barriers_do_nothing : (xs ys : List VkCommand) (m : List (List ℕ)) → list_all is_barrier xs ≡ true → run_commands (xs ++ ys) m ≡ run_commands ys m
barriers_do_nothing [] ys m all = refl
barriers_do_nothing (Barrier from made to seen change ∷ xs) ys m all = barriers_do_nothing xs ys m all
barriers_do_nothing (Copy to to_first from from_first words ∷ xs) ys m all = absurd (cc)
barriers_do_nothing (CopyImage a b d e f g ∷ xs) ys m all = absurd (cc)
barriers_do_nothing (CopyIn a b d e f g ∷ xs) ys m all = absurd (cc)
barriers_do_nothing (CopyOut a b d e f g ∷ xs) ys m all = absurd (cc)
barriers_do_nothing (Clear a b ∷ xs) ys m all = absurd (cc)
barriers_do_nothing (Dispatch a b d e f g ∷ xs) ys m all = absurd (cc)

-- the earlier batches of one that has begun have only barriers left
pub spent_before : (rs : List Running) (place : ℕ) (r : Running) → are_in_order rs ≡ true → slice_get rs place ≡ Some r → (is_untouched r ≡ true → ⊥) →
    list_all is_barrier (batches_undone (take place rs)) ≡ true
spent_before rs zero r order there begun = refl
spent_before [] (suc place) r order there begun = refl
spent_before (x ∷ rs) (suc place) r order there begun =
    let a : (is_short x.batch.commands ≡ true) × (((is_spent x || list_all is_untouched rs) && are_in_order rs) ≡ true) =
    and_parts (is_short x.batch.commands) ((is_spent x || list_all is_untouched rs) && are_in_order rs) order in
    let b : ((is_spent x || list_all is_untouched rs) ≡ true) × (are_in_order rs ≡ true) = and_parts (is_spent x || list_all is_untouched rs) (are_in_order rs) a.1 in
    all_append is_barrier (undone x) (batches_undone (take place rs)) (by_kind (is_spent x) refl b.0) (spent_before rs place r b.1 there begun)
  where
    by_kind : (t : Bool) → is_spent x ≡ t → (t || list_all is_untouched rs) ≡ true → is_spent x ≡ true
    by_kind true is either = is
    by_kind false is either = absurd (begun (all_at is_untouched rs place r either there))

-- all commands that are not done are ordinary
pub all_ordinary : (rs : List Running) → are_in_order rs ≡ true → list_all is_ordinary (batches_undone rs) ≡ true
all_ordinary [] order = refl
all_ordinary (x ∷ rs) order =
    let cs : List VkCommand = x.batch.commands in
    let a : (is_short cs ≡ true) × (((is_spent x || list_all is_untouched rs) && are_in_order rs) ≡ true) =
    and_parts (is_short cs) ((is_spent x || list_all is_untouched rs) && are_in_order rs) order in
    let b : ((is_spent x || list_all is_untouched rs) ≡ true) × (are_in_order rs ≡ true) = and_parts (is_spent x || list_all is_untouched rs) (are_in_order rs) a.1 in
    let c : (opens cs ≡ true) × ((list_all is_ordinary cs && has_one_at_most cs) ≡ true) = and_parts (opens cs) (list_all is_ordinary cs && has_one_at_most cs) a.0 in
    let d : (list_all is_ordinary cs ≡ true) × (has_one_at_most cs ≡ true) = and_parts (list_all is_ordinary cs) (has_one_at_most cs) c.1 in
    all_append is_ordinary (undone x) (batches_undone rs) (all_unmarked is_ordinary cs x.done d.0) (all_ordinary rs b.1)

-- a batch of those in order is short
pub short_at : (rs : List Running) (place : ℕ) (r : Running) → are_in_order rs ≡ true → slice_get rs place ≡ Some r → is_short r.batch.commands ≡ true
short_at [] place r order there = absurd (cc)
short_at (x ∷ rs) zero r order there =
    let same : x ≡ r = grind arith in
    subst (λ (y : Running). is_short y.batch.commands ≡ true) same (and_parts (is_short x.batch.commands) ((is_spent x || list_all is_untouched rs) && are_in_order rs) order).0
short_at (x ∷ rs) (suc place) r order there =
    let a : ((is_spent x || list_all is_untouched rs) && are_in_order rs) ≡ true =
    (and_parts (is_short x.batch.commands) ((is_spent x || list_all is_untouched rs) && are_in_order rs) order).1 in
    short_at rs place r (and_parts (is_spent x || list_all is_untouched rs) (are_in_order rs) a).1 there
