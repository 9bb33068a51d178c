-- What the commands that are not done make of the words.
use Rattle.std.proofs.Common.{ℕ, ◌≡◌, ◌∙◌, sym, ap, subst, refl, arith, List, [], ◌∷◌, ◌++◌, drop, Some, Bool, true, false, append-nil, append_assoc, slice_get}
use Rattle.std.specs.List.{list_all}
use Rattle.d3d_machine.specs.declared.events.Operation.{Operation}
use Rattle.d3d_machine.specs.Effects.{memory_after_operation}
use Rattle.vk_types.specs.declared.commands.VkCommand.{VkCommand}
use Rattle.vk_port.specs.declared.lanes.Running.{Running}
use Rattle.vk_port.specs.After.{after_command}
use Rattle.vk_port.specs.Enabled.{undone, unmarked, all_done}
use Rattle.sys_core.specs.Ahead.{run_commands, batches_undone, memory_ahead}

-- commands in two lists
pub run_append : (xs ys : List VkCommand) (m : List (List ℕ)) → run_commands (xs ++ ys) m ≡ run_commands ys (run_commands xs m)
run_append [] ys m = refl
run_append (x ∷ xs) ys m = run_append xs ys (after_command x m)

-- operations in two lists
pub ahead_append : (xs ys : List Operation) (m : List (List ℕ)) → memory_ahead (xs ++ ys) m ≡ memory_ahead ys (memory_ahead xs m)
ahead_append [] ys m = refl
ahead_append (x ∷ xs) ys m = ahead_append xs ys (memory_after_operation m (Some x))

-- the first of some operations, and then the others
pub ahead_first_one : (os : List Operation) (m : List (List ℕ)) → memory_ahead os m ≡ memory_ahead (drop 1 os) (memory_after_operation m (slice_get os 0))
ahead_first_one [] m = refl
ahead_first_one (o ∷ os) m = refl

-- the commands not done of one more batch
pub undone_append : (rs : List Running) (r : Running) → batches_undone (rs ++ r ∷ []) ≡ batches_undone rs ++ undone r
undone_append [] r = append-nil (undone r)
undone_append (x ∷ rs) r = ap (λ cs. undone x ++ cs) (undone_append rs r) ∙ sym (append_assoc (undone x) (batches_undone rs) (undone r))

-- where all commands of a batch are marked, none is left
pub none_unmarked : (cs : List VkCommand) (done : List Bool) → list_all (λ mark. mark) done ≡ true → unmarked cs done ≡ []
none_unmarked [] done all = refl
none_unmarked (c ∷ cs) [] all = refl
none_unmarked (c ∷ cs) (true ∷ done) all = none_unmarked cs done all
none_unmarked (c ∷ cs) (false ∷ done) all = absurd (cc)

-- a first batch of which all commands are done leaves as many
pub undone_behind : (rs : List Running) (r : Running) → slice_get rs 0 ≡ Some r → all_done r ≡ true → batches_undone rs ≡ batches_undone (drop 1 rs)
undone_behind [] r is all = absurd (cc)
undone_behind (x ∷ rs) r is all =
    let same : x ≡ r = grind arith in
    ap (λ cs. cs ++ batches_undone rs) (none_unmarked x.batch.commands x.done (subst (λ y. all_done y ≡ true) (sym same) all))
