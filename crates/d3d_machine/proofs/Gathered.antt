-- The commands of several lists, in order.
use Rattle.std.proofs.Common.{ℕ, zero, suc, ◌≡◌, ◌<◌, ◌+◌, sym, ap, ◌∙◌, List, [], ◌∷◌, ◌++◌, take, length, get_or, append_assoc, append-nil, add-one, arith}
use Rattle.dx_base.specs.declared.ids.ListId.{ListId}
use Rattle.d3d_machine.specs.declared.events.Listed.{Listed}
use Rattle.d3d_machine.specs.State.{list_of}
use Rattle.d3d_machine.specs.Lists.{commands_of}

next_commands : (lists : List Listed) (ls : List ListId) (i : ℕ) (d : ListId) → i < length ls →
    commands_of lists (take (suc i) ls) ≡ commands_of lists (take i ls) ++ (list_of lists (get_or ls i d).0).commands
next_commands lists [] i d h = absurd (omega arith)
next_commands lists (l ∷ ls) zero d h = append-nil (list_of lists l.0).commands
next_commands lists (l ∷ ls) (suc i) d h =
    ap (λ cs. (list_of lists l.0).commands ++ cs) (next_commands lists ls i d (omega arith))
    ∙ sym (append_assoc (list_of lists l.0).commands (commands_of lists (take i ls)) (list_of lists (get_or ls i d).0).commands)

-- one list more
pub more_commands : (lists : List Listed) (ls : List ListId) (i : ℕ) (d : ListId) → i < length ls →
    commands_of lists (take (i + 1) ls) ≡ commands_of lists (take i ls) ++ (list_of lists (get_or ls i d).0).commands
more_commands lists ls i d h = rw (add-one i) (next_commands lists ls i d h)
