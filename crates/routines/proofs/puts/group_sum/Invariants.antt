-- The sum of the first members of the group.
use Rattle.std.proofs.Common.{◌≡◌, ◌*◌, ◌≤◌, length, take, sum}
use Rattle.routines.proofs.puts.group_sum.Given as goal

abbrev pub invariant-loop-member : goal.invariant-loop-member
invariant-loop-member l =
    (l.total ≡ sum (take l.member-index l.member-items)) × (l.total ≤ l.member-index * 4294967295) × (length l.member-items ≤ 64)
