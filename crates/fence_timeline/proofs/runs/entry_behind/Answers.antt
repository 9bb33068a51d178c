use Rattle.std.proofs.Common.{◌≡◌, ◌-◌, refl, length, arith}
use Rattle.std.proofs.lemmas.Grind.{common_steps}
use Rattle.fence_timeline.proofs.Peaks.{entry_got, joined_entry}
use Rattle.fence_timeline.proofs.runs.entry_behind.Goals as goal

pub returns-then-before-count-clause-peak : goal.returns-then-before-count-clause-peak
returns-then-before-count-clause-peak c =
    let es = c.args.entries.now.items in
    let last = c.index-last.result.now in
    let before = c.index-before.result.now in
    let count : c.len-count.result ≡ length es = omega arith in
    let got = entry_got es (length es - 1) last (omega arith) (rw count at c.index-last.ensures) in
    let got_before = entry_got es (length es - 1 - last.run) before (omega arith) (rw count at c.index-before.ensures) in
    joined_entry
    es c.args.update (length es - 1) (length es - 1 - last.run) (length es) last before _
    c.requires refl (omega arith) got (omega arith) (omega arith) got_before (omega arith) refl (grind (arith, common_steps))
