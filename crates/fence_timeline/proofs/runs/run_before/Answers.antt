use Rattle.std.proofs.Common.{◌-◌, arith}
use Rattle.fence_timeline.proofs.Peaks.{entry_got, run_peak, own_peak}
use Rattle.fence_timeline.proofs.runs.run_before.Goals as goal

pub returns-then-entry-end-clause-before : goal.returns-then-entry-end-clause-before
returns-then-entry-end-clause-before c =
    let got = entry_got c.args.entries.now.items (c.args.end - 1) c.index-entry.result.now (omega arith) c.index-entry.ensures in
    omega (arith, (c.requires.indexed.peaks _ _ got).some)

pub returns-then-entry-end-clause-peak : goal.returns-then-entry-end-clause-peak
returns-then-entry-end-clause-peak c =
    let got = entry_got c.args.entries.now.items (c.args.end - 1) c.index-entry.result.now (omega arith) c.index-entry.ensures in
    run_peak c.args.entries.now.items (c.args.end - 1) c.args.end c.index-entry.result.now c.requires.indexed (omega arith) got (omega arith)

pub returns-else-entry-end-clause-peak : goal.returns-else-entry-end-clause-peak
returns-else-entry-end-clause-peak c =
    let got = entry_got c.args.entries.now.items (c.args.end - 1) c.index-entry.result.now (omega arith) c.index-entry.ensures in
    own_peak c.args.entries.now.items (c.args.end - 1) c.args.end c.index-entry.result.now (omega arith) got
