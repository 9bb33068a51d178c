-- One more line is taken, or refused.
use Rattle.std.proofs.Common.{◌∙◌, length, sym, arith}
use Rattle.journal_text.proofs.TextSteps.{end_is, line_taken, line_faulted, last_told}
use Rattle.journal_text.proofs.texts.read_text.Goals as goal

pub returns-in-Err : goal.returns-in-Err
returns-in-Err c =
    let kept = c.loop-line.invariant in
    let end = end_is c.args.text.now c.loop-line.rest.now c.in-Some.line.now c.in-Some.behind.now c.in-Some.ensures kept.1 in
    rw (c.at_line.ensures, ← kept.0)
    (line_faulted c.loop-line.number _ c.loop-line.reading c.take_sized.new.self c.loop-line.rest.now _ _ _ c.in-Err.fault
    c.in-Some.ensures end c.in-Err.ensures)

pub loop-line-preserved : goal.loop-line-preserved
loop-line-preserved c =
    let kept = c.loop-line.invariant in
    let end = end_is c.args.text.now c.loop-line.rest.now c.in-Some.line.now c.in-Some.behind.now c.in-Some.ensures kept.1 in
    let taken = line_taken c.loop-line.number _ c.loop-line.reading c.take_sized.new.self c.loop-line.rest.now _ _ _
    c.in-Some.ensures end c.in-Ok.ensures in
    (sym taken ∙ kept.0, omega (arith, end, kept.1), omega (arith, end, kept.1, kept.2))

pub returns-in-Some-last_cause : goal.returns-in-Some-last_cause
returns-in-Some-last_cause c =
    let kept = c.loop-line.invariant in
    sym kept.0
    ∙ last_told c.loop-line.number _ c.loop-line.reading c.loop-line.rest.now (length c.args.text.now) _
    c.in_default.ensures (omega (arith, kept.1)) (sym c.in-Some-last_cause.ensures)

pub returns-in-None : goal.returns-in-None
returns-in-None c =
    let kept = c.loop-line.invariant in
    sym kept.0
    ∙ last_told c.loop-line.number _ c.loop-line.reading c.loop-line.rest.now (length c.args.text.now) _
    c.in_default.ensures (omega (arith, kept.1)) (sym c.in-None.ensures)
