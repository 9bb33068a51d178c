-- A good word leaves the rest to say what is left, and is one more.
use Rattle.std.proofs.Common.{◌+◌, ◌∙◌, ap, arith, drop, map, string_bytes, sym}
use Rattle.trace_runner.specs.Words.{said_from}
use Rattle.trace_runner.proofs.Wording.{count_rises, said_goes, word_first}
use Rattle.trace_runner.proofs.words.read_words.Goals as goal

pub loop-word-preserved : goal.loop-word-preserved
loop-word-preserved c =
    let words = c.args.words.now in
    let first = word_first string_bytes words c.loop-word.word-index c.word-item.result c.as_bytes.result.now c.loop-word-test.true c.word-item.is c.as_bytes.ensures.value in
    let goes = said_goes c.loop-word.said c.in-Some.more c.loop-word.place c.as_bytes.result.now (map string_bytes (drop (c.loop-word.word-index + 1) words)) c.in-Some.ensures in
    let counted = count_rises c.loop-word.said c.in-Some.more c.as_bytes.result.now c.in-Some.ensures in
    (sym goes ∙ ap (λ ws. said_from c.loop-word.said c.loop-word.place ws) first ∙ c.loop-word.invariant.0, omega (arith, counted, c.loop-word.invariant.1))
