use Rattle.std.proofs.Common.{◌≡◌, ◌+◌, map, drop, string_bytes}
use Rattle.trace_runner.specs.Words.{said_by, said_from}
use Rattle.trace_runner.proofs.Wording.{count_said}
use Rattle.trace_runner.proofs.words.read_words.Given as goal

abbrev pub invariant-loop-word : goal.invariant-loop-word
invariant-loop-word l =
    (said_from l.said l.place (map string_bytes (drop l.word-index l.words)) ≡ said_by (map string_bytes l.words))
    × (l.place ≡ count_said l.said + 1)
