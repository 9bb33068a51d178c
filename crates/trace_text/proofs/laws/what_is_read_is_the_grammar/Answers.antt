use Rattle.trace_text.proofs.Grammar.{read_writes, written_reads, one_meaning}
use Rattle.trace_text.proofs.laws.what_is_read_is_the_grammar.Goals as goal

pub returns : goal.returns
returns c = record { read_writes = read_writes; written_reads = written_reads; one_meaning = one_meaning }
