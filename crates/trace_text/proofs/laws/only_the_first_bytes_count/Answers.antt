use Rattle.trace_text.proofs.TakenBytes.{first_bytes}
use Rattle.trace_text.proofs.laws.only_the_first_bytes_count.Goals as goal

pub returns : goal.returns
returns c = first_bytes
