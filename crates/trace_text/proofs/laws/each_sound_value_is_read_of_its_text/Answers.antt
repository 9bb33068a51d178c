use Rattle.trace_text.proofs.SoundWritten.{sound_written, sound_reads}
use Rattle.trace_text.proofs.laws.each_sound_value_is_read_of_its_text.Goals as goal

pub returns : goal.returns
returns c = record { written = sound_written; reads = sound_reads }
