use Rattle.trace_text.proofs.SoundLines.{written_is_sound, trace_is_sound}
use Rattle.trace_text.proofs.laws.a_trace_says_a_sound_value.Goals as goal

pub returns : goal.returns
returns c = record { lines = written_is_sound; traces = trace_is_sound }
