-- What contracts see of the sources and the sinks.
use Rattle.std.specs.Prelude.{ℕ, ◌==◌, Bool, ◌||◌, List}
use Rattle.text_io.specs.Calls.{Calls, fails_next}

-- a source in memory
pub record SourceView : Type 0 where
  -- the bytes still to come
  pub left : List ℕ
  pub calls : Calls

-- a sink in memory
pub record SinkView : Type 0 where
  -- the bytes taken
  pub held : List ℕ
  -- how many more it takes
  pub room : ℕ
  pub calls : Calls

-- the next write fails: it is one that is to, or no room is left
abbrev pub refuses_next : SinkView → Bool
refuses_next s = fails_next s.calls || (s.room == 0)

-- a source or a sink over one of the standard library's readers or writers
pub record StdView (T : Type 0) : Type 0 where
  -- the reader, or the writer
  pub inner : T
  -- how many faults came, which stops at the last number of its type
  pub faults : ℕ
