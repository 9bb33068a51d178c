-- What a borrow of an item, or of all items, of a `Seq` gives back.
use Rattle.std.specs.Prelude.{ℕ, List, ◌++◌, length, take, drop, slice_set}
use Rattle.std.specs.Borrow.{Lends, Fml, RattleType, MutBor, Array}
use Rattle.dx_base.specs.contracts.seq.Seq.{the_row}

module _ (T : RattleType) (v : MutBor (List T.Denot)) where
  -- the list ends with the item written at that place
  abbrev pub lends_item : ℕ → MutBor T.Denot → Fml
  lends_item at r = Lends (the_row T) T v r (λ w. slice_set v.now at w)

  -- the list ends with the items written
  abbrev pub lends_slice : MutBor (List T.Denot) → Fml
  lends_slice r = Lends (the_row T) (Array T 0) v r (λ w. take (length v.now) (w ++ drop (length w) v.now))
