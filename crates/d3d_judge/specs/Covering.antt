-- What a clean scope and a clean event tell.
use Rattle.std.specs.Prelude.{ℕ, suc, map, cond, ◌≡◌, ◌<◌, ◌&&◌, ◌++◌, List, [], ◌∷◌, slice_get, true, false, Option, Some}
use Rattle.dx_base.specs.Each.{Each}
use Rattle.clocks.specs.declared.clock.Clock.{Clock}
use Rattle.clocks.specs.Clocks.{knows}
use Rattle.enhanced_barriers.specs.declared.barriers.Barrier.{Barrier}
use Rattle.enhanced_barriers.specs.Cover.{after_has}
use Rattle.d3d_judge.specs.Commands.{Range, Access, Pair, Command, Accesses, Bars, chains, is_change}
use Rattle.d3d_judge.specs.Scopes.{Opened, own_before, concerns, opened_of, change_opened, named}
use Rattle.d3d_judge.specs.Setting.{Setting}
use Rattle.d3d_judge.specs.Touches.{Touch, conflict, doing_of, overlaps, meets}

-- a clock knows each made touch that meets another
abbrev pub Known : Clock → List Touch → Touch → Type 0
Known clock made t = Each (λ m. meets m t ≡ true → knows clock m.act ≡ true) made

-- a barrier of a scope adds to the covered pairs of the access at place k: a change is its own; a later barrier that
-- concerns the words has the access's own pair before, or has in its sync before a part of what one that adds has after
pub data Adds (cs : List Command) (k : ℕ) (r : Range) (own : Option Pair) : ℕ → Barrier → Type 0 where
  itself : (b : Barrier) → slice_get cs k ≡ Some (Bars b) → is_change b ≡ true → Adds cs k r own k b
  by_own : (l : ℕ) (b : Barrier) → k < l → slice_get cs l ≡ Some (Bars b) → concerns b.scope r ≡ true → own_before b own ≡ true → Adds cs k r own l b
  by_part : (m : ℕ) (d : Barrier) (l : ℕ) (b : Barrier) → Adds cs k r own m d → m < l → slice_get cs l ≡ Some (Bars b) → concerns b.scope r ≡ true →
      chains d b ≡ true → Adds cs k r own l b

-- an access of a scope, before a place of it: it is earlier, and each of its adders is earlier and adds
pub record IsOpened (cs : List Command) (place : ℕ) (o : Opened) : Type 0 where
  pub earlier : o.place < place
  pub adders : Each (λ l. (l.place < place) × Adds cs o.place o.range o.own l.place l.barrier) o.adders

-- an access has an adder that comes before a place and has a pair after
pub record Covering (cs : List Command) (place : ℕ) (o : Opened) (pair : Pair) : Type 0 where
  pub at : ℕ
  pub barrier : Barrier
  pub before : at < place
  pub adds : Adds cs o.place o.range o.own at barrier
  pub has : after_has barrier pair.part pair.kind ≡ true

-- what the commands of a scope open, in order, from a place on: their accesses, and the changes of layouts
abbrev pub bare : Opened → Opened
bare o = record o { adders = [] }

abbrev pub opened_by : Setting → ℕ → Command → List Opened
opened_by base k (Accesses part xs) = map (opened_of k part) xs
opened_by base k (Bars b) = cond (is_change b) (map (λ r. bare (change_opened k b r)) (named base b.scope)) []

abbrev pub opened_from : Setting → ℕ → List Command → List Opened
opened_from base k [] = []
opened_from base k (c ∷ cs) = opened_by base k c ++ opened_from base (suc k) cs

-- no access meets a later one of the list
abbrev pub AreApart : List Access → Type 0
AreApart [] = Unit {0}
AreApart (a ∷ xs) = Each (λ b. (conflict (doing_of a) (doing_of b) && overlaps a.range b.range) ≡ false) xs × AreApart xs

-- the access at a place of a scope, as it was opened, is covered before a later one
pub record IsCoveredLater (cs : List Command) (c d : ℕ) (own pair : Pair) : Type 0 where
  pub opened : Opened
  pub place : opened.place ≡ c
  pub pair_is : opened.own ≡ Some own
  pub covering : Covering cs d opened pair
