-- Actions on cells, each with the cells that it reads and writes.
use Rattle.std.specs.Prelude.{◌≡◌, Bool, true, false}

-- what an action leaves in the cells that it writes goes by those that it reads, and it leaves the others
pub record IsAction {C N : Type 0} (reads writes : C → Bool) (act : (C → N) → C → N) : Type 0 where
  pub inside : (x y : C → N) → ((c : C) → reads c ≡ true → x c ≡ y c) → (c : C) → writes c ≡ true → act x c ≡ act y c
  pub outside : (x : C → N) (c : C) → writes c ≡ false → act x c ≡ x c

-- two actions are apart: neither writes what the other one reads or writes
pub record AreApart {C : Type 0} (reads writes other_reads other_writes : C → Bool) : Type 0 where
  pub unread : (c : C) → writes c ≡ true → other_reads c ≡ false
  pub not_read : (c : C) → other_writes c ≡ true → reads c ≡ false
  pub unwritten : (c : C) → writes c ≡ true → other_writes c ≡ false

-- two actions that are apart have one outcome in either order
abbrev pub ActionsCommute : Type 0 → Type 0 → Type 0
ActionsCommute C N =
    (reads writes other_reads other_writes : C → Bool) (act other : (C → N) → C → N) →
    IsAction reads writes act → IsAction other_reads other_writes other → AreApart reads writes other_reads other_writes →
    (x : C → N) (c : C) → act (other x) c ≡ other (act x) c
