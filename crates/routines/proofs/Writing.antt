-- What is stored are words of those that are written.
use Rattle.std.proofs.Common.{ℕ, ◌≡◌, ◌<◌, ◌+◌, ◌/◌, ◌==◌, refl, sym, subst, Bool, true, false, ◌&&◌, min, Option, Some, None, arith, if◌then◌else◌}
use Rattle.dx_base.specs.Each.{Each}
use Rattle.dx_base.proofs.Each.{each_map, each_on}
use Rattle.dx_base.specs.declared.kinds.Routine.{Routine}
use Rattle.dx_base.specs.declared.kinds.Routine.TheVariants.{Fill, Move, Add, Mul, Gather, Scatter, Sums, Histogram}
use Rattle.dx_base.specs.declared.kinds.View.{View}
use Rattle.dx_flags.specs.AccessNames.{UNORDERED_ACCESS}
use Rattle.dx_flags.specs.Accesses.{one_access}
use Rattle.routines.specs.declared.numbers.Numbers.{Numbers}
use Rattle.routines.specs.declared.puts.Put.{Put}
use Rattle.routines.specs.declared.stores.Store.{Store}
use Rattle.routines.specs.declared.touches.Touch.{Touch}
use Rattle.routines.specs.Effect.{store_in, stores_by, cell_of_store}
use Rattle.routines.specs.Laws.{StoresAreWrites}
use Rattle.routines.specs.Numbers.{numbers_of}
use Rattle.routines.specs.Puts.{puts_of}
use Rattle.routines.specs.Touches.{touch_of, has_cell, is_written}
use Rattle.routines.specs.Uses.{uses_of, words_used}
use Rattle.routines.proofs.Counting.{each_put}
use Rattle.routines.proofs.Reading.{touch_has, some_of_u0}

-- a word of a destination that is used as a whole
whole : (n m j word : ℕ) → j < n → word < m → word < (if n == 0 then 0 else m)
whole n m j word l inside = let some : (n == 0) ≡ false = grind arith in subst (λ (b : Bool). word < (if b then 0 else m)) (sym some) inside

-- what is put lies in the words that are used
puts_used : (routine : Routine) (n m : ℕ) (x : Numbers) → Each (λ (p : Put). p.word < words_used (uses_of routine).u0 n m) (puts_of routine n m x)
puts_used Fill n m x = each_put (λ (p : Put). p.word < min n m) Fill m x n (λ j l inside. omega arith)
puts_used Move n m x = each_put (λ (p : Put). p.word < min n m) Move m x n (λ j l inside. omega arith)
puts_used Add n m x = each_put (λ (p : Put). p.word < min n m) Add m x n (λ j l inside. omega arith)
puts_used Mul n m x = each_put (λ (p : Put). p.word < min n m) Mul m x n (λ j l inside. omega arith)
puts_used Gather n m x = each_put (λ (p : Put). p.word < min n m) Gather m x n (λ j l inside. omega arith)
puts_used Scatter n m x = each_put (λ (p : Put). p.word < (if n == 0 then 0 else m)) Scatter m x n (λ j l inside. whole n m j _ l inside)
puts_used Sums n m x = each_put (λ (p : Put). p.word < min ((n + 63) / 64) m) Sums m x ((n + 63) / 64) (λ j l inside. omega arith)
puts_used Histogram n m x = each_put (λ (p : Put). p.word < (if n == 0 then 0 else m)) Histogram m x n (λ j l inside. whole n m j _ l inside)

-- a word that is used of u0 is written
used_is_written : (routine : Routine) (u0 : Option View) (n : ℕ) (x : Numbers) →
    Each (λ (s : Store). is_written (touch_of u0 (uses_of routine).u0 n (one_access UNORDERED_ACCESS) (uses_of routine).updates true) (cell_of_store s) ≡ true) (stores_by routine u0 n x)
used_is_written routine None n x = tt
used_is_written routine (Some view) n x =
    each_map (λ (p : Put). p.word < words_used (uses_of routine).u0 n view.words) _ (store_in view)
    (λ p l. touch_has (λ (t : Touch). t.writes) view (words_used (uses_of routine).u0 n view.words) p.word (one_access UNORDERED_ACCESS) (uses_of routine).updates true l refl)
    (puts_of routine n view.words x) (puts_used routine n view.words x)

pub stores_written : StoresAreWrites
stores_written routine bound n x =
    each_on (λ (s : Store). is_written (touch_of bound.u0 (uses_of routine).u0 n (one_access UNORDERED_ACCESS) (uses_of routine).updates true) (cell_of_store s) ≡ true) _
    (stores_by routine bound.u0 n (numbers_of x routine bound n))
    (λ s h. some_of_u0 routine bound n (λ (t : Touch). t.writes && has_cell (cell_of_store s) t) h)
    (used_is_written routine bound.u0 n (numbers_of x routine bound n))
