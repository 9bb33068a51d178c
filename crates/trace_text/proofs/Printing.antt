-- The lines of objects and of threads, one more at a time.
use Rattle.trace_text.proofs.Vocabulary.{◌≡◌, List, [], ◌∷◌, ◌++◌, ℕ, map, flat_map, flat_map-append, refl, append_assoc, Call, Item, Declares, Starts, Calls, Declared, object_items, thread_items, KnownNames, item_text}
use Rattle.trace_lines.proofs.Knowing.{IsOfPairs}

-- the text of the lines of objects
abbrev pub objects_text : KnownNames → List (List ℕ) → List Declared → List ℕ
objects_text known ns ds = flat_map (item_text known) (object_items ns ds)

pub object_pairs : (known : KnownNames) → IsOfPairs (objects_text known) (λ n d. item_text known (Declares n d))
unfolding object_items
object_pairs known = record { left = λ ys. refl; right = λ xs. none xs; pair = λ x y xs ys. refl }
  where
    none : (xs : List (List ℕ)) → objects_text known xs [] ≡ []
    none [] = refl
    none (x ∷ xs) = refl

-- the text of the lines of threads
abbrev pub threads_text : KnownNames → List (List ℕ) → List (List Call) → List ℕ
threads_text known ns ss = flat_map (item_text known) (thread_items ns ss)

abbrev pub thread_text : KnownNames → List ℕ → List Call → List ℕ
thread_text known n s = item_text known (Starts n) ++ flat_map (item_text known) (map Calls s)

pub thread_pairs : (known : KnownNames) → IsOfPairs (threads_text known) (thread_text known)
unfolding thread_items
thread_pairs known = record {
  left = λ ys. refl;
  right = λ xs. none xs;
  pair = λ x y xs ys. rw (flat_map-append (item_text known) (map Calls y) (thread_items xs ys), append_assoc) refl;
}
  where
    none : (xs : List (List ℕ)) → threads_text known xs [] ≡ []
    none [] = refl
    none (x ∷ xs) = refl
