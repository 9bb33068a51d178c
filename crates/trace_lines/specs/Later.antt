-- Forms of lines that come later.
use Rattle.std.specs.Prelude.{ℕ, ◌||◌, ◌&&◌, List, [], ◌∷◌, codes, Bool, false}
use Rattle.trace_words.specs.Rows.{is_among}

-- first words of forms that come later
abbrev pub later_words : List (List ℕ)
later_words =
    codes "texture"
    ∷ codes "view"
    ∷ codes "heap"
    ∷ codes "signature"
    ∷ codes "copytex"
    ∷ codes "copyin"
    ∷ codes "copyout"
    ∷ codes "setheap"
    ∷ codes "setroot"
    ∷ codes "setconst"
    ∷ codes "settable"
    ∷ codes "setbuffer"
    ∷ codes "clear"
    ∷ codes "dispatch"
    ∷ codes "barrier"
    ∷ codes "transition"
    ∷ codes "uavbarrier"
    ∷ codes "resetalloc"
    ∷ codes "wait"
    ∷ codes "descriptor"
    ∷ codes "copydesc"
    ∷ []

-- versions of the text, types of queues, allocators and lists, and places of buffers that come later
abbrev pub later_versions : List (List ℕ)
later_versions = codes "2" ∷ []

abbrev pub later_types : List (List ℕ)
later_types = codes "compute" ∷ codes "copy" ∷ []

abbrev pub later_homes : List (List ℕ)
later_homes = codes "legacy" ∷ codes "enhanced" ∷ []

-- the first word is one of those, whatever stands behind it
abbrev pub has_first : List (List ℕ) → List (List ℕ) → Bool
has_first some [] = false
has_first some (w ∷ ws) = is_among some w

-- the second word is one of those, whatever stands behind it
abbrev pub has_second : List (List ℕ) → List (List ℕ) → Bool
has_second some [] = false
has_second some (v ∷ []) = false
has_second some (v ∷ w ∷ ws) = is_among some w

-- first words behind which the version, the type or the place tells that the form comes later
abbrev pub versioned : List (List ℕ)
versioned = codes "d3dtrace" ∷ []

abbrev pub typed : List (List ℕ)
typed = codes "queue" ∷ codes "allocator" ∷ codes "list" ∷ []

abbrev pub placed : List (List ℕ)
placed = codes "buffer" ∷ []

-- the words of a line tell that it is of a form that comes later, whatever stands behind the word that tells
unfoldable pub is_later : List (List ℕ) → Bool
is_later [] = false
is_later (w ∷ ws) =
    is_among later_words w
    || ((is_among versioned w && has_first later_versions ws)
    || ((is_among typed w && has_second later_types ws) || (is_among placed w && has_second later_homes ws)))
