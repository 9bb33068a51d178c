-- The lines of answered calls, one more event at a time.
use Rattle.trace_text.proofs.Vocabulary.{add-zero, add-one, ◌<◌, drop, drop-cons, get_or, flat_map, ℕ, ◌≡◌, ◌+◌, List, [], ◌∷◌, ◌++◌, length, refl, arith, append_assoc, flat_map-append, Event, line_text}
use Rattle.d3d_machine.specs.declared.calls.Reply.{Reply}
use Rattle.run_text.specs.Text.{answer_lines, replies_by, replies_in}

-- the lines of answered calls, then those of later ones
pub answers_append : (name : List ℕ) (k : ℕ) (rs ss : List Reply) →
    answer_lines name k (rs ++ ss) ≡ answer_lines name k rs ++ answer_lines name (k + length rs) ss
unfolding answer_lines
answers_append name k [] ss = rw add-zero refl
answers_append name k (r ∷ rs) ss =
    let count : (k + 1) + length rs ≡ k + length (r ∷ rs) = omega arith in
    rw (append_assoc, answers_append name (k + 1) rs ss, count) refl

-- the replies from an event on
pub replies_drop : (t : ℕ) (h : List Event) (i : ℕ) (e : Event) → i < length h → e ≡ get_or h i e →
    replies_in t (drop i h) ≡ replies_by t e ++ replies_in t (drop (i + 1) h)
unfolding replies_in
replies_drop t h i e below is = rw (add-one i, drop-cons h i e, ← is) refl

-- the text of answered calls from an event on
pub answered_more : (name : List ℕ) (t k next : ℕ) (h : List Event) (i : ℕ) (e : Event) → i < length h → e ≡ get_or h i e →
    next ≡ k + length (replies_by t e) →
    flat_map line_text (answer_lines name k (replies_in t (drop i h)))
    ≡ flat_map line_text (answer_lines name k (replies_by t e)) ++ flat_map line_text (answer_lines name next (replies_in t (drop (i + 1) h)))
answered_more name t k next h i e below is counts =
    rw (replies_drop t h i e below is, answers_append name k (replies_by t e) (replies_in t (drop (i + 1) h)), ← counts, flat_map-append) refl
