-- Reading words one after the other: each good word is one more that was said, and leaves the rest to say what is left.
use Rattle.std.proofs.Common.{ℕ, ◌≡◌, ◌+◌, ◌<◌, ◌∙◌, refl, sym, ap, suc, add-one, List, ◌∷◌, length, map, drop, drop-cons, get_or, Some, if◌then◌else◌, arith}
use Rattle.trace_runner.specs.Words.{said_from, said_with, with_choices, with_history}
use Rattle.trace_runner.specs.declared.words.Said.{Said}
use Rattle.trace_runner.specs.declared.words.Choices.TheVariants.{Unasked, Awaited, Given}

-- how many words were said
abbrev pub count_said : Said → ℕ
count_said said = (if said.shown then 1 else 0) + elim said.choices [ Unasked ↦ 0 | Awaited ↦ 1 | Given n ↦ 2 ]

-- each good word is one more
pub count_rises : (said more : Said) (word : List ℕ) → Some more ≡ said_with said word → count_said more ≡ count_said said + 1
unfolding said_with with_choices with_history
count_rises said more word good = grind arith

-- what words say, a good one first, the words behind it say beside it
pub said_goes : (said more : Said) (place : ℕ) (word : List ℕ) (words : List (List ℕ)) → Some more ≡ said_with said word →
    said_from said place (word ∷ words) ≡ said_from more (place + 1) words
unfolding said_from
said_goes said more place word words good = rw (said_from, ← good) refl

-- the word of a place, and the words behind it
pub word_first : {A : Type 0} (f : A → List ℕ) (words : List A) (i : ℕ) (item : A) (word : List ℕ) → i < length words →
    item ≡ get_or words i item → word ≡ f item → word ∷ map f (drop (i + 1) words) ≡ map f (drop i words)
word_first f words i item word below at is =
    rw (is, add-one i) (ap (λ x. f x ∷ map f (drop (suc i) words)) at ∙ sym (ap (λ xs. map f xs) (drop-cons words i item below)))
