-- The word of what is chosen is read as it.
use Rattle.line_forms.proofs.Vocabulary.{ℕ, ◌≡◌, Bool, true, false, List, [], ◌∷◌, Option, None, Some, Ok, Err, refl, subst, ap, rules, cond_both, inl, inr, sym, AllByRecursion, bytes_eq, bytes_eq-Decides, Cause, Choices, IsAmong, IsChoice, or_form, choice_text, choices_of, chosen, as_choice}
use Rattle.dx_base.specs.declared.kinds.Class.TheVariants as class
use Rattle.dx_base.specs.declared.kinds.Home.TheVariants as home
use Rattle.dx_base.specs.declared.kinds.ListType.TheVariants as listtype
use Rattle.dx_base.specs.declared.kinds.Routine.TheVariants as routine
use Rattle.dx_flags.specs.declared.layouts.Layout.TheVariants as layout
use Rattle.line_forms.specs.declared.cause.Cause.TheVariants as cause
use Rattle.line_forms.specs.declared.choice.Choice.TheVariants as choice
use Rattle.line_forms.specs.declared.choice.Version.TheVariants as version
use Rattle.line_forms.specs.declared.choice.Choice.{Choice}
use Rattle.line_forms.specs.declared.choice.Choices.TheVariants as choices
use Rattle.line_forms.proofs.SetsSay.{among_holds}

-- a word that chooses is the word of one of the choices
choice_read : (cs : List Choice) (w : List ℕ) (c : Choice) → chosen cs w ≡ Some c → IsChoice cs c w
unfolding chosen
choice_read [] w c e = cc
choice_read (x ∷ cs) w c e =
    cond_both (bytes_eq w (choice_text x)) (Some x) (chosen cs w) (λ o. o ≡ Some c → IsChoice (x ∷ cs) c w)
    (λ is e. let same : x ≡ c = cc in (subst (λ y. w ≡ choice_text y) same ((bytes_eq-Decides w (choice_text x)).0 is), inl (sym same)))
    (λ is e. let more = choice_read cs w c e in (more.0, inr more.1)) e

-- a choice that is read of its own word
abbrev pub ReadsOwn : Choices → Choice → Type 0
ReadsOwn k c = chosen (choices_of k) (choice_text c) ≡ Some c

-- a choice of a kind is read of its own word
pub as_own : (k : Choices) (c : Choice) → ReadsOwn k (as_choice k c)
unfolding chosen
as_own choices.Type (choice.Type listtype.Direct) = refl
as_own choices.Home (choice.Home home.Upload) = refl
as_own choices.Layout (choice.Layout layout.Undefined) = refl
as_own choices.Class (choice.Class class.Cbv) = refl
as_own choices.Shared (choice.Shared true) = refl
as_own choices.Visible (choice.Visible true) = refl
as_own choices.Version (choice.Version version.One) = refl
as_own choices.Routine (choice.Routine routine.Fill) = refl
as_own _ _ = refl

-- what may be chosen is of its kind
own : (k : Choices) → AllByRecursion (λ c. as_choice k c ≡ c) (choices_of k)
own choices.Type = search rules
own _ = search rules

pub choice_own : (k : Choices) (w : List ℕ) (c : Choice) → IsChoice (choices_of k) c w → as_choice k c ≡ c
choice_own k w c h = among_holds (λ x. as_choice k x ≡ x) (choices_of k) c (own k) h.1

-- a word is read as what it chooses, and the other way round
pub choice_says : (k : Choices) (w : List ℕ) (c : Choice) → or_form (chosen (choices_of k) w) ≡ Ok c → IsChoice (choices_of k) c w
choice_says k w c e = by_found (chosen (choices_of k) w) (choice_read (choices_of k) w c) e
  where
    by_found : (o : Option Choice) → (o ≡ Some c → IsChoice (choices_of k) c w) → or_form o ≡ Ok c → IsChoice (choices_of k) c w
    by_found None says e = cc
    by_found (Some x) says e = let same : x ≡ c = cc in says (ap Some same)

pub choice_said : (k : Choices) (w : List ℕ) (c : Choice) → IsChoice (choices_of k) c w → or_form (chosen (choices_of k) w) ≡ Ok c
choice_said k w c h = rw (h.0, subst (ReadsOwn k) (choice_own k w c h) (as_own k c)) refl

-- what chooses nothing has no form
pub choice_form : (k : Choices) (w : List ℕ) (c : Cause) → or_form (chosen (choices_of k) w) ≡ Err c → c ≡ cause.Form
choice_form k w c e = by_found (chosen (choices_of k) w) e
  where
    by_found : (o : Option Choice) → or_form o ≡ Err c → c ≡ cause.Form
    by_found None e = cc
    by_found (Some x) e = cc
