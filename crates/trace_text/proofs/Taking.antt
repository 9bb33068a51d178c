-- What a line means that is taken.
use Rattle.trace_text.proofs.Vocabulary.{ℕ, ◌≡◌, ◌⊎◌, Bool, true, false, not, List, Option, Some, None, Result, Ok, Err, inl, inr, refl, sym, ap, subst, cond_both, ◌∙◌, if◌then◌else◌, words_of, is_plain, Cause, Line, form_for, read_row, reads_again, Form, Item, Reading, Formed, item_formed, made, form_row, forms, class_of, is_later, fault_of_place, placed_of, is_formless, is_over, with_item, taken_of, and_then, naming_of, read_item, meant_of, by_form, with_words, is_skipped, with_line, Names}
use Rattle.line_forms.specs.declared.cause.Cause.TheVariants as cause
use Rattle.line_forms.specs.Causes.{wrapped}
use Rattle.line_forms.proofs.Results.{made_of}
use Rattle.trace_text.proofs.Own.{own, own_line}
use Rattle.trace_text.proofs.Passing.{stopped, not_false}

-- words that are read as an item's line, of which they have the form
pub record IsRead (names : Names) (f : Form) (ws : List (List ℕ)) (i : Item) : Type 0 where
  pub form_is : f ≡ (item_formed i).form
  pub reads : read_row (naming_of names) (form_row (item_formed i).form) ws ≡ Ok (item_formed i).line

pub item_reads : (names : Names) (f : Form) (ws : List (List ℕ)) (i : Item) → read_item names f ws ≡ Ok i → IsRead names f ws i
unfolding read_item
item_reads names f ws i e =
    let m = made_of (made f) (read_row (naming_of names) (form_row f) ws) i e in
    let shaped = reads_again.shaped (naming_of names) (form_row f) ws m.from m.read in
    let formed_is : item_formed i ≡ record { form = f; line = m.from } =
    ap item_formed (sym m.makes) ∙ (own_line f m.from ∙ ap (λ (x : Line). record { form = f; line = x }) shaped) in
    let both = subst (λ (g : Formed). (f ≡ g.form) × (read_row (naming_of names) (form_row g.form) ws ≡ Ok g.line)) (sym formed_is) (refl, m.read) in
    record { form_is = both.0; reads = both.1 }

-- and back
pub item_read_back : (names : Names) (ws : List (List ℕ)) (i : Item) →
    read_row (naming_of names) (form_row (item_formed i).form) ws ≡ Ok (item_formed i).line → read_item names (item_formed i).form ws ≡ Ok i
unfolding read_item
item_read_back names ws i e = ap (wrapped (made (item_formed i).form)) e ∙ ap Ok (own i).makes

-- words that are taken
pub record TakesWords (r : Reading) (ws : List (List ℕ)) (s : Reading) : Type 0 where
  pub form : Form
  pub item : Item
  pub in_time : is_later ws ≡ false
  pub found : form_for form_row forms ws ≡ Some form
  pub in_place : fault_of_place r (class_of form) ≡ None
  pub means : read_item r.names form ws ≡ Ok item
  pub within : is_over r item ≡ false
  pub becomes : with_item r item ≡ s

-- a line of words that is taken
pub record Takes (r : Reading) (line : List ℕ) (s : Reading) : Type 0 where
  pub ws : List (List ℕ)
  pub plain : is_plain line ≡ true
  pub open_yet : r.ended ≡ false
  pub spoken : is_skipped line ≡ false
  pub words : words_of line ≡ ws
  pub others : TakesWords r ws s

-- a line that is taken: a comment, or one of words
pub record Passes (r : Reading) (line : List ℕ) (s : Reading) : Type 0 where
  pub plain : is_plain line ≡ true
  pub open_yet : r.ended ≡ false
  pub either : (r ≡ s) ⊎ Takes r line s

-- a line in its place, of a form and within the limits
meant_by : (r s : Reading) (f : Form) (ws : List (List ℕ)) (place : Option Cause) (found : Result Item Cause) → is_later ws ≡ false →
    form_for form_row forms ws ≡ Some f → fault_of_place r (class_of f) ≡ place → read_item r.names f ws ≡ found →
    and_then (placed_of place found) (taken_of r) ≡ Ok s → TakesWords r ws s
unfolding taken_of placed_of
meant_by r s f ws None (Err d) in_time form place found e = cc
meant_by r s f ws (Some c) (Ok i) in_time form place found e = cc
meant_by r s f ws (Some c) (Err d) in_time form place found e =
    cond_both (is_formless d) (Err d) (Err c) (λ x. and_then x (taken_of r) ≡ Ok s → TakesWords r ws s) (λ is e. cc) (λ is e. cc) e
meant_by r s f ws None (Ok i) in_time form place found e =
    let over = stopped (is_over r i) cause.Limit (Ok (with_item r i)) s e in
    let becomes : with_item r i ≡ s = cc (over.1) in
    record { form = f; item = i; in_time = in_time; found = form; in_place = place; means = found; within = over.0; becomes = becomes }

-- words of a form, where they have one
form_taken : (r s : Reading) (ws : List (List ℕ)) (found : Option Form) → is_later ws ≡ false → form_for form_row forms ws ≡ found →
    by_form r found ws ≡ Ok s → TakesWords r ws s
unfolding meant_of
form_taken r s ws None in_time found e = cc
form_taken r s ws (Some f) in_time found e =
    meant_by r s f ws (fault_of_place r (class_of f)) (read_item r.names f ws) in_time found refl refl e

-- the words of a line
words_taken : (r s : Reading) (ws : List (List ℕ)) → with_words r ws ≡ Ok s → TakesWords r ws s
unfolding with_words
words_taken r s ws e =
    let both = stopped (is_later ws) cause.Later (by_form r (form_for form_row forms ws) ws) s e in
    form_taken r s ws (form_for form_row forms ws) both.0 refl both.1

-- a line that is taken means something, or is a comment
pub line_passes : (r s : Reading) (line : List ℕ) → with_line r line ≡ Ok s → Passes r line s
unfolding with_line
line_passes r s line e =
    let comment : Result Reading Cause = if is_skipped line then Ok r else with_words r (words_of line) in
    let first = stopped (not (is_plain line)) cause.Line (if r.ended then Err cause.After else comment) s e in
    let second = stopped r.ended cause.After comment s first.1 in
    let plain = not_false (is_plain line) first.0 in
    record { plain = plain; open_yet = second.0; either = spoken (is_skipped line) plain second.0 refl second.1 }
  where
    spoken : (t : Bool) → is_plain line ≡ true → r.ended ≡ false → is_skipped line ≡ t → (if t then Ok r else with_words r (words_of line)) ≡ Ok s →
        (r ≡ s) ⊎ Takes r line s
    spoken true is_p is_o is e = inl cc
    spoken false is_p is_o is e =
        inr (record { ws = words_of line; plain = is_p; open_yet = is_o; spoken = is; words = refl; others = words_taken r s (words_of line) e })

-- the way back: what the words mean
meant_is : (r s : Reading) (ws : List (List ℕ)) (t : TakesWords r ws s) → meant_of r t.form ws ≡ Ok t.item
unfolding meant_of placed_of
meant_is r s ws t = rw (t.in_place, t.means) refl

-- what is taken
taken_is : (r s : Reading) (i : Item) → is_over r i ≡ false → with_item r i ≡ s → taken_of r i ≡ Ok s
unfolding taken_of
taken_is r s i within becomes = rw within (ap Ok becomes)

-- the words of a line
words_is : (r s : Reading) (ws : List (List ℕ)) → TakesWords r ws s → with_words r ws ≡ Ok s
unfolding with_words
words_is r s ws t = rw (t.in_time, t.found, meant_is r s ws t) (taken_is r s t.item t.within t.becomes)

-- a line that is plain, not behind the last, and no comment
chosen : (p o k : Bool) (r s : Reading) (found : Result Reading Cause) → p ≡ true → o ≡ false → k ≡ false → found ≡ Ok s →
    (if not p then Err cause.Line else (if o then Err cause.After else (if k then Ok r else found))) ≡ Ok s
chosen p o k r s found is_p is_o is_k e = rw (is_p, is_o, is_k) e

-- what means something is taken
pub taken_line : (r s : Reading) (line : List ℕ) → Takes r line s → with_line r line ≡ Ok s
unfolding with_line
taken_line r s line t =
    chosen (is_plain line) r.ended (is_skipped line) r s (with_words r (words_of line)) t.plain t.open_yet t.spoken
    (ap (with_words r) t.words ∙ words_is r s t.ws t.others)
