-- What holds of each form: a line makes the item whose line it is, the form has its place, and the words that stand as they are tell it.
use Rattle.trace_text.proofs.Vocabulary.{ℕ, zero, suc, ◌≡◌, ◌∙◌, ◌&&◌, ◌||◌, nat_lt, length, Bool, true, false, List, [], ◌∷◌, map, slice_get, Some, if◌then◌else◌, refl, sym, ap, list_all, and_parts, Call, World, is_named, is_name, Line, Kind, shaped_line, form_for, Place, Word, Name, NewName, Number, DataWord, FlagWord, Set, Choice, AllOr, AllOrNumber, Row, Known, part_texts, rest_texts, line_words, all_tests, is_sound_line, is_named_line, is_kept, is_plain_part, is_bounded, new_tests, Class, Form, Item, Header, Declares, Starts, Calls, Ends, Declared, Formed, formed, item_formed, call_formed, made, list_named, item_words, form_row, forms, class_of, kind_of, KnownNames, same_kind, is_later, is_sound_object}
use Rattle.dx_base.specs.declared.ids.ListId.{ListId}
use Rattle.dx_base.specs.declared.kinds.Home.TheVariants as home_of
use Rattle.dx_base.specs.declared.kinds.ListType.TheVariants as type_of
use Rattle.d3d_machine.specs.declared.calls.Call.TheVariants as call
use Rattle.d3d_machine.specs.declared.calls.Record.TheVariants.{Copy}
use Rattle.trace_words.specs.Rows.{is_among}
use Rattle.line_forms.specs.Finding.{fits}
use Rattle.line_forms.specs.declared.kind.Kind.TheVariants as kind
use Rattle.trace_lines.specs.declared.form.Class.TheVariants as class
use Rattle.trace_lines.specs.declared.form.Form.TheVariants as form
use Rattle.trace_lines.specs.declared.object.Declared.TheVariants as declared

-- the tests of an item's new name
abbrev pub item_news : (List ℕ → Bool) → Item → List Bool
item_news new (Declares n d) = new n ∷ []
item_news new (Starts n) = new n ∷ []
item_news new _ = []

-- what an item does in a trace
abbrev pub object_class : Declared → Class
object_class d = if same_kind kind.Queue (kind_of d) then class.Queue else class.Declaration

abbrev pub item_class : Item → Class
item_class Header = class.Header
item_class (Declares n d) = object_class d
item_class (Starts n) = class.Thread
item_class (Calls c) = class.Call
item_class Ends = class.End

-- an item's objects are of the types and places that do not come later
abbrev pub is_timely : Item → Bool
is_timely (Declares n d) = is_sound_object d
is_timely _ = true

-- an item is an object
abbrev pub is_object : Item → Bool
is_object (Declares n d) = true
is_object _ = false

-- an item is a call
abbrev pub is_call : Item → Bool
is_call (Calls c) = true
is_call _ = false

-- what holds of an item by its form
pub record IsOwn (i : Item) : Type 0 where
  pub makes : made (item_formed i).form (item_formed i).line ≡ i
  pub found : (known : KnownNames) → form_for form_row forms (item_words known i) ≡ Some (item_formed i).form
  pub news : (new : List ℕ → Bool) → all_tests (new_tests new) (form_row (item_formed i).form).parts (item_formed i).line.values [] ≡ item_news new i
  pub class_is : class_of (item_formed i).form ≡ item_class i
  pub alone : is_call i ≡ false → (counts : Kind → ℕ) (known : Known) → is_named_line counts known (form_row (item_formed i).form) (item_formed i).line ≡ true
  pub kept : is_object i ≡ true → is_kept (form_row (item_formed i).form) ≡ true
  pub timely : (known : KnownNames) → is_timely i ≡ true → is_later (item_words known i) ≡ false

-- lists by their numbers, and back
lists_back : (ls : List ListId) → map list_named (map (λ l. l.0) ls) ≡ ls
lists_back [] = refl
lists_back (l ∷ ls) = ap (λ more. l ∷ more) (lists_back ls)

numbers_back : (ns : List ℕ) → map (λ (l : ListId). l.0) (map list_named ns) ≡ ns
numbers_back [] = refl
numbers_back (n ∷ ns) = ap (λ more. n ∷ more) (numbers_back ns)

-- objects of types and places that are read
object_timely : (known : KnownNames) (n : List ℕ) (d : Declared) → is_sound_object d ≡ true → is_later (item_words known (Declares n d)) ≡ false
unfolding is_later is_among line_words part_texts rest_texts
object_timely known n (declared.Queue type_of.Direct) h = refl
object_timely known n (declared.Buffer home_of.Upload b) h = refl
object_timely known n (declared.Allocator type_of.Direct) h = refl
object_timely known n (declared.List type_of.Direct) h = refl
object_timely known n _ h = cc

-- and back: an object of another type or place tells that it comes later
pub object_built : (known : KnownNames) (n : List ℕ) (d : Declared) → is_later (item_words known (Declares n d)) ≡ false →
    is_sound_line (form_row (item_formed (Declares n d)).form) (item_formed (Declares n d)).line ≡ true → is_sound_object d ≡ true
unfolding is_later is_among line_words part_texts rest_texts
object_built known n (declared.Queue type_of.Direct) h wide = cc
object_built known n (declared.Buffer home_of.Upload b) h wide = cc
object_built known n (declared.Allocator type_of.Direct) h wide = cc
object_built known n (declared.List type_of.Direct) h wide = cc
object_built known n _ h wide = cc

-- an object's number is wide
pub object_wide : (n : List ℕ) (d : Declared) → is_sound_object d ≡ true →
    is_sound_line (form_row (item_formed (Declares n d)).form) (item_formed (Declares n d)).line ≡ true
object_wide n (declared.Buffer home_of.Upload b) h = cc
object_wide n _ h = cc

-- each item
pub own : (i : Item) → IsOwn i
unfolding is_later is_among line_words part_texts rest_texts form_for fits
own (Declares n (declared.Queue t)) = record { makes = refl; found = λ known. refl; news = λ new. refl; class_is = refl; alone = λ h counts known. cc; kept = λ h. cc; timely = λ known good. object_timely known n (declared.Queue t) good }
own (Declares n d) = record { makes = refl; found = λ known. refl; news = λ new. refl; class_is = refl; alone = λ h counts known. cc; kept = λ h. cc; timely = λ known good. object_timely known n d good }
own (Calls (call.Execute q ls)) = record { makes = ap (λ some. Calls (call.Execute q some)) (lists_back ls); found = λ known. refl; news = λ new. refl; class_is = refl; alone = λ h counts known. cc; kept = λ h. cc; timely = λ known h. refl }
own (Calls (call.Recording l (Copy d doff s soff n))) = record { makes = refl; found = λ known. refl; news = λ new. refl; class_is = refl; alone = λ h counts known. cc; kept = λ h. cc; timely = λ known h. refl }
own _ = record { makes = refl; found = λ known. refl; news = λ new. refl; class_is = refl; alone = λ h counts known. cc; kept = λ h. cc; timely = λ known h. refl }

-- the line that a form makes an item of is the item's, its values of their parts' kinds
pub own_line : (f : Form) (line : Line) → item_formed (made f line) ≡ record { form = f; line = shaped_line (form_row f) line }
own_line form.Execute line = ap (λ some. formed form.Execute (item_formed (made form.Execute line)).line.values some) (numbers_back line.rest)
own_line _ line = refl

-- how many things of each kind a world has
abbrev pub counts_in : World → Kind → ℕ
counts_in w kind.Queue = length w.queues
counts_in w kind.Fence = length w.fences
counts_in w kind.Resource = length w.resources
counts_in w kind.Allocator = length w.allocators
counts_in w kind.List = length w.lists
counts_in w kind.Thread = 0

all_lists : (p : ℕ → Bool) (ls : List ListId) → list_all (λ l. p l.0) ls ≡ list_all p (map (λ l. l.0) ls)
all_lists p [] = refl
all_lists p (l ∷ ls) = ap (λ more. p l.0 && more) (all_lists p ls)

-- a call names things of a world where its line does
pub named_same : (w : World) (known : Known) (c : Call) →
    is_named w c ≡ is_named_line (counts_in w) known (form_row (call_formed c).form) (call_formed c).line
named_same w known (call.Recording l (Copy d doff s soff n)) = refl
named_same w known (call.Execute q ls) = ap (λ more. nat_lt q.0 (length w.queues) && more) (all_lists (λ i. nat_lt i (length w.lists)) ls)
named_same w known _ = refl

-- a line begins with a name, so it is no comment
abbrev pub is_spoken : List Place → Bool
is_spoken (Word t ∷ ps) = is_name t
is_spoken _ = false

-- the words of a form that stand as they are are plain, the first is a name, and its lines are short or printed as they were read
pub record IsFine (f : Form) : Type 0 where
  pub spoken : is_spoken (form_row f).parts ≡ true
  pub plain : list_all is_plain_part (form_row f).parts ≡ true
  pub short : (is_kept (form_row f) || is_bounded (form_row f)) ≡ true

fine_form : (f : Form) → IsFine f
unfolding is_name
fine_form form.Header = record { spoken = refl; plain = refl; short = refl }
fine_form _ = record { spoken = refl; plain = refl; short = refl }

pub fine : (i : Item) → IsFine (item_formed i).form
fine i = fine_form (item_formed i).form
