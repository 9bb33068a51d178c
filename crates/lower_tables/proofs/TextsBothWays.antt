-- What goes by a name comes back.
use Rattle.std.proofs.Common.{◌≡◌, ℕ, List, [], ◌∷◌, Option, Some, ◌==◌, map, refl, sym, ap, ◌∙◌, inl, inr}
use Rattle.std.specs.Prelude.{◌↔◌}
use Rattle.std.proofs.lemmas.Bool.{eqb-true}
use Rattle.std.proofs.lemmas.Option.{none-some}
use Rattle.std.proofs.lemmas.Slice.Eq.{bytes_eq-Decides}
use Rattle.std.specs.Str.{bytes_eq}
use Rattle.dx_flags.specs.declared.layouts.Layout.{Layout}
use Rattle.dx_flags.specs.declared.layouts.Layout.TheVariants as layout
use Rattle.dx_flags.specs.AccessNames as access
use Rattle.dx_flags.specs.AccessNames.{AccessName, access_bit, access_text, access_names}
use Rattle.dx_flags.specs.Accesses.{one_access}
use Rattle.dx_flags.specs.StateNames as state
use Rattle.dx_flags.specs.StateNames.{StateName, state_bit, state_text, state_names}
use Rattle.dx_flags.specs.States.{one_state}
use Rattle.dx_flags.specs.SyncNames as sync
use Rattle.dx_flags.specs.SyncNames.{SyncName, sync_bit, sync_text, sync_names}
use Rattle.dx_flags.specs.Syncs.{one_sync}
use Rattle.lower_tables.proofs.FirstRows.{here_or_later}
use Rattle.lower_tables.specs.Laws.{NamesAreOfSingles, NamesGoBothWays}
use Rattle.lower_tables.specs.Names.{sync_named, sync_name, access_named, access_name, state_named, state_name, layout_named, layout_name, layout_text, all_layouts}
use Rattle.trace_words.specs.Rows.{row_of}
use Rattle.lower_tables.specs.Rows.{first_value}

-- a value that is found by a text is that of some name with the text
by_text : {N V : Type 0} (text : N → List ℕ) (value : N → V) (names : List N) (word : List ℕ) (v : V) → row_of (map (λ n. (text n, value n)) names) word ≡ Some v →
    (n : N) × ((word ≡ text n) × (v ≡ value n))
unfolding row_of
by_text text value [] word v h = absurd (none-some v h)
by_text text value (name ∷ names) word v h =
    elim (here_or_later (bytes_eq word (text name)) (value name) (row_of (map (λ n. (text n, value n)) names) word) v h) [
      | inl here ↦ (name, ((bytes_eq-Decides word (text name)).0 here.0, here.1))
      | inr later ↦ by_text text value names word v later.1
    ]

-- and one that is found by a key that of some name with the key
by_key : {N V : Type 0} (key : N → ℕ) (value : N → V) (names : List N) (k : ℕ) (v : V) → first_value k (map (λ n. (key n, value n)) names) ≡ Some v →
    (n : N) × ((key n ≡ k) × (v ≡ value n))
by_key key value [] k v h = absurd (none-some v h)
by_key key value (name ∷ names) k v h =
    elim (here_or_later (key name == k) (value name) (first_value k (map (λ n. (key n, value n)) names)) v h) [
      | inl here ↦ (name, (eqb-true (key name) k here.0, here.1))
      | inr later ↦ by_key key value names k v later.1
    ]

-- names, with the text and the value of each, and the look-ups both ways
record AreNames {N V : Type 0} (text : N → List ℕ) (one : N → V) (named : List ℕ → Option V) (name : V → Option (List ℕ)) : Type 0 where
  of_text : (n : N) → named (text n) ≡ Some (one n)
  text_of : (n : N) → name (one n) ≡ Some (text n)
  by_name : (w : List ℕ) (v : V) → named w ≡ Some v → (n : N) × ((w ≡ text n) × (v ≡ one n))
  by_value : (w : List ℕ) (v : V) → name v ≡ Some w → (n : N) × ((v ≡ one n) × (w ≡ text n))

module _ {N V : Type 0} (text : N → List ℕ) (one : N → V) (named : List ℕ → Option V) (name : V → Option (List ℕ)) (are : AreNames text one named name) where
  singles : (w : List ℕ) (v : V) → (named w ≡ Some v) ↔ ((n : N) × ((w ≡ text n) × (v ≡ one n)))
  singles w v = (are.by_name w v, λ by. ap named by.1.0 ∙ are.of_text by.0 ∙ ap Some (sym by.1.1))

  ways : (w : List ℕ) (v : V) → (named w ≡ Some v) ↔ (name v ≡ Some w)
  ways w v = (
    λ h. let by = are.by_name w v h in ap name by.1.1 ∙ are.text_of by.0 ∙ ap Some (sym by.1.0),
    λ h. let by = are.by_value w v h in ap named by.1.1 ∙ are.of_text by.0 ∙ ap Some (sym by.1.0),
  )

-- each sync's text names it
sync_of_text : (name : SyncName) → sync_named (sync_text name) ≡ Some (one_sync name)
unfolding sync_named row_of
sync_of_text sync.NONE = refl
sync_of_text sync.ALL = refl
sync_of_text sync.COMPUTE_SHADING = refl
sync_of_text sync.ALL_SHADING = refl
sync_of_text sync.NON_PIXEL_SHADING = refl
sync_of_text sync.COPY = refl
sync_of_text sync.CLEAR_UNORDERED_ACCESS_VIEW = refl

-- each sync has its text
text_of_sync : (name : SyncName) → sync_name (one_sync name) ≡ Some (sync_text name)
unfolding sync_name
text_of_sync sync.NONE = refl
text_of_sync sync.ALL = refl
text_of_sync sync.COMPUTE_SHADING = refl
text_of_sync sync.ALL_SHADING = refl
text_of_sync sync.NON_PIXEL_SHADING = refl
text_of_sync sync.COPY = refl
text_of_sync sync.CLEAR_UNORDERED_ACCESS_VIEW = refl

-- each access's text names it
access_of_text : (name : AccessName) → access_named (access_text name) ≡ Some (one_access name)
unfolding access_named row_of
access_of_text access.UNORDERED_ACCESS = refl
access_of_text access.SHADER_RESOURCE = refl
access_of_text access.CONSTANT_BUFFER = refl
access_of_text access.COPY_SOURCE = refl
access_of_text access.COPY_DEST = refl
access_of_text access.COMMON = refl
access_of_text access.NO_ACCESS = refl

-- each access has its text
text_of_access : (name : AccessName) → access_name (one_access name) ≡ Some (access_text name)
unfolding access_name
text_of_access access.UNORDERED_ACCESS = refl
text_of_access access.SHADER_RESOURCE = refl
text_of_access access.CONSTANT_BUFFER = refl
text_of_access access.COPY_SOURCE = refl
text_of_access access.COPY_DEST = refl
text_of_access access.COMMON = refl
text_of_access access.NO_ACCESS = refl

-- each state's text names it
state_of_text : (name : StateName) → state_named (state_text name) ≡ Some (one_state name)
unfolding state_named row_of
state_of_text state.COMMON = refl
state_of_text state.VERTEX_AND_CONSTANT_BUFFER = refl
state_of_text state.NON_PIXEL_SHADER_RESOURCE = refl
state_of_text state.PIXEL_SHADER_RESOURCE = refl
state_of_text state.COPY_SOURCE = refl
state_of_text state.COPY_DEST = refl
state_of_text state.UNORDERED_ACCESS = refl

-- each state has its text
text_of_state : (name : StateName) → state_name (one_state name) ≡ Some (state_text name)
unfolding state_name
text_of_state state.COMMON = refl
text_of_state state.VERTEX_AND_CONSTANT_BUFFER = refl
text_of_state state.NON_PIXEL_SHADER_RESOURCE = refl
text_of_state state.PIXEL_SHADER_RESOURCE = refl
text_of_state state.COPY_SOURCE = refl
text_of_state state.COPY_DEST = refl
text_of_state state.UNORDERED_ACCESS = refl

sync_are : AreNames sync_text one_sync sync_named sync_name
unfolding sync_named sync_name
sync_are = record {
  of_text = sync_of_text;
  text_of = text_of_sync;
  by_name = λ w v h. by_text sync_text one_sync sync_names w v h;
  by_value = λ w v h. let by = by_key sync_bit sync_text sync_names v.0 w h in (by.0, (ap (λ n. record { 0 = n }) (sym by.1.0), by.1.1));
}

access_are : AreNames access_text one_access access_named access_name
unfolding access_named access_name
access_are = record {
  of_text = access_of_text;
  text_of = text_of_access;
  by_name = λ w v h. by_text access_text one_access access_names w v h;
  by_value = λ w v h. let by = by_key access_bit access_text access_names v.0 w h in (by.0, (ap (λ n. record { 0 = n }) (sym by.1.0), by.1.1));
}

state_are : AreNames state_text one_state state_named state_name
unfolding state_named state_name
state_are = record {
  of_text = state_of_text;
  text_of = text_of_state;
  by_name = λ w v h. by_text state_text one_state state_names w v h;
  by_value = λ w v h. let by = by_key state_bit state_text state_names v.0 w h in (by.0, (ap (λ n. record { 0 = n }) (sym by.1.0), by.1.1));
}

-- each layout's text names it
layout_of_text : (l : Layout) → layout_named (layout_text l) ≡ Some l
unfolding layout_named row_of
layout_of_text layout.Undefined = refl
layout_of_text layout.Common = refl
layout_of_text layout.GenericRead = refl
layout_of_text layout.UnorderedAccess = refl
layout_of_text layout.ShaderResource = refl
layout_of_text layout.CopySource = refl
layout_of_text layout.CopyDest = refl

layout_by_text : (text : List ℕ) (one : Layout) → layout_named text ≡ Some one → text ≡ layout_text one
unfolding layout_named
layout_by_text text one h =
    let by = by_text layout_text (λ l. l) all_layouts text one h in by.1.0 ∙ ap layout_text (sym by.1.1)

from_layout_text : (text : List ℕ) (one : Layout) → layout_named text ≡ Some one → layout_name one ≡ Some text
from_layout_text text one h = ap Some (sym (layout_by_text text one h))

to_layout_text : (text : List ℕ) (one : Layout) → layout_name one ≡ Some text → layout_named text ≡ Some one
to_layout_text text one h = let same : text ≡ layout_text one = cc in ap layout_named same ∙ layout_of_text one

pub of_singles : NamesAreOfSingles
of_singles = record {
  syncs = singles sync_text one_sync sync_named sync_name sync_are;
  accesses = singles access_text one_access access_named access_name access_are;
  layouts = λ text one. (layout_by_text text one, λ is. ap layout_named is ∙ layout_of_text one);
  states = singles state_text one_state state_named state_name state_are;
}

pub both_ways : NamesGoBothWays
both_ways = record {
  syncs = ways sync_text one_sync sync_named sync_name sync_are;
  accesses = ways access_text one_access access_named access_name access_are;
  layouts = λ text one. (from_layout_text text one, to_layout_text text one);
  states = ways state_text one_state state_named state_name state_are;
}
