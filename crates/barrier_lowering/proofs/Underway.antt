-- A recorded list that is lowered in part.
use Rattle.std.proofs.Common.{ℕ, zero, suc, ◌≡◌, ◌<◌, ◌≤◌, ◌+◌, ◌/◌, ◌∙◌, refl, sym, ap, subst, arith, List, [], ◌∷◌, ◌++◌, append-nil, length, map, drop, get_or, Option, Some, None, true, ◌&&◌, nat_lt, ltb-true}
use Rattle.std.proofs.lemmas.List.{map-append, append_assoc, drop_all}
use Rattle.std.specs.Option.{option_or, unwrap_or}
use Rattle.std.specs.Prelude.{◌^◌}
use Rattle.dx_base.proofs.Lists.{and_both}
use Rattle.d3d_resources.specs.declared.resources.Resource.{Resource}
use Rattle.d3d_resources.specs.declared.resources.Resource.TheVariants.{Buffer, Texture}
use Rattle.vk_types.specs.declared.commands.VkCommand.TheVariants as vk
use Rattle.vk_types.specs.declared.layouts.VkLayout.{VkLayout}
use Rattle.barrier_lowering.specs.declared.image_changes.ImageChanges.{ImageChanges}
use Rattle.barrier_lowering.specs.declared.lowered.Placed.{Placed}
use Rattle.barrier_lowering.specs.declared.lowered.Placed.TheVariants as placed
use Rattle.barrier_lowering.specs.declared.records.Record.{Record}
use Rattle.barrier_lowering.specs.declared.records.Record.TheVariants.{Copy, CopyTexture, CopyIn, CopyOut, Barrier}
use Rattle.barrier_lowering.specs.ImageChanges.{last_given, given_by, AddsSome}
use Rattle.barrier_lowering.specs.Layouts.{layout_at, change_in, layouts_after_some, layouts_after_command, layouts_after_commands, texture_subs, AreLayoutsOf}
use Rattle.barrier_lowering.specs.Lowered.{filled_layout, filled_command, change_placed, advanced_by, advanced_by_all, sub_behind, placed_record, IsLowered}
use Rattle.barrier_lowering.specs.Lowering.{lowered_record, lowered_commands, sub_count, is_there, has_sub, is_small, is_recorded, are_recorded}
use Rattle.barrier_lowering.specs.Numbers.{buffer_number, image_number}
use Rattle.barrier_lowering.proofs.LayoutPlaces.{some_at, stay_layouts, is_within}

-- a resource that has a subresource has it among those of the textures, at its number
sub_there : (rs : List (Option Resource)) (id sub : ℕ) → sub < sub_count (get_or rs id None) → sub < get_or (texture_subs rs) (image_number rs id) 0
sub_there [] id sub within = absurd (omega (arith, within))
sub_there (None ∷ rs) zero sub within = absurd (omega (arith, within))
sub_there (None ∷ rs) (suc id) sub within = sub_there rs id sub within
sub_there (Some (Buffer home words) ∷ rs) zero sub within = absurd (omega (arith, within))
sub_there (Some (Buffer home words) ∷ rs) (suc id) sub within = sub_there rs id sub within
sub_there (Some (Texture start width height mips layers shared) ∷ rs) zero sub within = within
sub_there (Some (Texture start width height mips layers shared) ∷ rs) (suc id) sub within = sub_there rs id sub within

has_sub_there : (rs : List (Option Resource)) (id sub : ℕ) → has_sub rs id sub ≡ true → sub < get_or (texture_subs rs) (image_number rs id) 0
has_sub_there rs id sub has =
    let more : (nat_lt sub (2 ^ 32) && nat_lt sub (sub_count (get_or rs id None))) ≡ true = (and_both (is_there rs id) (nat_lt sub (2 ^ 32) && nat_lt sub (sub_count (get_or rs id None))) has).1 in
    sub_there rs id sub (ltb-true sub (sub_count (get_or rs id None)) (and_both (nat_lt sub (2 ^ 32)) (nat_lt sub (sub_count (get_or rs id None))) more).1)

-- what the list so far gave each subresource last, or else what it had before the list, is its layout
abbrev pub Knows : List (Option Resource) → ImageChanges → List (List VkLayout) → List (List VkLayout) → Type 0
Knows rs changes before now =
    (image sub : ℕ) → sub < get_or (texture_subs rs) image 0 → filled_layout before (sub_behind (last_given changes) image sub) ≡ layout_at now image sub

-- a command with its places filled is the lowered one
filled_is_lowered : (rs : List (Option Resource)) (changes : ImageChanges) (before now : List (List VkLayout)) (what : Record) → Knows rs changes before now → is_recorded rs what ≡ true →
    filled_command before (placed_record rs (last_given changes) what) ≡ lowered_record rs now what
filled_is_lowered rs changes before now (Copy to to_offset from from_offset bytes) knows recorded = refl
filled_is_lowered rs changes before now (CopyTexture to to_sub from from_sub) knows recorded =
    let both : (has_sub rs to.0 to_sub ≡ true) × (has_sub rs from.0 from_sub ≡ true) = and_both (has_sub rs to.0 to_sub) (has_sub rs from.0 from_sub) recorded in
    ap
    (λ l. vk.CopyImage (image_number rs to.0) to_sub l (image_number rs from.0) from_sub (filled_layout before (sub_behind (last_given changes) (image_number rs from.0) from_sub)))
    (knows (image_number rs to.0) to_sub (has_sub_there rs to.0 to_sub both.0))
    ∙ ap
    (λ l. vk.CopyImage (image_number rs to.0) to_sub (layout_at now (image_number rs to.0) to_sub) (image_number rs from.0) from_sub l)
    (knows (image_number rs from.0) from_sub (has_sub_there rs from.0 from_sub both.1))
filled_is_lowered rs changes before now (CopyIn to sub from offset pitch) knows recorded =
    let names : (has_sub rs to.0 sub && is_there rs from.0) ≡ true = (and_both (has_sub rs to.0 sub && is_there rs from.0) (is_small offset && is_small pitch) recorded).0 in
    ap
    (λ l. vk.CopyIn (image_number rs to.0) sub l (buffer_number rs from.0) (offset / 4) (pitch / 4))
    (knows (image_number rs to.0) sub (has_sub_there rs to.0 sub (and_both (has_sub rs to.0 sub) (is_there rs from.0) names).0))
filled_is_lowered rs changes before now (CopyOut to offset pitch from sub) knows recorded =
    let names : (is_there rs to.0 && has_sub rs from.0 sub) ≡ true = (and_both (is_there rs to.0 && has_sub rs from.0 sub) (is_small offset && is_small pitch) recorded).0 in
    ap
    (λ l. vk.CopyOut (buffer_number rs to.0) (offset / 4) (pitch / 4) (image_number rs from.0) sub l)
    (knows (image_number rs from.0) sub (has_sub_there rs from.0 sub (and_both (is_there rs to.0) (has_sub rs from.0 sub) names).1))
filled_is_lowered rs changes before now (Barrier barrier) knows recorded = refl

-- a command with places makes the change of the lowered one
same_change : (rs : List (Option Resource)) (last : ℕ → ℕ → Option VkLayout) (now : List (List VkLayout)) (what : Record) →
    change_placed (placed_record rs last what) ≡ change_in (lowered_record rs now what)
same_change rs last now (Copy to to_offset from from_offset bytes) = refl
same_change rs last now (CopyTexture to to_sub from from_sub) = refl
same_change rs last now (CopyIn to sub from offset pitch) = refl
same_change rs last now (CopyOut to offset pitch from sub) = refl
same_change rs last now (Barrier barrier) = refl

-- the layouts after commands, one of which comes behind
advanced_more : (commands : List Placed) (one : Placed) (layouts : List (List VkLayout)) → advanced_by_all (commands ++ one ∷ []) layouts ≡ advanced_by one (advanced_by_all commands layouts)
advanced_more [] one layouts = refl
advanced_more (command ∷ commands) one layouts = advanced_more commands one (advanced_by command layouts)

stay_after : (rs : List (Option Resource)) (commands : List Placed) (layouts : List (List VkLayout)) → AreLayoutsOf rs layouts → AreLayoutsOf rs (advanced_by_all commands layouts)
stay_after rs [] layouts are = are
stay_after rs (command ∷ commands) layouts are = stay_after rs commands (advanced_by command layouts) (stay_layouts rs (change_placed command) layouts are)

-- a list that is filled makes the changes of the list with places
change_filled : (layouts : List (List VkLayout)) (command : Placed) → change_in (filled_command layouts command) ≡ change_placed command
change_filled layouts (placed.Whole command) = refl
change_filled layouts (placed.CopyImage to from) = refl
change_filled layouts (placed.CopyIn to from) = refl
change_filled layouts (placed.CopyOut to from) = refl

after_filled : (commands : List Placed) (before layouts : List (List VkLayout)) → layouts_after_commands (map (filled_command before) commands) layouts ≡ advanced_by_all commands layouts
after_filled [] before layouts = refl
after_filled (command ∷ commands) before layouts =
    after_filled commands before (layouts_after_command (filled_command before command) layouts)
    ∙ ap (λ change. advanced_by_all commands (layouts_after_some change layouts)) (change_filled before command)

-- the first commands of a list are lowered, and their changes known
pub record IsUnderway (rs : List (Option Resource)) (all : List Record) (i : ℕ) (changes : ImageChanges) (commands : List Placed) : Type 0 where
  pub through : (layouts : List (List VkLayout)) → AreLayoutsOf rs layouts →
      map (filled_command layouts) commands ++ lowered_commands rs (advanced_by_all commands layouts) (drop i all) ≡ lowered_commands rs layouts all
  pub knows : (layouts : List (List VkLayout)) → AreLayoutsOf rs layouts → Knows rs changes layouts (advanced_by_all commands layouts)

pub begins : (rs : List (Option Resource)) (all : List Record) (changes : ImageChanges) → ((image sub : ℕ) → last_given changes image sub ≡ None) → IsUnderway rs all 0 changes []
begins rs all changes none = record {
  through = λ layouts are. refl;
  knows = λ layouts are image sub within. ap (λ o. unwrap_or o (layout_at layouts image sub)) (none image sub);
}

-- an answer that is chosen of two
or_else : {A : Type 0} (first second : Option A) (x : A) → unwrap_or (option_or first second) x ≡ unwrap_or first (unwrap_or second x)
or_else None second x = refl
or_else (Some y) second x = refl

knows_more : (rs : List (Option Resource)) (changes more : ImageChanges) (commands : List Placed) (one : Placed) (layouts : List (List VkLayout)) →
    AreLayoutsOf rs layouts → Knows rs changes layouts (advanced_by_all commands layouts) → AddsSome (change_placed one) changes more →
    Knows rs more layouts (advanced_by_all (commands ++ one ∷ []) layouts)
knows_more rs changes more commands one layouts are knows adds image sub within =
    let now = advanced_by_all commands layouts in
    ap (λ o. unwrap_or o (layout_at layouts image sub)) (adds image sub)
    ∙ or_else (given_by (change_placed one) image sub) (last_given changes image sub) (layout_at layouts image sub)
    ∙ ap (λ l. unwrap_or (given_by (change_placed one) image sub) l) (knows image sub within)
    ∙ sym (some_at (change_placed one) now image sub (is_within rs now image sub (stay_after rs commands layouts are) within))
    ∙ ap (λ u. layout_at u image sub) (sym (advanced_more commands one layouts))

through_more : (rs : List (Option Resource)) (all rest : List Record) (changes : ImageChanges) (commands : List Placed) (what : Record) (layouts : List (List VkLayout)) →
    Knows rs changes layouts (advanced_by_all commands layouts) → is_recorded rs what ≡ true →
    map (filled_command layouts) commands ++ lowered_commands rs (advanced_by_all commands layouts) (what ∷ rest) ≡ lowered_commands rs layouts all →
    map (filled_command layouts) (commands ++ placed_record rs (last_given changes) what ∷ [])
    ++ lowered_commands rs (advanced_by_all (commands ++ placed_record rs (last_given changes) what ∷ []) layouts) rest
    ≡ lowered_commands rs layouts all
through_more rs all rest changes commands what layouts knows recorded through =
    let one = placed_record rs (last_given changes) what in
    let now = advanced_by_all commands layouts in
    let front = map (filled_command layouts) commands in
    let after : advanced_by_all (commands ++ one ∷ []) layouts ≡ layouts_after_command (lowered_record rs now what) now = advanced_more commands one layouts ∙ ap (λ change. layouts_after_some change now) (same_change rs (last_given changes) now what) in
    ap (λ cs. cs ++ lowered_commands rs (advanced_by_all (commands ++ one ∷ []) layouts) rest) (map-append (filled_command layouts) commands (one ∷ []))
    ∙ append_assoc front (filled_command layouts one ∷ []) (lowered_commands rs (advanced_by_all (commands ++ one ∷ []) layouts) rest)
    ∙ ap (λ c. front ++ (c ∷ lowered_commands rs (advanced_by_all (commands ++ one ∷ []) layouts) rest)) (filled_is_lowered rs changes layouts now what knows recorded)
    ∙ ap (λ u. front ++ (lowered_record rs now what ∷ lowered_commands rs u rest)) after
    ∙ through

-- one command more
pub goes_on : (rs : List (Option Resource)) (all : List Record) (i : ℕ) (changes more : ImageChanges) (commands : List Placed) (what : Record) →
    IsUnderway rs all i changes commands → drop i all ≡ what ∷ drop (i + 1) all → is_recorded rs what ≡ true →
    AddsSome (change_placed (placed_record rs (last_given changes) what)) changes more →
    IsUnderway rs all (i + 1) more (commands ++ placed_record rs (last_given changes) what ∷ [])
goes_on rs all i changes more commands what underway at recorded adds = record {
  through = λ layouts are.
      through_more rs all (drop (i + 1) all) changes commands what layouts (underway.knows layouts are) recorded
      (ap (λ rest. map (filled_command layouts) commands ++ lowered_commands rs (advanced_by_all commands layouts) rest) (sym at) ∙ underway.through layouts are);
  knows = λ layouts are. knows_more rs changes more commands (placed_record rs (last_given changes) what) layouts are (underway.knows layouts are) adds;
}

-- the same, as a loop says it
pub goes_by : (rs : List (Option Resource)) (all : List Record) (i : ℕ) (changes more : ImageChanges) (commands longer : List Placed) (one : Placed) (what : Record) →
    IsUnderway rs all i changes commands → drop i all ≡ what ∷ drop (i + 1) all → is_recorded rs what ≡ true → one ≡ placed_record rs (last_given changes) what →
    AddsSome (change_placed one) changes more → longer ≡ commands ++ one ∷ [] → IsUnderway rs all (i + 1) more longer
goes_by rs all i changes more commands longer one what underway at recorded is adds longer_is =
    subst (λ cs. IsUnderway rs all (i + 1) more cs) (ap (λ p. commands ++ p ∷ []) (sym is) ∙ sym longer_is)
    (goes_on rs all i changes more commands what underway at recorded (subst (λ p. AddsSome (change_placed p) changes more) is adds))

-- past its end the list is lowered
pub ends : (rs : List (Option Resource)) (all : List Record) (i : ℕ) (changes : ImageChanges) (commands : List Placed) → IsUnderway rs all i changes commands → length all ≤ i →
    IsLowered rs all (record { commands = commands })
ends rs all i changes commands underway past =
    let is : (layouts : List (List VkLayout)) → AreLayoutsOf rs layouts → map (filled_command layouts) commands ≡ lowered_commands rs layouts all = λ layouts are.
    sym (append-nil (map (filled_command layouts) commands))
    ∙ ap (λ rest. map (filled_command layouts) commands ++ lowered_commands rs (advanced_by_all commands layouts) rest) (sym (drop_all i all past))
    ∙ underway.through layouts are in
    record {
      commands = is;
      after = λ layouts are. sym (after_filled commands layouts layouts) ∙ ap (λ cs. layouts_after_commands cs layouts) (is layouts are);
    }

-- each command of a recorded list is one
pub recorded_at : (rs : List (Option Resource)) (all : List Record) (i : ℕ) (d : Record) → i < length all → are_recorded rs all ≡ true → is_recorded rs (get_or all i d) ≡ true
recorded_at rs [] i d within are = absurd (omega (arith, within))
recorded_at rs (what ∷ more) zero d within are = (and_both (is_recorded rs what) (are_recorded rs more) are).0
recorded_at rs (what ∷ more) (suc i) d within are = recorded_at rs more i d (omega (arith, within)) (and_both (is_recorded rs what) (are_recorded rs more) are).1
