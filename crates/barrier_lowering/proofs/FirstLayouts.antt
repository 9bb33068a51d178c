-- The layouts after the start-up batch.
use Rattle.std.proofs.Common.{ℕ, zero, suc, ◌≡◌, ◌+◌, ◌*◌, ◌∙◌, refl, sym, ap, arith, add-one, List, [], ◌∷◌, ◌++◌, append-nil, length, map, replicate, Option, Some, None}
use Rattle.std.proofs.lemmas.List.{length-replicate, append_assoc}
use Rattle.dx_base.specs.Lists.{changed_at}
use Rattle.d3d_resources.specs.declared.resources.Resource.{Resource}
use Rattle.d3d_resources.specs.declared.resources.Resource.TheVariants.{Buffer, Texture}
use Rattle.vk_types.specs.declared.commands.VkCommand.{VkCommand}
use Rattle.vk_types.specs.declared.layouts.VkLayout.{VkLayout}
use Rattle.vk_types.specs.declared.layouts.VkLayout.TheVariants.{Undefined}
use Rattle.barrier_lowering.specs.Laws.{LayoutsStayWhole, StartupGivesFirstLayouts}
use Rattle.barrier_lowering.specs.Layouts.{change_in, layouts_after_command, layouts_after_commands, first_layout, first_layouts, unknown_layouts, AreLayoutsOf}
use Rattle.barrier_lowering.specs.Startup.{startup_of_image, startup_from}
use Rattle.barrier_lowering.proofs.LayoutPlaces.{stay_layouts}
use Rattle.barrier_lowering.proofs.Turns.{after_append}

pub are_first : (rs : List (Option Resource)) → AreLayoutsOf rs (first_layouts rs)
are_first [] = refl
are_first (None ∷ rs) = are_first rs
are_first (Some (Buffer home words) ∷ rs) = are_first rs
are_first (Some (Texture start width height mips layers shared) ∷ rs) =
    ap (λ n. n ∷ map (λ (subs : List VkLayout). length subs) (first_layouts rs)) (length-replicate (mips * layers) (first_layout start))
    ∙ ap (λ ns. mips * layers ∷ ns) (are_first rs)

stay : (rs : List (Option Resource)) (commands : List VkCommand) (layouts : List (List VkLayout)) → AreLayoutsOf rs layouts → AreLayoutsOf rs (layouts_after_commands commands layouts)
stay rs [] layouts are = are
stay rs (command ∷ commands) layouts are = stay rs commands (layouts_after_command command layouts) (stay_layouts rs (change_in command) layouts are)

pub stay_whole : LayoutsStayWhole
stay_whole = record { first = are_first; stay = stay }

-- the item behind others is changed
changed_behind : {A : Type 0} (f : A → A) (before : List A) (x : A) (more : List A) → changed_at f (length before) (before ++ x ∷ more) ≡ before ++ f x ∷ more
changed_behind f [] x more = refl
changed_behind f (y ∷ before) x more = ap (λ t. y ∷ t) (changed_behind f before x more)

-- one more subresource in its first layout
one_more : (layout : VkLayout) (k : ℕ) (more : List VkLayout) → changed_at (λ (_ : VkLayout). layout) k (replicate k layout ++ Undefined ∷ more) ≡ replicate (suc k) layout ++ more
one_more layout zero more = refl
one_more layout (suc k) more = ap (λ t. layout ∷ t) (one_more layout k more)

-- the layouts of an image whose first subresources are in their first layout
abbrev half : VkLayout → ℕ → ℕ → List VkLayout
half layout done left = replicate done layout ++ replicate left Undefined

image_after : (before more : List (List VkLayout)) (layout : VkLayout) (done left : ℕ) →
    layouts_after_commands (startup_of_image (length before) layout done left) (before ++ half layout done left ∷ more) ≡ before ++ replicate (done + left) layout ∷ more
image_after before more layout done zero = ap (λ subs. before ++ subs ∷ more) (append-nil (replicate done layout) ∙ ap (λ n. replicate n layout) (omega arith))
image_after before more layout done (suc left) =
    ap
    (λ layouts. layouts_after_commands (startup_of_image (length before) layout (done + 1) left) layouts)
    (changed_behind (λ subs. changed_at (λ (_ : VkLayout). layout) done subs) before (half layout done (suc left)) more
    ∙ ap (λ subs. before ++ subs ∷ more) (one_more layout done (replicate left Undefined) ∙ ap (λ n. half layout n left) (sym (add-one done))))
    ∙ image_after before more layout (done + 1) left
    ∙ ap (λ n. before ++ replicate n layout ∷ more) (omega arith)

-- one image more before the others
moved : (before : List (List VkLayout)) (subs : List VkLayout) (more : List (List VkLayout)) → before ++ subs ∷ more ≡ (before ++ subs ∷ []) ++ more
moved before subs more = sym (append_assoc before (subs ∷ []) more)

length_more : (before : List (List VkLayout)) (subs : List VkLayout) → length (before ++ subs ∷ []) ≡ length before + 1
length_more [] subs = refl
length_more (x ∷ before) subs = ap suc (length_more before subs) ∙ omega arith

all_after : (before : List (List VkLayout)) (rs : List (Option Resource)) → layouts_after_commands (startup_from (length before) rs) (before ++ unknown_layouts rs) ≡ before ++ first_layouts rs
all_after before [] = refl
all_after before (None ∷ rs) = all_after before rs
all_after before (Some (Buffer home words) ∷ rs) = all_after before rs
all_after before (Some (Texture start width height mips layers shared) ∷ rs) =
    let whole = replicate (mips * layers) (first_layout start) in
    after_append (startup_of_image (length before) (first_layout start) 0 (mips * layers)) (startup_from (length before + 1) rs) (before ++ unknown_layouts (Some (Texture start width height mips layers shared) ∷ rs))
    ∙ ap (λ layouts. layouts_after_commands (startup_from (length before + 1) rs) layouts)
    (image_after before (unknown_layouts rs) (first_layout start) 0 (mips * layers)
    ∙ ap (λ n. before ++ replicate n (first_layout start) ∷ unknown_layouts rs) (omega arith)
    ∙ moved before whole (unknown_layouts rs))
    ∙ ap (λ n. layouts_after_commands (startup_from n rs) ((before ++ whole ∷ []) ++ unknown_layouts rs)) (sym (length_more before whole))
    ∙ all_after (before ++ whole ∷ []) rs
    ∙ sym (moved before whole (first_layouts rs))

pub startup_gives : StartupGivesFirstLayouts
startup_gives rs = all_after [] rs
