-- Scopes: the commands of an execute in order, with what covers what, and the rules that they break.
use Rattle.std.specs.Prelude.{cond, ℕ, suc, ◌+◌, ◌-◌, ◌==◌, nat_lt, List, [], ◌∷◌, ◌++◌, map, Bool, true, false, not, ◌&&◌, ◌||◌, Option, Some, None}
use Rattle.std.specs.List.{list_any, flat_map}
use Rattle.dx_base.specs.Lists.{changed_at}
use Rattle.dx_base.specs.declared.kinds.Home.{Home}
use Rattle.dx_base.specs.declared.kinds.Home.TheVariants as home
use Rattle.dx_flags.specs.declared.atoms.Part.{Part}
use Rattle.dx_flags.specs.declared.atoms.Kind.{Kind}
use Rattle.dx_flags.specs.declared.atoms.Kind.TheVariants as kind
use Rattle.dx_flags.specs.declared.layouts.Layout.{Layout}
use Rattle.dx_flags.specs.Layouts.{layout_allows}
use Rattle.enhanced_barriers.specs.declared.barriers.Barrier.{Barrier}
use Rattle.enhanced_barriers.specs.declared.barriers.Scope.{Scope}
use Rattle.enhanced_barriers.specs.declared.barriers.Scope.TheVariants as scope
use Rattle.enhanced_barriers.specs.Cover.{before_has, after_has}
use Rattle.enhanced_barriers.specs.Legal.{is_undefined}
use Rattle.clocks.specs.declared.clock.Clock.{Clock}
use Rattle.clocks.specs.Clocks.{Act}
use Rattle.verdicts.specs.declared.rules.Rule.{Rule}
use Rattle.verdicts.specs.declared.rules.Rule.TheVariants as rule
use Rattle.d3d_judge.specs.Commands.{Range, Access, Pair, pair_of, Command, Accesses, Bars, chains, is_none, same_layout, is_change}
use Rattle.d3d_judge.specs.Setting.{Traits, Setting, traits_at, layout_at}
use Rattle.d3d_judge.specs.Touches.{Doing, Changes, Touch, conflict, overlaps, breaks_one, breaks_ten, doing_of, touch_of, touch_of_barrier}

-- a barrier that added to the covered pairs of an access, with its place in the scope
pub record Adder : Type 0 where
  pub place : ℕ
  pub barrier : Barrier

-- an access or a layout change of the scope so far; a change has no pair of its own, and is its own first adder
pub record Opened : Type 0 where
  pub place : ℕ
  pub range : Range
  pub doing : Doing
  pub own : Option Pair
  pub adders : List Adder

abbrev pub own_before : Barrier → Option Pair → Bool
own_before b None = false
own_before b (Some pair) = before_has b pair.part pair.kind

-- the covered pairs of an access have a pair
abbrev pub covered : Opened → Pair → Bool
covered o pair = list_any (λ l. after_has l.barrier pair.part pair.kind) o.adders

-- the before side of a barrier has the own pair of an access, or the access has a pair whose part is in its sync before
abbrev pub reaches : Opened → Barrier → Bool
reaches o b = own_before b o.own || list_any (λ l. chains l.barrier b) o.adders

abbrev pub is_sub : Option ℕ → ℕ → Bool
is_sub None s = true
is_sub (Some n) s = n == s

-- a barrier concerns the words of a range
abbrev pub concerns : Scope → Range → Bool
concerns scope.Global r = true
concerns (scope.Buffer id) r = r.resource == id.0
concerns (scope.Texture id sub) r = (r.resource == id.0) && is_sub sub r.sub

abbrev pub with_adder : Bool → ℕ → Barrier → Opened → Opened
with_adder true k b o = record o { adders = o.adders ++ (record { place = k; barrier = b }) ∷ [] }
with_adder false k b o = o

-- what a barrier at a place adds
abbrev pub added : ℕ → Barrier → Opened → Opened
added k b o = with_adder (concerns b.scope o.range && reaches o b) k b o

-- the scope so far: its next place, its accesses, what it touched, the layouts and the lost words, and the first rule it broke
pub record Scoped : Type 0 where
  pub place : ℕ
  pub opened : List Opened
  pub touched : List Touch
  pub layouts : List (List Layout)
  pub lost : List Range
  pub broken : Option Rule

-- the words of a that are not in b
abbrev pub without : Range → Range → List Range
without b a =
    cond (overlaps a b)
    (record { resource = a.resource; sub = a.sub; first = a.first; words = b.first - a.first }
    ∷ record { resource = a.resource; sub = a.sub; first = b.first + b.words; words = (a.first + a.words) - (b.first + b.words) } ∷ [])
    (a ∷ [])

-- an access at a place, when it is made
abbrev pub opened_of : ℕ → Part → Access → Opened
opened_of k part a = record { place = k; range = a.range; doing = doing_of a; own = Some (pair_of part a); adders = [] }

-- an earlier access of the scope meets a later one and does not cover its pair
abbrev pub uncovers : Part → Access → Opened → Bool
uncovers part a o = conflict o.doing (doing_of a) && (overlaps o.range a.range && not (covered o (pair_of part a)))

-- B2 of the accesses of one command
abbrev pub breaks_two : ℕ → Part → List Opened → List Access → Bool
breaks_two k part opened [] = false
breaks_two k part opened (a ∷ xs) = list_any (uncovers part a) opened || breaks_two k part (opened ++ opened_of k part a ∷ []) xs

abbrev pub is_dest : Kind → Bool
is_dest kind.UnorderedAccess = false
is_dest kind.ShaderResource = false
is_dest kind.ConstantBuffer = false
is_dest kind.CopySource = false
is_dest kind.CopyDest = true

abbrev pub is_read_kind : Kind → Bool
is_read_kind kind.UnorderedAccess = false
is_read_kind kind.ShaderResource = true
is_read_kind kind.ConstantBuffer = true
is_read_kind kind.CopySource = true
is_read_kind kind.CopyDest = false

-- a kind of access is allowed in a subresource of that layout: an upload buffer stays in GENERIC_READ, a readback buffer in
-- COPY_DEST, and an enhanced buffer takes all. Of a legacy resource its state decides, of which nothing is said here
abbrev pub home_allows : Home → Bool → Bool → Layout → Kind → Bool
home_allows home.Upload texture shared l k = is_read_kind k
home_allows home.Readback texture shared l k = is_dest k
home_allows home.Legacy texture shared l k = true
home_allows home.Enhanced texture shared l k = not texture || layout_allows l k shared

abbrev pub traits_allow : Traits → Layout → Kind → Bool
traits_allow r l k = home_allows r.home r.texture r.shared l k

-- B3 of an access; one of no words needs no state
abbrev pub breaks_three : Setting → List (List Layout) → Access → Bool
breaks_three base layouts a =
    nat_lt 0 a.range.words && not (traits_allow (traits_at base a.range.resource) (layout_at layouts a.range) a.kind)

-- B12 of an access
abbrev pub breaks_twelve : List Range → Access → Bool
breaks_twelve lost a = a.reads && list_any (overlaps a.range) lost

-- a rule where its test holds, else what comes next
abbrev pub or_rule : Bool → Rule → Option Rule → Option Rule
or_rule true r next = Some r
or_rule false r next = next

-- the least rule that the accesses of a command break
abbrev pub rule_of_accesses : Setting → List Touch → Clock → Act → Scoped → Part → List Access → Option Rule
rule_of_accesses base made clock act s part xs =
    or_rule (list_any (λ a. breaks_one clock made (touch_of act a)) xs) rule.B1
    (or_rule (breaks_two s.place part s.opened xs) rule.B2
    (or_rule (list_any (breaks_three base s.layouts) xs) rule.B3
    (or_rule (list_any (λ a. breaks_ten clock made (touch_of act a)) xs) rule.B10
    (or_rule (list_any (breaks_twelve s.lost) xs) rule.B12 None))))

-- the lost words after writes
abbrev pub unlost : List Access → List Range → List Range
unlost [] lost = lost
unlost (a ∷ xs) lost = unlost xs (cond a.writes (flat_map (without a.range) lost) lost)

-- the subresources of a texture, or the one that is named, whole; the first of the list has number n
abbrev pub wholes : ℕ → ℕ → Option ℕ → List ℕ → List Range
wholes id n sub [] = []
wholes id n sub (words ∷ rest) =
    cond (is_sub sub n) ((record { resource = id; sub = n; first = 0; words = words }) ∷ wholes id (suc n) sub rest) (wholes id (suc n) sub rest)

-- the subresources that a barrier of a texture names
abbrev pub named : Setting → Scope → List Range
named base scope.Global = []
named base (scope.Buffer id) = []
named base (scope.Texture id sub) = wholes id.0 0 sub (traits_at base id.0).subs

-- B2 of a layout change of a subresource
abbrev pub unreached : Barrier → Range → Opened → Bool
unreached b r o = overlaps o.range r && not (reaches o b)

-- B5: the scope used words that the barrier concerns
abbrev pub uses : Scope → Opened → Bool
uses what o = concerns what o.range && nat_lt 0 o.range.words

-- the least rule that a barrier breaks
abbrev pub rule_of_barrier : Setting → List Touch → Clock → Act → Scoped → Barrier → Option Rule
rule_of_barrier base made clock act s b =
    or_rule (list_any (λ r. breaks_one clock made (touch_of_barrier act b r)) (named base b.scope)) rule.B1
    (or_rule (is_change b && list_any (λ r. list_any (unreached b r) s.opened) (named base b.scope)) rule.B2
    (or_rule (list_any (λ r. not (is_undefined b.layout_before || same_layout b.layout_before (layout_at s.layouts r))) (named base b.scope)) rule.B4
    (or_rule (is_none b && list_any (uses b.scope) s.opened) rule.B5
    (or_rule (list_any (λ r. breaks_ten clock made (touch_of_barrier act b r)) (named base b.scope)) rule.B10 None))))

-- a layout change at a place, when it is made
abbrev pub change_opened : ℕ → Barrier → Range → Opened
change_opened k b r = record { place = k; range = r; doing = Changes; own = None; adders = (record { place = k; barrier = b }) ∷ [] }

abbrev pub layouts_after : Layout → List Range → List (List Layout) → List (List Layout)
layouts_after layout [] layouts = layouts
layouts_after layout (r ∷ rs) layouts = layouts_after layout rs (changed_at (changed_at (λ _. layout) r.sub) r.resource layouts)

abbrev pub rule_of_command : Setting → List Touch → Clock → Act → Scoped → Command → Option Rule
rule_of_command base made clock act s (Accesses part xs) = rule_of_accesses base made clock act s part xs
rule_of_command base made clock act s (Bars b) = rule_of_barrier base made clock act s b

-- the scope after a command, but for the rules
abbrev pub scope_command : Setting → Act → Scoped → Command → Scoped
scope_command base act s (Accesses part xs) = record s {
  place = suc s.place;
  opened = s.opened ++ map (opened_of s.place part) xs;
  touched = s.touched ++ map (touch_of act) xs;
  lost = unlost xs s.lost;
}
scope_command base act s (Bars b) = record s {
  place = suc s.place;
  opened = map (added s.place b) s.opened ++ cond (is_change b) (map (change_opened s.place b) (named base b.scope)) [];
  touched = s.touched ++ map (touch_of_barrier act b) (named base b.scope);
  layouts = cond (is_change b) (layouts_after b.layout_after (named base b.scope) s.layouts) s.layouts;
  lost = cond (is_undefined b.layout_before) (named base b.scope ++ s.lost) s.lost;
}

abbrev pub broken_by : Scoped → Option Rule → Scoped → Scoped
broken_by s None t = t
broken_by s (Some r) t = record s { broken = Some r }

abbrev pub scope_step : Setting → List Touch → Clock → Act → Scoped → Command → Scoped
scope_step base made clock act s c = broken_by s (rule_of_command base made clock act s c) (scope_command base act s c)

-- the scope after commands in order, up to the first that breaks a rule
abbrev pub scope_unless : Option Rule → Scoped → Scoped → Scoped
scope_unless None t s = t
scope_unless (Some r) t s = s

abbrev pub scope_all : Setting → List Touch → Clock → Act → Scoped → List Command → Scoped
scope_all base made clock act s [] = s
scope_all base made clock act s (c ∷ cs) = scope_all base made clock act (scope_unless s.broken (scope_step base made clock act s c) s) cs

-- an execute before its first command
abbrev pub first_scope : List (List Layout) → List Range → Scoped
first_scope layouts lost = record { place = 0; opened = []; touched = []; layouts = layouts; lost = lost; broken = None }
