-- The rule that copies of a scope break, by the tests of the code.
use Rattle.std.proofs.Common.{ℕ, zero, suc, slice_get, ◌/◌, ◌≡◌, ◌<◌, ◌+◌, ◌∙◌, refl, ap, sym, subst, List, [], ◌∷◌, ◌++◌, map, length, take, drop, get_or, Bool, true, false, not, ◌&&◌, ◌||◌, nat_lt, Option, Some, None, is_some, append_assoc}
use Rattle.std.specs.List.{list_any}
use Rattle.dx_base.specs.declared.kinds.Home.{Home}
use Rattle.dx_base.specs.declared.kinds.Home.TheVariants as home
use Rattle.dx_flags.specs.declared.atoms.Part.{Part}
use Rattle.dx_flags.specs.declared.atoms.Part.TheVariants as part
use Rattle.dx_flags.specs.declared.atoms.Kind.{Kind}
use Rattle.dx_flags.specs.declared.atoms.Kind.TheVariants as kind
use Rattle.dx_flags.specs.declared.layouts.Layout.{Layout}
use Rattle.clocks.specs.declared.clock.Clock.{Clock}
use Rattle.clocks.specs.Clocks.{Act, OfQueue, with_op}
use Rattle.d3d_machine.specs.declared.calls.Record.{Record}
use Rattle.d3d_machine.specs.declared.calls.Record.TheVariants.{Copy}
use Rattle.d3d_machine.specs.declared.world.Resource.{Resource}
use Rattle.d3d_machine.specs.declared.world.Resource.TheVariants.{Buffer}
use Rattle.d3d_machine.specs.declared.world.World.{World}
use Rattle.d3d_machine.specs.World.{resource_of, words_in, words_of_resource}
use Rattle.verdicts.specs.declared.rules.Rule.{Rule}
use Rattle.verdicts.specs.declared.rules.Rule.TheVariants as rule
use Rattle.d3d_judge.specs.declared.word_touches.WordAccess.{WordAccess}
use Rattle.d3d_judge.specs.declared.sub_tables.SubTables.{SubTables}
use Rattle.d3d_judge.specs.Carried.{item_or}
use Rattle.d3d_judge.specs.CarriedClocks.{IsSized}
use Rattle.d3d_judge.specs.Commands.{Access, Command, Accesses, copied_from, copied_to, command_of}
use Rattle.d3d_judge.specs.Tables.{OfQueues, OfThreads}
use Rattle.d3d_judge.proofs.CarriedClocks.{map_one}
use Rattle.d3d_judge.proofs.CopyReady.{take_more, take_drop}
use Rattle.d3d_machine.specs.declared.events.Command.{Command as Recorded}
use Rattle.d3d_judge.specs.Setting.{Setting, no_traits, traits_of, traits_at, layout_at, setting_of}
use Rattle.d3d_judge.specs.Touches.{Touch, breaks_one, breaks_ten, overlaps, touch_of}
use Rattle.d3d_judge.specs.Scopes.{Scoped, traits_allow, opened_of, uncovers, breaks_two, breaks_three, breaks_twelve, or_rule, rule_of_accesses, rule_of_command, scope_command, broken_by, scope_step, scope_unless, scope_all}
use Rattle.d3d_judge.specs.CopyScopes.{words_from, words_to, range_by, copy_accesses, InScope, AreJudged, JudgesCopies, BreaksState, refuses_kind, least_of}
use Rattle.d3d_judge.specs.WordTouches.{touch_by, words_at, AreAllTied, TellsOne, TellsTen, HaveOneMore}
use Rattle.d3d_judge.proofs.CopyScopes.{one_in_scope, ten_in_scope, two_in_scope, of_queues, of_threads, goes_on}
use Rattle.d3d_judge.proofs.Scopes.{stuck, scope_append}

or_false : (b : Bool) → (b || false) ≡ b
or_false true = refl
or_false false = refl

and_false : (b : Bool) → (b && false) ≡ false
and_false true = refl
and_false false = refl

-- the resource of an id, by what the rules read of it
pub traits_is : (rs : List (Option Resource)) (r : ℕ) → item_or no_traits (map traits_of rs) r ≡ traits_of (elim (slice_get rs r) [ None ↦ None | Some o ↦ o ])
traits_is [] r = refl
traits_is (o ∷ rs) zero = refl
traits_is (o ∷ rs) (suc r) = traits_is rs r

home_refuses : (h : Home) (n : ℕ) (k : Kind) (l : Layout) → not (traits_allow (traits_of (Some (Buffer h n))) l k) ≡ refuses_kind (Some (Buffer h n)) k
home_refuses home.Upload n k l = refl
home_refuses home.Readback n k l = refl
home_refuses home.Legacy n k l = refl
home_refuses home.Enhanced n k l = refl

any_layout : (o : Option Resource) (k : Kind) (l : Layout) → not (traits_allow (traits_of o) l k) ≡ refuses_kind o k
any_layout None k l = refl
any_layout (Some (Buffer h n)) k l = home_refuses h n k l

both_tests : (s x y : Bool) → (s && (x || y)) ≡ ((s && x) || ((s && y) || false))
both_tests true x y = ap (λ z. x || z) (sym (or_false y))
both_tests false x y = refl

-- the least rule by tests that are equal
least_is : (a b c d e one two three ten : Bool) → one ≡ a → two ≡ b → three ≡ c → ten ≡ d → e ≡ false →
    least_of one two three ten ≡ or_rule a rule.B1 (or_rule b rule.B2 (or_rule c rule.B3 (or_rule d rule.B10 (or_rule e rule.B12 None))))
least_is a b c d e one two three ten ha hb hc hd he = rw he (rw ha (rw hb (rw hc (rw hd refl))))

-- a scope that is clean, after one command more
module _ (base : Setting) (made : List Touch) (clock : Clock) (act : Act) where
  pub one_command : (s : Scoped) (c : Command) → s.broken ≡ None →
      scope_all base made clock act s (c ∷ []) ≡ broken_by s (rule_of_command base made clock act s c) (scope_command base act s c)
  one_command s c e = ap (λ o. scope_unless o (scope_step base made clock act s c) s) e

  broken_is : (s : Scoped) (part : Part) (xs : List Access) (o : Option Rule) → s.broken ≡ None → (broken_by s o (scope_command base act s (Accesses part xs))).broken ≡ o
  broken_is s part xs None e = e
  broken_is s part xs (Some r) e = refl

module _ (w : World) (made : List Touch) (joint counts : Clock) (q n : ℕ) (s : Scoped) (h : InScope w made joint counts q n s) (clean : s.broken ≡ None) where
  abbrev act : Act
  act = OfQueue q n

  abbrev base : Setting
  base = setting_of w

  -- the tests of a command's two accesses
  pub record Tests (from to : Access) (one two three ten : Bool) : Type 0 where
    pub one_is : one ≡ (breaks_one joint made (touch_of act from) || breaks_one joint made (touch_of act to))
    pub two_is : two ≡ (list_any (uncovers part.Copy from) s.opened || list_any (uncovers part.Copy to) (s.opened ++ opened_of s.place part.Copy from ∷ []))
    pub three_is : three ≡ list_any (breaks_three base s.layouts) (from ∷ to ∷ [])
    pub ten_is : ten ≡ (breaks_ten joint made (touch_of act from) || breaks_ten joint made (touch_of act to))

  none_lost_read : (xs : List Access) → list_any (breaks_twelve s.lost) xs ≡ false
  none_lost_read [] = refl
  none_lost_read (a ∷ xs) = rw (ap (λ l. a.reads && list_any (overlaps a.range) l) h.lost ∙ and_false a.reads) (none_lost_read xs)

  pub rule_is : (from to : Access) (one two three ten : Bool) → Tests from to one two three ten →
      least_of one two three ten ≡ rule_of_accesses base made joint act s part.Copy (from ∷ to ∷ [])
  rule_is from to one two three ten t =
      least_is (list_any (λ a. breaks_one joint made (touch_of act a)) (from ∷ to ∷ [])) (breaks_two s.place part.Copy s.opened (from ∷ to ∷ []))
      (list_any (breaks_three base s.layouts) (from ∷ to ∷ [])) (list_any (λ a. breaks_ten joint made (touch_of act a)) (from ∷ to ∷ []))
      (list_any (breaks_twelve s.lost) (from ∷ to ∷ [])) one two three ten
      (t.one_is ∙ ap (λ b. breaks_one joint made (touch_of act from) || b) (sym (or_false (breaks_one joint made (touch_of act to)))))
      (t.two_is ∙ ap (λ b. list_any (uncovers part.Copy from) s.opened || b) (sym (or_false (list_any (uncovers part.Copy to) (s.opened ++ opened_of s.place part.Copy from ∷ [])))))
      t.three_is
      (t.ten_is ∙ ap (λ b. breaks_ten joint made (touch_of act from) || b) (sym (or_false (breaks_ten joint made (touch_of act to)))))
      (none_lost_read (from ∷ to ∷ []))

  pub record AreJudgedParts (xs : List Access) (o : Option Rule) : Type 0 where
    pub broken : o ≡ (scope_all base made joint act s (Accesses part.Copy xs ∷ [])).broken
    pub after : o ≡ None → scope_all base made joint act s (Accesses part.Copy xs ∷ []) ≡ scope_command base act s (Accesses part.Copy xs)

  -- where the command breaks nothing, the scope after it is that of its accesses
  pub next_scope : (xs : List Access) (o : Option Rule) → o ≡ rule_of_command base made joint act s (Accesses part.Copy xs) →
      AreJudgedParts xs o
  next_scope xs o e = record {
    broken = e ∙ sym (ap (λ (u : Scoped). u.broken) (one_command base made joint act s (Accesses part.Copy xs) clean) ∙ broken_is base made joint act s part.Copy xs _ clean);
    after = λ none. one_command base made joint act s (Accesses part.Copy xs) clean
        ∙ ap (λ r. broken_by s r (scope_command base act s (Accesses part.Copy xs))) (sym e ∙ none);
  }

-- what the code asked of the tables for a copy, and how it changed them
pub record Asked (w : World) (old mid new : List (List SubTables)) (clock counts : Clock) (q n : ℕ) (what : Record) : Type 0 where
  pub from : WordAccess
  pub to : WordAccess
  pub one_from : Bool
  pub one_to : Bool
  pub ten_from : Bool
  pub ten_to : Bool
  pub three : Bool
  pub two_from : Bool
  pub two_to : Bool
  pub from_is : from ≡ words_from what
  pub to_is : to ≡ words_to what
  pub clock_sized : IsSized (length w.queues) (length w.scripts) clock
  pub counts_sized : IsSized (length w.queues) (length w.scripts) counts
  pub tells_one_from : TellsOne old clock from one_from
  pub tells_one_to : TellsOne old clock to one_to
  pub tells_ten_from : TellsTen old clock from ten_from
  pub tells_ten_to : TellsTen old clock to ten_to
  pub tells_three : BreaksState w what three
  pub tells_two_from : TellsOne old counts from two_from
  pub adds_from : HaveOneMore old (OfQueue q n) from mid
  pub tells_two_to : TellsOne mid counts to two_to
  pub adds_to : HaveOneMore mid (OfQueue q n) to new

module _ (w : World) (made : List Touch) (joint counts : Clock) (q n : ℕ) (s : Scoped) (h : InScope w made joint counts q n s) where
  -- B1, B10 and B2 of an access, as the tables tell them
  told_one : (all : List (List SubTables)) (clock : Clock) (a : WordAccess) (x : Access) (b : Bool) → clock ≡ with_op joint q n → IsSized (length w.queues) (length w.scripts) clock →
      touch_by (OfQueue q n) a ≡ touch_of (OfQueue q n) x → AreAllTied (made ++ s.touched) all → TellsOne all clock a b → b ≡ breaks_one joint made (touch_of (OfQueue q n) x)
  told_one all clock a x b e z t tied tells =
      tells (OfQueue q n) (made ++ s.touched) tied (subst (λ k. OfQueues k (made ++ s.touched)) (sym z.queues_are) (of_queues w made joint counts q n s h))
      ∙ (ap (λ c. breaks_one c (made ++ s.touched) (touch_by (OfQueue q n) a)) e
      ∙ (one_in_scope w made joint counts q n s h (touch_by (OfQueue q n) a) ∙ ap (breaks_one joint made) t))

  told_ten : (all : List (List SubTables)) (clock : Clock) (a : WordAccess) (x : Access) (b : Bool) → clock ≡ with_op joint q n → IsSized (length w.queues) (length w.scripts) clock →
      touch_by (OfQueue q n) a ≡ touch_of (OfQueue q n) x → AreAllTied (made ++ s.touched) all → TellsTen all clock a b → b ≡ breaks_ten joint made (touch_of (OfQueue q n) x)
  told_ten all clock a x b e z t tied tells =
      tells (OfQueue q n) (made ++ s.touched) tied (subst (λ k. OfThreads k (made ++ s.touched)) (sym z.threads_are) (of_threads w made joint counts q n s h))
      ∙ (ap (λ c. breaks_ten c (made ++ s.touched) (touch_by (OfQueue q n) a)) e
      ∙ (ten_in_scope w made joint counts q n s h (touch_by (OfQueue q n) a) ∙ ap (breaks_ten joint made) t))

  told_two : (all : List (List SubTables)) (a : WordAccess) (x : Access) (b : Bool) → IsSized (length w.queues) (length w.scripts) counts →
      touch_by (OfQueue q n) a ≡ touch_of (OfQueue q n) x → AreAllTied (made ++ s.touched) all → TellsOne all counts a b → b ≡ list_any (uncovers part.Copy x) s.opened
  told_two all a x b z t tied tells =
      tells (OfQueue q n) (made ++ s.touched) tied (subst (λ k. OfQueues k (made ++ s.touched)) (sym z.queues_are) (of_queues w made joint counts q n s h))
      ∙ (ap (breaks_one counts (made ++ s.touched)) t ∙ two_in_scope w made joint counts q n s h (OfQueue q n) part.Copy x)

touch_read : (x : Act) (what : Record) → touch_by x (words_from what) ≡ touch_of x (copied_from (range_by (words_from what)))
touch_read x (Copy d doff s soff bytes) = refl

touch_written : (x : Act) (what : Record) → touch_by x (words_to what) ≡ touch_of x (copied_to (range_by (words_to what)))
touch_written x (Copy d doff s soff bytes) = refl

pub command_is : (what : Record) → command_of what ≡ Accesses part.Copy (copy_accesses what)
command_is (Copy d doff s soff bytes) = refl

or_both : (a b x y : Bool) → a ≡ x → b ≡ y → (a || b) ≡ (x || y)
or_both a b x y e f = rw e (rw f refl)

module _ (w : World) (old mid new : List (List SubTables)) (clock counts : Clock) (q n : ℕ) (what : Record) (a : Asked w old mid new clock counts q n what)
    (made : List Touch) (s : Scoped) (joint : Clock) (e : clock ≡ with_op joint q n) (clean : s.broken ≡ None) (h : InScope w made joint counts q n s) (tied : AreAllTied (made ++ s.touched) old) where
  abbrev from : Access
  from = copied_from (range_by (words_from what))

  abbrev to : Access
  to = copied_to (range_by (words_to what))

  from_touch : touch_by (OfQueue q n) a.from ≡ touch_of (OfQueue q n) from
  from_touch = ap (touch_by (OfQueue q n)) a.from_is ∙ touch_read (OfQueue q n) what

  to_touch : touch_by (OfQueue q n) a.to ≡ touch_of (OfQueue q n) to
  to_touch = ap (touch_by (OfQueue q n)) a.to_is ∙ touch_written (OfQueue q n) what

  -- the scope with the access that reads, before the one that writes
  abbrev between : Scoped
  between = scope_command (setting_of w) (OfQueue q n) s (Accesses part.Copy (from ∷ []))

  in_between : InScope w made joint counts q n between
  in_between = goes_on w made joint counts q n s h (setting_of w) part.Copy (from ∷ [])

  tied_between : AreAllTied (made ++ between.touched) mid
  tied_between =
      subst (λ ts. AreAllTied ts mid) (append_assoc made s.touched (touch_of (OfQueue q n) from ∷ []))
      (subst (λ t. AreAllTied ((made ++ s.touched) ++ t ∷ []) mid) from_touch (a.adds_from (made ++ s.touched) tied))

  tied_after : AreAllTied (made ++ (s.touched ++ touch_of (OfQueue q n) from ∷ touch_of (OfQueue q n) to ∷ [])) new
  tied_after =
      subst (λ ts. AreAllTied (made ++ ts) new) (append_assoc s.touched (touch_of (OfQueue q n) from ∷ []) (touch_of (OfQueue q n) to ∷ []))
      (subst (λ ts. AreAllTied ts new) (append_assoc made between.touched (touch_of (OfQueue q n) to ∷ []))
      (subst (λ t. AreAllTied ((made ++ between.touched) ++ t ∷ []) new) to_touch (a.adds_to (made ++ between.touched) tied_between)))

  tests : Tests w made joint counts q n s h clean from to (a.one_from || a.one_to) (a.two_from || a.two_to) a.three (a.ten_from || a.ten_to)
  tests = record {
    one_is = or_both a.one_from a.one_to _ _ (told_one w made joint counts q n s h old clock a.from from a.one_from e a.clock_sized from_touch tied a.tells_one_from)
        (told_one w made joint counts q n s h old clock a.to to a.one_to e a.clock_sized to_touch tied a.tells_one_to);
    two_is = or_both a.two_from a.two_to _ _ (told_two w made joint counts q n s h old a.from from a.two_from a.counts_sized from_touch tied a.tells_two_from)
        (told_two w made joint counts q n between in_between mid a.to to a.two_to a.counts_sized to_touch tied_between a.tells_two_to);
    three_is = a.tells_three s.layouts;
    ten_is = or_both a.ten_from a.ten_to _ _ (told_ten w made joint counts q n s h old clock a.from from a.ten_from e a.clock_sized from_touch tied a.tells_ten_from)
        (told_ten w made joint counts q n s h old clock a.to to a.ten_to e a.clock_sized to_touch tied a.tells_ten_to);
  }

  pub judged_one : (r : Option Rule) → r ≡ least_of (a.one_from || a.one_to) (a.two_from || a.two_to) a.three (a.ten_from || a.ten_to) → AreJudged w made joint counts q n s (what ∷ []) new r
  judged_one r is =
      let p : AreJudgedParts w made joint counts q n s h clean (from ∷ to ∷ []) r =
      next_scope w made joint counts q n s h clean (from ∷ to ∷ []) r (is ∙ rule_is w made joint counts q n s h clean from to _ _ _ _ tests) in
      let c : Accesses part.Copy (from ∷ to ∷ []) ≡ command_of what = sym (command_is what) in
      let after : (r ≡ None) → scope_all (setting_of w) made joint (OfQueue q n) s (command_of what ∷ []) ≡ scope_command (setting_of w) (OfQueue q n) s (Accesses part.Copy (from ∷ to ∷ [])) =
      λ none. ap (λ x. scope_all (setting_of w) made joint (OfQueue q n) s (x ∷ [])) (sym c) ∙ p.after none in
      record {
        rule = p.broken ∙ ap (λ x. (scope_all (setting_of w) made joint (OfQueue q n) s (x ∷ [])).broken) c;
        scope = λ none. subst (InScope w made joint counts q n) (sym (after none)) (goes_on w made joint counts q n s h (setting_of w) part.Copy (from ∷ to ∷ []));
        ties = λ none. subst (λ (u : Scoped). AreAllTied (made ++ u.touched) new) (sym (after none)) tied_after;
      }

-- copies that break nothing, and one copy more
pub judged_more : (w : World) (old mid new : List (List SubTables)) (clock counts : Clock) (q n : ℕ) (whats : List Record) (what : Record) (r : Option Rule) →
    JudgesCopies w old clock counts q n whats mid None → JudgesCopies w mid clock counts q n (what ∷ []) new r → JudgesCopies w old clock counts q n (whats ++ what ∷ []) new r
judged_more w old mid new clock counts q n whats what r first next made s joint e clean h tied =
    let f : AreJudged w made joint counts q n s whats mid None = first made s joint e clean h tied in
    let u : Scoped = scope_all (setting_of w) made joint (OfQueue q n) s (map command_of whats) in
    let g : AreJudged w made joint counts q n u (what ∷ []) new r = next made u joint e (sym f.rule) (f.scope refl) (f.ties refl) in
    let is : scope_all (setting_of w) made joint (OfQueue q n) s (map command_of (whats ++ what ∷ [])) ≡ scope_all (setting_of w) made joint (OfQueue q n) u (map command_of (what ∷ [])) =
    ap (scope_all (setting_of w) made joint (OfQueue q n) s) (map_one command_of whats what) ∙ scope_append (setting_of w) made joint (OfQueue q n) s (map command_of whats) (command_of what ∷ []) in
    record {
      rule = g.rule ∙ sym (ap (λ (x : Scoped). x.broken) is);
      scope = λ none. subst (InScope w made joint counts q n) (sym is) (g.scope none);
      ties = λ none. subst (λ (x : Scoped). AreAllTied (made ++ x.touched) new) (sym is) (g.ties none);
    }

-- no copy
pub judged_none : (w : World) (all : List (List SubTables)) (clock counts : Clock) (q n : ℕ) → JudgesCopies w all clock counts q n [] all None
judged_none w all clock counts q n made s joint e clean h tied = record { rule = sym clean; scope = λ none. h; ties = λ none. tied }

map_append : {A B : Type 0} (f : A → B) (xs ys : List A) → map f (xs ++ ys) ≡ map f xs ++ map f ys
map_append f [] ys = refl
map_append f (x ∷ xs) ys = ap (λ t. f x ∷ t) (map_append f xs ys)

-- copies that break a rule, and whatever comes behind them
pub judged_broken : (w : World) (old new : List (List SubTables)) (clock counts : Clock) (q n : ℕ) (whats rest : List Record) (r : Option Rule) → is_some r ≡ true →
    JudgesCopies w old clock counts q n whats new r → JudgesCopies w old clock counts q n (whats ++ rest) new r
judged_broken w old new clock counts q n whats rest None some first made s joint e clean h tied = cc
judged_broken w old new clock counts q n whats rest (Some r) some first made s joint e clean h tied =
    let f : AreJudged w made joint counts q n s whats new (Some r) = first made s joint e clean h tied in
    record {
      rule = sym (ap (λ (x : Scoped). x.broken) (ap (scope_all (setting_of w) made joint (OfQueue q n) s) (map_append command_of whats rest)
          ∙ scope_append (setting_of w) made joint (OfQueue q n) s (map command_of whats) (map command_of rest))
          ∙ stuck (setting_of w) made joint (OfQueue q n) (scope_all (setting_of w) made joint (OfQueue q n) s (map command_of whats)) r (map command_of rest) (sym f.rule));
      scope = λ none. absurd (not_none r none);
      ties = λ none. absurd (not_none r none);
    }
  where
    not_none : (r : Rule) → Some r ≡ None → ⊥
    not_none r e = cc

-- B3 of a copy, whatever the layouts
pub state_told : (w : World) (what : Record) (b x y : Bool) → x ≡ refuses_kind (resource_of w (words_from what).resource) kind.CopySource → y ≡ refuses_kind (resource_of w (words_to what).resource) kind.CopyDest →
    b ≡ (nat_lt 0 (words_from what).words && (x || y)) → BreaksState w what b
state_told w (Copy d doff s soff bytes) b x y hx hy hb layouts =
    hb ∙ (both_tests (nat_lt 0 (bytes / 4)) x y
    ∙ or_both (nat_lt 0 (bytes / 4) && x) ((nat_lt 0 (bytes / 4) && y) || false) _ _
    (ap (λ z. nat_lt 0 (bytes / 4) && z) (hx ∙ read_is))
    (ap (λ z. (nat_lt 0 (bytes / 4) && z) || false) (hy ∙ written_is)))
  where
    read_is : refuses_kind (resource_of w s.0) kind.CopySource ≡ not (traits_allow (traits_at (setting_of w) s.0) (layout_at layouts (range_by (words_from (Copy d doff s soff bytes)))) kind.CopySource)
    read_is =
        sym (any_layout (resource_of w s.0) kind.CopySource (layout_at layouts (range_by (words_from (Copy d doff s soff bytes)))))
        ∙ ap (λ t. not (traits_allow t (layout_at layouts (range_by (words_from (Copy d doff s soff bytes)))) kind.CopySource)) (sym (traits_is w.resources s.0))

    written_is : refuses_kind (resource_of w d.0) kind.CopyDest ≡ not (traits_allow (traits_at (setting_of w) d.0) (layout_at layouts (range_by (words_to (Copy d doff s soff bytes)))) kind.CopyDest)
    written_is =
        sym (any_layout (resource_of w d.0) kind.CopyDest (layout_at layouts (range_by (words_to (Copy d doff s soff bytes)))))
        ∙ ap (λ t. not (traits_allow t (layout_at layouts (range_by (words_to (Copy d doff s soff bytes)))) kind.CopyDest)) (sym (traits_is w.resources d.0))

-- the words of a buffer, as what the rules read tells them
pub words_are : (w : World) (r : ℕ) → words_at (map traits_of w.resources) r 0 ≡ words_in w r
words_are w r = ap (λ t. item_or 0 t.subs 0) (traits_is w.resources r) ∙ of_resource (resource_of w r)
  where
    of_resource : (o : Option Resource) → item_or 0 (traits_of o).subs 0 ≡ elim o [ None ↦ 0 | Some b ↦ words_of_resource b ]
    of_resource None = refl
    of_resource (Some (Buffer h n)) = refl

-- the first commands, and one more
pub judged_next : (w : World) (old mid new : List (List SubTables)) (clock counts : Clock) (q n : ℕ) (cs : List Recorded) (i : ℕ) (d : Recorded) (r : Option Rule) → i < length cs →
    JudgesCopies w old clock counts q n (map (λ c. c.what) (take i cs)) mid None → JudgesCopies w mid clock counts q n ((get_or cs i d).what ∷ []) new r →
    JudgesCopies w old clock counts q n (map (λ c. c.what) (take (i + 1) cs)) new r
judged_next w old mid new clock counts q n cs i d r l first next =
    subst (λ xs. JudgesCopies w old clock counts q n xs new r) (sym (ap (map (λ (c : Recorded). c.what)) (take_more cs i d l) ∙ map_one (λ (c : Recorded). c.what) (take i cs) (get_or cs i d)))
    (judged_more w old mid new clock counts q n (map (λ c. c.what) (take i cs)) (get_or cs i d).what r first next)

-- the first commands that break a rule tell of all
pub judged_all : (w : World) (old new : List (List SubTables)) (clock counts : Clock) (q n : ℕ) (cs : List Recorded) (k : ℕ) (r : Option Rule) → is_some r ≡ true →
    JudgesCopies w old clock counts q n (map (λ c. c.what) (take k cs)) new r → JudgesCopies w old clock counts q n (map (λ c. c.what) cs) new r
judged_all w old new clock counts q n cs k r some first =
    subst (λ xs. JudgesCopies w old clock counts q n xs new r) (sym (map_append (λ (c : Recorded). c.what) (take k cs) (drop k cs)) ∙ ap (map (λ (c : Recorded). c.what)) (take_drop cs k))
    (judged_broken w old new clock counts q n (map (λ c. c.what) (take k cs)) (map (λ c. c.what) (drop k cs)) r some first)

-- no rule is found
pub none_left : (r : Option Rule) → is_some r ≡ false → r ≡ None
none_left None e = refl
none_left (Some r) e = cc
