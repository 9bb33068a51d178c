-- Each access keeps its maker along a run.
use Rattle.std.proofs.Common.{◌≡◌, ℕ, ◌==◌, ◌∙◌, Bool, true, false, ◌&&◌, List, [], ◌∷◌, ◌++◌, map, length, refl, sym, ap, subst, arith, Option, Some, eq-eqb}
use Rattle.std.proofs.lemmas.Bool.{and_from, or_right, or_left, true≢false}
use Rattle.std.proofs.lemmas.Option.{none-some}
use Rattle.vk_types.specs.declared.accesses.Accesses.{Accesses}
use Rattle.vk_types.specs.declared.batches.Batch.{Batch}
use Rattle.vk_types.specs.declared.commands.VkCommand.{VkCommand}
use Rattle.vk_types.specs.declared.commands.VkCommand.TheVariants.{Barrier, Copy, CopyImage, CopyIn, CopyOut, Clear, Dispatch}
use Rattle.vk_types.specs.declared.layouts.Change.{Change}
use Rattle.vk_types.specs.declared.stages.Stages.{Stages}
use Rattle.vk_types.specs.declared.steps.VkStep.{VkStep}
use Rattle.vk_types.specs.declared.steps.VkStep.TheVariants.{Submit, Pass, Command, Bump, HostWrite, HostRead, Update}
use Rattle.vk_types.specs.Stages.{meets}
use Rattle.vk_sync_rules.proofs.Barriers.{IsIn, by_self, fresh_access, new_host, new_made}
use Rattle.vk_sync_rules.proofs.Growth.{grows_where, grows_command, grows_bump}
use Rattle.vk_sync_rules.proofs.Soundness.{enabled_command, same_item, still_in}
use Rattle.vk_sync_rules.specs.AccessSets.{share}
use Rattle.vk_sync_rules.specs.DoneAccesses.{after_bump, after_pass, after_submit, is_covered, is_ended, is_host}
use Rattle.vk_sync_rules.specs.EnabledSteps.{is_enabled}
use Rattle.vk_sync_rules.specs.Growth.{Grows}
use Rattle.vk_sync_rules.specs.Makers.{HasOwner, IsChanged, IsOwned}
use Rattle.vk_sync_rules.specs.NextState.{after_run, change_made, host_access, kept_by, made_at, moved}
use Rattle.vk_sync_rules.specs.Orders.{sort_of}
use Rattle.vk_sync_rules.specs.Places.{is_by}
use Rattle.vk_sync_rules.specs.Rules.{after_step, after_steps}
use Rattle.vk_sync_rules.specs.Runs.{Runs}
use Rattle.vk_sync_rules.specs.VkState.{VkState, command_at, command_in, is_done, is_same, batch_in}
use Rattle.vk_sync_rules.specs.declared.accesses.DoneAccess.{DoneAccess}
use Rattle.vk_sync_rules.specs.declared.accesses.Maker.{Maker}
use Rattle.vk_sync_rules.specs.declared.counts.Done.{Done}
use Rattle.vk_sync_rules.specs.declared.places.Place.{Place}
use Rattle.dx_base.specs.Each.{Each}
use Rattle.dx_base.proofs.Each.{each_map, each_append}
use Rattle.vk_sync_rules.specs.Makers.{AreOwned, IsOfPiece}
use Rattle.vk_sync_rules.specs.Commands.{pieces, subs_of}
use Rattle.vk_sync_rules.specs.Pieces.{Piece}
use Rattle.vk_sync_rules.specs.AccessSets.{is_some_access}
use Rattle.vk_types.specs.declared.plan.DevicePlan.{DevicePlan}
use Rattle.std.specs.Prelude.{cond}
use Rattle.vk_sync_rules.specs.AccessSets.{no_stages}
use Rattle.vk_sync_rules.specs.NextState.{maker_of}

-- an access that has grown keeps its piece
piece_on : (ps : List Piece) (r s : DoneAccess) → Grows r s → IsOfPiece ps r → IsOfPiece ps s
piece_on ps r s g is = record {
  place = is.place;
  piece = is.piece;
  there = is.there;
  range = g.range ∙ is.range;
  access = g.access ∙ (is.access ∙ ap (λ t. cond t is.piece.writes is.piece.reads) (sym g.writes));
  some = ap is_some_access g.access ∙ is.some;
}

-- an access that has grown keeps its owner
owned_on : (plan : DevicePlan) (done more : List Done) (journal later : List Batch) → ((q : ℕ) (p : Place) → is_done done q p ≡ true → is_done more q p ≡ true) →
    ((q : ℕ) (p : Place) (c : VkCommand) → command_in (batch_in q p.number journal) p.index ≡ Some c → command_in (batch_in q p.number later) p.index ≡ Some c) →
    (r s : DoneAccess) → Grows r s → HasOwner plan done journal r → HasOwner plan more later s
owned_on plan done more journal later keep stay r s g is = record {
  host = λ e w. g.stays (is.host (sym g.by ∙ e) (sym g.writes ∙ w));
  own = λ m e. let o = is.own m (sym g.by ∙ e) in record {
    is = keep m.queue m.place o.is;
    command = o.command;
    there = stay m.queue m.place o.command o.there;
    plain = o.plain;
    piece = λ work. let one = o.piece work in (one.0, piece_on (pieces plan one.0 o.command) r s g one.1);
    changed = λ from made to seen change e2. let ch = o.changed from made to seen change e2 in record {
      layout = ch.layout;
      is = ch.is;
      index = ch.index;
      sub = ch.sub;
      there = ch.there;
      range = g.range ∙ ch.range;
      writes = g.writes ∙ ch.writes;
      order = λ stages u. g.order m.queue stages m.place (ch.order stages u);
      reach = λ stages u. g.reach m.queue stages m.place (ch.reach stages u);
      sight = λ stages accesses u a. g.sight m.queue stages accesses m.place (ch.sight stages accesses u a);
    };
  };
}

-- what the host made has no owner
host_owned : (plan : DevicePlan) (done : List Done) (journal : List Batch) (writes : Bool) (buffer first count : ℕ) → HasOwner plan done journal (host_access writes buffer first count)
host_owned plan done journal writes buffer first count = record { own = λ m e. absurd (none-some m e); host = λ e w. w }

-- a layout change, as it is made
change_is : (v : VkState) (q : ℕ) (p : Place) (to : Stages) (seen : Accesses) (c : Change) (s : ℕ) → IsIn (subs_of v.plan c) s → IsChanged v.plan q p to seen (Some c) (change_made v q p to seen c.image s)
change_is v q p to seen c s at = record {
  layout = c;
  is = refl;
  index = at.0;
  sub = s;
  there = at.1;
  range = refl;
  writes = refl;
  order = λ stages u. or_left ((q == q) && (meets to stages && is_by p p)) false (gives stages u);
  reach = λ stages u. or_left (((q == q) && (meets to stages && is_by p p)) && true) false (and_from ((q == q) && (meets to stages && is_by p p)) true (gives stages u) refl);
  sight = λ stages accesses u a. or_left (((q == q) && (meets to stages && is_by p p)) && share seen accesses) false
      (and_from ((q == q) && (meets to stages && is_by p p)) (share seen accesses) (gives stages u) a);
} where
  gives : (stages : Stages) → meets to stages ≡ true → ((q == q) && (meets to stages && is_by p p)) ≡ true
  gives stages u = and_from (q == q) (meets to stages && is_by p p) (eq-eqb q q refl) (and_from (meets to stages) (is_by p p) u (by_self p))

same_barrier : (from : Stages) (made : Accesses) (to : Stages) (seen : Accesses) (change : Option Change) (f : Stages) (m2 : Accesses) (t : Stages) (s : Accesses) (c2 : Option Change) → Barrier from made to seen change ≡ Barrier f m2 t s c2 → (to ≡ t) × (seen ≡ s) × (change ≡ c2)
same_barrier from made to seen change f m2 t s c2 e = (ap to_of e, ap seen_of e, ap layout_of e) where
  layout_of : VkCommand → Option Change
  layout_of (Barrier a b c d g) = g
  layout_of (Copy a b c d g) = change
  layout_of (CopyImage a b c d g h) = change
  layout_of (CopyIn a b c d g h) = change
  layout_of (CopyOut a b c d g h) = change
  layout_of (Clear a b) = change
  layout_of (Dispatch a b c d g h) = change

  to_of : VkCommand → Stages
  to_of (Barrier a b c d g) = c
  to_of (Copy a b c d g) = to
  to_of (CopyImage a b c d g h) = to
  to_of (CopyIn a b c d g h) = to
  to_of (CopyOut a b c d g h) = to
  to_of (Clear a b) = to
  to_of (Dispatch a b c d g h) = to

  seen_of : VkCommand → Accesses
  seen_of (Barrier a b c d g) = d
  seen_of (Copy a b c d g) = seen
  seen_of (CopyImage a b c d g h) = seen
  seen_of (CopyIn a b c d g h) = seen
  seen_of (CopyOut a b c d g h) = seen
  seen_of (Clear a b) = seen
  seen_of (Dispatch a b c d g h) = seen

module _ (v : VkState) (all : AreOwned v) where
  owned_run : (q : ℕ) (p : Place) (loaded : List ℕ) (c : VkCommand) → command_at v q p ≡ Some c → Each (HasOwner v.plan (record { queue = q; place = p } ∷ v.done) v.journal) (map (kept_by q p c) v.accesses ++ made_at v q p loaded c)
  owned_run q p loaded c has =
      each_append H (map (kept_by q p c) v.accesses) (made_at v q p loaded c)
      (each_map (HasOwner v.plan v.done v.journal) H (kept_by q p c) (λ r is. owned_on v.plan v.done done v.journal v.journal (λ q2 p2 h. or_right (is_same q2 p2 here) (is_done v.done q2 p2) h) (λ q2 p2 c2 h. h) r (kept_by q p c r) (grows_command q p c r) is) v.accesses all)
      (new_made H v q p loaded c
      (λ work range writes access is. record {
        host = λ e w. absurd (none-some maker (sym e));
        own = λ m e. let same : maker ≡ m = same_item maker m e in subst (λ x. IsOwned v.plan done v.journal x (fresh_access q p c range writes access)) same (record {
          is = is_here;
          command = c;
          there = has;
          plain = λ w. refl;
          piece = λ w. (loaded, is);
          changed = λ from made to seen change e2. absurd (true≢false (sym (ap (λ x. (sort_of x).is_barrier) e2) ∙ work));
        });
      })
      (λ from made to seen change e s at. record {
        host = λ e4 w. absurd (none-some changer (sym e4));
        own = λ m e3. let same : changer ≡ m = same_item changer m e3 in subst (λ x. IsOwned v.plan done v.journal x (change_made v q p to seen change.image s)) same (record {
          is = is_here;
          command = c;
          there = has;
          plain = λ w. absurd (true≢false (sym (ap (λ x. (sort_of x).is_barrier) e) ∙ w));
          piece = λ w. absurd (true≢false (sym (ap (λ x. (sort_of x).is_barrier) e) ∙ w));
          changed = λ f m2 t2 s2 c2 e2. let both = same_barrier from made to seen (Some change) f m2 t2 s2 c2 (sym e ∙ e2) in
              subst (λ x. IsChanged v.plan q p x s2 c2 (change_made v q p to seen change.image s)) both.0
              (subst (λ x. IsChanged v.plan q p to x c2 (change_made v q p to seen change.image s)) both.1
              (subst (λ x. IsChanged v.plan q p to seen x (change_made v q p to seen change.image s)) both.2 (change_is v q p to seen change s at)));
        });
      }))
    where
      here : Done
      here = record { queue = q; place = p }

      done : List Done
      done = here ∷ v.done

      H : DoneAccess → Type 0
      H = HasOwner v.plan done v.journal

      maker : Maker
      maker = maker_of q p c

      changer : Maker
      changer = record { queue = q; place = p; stage = no_stages }

      is_here : is_done done q p ≡ true
      is_here = or_left (is_same q p here) (is_done v.done q p) (grind arith)

  owned_moved : (s : VkStep) → is_enabled v s ≡ true → Each (HasOwner (moved v s).plan (moved v s).done (moved v s).journal) (moved v s).accesses
  owned_moved (Submit b) h =
      each_map (HasOwner v.plan v.done v.journal) (HasOwner v.plan v.done (v.journal ++ b ∷ [])) (after_submit b.queue b.number)
      (λ r is. owned_on v.plan v.done v.done v.journal (v.journal ++ b ∷ []) (λ q p k. k) (λ q p c k. still_in q v.journal b p c k) r (after_submit b.queue b.number r) (grows_where (is_host r) b.queue _ _ _ r) is) v.accesses all
  owned_moved (Pass q n) h =
      each_map (HasOwner v.plan v.done v.journal) (HasOwner v.plan v.done v.journal) (after_pass q n _)
      (λ r is. owned_on v.plan v.done v.done v.journal v.journal (λ q p k. k) (λ q p c k. k) r (after_pass q n _ r) (grows_where (is_covered _ r.signals) q _ _ _ r) is) v.accesses all
  owned_moved (Command q n k loaded) h =
      let p : Place = record { number = n; index = k } in
      let e = enabled_command v q n k loaded h in
      subst (λ o. Each (HasOwner (after_run v q p loaded o).plan (after_run v q p loaded o).done (after_run v q p loaded o).journal) (after_run v q p loaded o).accesses) (sym e.2.1) (owned_run q p loaded e.2.0 e.2.1)
  owned_moved (Bump q n) h =
      each_map (HasOwner v.plan v.done v.journal) (HasOwner v.plan v.done v.journal) (after_bump q n _)
      (λ r is. owned_on v.plan v.done v.done v.journal v.journal (λ q p k. k) (λ q p c k. k) r (after_bump q n _ r) (grows_bump (is_ended q n r) q n _ r refl) is) v.accesses all
  owned_moved (HostWrite buffer first words) h = each_append (HasOwner v.plan v.done v.journal) v.accesses _ all (new_host (HasOwner v.plan v.done v.journal) v true buffer first (length words) (host_owned v.plan v.done v.journal true buffer first (length words)))
  owned_moved (HostRead buffer first words) h = each_append (HasOwner v.plan v.done v.journal) v.accesses _ all (new_host (HasOwner v.plan v.done v.journal) v false buffer first (length words) (host_owned v.plan v.done v.journal false buffer first (length words)))
  owned_moved (Update heap slot) h = all

pub owned_steps : (v : VkState) (ss : List VkStep) → AreOwned v → Runs v ss → AreOwned (after_steps v ss)
owned_steps v [] all runs = all
owned_steps v (s ∷ ss) all runs = owned_steps (after_step v s) ss (owned_moved v all s runs.0) runs.2
