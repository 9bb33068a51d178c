-- What batches know splits.
use Rattle.std.specs.Prelude.{nat_le}
use Rattle.std.specs.List.{list_any}
use Rattle.std.proofs.lemmas.Option.{none-some}
use Rattle.std.proofs.lemmas.Bool.{or_cases, and_parts, eqb-true, false≢true}
use Rattle.std.proofs.Common.{sym, ap, ◌∙◌, ◌&&◌, ℕ, zero, suc, ◌≤◌, ◌<◌, ◌≡◌, ◌==◌, ◌⊎◌, List, [], ◌∷◌, ◌++◌, refl, arith, inl, inr, cond, max, true, false, Bool, Some, slice_get, subst, Option, unwrap_or}
use Rattle.vk_types.specs.declared.batches.Batch.{Batch}
use Rattle.vk_sync_rules.specs.Knowledge.{AllObey, Doing, IsAfter, IsAmong, IsKnown, KeepsKnown, IsUpToDate, Knows, Obeys, Seen, each_of, is_known, join, known, only, seen, seens, sets_for, value_in}
use Rattle.dx_base.specs.Each.{Each}
use Rattle.dx_base.proofs.Each.{each_append, each_got}

value_join : (a b : List ℕ) (t : ℕ) → value_in (join a b) t ≡ max (value_in a t) (value_in b t)
value_join [] b t = omega arith
value_join (x ∷ a) [] t = omega arith
value_join (x ∷ a) (y ∷ b) zero = refl
value_join (x ∷ a) (y ∷ b) (suc t) = value_join a b t

-- a join knows only what one of the two knows
pub knows_join : (a b : List ℕ) (t v : ℕ) → Knows (join a b) t v → Knows a t v ⊎ Knows b t v
knows_join a b t v k = grind (arith, value_join a b t, k)

knows_only : (s x t v : ℕ) → 0 < v → Knows (only s x) t v → (s ≡ t) × (v ≤ x)
knows_only zero x zero v pos k = (refl, k)
knows_only zero x (suc t) v pos k = absurd (omega (arith, pos, k))
knows_only (suc s) x zero v pos k = absurd (omega (arith, pos, k))
knows_only (suc s) x (suc t) v pos k = let e = knows_only s x t v pos k in let same = e.0 in (omega (arith, same), e.1)

among_more : (t v : ℕ) (s : ℕ × ℕ) (ss : List (ℕ × ℕ)) → IsAmong t v ss → IsAmong t v (s ∷ ss)
among_more t v s ss is = record { place = suc is.place; pair = is.pair; there = is.there; timeline = is.timeline; value = is.value }

pub knows_each : (ss : List (ℕ × ℕ)) (t v : ℕ) → 0 < v → Knows (each_of ss) t v → IsAmong t v ss
knows_each [] t v pos k = absurd (omega (arith, pos, k))
knows_each (s ∷ ss) t v pos k = elim (knows_join (only s.0 s.1) (each_of ss) t v k) [
  | inl here ↦ let e = knows_only s.0 s.1 t v pos here in record { place = 0; pair = s; there = refl; timeline = e.0; value = e.1 }
  | inr there ↦ among_more t v s ss (knows_each ss t v pos there)
]

known_more : (t v : ℕ) (b : Batch) (e : Seen) (es : List Seen) → IsKnown t v b es → IsKnown t v b (e ∷ es)
known_more t v b e es k = record { place = suc k.place; earlier = k.earlier; there = k.there; is = k.is; knows = k.knows }

known_here : (test : Bool) (t v : ℕ) (b : Batch) (e : Seen) (es : List Seen) → is_known b e.batch ≡ test → 0 < v → Knows (cond test e.clock []) t v → IsKnown t v b (e ∷ es)
known_here true t v b e es is pos k = record { place = 0; earlier = e; there = refl; is = is; knows = k }
known_here false t v b e es is pos k = absurd (omega (arith, pos, k))

pub knows_known : (b : Batch) (es : List Seen) (t v : ℕ) → 0 < v → Knows (known b es) t v → IsKnown t v b es
knows_known b [] t v pos k = absurd (omega (arith, pos, k))
knows_known b (e ∷ es) t v pos k = elim (knows_join (cond (is_known b e.batch) e.clock []) (known b es) t v k) [
  | inl here ↦ known_here (is_known b e.batch) t v b e es refl pos here
  | inr there ↦ known_more t v b e es (knows_known b es t v pos there)
]

-- what a batch knows splits
pub seen_splits : (es : List Seen) (b : Batch) (t v : ℕ) → 0 < v → Knows (seen es b).clock t v → IsAmong t v b.sets ⊎ (IsAmong t v b.waits ⊎ IsKnown t v b es)
seen_splits es b t v pos k = elim (knows_join (each_of b.sets) (join (each_of b.waits) (known b es)) t v k) [
  | inl sets ↦ inl (knows_each b.sets t v pos sets)
  | inr rest ↦ elim (knows_join (each_of b.waits) (known b es) t v rest) [
    | inl waits ↦ inr (inl (knows_each b.waits t v pos waits))
    | inr others ↦ inr (inr (knows_known b es t v pos others))
  ]
]

-- a join knows what either of the two knows
join_left : (a b : List ℕ) (t v : ℕ) → Knows a t v → Knows (join a b) t v
join_left a b t v k = grind (arith, value_join a b t, k)

join_right : (a b : List ℕ) (t v : ℕ) → Knows b t v → Knows (join a b) t v
join_right a b t v k = grind (arith, value_join a b t, k)

only_knows : (t v : ℕ) → Knows (only t v) t v
only_knows zero v = omega arith
only_knows (suc t) v = only_knows t v

each_knows : (ss : List (ℕ × ℕ)) (k : ℕ) (s : ℕ × ℕ) → slice_get ss k ≡ Some s → Knows (each_of ss) s.0 s.1
each_knows [] zero s h = absurd (none-some s h)
each_knows [] (suc k) s h = absurd (none-some s h)
each_knows (x ∷ ss) zero s h = subst (λ (y : ℕ × ℕ). Knows (join (only x.0 x.1) (each_of ss)) y.0 y.1) (ap (λ (o : Option (ℕ × ℕ)). unwrap_or o x) h) (join_left (only x.0 x.1) (each_of ss) x.0 x.1 (only_knows x.0 x.1))
each_knows (x ∷ ss) (suc k) s h = join_right (only x.0 x.1) (each_of ss) s.0 s.1 (each_knows ss k s h)

known_knows : (b : Batch) (es : List Seen) (t v k : ℕ) (e : Seen) → slice_get es k ≡ Some e → is_known b e.batch ≡ true → Knows e.clock t v → Knows (known b es) t v
known_knows b [] t v zero e h is knows = absurd (none-some e h)
known_knows b [] t v (suc k) e h is knows = absurd (none-some e h)
known_knows b (x ∷ es) t v zero e h is knows =
    let same : x ≡ e = ap (λ (o : Option Seen). unwrap_or o x) h in
    join_left (cond (is_known b x.batch) x.clock []) (known b es) t v
    (subst (λ (y : Seen). Knows (cond (is_known b y.batch) y.clock []) t v) (sym same) (subst (λ u. Knows (cond u e.clock []) t v) (sym is) knows))
known_knows b (x ∷ es) t v (suc k) e h is knows = join_right (cond (is_known b x.batch) x.clock []) (known b es) t v (known_knows b es t v k e h is knows)

pub seen_keeps : (es : List Seen) (b : Batch) → KeepsKnown es b
seen_keeps es b = record {
  sets = λ k s h. join_left (each_of b.sets) (join (each_of b.waits) (known b es)) s.0 s.1 (each_knows b.sets k s h);
  waits = λ k w h. join_right (each_of b.sets) (join (each_of b.waits) (known b es)) w.0 w.1 (join_left (each_of b.waits) (known b es) w.0 w.1 (each_knows b.waits k w h));
  earlier = λ t v is. join_right (each_of b.sets) (join (each_of b.waits) (known b es)) t v (join_right (each_of b.waits) (known b es) t v (known_knows b es t v is.place is.earlier is.there is.is is.knows));
}

-- one more batch
pub seen_goes_on : (es : List Seen) (bs : List Batch) (b : Batch) → seens es (bs ++ b ∷ []) ≡ seens es bs ++ seen (seens es bs) b ∷ []
seen_goes_on es [] b = refl
seen_goes_on es (c ∷ bs) b = seen_goes_on (es ++ seen es c ∷ []) bs b

-- an item that a test holds of
pub any_at : {A : Type 0} (f : A → Bool) (xs : List A) → list_any f xs ≡ true → (i : ℕ) × (x : A) × (slice_get xs i ≡ Some x) × (f x ≡ true)
any_at f [] h = absurd (false≢true h)
any_at f (x ∷ xs) h = elim (or_cases (f x) (list_any f xs) h) [
  | inl here ↦ (0, x, refl, here)
  | inr there ↦ let e = any_at f xs there in (suc e.0, e.1, e.2, e.3)
]

module _ (d : Doing) where
  -- an earlier batch that sets what a later one waited for has ended
  was_ended : (b e : Batch) → Obeys d b → Obeys d e → d.passed b → sets_for b.waits e ≡ true → d.ended e
  was_ended b e ob oe passed h =
      let w = any_at (λ (w : ℕ × ℕ). list_any (λ (s : ℕ × ℕ). (s.0 == w.0) && nat_le s.1 w.1) e.sets) b.waits h in
      let s = any_at (λ (s : ℕ × ℕ). (s.0 == w.1.0) && nat_le s.1 w.1.1) e.sets w.3 in
      let parts = and_parts (s.1.0 == w.1.0) (nat_le s.1.1 w.1.1) s.3 in
      let same : s.1.0 ≡ w.1.0 = eqb-true s.1.0 w.1.0 parts.0 in
      let reached : w.1.1 ≤ d.counter w.1.0 = ob.waited passed w.1.0 w.1.1 (record { place = w.0; pair = w.1; there = w.2; timeline = refl; value = omega arith }) in
      let at : d.counter s.1.0 ≡ d.counter w.1.0 = ap d.counter same in
      oe.was_ended s.1 s.0 s.2 (let le = parts.1 in grind (arith, reached, at, le))

  up_to_date : (es : List Seen) (b : Batch) → Obeys d b → (d.ended b → d.passed b) → Each (λ e. Obeys d e.batch × IsAfter d b e.batch) es → Each (IsUpToDate d) es → IsUpToDate d (seen es b)
  up_to_date es b obeys both others all = record {
    passed = λ passed t v pos knows. elim (seen_splits es b t v pos knows) [
      | inl sets ↦ inl (obeys.owned t v sets)
      | inr rest ↦ elim rest [
        | inl waits ↦ inr (obeys.waited passed t v waits)
        | inr known ↦ elim (or_cases (known.earlier.batch.queue == b.queue) (sets_for b.waits known.earlier.batch) known.is) [
          | inl same ↦ by_owner known.earlier.batch t v (eqb-true known.earlier.batch.queue b.queue same)
              ((each_got (IsUpToDate d) es known.place known.earlier all known.there).passed ((at known).1.passes (eqb-true known.earlier.batch.queue b.queue same) passed) t v pos known.knows)
          | inr sets ↦ inr ((each_got (IsUpToDate d) es known.place known.earlier all known.there).ended (was_ended b known.earlier.batch obeys (at known).0 passed sets) t v pos known.knows)
        ]
      ]
    ];
    ended = λ ended t v pos knows. elim (seen_splits es b t v pos knows) [
      | inl sets ↦ obeys.has_set ended t v sets
      | inr rest ↦ elim rest [
        | inl waits ↦ obeys.waited (both ended) t v waits
        | inr known ↦ elim (or_cases (known.earlier.batch.queue == b.queue) (sets_for b.waits known.earlier.batch) known.is) [
          | inl same ↦ (each_got (IsUpToDate d) es known.place known.earlier all known.there).ended ((at known).1.ends (eqb-true known.earlier.batch.queue b.queue same) ended) t v pos known.knows
          | inr sets ↦ (each_got (IsUpToDate d) es known.place known.earlier all known.there).ended (was_ended b known.earlier.batch obeys (at known).0 (both ended) sets) t v pos known.knows
        ]
      ]
    ];
  } where
    at : {t v : ℕ} (known : IsKnown t v b es) → Obeys d known.earlier.batch × IsAfter d b known.earlier.batch
    at known = each_got (λ e. Obeys d e.batch × IsAfter d b e.batch) es known.place known.earlier others known.there

    by_owner : (e : Batch) (t v : ℕ) → e.queue ≡ b.queue → (d.owner t ≡ e.queue) ⊎ (v ≤ d.counter t) → (d.owner t ≡ b.queue) ⊎ (v ≤ d.counter t)
    by_owner e t v same h = elim h [ inl o ↦ inl (o ∙ same) | inr le ↦ inr le ]

  -- what batches know is done
  pub all_up_to_date : (es : List Seen) (bs : List Batch) → AllObey d es bs → Each (IsUpToDate d) es → Each (IsUpToDate d) (seens es bs)
  all_up_to_date es [] obey all = all
  all_up_to_date es (b ∷ bs) obey all = all_up_to_date (es ++ seen es b ∷ []) bs obey.3 (each_append (IsUpToDate d) es (seen es b ∷ []) all (up_to_date es b obey.0 obey.1 obey.2 all, tt))
