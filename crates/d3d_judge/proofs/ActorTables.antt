-- Tables of actors tell as much of B1 and B10 as the list of all that was touched.
use Rattle.std.proofs.Common.{ℕ, zero, suc, ◌≡◌, ◌<◌, ◌≤◌, ◌+◌, ◌∙◌, ◌||◌, nat_lt, refl, ap, sym, subst, arith, List, [], ◌∷◌, ◌++◌, length, replicate, Bool, true, false, Option, Some, None, get_or, slice_get, slice_set, add-one, inl, inr, is_some}
use Rattle.std.proofs.lemmas.Bool.{cases_lt, cases_eq}
use Rattle.std.proofs.lemmas.List.{length-replicate}
use Rattle.dx_base.specs.Each.{Each}
use Rattle.dx_base.specs.Lists.{changed_at}
use Rattle.dx_base.proofs.Each.{each_append}
use Rattle.dx_base.proofs.Lists.{write_is_changed}
use Rattle.clocks.specs.declared.clock.Clock.{Clock}
use Rattle.clocks.specs.Clocks.{number}
use Rattle.word_trees.specs.Numbers.{within, most, raised}
use Rattle.word_trees.proofs.Numbers.{length_raised}
use Rattle.d3d_judge.specs.Carried.{item_or}
use Rattle.d3d_judge.specs.Commands.{Range}
use Rattle.d3d_judge.specs.Tables.{number_of, is_of_queue, is_of_thread, conflicts_in, table, unknown_in, any_below, AllInside, OfQueues, OfThreads}
use Rattle.d3d_judge.specs.Touches.{Touch, breaks_one, breaks_ten}
use Rattle.d3d_judge.specs.ActorTables.{above, actor_above, Tells, AreTied, raised_table, made_table, IsMade, AreMade}
use Rattle.d3d_judge.proofs.CarriedClocks.{number_is, item_got}
use Rattle.d3d_judge.proofs.Tables.{tie, table_append, any_same, queue_tells, thread_tells}

or_true : (b : Bool) → (b || true) ≡ true
or_true true = refl
or_true false = refl

nowhere : (k a b : ℕ) → b ≤ a → within k a b ≡ false
nowhere k a b l = grind (arith, l)

most_none : (k a b : ℕ) (zs : List ℕ) → b ≤ a → most k a b zs ≡ 0
most_none k a b [] l = refl
most_none k a b (z ∷ zs) l = rw (nowhere k a b l) (let h = most_none (suc k) a b zs l in omega (arith, h))

-- no number of no words is above another
pub none_above : (zs : List ℕ) (known first end : ℕ) → end ≤ first → false ≡ nat_lt known (most 0 first end zs)
none_above zs known first end l = rw (most_none 0 first end zs l) (grind arith)

raised_none : (k a b n : ℕ) (zs : List ℕ) → b ≤ a → raised k a b n zs ≡ zs
raised_none k a b n [] l = refl
raised_none k a b n (z ∷ zs) l = rw (nowhere k a b l) (ap (λ t. z ∷ t) (raised_none (suc k) a b n zs l))

-- raising no words changes nothing
pub none_raised : (zs : List ℕ) (first end n : ℕ) → end ≤ first → zs ≡ raised 0 first end n zs
none_raised zs first end n l = sym (raised_none 0 first end n zs l)

-- some place passes a test
pub any_hit : (n k : ℕ) (f : ℕ → Bool) → k < n → f k ≡ true → true ≡ any_below n f
any_hit zero k f l h = absurd (omega (arith, l))
any_hit (suc n) k f l h =
    elim (cases_lt k n) [
      | inl m ↦ rw (sym (any_hit n k f m h)) (sym (or_true (f n)))
      | inr m ↦ let e : n ≡ k = omega (arith, l, m) in rw (subst (λ y. f y ≡ true) (sym e) h) refl
    ]

next_missed : (k : ℕ) (f : ℕ → Bool) → any_below k f ≡ false → f k ≡ false → any_below (suc k) f ≡ false
next_missed k f a b = rw b a

-- one place more that does not pass
pub any_missed : (k : ℕ) (f : ℕ → Bool) → any_below k f ≡ false → f k ≡ false → any_below (k + 1) f ≡ false
any_missed k f a b = rw (add-one k) (next_missed k f a b)

none_unknown : (pick : Touch → Bool) (known : ℕ) (r : Range) (made : List Touch) → Each (λ m. pick m ≡ false) made → unknown_in pick known r made ≡ false
none_unknown pick known r [] h = refl
none_unknown pick known r (m ∷ ms) h = rw h.0 (none_unknown pick known r ms h.1)

-- one table, or none, tells of a range
told : (pick : Touch → Bool) (known : ℕ) (r : Range) (made : List Touch) (o : Option (List ℕ)) → Tells pick made o →
    unknown_in pick known r made ≡ above o known r.first (r.first + r.words)
told pick known r made None h = none_unknown pick known r made h
told pick known r made (Some zs) h = tie pick known r made (length zs) h.1 ∙ ap (λ y. nat_lt known (most 0 r.first (r.first + r.words) y)) (sym h.0)

-- B1 by the tables of all queues, and B10 by those of all threads
pub queues_tell : (n : ℕ) (clock : Clock) (made : List Touch) (t : Touch) (tables : List (Option (List ℕ))) → OfQueues n made →
    AreTied (λ q. conflicts_in (is_of_queue q) t.doing t.range.resource t.range.sub) made tables →
    breaks_one clock made t ≡ any_below n (actor_above tables clock.queues t.range.first (t.range.first + t.range.words))
queues_tell n clock made t tables o h =
    queue_tells n clock made t o
    ∙ any_same n _ (actor_above tables clock.queues t.range.first (t.range.first + t.range.words))
    (λ q. told (conflicts_in (is_of_queue q) t.doing t.range.resource t.range.sub) (number clock.queues q) t.range made (item_or None tables q) (h q))

pub threads_tell : (n : ℕ) (clock : Clock) (made : List Touch) (t : Touch) (tables : List (Option (List ℕ))) → OfThreads n made →
    AreTied (λ u. conflicts_in (is_of_thread u) t.doing t.range.resource t.range.sub) made tables →
    breaks_ten clock made t ≡ any_below n (actor_above tables clock.threads t.range.first (t.range.first + t.range.words))
threads_tell n clock made t tables o h =
    thread_tells n clock made t o
    ∙ any_same n _ (actor_above tables clock.threads t.range.first (t.range.first + t.range.words))
    (λ u. told (conflicts_in (is_of_thread u) t.doing t.range.resource t.range.sub) (number clock.threads u) t.range made (item_or None tables u) (h u))

-- a touch that is not picked changes no table
pub tells_missed : (pick : Touch → Bool) (made : List Touch) (t : Touch) (o : Option (List ℕ)) → pick t ≡ false → Tells pick made o → Tells pick (made ++ t ∷ []) o
tells_missed pick made t None e h = each_append (λ m. pick m ≡ false) made (t ∷ []) h (e, tt)
tells_missed pick made t (Some zs) e h =
    let one : table pick (made ++ t ∷ []) (replicate (length zs) 0) ≡ table pick made (replicate (length zs) 0) = table_append pick made t (replicate (length zs) 0) ∙ rw e refl in
    (h.0 ∙ sym one, each_append (λ m. pick m ≡ true → m.range.first + m.range.words ≤ length zs) made (t ∷ []) h.1 ((λ y. cc), tt))

-- a touch that is picked raises the table by its number
tells_hit : (pick : Touch → Bool) (made : List Touch) (t : Touch) (zs : List ℕ) → pick t ≡ true → t.range.first + t.range.words ≤ length zs → Tells pick made (Some zs) →
    Tells pick (made ++ t ∷ []) (Some (raised 0 t.range.first (t.range.first + t.range.words) (number_of t.act) zs))
tells_hit pick made t zs e l h =
    let end : ℕ = t.range.first + t.range.words in
    let len : length (raised 0 t.range.first end (number_of t.act) zs) ≡ length zs = length_raised 0 t.range.first end (number_of t.act) zs in
    let one : table pick (made ++ t ∷ []) (replicate (length zs) 0) ≡ raised 0 t.range.first end (number_of t.act) (table pick made (replicate (length zs) 0)) =
    table_append pick made t (replicate (length zs) 0) ∙ rw e refl in
    let is : raised 0 t.range.first end (number_of t.act) zs ≡ table pick (made ++ t ∷ []) (replicate (length zs) 0) =
    ap (λ y. raised 0 t.range.first end (number_of t.act) y) h.0 ∙ sym one in (
      is ∙ ap (λ k. table pick (made ++ t ∷ []) (replicate k 0)) (sym len),
      each_append (λ m. pick m ≡ true → m.range.first + m.range.words ≤ length (raised 0 t.range.first end (number_of t.act) zs)) made (t ∷ [])
          (subst (λ k. AllInside pick k made) (sym len) h.1) ((λ y. omega (arith, l, len)), tt),
    )

-- an actor's table and what is known of it, as the code finds them
pub actor_is : (tables : List (Option (List ℕ))) (known ks : List ℕ) (first end a d : ℕ) (o : Option (List ℕ)) → slice_get tables a ≡ Some o → ks ≡ known → a < length known →
    above o (get_or ks a d) first end ≡ actor_above tables known first end a
actor_is tables known ks first end a d o e k l =
    ap (λ y. above o (get_or y a d) first end) k ∙ (ap (λ y. above o y first end) (number_is known a d l) ∙ ap (λ y. above y (number known a) first end) (sym (item_got None tables a o e)))

pub made_new : (words : ℕ) (zs : List ℕ) (o : Option (List ℕ)) → is_some o ≡ false → zs ≡ replicate (length zs) 0 → words ≤ length zs → IsMade words o (Some zs)
made_new words zs None e z l = record { made = length zs; enough = l; table = ap Some z }
made_new words zs (Some ys) e z l = cc

pub made_before : (words : ℕ) (o : Option (List ℕ)) → is_some o ≡ true → IsMade words o o
made_before words None e = cc
made_before words (Some zs) e = record { made = words; enough = omega arith; table = refl }

pub made_at : (words : ℕ) (tables : List (Option (List ℕ))) (a : ℕ) (x y : Option (List ℕ)) → a < length tables → x ≡ get_or tables a x → IsMade words x y → AreMade words tables a (slice_set tables a y)
made_at words tables a x y l e h = record { made = h.made; enough = h.enough; tables = write_is_changed (made_table h.made) tables a x y l e h.table }

-- of an actor the table that is changed, and of the others
pub item_here : (f : Option (List ℕ) → Option (List ℕ)) (tables : List (Option (List ℕ))) (a : ℕ) → a < length tables → item_or None (changed_at f a tables) a ≡ f (item_or None tables a)
item_here f [] a l = absurd (omega (arith, l))
item_here f (x ∷ xs) zero l = refl
item_here f (x ∷ xs) (suc a) l = item_here f xs a (omega (arith, l))

item_there : (f : Option (List ℕ) → Option (List ℕ)) (tables : List (Option (List ℕ))) (a b : ℕ) → (a ≡ b → ⊥) → item_or None (changed_at f a tables) b ≡ item_or None tables b
item_there f [] a b n = refl
item_there f (x ∷ xs) zero zero n = absurd (n refl)
item_there f (x ∷ xs) zero (suc b) n = refl
item_there f (x ∷ xs) (suc a) zero n = refl
item_there f (x ∷ xs) (suc a) (suc b) n = item_there f xs a b (λ e. n (ap suc e))

none_table : (pick : Touch → Bool) (made : List Touch) (zs : List ℕ) → Each (λ m. pick m ≡ false) made → table pick made zs ≡ zs
none_table pick [] zs h = refl
none_table pick (m ∷ ms) zs h = rw h.0 (none_table pick ms zs h.1)

none_inside : (pick : Touch → Bool) (n : ℕ) (made : List Touch) → Each (λ m. pick m ≡ false) made → AllInside pick n made
none_inside pick n [] h = tt
none_inside pick n (m ∷ ms) h = ((λ y. absurd (no_both (pick m) h.0 y)), none_inside pick n ms h.1)
  where
    no_both : (b : Bool) → b ≡ false → b ≡ true → ⊥
    no_both b e f = cc

-- a table that was made tells the same
tells_made : (pick : Touch → Bool) (made : List Touch) (n : ℕ) (o : Option (List ℕ)) → Tells pick made o → Tells pick made (made_table n o)
tells_made pick made n (Some zs) h = h
tells_made pick made n None h =
    let e : length (replicate n 0) ≡ n = length-replicate n 0 in
    (ap (λ k. replicate k 0) (sym e) ∙ sym (none_table pick made (replicate (length (replicate n 0)) 0) h), none_inside pick (length (replicate n 0)) made h)

pub tied_made : (picks : ℕ → Touch → Bool) (made : List Touch) (words a : ℕ) (old new : List (Option (List ℕ))) → a < length old → AreMade words old a new → AreTied picks made old → AreTied picks made new
tied_made picks made words a old new l m h b =
    subst (λ y. Tells (picks b) made (item_or None y b)) (sym m.tables)
    (elim (cases_eq a b) [
      | inl e ↦ subst (λ k. Tells (picks k) made (item_or None (changed_at (made_table m.made) a old) k)) e
          (subst (λ y. Tells (picks a) made y) (sym (item_here (made_table m.made) old a l)) (tells_made (picks a) made m.made (item_or None old a) (h a)))
      | inr n ↦ subst (λ y. Tells (picks b) made y) (sym (item_there (made_table m.made) old a b n)) (h b)
    ])

-- a touch of an actor that has a table raises it, and no other
pub tied_raised : (picks : ℕ → Touch → Bool) (made : List Touch) (t : Touch) (a : ℕ) (zs : List ℕ) (old : List (Option (List ℕ))) → a < length old →
    item_or None old a ≡ Some zs → t.range.first + t.range.words ≤ length zs → picks a t ≡ true → ((b : ℕ) → (a ≡ b → ⊥) → picks b t ≡ false) → AreTied picks made old →
    AreTied picks (made ++ t ∷ []) (changed_at (raised_table t.range.first (t.range.first + t.range.words) (number_of t.act)) a old)
tied_raised picks made t a zs old l z inside hit miss h b =
    let f : Option (List ℕ) → Option (List ℕ) = raised_table t.range.first (t.range.first + t.range.words) (number_of t.act) in
    elim (cases_eq a b) [
      | inl e ↦ subst (λ k. Tells (picks k) (made ++ t ∷ []) (item_or None (changed_at f a old) k)) e
          (subst (λ y. Tells (picks a) (made ++ t ∷ []) y) (sym (item_here f old a l ∙ ap f z))
          (tells_hit (picks a) made t zs hit inside (subst (λ y. Tells (picks a) made y) z (h a))))
      | inr n ↦ subst (λ y. Tells (picks b) (made ++ t ∷ []) y) (sym (item_there f old a b n)) (tells_missed (picks b) made t (item_or None old b) (miss b n) (h b))
    ]

-- a touch that no test picks changes no table
pub tied_missed : (picks : ℕ → Touch → Bool) (made : List Touch) (t : Touch) (tables : List (Option (List ℕ))) → ((b : ℕ) → picks b t ≡ false) → AreTied picks made tables →
    AreTied picks (made ++ t ∷ []) tables
tied_missed picks made t tables miss h b = tells_missed (picks b) made t (item_or None tables b) (miss b) (h b)

item_empty : (n a : ℕ) → item_or {A = Option (List ℕ)} None (replicate n None) a ≡ None
item_empty zero a = refl
item_empty (suc n) zero = refl
item_empty (suc n) (suc a) = item_empty n a

-- before anything was touched no table is wanted
pub tied_first : (picks : ℕ → Touch → Bool) (n : ℕ) → AreTied picks [] (replicate n None)
tied_first picks n a = subst (λ y. Tells (picks a) [] y) (sym (item_empty n a)) tt
