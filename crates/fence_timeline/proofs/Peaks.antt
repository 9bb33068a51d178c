-- The greatest values of runs, and the search through them.
use Rattle.std.proofs.Common.{ℕ, zero, suc, ◌≡◌, ◌≤◌, ◌<◌, ◌-◌, ◌+◌, ◌∙◌, max, refl, ap, sym, subst, List, [], ◌∷◌, ◌++◌, length, drop, get_or, slice_get, Some, arith, option_map, inl, inr, ◌⊎◌}
use Rattle.std.proofs.lemmas.List.{length-map, map-append}
use Rattle.std.proofs.lemmas.Option.{slice_get-map, slice_get_read}
use Rattle.fence_timeline.specs.declared.update.Update.{Update}
use Rattle.fence_timeline.specs.declared.runs.Entry.{Entry}
use Rattle.fence_timeline.specs.Runs.{updates_in, between, greatest, IsPeak, IsIndexed}
use Rattle.fence_timeline.proofs.Between.{between_split, between_one, between_front}
use Rattle.fence_timeline.proofs.Greatest.{greatest_append}

-- the item that was appended
pub got_behind : {A : Type 0} (xs : List A) (x : A) (n : ℕ) → n ≡ length xs → slice_get (xs ++ x ∷ []) n ≡ Some x
got_behind [] x zero count = refl
got_behind [] x (suc n) count = absurd (omega arith)
got_behind (y ∷ xs) x zero count = absurd (omega arith)
got_behind (y ∷ xs) x (suc n) count = got_behind xs x n (omega arith)

-- the update of an entry
pub update_got : (es : List Entry) (i : ℕ) (e : Entry) → slice_get es i ≡ Some e → slice_get (updates_in es) i ≡ Some e.update
update_got es i e is = slice_get-map (λ (e : Entry). e.update) es i ∙ ap (λ o. option_map (λ (e : Entry). e.update) o) is

-- the entry that was read at a place
pub entry_got : (es : List Entry) (i : ℕ) (e : Entry) → i < length es → e ≡ get_or es i e → slice_get es i ≡ Some e
entry_got es i e within read = slice_get_read es (length es) i e refl within read

-- the greatest value of the run that ends with an entry
pub run_peak : (es : List Entry) (i end : ℕ) (e : Entry) → IsIndexed es → end ≡ suc i → slice_get es i ≡ Some e → e.run ≤ end →
    e.peak ≡ greatest (between (end - e.run) end (updates_in es))
run_peak es i end e indexed next got short =
    rw next ((indexed.peaks i e got).peak (omega arith))

-- the greatest value of an entry alone
pub own_peak : (es : List Entry) (i end : ℕ) (e : Entry) → end ≡ suc i → slice_get es i ≡ Some e →
    e.update.value ≡ greatest (between i end (updates_in es))
own_peak es i end e next got =
    rw (next, between_one (updates_in es) i e.update (update_got es i e got)) (omega arith)

-- an update behind two runs that stand side by side: the greatest value of all
pub joined_peak : (us : List Update) (u : Update) (n m k p q : ℕ) → k ≤ m → m ≤ n → n ≡ length us → p ≡ greatest (between m n us) → q ≡ greatest (between k m us) →
    max (max u.value p) q ≡ greatest (between k (suc n) (us ++ u ∷ []))
joined_peak us u n m k p q low high count right left =
    let all : List Update = us ++ u ∷ [] in
    let own : between n (suc n) all ≡ u ∷ [] = between_one all n u (got_behind us u n count) in
    let parts : between k (suc n) all ≡ between k n us ++ u ∷ [] =
    between_split all k n (suc n) (omega arith) (omega arith)
    ∙ ap (λ xs. xs ++ between n (suc n) all) (between_front us (u ∷ []) k n (omega arith))
    ∙ ap (λ xs. between k n us ++ xs) own
    in
    rw (parts, between_split us k m n low high) (omega (
      arith,
      right,
      left,
      greatest_append (between k m us ++ between m n us) (u ∷ []),
      greatest_append (between k m us) (between m n us),
    ))

-- an update behind the others, alone
pub lone_peak : (us : List Update) (u : Update) (n : ℕ) → n ≡ length us → u.value ≡ greatest (between n (suc n) (us ++ u ∷ []))
lone_peak us u n count = rw (between_one (us ++ u ∷ []) n u (got_behind us u n count)) (omega arith)

-- the entry of an update behind the others that joins two runs
pub joined_entry : (es : List Entry) (u : Update) (i j n : ℕ) (a b e : Entry) → IsIndexed es → n ≡ length es → n ≡ suc i → slice_get es i ≡ Some a → a.run < n →
    n - a.run ≡ suc j → slice_get es j ≡ Some b → b.run < n - a.run → e.run ≡ a.run + b.run + 1 → e.peak ≡ max (max u.value a.peak) b.peak →
    IsPeak (updates_in es ++ u ∷ []) n e
joined_entry es u i j n a b e indexed count last got short next got_before fits run peak = record {
  some = omega arith;
  peak = λ _.
      let start : suc n - e.run ≡ (n - a.run) - b.run = omega arith in
      let right = run_peak es i n a indexed last got (omega arith) in
      let left = run_peak es j (n - a.run) b indexed next got_before (omega arith) in
      peak
      ∙ joined_peak
      (updates_in es) u n (n - a.run) ((n - a.run) - b.run) a.peak b.peak
      (omega arith) (omega arith) (omega (arith, length-map es (λ (x : Entry). x.update))) right left
      ∙ ap (λ k. greatest (between k (suc n) (updates_in es ++ u ∷ []))) (sym start);
}

-- the entry of an update behind the others, alone
pub lone_entry : (es : List Entry) (u : Update) (n : ℕ) (e : Entry) → n ≡ length es → e.run ≡ 1 → e.peak ≡ u.value → IsPeak (updates_in es ++ u ∷ []) n e
lone_entry es u n e count run peak = record {
  some = omega arith;
  peak = λ _.
      let start : suc n - e.run ≡ n = omega arith in
      peak
      ∙ lone_peak (updates_in es) u n (omega (arith, length-map es (λ (x : Entry). x.update)))
      ∙ ap (λ k. greatest (between k (suc n) (updates_in es ++ u ∷ []))) (sym start);
}

-- no entries
pub indexed_none : IsIndexed []
indexed_none = record { peaks = λ i e is. absurd (cc) }

-- what was appended changes no earlier entry
peak_before : (us vs : List Update) (i : ℕ) (e : Entry) → i < length us → IsPeak us i e → IsPeak (us ++ vs) i e
peak_before us vs i e within is = record {
  some = is.some;
  peak = λ short. is.peak short ∙ ap greatest (sym (between_front us vs (suc i - e.run) (suc i) (omega arith)));
}

got_append : {A : Type 0} (xs : List A) (x y : A) (i : ℕ) → slice_get (xs ++ x ∷ []) i ≡ Some y → (i < length xs) × (slice_get xs i ≡ Some y) ⊎ (i ≡ length xs) × (x ≡ y)
got_append [] x y zero is = inr (refl, grind arith)
got_append [] x y (suc i) is = absurd (cc)
got_append (z ∷ xs) x y zero is = inl (omega arith, is)
got_append (z ∷ xs) x y (suc i) is = elim (got_append xs x y i is) [ inl w ↦ inl (omega (arith, w.0), w.1) | inr w ↦ inr (ap suc w.0, w.1) ]

-- an entry behind the others
pub indexed_behind : (es : List Entry) (u : Update) (e : Entry) → IsIndexed es → e.update ≡ u → IsPeak (updates_in es ++ u ∷ []) (length es) e → IsIndexed (es ++ e ∷ [])
indexed_behind es u e indexed is peak = record {
  peaks = λ i d got.
      let all : updates_in (es ++ e ∷ []) ≡ updates_in es ++ u ∷ [] = map-append (λ (x : Entry). x.update) es (e ∷ []) ∙ ap (λ x. updates_in es ++ x ∷ []) is in
      subst (λ us. IsPeak us i d) (sym all) (elim (got_append es e d i got) [
        | inl w ↦ peak_before (updates_in es) (u ∷ []) i d (omega (arith, w.0, length-map es (λ (x : Entry). x.update))) (indexed.peaks i d w.1)
        | inr w ↦ subst (λ (x : Entry). IsPeak (updates_in es ++ u ∷ []) i x) w.1 (subst (λ n. IsPeak (updates_in es ++ u ∷ []) n e) (sym w.0) peak)
      ]);
}

-- without the first entry
pub indexed_rest : (es : List Entry) → IsIndexed es → IsIndexed (drop 1 es)
indexed_rest [] indexed = indexed
indexed_rest (x ∷ es) indexed = record {
  peaks = λ i e got. let is : IsPeak (updates_in (x ∷ es)) (suc i) e = indexed.peaks (suc i) e got in record {
    some = is.some;
    peak = λ short.
        let start : suc (suc i) - e.run ≡ suc (suc i - e.run) = omega arith in
        is.peak (omega arith) ∙ ap (λ k. greatest (between k (suc (suc i)) (updates_in (x ∷ es)))) start;
  };
}

-- the updates of the entries behind the first
pub updates_rest : (es : List Entry) → updates_in (drop 1 es) ≡ drop 1 (updates_in es)
updates_rest [] = refl
updates_rest (x ∷ es) = refl
