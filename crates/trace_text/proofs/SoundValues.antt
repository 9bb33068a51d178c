-- A sound value with one more object, thread or call.
use Rattle.trace_text.proofs.Vocabulary.{ℕ, suc, ◌≡◌, ◌<◌, ◌≤◌, ◌+◌, ◌&&◌, ◌∙◌, Bool, true, false, List, [], ◌∷◌, ◌++◌, length, sum_by, nat_le, nat_lt, refl, sym, ap, arith, length-append, if◌then◌else◌, IsEquivalence, comparing, list_all, list_any, bytes_eq, and_parts, and_from, or_parts, leb-false, ltb-false, list_all-append, sum_by-cons, sum_by_push, Call, is_named, are_named, Declared, Kind, kind_of, count_of, most_of, words_of_object, words_of_all, is_one_too_many, lists_of_call, calls_in_all, lists_in_all, is_call_too_many, with_call, is_fit_name, is_sound_object, is_sound_call, IsSound, same_kind, Value, world_of_value}
use Rattle.std.proofs.lemmas.Map.Keys.{IsDistinct-push}
use Rattle.line_forms.specs.declared.kind.Kind.TheVariants as kind
use Rattle.trace_text.proofs.Says.{kinds_same}

-- one more item that passes
pub all_push : {A : Type 0} (p : A → Bool) (xs : List A) (x : A) → list_all p xs ≡ true → p x ≡ true → list_all p (xs ++ x ∷ []) ≡ true
all_push p xs x all one = list_all-append p xs (x ∷ []) ∙ and_from (list_all p xs) (p x && true) all (and_from (p x) true one refl)

-- equal bytes are an equivalence
equal_bytes : IsEquivalence bytes_eq
equal_bytes = search (comparing)

-- how many of a kind there are with one more object
pub count_push : (k : Kind) (ds : List Declared) (d : Declared) →
    count_of k (ds ++ d ∷ []) ≡ count_of k ds + (if same_kind k (kind_of d) then 1 else 0)
count_push k ds d = sum_by_push (λ (x : Declared). if same_kind k (kind_of x) then 1 else 0) ds d

-- a limit is kept by one more object
pub few_more : (ds : List Declared) (d : Declared) (k : Kind) (most : ℕ) → (same_kind k (kind_of d) ≡ true → count_of k ds < most) →
    count_of k ds ≤ most → count_of k (ds ++ d ∷ []) ≤ most
few_more ds d k most room few = by_test (same_kind k (kind_of d)) refl
  where
    by_test : (t : Bool) → same_kind k (kind_of d) ≡ t → count_of k (ds ++ d ∷ []) ≤ most
    by_test true is = rw (count_push k ds d, is) (omega (arith, room is))
    by_test false is = rw (count_push k ds d, is) (omega (arith, few))

-- an object is within the limits
pub record IsWithin (ds : List Declared) (d : Declared) : Type 0 where
  pub count : count_of (kind_of d) ds < most_of (kind_of d)
  pub words : words_of_all ds + words_of_object d ≤ 1048576

-- an object that is not one too many is within the limits
pub within_limits : (ds : List Declared) (d : Declared) → is_one_too_many ds d ≡ false → IsWithin ds d
unfolding is_one_too_many
within_limits ds d is =
    let both = or_parts (nat_le (most_of (kind_of d)) (count_of (kind_of d) ds)) (nat_lt 1048576 (words_of_all ds + words_of_object d)) is in
    record {
      count = leb-false (most_of (kind_of d)) (count_of (kind_of d) ds) both.0;
      words = ltb-false 1048576 (words_of_all ds + words_of_object d) both.1;
    }

-- no call names anything where there are no threads
nothing_named : (v w : Value) → length v.scripts ≡ 0 → w.scripts ≡ v.scripts → are_named (world_of_value w) ≡ true
nothing_named v w none same = by_scripts w.scripts refl
  where
    by_scripts : (ss : List (List Call)) → w.scripts ≡ ss → are_named (world_of_value w) ≡ true
    by_scripts [] is = rw is refl
    by_scripts (s ∷ ss) is = absurd (omega (arith, ap length (sym same ∙ is), none))

-- a value with one more object, behind no thread
abbrev pub with_object : Value → List ℕ → Declared → Value
with_object v n d = record { names = v.names ++ n ∷ []; declared = v.declared ++ d ∷ []; scripts = v.scripts }

-- it is sound
pub sound_object : (v : Value) (n : List ℕ) (d : Declared) → IsSound v → length v.scripts ≡ 0 → is_fit_name n ≡ true →
    list_any (bytes_eq n) v.names ≡ false → is_sound_object d ≡ true → is_one_too_many v.declared d ≡ false →
    (same_kind kind.Queue (kind_of d) ≡ true → count_of kind.Queue v.declared ≡ 0) → IsSound (with_object v n d)
sound_object v n d sound none fit fresh good room queues =
    let within = within_limits v.declared d room in
    record {
      named_all = omega (arith, length-append v.names (n ∷ []), length-append v.declared (d ∷ []), sound.named_all);
      spelled = all_push is_fit_name v.names n sound.spelled fit;
      different = IsDistinct-push equal_bytes v.names n sound.different fresh;
      objects = all_push is_sound_object v.declared d sound.objects good;
      few_objects = λ k. few_more v.declared d k (most_of k)
          (λ is. let same = kinds_same k (kind_of d) is in rw same (within.count)) (sound.few_objects k);
      few_queues = few_more v.declared d kind.Queue 1 (λ is. omega (arith, queues is)) sound.few_queues;
      few_words = rw (sum_by_push words_of_object v.declared d) within.words;
      few_threads = sound.few_threads;
      calls = sound.calls;
      named = nothing_named v (with_object v n d) none refl;
      few_calls = sound.few_calls;
      few_lists = sound.few_lists;
    }

-- a value with one more thread
abbrev pub with_thread : Value → List ℕ → Value
with_thread v n = record { names = v.names ++ n ∷ []; declared = v.declared; scripts = v.scripts ++ [] ∷ [] }

-- it is sound
pub sound_thread : (v : Value) (n : List ℕ) → IsSound v → length v.scripts ≡ 0 → is_fit_name n ≡ true →
    list_any (bytes_eq n) v.names ≡ false → IsSound (with_thread v n)
sound_thread v n sound none fit fresh =
    record {
      named_all = omega (arith, length-append v.names (n ∷ []), length-append v.scripts ([] ∷ []), sound.named_all);
      spelled = all_push is_fit_name v.names n sound.spelled fit;
      different = IsDistinct-push equal_bytes v.names n sound.different fresh;
      objects = sound.objects;
      few_objects = sound.few_objects;
      few_queues = sound.few_queues;
      few_words = sound.few_words;
      few_threads = omega (arith, length-append v.scripts ([] ∷ []), none);
      calls = all_push (λ script. list_all is_sound_call script) v.scripts [] sound.calls refl;
      named = all_push (λ script. list_all (is_named (world_of_value v)) script) v.scripts [] sound.named refl;
      few_calls = rw (sum_by_push (λ (s : List Call). length s) v.scripts []) (omega (arith, sound.few_calls));
      few_lists = rw (sum_by_push (λ (s : List Call). sum_by lists_of_call s) v.scripts []) (omega (arith, sound.few_lists));
    }

-- a sum over scripts with one more call
sum_call : (f : List Call → ℕ) (n : ℕ) (ss : List (List Call)) (c : Call) → ((s : List Call) → f (s ++ c ∷ []) ≡ f s + n) → 0 < length ss →
    sum_by f (with_call ss c) ≡ sum_by f ss + n
unfolding with_call
sum_call f n [] c more some = absurd (omega arith)
sum_call f n (s ∷ []) c more some = omega (arith, sum_by-cons f (s ++ c ∷ []) [], sum_by-cons f s [], more s)
sum_call f n (s ∷ t ∷ ss) c more some =
    omega (arith, sum_by-cons f s (with_call (t ∷ ss) c), sum_by-cons f s (t ∷ ss), sum_call f n (t ∷ ss) c more (omega arith))

-- all calls with one more that passes
pub all_call : (p : Call → Bool) (ss : List (List Call)) (c : Call) → list_all (λ s. list_all p s) ss ≡ true → p c ≡ true →
    list_all (λ s. list_all p s) (with_call ss c) ≡ true
unfolding with_call
all_call p [] c all one = refl
all_call p (s ∷ []) c all one =
    let both = and_parts (list_all p s) true all in and_from (list_all p (s ++ c ∷ [])) true (all_push p s c both.0 one) refl
all_call p (s ∷ t ∷ ss) c all one =
    let both = and_parts (list_all p s) (list_all (λ s. list_all p s) (t ∷ ss)) all in
    and_from (list_all p s) (list_all (λ s. list_all p s) (with_call (t ∷ ss) c)) both.0 (all_call p (t ∷ ss) c both.1 one)

-- one more call adds no script
pub length_call : (ss : List (List Call)) (c : Call) → length (with_call ss c) ≡ length ss
unfolding with_call
length_call [] c = refl
length_call (s ∷ []) c = refl
length_call (s ∷ t ∷ ss) c = ap suc (length_call (t ∷ ss) c)

-- a value with one more call
abbrev pub and_call : Value → Call → Value
and_call v c = record v { scripts = with_call v.scripts c }

-- it is sound
pub sound_call : (v : Value) (c : Call) → IsSound v → 0 < length v.scripts → is_sound_call c ≡ true → is_named (world_of_value v) c ≡ true →
    is_call_too_many v.scripts c ≡ false → IsSound (and_call v c)
unfolding is_call_too_many
sound_call v c sound some good named room =
    let both = or_parts (nat_le 65536 (calls_in_all v.scripts)) (nat_lt 4096 (lists_in_all v.scripts + lists_of_call c)) room in
    record {
      named_all = omega (arith, length_call v.scripts c, sound.named_all);
      spelled = sound.spelled;
      different = sound.different;
      objects = sound.objects;
      few_objects = sound.few_objects;
      few_queues = sound.few_queues;
      few_words = sound.few_words;
      few_threads = omega (arith, length_call v.scripts c, sound.few_threads);
      calls = all_call is_sound_call v.scripts c sound.calls good;
      named = all_call (is_named (world_of_value v)) v.scripts c sound.named named;
      few_calls = rw (sum_call (λ (s : List Call). length s) 1 v.scripts c (λ s. length-append s (c ∷ [])) some)
          (omega (arith, leb-false 65536 (calls_in_all v.scripts) both.0));
      few_lists = rw (sum_call (λ (s : List Call). sum_by lists_of_call s) (lists_of_call c) v.scripts c (λ s. sum_by_push lists_of_call s c) some)
          (ltb-false 4096 (lists_in_all v.scripts + lists_of_call c) both.1);
    }
