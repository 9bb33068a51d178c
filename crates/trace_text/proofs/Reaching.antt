-- From what was read, the lines of the rest of a sound value give that value: the calls and the last line.
use Rattle.trace_text.proofs.Vocabulary.{ℕ, ◌≡◌, ◌≤◌, ◌+◌, ◌&&◌, ◌∙◌, nat_le, nat_lt, Bool, true, false, List, [], ◌∷◌, ◌++◌, length, map, sum_by, refl, sym, ap, subst, arith, append_assoc, append-nil, length-append, list_all, and_parts, or_from, lt-leb, le-ltb, list_all-append, sum_by-append, sum_by-cons, Call, is_named, Item, Calls, Ends, Reading, known_names, with_item, lists_of_call, calls_in_all, lists_in_all, is_call_too_many, with_call, is_sound_call, IsSound, Value, value_in, objects_of, world_of_value}
use Rattle.trace_text.proofs.Fitting.{Fits}
use Rattle.trace_text.proofs.NamesBack.{AreNamed}
use Rattle.trace_text.proofs.Naming.{names_in}
use Rattle.trace_text.proofs.PrintedLines.{Runs}
use Rattle.trace_text.proofs.Opening.{IsOpen, end_fits, call_fits}
use Rattle.trace_text.proofs.Sound.{known_in}

-- items behind what was read end a value
pub record Reaches (r : Reading) (items : List Item) (v : Value) : Type 0 where
  pub reading : Reading
  pub runs : Runs (known_names v.names v.declared) r items reading
  pub ended : reading.ended ≡ true
  pub says : value_in reading ≡ v

-- an item that may come next, and the items behind it
pub reach_item : (r : Reading) (i : Item) (items : List Item) (v : Value) → Fits r (known_names v.names v.declared) i → Reaches (with_item r i) items v →
    Reaches r (i ∷ items) v
reach_item r i items v fits rest = record { reading = rest.reading; runs = (fits, rest.runs); ended = rest.ended; says = rest.says }

-- the last line
pub reach_end : (r : Reading) (v : Value) → IsOpen r → value_in r ≡ v → Reaches r (Ends ∷ []) v
unfolding with_item
reach_end r v may says =
    reach_item r Ends [] v (end_fits r (known_names v.names v.declared) may) (record { reading = with_item r Ends; runs = refl; ended = refl; says = says })

-- a call in the midst of the only script passes what all calls pass
script_pass : (p : Call → Bool) (ss : List (List Call)) (script cs : List Call) (c : Call) → ss ≡ (script ++ c ∷ cs) ∷ [] →
    list_all (λ s. list_all p s) ss ≡ true → p c ≡ true
script_pass p ss script cs c is all =
    let only : (list_all p (script ++ c ∷ cs) && true) ≡ true = subst (λ some. list_all (λ s. list_all p s) some ≡ true) is all in
    let whole = (and_parts (list_all p (script ++ c ∷ cs)) true only).0 in
    let back : (list_all p script && list_all p (c ∷ cs)) ≡ true = sym (list_all-append p script (c ∷ cs)) ∙ whole in
    (and_parts (p c) (list_all p cs) (and_parts (list_all p script) (list_all p (c ∷ cs)) back).1).0

-- it passes no limit
call_room : (ss : List (List Call)) (script cs : List Call) (c : Call) → ss ≡ (script ++ c ∷ cs) ∷ [] → calls_in_all ss ≤ 65536 → lists_in_all ss ≤ 4096 →
    is_call_too_many (script ∷ []) c ≡ false
unfolding is_call_too_many
call_room ss script cs c is few_calls few_lists =
    let lists_of : List Call → ℕ = λ s. sum_by lists_of_call s in
    let calls = ap calls_in_all is ∙ sum_by-cons (λ (s : List Call). length s) (script ++ c ∷ cs) [] in
    let lists = ap lists_in_all is ∙ sum_by-cons lists_of (script ++ c ∷ cs) [] in
    let before_calls = sum_by-cons (λ (s : List Call). length s) script [] in
    let before_lists = sum_by-cons lists_of script [] in
    let long = length-append script (c ∷ cs) in
    let split = sum_by-append lists_of_call script (c ∷ cs) in
    let first = sum_by-cons lists_of_call c cs in
    or_from (nat_le 65536 (calls_in_all (script ∷ []))) (nat_lt 4096 (lists_in_all (script ∷ []) + lists_of_call c))
    (lt-leb 65536 (calls_in_all (script ∷ [])) (omega (arith, calls, before_calls, long, few_calls)))
    (le-ltb 4096 (lists_in_all (script ∷ []) + lists_of_call c) (omega (arith, lists, before_lists, split, first, few_lists)))

-- the names and the objects of a value were read, and the front of its only script
pub record InCalls (v : Value) (script cs : List Call) (r : Reading) : Type 0 where
  pub may : IsOpen r
  pub named : AreNamed r.names r.declared
  pub names : names_in r.names ≡ v.names
  pub objects : r.declared ≡ v.declared
  pub before : r.scripts ≡ script ∷ []
  pub all : v.scripts ≡ (script ++ cs) ∷ []

-- one more call
call_in : (v : Value) (script cs : List Call) (c : Call) (r : Reading) → InCalls v script (c ∷ cs) r → InCalls v (script ++ c ∷ []) cs (with_item r (Calls c))
unfolding with_item with_call
call_in v script cs c r at = record {
  may = record { begun = at.may.begun; open_yet = at.may.open_yet };
  named = at.named;
  names = at.names;
  objects = at.objects;
  before = ap (λ ss. with_call ss c) at.before;
  all = at.all ∙ ap (λ s. s ∷ []) (sym (append_assoc script (c ∷ []) cs));
}

-- the lines of calls, and the last line
pub reach_calls : (v : Value) → IsSound v → (cs script : List Call) (r : Reading) → InCalls v script cs r → Reaches r (map Calls cs ++ Ends ∷ []) v
reach_calls v sound [] script r at =
    let scripts : r.scripts ≡ v.scripts = at.before ∙ (ap (λ s. s ∷ []) (sym (append-nil script)) ∙ sym at.all) in
    reach_end r v at.may (rw (at.names, at.objects, scripts) refl)
reach_calls v sound (c ∷ cs) script r at =
    let same : known_in r ≡ known_names v.names v.declared = rw (at.names, at.objects) refl in
    let good = script_pass is_sound_call v.scripts script cs c at.all sound.calls in
    let ids = script_pass (is_named (world_of_value v)) v.scripts script cs c at.all sound.named in
    let here : is_named (record (objects_of r.declared) { scripts = v.scripts }) c ≡ true =
    subst (λ ds. is_named (record (objects_of ds) { scripts = v.scripts }) c ≡ true) (sym at.objects) ids in
    let room : is_call_too_many r.scripts c ≡ false =
    rw (at.before) (call_room v.scripts script cs c at.all sound.few_calls sound.few_lists) in
    let fits = call_fits r at.may (rw (at.before) refl) v.scripts c at.named good here room in
    reach_item r (Calls c) (map Calls cs ++ Ends ∷ []) v (subst (λ names. Fits r names (Calls c)) same fits)
    (reach_calls v sound cs (script ++ c ∷ []) (with_item r (Calls c)) (call_in v script cs c r at))
