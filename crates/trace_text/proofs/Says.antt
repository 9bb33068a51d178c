-- What names name: a new name, and the name of a thing.
use Rattle.trace_text.proofs.Vocabulary.{ℕ, zero, suc, ◌≡◌, ◌≤◌, ◌==◌, ◌&&◌, ◌∙◌, not, nat_le, Bool, true, false, List, length, slice_get, Option, Some, None, is_some, Result, Ok, Err, sym, refl, ap, arith, if◌then◌else◌, lookup, bytes_eq, and_parts, and_from, leb-true, le-leb, nat_tests, is_name, Cause, Kind, Thing, name_at, is_fit_name, Names, kind_code, same_kind, numbered, thing_of, number_named, new_name}
use Rattle.std.proofs.lemmas.Slice.Eq.{bytes_eq-Decides}
use Rattle.line_forms.specs.declared.cause.Cause.TheVariants as cause
use Rattle.line_forms.specs.declared.kind.Kind.TheVariants as kind
use Rattle.trace_lines.specs.Things.{kinds}
use Rattle.trace_text.proofs.Passing.{passed, stopped}

-- a name that is not declared yet
pub record IsNew (names : Names) (n : List ℕ) : Type 0 where
  pub fit : is_fit_name n ≡ true
  pub fresh : lookup (bytes_eq n) names ≡ None

-- the name of a thing of that kind and number
pub record IsNameOf (names : Names) (k : Kind) (i : ℕ) (w : List ℕ) : Type 0 where
  pub thing : Thing
  pub found : lookup (bytes_eq w) names ≡ Some thing
  pub kind_is : k ≡ thing.kind
  pub number_is : thing.number ≡ i
  pub spelled : is_name w ≡ true
  pub short : length w ≤ 32

-- it is the same among other names, where it names the same thing
pub named_among : (names others : Names) (k : Kind) (i : ℕ) (w : List ℕ) (is : IsNameOf names k i w) → lookup (bytes_eq w) others ≡ Some is.thing → IsNameOf others k i w
named_among names others k i w is found =
    record { thing = is.thing; found = found; kind_is = is.kind_is; number_is = is.number_is; spelled = is.spelled; short = is.short }

-- bytes that pass the test are the same
pub bytes_same : (a b : List ℕ) → bytes_eq a b ≡ true → a ≡ b
bytes_same a b e = (bytes_eq-Decides a b).0 e

-- a name is spelled well and not declared yet
abbrev pub is_new : Names → List ℕ → Bool
is_new names m = is_fit_name m && not (is_some (lookup (bytes_eq m) names))

-- what is read as a new name is the word itself, and is one
pub new_says : (names : Names) (w n : List ℕ) → new_name names w ≡ Ok n → (n ≡ w) × (is_new names w ≡ true)
unfolding new_name
new_says names w n e =
    let found : Result (List ℕ) Cause = if is_some (lookup (bytes_eq w) names) then Err cause.Again else Ok w in
    let spelled = passed (is_name w) cause.Form (if nat_le (length w) 32 then found else Err cause.Limit) n e in
    let short = passed (nat_le (length w) 32) cause.Limit found n spelled.1 in
    let fresh = stopped (is_some (lookup (bytes_eq w) names)) cause.Again (Ok w) n short.1 in
    let same : w ≡ n = cc (fresh.1) in
    (sym same, rw (spelled.0, short.0, fresh.0) refl)

-- the number of a kind gives the kind back
kind_back : (k : Kind) → slice_get kinds (kind_code k) ≡ Some k
kind_back kind.Queue = refl
kind_back _ = refl

-- kinds that are one
pub kinds_same : (a b : Kind) → same_kind a b ≡ true → a ≡ b
kinds_same a b e =
    let codes_same : kind_code a ≡ kind_code b = grind (arith, nat_tests) in
    let both : Some a ≡ Some b = sym (kind_back a) ∙ (ap (slice_get kinds) codes_same ∙ kind_back b) in cc

-- a word that names a thing of that kind
pub number_says : (k : Kind) (names : Names) (w : List ℕ) (i : ℕ) → number_named k names w ≡ Ok i → IsNameOf names k i w
unfolding number_named thing_of
number_says k names w i e =
    let spelled = passed (is_name w) cause.Form (numbered k (if nat_le (length w) 32 then lookup (bytes_eq w) names else None)) i e in
    found (nat_le (length w) 32) (lookup (bytes_eq w) names) spelled.0 refl refl spelled.1
  where
    found : (t : Bool) (there : Option Thing) → is_name w ≡ true → nat_le (length w) 32 ≡ t → lookup (bytes_eq w) names ≡ there →
        numbered k (if t then there else None) ≡ Ok i → IsNameOf names k i w
    found true (Some t) s l f e =
        let same = passed (same_kind k t.kind) cause.Name (Ok t.number) i e in
        let number : t.number ≡ i = cc (same.1) in
        record { thing = t; found = f; kind_is = kinds_same k t.kind same.0; number_is = number; spelled = s; short = leb-true (length w) 32 l }
    found _ _ s l f e = cc

-- the tests of a name
pub record IsFit (w : List ℕ) : Type 0 where
  pub spelled : is_name w ≡ true
  pub short : nat_le (length w) 32 ≡ true

-- a name that is spelled well passes them
pub fit_parts : (w : List ℕ) → is_fit_name w ≡ true → IsFit w
fit_parts w fit = let both = and_parts (is_name w) (nat_le (length w) 32) fit in record { spelled = both.0; short = both.1 }

-- a kind is itself
pub kind_same : (k : Kind) → same_kind k k ≡ true
kind_same kind.Queue = refl
kind_same _ = refl

-- the name of a thing of a kind is read as its number
pub number_back : (names : Names) (k : Kind) (i : ℕ) (w : List ℕ) → IsNameOf names k i w → number_named k names w ≡ Ok i
unfolding number_named thing_of
number_back names k i w is =
    let short : nat_le (length w) 32 ≡ true = le-leb (length w) 32 is.short in
    let same : same_kind k is.thing.kind ≡ true = rw (← is.kind_is) (kind_same k) in
    rw (is.spelled, short, is.found, same) (ap Ok is.number_is)

-- the name of a place
pub name_there : (names : List (List ℕ)) (i : ℕ) (w : List ℕ) → slice_get names i ≡ Some w → name_at names i ≡ w
name_there names i w at = rw (at, name_at) refl

-- what it is that a new name passes
pub new_facts : (names : Names) (m : List ℕ) → is_new names m ≡ true → IsNew names m
new_facts names m h =
    let both = and_parts (is_fit_name m) (not (is_some (lookup (bytes_eq m) names))) h in
    record { fit = both.0; fresh = none (lookup (bytes_eq m) names) both.1 }
  where
    none : (found : Option Thing) → not (is_some found) ≡ true → found ≡ None
    none None e = refl
    none (Some t) e = cc

-- it is read as itself
pub new_back : (names : Names) (m : List ℕ) → is_new names m ≡ true → new_name names m ≡ Ok m
unfolding new_name
new_back names m h = let new = new_facts names m h in let fit = fit_parts m new.fit in rw (fit.spelled, fit.short, new.fresh) refl

-- what is read as a new name is one
pub new_read : (names : Names) (w m : List ℕ) → new_name names w ≡ Ok m → is_new names m ≡ true
new_read names w m e = let new = new_says names w m e in rw (new.0) (new.1)

-- a name that is spelled well is short
pub short_fit : (w : List ℕ) → is_fit_name w ≡ true → (is_name w ≡ true) × (length w ≤ 32)
short_fit w h = let fit = fit_parts w h in (fit.spelled, leb-true (length w) 32 fit.short)
