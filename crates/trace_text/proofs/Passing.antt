-- What follows where tests are passed.
use Rattle.trace_text.proofs.Vocabulary.{◌≡◌, not, Bool, true, false, Option, Some, None, is_some, Result, Ok, Err, refl, if◌then◌else◌, Cause, and_then}

-- a test that has to hold, and one that must not
pub passed : {A : Type 0} (t : Bool) (c : Cause) (found : Result A Cause) (x : A) → (if t then found else Err c) ≡ Ok x → (t ≡ true) × (found ≡ Ok x)
passed true c found x e = (refl, e)
passed false c found x e = cc

pub stopped : {A : Type 0} (t : Bool) (c : Cause) (found : Result A Cause) (x : A) → (if t then Err c else found) ≡ Ok x → (t ≡ false) × (found ≡ Ok x)
stopped true c found x e = cc
stopped false c found x e = (refl, e)

pub no_cause : (t : Bool) (c : Cause) (found : Option Cause) → (if t then Some c else found) ≡ None → (t ≡ false) × (found ≡ None)
no_cause true c found e = cc
no_cause false c found e = (refl, e)

pub not_false : (t : Bool) → not t ≡ false → t ≡ true
not_false true e = refl
not_false false e = cc

-- what was found and what followed it
pub and_ok : {A B : Type 0} (x : Result A Cause) (f : A → Result B Cause) (s : B) → and_then x f ≡ Ok s → (u : A) × (x ≡ Ok u) × (f u ≡ Ok s)
and_ok (Ok u) f s e = (u, refl, e)
and_ok (Err c) f s e = cc
