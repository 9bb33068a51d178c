-- Tests over all names.
use Rattle.std.proofs.Common.{◌≡◌, Bool, true, false, ◌&&◌, ◌||◌, List, [], ◌∷◌, arith, refl}
use Rattle.std.specs.List.{list_any, list_all}
use Rattle.dx_flags.specs.declared.atoms.Kind.{Kind}
use Rattle.dx_flags.specs.declared.atoms.Kind.TheVariants.{UnorderedAccess, ShaderResource, ConstantBuffer, CopySource, CopyDest}
use Rattle.dx_flags.specs.Kinds.{all_kinds}

-- both of two tests passed
pub both : (a b : Bool) → (a && b) ≡ true → (a ≡ true) × (b ≡ true)
both true b h = (refl, h)
both false b h = cc

-- two tests that passed
pub and_both : (a b : Bool) → a ≡ true → b ≡ true → (a && b) ≡ true
and_both a b p q = rw (p, q) refl

-- the second of three tests that passed
pub middle : (a b c : Bool) → (a && (b && c)) ≡ true → b ≡ true
middle a b c h = (both b c (both a (b && c) h).1).0

-- the third of three tests that passed
pub last : (a b c : Bool) → (a && (b && c)) ≡ true → c ≡ true
last a b c h = (both b c (both a (b && c) h).1).1

some_of : {X : Type 0} (test : X → Bool) (x : X) (xs : List X) (b : Bool) → test x ≡ b → ((b || list_any test xs) ≡ true)
    → (list_any test xs ≡ true → (y : X) × (test y ≡ true)) → (y : X) × (test y ≡ true)
some_of test x xs true is h more = (x, is)
some_of test x xs false is h more = more h

-- where a test passes for some item, here is one
pub some_item : {X : Type 0} (test : X → Bool) (xs : List X) → list_any test xs ≡ true → (x : X) × (test x ≡ true)
some_item test [] h = cc
some_item test (x ∷ xs) h = some_of test x xs (test x) refl h (λ more. some_item test xs more)

-- a test that passes for all kinds passes for each
pub each_kind : (test : Kind → Bool) → list_all test all_kinds ≡ true → (kind : Kind) → test kind ≡ true
each_kind test h UnorderedAccess = grind (arith, h)
each_kind test h ShaderResource = grind (arith, h)
each_kind test h ConstantBuffer = grind (arith, h)
each_kind test h CopySource = grind (arith, h)
each_kind test h CopyDest = grind (arith, h)

-- a test that passes for each kind passes for all
pub all_kind : (test : Kind → Bool) → ((kind : Kind) → test kind ≡ true) → list_all test all_kinds ≡ true
all_kind test h = rw (h UnorderedAccess, h ShaderResource, h ConstantBuffer, h CopySource, h CopyDest) refl
