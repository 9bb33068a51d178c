-- Bytes appended one part after another.
use Rattle.std.proofs.Common.{ℕ, ◌+◌, List, take, drop, Option, None, Some, append_assoc}
use Rattle.std.proofs.Math.Seq.{take-add}
use Rattle.std.specs.Io.KnownBytes.{Appends}

-- the first i bytes, and then the next n of them, are the first i + n
pub appends_more : (a b c : Option (List ℕ)) (bs : List ℕ) (i n : ℕ) →
    Appends a b (take i bs) → Appends b c (take n (drop i bs)) → Appends a c (take (i + n) bs)
appends_more None b c bs i n before now = tt
appends_more (Some xs) None c bs i n before now = absurd before
appends_more (Some xs) (Some ys) None bs i n before now = absurd now
appends_more (Some xs) (Some ys) (Some zs) bs i n before now =
    rw (now, before, take-add i n bs) (append_assoc xs (take i bs) (take n (drop i bs)))
