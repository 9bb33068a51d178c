-- Bytes taken from the front of what is left.
use Rattle.std.proofs.Common.{◌≡◌, ℕ, ◌+◌, ◌≤◌, List, ◌++◌, take, drop, length, sym}
use Rattle.std.proofs.lemmas.List.{take_at, take-append-drop, drop-drop, length-take-le}

-- n bytes of what is left, copied over the front of other bytes, and then the rest
pub gives_next : (bs left copied others : List ℕ) (t n : ℕ) → left ≡ drop t bs → copied ≡ take n left → n ≤ length left →
    left ≡ take n (copied ++ others) ++ drop (t + n) bs
gives_next bs left copied others t n is_left is_copied fits =
    let front : take n (copied ++ others) ≡ take n left =
    rw is_copied (take_at (take n left) others n (length-take-le n left fits)) in
    let rest : drop (t + n) bs ≡ drop n left = rw is_left (sym (drop-drop n t bs)) in
    rw (front, rest) (sym (take-append-drop n left))
