-- A text copied into a part of an array.
use Prim.Native.Nat.{ℕ, ◌+◌, ◌≤◌}
use mathlib.Core.List.{List, ◌++◌, append_assoc}
use mathlib.Core.Path.{◌≡◌, sym, ap, ◌∙◌}
use borrow.Rule.Slice.PartMut.{post_of, put_mid}
use lib.ListN.{length, take}
use lib.Seq.{length-take-le, take-length, take-append-add, take_at}

-- r was copied into t from place a on: up to the end of r the array has what stood before a, and r.
pub laid :
    (a m k : ℕ) (t r q p : List ℕ) → a ≤ length t → p ≡ take (length r) r ++ q → k ≡ length r → take (a + k) (put_mid a m t p) ≡ take a t ++ r
laid a m k t r q p l e k-is =
    ap (λ (n : ℕ). take (n + k) (put_mid a m t p)) (sym (length-take-le a t l))
    ∙ take-append-add (take a t) (p ++ post_of a m t) k
    ∙ ap (λ (x : List ℕ). take a t ++ x) copied
  where
    copied : take k (p ++ post_of a m t) ≡ r
    copied =
        (λ i. take k ((e ∙ ap (λ (x : List ℕ). x ++ q) (take-length r)) i ++ post_of a m t))
        ∙ ap (take k) (append_assoc r q (post_of a m t))
        ∙ take_at r (q ++ post_of a m t) k (sym k-is)
