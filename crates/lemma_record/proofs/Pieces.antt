-- Beginnings of one history, and the text of one piece more.
use Rattle.std.proofs.Common.{◌≡◌, ◌≤◌, List, [], ◌∷◌, length, refl, arith}
use mathlib.Core.List.{IsPrefix}

-- a beginning as long as the whole is the whole
pub prefix_whole : {A : Type 0} (xs ys : List A) → IsPrefix xs ys → length ys ≤ length xs → xs ≡ ys
prefix_whole [] [] p le = refl
prefix_whole [] (y ∷ ys) p le = absurd (omega arith)
prefix_whole (x ∷ xs) [] p le = absurd (cc (p.1))
prefix_whole (x ∷ xs) (y ∷ ys) p le =
    let rest = prefix_whole xs ys (p.0, cc (p.1)) (omega arith) in cc (p.1, rest)

-- two beginnings of one list that are as long as each other
pub prefix_same : {A : Type 0} (xs ys zs : List A) → IsPrefix xs zs → IsPrefix ys zs → length xs ≡ length ys → xs ≡ ys
prefix_same [] [] zs p q same = refl
prefix_same [] (y ∷ ys) zs p q same = absurd (omega arith)
prefix_same (x ∷ xs) [] zs p q same = absurd (omega arith)
prefix_same (x ∷ xs) (y ∷ ys) [] p q same = absurd (cc (p.1))
prefix_same (x ∷ xs) (y ∷ ys) (z ∷ zs) p q same =
    let heads : x ≡ y = cc (p.1, q.1) in
    let rest = prefix_same xs ys zs (p.0, cc (p.1)) (q.0, cc (q.1)) (omega arith) in
    cc (heads, rest)
