-- Names of nodes: how often each stands, as nodes move and children are opened.
use Rattle.std.proofs.Common.{◌≡◌, ◌<◌, ◌≤◌, ◌+◌, ◌==◌, ℕ, Bool, true, false, cond, List, [], ◌∷◌, ◌++◌, length, refl, ap, ◌∙◌, arith, ⊎_elim, map, ℤ, Option}
use Rattle.std.proofs.Common.{Some, None}
use Rattle.std.specs.List.{All, count_by, Any, filter}
use Rattle.std.specs.List.Sorted.{IsPermutation}
use Rattle.std.proofs.lemmas.Bool.{cases_lt}
use Rattle.std.proofs.lemmas.List.Sums.{sum_by-cons, sum_by-append}
use Rattle.std.proofs.lemmas.List.Elements.{All-nil, All-cons, All-head, All-tail, All-weaker}
use Rattle.std.proofs.lemmas.List.Sorted.{sum_by-IsPermutation}
use Rattle.branching.specs.Subproblem.{Subproblem}
use Rattle.branching.specs.Right.{IsLeast}
use Rattle.branching.proofs.Nodes.{least_of_one}
use Rattle.book.specs.State.{Named}
use Rattle.book.specs.Sound.{AreNamedOnce, AreNamedBelow, nodes_of}
use Rattle.book.specs.Steps.{named_from}
use Rattle.book.specs.OpenNodes.{IsNamedOtherThan}
use Rattle.std.specs.Option.{option_to_list}

-- one where the node has the name, else none
abbrev has : ℕ → Named → ℕ
has name n = cond (n.name == name) 1 0

has_one : (b : Bool) → b ≡ true → ◌≡◌ {A = ℕ} (cond b 1 0) 1
has_one b e = ap (λ b. let n : ℕ = cond b 1 0 in n) e

has_none : (b : Bool) → b ≡ false → ◌≡◌ {A = ℕ} (cond b 1 0) 0
has_none b e = ap (λ b. let n : ℕ = cond b 1 0 in n) e

pub named_once_moved : (old new : List Named) → IsPermutation old new → AreNamedOnce old → AreNamedOnce new
named_once_moved old new moved once name = omega (arith, sum_by-IsPermutation (has name) old new moved, once name)

pub named_once_right : (xs ys : List Named) → AreNamedOnce (xs ++ ys) → AreNamedOnce ys
named_once_right xs ys once name = omega (arith, sum_by-append (has name) xs ys, once name)

-- a name below the first is not among those from the first on
count_before : (name first : ℕ) (nodes : List Subproblem) → name < first → count_by (λ (n : Named). n.name == name) (named_from first nodes) ≡ 0
count_before name first [] l = refl
count_before name first (node ∷ nodes) l =
    let more = sum_by-cons (has name) (record { name = first; node = node }) (named_from (first + 1) nodes) in
    let other : (first == name) ≡ false = grind (arith, l) in
    omega (arith, more, has_none (first == name) other, count_before name (first + 1) nodes (omega arith))

count_from : (name first : ℕ) (nodes : List Subproblem) → count_by (λ (n : Named). n.name == name) (named_from first nodes) ≤ 1
count_from name first [] = omega arith
count_from name first (node ∷ nodes) =
    let more = sum_by-cons (has name) (record { name = first; node = node }) (named_from (first + 1) nodes) in
    (elim (first == name) as (λ b. first == name ≡ b → count_by (λ (n : Named). n.name == name) (named_from first (node ∷ nodes)) ≤ 1) [
      | true ↦ λ e.
          let same : first ≡ name = grind (arith, e) in
          omega (arith, more, has_one (first == name) e, count_before name (first + 1) nodes (omega arith))
      | false ↦ λ e. omega (arith, more, has_none (first == name) e, count_from name (first + 1) nodes)
    ]) refl

-- a name that was not given yet is not there
count_above : (name opened : ℕ) (nodes : List Named) → opened ≤ name → AreNamedBelow opened nodes → count_by (λ (n : Named). n.name == name) nodes ≡ 0
count_above name opened [] l below = refl
count_above name opened (node ∷ nodes) l below =
    let more = sum_by-cons (has name) node nodes in
    let here = All-head (λ (n : Named). n.name < opened) node nodes below in
    let other : (node.name == name) ≡ false = grind (arith, l, here) in
    omega (arith, more, has_none (node.name == name) other, count_above name opened nodes l (All-tail (λ (n : Named). n.name < opened) node nodes below))

-- children that are opened get names of their own
pub named_once_opened : (held : Named) (rest : List Named) (children : List Subproblem) (first : ℕ)
    → AreNamedOnce (held ∷ rest) → AreNamedBelow first (held ∷ rest) → AreNamedOnce (named_from first children ++ rest)
named_once_opened held rest children first once below name =
    let parts = sum_by-append (has name) (named_from first children) rest in
    let whole = sum_by-cons (has name) held rest in
    ⊎_elim
    (λ (l : name < first). omega (arith, parts, whole, once name, count_before name first children l))
    (λ (l : first ≤ name). omega (arith, parts, whole, count_from name first children, count_above name first (held ∷ rest) l below))
    (cases_lt name first)

pub length_named : (first : ℕ) (nodes : List Subproblem) → length (named_from first nodes) ≡ length nodes
length_named first [] = refl
length_named first (node ∷ nodes) = omega (arith, length_named (first + 1) nodes)

pub below_named : (first : ℕ) (nodes : List Subproblem) → AreNamedBelow (first + length nodes) (named_from first nodes)
below_named first [] = All-nil (λ (n : Named). n.name < first + 0)
below_named first (node ∷ nodes) =
    let P = λ (n : Named). n.name < first + length (node ∷ nodes) in
    All-cons P (record { name = first; node = node }) (named_from (first + 1) nodes) (omega arith)
    (All-weaker (λ (n : Named). n.name < first + 1 + length nodes) P (λ n h. omega (arith, h)) (named_from (first + 1) nodes) (below_named (first + 1) nodes))

pub nodes_of_named : (first : ℕ) (nodes : List Subproblem) → nodes_of (named_from first nodes) ≡ nodes
nodes_of_named first [] = refl
nodes_of_named first (node ∷ nodes) = ap (λ (ns : List Subproblem). node ∷ ns) (nodes_of_named (first + 1) nodes)

pub named_from_more : (first : ℕ) (nodes : List Subproblem) (node : Subproblem)
    → named_from first (nodes ++ node ∷ []) ≡ named_from first nodes ++ record
    { name = first + length nodes; node = node } ∷ []
named_from_more first [] node = ap (λ (n : ℕ). let ns : List Named = record { name = n; node = node } ∷ [] in ns) (omega arith)
named_from_more first (x ∷ xs) node =
    ap (λ (ns : List Named). record { name = first; node = x } ∷ ns)
    (named_from_more (first + 1) xs node ∙ ap (λ (n : ℕ). named_from (first + 1) xs ++ record { name = n; node = node } ∷ []) (omega arith))

none_named : (name : ℕ) (nodes : List Named) → count_by (λ (n : Named). n.name == name) nodes ≡ 0 → All (IsNamedOtherThan name) nodes
none_named name [] e = All-nil (IsNamedOtherThan name)
none_named name (node ∷ nodes) e =
    let more = sum_by-cons (has name) node nodes in
    All-cons (IsNamedOtherThan name) node nodes
    (λ same. let here : (node.name == name) ≡ true = grind (arith, same) in absurd (omega (arith, more, has_one (node.name == name) here, e)))
    (none_named name nodes (omega (arith, more, e)))

-- the others have other names
pub others_named : (held : Named) (rest : List Named) → AreNamedOnce (held ∷ rest) → All (IsNamedOtherThan held.name) rest
others_named held rest once =
    let more = sum_by-cons (has held.name) held rest in
    let here : (held.name == held.name) ≡ true = grind arith in
    none_named held.name rest (omega (arith, more, has_one (held.name == held.name) here, once held.name))

-- ---- Parts of lists, and what holds of all their elements.

pub all_left : {X : Type 0} (P : X → Type 0) (xs ys : List X) → All P (xs ++ ys) → All P xs
all_left P [] ys all = All-nil P
all_left P (x ∷ xs) ys all = All-cons P x xs (All-head P x (xs ++ ys) all) (all_left P xs ys (All-tail P x (xs ++ ys) all))

pub all_right : {X : Type 0} (P : X → Type 0) (xs ys : List X) → All P (xs ++ ys) → All P ys
all_right P [] ys all = all
all_right P (x ∷ xs) ys all = all_right P xs ys (All-tail P x (xs ++ ys) all)

pub all_unmapped : {X Y : Type 0} (P : Y → Type 0) (f : X → Y) (xs : List X) → All P (map f xs) → All (λ x. P (f x)) xs
all_unmapped P f [] all = All-nil (λ x. P (f x))
all_unmapped P f (x ∷ xs) all = All-cons (λ x. P (f x)) x xs (All-head P (f x) (map f xs) all) (all_unmapped P f xs (All-tail P (f x) (map f xs) all))

pub filter_at_most : {X : Type 0} (p : X → Bool) (xs : List X) → length (filter p xs) ≤ length xs
filter_at_most p [] = omega arith
filter_at_most p (x ∷ xs) =
    (elim (p x) as (λ b. length (cond b (x ∷ filter p xs) (filter p xs)) ≤ length (x ∷ xs)) [
      | true ↦ omega (arith, filter_at_most p xs)
      | false ↦ omega (arith, filter_at_most p xs)
    ])

pub nothing_of_length : {X : Type 0} (xs : List X) → length xs ≡ 0 → xs ≡ []
nothing_of_length [] e = refl
nothing_of_length (x ∷ xs) e = absurd (omega arith)

pub none_of_nothing : {X : Type 0} (P : X → Type 0) → Any P [] → ⊥
none_of_nothing P some = absurd (omega arith)

-- ---- The least of a list of numbers, as the list grows.

append_none : (xs : List ℤ) → xs ++ [] ≡ xs
append_none [] = refl
append_none (x ∷ xs) = ap (λ ys. x ∷ ys) (append_none xs)

pub least_of_option : (o : Option ℤ) → IsLeast (option_to_list o) o
least_of_option None = refl
least_of_option (Some n) = least_of_one n
