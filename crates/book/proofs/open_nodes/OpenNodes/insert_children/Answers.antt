use Rattle.std.proofs.Common.{◌≡◌, ◌<◌, ◌≤◌, ◌+◌, ◌-◌, ◌++◌, ℕ, List, [], ◌∷◌, true, false, take, map, length, get_or, subst, sym, ap, ◌∙◌, arith, rules}
use Rattle.std.proofs.lemmas.List.{take_more, map-append, length-map, take_all}
use Rattle.std.specs.Arc.{arc_value}
use Rattle.branching.specs.Subproblem.{Subproblem}
use Rattle.branching.specs.Right.{is_below}
use Rattle.book.specs.OpenNodes.{InsertsChildren, Inserts}
use Rattle.book.proofs.Names.{filter_at_most}
use Rattle.book.proofs.Filing.{ChildrenSoFar, so_far_none, so_far_skipped, so_far_inserted, all_inserted}
use Rattle.book.proofs.open_nodes.OpenNodes.insert_children.Goals as goal

mapped_more : {X : Type 0} (f : X → Subproblem) (xs : List X) (i : ℕ) (x : X) → i < length xs → x ≡ get_or xs i x
    → map f (take (i + 1) xs) ≡ map f (take i xs) ++ f x ∷ []
mapped_more f xs i x l e = ap (map f) (take_more xs i x l) ∙ (map-append f (take i xs) (get_or xs i x ∷ []) ∙ ap (λ y. map f (take i xs) ++ f y ∷ []) (sym e))

length_taken : {X : Type 0} (f : X → Subproblem) (xs : List X) (i : ℕ) → i ≤ length xs → length (map f (take i xs)) ≤ i
length_taken f xs i l = rw (length-map (take i xs) f) (search rules)

pub loop-child-init : goal.loop-child-init
loop-child-init c = so_far_none c.args.first c.args.limit c.args.self.now c.requires.older

pub loop-child-preserved-then-not-is_below : goal.loop-child-preserved-then-not-is_below
loop-child-preserved-then-not-is_below c =
    let child = arc_value c.child-item.result in
    let over : is_below c.args.limit child.bound ≡ false = search rules in
    subst (λ (ks : List Subproblem). ChildrenSoFar c.args.first c.args.limit ks c.loop-child.next c.args.self.now c.loop-child.self)
    (sym (mapped_more arc_value c.args.children.now c.loop-child.child-index c.child-item.result (omega arith) c.child-item.is))
    (so_far_skipped c.args.first c.args.limit _ child c.loop-child.next _ _ over c.loop-child.invariant)

pub overflow_add-next : goal.overflow_add-next
overflow_add-next c =
    let children = map arc_value (take c.loop-child.child-index c.args.children.now) in
    let few : length children ≤ c.loop-child.child-index = length_taken arc_value c.args.children.now c.loop-child.child-index (omega arith) in
    omega (arith, c.requires.names, c.loop-child.invariant.names, filter_at_most (λ (child : Subproblem). is_below c.args.limit child.bound) children, few)

pub loop-child-preserved : goal.loop-child-preserved
loop-child-preserved c =
    let child = arc_value c.child-item.result in
    let under : is_below c.args.limit child.bound ≡ true = search rules in
    let goes_in : Inserts c.loop-child.next child c.loop-child.self c.insert.new.self = search rules in
    subst (λ (ks : List Subproblem). ChildrenSoFar c.args.first c.args.limit ks (c.loop-child.next + 1) c.args.self.now c.insert.new.self)
    (sym (mapped_more arc_value c.args.children.now c.loop-child.child-index c.child-item.result (omega arith) c.child-item.is))
    (so_far_inserted c.args.first c.args.limit _ child c.loop-child.next _ _ _ under c.loop-child.invariant goes_in)

pub returns-clause-ok : goal.returns-clause-ok
returns-clause-ok c =
    subst (λ ks. InsertsChildren c.args.first c.args.limit (map arc_value ks) (c.loop-child.next - c.args.first) c.args.self.now c.loop-child.self)
    (take_all c.loop-child.child-index c.args.children.now (omega arith))
    (all_inserted c.args.first c.args.limit _ c.loop-child.next _ _ c.loop-child.invariant)
