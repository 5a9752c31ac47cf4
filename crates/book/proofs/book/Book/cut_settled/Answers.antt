use Rattle.std.proofs.Common.{◌≡◌, ◌<◌, ◌≤ℤ◌, ◌+◌, ℕ, zero, suc, ℤ, List, [], ◌∷◌, Option, None, Some, refl, sym, ap, ◌∙◌, subst, inl, inr, length, arith}
use Rattle.std.proofs.Common.{rules, IfSome, option_map}
use Rattle.std.specs.List.{All, Any, Contains}
use Rattle.std.proofs.lemmas.Int.{ints}
use Rattle.std.proofs.lemmas.List.Elements.{All-nil, All-cons, All-head, All-tail}
use Rattle.std.specs.Arc.{arc_value}
use Rattle.branching.specs.Right.{IsUnder, Reaches, IsLeast}
use Rattle.book.specs.State.{Named, BookState, best_makespan}
use Rattle.book.specs.Sound.{bounds_of, note_cut}
use Rattle.book.specs.Views.{state_of, IsKept}
use Rattle.search_log.specs.SearchLog.{Entry, TrailOf}
use Rattle.book.proofs.Recorded.{entries_in, entries_changed, project_kept, cut_state}
use Rattle.book.proofs.Steps.{kept_cut}
use Rattle.book.proofs.book.Book.cut_settled.Goals as goal

-- where the least bound is below the limit, some node's is
some_under : (limit : Option ℤ) (bound : ℤ) (nodes : List Named) → Contains (bounds_of nodes) bound
    → IsUnder limit bound → Any (λ (n : Named). IsUnder limit n.node.bound) nodes
some_under limit bound [] (k, l, e) under = absurd (omega arith)
some_under limit bound (n ∷ ns) (zero, l, e) under = (0, n, omega arith, refl, subst (IsUnder limit) (sym e) under)
some_under limit bound (n ∷ ns) (suc k, l, e) under =
    let later = some_under limit bound ns (k, omega arith, e) under in
    (suc later.0, later.1, omega (arith, later.2), later.3, later.4)

reaches_more : (limit : Option ℤ) (bound more : ℤ) → Reaches limit bound → bound ≤ℤ more → Reaches limit more
reaches_more None bound more reaches le = reaches
reaches_more (Some limit) bound more reaches le = omega (arith, ints)

-- where the least bound reaches the limit, each does
all_reach : (limit : Option ℤ) (bound : ℤ) (nodes : List Named) → All (λ n. bound ≤ℤ n) (bounds_of nodes)
    → Reaches limit bound → All (λ (n : Named). Reaches limit n.node.bound) nodes
all_reach limit bound [] all reaches = All-nil (λ (n : Named). Reaches limit n.node.bound)
all_reach limit bound (n ∷ ns) all reaches =
    All-cons (λ (n : Named). Reaches limit n.node.bound) n ns
    (reaches_more limit bound n.node.bound reaches (All-head (λ n. bound ≤ℤ n) n.node.bound (bounds_of ns) all))
    (all_reach limit bound ns (All-tail (λ n. bound ≤ℤ n) n.node.bound (bounds_of ns) all) reaches)

some_node : (nodes : List Named) (bound : ℤ) → Contains (bounds_of nodes) bound → 0 < length nodes
some_node [] bound (k, l, e) = absurd (omega arith)
some_node (n ∷ ns) bound among = omega arith

-- what is left
same_cut : (s : BookState) (waiting : List Named) (count : ℕ) (trail : Option (List Entry)) → waiting ≡ []
    → count ≡ length s.waiting → trail ≡ option_map (note_cut s.waiting) s.trail
    → ◌≡◌ {A = BookState} (record s { waiting = waiting; cut = s.cut + count; trail = trail }) (cut_state s)
same_cut s waiting count trail e f g = λ i. record s { waiting = e i; cut = s.cut + f i; trail = g i }

pub returns-then-is_below : goal.returns-then-is_below
returns-then-is_below c =
    let least : IsLeast (bounds_of c.self.inside.waiting) (Some c.in-Some.bound) = search rules in
    let under : IsUnder (best_makespan (state_of c.self.inside)) c.in-Some.bound = search rules in
    rw (← c.self.view_is) (inr (inr (some_under (best_makespan (state_of c.self.inside)) c.in-Some.bound c.self.inside.waiting least.0 under), refl))

pub invariant_of-self : goal.invariant_of-self
invariant_of-self c =
    let s = state_of c.self.inside in
    let least : IsLeast (bounds_of c.self.inside.waiting) (Some c.in-Some.bound) = search rules in
    let reaches : Reaches (best_makespan (state_of c.self.inside)) c.in-Some.bound = search rules in
    let count : c.len.result ≡ length c.self.inside.waiting = search rules in
    let cut : entries_in c.clear_open.new.trail ≡ option_map (note_cut s.waiting) s.trail =
    ap entries_in c.clear_open.ensures.trail ∙ entries_changed c.self.inside.trail (note_cut s.waiting) in
    let project = subst (λ (t : Option TrailOf).
    IfSome t (λ (t : TrailOf). t.project ≡ arc_value c.self.inside.project)) (sym c.clear_open.ensures.trail)
    (project_kept (arc_value c.self.inside.project) c.self.inside.trail (note_cut s.waiting)
    c.self.invariant.of_trail) in
    let kept = subst IsKept (sym (same_cut s c.clear_open.new.nodes c.len.result (entries_in c.clear_open.new.trail)
    c.clear_open.ensures.nodes count cut))
    (kept_cut s (all_reach (best_makespan s) c.in-Some.bound c.self.inside.waiting least.1 reaches)
    c.self.invariant.kept) in
    record { kept = kept; of_trail = project }

pub returns : goal.returns
returns c =
    let s = state_of c.self.inside in
    let least : IsLeast (bounds_of c.self.inside.waiting) (Some c.in-Some.bound) = search rules in
    let reaches : Reaches (best_makespan (state_of c.self.inside)) c.in-Some.bound = search rules in
    let count : c.len.result ≡ length c.self.inside.waiting = search rules in
    let cut : entries_in c.clear_open.new.trail ≡ option_map (note_cut s.waiting) s.trail =
    ap entries_in c.clear_open.ensures.trail ∙ entries_changed c.self.inside.trail (note_cut s.waiting) in
    rw (← c.self.view_is)
    (inl (
      (
        some_node c.self.inside.waiting c.in-Some.bound least.0,
        all_reach (best_makespan s) c.in-Some.bound c.self.inside.waiting least.1 reaches,
      ),
      same_cut s c.clear_open.new.nodes c.len.result (entries_in c.clear_open.new.trail) c.clear_open.ensures.nodes
          count cut,
    ))
