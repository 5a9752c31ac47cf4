-- Each step of a book leads from a sound state to a sound state.
use Rattle.std.proofs.Common.{◌≡◌, ◌∙◌, ◌<◌, ◌≤◌, ◌+◌, ℕ, Bool, false, List, ◌∷◌, ◌++◌, Option, Some, None, sym, subst, length, length-append, append_assoc}
use Rattle.std.proofs.Common.{arith, slice_get, ◌^◌, ℤ, true, refl, ap, ◌==◌, [], append-nil, ⊎_elim, ◌⊎◌, inl, inr, IfSome, option_map}
use Rattle.std.specs.List.{All}
use Rattle.std.specs.List.Sorted.{IsPermutation}
use Rattle.std.proofs.Math.ListN.{set, replicate}
use Rattle.std.proofs.lemmas.List.Elements.{All-tail, All-append, All-weaker, All-nil, All-cons, All-head}
use Rattle.std.proofs.lemmas.List.Sorted.{IsPermutation-sym, IsPermutation-trans, IsPermutation-middle, IsPermutation-append_left, IsPermutation-append_right}
use Rattle.std.proofs.lemmas.List.Sorted.{All-permutation, length_permutation}
use Rattle.network.specs.Schedule.{ScheduleOf, makespan, IsScheduleFor}
use Rattle.branching.specs.Subproblem.{Subproblem}
use Rattle.branching.specs.Right.{Reaches, is_below, IsUnder}
use Rattle.branching.specs.Fair.{Expansion, IsFair, IsReport, ceiling_of, IsNodeOf, IsRootOf, IsCovered}
use Rattle.book.specs.State.{Named, BookState, in_hand, live, best_makespan}
use Rattle.book.specs.Sound.{AreNamedOnce, AreNamedBelow, nodes_of, IsSound}
use Rattle.book.specs.Steps.{Improves, IsFull, HandsOut, named_from, MayCheckIn, Accepts, ReturnsNode, IsShorterFound, AreAllowed, AreRoots, new_state, MayTake}
use Rattle.book.specs.Steps.{Cuts, Takes, CheckedIn, Ticket}
use Rattle.search_log.specs.RightTrail.{children_below}
use Rattle.book.specs.Views.{IsKept}
use Rattle.book.specs.OpenNodes.{IsNamedOtherThan, InsertsChildren}
use Rattle.book.proofs.Names.{all_left, all_right, filter_at_most, named_once_moved, named_once_right, named_once_opened, length_named, below_named}
use Rattle.book.proofs.Names.{others_named}
use Rattle.book.proofs.Filing.{in_hand_filled, in_hand_emptied, held_first, in_hand_none}
use Rattle.book.proofs.Recorded.{cut_state, recorded_moved, recorded_cut, recorded_improved, recorded_accepted}
use Rattle.book.proofs.Covering.{covered_moved, covered_cut, covered_improved, covered_expanded}
use Rattle.std.specs.Option.{is_some, option_or}
use Rattle.search_log.specs.Recording.{checked_in}
use Rattle.std.proofs.lemmas.List.Sums.{count_by-le-length}
use Rattle.network.specs.Problem.{Problem, arcs_of}
use Rattle.network.specs.Walk.{HasPositiveCycle}
use Rattle.branching.proofs.Covers.{root_covers, none_on_cycle}
use Rattle.book.specs.Events.{Step, Run, Response}
use Rattle.book.specs.declared.events.Request.{Request}
use Rattle.book.specs.declared.answers.Take.TheVariants as answer

-- ---- nodes that move

sound_moved : (s : BookState) (waiting : List Named) (hands : List (Option Named)) (taken : ℕ) → IsSound s
    → IsPermutation (live s) (waiting ++ in_hand hands)
    → IsSound (record s { waiting = waiting; hands = hands; taken = taken })
sound_moved s waiting hands taken sound moved =
    let new = waiting ++ in_hand hands in
    record {
      covered = covered_moved s.project s.best (live s) new moved sound.covered;
      named_once = named_once_moved (live s) new moved sound.named_once;
      named_below = All-permutation (λ (n : Named). n.name < s.opened) (live s) new moved sound.named_below;
      counted = omega (arith, sound.counted, length_permutation (live s) new moved);
    }

-- the first open node moves into an empty hand
pub kept_handed_out : (old : BookState) (worker : ℕ) (ticket : Ticket) (new : BookState) → IsFull old.hands worker false
    → old.taken < old.limit → HandsOut old worker ticket new → IsKept old → IsKept new
kept_handed_out old worker ticket new free within out kept =
    let hands = set old.hands worker (Some out.first) in
    let filled = in_hand_filled old.hands worker out.first free in
    let moved : IsPermutation (live old) (new.waiting ++ in_hand hands) =
    IsPermutation-trans _ _ _ (IsPermutation-append_left (in_hand old.hands) _ _ out.moved)
    (IsPermutation-trans _ _ _ (IsPermutation-sym _ _ (IsPermutation-middle new.waiting out.first (in_hand old.hands)))
    (IsPermutation-append_right new.waiting _ _ filled)) in
    subst IsKept (sym out.others)
    (record {
      sound = sound_moved old new.waiting hands (old.taken + 1) kept.sound moved;
      within = record {
        tickets = omega (arith, kept.within.tickets, length_permutation _ _ filled);
        taken = omega arith;
        limit = kept.within.limit;
        opened = kept.within.opened;
      };
      recorded = recorded_moved old new.waiting hands (old.taken + 1) moved kept.recorded;
    })

-- the name of a node in hand is not among the open ones
pub not_open : (s : BookState) (worker : ℕ) (held : Named) → IsSound s → slice_get s.hands worker ≡ Some (Some held)
    → All (IsNamedOtherThan held.name) s.waiting
not_open s worker held sound holds =
    let emptied = in_hand (set s.hands worker None) in
    let once = named_once_moved (live s) (held ∷ (s.waiting ++ emptied)) (held_first s worker held holds) sound.named_once in
    all_left (IsNamedOtherThan held.name) s.waiting emptied (others_named held (s.waiting ++ emptied) once)

-- a node in hand goes back
pub kept_returned : (old : BookState) (worker name : ℕ) (new : BookState) → ReturnsNode old worker name new → IsKept old → IsKept new
kept_returned old worker name new returned kept =
    let hands = set old.hands worker None in
    let moved : IsPermutation (live old) (new.waiting ++ in_hand hands) =
    IsPermutation-trans _ _ _ (held_first old worker returned.held returned.holds)
    (IsPermutation-append_left (in_hand hands) _ _ returned.moved) in
    subst IsKept (sym returned.others)
    (record {
      sound = sound_moved old new.waiting hands old.taken kept.sound moved;
      within = record {
        tickets = omega (arith, kept.within.tickets, length_permutation _ _ (in_hand_emptied old.hands worker returned.held returned.holds));
        taken = kept.within.taken;
        limit = kept.within.limit;
        opened = kept.within.opened;
      };
      recorded = recorded_moved old new.waiting hands old.taken moved kept.recorded;
    })

-- ---- all open nodes are cut

pub kept_cut : (s : BookState) → All (λ (n : Named). Reaches (best_makespan s) n.node.bound) s.waiting → IsKept s → IsKept (cut_state s)
kept_cut s reached kept = record {
  sound = record {
    covered = covered_cut s.project s.best s.waiting (in_hand s.hands) reached kept.sound.covered;
    named_once = named_once_right s.waiting (in_hand s.hands) kept.sound.named_once;
    named_below = all_right (λ (n : Named). n.name < s.opened) s.waiting (in_hand s.hands) kept.sound.named_below;
    counted = omega (arith, kept.sound.counted, length-append s.waiting (in_hand s.hands));
  };
  within = record { tickets = kept.within.tickets; taken = kept.within.taken; limit = kept.within.limit; opened = kept.within.opened };
  recorded = recorded_cut s reached kept.sound kept.recorded;
}

-- ---- a schedule becomes the best

pub kept_improved : (s : BookState) (found new : Option ScheduleOf) (improved : Bool)
    → Improves s.best found improved new → IfSome found (IsScheduleFor s.project) → IsKept s
    → IsKept (record s { best = new })
kept_improved s found new improved improves of_found kept = record {
  sound = record {
    covered = covered_improved s.project s.best found new improved (nodes_of (live s)) improves of_found kept.sound.covered;
    named_once = kept.sound.named_once;
    named_below = kept.sound.named_below;
    counted = kept.sound.counted;
  };
  within = record { tickets = kept.within.tickets; taken = kept.within.taken; limit = kept.within.limit; opened = kept.within.opened };
  recorded = recorded_improved s found new improved improves kept.recorded;
}

-- ---- a node gives way to its children

pub kept_accepted : (old : BookState) (worker name : ℕ) (report : Expansion) (done : CheckedIn) (new : BookState)
    → IsReport report → MayCheckIn old worker name report → Accepts old worker name report done new → IsKept old
    → IsKept new
kept_accepted old worker name report done new told may accepts kept =
    let fair : IsFair report = told.fair in
    let opened = children_below (best_makespan new) report.children in
    let children = named_from old.opened opened in
    let hands = set old.hands worker None in
    let rest = old.waiting ++ in_hand hands in
    let emptied = in_hand_emptied old.hands worker may.held may.holds in
    let before : IsPermutation (live old) (may.held ∷ rest) = held_first old worker may.held may.holds in
    let after : IsPermutation (children ++ rest) (new.waiting ++ in_hand hands) =
    subst (λ ns. IsPermutation ns (new.waiting ++ in_hand hands))
    (append_assoc children old.waiting (in_hand hands))
    (IsPermutation-append_left (in_hand hands) _ _ accepts.opened) in
    let once : AreNamedOnce (may.held ∷ rest) = named_once_moved (live old) (may.held ∷ rest) before kept.sound.named_once in
    let below = All-permutation (λ (n : Named). n.name < old.opened) (live old) (may.held ∷ rest) before kept.sound.named_below in
    let covered = covered_moved old.project old.best (live old) (may.held ∷ rest) before kept.sound.covered in
    let few : length opened ≤ length report.children = filter_at_most (λ (child : Subproblem). is_below (best_makespan new) child.bound) report.children in
    let P = λ (n : Named). n.name < old.opened + done.opened in
    let names : length children ≡ done.opened = length_named old.opened opened ∙ sym accepts.count in
    let new_names : AreNamedBelow (old.opened + done.opened) children =
    subst (λ (n : ℕ). AreNamedBelow (old.opened + n) children) (sym accepts.count) (below_named old.opened opened)
    in
    subst IsKept (sym accepts.others)
    (record {
      sound = record {
        covered = covered_moved old.project new.best (children ++ rest) (new.waiting ++ in_hand hands) after
            (covered_expanded old.project old.best new.best done.improved old.opened may.held rest report fair
            may.project may.pairs may.in_time accepts.best covered);
        named_once = named_once_moved (children ++ rest) (new.waiting ++ in_hand hands) after (named_once_opened may.held rest opened old.opened once below);
        named_below =
            All-permutation P (children ++ rest) (new.waiting ++ in_hand hands) after
            (All-append P children rest new_names
            (All-weaker (λ (n : Named). n.name < old.opened) P (λ n h. omega (arith, h)) rest
            (All-tail (λ (n : Named). n.name < old.opened) may.held rest below)));
        counted = omega (arith, kept.sound.counted, length_permutation _ _ before, length_permutation _ _ after, length-append children rest, names);
      };
      within = record {
        tickets = omega (arith, kept.within.tickets, length_permutation _ _ emptied);
        taken = kept.within.taken;
        limit = kept.within.limit;
        opened = omega (arith, kept.within.opened, fair.few, few, accepts.count);
      };
      recorded = recorded_accepted old worker name report done new told may accepts kept.sound kept.recorded;
    })

-- ---- What is found in a report is counted, and a report's children are opened.

-- nothing shorter was found
pub not_improved : (old found : Option ScheduleOf) (shorter limit : Option ℤ) → limit ≡ ceiling_of old
    → IsShorterFound found limit shorter → is_some shorter ≡ false → Improves old found false old
    × (option_or shorter limit ≡ ceiling_of old)
not_improved old found None limit is none e = ((subst (λ (l : Option ℤ). IfSome found (λ s. Reaches l (makespan s.starts))) is none, refl), is)
not_improved old found (Some length) limit is none e = absurd (cc)

-- a shorter schedule was found
pub improved : (old found new : Option ScheduleOf) (shorter limit : Option ℤ) → limit ≡ ceiling_of old
    → IsShorterFound found limit shorter → is_some shorter ≡ true → new ≡ found → Improves old found true new
    × (option_or shorter limit ≡ ceiling_of new)
improved old found new None limit is some e same = absurd (cc)
improved old found new (Some length) limit is (s, f, l, below) e same = (
  (s, f, subst (λ (n : ℤ). IsUnder (ceiling_of old) n) l (subst (λ (o : Option ℤ). IsUnder o length) is below), same),
  ap (λ (n : ℤ). let o : Option ℤ = Some n in o) l ∙ sym (ap ceiling_of (same ∙ f)),
)

-- the children were opened
pub accepts : (old : BookState) (worker name : ℕ) (report : Expansion) (better : Bool) (limit : Option ℤ) (count : ℕ)
    (new : BookState) → Improves old.best report.found better new.best → limit ≡ best_makespan new
    → InsertsChildren old.opened limit report.children count old.waiting new.waiting
    → new.trail ≡ option_map (checked_in limit name report) old.trail
    → new ≡ record old {
      best = new.best;
      waiting = new.waiting;
      hands = set old.hands worker None;
      opened =
          old.opened + count;
      checked = old.checked + 1;
      trail = new.trail;
    }
    → Accepts old worker name report (record { opened = count; improved = better }) new
accepts old worker name report better limit count new improves is inserts noted others = record {
  best = improves;
  count = inserts.count_is ∙ ap (λ (l : Option ℤ). length (children_below l report.children)) is;
  opened = subst (λ (l : Option ℤ). IsPermutation (named_from old.opened (children_below l report.children) ++ old.waiting) new.waiting) is inserts.nodes;
  noted = subst (λ (l : Option ℤ). new.trail ≡ option_map (checked_in l name report) old.trail) is noted;
  others = others;
}

-- the open nodes are named below the next name
pub older_than_next : (s : BookState) → IsKept s → AreNamedBelow s.opened s.waiting
older_than_next s kept = all_left (λ (n : Named). n.name < s.opened) s.waiting (in_hand s.hands) kept.sound.named_below

-- names do not run out
pub names_last : (s : BookState) (report : Expansion) → IsKept s → IsFair report → s.opened + length report.children < 2 ^ 64
names_last s report kept fair = omega (arith, kept.within.opened, kept.within.tickets, kept.within.taken, kept.within.limit, fair.few)

pub names_last_opened : (s : BookState) (report : Expansion) (limit : Option ℤ) (count : ℕ) → IsKept s → IsFair report
    → count ≡ length (children_below limit report.children) → s.opened + count < 2 ^ 64
names_last_opened s report limit count kept fair is =
    omega (
      arith,
      is,
      names_last s report kept fair,
      filter_at_most (λ (child : Subproblem). is_below limit child.bound) report.children,
    )

-- ---- A book that is opened is sound.

-- a list of one element is the only order of it
pub only_order : (x : Named) (new : List Named) → IsPermutation (x ∷ []) new → new ≡ x ∷ []
only_order x new moved = whole new (length_permutation (x ∷ []) new moved)
    (All-permutation (λ y. y ≡ x) (x ∷ []) new moved (All-cons (λ y. y ≡ x) x [] refl (All-nil (λ y. y ≡ x))))
  where
    whole : (new : List Named) → length new ≡ 1 → All (λ y. y ≡ x) new → new ≡ x ∷ []
    whole [] e all = absurd (omega arith)
    whole (y ∷ []) e all = ap (λ (z : Named). z ∷ []) (All-head (λ y. y ≡ x) y [] all)
    whole (y ∷ z ∷ more) e all = absurd (omega arith)

no_nodes_cover : (p : Problem) → HasPositiveCycle (arcs_of p []) → IsCovered p None []
no_nodes_cover p cycle = record {
  of_best = tt;
  of_nodes = All-nil (IsNodeOf p);
  covers = λ s feasible shorter. absurd (none_on_cycle p cycle s feasible);
}

first_covers : (p : Problem) (nodes : List Named) → AreRoots p nodes → IsCovered p None (nodes_of nodes)
first_covers p nodes first =
    ⊎_elim
    (λ (opened : (root : Subproblem) × IsRootOf p root × (nodes ≡ record { name = 0; node = root } ∷ [])).
    subst (λ (ns : List Named). IsCovered p None (nodes_of ns)) (sym opened.2) (root_covers p opened.0 opened.1))
    (λ (none : HasPositiveCycle (arcs_of p []) × (nodes ≡ [])).
    subst (λ (ns : List Named). IsCovered p None (nodes_of ns)) (sym none.1) (no_nodes_cover p none.0))
    first

-- the root's name is 0, and there is one root at most
first_names : (p : Problem) (nodes : List Named) → AreRoots p nodes → (length nodes ≤ 1) × All (λ (n : Named). n.name < length nodes) nodes
first_names p nodes first =
    ⊎_elim
    (λ (opened : (root : Subproblem) × IsRootOf p root × (nodes ≡ record { name = 0; node = root } ∷ [])).
    let n : Named = record { name = 0; node = opened.0 } in
    subst (λ (ns : List Named). (length ns ≤ 1) × All (λ (n : Named). n.name < length ns) ns) (sym opened.2)
    (omega arith, All-cons (λ (n : Named). n.name < 1) n [] (omega arith) (All-nil (λ (n : Named). n.name < 1))))
    (λ (none : HasPositiveCycle (arcs_of p []) × (nodes ≡ [])).
    subst (λ (ns : List Named). (length ns ≤ 1) × All (λ (n : Named). n.name < length ns) ns) (sym none.1) (omega arith, All-nil (λ (n : Named). n.name < 0)))
    first

pub kept_opened : (p : Problem) (workers takes : ℕ) (nodes : List Named) → AreAllowed workers takes → AreRoots p nodes
    → IsKept (new_state p workers takes nodes)
kept_opened p workers takes nodes allowed first =
    let names = first_names p nodes first in
    let hands : List (Option Named) = replicate workers None in
    let empty : in_hand hands ≡ [] = in_hand_none workers in
    let whole : nodes ≡ nodes ++ in_hand hands = sym (ap (λ ns. nodes ++ ns) empty ∙ append-nil nodes) in
    let held : length (in_hand hands) ≡ 0 = ap length empty in
    let count : length (nodes ++ in_hand hands) ≡ length nodes = ap length (sym whole) in
    record {
      sound = record {
        covered = subst (λ ns. IsCovered p None (nodes_of ns)) whole (first_covers p nodes first);
        named_once = subst AreNamedOnce whole (λ name. omega (arith, names.0, count_by-le-length (λ (n : Named). n.name == name) nodes));
        named_below = subst (λ ns. All (λ (n : Named). n.name < length nodes) ns) whole names.1;
        counted = omega (arith, count);
      };
      within = record {
        tickets = omega (arith, held);
        taken = omega arith;
        limit = allowed.few_takes;
        opened = omega (arith, names.0);
      };
      recorded = tt;
    }

-- ---- A run goes on by one step.

pub run_more : (old between new : BookState) (events : List Request) (replies : List Response) (event : Request)
    (reply : Response) → Run old events replies between → Step between event reply new
    → Run old (events ++ event ∷ []) (replies ++ reply ∷ []) new
run_more old between new [] [] event reply run step = (new, subst (λ (s : BookState). Step s event reply new) run step, refl)
run_more old between new (e ∷ events) (r ∷ replies) event reply run step = (run.0, run.1, run_more run.0 between new events replies event reply run.2 step)
run_more old between new [] (r ∷ replies) event reply run step = absurd run
run_more old between new (e ∷ events) [] event reply run step = absurd run

-- ---- What a take that hands a node out comes to.

-- a book that still has open nodes once it was looked whether to cut them is as it was
pub takes_ticket : (old between new : BookState) (worker : ℕ) (ticket : Ticket) → MayTake old worker → Cuts old between
    → 0 < length between.waiting → between.taken < between.limit → HandsOut between worker ticket new
    → Takes old worker (answer.Ticket ticket) new
takes_ticket old between new worker ticket may (inl settled) some within out =
    let none : between.waiting ≡ [] = ap (λ (s : BookState). s.waiting) settled.1 in
    absurd (omega (arith, some, ap (λ (ns : List Named). length ns) none))
takes_ticket old between new worker ticket may (inr ((inl none), same)) some within out =
    absurd (omega (arith, some, ap (λ (s : BookState). length s.waiting) same, ap (λ (ns : List Named). length ns) none))
takes_ticket old between new worker ticket may (inr ((inr can), same)) some within out =
    (may, can, subst (λ (s : BookState). s.taken < s.limit) same within, subst (λ (s : BookState). HandsOut s worker ticket new) same out)
