-- The trail of a book, as nodes end and children are opened.
use Rattle.std.proofs.Common.{◌≡◌, ◌≢◌, ℕ, ◌+◌, ◌<◌, List, [], ◌∷◌, ◌++◌, length, map, refl, sym, ap, ◌∙◌, subst, arith, append_assoc, append-nil}
use Rattle.std.proofs.Common.{length-append, Option, ⊎_elim, Bool, true, false, get_or, Some, None, slice_get, ℤ, IfSome, option_map}
use Rattle.std.specs.List.{All, count_by}
use Rattle.std.proofs.Math.Seq.{get_or-append_seam}
use Rattle.std.proofs.lemmas.List.{get_or_append_left, length-map}
use Rattle.std.proofs.lemmas.List.Elements.{All-nil, All-cons, All-head, All-tail, All-append, All-filter}
use Rattle.network.specs.Problem.{Problem}
use Rattle.network.specs.declared.parts.Pair.{Pair}
use Rattle.branching.specs.Subproblem.{Subproblem}
use Rattle.branching.specs.Fair.{IsNodeOf, IsChildOf, ceiling_of, Expansion, IsReport}
use Rattle.branching.specs.Right.{Reaches, IsCutUnder, is_below, IsInTime}
use Rattle.branching.proofs.Together.{node_cut}
use Rattle.book.specs.State.{Named, BookState, in_hand, live, best_makespan}
use Rattle.book.specs.Sound.{AreNamedOnce, nodes_of, note_cut, IsNoted, IsSound, IsRecorded}
use Rattle.book.specs.Steps.{named_from, Improves, MayCheckIn, Accepts, CheckedIn}
use Rattle.book.specs.OpenNodes.{IsNamedOtherThan}
use Rattle.search_log.specs.SearchLog.{Ending, was_cut, Entry, no_entry, entry_at, path_to, not_ended, TrailOf, with_entries}
use Rattle.search_log.specs.RightTrail.{IsRightTrail, IsRightEnding, has_ended, children_below, IsWholeTree}
use Rattle.search_log.specs.Recording.{ended_as, child_entry, fates_under, ending_of, checked_in}
use Rattle.book.proofs.Names.{named_once_right, others_named, named_once_moved}
use Rattle.search_log.proofs.TrailGrowing.{path_kept, path_opens, child_forced, child_entry_is, ended_paths, trail_falls}
use Rattle.search_log.proofs.TrailSteps.{ended_cases, length_ended, extends_grown, trail_grown, count_ended, ending_right, ending_ends, children_open}
use Rattle.search_log.proofs.TrailSteps.{one_ended, count_children, all_ended}
use Rattle.std.specs.List.Sorted.{IsPermutation}
use Rattle.std.proofs.Math.ListN.{set}
use Rattle.std.proofs.lemmas.Int.{ints}
use Rattle.std.proofs.lemmas.List.Sums.{sum_by-append}
use Rattle.std.proofs.lemmas.List.Sorted.{IsPermutation-append_left, All-permutation}
use Rattle.network.specs.Schedule.{ScheduleOf, makespan}
use Rattle.book.proofs.Filing.{held_first}

-- a node that goes on is noted as before where another ends and children come
noted_kept : (entries : List Entry) (name : ℕ) (ending : Ending) (more : List Entry) (n : Named) → n.name ≢ name
    → n.name < length entries → IsNoted entries n → IsNoted (ended_as entries name ending ++ more) n
noted_kept entries name ending more n other known noted = record {
  going =
      ap (λ (e : Entry). e.ending) (get_or_append_left (ended_as entries name ending) more no_entry n.name
      (omega (arith, known, length_ended entries name ending)))
      ∙ (⊎_elim
      (λ (h : (n.name ≡ name) × ((entry_at (ended_as entries name ending) n.name).ending ≡ ending)). absurd (other h.0))
      (λ (h : (entry_at (ended_as entries name ending) n.name).ending ≡ (entry_at entries n.name).ending). h ∙ noted.going)
      (ended_cases entries name ending n.name));
  pairs = noted.pairs ∙ sym ((extends_grown entries name ending more).path n.name known);
}

pub all_noted : (entries : List Entry) (name : ℕ) (ending : Ending) (more : List Entry) (nodes : List Named)
    → All (IsNamedOtherThan name) nodes → All (λ (n : Named). n.name < length entries) nodes
    → All (IsNoted entries) nodes → All (IsNoted (ended_as entries name ending ++ more)) nodes
all_noted entries name ending more [] others known noted = All-nil (IsNoted (ended_as entries name ending ++ more))
all_noted entries name ending more (n ∷ nodes) others known noted =
    All-cons (IsNoted (ended_as entries name ending ++ more)) n nodes
    (noted_kept entries name ending more n (All-head (IsNamedOtherThan name) n nodes others)
    (All-head (λ (n : Named). n.name < length entries) n nodes known) (All-head (IsNoted entries) n nodes noted))
    (all_noted entries name ending more nodes (All-tail (IsNamedOtherThan name) n nodes others)
    (All-tail (λ (n : Named). n.name < length entries) n nodes known) (All-tail (IsNoted entries) n nodes noted))

-- ---- nodes that are cut

-- what the trail is after nodes were cut, while others go on
pub record AreCut (p : Problem) (limit : Option ℤ) (old : List Entry) (count : ℕ) (rest : List Named) (new : List Entry) : Type 0 where
  pub right : IsRightTrail p limit new
  pub all_named : length new ≡ length old
  pub noted : All (IsNoted new) rest
  pub ended : count_by (λ (e : Entry). has_ended e.ending) new ≡ count_by (λ (e : Entry). has_ended e.ending) old + count

pub nodes_cut : (p : Problem) (limit : Option ℤ) (nodes rest : List Named) (entries : List Entry)
    → IsRightTrail p limit entries → All (λ (n : Named). n.name < length entries) (nodes ++ rest)
    → All (IsNoted entries) (nodes ++ rest) → AreNamedOnce (nodes ++ rest)
    → All (IsNodeOf p) (nodes_of nodes) → All (λ (n : Named). Reaches limit n.node.bound) nodes
    → AreCut p limit entries (length nodes) rest (note_cut nodes entries)
nodes_cut p limit [] rest entries right known noted once of_nodes reach = record { right = right; all_named = refl; noted = noted; ended = omega arith }
nodes_cut p limit (n ∷ nodes) rest entries right known noted once of_nodes reach =
    let here = All-head (λ (n : Named). n.name < length entries) n (nodes ++ rest) known in
    let this = All-head (IsNoted entries) n (nodes ++ rest) noted in
    let node : IsNodeOf p n.node = All-head (IsNodeOf p) n.node (nodes_of nodes) of_nodes in
    let cut : IsCutUnder p n.node.pairs limit =
    subst (λ (p : Problem). IsCutUnder p n.node.pairs limit) node.project
    (node_cut n.node limit node.is_node (All-head (λ (n : Named). Reaches limit n.node.bound) n nodes reach)) in
    let ended = ended_as entries n.name was_cut in
    let same : ended ++ [] ≡ ended = append-nil ended in
    let path : path_to (ended ++ []) n.name ≡ path_to entries n.name = (extends_grown entries n.name was_cut []).path n.name here in
    let own : IsRightEnding p limit (ended ++ []) n.name was_cut = rw path (subst (λ (ps : List Pair). IsCutUnder p ps limit) this.pairs cut) in
    let right_now : IsRightTrail p limit ended = subst (IsRightTrail p limit) same (trail_grown p limit entries n.name was_cut [] here right own (λ m. refl)) in
    let longer : length ended ≡ length entries = length_ended entries n.name was_cut in
    let others : All (IsNamedOtherThan n.name) (nodes ++ rest) = others_named n (nodes ++ rest) once in
    let noted_now : All (IsNoted ended) (nodes ++ rest) =
    subst (λ (es : List Entry). All (IsNoted es) (nodes ++ rest)) same
    (all_noted entries n.name was_cut [] (nodes ++ rest) others
    (All-tail (λ (n : Named). n.name < length entries) n (nodes ++ rest) known)
    (All-tail (IsNoted entries) n (nodes ++ rest) noted)) in
    let later = nodes_cut p limit nodes rest ended right_now
    (subst (λ (count : ℕ). All (λ (n : Named). n.name < count) (nodes ++ rest)) (sym longer)
    (All-tail (λ (n : Named). n.name < length entries) n (nodes ++ rest) known)) noted_now
    (named_once_right (n ∷ []) (nodes ++ rest) once) (All-tail (IsNodeOf p) n.node (nodes_of nodes) of_nodes)
    (All-tail (λ (n : Named). Reaches limit n.node.bound) n nodes reach) in
    record {
      right = later.right;
      all_named = later.all_named ∙ longer;
      noted = later.noted;
      ended = omega (arith, later.ended, count_ended entries n.name was_cut here this.going refl);
    }

-- ---- children that are opened

-- a child's entry tells its pairs
child_noted : (node child : Subproblem) (name : ℕ) (before later : List Entry) → name < length before
    → path_to before name ≡ node.pairs → IsChildOf node child
    → IsNoted (before ++ child_entry name (length node.pairs) child ∷ later)
    (record { name = length before; node = child })
child_noted node child name before later known path child_of =
    let entry = child_entry name (length node.pairs) child in
    let here : entry_at (before ++ entry ∷ later) (length before) ≡ entry = get_or-append_seam before entry later no_entry in
    let is = child_entry_is node child child_of.first name child_of.adds in
    let own = path_opens before later entry (record { parent = name; pair = child_of.first }) (ap (λ (e : Entry). e.origin) is) known in
    let parent : path_to (before ++ entry ∷ later) name ≡ node.pairs = path_kept before (entry ∷ later) name known ∙ path in
    let forced : entry.forced ≡ child_of.adds.forced = child_forced node child child_of.first child_of.adds in
    record {
      going = ap (λ (e : Entry). e.ending) here;
      pairs =
          child_of.adds.pairs ∙ sym (append_assoc node.pairs (child_of.first ∷ []) child_of.adds.forced)
          ∙ sym (own ∙ (ap (λ (ps : List Pair). (ps ++ child_of.first ∷ []) ++ entry.forced) parent
          ∙ ap (λ (fs : List Pair). (node.pairs ++ child_of.first ∷ []) ++ fs) forced));
    }

pub children_noted : (node : Subproblem) (name : ℕ) (children : List Subproblem) (before : List Entry)
    → name < length before → path_to before name ≡ node.pairs → All (IsChildOf node) children
    → All (IsNoted (before ++ map (child_entry name (length node.pairs)) children))
    (named_from (length before) children)
children_noted node name [] before known path children_of = All-nil (IsNoted (before ++ []))
children_noted node name (child ∷ children) before known path children_of =
    let entry = child_entry name (length node.pairs) child in
    let later = map (child_entry name (length node.pairs)) children in
    let longer : length (before ++ entry ∷ []) ≡ length before + 1 = length-append before (entry ∷ []) in
    All-cons (IsNoted (before ++ entry ∷ later)) (record { name = length before; node = child }) (named_from (length before + 1) children)
    (child_noted node child name before later known path (All-head (IsChildOf node) child children children_of))
    (subst (λ (es : List Entry). All (IsNoted es) (named_from (length before + 1) children)) (append_assoc before (entry ∷ []) later)
    (subst (λ (next : ℕ). All (IsNoted ((before ++ entry ∷ []) ++ later)) (named_from next children)) longer
    (children_noted node name children (before ++ entry ∷ []) (omega (arith, known, longer))
    (path_kept before (entry ∷ []) name known ∙ path) (All-tail (IsChildOf node) child children children_of))))

-- ---- Each step of a book leaves its trail right.

-- a trail that changes, where one is kept
changed : (trail : Option (List Entry)) (f : List Entry → List Entry) (P Q : List Entry → Type 0)
    → ((entries : List Entry) → P entries → Q (f entries)) → IfSome trail P → IfSome (option_map f trail) Q
changed None f P Q step old = tt
changed (Some entries) f P Q step old = step entries old

unchanged : (trail : Option (List Entry)) (P Q : List Entry → Type 0) → ((entries : List Entry) → P entries → Q entries) → IfSome trail P → IfSome trail Q
unchanged None P Q step old = tt
unchanged (Some entries) P Q step old = step entries old

-- ---- nodes that move

pub recorded_moved : (s : BookState) (waiting : List Named) (hands : List (Option Named)) (taken : ℕ)
    → IsPermutation (live s) (waiting ++ in_hand hands) → IfSome s.trail (IsRecorded s)
    → IfSome s.trail (IsRecorded (record s { waiting = waiting; hands = hands; taken = taken }))
recorded_moved s waiting hands taken moved =
    unchanged s.trail (IsRecorded s) (IsRecorded (record s { waiting = waiting; hands = hands; taken = taken }))
    (λ entries old. record {
      right = old.right;
      all_named = old.all_named;
      noted =
          All-permutation (IsNoted entries) (live s) (waiting ++ in_hand hands) moved old.noted;
      ended = old.ended;
    })

-- ---- a best that falls

in_time_self : (limit : Option ℤ) → IsInTime limit limit
in_time_self None = tt
in_time_self (Some limit) = omega (arith, ints)

in_time_trans : (a b c : Option ℤ) → IsInTime a b → IsInTime b c → IsInTime a c
in_time_trans None b c ab bc = tt
in_time_trans (Some a) None c ab bc = absurd ab
in_time_trans (Some a) (Some b) None ab bc = absurd bc
in_time_trans (Some a) (Some b) (Some c) ab bc = omega (arith, ints, ab, bc)

-- the new best is in time for what the old one was
improves_in_time : (old found new : Option ScheduleOf) (improved : Bool) → Improves old found improved new → IsInTime (ceiling_of old) (ceiling_of new)
improves_in_time old found new false improves =
    subst (λ (o : Option ScheduleOf). IsInTime (ceiling_of old) (ceiling_of o)) (sym improves.1)
    (in_time_self (ceiling_of old))
improves_in_time None found new true improves = tt
improves_in_time (Some old) found new true (schedule, is_found, under, same) =
    subst (λ (o : Option ScheduleOf). IsInTime (ceiling_of (Some old)) (ceiling_of o)) (sym (same ∙ is_found)) (omega (arith, ints, under))

-- what was found is at least the new best
found_reaches : (old found new : Option ScheduleOf) (improved : Bool) → Improves old found improved new
    → IfSome found (λ f. Reaches (ceiling_of new) (makespan f.starts))
found_reaches old found new false improves =
    subst (λ (o : Option ScheduleOf). IfSome found (λ f. Reaches (ceiling_of o) (makespan f.starts))) (sym improves.1)
    improves.0
found_reaches old found new true (schedule, is_found, under, same) =
    subst (λ (o : Option ScheduleOf). IfSome o (λ f. Reaches (ceiling_of new) (makespan f.starts))) (sym is_found)
    (subst (λ (o : Option ScheduleOf). Reaches (ceiling_of o) (makespan schedule.starts)) (sym (same ∙ is_found)) (omega (arith, ints)))

pub recorded_improved : (s : BookState) (found new : Option ScheduleOf) (improved : Bool)
    → Improves s.best found improved new → IfSome s.trail (IsRecorded s)
    → IfSome s.trail (IsRecorded (record s { best = new }))
recorded_improved s found new improved improves =
    unchanged s.trail (IsRecorded s) (IsRecorded (record s { best = new }))
    (λ entries old. record {
      right = trail_falls s.project (ceiling_of s.best) (ceiling_of new) entries
          (improves_in_time s.best found new improved improves) old.right;
      all_named = old.all_named;
      noted = old.noted;
      ended = old.ended;
    })

-- ---- open nodes that are cut

nodes_left : (p : Problem) (xs ys : List Named) → All (IsNodeOf p) (nodes_of (xs ++ ys)) → All (IsNodeOf p) (nodes_of xs)
nodes_left p [] ys all = All-nil (IsNodeOf p)
nodes_left p (x ∷ xs) ys all = All-cons (IsNodeOf p) x.node (nodes_of xs)
    (All-head (IsNodeOf p) x.node (nodes_of (xs ++ ys)) all)
    (nodes_left p xs ys (All-tail (IsNodeOf p) x.node (nodes_of (xs ++ ys)) all))

abbrev pub cut_state : BookState → BookState
cut_state s = record s { waiting = []; cut = s.cut + length s.waiting; trail = option_map (note_cut s.waiting) s.trail }

pub recorded_cut : (s : BookState) → All (λ (n : Named). Reaches (best_makespan s) n.node.bound) s.waiting → IsSound s
    → IfSome s.trail (IsRecorded s) → IfSome (option_map (note_cut s.waiting) s.trail) (IsRecorded (cut_state s))
recorded_cut s reach sound =
    changed s.trail (note_cut s.waiting) (IsRecorded s) (IsRecorded (cut_state s))
    (λ entries old.
    let cut = nodes_cut s.project (best_makespan s) s.waiting (in_hand s.hands) entries old.right
    (subst (λ (count : ℕ). All (λ (n : Named). n.name < count) (live s)) (sym old.all_named) sound.named_below)
    old.noted sound.named_once (nodes_left s.project s.waiting (in_hand s.hands) sound.covered.of_nodes) reach in
    record { right = cut.right; all_named = cut.all_named ∙ old.all_named; noted = cut.noted; ended = omega (arith, cut.ended, old.ended) })

-- ---- a node that is checked in

-- the trail after the check-in of a report on a node that is noted
pub recorded_after : (p : Problem) (old new : Option ℤ) (report : Expansion) (name : ℕ) (held : Named)
    (rest : List Named) (entries : List Entry) (opened ended : ℕ) → IsReport report → report.node.project ≡ p
    → IsInTime old new → IsInTime report.ceiling old
    → IfSome report.found (λ f. Reaches new (makespan f.starts)) → held.name ≡ name
    → held.node.pairs ≡ report.node.pairs → AreNamedOnce (held ∷ rest)
    → All (λ (n : Named). n.name < length entries) (held ∷ rest) → All (IsNoted entries) (held ∷ rest)
    → IsRightTrail p old entries → length entries ≡ opened → count_by (λ (e : Entry). has_ended e.ending) entries ≡ ended
    → IsRightTrail p new (checked_in new name report entries)
    × (length (checked_in new name report entries) ≡ opened + length (children_below new report.children))
    × All (IsNoted (checked_in new name report entries))
    (named_from opened (children_below new report.children) ++ rest)
    × (count_by (λ (e : Entry). has_ended e.ending) (checked_in new name report entries) ≡ ended + 1)
recorded_after p old new report name held rest entries opened ended told same falls less reach is_name pairs once known noted right count so_far =
    let depth = length report.node.pairs in
    let children = children_below new report.children in
    let more = map (child_entry name depth) children in
    let ending = ending_of new (length entries) report in
    let before = ended_as entries name ending in
    let longer : length before ≡ length entries = length_ended entries name ending in
    let here : name < length entries = subst (λ (n : ℕ). n < length entries) is_name (All-head (λ (n : Named). n.name < length entries) held rest known) in
    let this = All-head (IsNoted entries) held rest noted in
    let path_old : path_to entries name ≡ report.node.pairs = subst (λ (n : ℕ). path_to entries n ≡ report.node.pairs) is_name (sym this.pairs ∙ pairs) in
    let path : path_to before name ≡ report.node.pairs = path_before entries name ending here ∙ path_old in
    let there : name < length before = omega (arith, here, longer) in
    let own : IsRightEnding p new (before ++ more) name ending =
    subst (λ (next : ℕ). IsRightEnding p new (before ++ more) name (ending_of new next report)) longer
    (ending_right p new report name before told same (in_time_trans report.ceiling old new less falls) there path
    reach) in
    let others : All (IsNamedOtherThan name) rest = subst (λ (n : ℕ). All (IsNamedOtherThan n) rest) is_name (others_named held rest once) in
    let going = subst (λ (n : ℕ). (entry_at entries n).ending ≡ not_ended) is_name this.going in
    let new_names : named_from (length before) children ≡ named_from opened children = ap (λ (n : ℕ). named_from n children) (longer ∙ count) in (
      trail_grown p new entries name ending more here (trail_falls p old new entries falls right) own (children_open name depth children),
      omega (arith, length-append before more, longer, count, length-map children (child_entry name depth)),
      All-append (IsNoted (before ++ more)) (named_from opened children) rest
          (subst (λ (ns : List Named). All (IsNoted (before ++ more)) ns) new_names
          (children_noted report.node name children before there path
          (All-filter (λ (child : Subproblem). is_below new child.bound) (IsChildOf report.node) report.children
          told.fair.of_children)))
          (all_noted entries name ending more rest others
          (All-tail (λ (n : Named). n.name < length entries) held rest known)
          (All-tail (IsNoted entries) held rest noted)),
      omega (
        arith,
        sum_by-append one_ended before more,
        count_ended entries name ending here going
            (ending_ends report.split report.found (fates_under new depth (length entries) report.fates report.children)),
        count_children name depth children,
        so_far,
      ),
    )
  where
    path_before : (entries : List Entry) (name : ℕ) (ending : Ending) → name < length entries
        → path_to (ended_as entries name ending) name ≡ path_to entries name
    path_before entries name ending here = ap (λ paths. get_or paths name []) (ended_paths [] entries name ending)

-- what a check-in leaves of a trail
pub recorded_accepted : (old : BookState) (worker name : ℕ) (report : Expansion) (done : CheckedIn) (new : BookState)
    → IsReport report → MayCheckIn old worker name report → Accepts old worker name report done new → IsSound old
    → IfSome old.trail (IsRecorded old)
    → IfSome new.trail (IsRecorded (record old {
      best = new.best;
      waiting = new.waiting;
      hands = set old.hands worker None;
      opened = old.opened + done.opened;
      checked = old.checked + 1;
      trail = new.trail;
    }))
recorded_accepted old worker name report done new told may accepts sound recorded =
    let limit = best_makespan new in
    let hands = set old.hands worker None in
    let rest = old.waiting ++ in_hand hands in
    let children = named_from old.opened (children_below limit report.children) in
    let left : BookState = record old {
      best = new.best;
      waiting = new.waiting;
      hands = hands;
      opened =
          old.opened + done.opened;
      checked = old.checked + 1;
      trail = new.trail;
    } in
    let before : IsPermutation (live old) (may.held ∷ rest) = held_first old worker may.held may.holds in
    let after : IsPermutation (children ++ rest) (new.waiting ++ in_hand hands) =
    subst (λ ns. IsPermutation ns (new.waiting ++ in_hand hands))
    (append_assoc children old.waiting (in_hand hands))
    (IsPermutation-append_left (in_hand hands) _ _ accepts.opened) in
    let once : AreNamedOnce (may.held ∷ rest) = named_once_moved (live old) (may.held ∷ rest) before sound.named_once in
    let below = All-permutation (λ (n : Named). n.name < old.opened) (live old) (may.held ∷ rest) before sound.named_below in
    subst (λ (t : Option (List Entry)). IfSome t (IsRecorded left)) (sym accepts.noted)
    (changed old.trail (checked_in limit name report) (IsRecorded old) (IsRecorded left)
    (λ entries was.
    let step = recorded_after old.project (best_makespan old) limit report name may.held rest entries old.opened
    (old.checked + old.cut) told may.project
    (improves_in_time old.best report.found new.best done.improved accepts.best) may.in_time
    (found_reaches old.best report.found new.best done.improved accepts.best) may.named may.pairs once
    (subst (λ (count : ℕ). All (λ (n : Named). n.name < count) (may.held ∷ rest)) (sym was.all_named) below)
    (All-permutation (IsNoted entries) (live old) (may.held ∷ rest) before was.noted) was.right was.all_named
    was.ended in
    record {
      right = step.0;
      all_named = omega (arith, step.1, accepts.count);
      noted = All-permutation (IsNoted (checked_in limit name report entries)) (children ++ rest) (new.waiting ++ in_hand hands) after step.2;
      ended = omega (arith, step.3);
    })
    recorded)

-- ---- a book whose search is over

-- where no node is open or in hand, the trail is a whole tree
pub trail_whole : (s : BookState) → IsSound s → live s ≡ [] → IfSome s.trail (IsRecorded s) → IfSome s.trail (IsWholeTree s.project (best_makespan s))
trail_whole s sound over =
    unchanged s.trail (IsRecorded s) (IsWholeTree s.project (best_makespan s))
    (λ entries old.
    let none : length (live s) ≡ 0 = ap length over in
    record { right = old.right; ended = all_ended entries (omega (arith, old.ended, old.all_named, sound.counted, none)) })

-- ---- The trail that a book keeps, as its steps change it.

abbrev pub entries_in : Option TrailOf → Option (List Entry)
entries_in trail = option_map (λ (t : TrailOf). t.entries) trail

pub entries_changed : (trail : Option TrailOf) (f : List Entry → List Entry) → entries_in (option_map (with_entries f) trail) ≡ option_map f (entries_in trail)
entries_changed None f = refl
entries_changed (Some t) f = refl

pub project_kept : (p : Problem) (trail : Option TrailOf) (f : List Entry → List Entry)
    → IfSome trail (λ (t : TrailOf). t.project ≡ p)
    → IfSome (option_map (with_entries f) trail) (λ (t : TrailOf). t.project ≡ p)
project_kept p None f same = tt
project_kept p (Some t) f same = same

-- a node in hand has an entry
held_below : (s : BookState) (worker : ℕ) (held : Named) → IsSound s → slice_get s.hands worker ≡ Some (Some held) → held.name < s.opened
held_below s worker held sound holds = All-head (λ (n : Named). n.name < s.opened) held
    (s.waiting ++ in_hand (set s.hands worker None))
    (All-permutation (λ (n : Named). n.name < s.opened) (live s) _ (held_first s worker held holds) sound.named_below)

known_there : (trail : Option TrailOf) (s : BookState) (name : ℕ) → IfSome (entries_in trail) (IsRecorded s)
    → name < s.opened → IfSome trail (λ (t : TrailOf). (name < length t.entries) × (length t.entries ≡ s.opened))
known_there None s name recorded below = tt
known_there (Some t) s name recorded below = (omega (arith, recorded.all_named, below), recorded.all_named)

pub held_known : (trail : Option TrailOf) (s : BookState) (worker : ℕ) (held : Named) (name : ℕ)
    → IfSome (entries_in trail) (IsRecorded s) → IsSound s → slice_get s.hands worker ≡ Some (Some held)
    → held.name ≡ name → IfSome trail (λ (t : TrailOf). (name < length t.entries) × (length t.entries ≡ s.opened))
held_known trail s worker held name recorded sound holds named =
    known_there trail s name recorded (subst (λ (n : ℕ). n < s.opened) named (held_below s worker held sound holds))
