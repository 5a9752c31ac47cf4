-- The nodes that are due, step by step.
use Rattle.std.proofs.Common.{◌≡◌, ℕ, ◌≤◌, Bool, true, false, List, [], ◌∷◌, ◌++◌, length, map, take, drop, reverse, refl, sym, ap, ◌∙◌, arith, length-append}
use Rattle.std.proofs.Common.{append_assoc, ◌+◌, ◌<◌, Result, Ok, Err, ℤ, Option, suc, append-nil, ◌≢◌, get_or, None, Some, pos, ◌≤ℤ◌, OnOk, OnErr}
use Rattle.std.specs.List.{All}
use Rattle.std.proofs.lemmas.List.{reverse-append, take-append-le, take-take, take_all, length-take-le, map-append, drop_more}
use Rattle.std.proofs.lemmas.List.Elements.{All-nil, All-cons, All-contains, All-push}
use Rattle.network.specs.declared.parts.Pair.{Pair}
use Rattle.network.specs.Problem.{Problem, activity_count, NameActivities}
use Rattle.branching.specs.Subproblem.{ordered_pairs, IsLive}
use Rattle.branching.specs.Path.{Path}
use Rattle.branching.proofs.OrderedPairs.{all_pairs, count_pairs}
use Rattle.record_text.specs.declared.line.Line.{Line}
use Rattle.record_text.specs.declared.line.Line.TheVariants as kind
use Rattle.search_record.specs.Right.{NamesActivities, IsRightLine, IsRightPlace, AreRightLines, why_wrong, IsFirstWrong}
use Rattle.search_record.specs.Due.{pairs_at, nodes_due, AreNested, IsOver, later_at, IsDueAlong, due_forced, due_split, Place, place, places, child_places}
use Rattle.search_record.specs.Due.{due_after, Later}
use Rattle.record_text.specs.Tree.{Tree, force, split, Trees, no_trees, tree, count_trees, pair_count, IsTree, AreTrees, lines_of, lines_of_all, IsTreeOf}
use Rattle.record_text.specs.Tree.{solved, cut, dead}
use Rattle.std.proofs.lemmas.Int.{ints}
use Rattle.network.specs.declared.parts.Lag.{Lag}
use Rattle.network.specs.Walk.{weight, HasPositiveCycle, HasNoPositiveCycle}
use Rattle.branching.specs.Right.{IsInfeasible, IsCutUnder, IsSolvedUnder}
use Rattle.record_text.specs.declared.fault.RecordFault.{RecordFault}

pub nested_deeper : (p : Problem) (d e : ℕ) (later : List Later) → d ≤ e → AreNested p d later → AreNested p e later
nested_deeper p d e [] deep h = tt
nested_deeper p d e (k ∷ ks) deep h = (omega (arith, h.0), h.1, h.2)

pub same_nodes : (p : Problem) (d : ℕ) (old new : List Pair) → ((n : ℕ) → n ≤ d → take n new ≡ take n old)
    → (later : List Later) → AreNested p d later → map (pairs_at new) later ≡ map (pairs_at old) later
same_nodes p d old new same [] h = refl
same_nodes p d old new same (k ∷ ks) h =
    ap (λ (kept : List Pair). (kept ++ k.pair ∷ []) ∷ map (pairs_at new) ks) (same k.depth h.0)
    ∙ ap (λ (nodes : List (List Pair)). pairs_at old k ∷ nodes) (same_nodes p k.depth old new (λ n few. same n (omega (arith, h.0))) ks h.2)

take_moved : (path : List Pair) (pair : Pair) (d n : ℕ) → d ≤ length path → n ≤ d → take n (take d path ++ pair ∷ []) ≡ take n path
take_moved path pair d n deep few = take-append-le n (take d path) (pair ∷ []) (omega (arith, length-take-le d path deep)) ∙ take-take n d path few

-- where no node is there, none is due
none_due : (path : List Pair) (later : List Later) → later ≡ [] → map (pairs_at path) later ≡ []
none_due path [] over = refl
none_due path (k ∷ ks) over = cc

pub forced_due : (p : Problem) (there : Bool) (path : List Pair) (later : List Later) (pair : Pair) → AreNested p (length path) later → IsOver there later
    → nodes_due there (path ++ pair ∷ []) later ≡ due_forced pair (nodes_due there path later)
forced_due p true path later pair nested over =
    ap (λ (nodes : List (List Pair)). (path ++ pair ∷ []) ∷ nodes)
    (same_nodes p (length path) path (path ++ pair ∷ []) (λ n few. take-append-le n path (pair ∷ []) few) later
    nested)
forced_due p false path later pair nested over =
    none_due (path ++ pair ∷ []) later over ∙ sym (ap (due_forced pair) (none_due path later over))

pub left_due : (p : Problem) (there : Bool) (path : List Pair) (k : Later) (ks : List Later) → AreNested p (length path) (k ∷ ks) → IsOver there (k ∷ ks)
    → nodes_due there (take k.depth path ++ k.pair ∷ []) ks ≡ drop 1 (nodes_due there path (k ∷ ks))
left_due p false path k ks nested over = cc
left_due p true path k ks nested over =
    ap (λ (nodes : List (List Pair)). pairs_at path k ∷ nodes)
    (same_nodes p k.depth path (pairs_at path k) (λ n few. take_moved path k.pair k.depth n nested.0 few) ks
    nested.2)

pub last_later : (ks : List Later) (k : Later) → reverse (ks ++ k ∷ []) ≡ k ∷ reverse ks
last_later ks k = reverse-append ks (k ∷ [])

pub left_over : (there : Bool) (k : Later) (ks : List Later) → IsOver there (k ∷ ks) → IsOver there ks
left_over true k ks h = tt
left_over false k ks h = cc

children_due : (path : List Pair) (added : List Pair) (later : List Later)
    → map (pairs_at path) (map (later_at (length path)) added ++ later) ≡ map (λ (pair : Pair). path ++ pair ∷ []) added
    ++ map (pairs_at path) later
children_due path [] later = refl
children_due path (pair ∷ added) later =
    ap (λ (kept : List Pair). (kept ++ pair ∷ []) ∷ map (pairs_at path) (map (later_at (length path)) added ++ later))
    (take_all (length path) path (omega arith))
    ∙ ap (λ (nodes : List (List Pair)). (path ++ pair ∷ []) ∷ nodes) (children_due path added later)

pub split_due : (there : Bool) (path : List Pair) (later new : List Later) (members : List ℕ)
    → new ≡ map (later_at (length path)) (ordered_pairs members) ++ later → IsOver there later
    → 0 < length (nodes_due there path later)
    → drop 1 (nodes_due there path new) ≡ due_split members (nodes_due there path later)
split_due true path later new members grows over some = ap (map (pairs_at path)) grows ∙ children_due path (ordered_pairs members) later
split_due false path later new members grows over some = absurd (let none = ap length (none_due path later over) in omega (arith, none, some))

-- ---- one step

-- a result is one or the other
pub either : {X E : Type 0} (A P Q : Type 0) (r : Result X E) → OnOk r P → OnErr r Q → (P → A) → (Q → A) → A
either A P Q (Ok x) ok err from_ok from_err = from_ok ok
either A P Q (Err e) ok err from_ok from_err = from_err err

pub deeper_along : (there : Bool) (node new : Path) (later : List Later) → IsDueAlong there node later
    → new.project ≡ node.project → length node.pairs ≤ length new.pairs → IsDueAlong there new later
deeper_along there node new later along same deep = record {
  nested = rw same (nested_deeper node.project (length node.pairs) (length new.pairs) later deep along.nested);
  over = along.over;
}

pub forced_along : (there : Bool) (node new : Path) (later : List Later) (pair : Pair) → IsDueAlong there node later
    → new ≡ record node { pairs = node.pairs ++ pair ∷ [] } → IsDueAlong there new later
forced_along there node new later pair along is =
    let long : length new.pairs ≡ length node.pairs + 1 = ap (λ (n : Path). length n.pairs) is ∙ length-append node.pairs (pair ∷ []) in
    deeper_along there node new later along (ap (λ (n : Path). n.project) is) (omega arith)

pub kept_along : (there : Bool) (node new : Path) (k : Later) (ks : List Later) → IsDueAlong there node (k ∷ ks)
    → new ≡ record node { pairs = take k.depth node.pairs } → IsDueAlong there new ks
kept_along there node new k ks along is =
    let long : length new.pairs ≡ k.depth = ap (λ (n : Path). length n.pairs) is ∙ length-take-le k.depth node.pairs along.nested.0 in
    record {
      nested = rw (ap (λ (n : Path). n.project) is, long) along.nested.2;
      over = left_over there k ks along.over;
    }

-- a node is there where some are due
is_there : (there : Bool) (path : List Pair) (later new : List Later) → IsOver there later → 0 < length (nodes_due there path later) → IsOver there new
is_there true path later new over some = tt
is_there false path [] new over some = absurd (omega (arith, some))
is_there false path (k ∷ ks) new over some = absurd (let no : k ∷ ks ≡ [] = over in cc)

pub split_along : (there : Bool) (node : Path) (later new : List Later) (depth : ℕ) → depth ≡ length node.pairs
    → 0 < length (nodes_due there node.pairs later) → IsDueAlong there node later
    → (AreNested node.project depth later → AreNested node.project depth new) → IsDueAlong there node new
split_along there node later new depth is some along pushed = record {
  nested = rw is at (pushed (rw is along.nested));
  over = is_there there node.pairs later new along.over some;
}

pub pushed_later : (depth : ℕ) (front : List Pair) (pair : Pair) (later new : List Later)
    → new ≡ later ++ later_at depth pair ∷ []
    → map (later_at depth) front ++ reverse new ≡ map (later_at depth) (front ++ pair ∷ []) ++ reverse later
pushed_later depth front pair later new is =
    ap (λ (l : List Later). map (later_at depth) front ++ reverse l) is
    ∙ ap (λ (l : List Later). map (later_at depth) front ++ l) (last_later later (later_at depth pair))
    ∙ sym (append_assoc (map (later_at depth) front) (later_at depth pair ∷ []) (reverse later))
    ∙ ap (λ (l : List Later). l ++ reverse later) (sym (map-append (later_at depth) front (pair ∷ [])))

pub pushed_nested : (p : Problem) (depth : ℕ) (pair : Pair) (later new : List Later)
    → new ≡ later ++ later_at depth pair ∷ [] → NameActivities p (pair ∷ []) → AreNested p depth (reverse later)
    → AreNested p depth (reverse new)
pushed_nested p depth pair later new is named nested =
    rw (ap (λ (l : List Later). reverse l) is ∙ last_later later (later_at depth pair)) (omega arith, named, nested)

-- ---- what right lines name

pub named_pairs : (p : Problem) (members : List ℕ) → All (λ i. i < activity_count p) members → NameActivities p (ordered_pairs members)
named_pairs p members named =
    all_pairs (λ (q : Pair). (q.before < activity_count p) × (q.after < activity_count p)) members (λ i j ci cj.
    (All-contains (λ a. a < activity_count p) members i named ci, All-contains (λ a. a < activity_count p) members j named cj))

pub named_line : (p : Problem) (limit : Option ℤ) (pairs : List Pair) (line : Line) → IsRightLine p limit pairs line → NamesActivities p line
named_line p limit pairs (kind.Force pair) right =
    All-cons (λ (q : Pair). (q.before < activity_count p) × (q.after < activity_count p)) pair []
    (right.incompatible.first_named, right.incompatible.second_named)
    (All-nil (λ (q : Pair). (q.before < activity_count p) × (q.after < activity_count p)))
named_line p limit pairs (kind.Split resource members) right = right.1.named
named_line p limit pairs line right = tt

-- ---- A list of lines read with the nodes that are due, and that this meets the tree's places.

-- a split has a node for each ordered pair of its members
pub child_for_each : (members : List ℕ) (children : Trees) → count_trees children ≡ pair_count members → count_trees children ≡ length (ordered_pairs members)
child_for_each members children count = count ∙ sym (count_pairs members)

-- each line with the pairs of its node, where these nodes are due
abbrev pub flat : List (List Pair) → List Line → List Place
flat due [] = []
flat [] (line ∷ lines) = []
flat (pairs ∷ due) (line ∷ lines) = place pairs line ∷ flat (due_after line (pairs ∷ due)) lines

abbrev pub with_pair : List Pair → Pair → List Pair
with_pair pairs pair = pairs ++ pair ∷ []

mutual
  pub flat_tree : (t : Tree) (pairs : List Pair) (due : List (List Pair)) (rest : List Line) → IsTree t
      → flat (pairs ∷ due) (lines_of t ++ rest) ≡ places pairs t ++ flat due rest
  flat_tree (force pair t) pairs due rest shape = ap (λ (xs : List Place). place pairs (kind.Force pair) ∷ xs) (flat_tree t (pairs ++ pair ∷ []) due rest shape)
  flat_tree (split resource members children) pairs due rest shape =
      ap (λ (xs : List Place). place pairs (kind.Split resource members) ∷ xs)
      (flat_children (ordered_pairs members) children pairs due rest (child_for_each members children shape.1)
      shape.2)
  flat_tree t pairs due rest shape = refl

  pub flat_children : (added : List Pair) (children : Trees) (pairs : List Pair) (due : List (List Pair))
      (rest : List Line) → count_trees children ≡ length added → AreTrees children
      → flat (map (with_pair pairs) added ++ due) (lines_of_all children ++ rest) ≡ child_places pairs added children ++ flat due rest
  flat_children [] no_trees pairs due rest count shapes = refl
  flat_children (first ∷ added) (tree t ts) pairs due rest count shapes =
      ap (flat ((pairs ++ first ∷ []) ∷ (map (with_pair pairs) added ++ due))) (append_assoc (lines_of t) (lines_of_all ts) rest)
      ∙ flat_tree t (pairs ++ first ∷ []) (map (with_pair pairs) added ++ due) (lines_of_all ts ++ rest) shapes.0
      ∙ ap (λ (xs : List Place). places (pairs ++ first ∷ []) t ++ xs) (flat_children added ts pairs due rest (omega arith) shapes.1)
      ∙ sym (append_assoc (places (pairs ++ first ∷ []) t) (child_places pairs added ts) (flat due rest))
  flat_children added children pairs due rest count shapes = absurd (omega arith)

mutual
  pub length_places : (t : Tree) (pairs : List Pair) → IsTree t → length (places pairs t) ≡ length (lines_of t)
  length_places (force pair t) pairs shape = ap suc (length_places t (pairs ++ pair ∷ []) shape)
  length_places (split resource members children) pairs shape =
      ap suc (length_children (ordered_pairs members) children pairs (child_for_each members children shape.1) shape.2)
  length_places t pairs shape = refl

  pub length_children : (added : List Pair) (children : Trees) (pairs : List Pair) → count_trees children ≡ length added
      → AreTrees children → length (child_places pairs added children) ≡ length (lines_of_all children)
  length_children [] no_trees pairs count shapes = refl
  length_children (first ∷ added) (tree t ts) pairs count shapes =
      omega (
        arith,
        length-append (places (pairs ++ first ∷ []) t) (child_places pairs added ts),
        length-append (lines_of t) (lines_of_all ts),
        length_places t (pairs ++ first ∷ []) shapes.0,
        length_children added ts pairs (omega arith) shapes.1,
      )
  length_children added children pairs count shapes = absurd (omega arith)

-- the places of the tree, from its lines
pub flat_whole : (t : Tree) (lines : List Line) → IsTree t → lines_of t ≡ lines → flat ([] ∷ []) lines ≡ places [] t
flat_whole t lines shape same =
    ap (flat ([] ∷ [])) (sym same ∙ sym (append-nil (lines_of t))) ∙ flat_tree t [] [] [] shape ∙ append-nil (places [] t)

-- ---- How far a check of a record's lines has come.

-- so many lines are right, and the others come with these nodes due
pub record Reached (p : Problem) (limit : Option ℤ) (lines : List Line) (due : List (List Pair)) (rest : List Line) (count : ℕ) : Type 0 where
  pub before : List Place
  pub placed : flat ([] ∷ []) lines ≡ before ++ flat due rest
  pub counted : length before ≡ count
  pub right : All (IsRightPlace p limit) before
  pub enough : length (flat due rest) ≡ length rest

pub reached_start : (p : Problem) (limit : Option ℤ) (lines : List Line) (t : Tree) → IsTreeOf lines t → Reached p limit lines ([] ∷ []) lines 0
reached_start p limit lines t of = record {
  before = [];
  placed = refl;
  counted = refl;
  right = All-nil (IsRightPlace p limit);
  enough = ap length (flat_whole t lines of.shape of.spelled) ∙ length_places t [] of.shape ∙ ap length of.spelled;
}

-- where a line is left, a node is due
pub some_due : (p : Problem) (limit : Option ℤ) (lines : List Line) (due : List (List Pair)) (line : Line)
    (rest : List Line) (count : ℕ) → Reached p limit lines due (line ∷ rest) count → 0 < length due
some_due p limit lines [] line rest count so_far = absurd (let same = so_far.enough in omega (arith, same))
some_due p limit lines (pairs ∷ due) line rest count so_far = omega arith

pub reached_more : (p : Problem) (limit : Option ℤ) (lines : List Line) (pairs : List Pair) (due : List (List Pair))
    (line : Line) (rest : List Line) (count : ℕ) →
    Reached p limit lines (pairs ∷ due) (line ∷ rest) count → IsRightLine p limit pairs line
    → Reached p limit lines (due_after line (pairs ∷ due)) rest (count + 1)
reached_more p limit lines pairs due line rest count so_far here = record {
  before = so_far.before ++ place pairs line ∷ [];
  placed = so_far.placed ∙ sym (append_assoc so_far.before (place pairs line ∷ []) (flat (due_after line (pairs ∷ due)) rest));
  counted = omega (arith, length-append so_far.before (place pairs line ∷ []), so_far.counted);
  right = All-push (IsRightPlace p limit) so_far.before (place pairs line) so_far.right here;
  enough = omega (arith, so_far.enough);
}

-- all lines are right
pub reached_end : (p : Problem) (limit : Option ℤ) (lines : List Line) (due : List (List Pair)) (count : ℕ) (t : Tree)
    → IsTreeOf lines t → Reached p limit lines due [] count → AreRightLines p limit lines
reached_end p limit lines due count t of so_far = record {
  whole = t;
  tree_of = of;
  right = rw (sym (flat_whole t lines of.shape of.spelled) ∙ so_far.placed ∙ append-nil so_far.before) so_far.right;
}

pub reached_wrong : (p : Problem) (limit : Option ℤ) (first : ℕ) (lines : List Line) (pairs : List Pair)
    (due : List (List Pair)) (line : Line) (rest : List Line) (count : ℕ) (t : Tree) (fault : RecordFault) →
    IsTreeOf lines t → Reached p limit lines (pairs ∷ due) (line ∷ rest) count → (¬ IsRightLine p limit pairs line)
    → fault ≡ record { line = first + count; kind = why_wrong line } → IsFirstWrong p limit first lines fault
reached_wrong p limit first lines pairs due line rest count t fault of so_far no_right is = record {
  whole = t;
  tree_of = of;
  first_of = record {
    before = so_far.before;
    here = place pairs line;
    behind = flat (due_after line (pairs ∷ due)) rest;
    placed = sym (flat_whole t lines of.shape of.spelled) ∙ so_far.placed;
    right = so_far.right;
    wrong = no_right;
    line = ap (λ (f : RecordFault). f.line) is ∙ ap (λ (n : ℕ). first + n) (sym so_far.counted);
    kind = ap (λ (f : RecordFault). f.kind) is;
  };
}

-- the lines from an index on are the line there and those behind it
pub line_there : (lines : List Line) (i : ℕ) (line : Line) → i < length lines → line ≡ get_or lines i line → drop i lines ≡ line ∷ drop (i + 1) lines
line_there lines i line within is = drop_more lines i line within ∙ ap (λ (x : Line). x ∷ drop (i + 1) lines) (sym is)

-- ---- a node that is dead

not_both : (arcs : List Lag) → HasNoPositiveCycle arcs → HasPositiveCycle arcs → ⊥
not_both arcs live cycle =
    let low : weight cycle.1 ≤ℤ pos 0 = live cycle.0 cycle.1 cycle.2.closed in
    omega (arith, ints)

solved_lives : (p : Problem) (pairs : List Pair) (limit : Option ℤ) → IsSolvedUnder p pairs limit → IsLive p pairs
solved_lives p pairs None right = absurd right
solved_lives p pairs (Some limit) right = right.is_live

cut_lives : (p : Problem) (pairs : List Pair) (limit : Option ℤ) → IsCutUnder p pairs limit → IsLive p pairs
cut_lives p pairs None right = absurd right
cut_lives p pairs (Some limit) right = right.is_live

pub dead_alone : (p : Problem) (limit : Option ℤ) (pairs : List Pair) (line : Line) → IsInfeasible p pairs → line ≢ kind.Dead → ¬ IsRightLine p limit pairs line
dead_alone p limit pairs (kind.Force pair) died other right = not_both _ right.is_live died
dead_alone p limit pairs kind.Solved died other right = not_both _ (solved_lives p pairs limit right) died
dead_alone p limit pairs kind.Cut died other right = not_both _ (cut_lives p pairs limit right) died
dead_alone p limit pairs kind.Dead died other right = absurd (other refl)
dead_alone p limit pairs (kind.Split resource members) died other right = not_both _ right.0 died

-- the first line of a tree, and what comes after it
record Head (pairs : List Pair) (t : Tree) : Type 0 where
  line : Line
  after : List Place
  rest : List Line
  placed : places pairs t ≡ place pairs line ∷ after
  spelled : lines_of t ≡ line ∷ rest

head_of : (pairs : List Pair) (t : Tree) → Head pairs t
head_of pairs (force pair t) = record { line = kind.Force pair; after = places (pairs ++ pair ∷ []) t; rest = lines_of t; placed = refl; spelled = refl }
head_of pairs solved = record { line = kind.Solved; after = []; rest = []; placed = refl; spelled = refl }
head_of pairs cut = record { line = kind.Cut; after = []; rest = []; placed = refl; spelled = refl }
head_of pairs dead = record { line = kind.Dead; after = []; rest = []; placed = refl; spelled = refl }
head_of pairs (split resource members children) =
    record {
      line = kind.Split resource members;
      after = child_places pairs (ordered_pairs members) children;
      rest = _;
      placed = refl;
      spelled = refl;
    }

pub tree_some : (lines : List Line) (t : Tree) → IsTreeOf lines t → 0 < length lines
tree_some lines t of =
    let head = head_of [] t in
    let long : length lines ≡ length (head.line ∷ head.rest) = ap length (sym of.spelled ∙ head.spelled) in
    omega arith

pub dead_right : (p : Problem) (limit : Option ℤ) (lines : List Line) (line : Line) (t : Tree) → IsTreeOf lines t
    → line ≡ get_or lines 0 line → line ≡ kind.Dead → IsInfeasible p [] → AreRightLines p limit lines
dead_right p limit lines line t of at is died = record { whole = t; tree_of = of; right = by_tree t of.spelled }
  where
    first : get_or lines 0 line ≡ kind.Dead
    first = sym at ∙ is

    by_tree : (t : Tree) → lines_of t ≡ lines → All (IsRightPlace p limit) (places [] t)
    by_tree (force pair t) spelled = absurd (let bad : kind.Force pair ≡ kind.Dead = ap (λ (ls : List Line). get_or ls 0 line) spelled ∙ first in cc)
    by_tree solved spelled = absurd (let bad : kind.Solved ≡ kind.Dead = ap (λ (ls : List Line). get_or ls 0 line) spelled ∙ first in cc)
    by_tree cut spelled = absurd (let bad : kind.Cut ≡ kind.Dead = ap (λ (ls : List Line). get_or ls 0 line) spelled ∙ first in cc)
    by_tree dead spelled = All-cons (IsRightPlace p limit) (place [] kind.Dead) [] died (All-nil (IsRightPlace p limit))
    by_tree (split resource members children) spelled =
        absurd (let bad : kind.Split resource members ≡ kind.Dead = ap (λ (ls : List Line). get_or ls 0 line) spelled
        ∙ first in cc)

pub dead_wrong : (p : Problem) (limit : Option ℤ) (first : ℕ) (lines : List Line) (line : Line) (t : Tree)
    (fault : RecordFault) → IsTreeOf lines t → line ≡ get_or lines 0 line → line ≢ kind.Dead → IsInfeasible p []
    → fault ≡ record { line = first; kind = why_wrong line } → IsFirstWrong p limit first lines fault
dead_wrong p limit first lines line t fault of at other died is =
    let head = head_of [] t in
    let same : line ≡ head.line = at ∙ ap (λ (ls : List Line). get_or ls 0 line) (sym of.spelled ∙ head.spelled) in
    record {
      whole = t;
      tree_of = of;
      first_of = record {
        before = [];
        here = place [] line;
        behind = head.after;
        placed = head.placed ∙ ap (λ (l : Line). place [] l ∷ head.after) (sym same);
        right = All-nil (IsRightPlace p limit);
        wrong = dead_alone p limit [] line died other;
        line = omega (arith, ap (λ (f : RecordFault). f.line) is);
        kind = ap (λ (f : RecordFault). f.kind) is;
      };
    }
