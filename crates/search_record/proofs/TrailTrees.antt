-- The tree of a whole trail is right.
use Rattle.std.proofs.Common.{◌≡◌, ℕ, zero, suc, ◌+◌, ◌<◌, ◌≤◌, true, List, [], ◌∷◌, ◌++◌, length, get_or, refl, sym, ap, ◌∙◌, subst, arith, append_assoc}
use Rattle.std.proofs.Common.{append-nil, Option, Some, None, ℤ, IfSome}
use Rattle.std.specs.List.{All, AllZip}
use Rattle.std.proofs.lemmas.List.Elements.{All-nil, All-cons, All-append}
use Rattle.network.specs.declared.parts.Pair.{Pair}
use Rattle.network.specs.Schedule.{IsForbidden, ScheduleOf, IsFeasible}
use Rattle.network.specs.Problem.{Problem, IsProject, AreStarts}
use Rattle.branching.specs.Subproblem.{ordered_pairs}
use Rattle.branching.specs.Right.{AllForced}
use Rattle.branching.proofs.OrderedPairs.{count_pairs}
use Rattle.search_log.specs.declared.log.Origin.{Origin}
use Rattle.branching.specs.Fates.{FateOf, is_child, is_infeasible, is_cut}
use Rattle.search_log.specs.SearchLog.{Ending, not_ended, was_cut, was_solved, was_split, Entry, entry_at, path_after, paths_after, path_to}
use Rattle.search_log.specs.RightTrail.{IsChildUnder, IsRightFate, IsRightEnding, has_ended, IsWholeTree}
use Rattle.record_text.specs.declared.line.Line.{Line}
use Rattle.record_text.specs.declared.line.Line.TheVariants as kind
use Rattle.record_text.specs.Tree.{Tree, cut, dead, Trees, count_trees, IsTree, AreTrees, SearchRecord, lines_of}
use Rattle.search_record.specs.Due.{place, places, child_places}
use Rattle.search_record.specs.Right.{IsRightLine, IsRightPlace, claim_of, IsKeptSchedule, limit_of, AreRightStarts, IsRight}
use Rattle.search_record.specs.TrailTree.{with_forced, fate_tree, fate_trees, ending_tree, tree_within, tree_under}
use Rattle.branching.specs.Fair.{ceiling_of}
use Rattle.record_text.specs.Kinds.{IsRecord}
use Rattle.record_text.specs.Text.{IsWritableClaim, search_kind}
use Rattle.search_record.proofs.Truth.{spelled_claim, spelled_tree}

-- what a tree is to be, below a node's pairs
pub record IsRightTree (p : Problem) (limit : Option ℤ) (pairs : List Pair) (t : Tree) : Type 0 where
  pub shape : IsTree t
  pub right : All (IsRightPlace p limit) (places pairs t)

-- a leaf of one line
leaf_right : (p : Problem) (limit : Option ℤ) (pairs : List Pair) (leaf : Tree) (line : Line) → IsTree leaf
    → places pairs leaf ≡ place pairs line ∷ [] → IsRightLine p limit pairs line → IsRightTree p limit pairs leaf
leaf_right p limit pairs leaf line shape only right =
    record {
      shape = shape;
      right = rw only
          (All-cons (IsRightPlace p limit) (place pairs line) [] right (All-nil (IsRightPlace p limit)));
    }

-- right forced pairs, and a right tree below them
forced_right : (p : Problem) (limit : Option ℤ) (pairs forced : List Pair) (t : Tree) → AllForced p pairs forced
    → IsRightTree p limit (pairs ++ forced) t → IsRightTree p limit pairs (with_forced forced t)
forced_right p limit pairs [] t all below = subst (λ (ps : List Pair). IsRightTree p limit ps t) (append-nil pairs) below
forced_right p limit pairs (pair ∷ forced) t all below =
    let others = forced_right p limit (pairs ++ pair ∷ []) forced t all.1
    (subst (λ (ps : List Pair). IsRightTree p limit ps t) (sym (append_assoc pairs (pair ∷ []) forced)) below) in
    record {
      shape = others.shape;
      right = All-cons (IsRightPlace p limit) (place pairs (kind.Force pair)) (places (pairs ++ pair ∷ []) (with_forced forced t)) all.0 others.right;
    }

-- the trees under the names that come up are right
abbrev NamedAreRight : Problem → Option ℤ → List Entry → ℕ → (ℕ → Tree) → Type 0
NamedAreRight p limit entries name named = (pair : Pair) (later : ℕ) → IsChildUnder p entries name pair later
    → IsRightTree p limit (path_to entries name ++ pair ∷ []) (named later)

fate_right : (p : Problem) (limit : Option ℤ) (entries : List Entry) (name : ℕ) (named : ℕ → Tree)
    → NamedAreRight p limit entries name named → (pair : Pair) (fate : FateOf ℕ)
    → IsRightFate p limit entries name pair fate
    → IsRightTree p limit (path_to entries name ++ pair ∷ []) (fate_tree named fate)
fate_right p limit entries name named later_right pair (is_child later) h = later_right pair later h
fate_right p limit entries name named later_right pair (is_infeasible forced) h =
    let pairs = path_to entries name ++ pair ∷ [] in
    forced_right p limit pairs forced dead h.all_forced (leaf_right p limit (pairs ++ forced) dead kind.Dead tt refl h.dead)
fate_right p limit entries name named later_right pair (is_cut forced) h =
    let pairs = path_to entries name ++ pair ∷ [] in
    forced_right p limit pairs forced cut h.all_forced (leaf_right p limit (pairs ++ forced) cut kind.Cut tt refl h.cut)

record AreRightChildren (p : Problem) (limit : Option ℤ) (pairs added : List Pair) (children : Trees) : Type 0 where
  count : count_trees children ≡ length added
  shapes : AreTrees children
  right : All (IsRightPlace p limit) (child_places pairs added children)

fates_right : (p : Problem) (limit : Option ℤ) (entries : List Entry) (name : ℕ) (named : ℕ → Tree)
    → NamedAreRight p limit entries name named → (added : List Pair) (fates : List (FateOf ℕ))
    → AllZip (IsRightFate p limit entries name) added fates
    → AreRightChildren p limit (path_to entries name) added (fate_trees named fates)
fates_right p limit entries name named later_right [] [] h = record { count = refl; shapes = tt; right = All-nil (IsRightPlace p limit) }
fates_right p limit entries name named later_right (pair ∷ added) (fate ∷ fates) h =
    let one = fate_right p limit entries name named later_right pair fate h.0 in
    let others = fates_right p limit entries name named later_right added fates h.1 in
    record {
      count = ap suc others.count;
      shapes = (one.shape, others.shapes);
      right = All-append (IsRightPlace p limit) (places (path_to entries name ++ pair ∷ []) (fate_tree named fate))
          (child_places (path_to entries name) added (fate_trees named fates)) one.right others.right;
    }
fates_right p limit entries name named later_right _ _ h = absurd h

-- a forbidden set has a member
some_member : (p : Problem) (k : ℕ) (members : List ℕ) → IsForbidden p k members → 0 < length members
some_member p k [] over = absurd (omega (arith, over))
some_member p k (i ∷ members) over = omega arith

ending_right : (p : Problem) (limit : Option ℤ) (entries : List Entry) (name : ℕ) (named : ℕ → Tree)
    → NamedAreRight p limit entries name named → (ending : Ending) → IsRightEnding p limit entries name ending
    → has_ended ending ≡ true
    → IsRightTree p limit (path_to entries name) (ending_tree named ending)
ending_right p limit entries name named later_right not_ended h ended = absurd (cc)
ending_right p limit entries name named later_right was_cut h ended = leaf_right p limit (path_to entries name) (ending_tree named was_cut) kind.Cut tt refl h
ending_right p limit entries name named later_right was_solved h ended =
    leaf_right p limit (path_to entries name) (ending_tree named was_solved) kind.Solved tt refl h
ending_right p limit entries name named later_right (was_split resource members fates) h ended =
    let pairs = path_to entries name in
    let children = fates_right p limit entries name named later_right (ordered_pairs members) fates h.2 in
    record {
      shape = (some_member p resource members h.1.forbidden, children.count ∙ count_pairs members, children.shapes);
      right = All-cons (IsRightPlace p limit) (place pairs (kind.Split resource members))
          (child_places pairs (ordered_pairs members) (fate_trees named fates)) (h.0, h.1) children.right;
    }

-- the tree under a name is right, below the pairs that its forced ones come after
within_right : (p : Problem) (limit : Option ℤ) (entries : List Entry) → IsWholeTree p limit entries → (depth name : ℕ)
    → length entries ≤ name + depth → name < length entries
    → (pairs : List Pair) → path_to entries name ≡ pairs ++ (entry_at entries name).forced
    → AllForced p pairs (entry_at entries name).forced → IsRightTree p limit pairs (tree_within entries depth name)
within_right p limit entries is zero name deep known pairs path all = absurd (omega arith)
within_right p limit entries is (suc depth) name deep known pairs path all =
    let below = ending_tree (tree_within entries depth) (entry_at entries name).ending in
    let own = ending_right p limit entries name (tree_within entries depth)
    (λ pair later under. within_right p limit entries is depth later (omega (arith, under.is_later)) under.named
    (path_to entries name ++ pair ∷ []) under.path under.all_forced)
    (entry_at entries name).ending (is.right.endings name known) (is.ended name known) in
    forced_right p limit pairs (entry_at entries name).forced below all (subst (λ (ps : List Pair). IsRightTree p limit ps below) path own)

-- the first name's pairs are those of its entry
first_path : (entries : List Entry) (path : List Pair) (paths : List (List Pair)) → get_or (paths_after (path ∷ paths) entries) 0 [] ≡ path
first_path [] path paths = refl
first_path (entry ∷ entries) path paths = first_path entries path (paths ++ path_after (path ∷ paths) entry.origin entry.forced ∷ [])

root_path : (entries : List Entry) (origin : Option Origin) (forced : List Pair) → origin ≡ None
    → get_or (paths_after (path_after [] origin forced ∷ []) entries) 0 [] ≡ forced
root_path entries None forced none = first_path entries forced []
root_path entries (Some o) forced none = absurd (cc)

pub trail_right : (p : Problem) (limit : Option ℤ) (entries : List Entry) → IsWholeTree p limit entries → IsRightTree p limit [] (tree_under entries 0)
trail_right p limit [] is = leaf_right p limit [] dead kind.Dead tt refl is.right.rooted
trail_right p limit (root ∷ entries) is =
    within_right p limit (root ∷ entries) is (length (root ∷ entries)) 0 (omega arith) (omega arith) []
    (root_path entries root.origin root.forced is.right.rooted.0)
    (subst (AllForced p []) (sym is.right.rooted.1) tt)

-- ---- The record of a whole trail is right.

-- the best of a search for the project, and the whole trail of that
pub record IsOver (p : Problem) (best : Option ScheduleOf) (entries : List Entry) : Type 0 where
  pub limits : IsProject p
  pub whole : IsWholeTree p (ceiling_of best) entries
  pub of_project : IfSome best (λ s. s.project ≡ p)
  pub kept : IfSome best IsKeptSchedule

same_limit : (best : Option ScheduleOf) → limit_of (claim_of best) ≡ ceiling_of best
same_limit None = refl
same_limit (Some schedule) = refl

claim_spelled : (p : Problem) (best : Option ScheduleOf) → IsProject p → IfSome best (λ s. s.project ≡ p)
    → IfSome best IsKeptSchedule → IsWritableClaim (claim_of best)
claim_spelled p None is same kept = tt
claim_spelled p (Some s) is same kept = spelled_claim p s.starts is
    (subst (λ (q : Problem). IsFeasible q s.starts) same kept.0)
    (subst (λ (q : Problem). AreStarts q s.starts) same kept.1)

starts_right : (p : Problem) (best : Option ScheduleOf) → IfSome best (λ s. s.project ≡ p) → IfSome best IsKeptSchedule → AreRightStarts p (claim_of best)
starts_right p None same kept = tt
starts_right p (Some s) same kept = (subst (λ (q : Problem). IsFeasible q s.starts) same kept.0, refl)

pub trail_record : (p : Problem) (best : Option ScheduleOf) (entries : List Entry) (r : SearchRecord)
    → IsOver p best entries → r.claim ≡ claim_of best → r.lines ≡ lines_of (tree_under entries 0)
    → IsRecord search_kind r
trail_record p best entries r over claim lines =
    let whole = trail_right p (ceiling_of best) entries over.whole in
    record {
      claim = rw claim (claim_spelled p best over.limits over.of_project over.kept);
      lines = rw lines (spelled_tree p (ceiling_of best) over.limits (tree_under entries 0) whole.shape whole.right);
      whole = (tree_under entries 0, record { shape = whole.shape; spelled = sym lines });
    }

pub record_right : (p : Problem) (best : Option ScheduleOf) (entries : List Entry) (r : SearchRecord)
    → IsOver p best entries → r.claim ≡ claim_of best → r.lines ≡ lines_of (tree_under entries 0) → IsRight p r
record_right p best entries r over claim lines =
    let whole = trail_right p (ceiling_of best) entries over.whole in
    record {
      starts = subst (AreRightStarts p) (sym claim) (starts_right p best over.of_project over.kept);
      lines = record {
        whole = tree_under entries 0;
        tree_of = record { shape = whole.shape; spelled = sym lines };
        right = subst (λ (limit : Option ℤ). All (IsRightPlace p limit) (places [] (tree_under entries 0)))
            (sym (ap limit_of claim ∙ same_limit best)) whole.right;
      };
    }
