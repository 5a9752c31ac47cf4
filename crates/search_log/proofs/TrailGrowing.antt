-- A trail stays right as nodes are split and children are opened.
use Rattle.std.proofs.Common.{ℕ, List, [], ◌∷◌, ◌++◌, arith, Option, Some, None, ◌≡◌, zero, suc, ◌+◌, ◌<◌, length, get_or, refl, sym, ap, ◌∙◌, append_assoc}
use Rattle.std.proofs.Common.{length-append, ◌≤◌, Bool, true, false, cond, map, drop, subst, ℤ, slice_set, slice_get}
use Rattle.std.specs.List.{AllZip}
use Rattle.std.proofs.lemmas.Int.{ints}
use Rattle.network.specs.Problem.{Problem}
use Rattle.network.specs.declared.parts.Pair.{Pair}
use Rattle.branching.specs.Subproblem.{ordered_pairs, Subproblem}
use Rattle.branching.specs.Right.{IsCutUnder, IsSolvedUnder, IsInTime, AllForced, IsInfeasible, Reaches, is_below}
use Rattle.search_log.specs.SearchLog.{Ending, not_ended, was_cut, was_solved, was_split, Entry, entry_at, path_to, paths_after, path_after, no_entry, Origin}
use Rattle.search_log.specs.RightTrail.{IsRightFate, IsRightEnding, IsRightTrail, children_below, IsNotOpenedUnder}
use Rattle.std.proofs.lemmas.List.{get_or_append_left}
use Rattle.std.proofs.Math.Seq.{get_or-append_seam}
use Rattle.branching.specs.Fates.{FateOf, Fates, is_child, is_infeasible, is_cut, IsChildBy, AreFates}
use Rattle.branching.proofs.Together.{node_cut}
use Rattle.search_log.specs.Recording.{child_entry, opened_or_cut, fates_under}

-- ---- What is right for a limit is right for a lower one.

-- a best that falls, or the first one: what was in time for the old limit is in time for the new one
pub cut_falls : (p : Problem) (old new : Option ℤ) (pairs : List Pair) → IsInTime old new → IsCutUnder p pairs old → IsCutUnder p pairs new
cut_falls p None new pairs less right = absurd right
cut_falls p (Some old) None pairs less right = absurd less
cut_falls p (Some old) (Some new) pairs less right =
    record {
      is_live = right.is_live;
      bound = right.bound;
      bound_of = right.bound_of;
      reaches =
          omega (arith, ints, right.reaches, less);
    }

pub solved_falls : (p : Problem) (old new : Option ℤ) (pairs : List Pair) → IsInTime old new → IsSolvedUnder p pairs old → IsSolvedUnder p pairs new
solved_falls p None new pairs less right = absurd right
solved_falls p (Some old) None pairs less right = absurd less
solved_falls p (Some old) (Some new) pairs less right =
    record {
      is_live = right.is_live;
      starts = right.starts;
      least = right.least;
      feasible = right.feasible;
      reaches =
          omega (arith, ints, right.reaches, less);
    }

fates_fall : (p : Problem) (old new : Option ℤ) (entries : List Entry) (name : ℕ) (added : List Pair)
    (fates : List (FateOf ℕ)) → IsInTime old new → AllZip (IsRightFate p old entries name) added fates
    → AllZip (IsRightFate p new entries name) added fates
fates_fall p old new entries name [] [] less h = tt
fates_fall p old new entries name [] (fate ∷ fates) less h = absurd h
fates_fall p old new entries name (pair ∷ added) [] less h = absurd h
fates_fall p old new entries name (pair ∷ added) (fate ∷ fates) less h = (one fate h.0, fates_fall p old new entries name added fates less h.1)
  where
    one : (fate : FateOf ℕ) → IsRightFate p old entries name pair fate → IsRightFate p new entries name pair fate
    one (is_child later) u = u
    one (is_infeasible forced) u = u
    one (is_cut forced) u = record { all_forced = u.all_forced; cut = cut_falls p old new ((path_to entries name ++ pair ∷ []) ++ forced) less u.cut }

pub ending_falls : (p : Problem) (old new : Option ℤ) (entries : List Entry) (name : ℕ) (ending : Ending)
    → IsInTime old new → IsRightEnding p old entries name ending → IsRightEnding p new entries name ending
ending_falls p old new entries name not_ended less h = tt
ending_falls p old new entries name was_cut less h = cut_falls p old new (path_to entries name) less h
ending_falls p old new entries name was_solved less h = solved_falls p old new (path_to entries name) less h
ending_falls p old new entries name (was_split resource members fates) less h =
    (h.0, h.1, fates_fall p old new entries name (ordered_pairs members) fates less h.2)

-- a best that falls keeps a trail right
pub trail_falls : (p : Problem) (old new : Option ℤ) (entries : List Entry) → IsInTime old new → IsRightTrail p old entries → IsRightTrail p new entries
trail_falls p old new entries less right =
    record {
      rooted = right.rooted;
      endings = λ name known.
          ending_falls p old new entries name (entry_at entries name).ending less (right.endings name known);
    }

-- ---- The pairs of a trail's nodes, as the trail grows.

pub length_paths : (paths : List (List Pair)) (entries : List Entry) → length (paths_after paths entries) ≡ length paths + length entries
length_paths paths [] = omega arith
length_paths paths (entry ∷ entries) = omega (
  arith,
  length_paths (paths ++ path_after paths entry.origin entry.forced ∷ []) entries,
  length-append paths (path_after paths entry.origin entry.forced ∷ []),
)

-- what comes later leaves the paths of the earlier names
pub paths_keep : (paths : List (List Pair)) (entries : List Entry) (name : ℕ) → name < length paths
    → get_or (paths_after paths entries) name [] ≡ get_or paths name []
paths_keep paths [] name known = refl
paths_keep paths (entry ∷ entries) name known =
    paths_keep (paths ++ path_after paths entry.origin entry.forced ∷ []) entries name
    (omega (arith, length-append paths (path_after paths entry.origin entry.forced ∷ [])))
    ∙ get_or_append_left paths (path_after paths entry.origin entry.forced ∷ []) [] name known

pub paths_append : (paths : List (List Pair)) (xs ys : List Entry) → paths_after paths (xs ++ ys) ≡ paths_after (paths_after paths xs) ys
paths_append paths [] ys = refl
paths_append paths (x ∷ xs) ys = paths_append (paths ++ path_after paths x.origin x.forced ∷ []) xs ys

-- entries added at the end leave the paths and the entries of the earlier names
pub path_kept : (xs ys : List Entry) (name : ℕ) → name < length xs → path_to (xs ++ ys) name ≡ path_to xs name
path_kept xs ys name known = ap (λ (paths : List (List Pair)). get_or paths name []) (paths_append [] xs ys)
    ∙ paths_keep (paths_after [] xs) ys name (omega (arith, length_paths [] xs))

-- the path of a node is that of the node above it, its own pair and what that forces
pub path_opens : (xs ys : List Entry) (entry : Entry) (origin : Origin) → entry.origin ≡ Some origin
    → origin.parent < length xs → path_to (xs ++ entry ∷ ys) (length xs) ≡
    (path_to (xs ++ entry ∷ ys) origin.parent ++ origin.pair ∷ []) ++ entry.forced
path_opens xs ys entry origin from above =
    let paths = paths_after [] xs in
    let own = path_after paths entry.origin entry.forced in
    let count : length paths ≡ length xs = omega (arith, length_paths [] xs) in
    ap (λ (ps : List (List Pair)). get_or ps (length xs) []) (paths_append [] xs (entry ∷ ys))
    ∙ paths_keep (paths ++ own ∷ []) ys (length xs) (omega (arith, length-append paths (own ∷ [])))
    ∙ ap (λ (n : ℕ). get_or (paths ++ own ∷ []) n []) (sym count)
    ∙ get_or-append_seam paths own [] []
    ∙ ap (λ (o : Option Origin). path_after paths o entry.forced) from
    ∙ sym (append_assoc (get_or paths origin.parent []) (origin.pair ∷ []) entry.forced)
    ∙ ap (λ (path : List Pair). (path ++ origin.pair ∷ []) ++ entry.forced) (sym (path_kept xs (entry ∷ ys) origin.parent above))

-- how a node ended is no part of any path
pub ended_paths : (paths : List (List Pair)) (entries : List Entry) (name : ℕ) (ending : Ending)
    → paths_after paths (slice_set entries name
    (record { origin = (entry_at entries name).origin; forced = (entry_at entries name).forced; ending = ending })) ≡
    paths_after paths entries
ended_paths paths [] name ending = refl
ended_paths paths (entry ∷ entries) zero ending = refl
ended_paths paths (entry ∷ entries) (suc name) ending = ended_paths (paths ++ path_after paths entry.origin entry.forced ∷ []) entries name ending

-- the names stay, with their pairs
pub record Extends (old new : List Entry) : Type 0 where
  pub longer : length old ≤ length new
  pub path : (name : ℕ) → name < length old → path_to new name ≡ path_to old name
  pub forced : (name : ℕ) → name < length old → (entry_at new name).forced ≡ (entry_at old name).forced

fates_extend : (p : Problem) (limit : Option ℤ) (old new : List Entry) (name : ℕ) → Extends old new → name < length old
    → (added : List Pair) (fates : List (FateOf ℕ)) → AllZip (IsRightFate p limit old name) added fates
    → AllZip (IsRightFate p limit new name) added fates
fates_extend p limit old new name more known [] [] h = tt
fates_extend p limit old new name more known [] (fate ∷ fates) h = absurd h
fates_extend p limit old new name more known (pair ∷ added) [] h = absurd h
fates_extend p limit old new name more known (pair ∷ added) (fate ∷ fates) h = (one fate h.0, fates_extend p limit old new name more known added fates h.1)
  where
    one : (fate : FateOf ℕ) → IsRightFate p limit old name pair fate → IsRightFate p limit new name pair fate
    one (is_child later) u = record {
      is_later = u.is_later;
      named = omega (arith, u.named, more.longer);
      path = more.path later u.named ∙ u.path ∙ rw (more.path name known, more.forced later u.named) refl;
      all_forced = rw (more.path name known, more.forced later u.named) u.all_forced;
    }
    one (is_infeasible forced) u = rw (more.path name known) u
    one (is_cut forced) u = rw (more.path name known) u

pub ending_extends : (p : Problem) (limit : Option ℤ) (old new : List Entry) (name : ℕ) (ending : Ending)
    → Extends old new → name < length old → IsRightEnding p limit old name ending
    → IsRightEnding p limit new name ending
ending_extends p limit old new name not_ended more known h = tt
ending_extends p limit old new name was_cut more known h = rw (more.path name known) h
ending_extends p limit old new name was_solved more known h = rw (more.path name known) h
ending_extends p limit old new name (was_split resource members fates) more known h =
    (rw (more.path name known) h.0, h.1, fates_extend p limit old new name more known (ordered_pairs members) fates h.2)

-- a child that is not below the limit reaches it
reaches : (limit : Option ℤ) (bound : ℤ) → is_below limit bound ≡ false → Reaches limit bound
reaches None bound e = absurd (cc)
reaches (Some limit) bound e = grind (arith, ints)

drop_past : (pairs forced : List Pair) (pair : Pair) → drop (suc (length pairs)) (pairs ++ pair ∷ forced) ≡ forced
drop_past [] forced pair = refl
drop_past (x ∷ pairs) forced pair = drop_past pairs forced pair

drop_after : (pairs forced : List Pair) (pair : Pair) → drop (length pairs + 1) (pairs ++ pair ∷ forced) ≡ forced
drop_after pairs forced pair =
    let next : length pairs + 1 ≡ suc (length pairs) = omega arith in
    ap (λ (n : ℕ). drop n (pairs ++ pair ∷ forced)) next ∙ drop_past pairs forced pair

get_after : (pairs forced : List Pair) (pair : Pair) → slice_get (pairs ++ pair ∷ forced) (length pairs) ≡ Some pair
get_after [] forced pair = refl
get_after (x ∷ pairs) forced pair = get_after pairs forced pair

-- the pairs that a child's own one forced
pub child_forced : (node child : Subproblem) (pair : Pair) (by : IsChildBy node pair child) → drop (length node.pairs + 1) child.pairs ≡ by.forced
child_forced node child pair by = ap (drop (length node.pairs + 1)) by.pairs ∙ drop_after node.pairs by.forced pair

abbrev opened_entry : ℕ → Pair → List Pair → Entry
opened_entry name pair forced = record { origin = Some (record { parent = name; pair = pair }); forced = forced; ending = not_ended }

pub child_entry_is : (node child : Subproblem) (pair : Pair) (name : ℕ) (by : IsChildBy node pair child)
    → child_entry name (length node.pairs) child ≡ opened_entry name pair by.forced
child_entry_is node child pair name by =
    let own : slice_get child.pairs (length node.pairs) ≡ Some pair =
    ap (λ (ps : List Pair). slice_get ps (length node.pairs)) by.pairs ∙ get_after node.pairs by.forced pair in
    rw (own, child_forced node child pair by) refl

-- a child that is not opened is cut
not_opened : (p : Problem) (limit : Option ℤ) (node child : Subproblem) (pair : Pair) → node.project ≡ p
    → (by : IsChildBy node pair child) → is_below limit child.bound ≡ false
    → IsNotOpenedUnder p limit (node.pairs ++ pair ∷ []) (drop (length node.pairs + 1) child.pairs)
not_opened p limit node child pair same by over =
    let forced = child_forced node child pair by in
    let cut : IsCutUnder child.project child.pairs limit = node_cut child limit by.is_node (reaches limit child.bound over) in
    let project : child.project ≡ p = by.project ∙ same in
    rw forced
    (record {
      all_forced = subst (λ (p : Problem). AllForced p (node.pairs ++ pair ∷ []) by.forced) same by.all_forced;
      cut = subst (λ (ps : List Pair). IsCutUnder p ps limit)
          (by.pairs ∙ sym (append_assoc node.pairs (pair ∷ []) by.forced))
          (subst (λ (p : Problem). IsCutUnder p child.pairs limit) project cut);
    })

-- a child that lives: it is opened under the next name, or cut
living : (p : Problem) (limit : Option ℤ) (node child : Subproblem) (name : ℕ) → node.project ≡ p
    → (before : List Entry) → name < length before → path_to before name ≡ node.pairs
    → (pair : Pair) (added : List Pair) (fates : Fates) (children : List Subproblem) → IsChildBy node pair child
    → AllZip (IsRightFate p limit (before ++ map (child_entry name (length node.pairs)) (children_below limit children))
    name) added (fates_under limit (length node.pairs) (length before) fates children)
    → AllZip (IsRightFate p limit ((before ++ child_entry name (length node.pairs) child ∷ []) ++ map
    (child_entry name (length node.pairs)) (children_below limit children)) name) added
    (fates_under limit (length node.pairs) (length (before ++ child_entry name (length node.pairs) child ∷ []))
    fates children)
    → (b : Bool) → is_below limit child.bound ≡ b
    → AllZip (IsRightFate p limit (before ++ map (child_entry name (length node.pairs))
    (cond b (child ∷ children_below limit children) (children_below limit children))) name) (pair ∷ added)
    (opened_or_cut b (length before) (drop (length node.pairs + 1) child.pairs) ∷ fates_under limit (length node.pairs)
    (cond b (length before + 1) (length before)) fates children)
living p limit node child name same before known path pair added fates children by if_cut if_opened false over =
    let opened = child_entry name (length node.pairs) in
    (rw (path_kept before (map opened (children_below limit children)) name known ∙ path) (not_opened p limit node child pair same by over), if_cut)
living p limit node child name same before known path pair added fates children by if_cut if_opened true under = (
  record {
    is_later = known;
    named = omega (arith, length-append before (entry ∷ later));
    path = path_opens before later entry (record { parent = name; pair = pair }) from known ∙ rw here refl;
    all_forced = rw (here, path_kept before (entry ∷ later) name known ∙ path, forced)
        (subst (λ (p : Problem). AllForced p (node.pairs ++ pair ∷ []) by.forced) same by.all_forced);
  },
  subst (λ (whole : List Entry). AllZip (IsRightFate p limit whole name) added
      (fates_under limit (length node.pairs) (length before + 1) fates children))
      (append_assoc before (entry ∷ []) later)
      (subst (λ (next : ℕ). AllZip (IsRightFate p limit ((before ++ entry ∷ []) ++ later) name) added
      (fates_under limit (length node.pairs) next fates children)) next if_opened),
)
  where
    entry : Entry
    entry = child_entry name (length node.pairs) child

    later : List Entry
    later = map (child_entry name (length node.pairs)) (children_below limit children)

    from : entry.origin ≡ Some (record { parent = name; pair = pair })
    from = ap (λ (e : Entry). e.origin) (child_entry_is node child pair name by)

    forced : entry.forced ≡ by.forced
    forced = child_forced node child pair by

    here : entry_at (before ++ entry ∷ later) (length before) ≡ entry
    here = get_or-append_seam before entry later no_entry

    next : length (before ++ entry ∷ []) ≡ length before + 1
    next = omega (arith, length-append before (entry ∷ []))

-- the fates of a split's pairs, where the children that are opened come next
pub split_fates : (p : Problem) (limit ceiling : Option ℤ) (node : Subproblem) (name : ℕ) → node.project ≡ p
    → IsInTime ceiling limit → (before : List Entry) → name < length before → path_to before name ≡ node.pairs
    → (added : List Pair) (fates : Fates) (children : List Subproblem) → AreFates node ceiling added fates children
    → AllZip (IsRightFate p limit (before ++ map (child_entry name (length node.pairs)) (children_below limit children))
    name) added (fates_under limit (length node.pairs) (length before) fates children)
split_fates p limit ceiling node name same less before known path [] [] [] h = tt
split_fates p limit ceiling node name same less before known path [] [] (child ∷ children) h = absurd h
split_fates p limit ceiling node name same less before known path [] (fate ∷ fates) children h = absurd h
split_fates p limit ceiling node name same less before known path (pair ∷ added) [] children h = absurd h
split_fates p limit ceiling node name same less before known path (pair ∷ added) (is_child k ∷ fates) [] h = absurd h
split_fates p limit ceiling node name same less before known path (pair ∷ added) (is_child k ∷ fates) (child ∷ children) h =
    let entry = child_entry name (length node.pairs) child in
    living p limit node child name same before known path pair added fates children h.0
    (split_fates p limit ceiling node name same less before known path added fates children h.2)
    (split_fates p limit ceiling node name same less (before ++ entry ∷ [])
    (omega (arith, known, length-append before (entry ∷ []))) (path_kept before (entry ∷ []) name known ∙ path)
    added fates children h.2)
    (is_below limit child.bound) refl
split_fates p limit ceiling node name same less before known path (pair ∷ added) (is_infeasible forced ∷ fates) children h =
    let later = map (child_entry name (length node.pairs)) (children_below limit children) in (
      rw (path_kept before later name known ∙ path) (record {
        all_forced = subst (λ (p : Problem). AllForced p (node.pairs ++ pair ∷ []) forced) same h.0.all_forced;
        dead = subst (λ (p : Problem). IsInfeasible p ((node.pairs ++ pair ∷ []) ++ forced)) same h.0.dead;
      }),
      split_fates p limit ceiling node name same less before known path added fates children h.1,
    )
split_fates p limit ceiling node name same less before known path (pair ∷ added) (is_cut forced ∷ fates) children h =
    let later = map (child_entry name (length node.pairs)) (children_below limit children) in (
      rw (path_kept before later name known ∙ path) (record {
        all_forced = subst (λ (p : Problem). AllForced p (node.pairs ++ pair ∷ []) forced) same h.0.all_forced;
        cut = cut_falls p ceiling limit ((node.pairs ++ pair ∷ []) ++ forced) less
            (subst (λ (p : Problem). IsCutUnder p ((node.pairs ++ pair ∷ []) ++ forced) ceiling) same h.0.cut);
      }),
      split_fates p limit ceiling node name same less before known path added fates children h.1,
    )
