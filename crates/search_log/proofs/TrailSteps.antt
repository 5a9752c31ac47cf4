-- What becomes of a right trail when a node ends.
use Rattle.std.proofs.Common.{◌≡◌, ℕ, zero, suc, ◌-◌, ◌+◌, ◌<◌, ◌≤◌, Bool, true, false, cond, List, [], ◌∷◌, ◌++◌, length, map, get_or, refl, sym, ap, ◌∙◌}
use Rattle.std.proofs.Common.{subst, arith, ◌⊎◌, inl, inr, ⊎_elim, length-append, Option, Some, None, ℤ, IfSome, MatchOption}
use Rattle.std.specs.List.{count_by}
use Rattle.std.proofs.lemmas.Bool.{cases_lt}
use Rattle.std.proofs.Math.Seq.{get_or-append_right}
use Rattle.std.proofs.lemmas.List.{get_or_append_left}
use Rattle.std.proofs.lemmas.List.Sums.{sum_by-cons}
use Rattle.std.proofs.Math.ListN.{length-set}
use Rattle.network.specs.Problem.{Problem}
use Rattle.branching.specs.Subproblem.{Subproblem, IsLive, ordered_pairs}
use Rattle.branching.specs.Fates.{FateOf}
use Rattle.search_log.specs.SearchLog.{Ending, not_ended, Entry, entry_at, no_entry, path_to}
use Rattle.search_log.specs.RightTrail.{IsRightEnding, IsRightTrail, IsRooted, has_ended, children_below}
use Rattle.search_log.specs.Recording.{ended_as, child_entry, fates_under, ending_by, ending_of}
use Rattle.search_log.proofs.TrailGrowing.{path_kept, ended_paths, Extends, ending_extends, cut_falls, split_fates}
use Rattle.network.specs.Schedule.{ScheduleOf, IsLeastSchedule, makespan}
use Rattle.forbidden_sets.specs.MinimalSet.{MinimalSet}
use Rattle.branching.specs.Right.{Reaches, IsInTime, IsRightSet, IsCutUnder, IsSolvedUnder}
use Rattle.branching.specs.Fair.{Expansion, IsFoundFor, IsReport, IsSplitBy, IsUnsplit}

pub ended_forced : (entries : List Entry) (name : ℕ) (ending : Ending) (n : ℕ)
    → (entry_at (ended_as entries name ending) n).forced ≡ (entry_at entries n).forced
ended_forced [] name ending n = refl
ended_forced (e ∷ es) zero ending zero = refl
ended_forced (e ∷ es) zero ending (suc n) = refl
ended_forced (e ∷ es) (suc name) ending zero = refl
ended_forced (e ∷ es) (suc name) ending (suc n) = ended_forced es name ending n

-- the entry of this name has this ending, the others have theirs
pub ended_cases : (entries : List Entry) (name : ℕ) (ending : Ending) (n : ℕ)
    → ((n ≡ name) × ((entry_at (ended_as entries name ending) n).ending ≡ ending))
    ⊎ ((entry_at (ended_as entries name ending) n).ending ≡ (entry_at entries n).ending)
ended_cases [] name ending n = inr refl
ended_cases (e ∷ es) zero ending zero = inl (refl, refl)
ended_cases (e ∷ es) zero ending (suc n) = inr refl
ended_cases (e ∷ es) (suc name) ending zero = inr refl
ended_cases (e ∷ es) (suc name) ending (suc n) =
    ⊎_elim (λ (h : (n ≡ name) × ((entry_at (ended_as es name ending) n).ending ≡ ending)). inl (ap suc h.0, h.1))
    (λ (h : (entry_at (ended_as es name ending) n).ending ≡ (entry_at es n).ending). inr h)
    (ended_cases es name ending n)

pub length_ended : (entries : List Entry) (name : ℕ) (ending : Ending) → length (ended_as entries name ending) ≡ length entries
length_ended entries name ending = length-set entries name _

-- what comes later leaves the entry that ends
pub ended_append : (entries more : List Entry) (name : ℕ) (ending : Ending) → name < length entries
    → ended_as (entries ++ more) name ending ≡ ended_as entries name ending ++ more
ended_append [] more name ending known = absurd (omega (arith, known))
ended_append (e ∷ entries) more zero ending known = refl
ended_append (e ∷ entries) more (suc name) ending known = ap (λ (es : List Entry). e ∷ es) (ended_append entries more name ending (omega (arith, known)))

-- the entry of a name ends, and new ones come
pub extends_grown : (entries : List Entry) (name : ℕ) (ending : Ending) (more : List Entry) → Extends entries (ended_as entries name ending ++ more)
extends_grown entries name ending more =
    let ended = ended_as entries name ending in
    let same : length ended ≡ length entries = length_ended entries name ending in
    record {
      longer = omega (arith, length-append ended more, same);
      path = λ n known. path_kept ended more n (omega (arith, same, known)) ∙ ap (λ paths. get_or paths n []) (ended_paths [] entries name ending);
      forced = λ n known. ap (λ (e : Entry). e.forced)
          (get_or_append_left ended more no_entry n (omega (arith, same, known))) ∙ ended_forced entries name ending n;
    }

grown_rooted : (p : Problem) (entries : List Entry) (name : ℕ) (ending : Ending) (more : List Entry)
    → name < length entries → IsRooted p entries → IsRooted p (ended_as entries name ending ++ more)
grown_rooted p [] name ending more known rooted = absurd (omega (arith, known))
grown_rooted p (root ∷ entries) zero ending more known rooted = rooted
grown_rooted p (root ∷ entries) (suc name) ending more known rooted = rooted

-- where a name ends rightly and what comes is open, the trail stays right
pub trail_grown : (p : Problem) (limit : Option ℤ) (entries : List Entry) (name : ℕ) (ending : Ending)
    (more : List Entry) → name < length entries → IsRightTrail p limit entries
    → IsRightEnding p limit (ended_as entries name ending ++ more) name ending
    → ((n : ℕ) → (entry_at more n).ending ≡ not_ended) → IsRightTrail p limit (ended_as entries name ending ++ more)
trail_grown p limit entries name ending more known right own all_open = record {
  rooted = grown_rooted p entries name ending more known right.rooted;
  endings = λ n there.
      ⊎_elim
      (λ (early : n < length entries).
      subst (IsRightEnding p limit (ended_as entries name ending ++ more) n)
      (sym (ap (λ (e : Entry). e.ending) (get_or_append_left (ended_as entries name ending) more no_entry n
      (omega (arith, same, early)))))
      (⊎_elim
      (λ (h : (n ≡ name) × ((entry_at (ended_as entries name ending) n).ending ≡ ending)). rw (h.1, h.0) own)
      (λ (h : (entry_at (ended_as entries name ending) n).ending ≡ (entry_at entries n).ending).
      rw h (ending_extends p limit entries (ended_as entries name ending ++ more) n (entry_at entries n).ending
      (extends_grown entries name ending more) early (right.endings n early)))
      (ended_cases entries name ending n)))
      (λ (late : length entries ≤ n).
      subst (IsRightEnding p limit (ended_as entries name ending ++ more) n)
      (sym (ap (λ (e : Entry). e.ending) (get_or-append_right (ended_as entries name ending) more n no_entry
      (omega (arith, same, late))) ∙ all_open (n - length (ended_as entries name ending)))) tt)
      (cases_lt n (length entries));
}
  where
    same : length (ended_as entries name ending) ≡ length entries
    same = length_ended entries name ending

pub children_open : (name depth : ℕ) (children : List Subproblem) (n : ℕ) → (entry_at (map (child_entry name depth) children) n).ending ≡ not_ended
children_open name depth [] n = refl
children_open name depth (child ∷ children) zero = refl
children_open name depth (child ∷ children) (suc n) = children_open name depth children n

-- ---- how many have ended

abbrev pub one_ended : Entry → ℕ
one_ended e = cond (has_ended e.ending) 1 0

pub count_ended : (entries : List Entry) (name : ℕ) (ending : Ending) → name < length entries
    → (entry_at entries name).ending ≡ not_ended → has_ended ending ≡ true
    → count_by (λ (e : Entry). has_ended e.ending) (ended_as entries name ending) ≡ count_by
    (λ (e : Entry). has_ended e.ending) entries + 1
count_ended [] name ending known is_open ends = absurd (omega (arith, known))
count_ended (e ∷ es) zero ending known is_open ends =
    let before = sum_by-cons one_ended e es in
    let after = sum_by-cons one_ended (record { origin = e.origin; forced = e.forced; ending = ending }) es in
    let none : ◌≡◌ {A = ℕ} (one_ended e) 0 = ap (λ (x : Ending). let n : ℕ = cond (has_ended x) 1 0 in n) is_open in
    let one : ◌≡◌ {A = ℕ} (cond (has_ended ending) 1 0) 1 = ap (λ (b : Bool). let n : ℕ = cond b 1 0 in n) ends in
    omega (arith, before, after, none, one)
count_ended (e ∷ es) (suc name) ending known is_open ends =
    let before = sum_by-cons one_ended e es in
    let after = sum_by-cons one_ended e (ended_as es name ending) in
    omega (arith, before, after, count_ended es name ending (omega (arith, known)) is_open ends)

pub count_children : (name depth : ℕ) (children : List Subproblem) → count_by (λ (e : Entry). has_ended e.ending) (map (child_entry name depth) children) ≡ 0
count_children name depth [] = refl
count_children name depth (child ∷ children) =
    omega (
      arith,
      sum_by-cons one_ended (child_entry name depth child) (map (child_entry name depth) children),
      count_children name depth children,
    )

count_at_most : (entries : List Entry) → count_by (λ (e : Entry). has_ended e.ending) entries ≤ length entries
count_at_most [] = omega arith
count_at_most (e ∷ es) = omega (arith, sum_by-cons one_ended e es, at_most (has_ended e.ending), count_at_most es)
  where
    at_most : (b : Bool) → ◌≤◌ (cond b 1 0) 1
    at_most true = omega arith
    at_most false = omega arith

-- where as many ended as there are, each has
pub all_ended : (entries : List Entry) → count_by (λ (e : Entry). has_ended e.ending) entries ≡ length entries
    → (name : ℕ) → name < length entries → has_ended (entry_at entries name).ending ≡ true
all_ended [] e name known = absurd (omega (arith, known))
all_ended (x ∷ es) e name known = parts (all_ended es) (has_ended x.ending) refl name known
  where
    parts : (count_by (λ (e : Entry). has_ended e.ending) es ≡ length es → (name : ℕ) → name < length es
        → has_ended (entry_at es name).ending ≡ true) → (b : Bool) → has_ended x.ending ≡ b → (name : ℕ)
        → name < length (x ∷ es) → has_ended (entry_at (x ∷ es) name).ending ≡ true
    parts rest true is zero known = is
    parts rest true is (suc name) known =
        let one : ◌≡◌ {A = ℕ} (one_ended x) 1 = ap (λ (b : Bool). let n : ℕ = cond b 1 0 in n) is in
        rest (omega (arith, e, one, sum_by-cons one_ended x es)) name (omega (arith, known))
    parts rest false is name known =
        let none : ◌≡◌ {A = ℕ} (one_ended x) 0 = ap (λ (b : Bool). let n : ℕ = cond b 1 0 in n) is in
        absurd (omega (arith, e, none, sum_by-cons one_ended x es, count_at_most es))

-- ---- How the node of a report ends is right.

unsplit_right : (p : Problem) (limit : Option ℤ) (report : Expansion) (name : ℕ) (entries : List Entry)
    (fates : List (FateOf ℕ)) → IsReport report → report.node.project ≡ p → IsInTime report.ceiling limit
    → path_to entries name ≡ report.node.pairs
    → (found : Option ScheduleOf) → IfSome found (IsFoundFor report.node)
    → MatchOption found (IsCutUnder report.node.project report.node.pairs report.ceiling)
    (λ f. IsLeastSchedule report.node.project report.node.pairs f.starts)
    → IfSome found (λ f. Reaches limit (makespan f.starts)) → IsRightEnding p limit entries name (ending_by None found fates)
unsplit_right p limit report name entries fates told same less path None of_found is reach =
    rw path (cut_falls p report.ceiling limit report.node.pairs less (subst (λ (p : Problem). IsCutUnder p report.node.pairs report.ceiling) same is))
unsplit_right p None report name entries fates told same less path (Some f) of_found is reach = absurd reach
unsplit_right p (Some limit) report name entries fates told same less path (Some f) of_found is reach =
    rw path
    (subst (λ (p : Problem). IsSolvedUnder p report.node.pairs (Some limit)) same
    (record { is_live = told.is_node.is_live; starts = f.starts; least = is; feasible = of_found.stands.feasible; reaches = reach }))

-- how the node of a report ends is right
pub ending_right : (p : Problem) (limit : Option ℤ) (report : Expansion) (name : ℕ) (before : List Entry)
    → IsReport report → report.node.project ≡ p → IsInTime report.ceiling limit → name < length before
    → path_to before name ≡ report.node.pairs
    → IfSome report.found (λ f. Reaches limit (makespan f.starts))
    → IsRightEnding p limit (before ++ map (child_entry name (length report.node.pairs))
    (children_below limit report.children)) name (ending_of limit (length before) report)
ending_right p limit report name before told same less known path reach = parts report.split told.told
  where
    entries : List Entry
    entries = before ++ map (child_entry name (length report.node.pairs)) (children_below limit report.children)

    fates : List (FateOf ℕ)
    fates = fates_under limit (length report.node.pairs) (length before) report.fates report.children

    whole_path : path_to entries name ≡ report.node.pairs
    whole_path = path_kept before (map (child_entry name (length report.node.pairs)) (children_below limit report.children)) name known ∙ path

    parts : (split : Option MinimalSet) → MatchOption split (IsUnsplit report) (IsSplitBy report)
        → IsRightEnding p limit entries name (ending_by split report.found fates)
    parts None is = unsplit_right p limit report name entries fates told same less whole_path report.found told.fair.of_found is.of_found reach
    parts (Some set) is = (
      rw whole_path (subst (λ (p : Problem). IsLive p report.node.pairs) same told.is_node.is_live),
      subst (λ (p : Problem). IsRightSet p set.resource set.members) same is.right_set,
      split_fates p limit report.ceiling report.node name same less before known path (ordered_pairs set.members) report.fates report.children is.fates,
    )

pub ending_ends : (split : Option MinimalSet) (found : Option ScheduleOf) (fates : List (FateOf ℕ)) → has_ended (ending_by split found fates) ≡ true
ending_ends None None fates = refl
ending_ends None (Some f) fates = refl
ending_ends (Some set) found fates = refl
