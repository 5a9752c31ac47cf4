-- The lines of a trail's tree, one node after another.
use Rattle.std.proofs.Common.{◌≡◌, ℕ, suc, ◌+◌, ◌*◌, ◌<◌, ◌≤◌, List, [], ◌∷◌, ◌++◌, length, map, reverse, refl, sym, ap, ◌∙◌, subst, arith, append_assoc}
use Rattle.std.proofs.Common.{length-append, Option, ℤ}
use Rattle.std.specs.List.{All, AllZip}
use Rattle.std.proofs.lemmas.List.{reverse-append}
use Rattle.std.proofs.lemmas.List.Elements.{All-nil, All-cons, All-head, All-tail}
use Rattle.network.specs.Problem.{Problem}
use Rattle.network.specs.declared.parts.Pair.{Pair}
use Rattle.branching.specs.Subproblem.{ordered_pairs}
use Rattle.branching.specs.Fates.{FateOf, is_child, is_infeasible, is_cut}
use Rattle.search_log.specs.SearchLog.{Ending, not_ended, was_cut, was_solved, was_split, Entry, entry_at}
use Rattle.search_log.specs.RightTrail.{IsRightFate, IsRightEnding, IsRightTrail}
use Rattle.record_text.specs.declared.line.Line.{Line}
use Rattle.record_text.specs.declared.line.Line.TheVariants as kind
use Rattle.record_text.specs.Tree.{Tree, cut, dead, split, tree, lines_of, lines_of_all}
use Rattle.search_record.specs.TrailTree.{with_forced, fate_tree, fate_trees, ending_tree, entry_tree, tree_within, tree_under, ending_line, ending_fates}
use Rattle.search_record.specs.TrailTree.{node_lines, fate_lines, fates_behind, LeadsOn, LeadOn, ChildrenAreLater, IsNamed}

-- ---- children have later names

pub lead_on : (p : Problem) (limit : Option ℤ) (entries : List Entry) (name : ℕ) (added : List Pair)
    (fates : List (FateOf ℕ)) → AllZip (IsRightFate p limit entries name) added fates
    → LeadOn (length entries) name fates
lead_on p limit entries name [] [] h = tt
lead_on p limit entries name [] (fate ∷ fates) h = absurd h
lead_on p limit entries name (pair ∷ added) [] h = absurd h
lead_on p limit entries name (pair ∷ added) (fate ∷ fates) h = (leads fate h.0, lead_on p limit entries name added fates h.1)
  where
    leads : (fate : FateOf ℕ) → IsRightFate p limit entries name pair fate → LeadsOn (length entries) name fate
    leads (is_child later) under = (under.is_later, under.named)
    leads fate under = tt

pub children_are_later : (p : Problem) (limit : Option ℤ) (entries : List Entry) → IsRightTrail p limit entries → ChildrenAreLater entries
children_are_later p limit entries right name known = of (entry_at entries name).ending (right.endings name known)
  where
    of : (ending : Ending) → IsRightEnding p limit entries name ending → LeadOn (length entries) name (ending_fates ending)
    of (was_split resource members fates) h = lead_on p limit entries name (ordered_pairs members) fates h.2
    of ending h = tt

-- ---- a deeper look changes nothing

pub fates_agree : (count name : ℕ) (f g : ℕ → Tree) → ((later : ℕ) → name < later → later < count → f later ≡ g later)
    → (fates : List (FateOf ℕ)) → LeadOn count name fates → fate_trees f fates ≡ fate_trees g fates
fates_agree count name f g same [] h = refl
fates_agree count name f g same (is_child later ∷ fates) h =
    ap (λ (t : Tree). tree t (fate_trees f fates)) (same later h.0.0 h.0.1)
    ∙ ap (tree (g later)) (fates_agree count name f g same fates h.1)
fates_agree count name f g same (is_infeasible forced ∷ fates) h = ap (tree (with_forced forced dead)) (fates_agree count name f g same fates h.1)
fates_agree count name f g same (is_cut forced ∷ fates) h = ap (tree (with_forced forced cut)) (fates_agree count name f g same fates h.1)

pub endings_agree : (count name : ℕ) (f g : ℕ → Tree) → ((later : ℕ) → name < later → later < count → f later ≡ g later)
    → (ending : Ending) → LeadOn count name (ending_fates ending) → ending_tree f ending ≡ ending_tree g ending
endings_agree count name f g same (was_split resource members fates) h = ap (split resource members) (fates_agree count name f g same fates h)
endings_agree count name f g same ending h = refl

pub depths_agree : (entries : List Entry) → ChildrenAreLater entries → (d e name : ℕ) → length entries ≤ name + d
    → length entries ≤ name + e → name < length entries → tree_within entries d name ≡ tree_within entries e name
depths_agree entries later (suc d) (suc e) name deep_d deep_e known =
    ap (with_forced (entry_at entries name).forced)
    (endings_agree (length entries) name (tree_within entries d) (tree_within entries e)
    (λ child_name above below. depths_agree entries later d e child_name (omega arith) (omega arith) below)
    (entry_at entries name).ending (later name known))
depths_agree entries later _ e name deep_d deep_e known = absurd (omega arith)

-- the tree under a name is made of those under its children
pub tree_opens : (entries : List Entry) → ChildrenAreLater entries → (name : ℕ) → name < length entries
    → tree_under entries name ≡ entry_tree (tree_under entries) (entry_at entries name)
tree_opens entries later name known = depths_agree entries later (length entries) (suc (length entries)) name (omega arith) (omega arith) known

-- ---- lines

pub lines_forced : (forced : List Pair) (t : Tree) → lines_of (with_forced forced t) ≡ map kind.Force forced ++ lines_of t
lines_forced [] t = refl
lines_forced (pair ∷ forced) t = ap (λ (lines : List Line). kind.Force pair ∷ lines) (lines_forced forced t)

pub lines_ending : (named : ℕ → Tree) (ending : Ending)
    → lines_of (ending_tree named ending) ≡ ending_line ending ∷ lines_of_all (fate_trees named (ending_fates ending))
lines_ending named not_ended = refl
lines_ending named was_cut = refl
lines_ending named was_solved = refl
lines_ending named (was_split resource members fates) = refl

lines_node : (forced : List Pair) (last : Line) (t : Tree) (rest : List Line) → lines_of t ≡ last ∷ rest
    → lines_of (with_forced forced t) ≡ node_lines forced last ++ rest
lines_node forced last t rest same = lines_forced forced t
    ∙ ap (λ (lines : List Line). map kind.Force forced ++ lines) same
    ∙ sym (append_assoc (map kind.Force forced) (last ∷ []) rest)

pub are_named : (count name : ℕ) (fates : List (FateOf ℕ)) → LeadOn count name fates → All (IsNamed count) fates
are_named count name [] h = All-nil (IsNamed count)
are_named count name (is_child later ∷ fates) h = All-cons (IsNamed count) (is_child later) fates h.0.1 (are_named count name fates h.1)
are_named count name (is_infeasible forced ∷ fates) h = All-cons (IsNamed count) (is_infeasible forced) fates tt (are_named count name fates h.1)
are_named count name (is_cut forced ∷ fates) h = All-cons (IsNamed count) (is_cut forced) fates tt (are_named count name fates h.1)

-- a child's own lines, and then those of its children
pub lines_fate : (entries : List Entry) → ChildrenAreLater entries → (fate : FateOf ℕ) → IsNamed (length entries) fate
    → lines_of (fate_tree (tree_under entries) fate) ≡ fate_lines entries fate ++ lines_of_all
    (fate_trees (tree_under entries) (fates_behind entries fate))
lines_fate entries later (is_child name) known =
    ap lines_of (tree_opens entries later name known)
    ∙ lines_node (entry_at entries name).forced (ending_line (entry_at entries name).ending)
    (ending_tree (tree_under entries) (entry_at entries name).ending)
    (lines_of_all (fate_trees (tree_under entries) (ending_fates (entry_at entries name).ending)))
    (lines_ending (tree_under entries) (entry_at entries name).ending)
lines_fate entries later (is_infeasible forced) known = lines_node forced kind.Dead dead [] refl
lines_fate entries later (is_cut forced) known = lines_node forced kind.Cut cut [] refl

pub behind_named : (entries : List Entry) → ChildrenAreLater entries → (fate : FateOf ℕ) → IsNamed (length entries) fate
    → All (IsNamed (length entries)) (fates_behind entries fate)
behind_named entries later (is_child name) known = are_named (length entries) name (ending_fates (entry_at entries name).ending) (later name known)
behind_named entries later _ known = All-nil (IsNamed (length entries))

-- ---- the walk

-- the lines of the children that are left of each split, the innermost first
abbrev pub lines_left : List Entry → List (List (FateOf ℕ)) → List Line
lines_left entries [] = []
lines_left entries (fates ∷ splits) = lines_of_all (fate_trees (tree_under entries) fates) ++ lines_left entries splits

pub record Walked (entries : List Entry) (written : List Line) (splits : List (List (FateOf ℕ))) : Type 0 where
  pub whole : written ++ lines_left entries splits ≡ lines_of (tree_under entries 0)
  pub named : All (All (IsNamed (length entries))) splits

-- a number that falls
abbrev pub left : List Entry → List (List (FateOf ℕ)) → ℕ
left entries splits = 2 * length (lines_left entries splits) + length splits

pub walked_past : (entries : List Entry) (written : List Line) (splits : List (List (FateOf ℕ)))
    → Walked entries written ([] ∷ splits) → Walked entries written splits
walked_past entries written splits w = record { whole = w.whole; named = All-tail (All (IsNamed (length entries))) [] splits w.named }

left_step : (entries : List Entry) → ChildrenAreLater entries
    → (fate : FateOf ℕ) (fates : List (FateOf ℕ)) (splits : List (List (FateOf ℕ))) → IsNamed (length entries) fate
    → lines_left entries ((fate ∷ fates) ∷ splits) ≡ fate_lines entries fate ++ lines_left entries (fates_behind entries fate ∷ fates ∷ splits)
left_step entries later fate fates splits known =
    let behind = lines_of_all (fate_trees (tree_under entries) (fates_behind entries fate)) in
    let others = lines_of_all (fate_trees (tree_under entries) fates) in
    append_assoc (lines_of (fate_tree (tree_under entries) fate)) others (lines_left entries splits)
    ∙ ap (λ (lines : List Line). lines ++ (others ++ lines_left entries splits)) (lines_fate entries later fate known)
    ∙ append_assoc (fate_lines entries fate) behind (others ++ lines_left entries splits)

pub walked_more : (entries : List Entry) (written : List Line) (fate : FateOf ℕ) (fates : List (FateOf ℕ))
    (splits : List (List (FateOf ℕ))) → ChildrenAreLater entries → Walked entries written ((fate ∷ fates) ∷ splits)
    → Walked entries (written ++ fate_lines entries fate) (fates_behind entries fate ∷ fates ∷ splits)
walked_more entries written fate fates splits later w =
    let Named = All (IsNamed (length entries)) in
    let top = All-head Named (fate ∷ fates) splits w.named in
    let known = All-head (IsNamed (length entries)) fate fates top in
    record {
      whole = append_assoc written (fate_lines entries fate) (lines_left entries (fates_behind entries fate ∷ fates ∷ splits))
          ∙ ap (λ (lines : List Line). written ++ lines) (sym (left_step entries later fate fates splits known)) ∙ w.whole;
      named = All-cons Named (fates_behind entries fate) (fates ∷ splits) (behind_named entries later fate known)
          (All-cons Named fates splits (All-tail (IsNamed (length entries)) fate fates top) (All-tail Named (fate ∷ fates) splits w.named));
    }

some_line : (entries : List Entry) (fate : FateOf ℕ) → 0 < length (fate_lines entries fate)
some_line entries (is_child name) = omega (
  arith,
  length-append (map kind.Force (entry_at entries name).forced)
      (ending_line (entry_at entries name).ending ∷ []),
)
some_line entries (is_infeasible forced) = omega (arith, length-append (map kind.Force forced) (kind.Dead ∷ []))
some_line entries (is_cut forced) = omega (arith, length-append (map kind.Force forced) (kind.Cut ∷ []))

pub left_falls : (entries : List Entry) (fate : FateOf ℕ) (fates : List (FateOf ℕ)) (splits : List (List (FateOf ℕ)))
    → ChildrenAreLater entries → IsNamed (length entries) fate
    → left entries (fates_behind entries fate ∷ fates ∷ splits) < left entries ((fate ∷ fates) ∷ splits)
left_falls entries fate fates splits later known =
    omega (
      arith,
      some_line entries fate,
      ap length (left_step entries later fate fates splits known),
      length-append (fate_lines entries fate) (lines_left entries (fates_behind entries fate ∷ fates ∷ splits)),
    )

-- what is last in the code comes first
pub last_first : {X Y : Type 0} (f : X → Y) (xs : List X) (x : X) → map f (reverse (xs ++ x ∷ [])) ≡ f x ∷ map f (reverse xs)
last_first f xs x = ap (map f) (reverse-append xs (x ∷ []))

-- the same, of a stack whose top is last, where each element shows the fates that are left of a split
pub stack_past : {X : Type 0} (shown : X → List (FateOf ℕ)) (entries : List Entry) (written : List Line)
    (old popped : List X) (top : X) → old ≡ popped ++ top ∷ [] → shown top ≡ []
    → Walked entries written (map shown (reverse old)) → Walked entries written (map shown (reverse popped))
stack_past shown entries written old popped top is empty w =
    walked_past entries written (map shown (reverse popped))
    (subst (Walked entries written) (ap (λ xs. map shown (reverse xs)) is ∙ last_first shown popped top
    ∙ ap (λ fates. fates ∷ map shown (reverse popped)) empty) w)

stack_top : {X : Type 0} (shown : X → List (FateOf ℕ)) (old popped : List X) (top : X) (fates : List (FateOf ℕ))
    → old ≡ popped ++ top ∷ [] → shown top ≡ fates → map shown (reverse old) ≡ fates ∷ map shown (reverse popped)
stack_top shown old popped top fates is shows = ap (λ xs. map shown (reverse xs)) is ∙ last_first shown popped top
    ∙ ap (λ fates. fates ∷ map shown (reverse popped)) shows

pub stack_known : {X : Type 0} (shown : X → List (FateOf ℕ)) (entries : List Entry) (written : List Line)
    (old popped : List X) (top : X) (fate : FateOf ℕ) (others : List (FateOf ℕ)) → old ≡ popped ++ top ∷ []
    → shown top ≡ fate ∷ others
    → Walked entries written (map shown (reverse old)) → IsNamed (length entries) fate
stack_known shown entries written old popped top fate others is shows w =
    All-head (IsNamed (length entries)) fate others
    (All-head (All (IsNamed (length entries))) (fate ∷ others) (map shown (reverse popped))
    (subst (All (All (IsNamed (length entries)))) (stack_top shown old popped top (fate ∷ others) is shows)
    w.named))

pub stack_more : {X : Type 0} (shown : X → List (FateOf ℕ)) (entries : List Entry) (written after : List Line)
    (old popped pushed new : List X) (top others behind : X) (fate : FateOf ℕ) → ChildrenAreLater entries
    → old ≡ popped ++ top ∷ [] → shown top ≡ fate ∷ shown others → pushed ≡ popped ++ others ∷ []
    → new ≡ pushed ++ behind ∷ [] → shown behind ≡ fates_behind entries fate
    → after ≡ written ++ fate_lines entries fate
    → Walked entries written (map shown (reverse old)) → Walked entries after (map shown (reverse new))
    × (left entries (map shown (reverse new)) < left entries (map shown (reverse old)))
stack_more shown entries written after old popped pushed new top others behind fate later is shows pushes pushes_more shows_behind writes w =
    let before = stack_top shown old popped top (fate ∷ shown others) is shows in
    let behind_it = stack_top shown new pushed behind (fates_behind entries fate) pushes_more shows_behind
    ∙ ap (λ splits. fates_behind entries fate ∷ splits)
    (stack_top shown pushed popped others (shown others) pushes refl) in
    let known = stack_known shown entries written old popped top fate (shown others) is shows w in (
      rw (writes, behind_it) (walked_more entries written fate (shown others) (map shown (reverse popped)) later (subst (Walked entries written) before w)),
      rw (before, behind_it) (left_falls entries fate (shown others) (map shown (reverse popped)) later known),
    )
