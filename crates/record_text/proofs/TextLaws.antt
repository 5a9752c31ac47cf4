-- What the laws of the text of a search's record follow from.
use Rattle.std.proofs.Common.{◌≡◌, ◌↔◌, ℕ, zero, suc, ◌+◌, ◌-◌, ◌<◌, ◌≤◌, List, [], ◌∷◌, ◌++◌, refl, sym, ap, ◌∙◌, subst, arith, append_assoc, append-nil, ◌*◌}
use Rattle.std.proofs.Common.{Some, length, ◌≢◌, None, pos, ℤ, codes}
use Rattle.network.specs.declared.parts.Pair.{Pair}
use Rattle.record_text.specs.Tree.{Tree, force, solved, cut, dead, split, Trees, no_trees, tree, count_trees, pair_count, IsTree, AreTrees, lines_of}
use Rattle.record_text.specs.Tree.{lines_of_all, IsTreeOf, Completes, still_due, count_members, Line, Claim}
use Rattle.record_text.specs.declared.line.Line.TheVariants as kind
use Rattle.std.proofs.Math.Nat.{mul-le-mul_left}
use Rattle.std.specs.List.{AllByRecursion}
use Rattle.record_text.specs.Text.{IsWritableLine, row_of, IsWritableClaim, claim_rows, spaced, spaced_times, search_kind}
use Rattle.record_text.specs.Reading.{makespan_in, starts_in, search_rules}
use Rattle.record_text.proofs.RowReads.{line_again, line_takes, members_fit, claim_injective, makespan_again, makespan_takes, starts_again, starts_take}
use Rattle.record_text.proofs.RowReads.{other_word}
use Rattle.record_text.specs.declared.line.Claim.TheVariants as claims
use Rattle.record_text.proofs.KindLaws.{stands_in, no_claim}
use Rattle.record_text.proofs.Rows.{plain_append, plain_spaced, plain_times, Stands}
use Rattle.record_text.specs.Kinds.{AreRows, MAX_RECORD_BYTES, RulesHold, IsDueAfter, HasNone, Facts}
use Rattle.record_text.specs.Rows.{line_pieces, Begin}

-- ---- Lines that complete one node are those of a tree.

-- so many trees with these lines
pub record Grows (due : ℕ) (lines : List Line) : Type 0 where
  pub trees : Trees
  pub count : count_trees trees ≡ due
  pub shapes : AreTrees trees
  pub spelled : lines_of_all trees ≡ lines

-- the first k trees, and the others
record Parts (k : ℕ) (ts : Trees) : Type 0 where
  front : Trees
  back : Trees
  front_count : count_trees front ≡ k
  back_count : k + count_trees back ≡ count_trees ts
  front_shapes : AreTrees front
  back_shapes : AreTrees back
  spelled : lines_of_all front ++ lines_of_all back ≡ lines_of_all ts

parts : (k : ℕ) (ts : Trees) → k ≤ count_trees ts → AreTrees ts → Parts k ts
parts zero ts few shapes = record {
  front = no_trees;
  back = ts;
  front_count = refl;
  back_count = omega arith;
  front_shapes = tt;
  back_shapes = shapes;
  spelled = refl;
}
parts (suc k) no_trees few shapes = absurd (omega arith)
parts (suc k) (tree t ts) few shapes =
    let p = parts k ts (omega arith) shapes.1 in
    record {
      front = tree t p.front;
      back = p.back;
      front_count = ap suc p.front_count;
      back_count = omega (arith, p.back_count);
      front_shapes = (shapes.0, p.front_shapes);
      back_shapes = p.back_shapes;
      spelled = append_assoc (lines_of t) (lines_of_all p.front) (lines_of_all p.back) ∙ ap (λ (lines : List Line). lines_of t ++ lines) p.spelled;
    }

leaf_grows : (due : ℕ) (lines : List Line) (leaf : Tree) (line : Line) → IsTree leaf → lines_of leaf ≡ line ∷ []
    → 0 < due → Grows (due - 1) lines → Grows due (line ∷ lines)
leaf_grows due lines leaf line shape only some g = record {
  trees = tree leaf g.trees;
  count = omega (arith, g.count);
  shapes = (shape, g.shapes);
  spelled = ap (λ (own : List Line). own ++ lines_of_all g.trees) only ∙ ap (λ (others : List Line). line ∷ others) g.spelled;
}

force_grows : (due : ℕ) (lines : List Line) (pair : Pair) (ts : Trees) → 0 < due → count_trees ts ≡ due → AreTrees ts
    → lines_of_all ts ≡ lines → Grows due (kind.Force pair ∷ lines)
force_grows due lines pair no_trees some count shapes spelled = absurd (omega arith)
force_grows due lines pair (tree t ts) some count shapes spelled =
    record {
      trees = tree (force pair t) ts;
      count = count;
      shapes = shapes;
      spelled =
          ap (λ (others : List Line). kind.Force pair ∷ others) spelled;
    }

pub grown : (due : ℕ) (lines : List Line) → Completes due lines → Grows due lines
grown due [] h = record { trees = no_trees; count = sym h; shapes = tt; spelled = refl }
grown due (kind.Force pair ∷ lines) h = let g = grown due lines h.2 in force_grows due lines pair g.trees h.0 g.count g.shapes g.spelled
grown due (kind.Solved ∷ lines) h = leaf_grows due lines solved kind.Solved tt refl h.0 (grown (due - 1) lines h.2)
grown due (kind.Cut ∷ lines) h = leaf_grows due lines cut kind.Cut tt refl h.0 (grown (due - 1) lines h.2)
grown due (kind.Dead ∷ lines) h = leaf_grows due lines dead kind.Dead tt refl h.0 (grown (due - 1) lines h.2)
grown due (kind.Split resource members ∷ lines) h =
    let g = grown (due - 1 + pair_count members) lines h.2 in
    let p = parts (pair_count members) g.trees (omega (arith, g.count)) g.shapes in
    record {
      trees = tree (split resource members p.front) p.back;
      count = omega (arith, g.count, p.back_count, h.0);
      shapes = ((h.1, p.front_count, p.front_shapes), p.back_shapes);
      spelled = ap (λ (others : List Line). kind.Split resource members ∷ others) (p.spelled ∙ g.spelled);
    }

less_one : (due : ℕ) (rest : List Line) → Completes due rest → Completes (suc due - 1) rest
less_one due rest h = let same : due ≡ suc due - 1 = omega arith in subst (λ (n : ℕ). Completes n rest) same h

mutual
  pub tree_completes : (t : Tree) (due : ℕ) (rest : List Line) → IsTree t → Completes due rest → Completes (suc due) (lines_of t ++ rest)
  tree_completes (force pair t) due rest shape h = (omega arith, tt, tree_completes t due rest shape h)
  tree_completes (split resource members children) due rest shape h = (
    omega arith,
    shape.0,
    subst (λ (n : ℕ). Completes n (lines_of_all children ++ rest)) (omega (arith, shape.1))
        (trees_complete children due rest shape.2 h),
  )
  tree_completes t due rest shape h = (omega arith, tt, less_one due rest h)

  pub trees_complete : (ts : Trees) (due : ℕ) (rest : List Line) → AreTrees ts → Completes due rest → Completes (count_trees ts + due) (lines_of_all ts ++ rest)
  trees_complete no_trees due rest shapes h = subst (λ (n : ℕ). Completes n rest) (omega arith) h
  trees_complete (tree t ts) due rest shapes h =
      let inner = tree_completes t (count_trees ts + due) (lines_of_all ts ++ rest) shapes.0 (trees_complete ts due rest shapes.1 h) in
      subst (λ (lines : List Line). Completes (suc (count_trees ts) + due) lines) (sym (append_assoc (lines_of t) (lines_of_all ts) rest))
      (subst (λ (n : ℕ). Completes n (lines_of t ++ (lines_of_all ts ++ rest))) (omega arith) inner)

-- a list of lines is that of a tree exactly where the count of nodes that are due, at first 1, falls to 0
-- at its end and not before
pub trees_law : (lines : List Line) → Completes 1 lines ↔ ((t : Tree) × IsTreeOf lines t)
trees_law lines = (
  λ h. let g = grown 1 lines h in only g.trees g.count g.shapes g.spelled,
  λ h.
      subst (Completes 1) (append-nil (lines_of h.0) ∙ h.1.spelled) (tree_completes h.0 0 [] h.1.shape refl),
)
  where
    only : (ts : Trees) → count_trees ts ≡ 1 → AreTrees ts → lines_of_all ts ≡ lines → (t : Tree) × IsTreeOf lines t
    only (tree t no_trees) count shapes spelled = (t, record { shape = shapes.0; spelled = sym (append-nil (lines_of t)) ∙ spelled })
    only ts count shapes spelled = absurd (omega arith)

-- ---- what is due stays within bounds

squares : (q m : ℕ) → q ≤ m → q * (q - 1) ≤ q * m
squares q m h = mul-le-mul_left q (omega (arith, h))

due_bound : (due : ℕ) (line : Line) → count_members line ≤ MAX_RECORD_BYTES → still_due due line ≤ due + count_members line * MAX_RECORD_BYTES
due_bound due (kind.Split resource members) h = omega (arith, squares (length members) MAX_RECORD_BYTES h)
due_bound due line h = omega arith

-- ---- The rows of a tree, read one after another.

hold : RulesHold search_rules
hold = record {
  reads_last = λ due some. line_again kind.Dead tt tt;
  next_last = λ due some. omega (arith, some);
  takes = λ due row line h. (line_takes row line h).0;
  near = λ due row line h small. let fit = members_fit row line h in omega (arith, fit, due_bound due line (omega (arith, fit, small)));
}

abbrev AreWritable : List Line → Type 0
AreWritable lines = AllByRecursion IsWritableLine lines

pub leads_from : (due : ℕ) (lines : List Line) → Completes due lines → AreWritable lines → IsDueAfter search_rules due lines 0
leads_from due [] c w = c
leads_from due (l ∷ ls) c w = (c.0, line_again l w.0 c.1, leads_from (still_due due l) ls c.2 w.1)

pub leads_to : (due : ℕ) (lines : List Line) → IsDueAfter search_rules due lines 0 → Completes due lines × AreWritable lines
leads_to due [] h = (h, tt)
leads_to due (l ∷ ls) h =
    let t = line_takes (row_of l) l h.1 in
    let more = leads_to (still_due due l) ls h.2 in
    ((h.0, t.2, more.0), (t.1, more.1))

some_rows : (claim : Claim) → 0 < length (claim_rows claim)
some_rows claims.NoSchedule = omega arith
some_rows (claims.Optimal m S) = omega arith

claim_plain : (claim : Claim) → IsWritableClaim claim → AllByRecursion HasNone (claim_rows claim)
claim_plain claims.NoSchedule w = (refl, tt)
claim_plain (claims.Optimal m S) w = (
  plain_append (codes "optimal") (spaced_times (m ∷ [])) refl
      (plain_times (m ∷ []) (w.0, tt)),
  (plain_append (codes "starts") (spaced_times S) refl (plain_times S w.2), tt),
)

line_plain : (line : Line) → IsWritableLine line → HasNone (row_of line)
line_plain (kind.Force pair) w = plain_append (codes "force") (spaced (pair.before ∷ pair.after ∷ [])) refl
    (plain_spaced (pair.before ∷ pair.after ∷ []) (w.0, (w.1, tt)))
line_plain (kind.Split resource members) w = plain_append (codes "split") (spaced (resource ∷ members)) refl (plain_spaced (resource ∷ members) (w.0, w.1))
line_plain line w = refl

pub facts : Facts search_kind search_rules
facts = record {
  rules = hold;
  leads = λ lines w whole. leads_from 1 lines ((trees_law lines).1 whole) w;
  whole = λ lines leads. let t = leads_to 1 lines leads in (t.1, (trees_law lines).0 t.0);
  one_claim = claim_injective;
  some_rows = some_rows;
  example = claims.NoSchedule;
  example_is = tt;
  title_plain = refl;
  claim_plain = claim_plain;
  line_plain = line_plain;
}

-- ---- The faults of the rows before the tree.

pub stands_third : (row : List ℕ) (z : ℤ) → makespan_in row ≡ Some z → Stands (AreRows search_kind) (codes "record 1" ∷ row ∷ [])
stands_third row z h =
    let t = makespan_takes row z h in
    let starts = (codes "starts" ++ spaced_times (pos 0 ∷ [])) ∷ [] in
    stands_in facts (claims.Optimal z (pos 0 ∷ [])) (codes "record 1" ∷ row ∷ []) starts
    (t.1, omega arith, (omega arith, tt)) (ap (λ (r : List ℕ). codes "record 1" ∷ r ∷ starts) (sym t.0))
    (omega arith)

second_is : (claim : Claim) (x : List (List ℕ)) (row : List ℕ) (rest : List (List ℕ)) → IsWritableClaim claim
    → row ≢ codes "no schedule" → makespan_in row ≡ None → claim_rows claim ++ x ≡ row ∷ rest → ⊥
second_is claims.NoSchedule x row rest w other none h = let e : codes "no schedule" ≡ row = cc in other (sym e)
second_is (claims.Optimal m S) x row rest w other none h =
    let e : codes "optimal" ++ spaced_times (m ∷ []) ≡ row = cc in
    let f : Some m ≡ None = sym (makespan_again m w.0) ∙ ap makespan_in e ∙ none in
    absurd cc

pub no_second : (row : List ℕ) → row ≢ codes "no schedule" → makespan_in row ≡ None → ¬ Begin (AreRows search_kind) (codes "record 1" ∷ row ∷ [])
no_second row other none = no_claim search_kind (row ∷ []) (λ claim x rest w h. second_is claim x row rest w other none h)

third_is : (claim : Claim) (x : List (List ℕ)) (second row : List ℕ) (z : ℤ) (rest : List (List ℕ))
    → IsWritableClaim claim → makespan_in second ≡ Some z → starts_in row ≡ None
    → claim_rows claim ++ x ≡ second ∷ row ∷ rest → ⊥
third_is claims.NoSchedule x second row z rest w found none h =
    let e : codes "no schedule" ≡ second = cc in other_word z (e ∙ (makespan_takes second z found).0)
third_is (claims.Optimal m S) x second row z rest w found none h =
    let e : codes "starts" ++ spaced_times S ≡ row = cc in
    let f : Some S ≡ None = sym (starts_again S w.1 w.2) ∙ ap starts_in e ∙ none in
    absurd cc

pub no_third : (second row : List ℕ) (z : ℤ) → makespan_in second ≡ Some z → starts_in row ≡ None
    → ¬ Begin (AreRows search_kind) (codes "record 1" ∷ second ∷ row ∷ [])
no_third second row z found none = no_claim search_kind (second ∷ row ∷ []) (λ claim x rest w h. third_is claim x second row z rest w found none h)

pub claim_read : (text row rest row2 rest2 : List ℕ) (z : ℤ) (S : List ℤ) → line_pieces text ≡ row ∷ line_pieces rest
    → makespan_in row ≡ Some z → line_pieces rest ≡ row2 ∷ line_pieces rest2 → starts_in row2 ≡ Some S
    → (line_pieces text ≡ claim_rows (claims.Optimal z S) ++ line_pieces rest2) × IsWritableClaim (claims.Optimal z S)
claim_read text row rest row2 rest2 z S h m k s =
    let t = makespan_takes row z m in
    let u = starts_take row2 S s in (
      h ∙ ap (λ (ps : List (List ℕ)). row ∷ ps) k ∙ ap (λ (r : List ℕ). r ∷ row2 ∷ line_pieces rest2) t.0
          ∙ ap (λ (r : List ℕ). (codes "optimal" ++ spaced_times (z ∷ [])) ∷ r ∷ line_pieces rest2) u.0,
      (t.1, u.1, u.2),
    )
