use Rattle.std.proofs.Common.{◌≡◌, ℕ, ◌<◌, ◌∷◌, [], List, length, map, reverse, ap, refl, arith, Bor}
use Rattle.std.proofs.lemmas.List.{length-map}
use Rattle.branching.specs.Fates.{fate_value}
use Rattle.search_log.specs.SearchLog.{trail_entry}
pub use Rattle.branching.specs.declared.fate.Fate.{Fate}
use Rattle.search_record.specs.TrailTree.{IsNamed}
use Rattle.search_record.proofs.TrailLines.{Walked, left, stack_past, stack_known, stack_more}
use Rattle.search_record.proofs.walk.tree_lines.Goals as goal
use Rattle.search_record.proofs.walk.tree_lines.Goals.{In_ok-push-3}

none_shown : (fates : List (Fate ℕ)) → length fates ≡ 0 → map fate_value fates ≡ []
none_shown [] none = refl
none_shown (fate ∷ fates) none = absurd (omega arith)

pub loop-fates-preserved : goal.loop-fates-preserved
loop-fates-preserved c =
    stack_past (λ fates. map fate_value fates.now) (map trail_entry c.args.entries.now) c.loop-fates.lines.items
    c.loop-fates.splits.items c.pop.new.self.items c.in-Some.fates
    c.in-Some.ensures.items (none_shown c.in-Some.fates.now c.in_default-split_first.ensures.cases) c.loop-fates.invariant

pub write_child-requires : goal.write_child-requires
write_child-requires c =
    let known : IsNamed (length (map trail_entry c.args.entries.now)) (fate_value c.in-Some-split_first.child.now) =
    stack_known (λ fates. map fate_value fates.now) (map trail_entry c.args.entries.now) c.loop-fates.lines.items
    c.loop-fates.splits.items c.pop.new.self.items c.in-Some.fates
    (fate_value c.in-Some-split_first.child.now) (map fate_value c.in-Some-split_first.others.now)
    c.in-Some.ensures.items (ap (λ (fates : List (Fate ℕ)). map fate_value fates) c.in-Some-split_first.ensures.cases.0) c.loop-fates.invariant in
    rw (length-map c.args.entries.now trail_entry) at known

walked_on : (c : In_ok-push-3) → let shown = λ (fates : Bor (List (Fate ℕ))). map fate_value fates.now in let entries = map trail_entry c.args.entries.now in
    Walked entries c.write_child.new.lines.items (map shown (reverse c.push-in-Some-split_first-2.new.self.items))
    × (left entries (map shown (reverse c.push-in-Some-split_first-2.new.self.items)) < left entries
    (map shown (reverse c.loop-fates.splits.items)))
walked_on c =
    stack_more (λ fates. map fate_value fates.now) (map trail_entry c.args.entries.now) c.loop-fates.lines.items
    c.write_child.new.lines.items c.loop-fates.splits.items c.pop.new.self.items
    c.push-in-Some-split_first.new.self.items c.push-in-Some-split_first-2.new.self.items c.in-Some.fates
    c.in-Some-split_first.others c.in_ok-behind.behind (fate_value c.in-Some-split_first.child.now) c.requires.later
    c.in-Some.ensures.items (ap (λ (fates : List (Fate ℕ)). map fate_value fates) c.in-Some-split_first.ensures.cases.0)
    c.in_ok-push-2.ensures.items c.in_ok-push-3.ensures.items c.in_ok-behind.ensures.behind
    c.in_ok-behind.ensures.lines
    c.loop-fates.invariant

pub loop-fates-preserved-in-Continue-branch-4 : goal.loop-fates-preserved-in-Continue-branch-4
loop-fates-preserved-in-Continue-branch-4 c = (walked_on c).0

pub loop-fates-smaller-in-Continue-branch-4 : goal.loop-fates-smaller-in-Continue-branch-4
loop-fates-smaller-in-Continue-branch-4 c = (walked_on c).1
