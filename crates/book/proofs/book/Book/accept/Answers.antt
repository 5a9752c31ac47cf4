use Rattle.std.proofs.Common.{◌≡◌, ◌+◌, ℕ, ℤ, true, false, List, Option, None, Some, subst, sym, ap, ◌∙◌, arith, rules, IfSome, option_map}
use Rattle.std.specs.Option.{is_some, option_or}
use Rattle.std.specs.Arc.{arc_value}
use Rattle.network.specs.Schedule.{ScheduleOf}
use Rattle.branching.specs.Fair.{ceiling_of, Expansion, IsFair, IsReport}
use Rattle.std.proofs.Math.ListN.{set}
use Rattle.std.proofs.lemmas.Option.{slice_get_within}
use Rattle.book.specs.State.{Named, BookState}
use Rattle.book.specs.Steps.{MayCheckIn, Accepts, IsShorterFound, CheckedIn}
use Rattle.book.specs.OpenNodes.{InsertsChildren}
use Rattle.search_log.specs.SearchLog.{TrailOf, with_entries}
use Rattle.search_log.specs.Recording.{checked_in}
use Rattle.book.specs.Views.{state_of, IsKept, KeepsBook}
pub use Rattle.book.specs.declared.book.Book.TheInside.{Inside}
use Rattle.book.proofs.Steps.{not_improved, improved, accepts, older_than_next, names_last_opened, kept_accepted}
use Rattle.book.proofs.Recorded.{entries_in, entries_changed, project_kept, held_known}
use Rattle.book.proofs.book.Book.accept.Goals as goal

may_check_in : (b : Inside) (s : BookState) (worker name : ℕ) (report : Expansion) → state_of b ≡ s
    → MayCheckIn s worker name report → MayCheckIn (state_of b) worker name report
may_check_in b s worker name report is may = subst (λ (s : BookState). MayCheckIn s worker name report) (sym is) may

pub open_children-requires-clause-older : goal.open_children-requires-clause-older
open_children-requires-clause-older c = older_than_next (state_of c.self.inside) c.self.invariant.kept

pub open_children-requires-clause-known : goal.open_children-requires-clause-known
open_children-requires-clause-known c =
    let may = may_check_in c.self.inside c.args.self.now c.args.worker c.args.name c.args.report c.self.view_is c.requires in
    held_known c.self.inside.trail (state_of c.self.inside) c.args.worker may.held c.args.name
    c.self.invariant.kept.recorded c.self.invariant.kept.sound may.holds may.named

pub empty-requires : goal.empty-requires
empty-requires c =
    let may = may_check_in c.self.inside c.args.self.now c.args.worker c.args.name c.args.report c.self.view_is c.requires in
    slice_get_within c.self.inside.hands c.args.worker (Some may.held) may.holds

pub overflow_add-self-2 : goal.overflow_add-self-2
overflow_add-self-2 c =
    let told : IsReport c.args.report = c.into_parts-found.ensures.report in
    let fair : IsFair c.args.report = told.fair in
    let inserts : InsertsChildren c.self.inside.opened c.or-limit.result c.args.report.children c.in-Ok.opened
    c.self.inside.waiting c.open_children.new.nodes = c.in-Ok.ensures.opened in
    omega (arith, names_last_opened (state_of c.self.inside) c.args.report c.or-limit.result c.in-Ok.opened c.self.invariant.kept fair inserts.count_is)

-- the state that is left
abbrev left : Inside → Option ScheduleOf → List Named → List (Option Named) → ℕ → Option TrailOf → BookState
left b best waiting hands count trail = record (state_of b) {
  best = best;
  waiting = waiting;
  hands = hands;
  opened = b.opened + count;
  checked = b.checked + 1;
  trail =
      entries_in trail;
}

same_left : (b : Inside) (best : Option ScheduleOf) (waiting : List Named) (hands others : List (Option Named))
    (count : ℕ) (trail : Option TrailOf) → hands ≡ others
    → left b best waiting hands count trail ≡ left b best waiting others count trail
same_left b best waiting hands others count trail e = λ i. left b best waiting (e i) count trail

-- the report was accepted, and nothing shorter was found
accepted_as_before : (b : Inside) (worker name : ℕ) (report : Expansion) (shorter best limit : Option ℤ) (count : ℕ)
    (waiting : List Named) (hands : List (Option Named)) (trail : Option TrailOf) → best ≡ ceiling_of b.best
    → IsShorterFound report.found best shorter → limit ≡ option_or shorter best → is_some shorter ≡ false
    → InsertsChildren b.opened limit report.children count b.waiting waiting → hands ≡ set b.hands worker None
    → trail ≡ option_map (with_entries (checked_in limit name report)) b.trail
    → Accepts (state_of b) worker name report (record { opened = count; improved = false })
    (left b b.best waiting hands count trail)
accepted_as_before b worker name report shorter best limit count waiting hands trail is found under e inserts emptied noted =
    let kept = not_improved b.best report.found shorter best is found e in
    accepts (state_of b) worker name report false limit count (left b b.best waiting hands count trail) kept.0
    (under ∙ kept.1) inserts (ap entries_in noted ∙ entries_changed b.trail (checked_in limit name report))
    (same_left b b.best waiting hands (set b.hands worker None) count trail emptied)

-- the report was accepted, and what was found is the best
accepted_as_better : (b : Inside) (worker name : ℕ) (report : Expansion) (now : Option ScheduleOf)
    (shorter best limit : Option ℤ) (count : ℕ) (waiting : List Named) (hands : List (Option Named))
    (trail : Option TrailOf) → best ≡ ceiling_of b.best → IsShorterFound report.found best shorter
    → limit ≡ option_or shorter best → is_some shorter ≡ true → now ≡ report.found
    → InsertsChildren b.opened limit report.children count b.waiting waiting → hands ≡ set b.hands worker None
    → trail ≡ option_map (with_entries (checked_in limit name report)) b.trail
    → Accepts (state_of b) worker name report (record { opened = count; improved = true })
    (left b now waiting hands count trail)
accepted_as_better b worker name report now shorter best limit count waiting hands trail is found under e same inserts emptied noted =
    let better = improved b.best report.found now shorter best is found e same in
    accepts (state_of b) worker name report true limit count (left b now waiting hands count trail) better.0
    (under ∙ better.1) inserts (ap entries_in noted ∙ entries_changed b.trail (checked_in limit name report))
    (same_left b now waiting hands (set b.hands worker None) count trail emptied)

-- the book is kept
kept_after : (b : Inside) (worker name : ℕ) (report : Expansion) (s : BookState) (done : CheckedIn) (limit : Option ℤ)
    (new : BookState) (trail : Option TrailOf) → state_of b ≡ s → MayCheckIn s worker name report → IsReport report
    → KeepsBook b → Accepts (state_of b) worker name report done new
    → trail ≡ option_map (with_entries (checked_in limit name report)) b.trail →
    IsKept new × IfSome trail (λ (t : TrailOf). t.project ≡ arc_value b.project)
kept_after b worker name report s done limit new trail is may told kept accepted noted = (
  kept_accepted (state_of b) worker name report done new told (may_check_in b s worker name report is may) accepted kept.kept,
  subst (λ (t : Option TrailOf). IfSome t (λ (t : TrailOf). t.project ≡ arc_value b.project)) (sym noted)
      (project_kept (arc_value b.project) b.trail (checked_in limit name report) kept.of_trail),
)

pub returns-then-is_none-clause-ok : goal.returns-then-is_none-clause-ok
returns-then-is_none-clause-ok c =
    rw (← c.self.view_is) (accepted_as_before c.self.inside c.args.worker c.args.name c.args.report
    c.shorter_found-shorter.result c.makespan_of-best.result c.or-limit.result c.in-Ok.opened
    c.open_children.new.nodes c.empty.new.self c.open_children.new.trail c.makespan_of-best.ensures
    c.shorter_found-shorter.ensures c.or-limit.ensures (search rules) c.in-Ok.ensures.opened c.empty.ensures
    c.in-Ok.ensures.noted)

pub invariant_of-self-then-is_none : goal.invariant_of-self-then-is_none
invariant_of-self-then-is_none c =
    let done = accepted_as_before c.self.inside c.args.worker c.args.name c.args.report c.shorter_found-shorter.result
    c.makespan_of-best.result c.or-limit.result c.in-Ok.opened c.open_children.new.nodes c.empty.new.self
    c.open_children.new.trail c.makespan_of-best.ensures c.shorter_found-shorter.ensures c.or-limit.ensures
    (search rules) c.in-Ok.ensures.opened c.empty.ensures c.in-Ok.ensures.noted in
    let after = kept_after c.self.inside c.args.worker c.args.name c.args.report c.args.self.now _ c.or-limit.result _
    c.open_children.new.trail c.self.view_is c.requires c.into_parts-found.ensures.report c.self.invariant done
    c.in-Ok.ensures.noted in
    record { kept = after.0; of_trail = after.1 }

pub returns-clause-ok : goal.returns-clause-ok
returns-clause-ok c =
    rw (← c.self.view_is) (accepted_as_better c.self.inside c.args.worker c.args.name c.args.report
    c.into_parts-found.result.0 c.shorter_found-shorter.result c.makespan_of-best.result c.or-limit.result
    c.in-Ok.opened c.open_children.new.nodes c.empty.new.self c.open_children.new.trail c.makespan_of-best.ensures
    c.shorter_found-shorter.ensures c.or-limit.ensures (search rules) c.into_parts-found.ensures.found
    c.in-Ok.ensures.opened c.empty.ensures c.in-Ok.ensures.noted)

pub invariant_of-self-2 : goal.invariant_of-self-2
invariant_of-self-2 c =
    let done = accepted_as_better c.self.inside c.args.worker c.args.name c.args.report c.into_parts-found.result.0
    c.shorter_found-shorter.result c.makespan_of-best.result c.or-limit.result c.in-Ok.opened
    c.open_children.new.nodes c.empty.new.self c.open_children.new.trail c.makespan_of-best.ensures
    c.shorter_found-shorter.ensures c.or-limit.ensures (search rules) c.into_parts-found.ensures.found
    c.in-Ok.ensures.opened c.empty.ensures c.in-Ok.ensures.noted in
    let after = kept_after c.self.inside c.args.worker c.args.name c.args.report c.args.self.now _ c.or-limit.result _
    c.open_children.new.trail c.self.view_is c.requires c.into_parts-found.ensures.report c.self.invariant done
    c.in-Ok.ensures.noted in
    record { kept = after.0; of_trail = after.1 }

pub returns-then-is_none-clause-sound : goal.returns-then-is_none-clause-sound
returns-then-is_none-clause-sound c = (invariant_of-self-then-is_none c).kept.sound

pub returns-clause-sound : goal.returns-clause-sound
returns-clause-sound c = (invariant_of-self-2 c).kept.sound
