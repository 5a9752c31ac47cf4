use Rattle.std.proofs.Common.{◌≡◌, ℕ, List, Option, None, Some, refl, slice_get, rules}
use Rattle.std.specs.Arc.{arc_value}
use Rattle.std.proofs.Math.ListN.{set}
use Rattle.std.proofs.lemmas.Option.{slice_get_within}
use Rattle.book.specs.State.{Named, BookState}
use Rattle.book.specs.Steps.{ReturnsNode}
use Rattle.book.specs.OpenNodes.{Inserts}
use Rattle.book.specs.Views.{state_of}
use Rattle.book.proofs.Steps.{not_open, kept_returned}
use Rattle.book.proofs.book.Book.give_back.Goals as goal

-- what is left
abbrev left : BookState → List Named → List (Option Named) → BookState
left s waiting hands = record s { waiting = waiting; hands = hands }

returned : (s : BookState) (worker : ℕ) (held : Named) (waiting : List Named) (hands : List (Option Named))
    → slice_get s.hands worker ≡ Some (Some held) → Inserts held.name held.node s.waiting waiting
    → hands ≡ set s.hands worker None → ReturnsNode s worker held.name (left s waiting hands)
returned s worker held waiting hands holds goes_in emptied = record {
  held = held;
  holds = holds;
  named = refl;
  moved = goes_in.nodes;
  others = λ i. left s waiting (emptied i);
}

pub insert-requires : goal.insert-requires
insert-requires c =
    let held : Named = record { name = c.args.name; node = arc_value c.in_ok-worker.node.now } in
    let holds : slice_get c.self.inside.hands c.in_ok-worker.worker ≡ Some (Some held) = search rules in
    not_open (state_of c.self.inside) c.in_ok-worker.worker held c.self.invariant.kept.sound holds

pub returns-then-is_err-clause-step : goal.returns-then-is_err-clause-step
returns-then-is_err-clause-step c =
    let held : Named = record { name = c.args.name; node = arc_value c.in_ok-worker.node.now } in
    let holds : slice_get c.self.inside.hands c.in_ok-worker.worker ≡ Some (Some held) = search rules in
    let same : c.insert.new.self ≡ c.self.inside.waiting = search rules in
    rw (← c.self.view_is) (
      (held, record { worker = c.in_ok-worker.worker; holds = holds; named = refl }),
      λ i.
          record (state_of c.self.inside) { waiting = same i },
    )

pub empty-requires : goal.empty-requires
empty-requires c =
    let held : Named = record { name = c.args.name; node = arc_value c.in_ok-worker.node.now } in
    let holds : slice_get c.self.inside.hands c.in_ok-worker.worker ≡ Some (Some held) = search rules in
    slice_get_within c.self.inside.hands c.in_ok-worker.worker (Some held) holds

pub invariant_of-self-2 : goal.invariant_of-self-2
invariant_of-self-2 c =
    let held : Named = record { name = c.args.name; node = arc_value c.in_ok-worker.node.now } in
    let holds : slice_get c.self.inside.hands c.in_ok-worker.worker ≡ Some (Some held) = search rules in
    let goes_in : Inserts c.args.name (arc_value c.in_ok-worker.node.now) c.self.inside.waiting c.insert.new.self = search rules in
    let kept = kept_returned (state_of c.self.inside) c.in_ok-worker.worker c.args.name
    (left (state_of c.self.inside) c.insert.new.self c.empty.new.self)
    (returned (state_of c.self.inside) c.in_ok-worker.worker held c.insert.new.self c.empty.new.self holds goes_in
    c.empty.ensures) c.self.invariant.kept in
    record { kept = kept; of_trail = c.self.invariant.of_trail }

pub returns-clause-step : goal.returns-clause-step
returns-clause-step c =
    let held : Named = record { name = c.args.name; node = arc_value c.in_ok-worker.node.now } in
    let holds : slice_get c.self.inside.hands c.in_ok-worker.worker ≡ Some (Some held) = search rules in
    let goes_in : Inserts c.args.name (arc_value c.in_ok-worker.node.now) c.self.inside.waiting c.insert.new.self = search rules in
    rw (← c.self.view_is) (
      c.in_ok-worker.worker,
      returned (state_of c.self.inside) c.in_ok-worker.worker held c.insert.new.self c.empty.new.self holds goes_in
          c.empty.ensures,
    )

pub returns-clause-sound : goal.returns-clause-sound
returns-clause-sound c = (invariant_of-self-2 c).kept.sound
