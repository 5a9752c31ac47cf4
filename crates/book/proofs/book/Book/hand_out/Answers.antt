use Rattle.std.proofs.Common.{◌≡◌, ◌<◌, ◌+◌, ◌∷◌, List, Option, Some, false, refl, subst, sym}
use Rattle.std.proofs.Math.ListN.{set}
use Rattle.std.specs.List.Sorted.{IsPermutation}
use Rattle.std.proofs.lemmas.List.Sorted.{IsPermutation-refl}
use Rattle.book.specs.State.{Named, BookState, held_node}
use Rattle.book.specs.Steps.{IsFull, Ticket}
use Rattle.book.specs.Views.{state_of}
use Rattle.book.proofs.Steps.{kept_handed_out}
use Rattle.book.proofs.book.Book.hand_out.Goals as goal

-- what is left
abbrev left : BookState → List Named → List (Option Named) → BookState
left s waiting hands = record s { waiting = waiting; hands = hands; taken = s.taken + 1 }

same_left : (s : BookState) (waiting : List Named) (hands others : List (Option Named)) → hands ≡ others → left s waiting hands ≡ left s waiting others
same_left s waiting hands others e = λ i. left s waiting (e i)

pub invariant_of-self : goal.invariant_of-self
invariant_of-self c =
    let s : BookState = state_of c.self.inside in
    let first : Named = held_node c.in-Some.held in
    let ticket : Ticket = record { name = c.in-Some.held.name; node = c.in-Some.node; ceiling = c.makespan_of.result } in
    let free : IsFull s.hands c.args.worker false = subst (λ (s : BookState). IsFull s.hands c.args.worker false) (sym c.self.view_is) c.requires.free in
    let within : s.taken < s.limit = subst (λ (s : BookState). s.taken < s.limit) (sym c.self.view_is) c.requires.within in
    let kept = kept_handed_out s c.args.worker ticket (left s c.pop_first.new.self c.fill.new.self) free within
    (record {
      first = first;
      moved = subst (λ ns. IsPermutation ns (first ∷ c.pop_first.new.self)) (sym c.in-Some.ensures.popped) (IsPermutation-refl _);
      before = c.in-Some.ensures.before;
      others = same_left s c.pop_first.new.self c.fill.new.self (set s.hands c.args.worker (Some first)) c.fill.ensures;
      name = refl;
      node = c.in-Some.ensures.twin;
      ceiling = c.makespan_of.ensures;
    })
    c.self.invariant.kept in
    record { kept = kept; of_trail = c.self.invariant.of_trail }

pub returns-clause-sound : goal.returns-clause-sound
returns-clause-sound c = (invariant_of-self c).kept.sound
