use Rattle.std.proofs.Common.{◌≡◌, ℕ, List, Option, None, sym, subst, length, false, rules}
use Rattle.std.specs.Arc.{arc_value}
use Rattle.std.proofs.Math.ListN.{replicate}
use Rattle.network.specs.Problem.{Problem}
use Rattle.book.specs.State.{Named, BookState}
use Rattle.book.specs.Steps.{AreAllowed, AreRoots}
use Rattle.book.specs.Views.{IsKept}
use Rattle.book.proofs.Steps.{kept_opened}
use Rattle.book.proofs.book.Book.open.Goals as goal

abbrev opened_state : Problem → List Named → ℕ → List (Option Named) → ℕ → BookState
opened_state p nodes takes hands count =
    record {
      project = p;
      best = None;
      waiting = nodes;
      hands = hands;
      opened = count;
      checked = 0;
      cut = 0;
      taken = 0;
      limit = takes;
      halted = false;
      trail = None;
    }

same_state : (p : Problem) (nodes : List Named) (takes : ℕ) (hands others : List (Option Named)) (count number : ℕ)
    → hands ≡ others → count ≡ number → opened_state p nodes takes hands count ≡ opened_state p nodes takes others
    number
same_state p nodes takes hands others count number e f = λ i. opened_state p nodes takes (e i) (f i)

pub invariant_of-result : goal.invariant_of-result
invariant_of-result c =
    let nodes : List Named = c.in_ok-waiting.waiting in
    let allowed : AreAllowed c.args.workers c.args.takes = search rules in
    let first : AreRoots (arc_value c.args.project) nodes = search rules in
    let hands : c.in_ok-hands.hands ≡ replicate c.args.workers None = search rules in
    let count : c.len-opened.result ≡ length nodes = search rules in
    let kept = subst IsKept (sym (same_state (arc_value c.args.project) nodes c.args.takes c.in_ok-hands.hands
    (replicate c.args.workers None) c.len-opened.result (length nodes) hands count))
    (kept_opened (arc_value c.args.project) c.args.workers c.args.takes nodes allowed first) in
    record { kept = kept; of_trail = tt }

pub returns-clause-sound : goal.returns-clause-sound
returns-clause-sound c = (invariant_of-result c).kept.sound
