-- What becomes of a book: as it is opened, as a worker takes a node, gives it back or checks it in, and as a schedule is offered.
use Rattle.std.specs.Prelude.{◌≡◌, ◌≢◌, ℤ, Bool, true, false, Option, Some, None, IfSome, Result, Ok, Err, ◌+◌, ◌<◌}
use Rattle.std.specs.Prelude.{◌≤◌, ◌++◌, ℕ, List, [], ◌∷◌, length, option_map, slice_set, ◌⊎◌, replicate, ◌<ℤ◌}
use Rattle.std.specs.Prelude.{slice_get}
use Rattle.network.specs.Schedule.{ScheduleOf, makespan}
use Rattle.branching.specs.Right.{IsUnder, Reaches, IsInTime}
use Rattle.branching.specs.Fair.{ceiling_of, Expansion, AreListsOf, IsRootOf}
use Rattle.book.specs.State.{BookState, Named, node_named, Holds, in_hand, best_makespan}
use Rattle.book.specs.declared.answers.OtherProject.{OtherProject}
use Rattle.std.specs.List.{All, Any}
use Rattle.std.specs.List.Sorted.{IsPermutation}
use Rattle.branching.specs.Subproblem.{Subproblem}
use Rattle.branching.specs.declared.branches.Branches.{Branches}
use Rattle.search_log.specs.RightTrail.{children_below}
use Rattle.search_log.specs.Recording.{checked_in}
pub use Rattle.book.specs.declared.answers.CheckedIn.{CheckedIn}
use Rattle.book.specs.declared.answers.CheckFault.{CheckFault}
use Rattle.book.specs.declared.answers.CheckFault.TheVariants as fault
use Rattle.network.specs.Problem.{Problem, arcs_of}
use Rattle.network.specs.Walk.{HasPositiveCycle}
use Rattle.plain_search.specs.declared.search.TheConstants.{MAX_EXPANDED}
use Rattle.search_log.specs.SearchLog.{Entry, no_entry}
use Rattle.book.specs.declared.answers.TheConstants.{MAX_WORKERS}
use Rattle.book.specs.declared.answers.BookFault.{BookFault}
use Rattle.book.specs.declared.answers.BookFault.TheVariants as refused
use Rattle.std.specs.Arc.{arc_value}
use Rattle.book.specs.Sound.{note_cut}
pub use Rattle.book.specs.declared.answers.Ticket.{Ticket}
use Rattle.book.specs.declared.answers.Take.{Take}
use Rattle.book.specs.declared.answers.Take.TheVariants as answer

-- ---- What a schedule changes that is offered, or that a report found.

-- the makespan of what was found, where that is below the limit
abbrev pub IsShorterFound : Option ScheduleOf → Option ℤ → Option ℤ → Type 0
IsShorterFound found limit None = IfSome found (λ schedule. Reaches limit (makespan schedule.starts))
IsShorterFound found limit (Some length) =
    (schedule : ScheduleOf) × (found ≡ Some schedule) × (length ≡ makespan schedule.starts) × IsUnder limit length

-- a schedule takes the place of the best where it is strictly shorter, or where there was none
abbrev pub Improves : Option ScheduleOf → Option ScheduleOf → Bool → Option ScheduleOf → Type 0
Improves old found true new =
    (schedule : ScheduleOf) × (found ≡ Some schedule)
    × IsUnder (ceiling_of old) (makespan schedule.starts)
    × (new ≡ found)
Improves old found false new =
    IfSome found (λ schedule. Reaches (ceiling_of old) (makespan schedule.starts)) × (new ≡ old)

-- a schedule of another project is refused, and handed back
abbrev pub Offers : BookState → ScheduleOf → Result Bool (ScheduleOf × OtherProject) → BookState → Type 0
Offers old schedule (Ok improved) new =
    (schedule.project ≡ old.project)
    × Improves old.best (Some schedule) improved new.best
    × (new ≡ record old { best = new.best })
Offers old schedule (Err refused) new = (schedule.project ≢ old.project) × (refused.0 ≡ schedule) × (new ≡ old)

-- ---- What becomes of a book when the report on a node in hand is checked in, and why it may be refused.

-- the nodes in their order, under the names from the first on
abbrev pub named_from : ℕ → List Subproblem → List Named
named_from first [] = []
named_from first (node ∷ nodes) = node_named first node ∷ named_from (first + 1) nodes

-- a node of that name is in some hand
pub record IsInHand (s : BookState) (name : ℕ) (held : Named) : Type 0 where
  pub worker : ℕ
  pub holds : Holds s.hands worker held
  pub named : held.name ≡ name

-- no node of that name is in hand
abbrev pub IsNotInHand : BookState → ℕ → Type 0
IsNotInHand s name = All (λ (held : Named). held.name ≢ name) (in_hand s.hands)

-- the report is on the node in the worker's hand, whose name this is
pub record MayCheckIn (s : BookState) (worker : ℕ) (name : ℕ) (report : Expansion) : Type 0 where
  pub held : Named
  pub holds : Holds s.hands worker held
  pub named : held.name ≡ name
  pub pairs : held.node.pairs ≡ report.node.pairs
  pub project : report.node.project ≡ s.project
  pub in_time : IsInTime report.ceiling (best_makespan s)

-- the node leaves the hand; what was found counts; the children below the best are opened under the next names; and the
-- trail, if one is kept, tells how the node ended
pub record Accepts
    (old : BookState) (worker : ℕ) (name : ℕ) (report : Expansion) (done : CheckedIn) (new : BookState) : Type 0 where
  pub best : Improves old.best report.found done.improved new.best
  pub count : done.opened ≡ length (children_below (best_makespan new) report.children)
  pub opened :
      IsPermutation (named_from old.opened (children_below (best_makespan new) report.children) ++ old.waiting) new.waiting
  pub noted : new.trail ≡ option_map (checked_in (best_makespan new) name report) old.trail
  pub others : new ≡ record old {
    best = new.best;
    waiting = new.waiting;
    hands = slice_set old.hands worker None;
    opened = old.opened + done.opened;
    checked = old.checked + 1;
    trail = new.trail;
  }

-- why a report is refused: the first fault that there is, since each says that those before it are not there
abbrev pub Refuses : BookState → ℕ → Expansion → CheckFault → Type 0
Refuses s name report fault.Unknown = s.opened ≤ name
Refuses s name report fault.NotInHand = (name < s.opened) × IsNotInHand s name
Refuses s name report fault.OtherNode = (held : Named) × IsInHand s name held × (held.node.pairs ≢ report.node.pairs)
Refuses s name report fault.OtherProject =
    (held : Named) × IsInHand s name held
    × (held.node.pairs ≡ report.node.pairs)
    × (report.node.project ≢ s.project)
Refuses s name report (fault.AheadOfBook best) =
    (held : Named) × IsInHand s name held
    × (held.node.pairs ≡ report.node.pairs)
    × (report.node.project ≡ s.project)
    × ¬ IsInTime report.ceiling (best_makespan s)
    × (best ≡ best_makespan s)
Refuses s name report fault.Memory = (worker : ℕ) × MayCheckIn s worker name report

-- a refused report is handed back
abbrev pub ChecksIn : BookState → ℕ → Expansion → Result CheckedIn (Expansion × CheckFault) → BookState → Type 0
ChecksIn old name report (Ok done) new =
    (worker : ℕ) × MayCheckIn old worker name report × Accepts old worker name report done new
ChecksIn old name report (Err refused) new = Refuses old name report refused.1 × (refused.0 ≡ report) × (new ≡ old)

-- the same, and the lists of an accepted report come back
abbrev pub ChecksInForReuse :
    BookState → ℕ → Expansion → Result (CheckedIn × Branches) (Expansion × CheckFault) → BookState → Type 0
ChecksInForReuse old name report (Ok done) new = ChecksIn old name report (Ok done.0) new × AreListsOf report done.1
ChecksInForReuse old name report (Err refused) new = ChecksIn old name report (Err refused) new

-- the worker whose node the report is on, or why there is none
abbrev pub Judges : BookState → ℕ → Expansion → Result ℕ CheckFault → Type 0
Judges s name report (Ok worker) = MayCheckIn s worker name report
Judges s name report (Err why) = Refuses s name report why

-- ---- What becomes of a book when a node in hand is given back.

-- the node in the worker's hand goes back to the open ones as it was
pub record ReturnsNode (old : BookState) (worker : ℕ) (name : ℕ) (new : BookState) : Type 0 where
  pub held : Named
  pub holds : Holds old.hands worker held
  pub named : held.name ≡ name
  pub moved : IsPermutation (held ∷ old.waiting) new.waiting
  pub others : new ≡ record old { waiting = new.waiting; hands = slice_set old.hands worker None }

abbrev pub GivesBack : BookState → ℕ → Result (Unit {0}) CheckFault → BookState → Type 0
GivesBack old name (Ok done) new = (worker : ℕ) × ReturnsNode old worker name new
GivesBack old name (Err fault.Unknown) new = (old.opened ≤ name) × (new ≡ old)
GivesBack old name (Err fault.NotInHand) new = (name < old.opened) × IsNotInHand old name × (new ≡ old)
GivesBack old name (Err fault.Memory) new = ((held : Named) × IsInHand old name held) × (new ≡ old)
-- there is no other fault
GivesBack old name (Err other) new = ⊥

-- ---- What a book is when it is opened.

-- from 1 to 64 workers, from 1 to 1,000,000,000 takes
pub record AreAllowed (workers takes : ℕ) : Type 0 where
  pub some_worker : 1 ≤ workers
  pub few_workers : workers ≤ MAX_WORKERS
  pub some_take : 1 ≤ takes
  pub few_takes : takes ≤ MAX_EXPANDED

-- a book with these open nodes, with empty hands and without a schedule
abbrev pub new_state : Problem → ℕ → ℕ → List Named → BookState
new_state p workers takes nodes =
    record {
      project = p;
      best = None;
      waiting = nodes;
      hands = replicate workers None;
      opened = length nodes;
      checked = 0;
      cut = 0;
      taken = 0;
      limit = takes;
      halted = false;
      trail = None;
    }

-- the root under name 0; where a closed walk of the project's rules has positive weight, no node
abbrev pub AreRoots : Problem → List Named → Type 0
AreRoots p nodes =
    ((root : Subproblem) × IsRootOf p root × (nodes ≡ node_named 0 root ∷ []))
    ⊎ (HasPositiveCycle (arcs_of p []) × (nodes ≡ []))

-- the first nodes are open
abbrev pub IsOpened : Problem → ℕ → ℕ → BookState → Type 0
IsOpened p workers takes new = (nodes : List Named) × AreRoots p nodes × (new ≡ new_state p workers takes nodes)

abbrev pub Opens : Problem → ℕ → ℕ → Result BookState BookFault → Type 0
Opens p workers takes (Ok new) = AreAllowed workers takes × IsOpened p workers takes new
Opens p workers takes (Err refused.Limit) = ¬ AreAllowed workers takes
Opens p workers takes (Err refused.Memory) = AreAllowed workers takes

-- what is known of the first nodes: the root has no parent and no pairs
abbrev pub first_entries : List Named → List Entry
first_entries nodes = replicate (length nodes) no_entry

-- the same book with a trail of the first nodes
abbrev pub IsOpenedRecorded : Problem → ℕ → ℕ → BookState → Type 0
IsOpenedRecorded p workers takes new =
    (nodes : List Named) × AreRoots p nodes
    × (new ≡ record (new_state p workers takes nodes) { trail = Some (first_entries nodes) })

abbrev pub OpensRecorded : Problem → ℕ → ℕ → Result BookState BookFault → Type 0
OpensRecorded p workers takes (Ok new) = AreAllowed workers takes × IsOpenedRecorded p workers takes new
OpensRecorded p workers takes (Err refused.Limit) = ¬ AreAllowed workers takes
OpensRecorded p workers takes (Err refused.Memory) = AreAllowed workers takes

-- ---- What becomes of a book when a worker asks for a node, in seven cases.

-- the node of least bound goes first, among these that of the greatest name
abbrev pub GoesBefore : Named → Named → Type 0
GoesBefore a b = (a.node.bound <ℤ b.node.bound) ⊎ ((a.node.bound ≡ b.node.bound) × (b.name < a.name))

-- the worker's hand holds a node, or holds none
abbrev pub IsFull : List (Option Named) → ℕ → Bool → Type 0
IsFull hands worker true = (held : Named) × Holds hands worker held
IsFull hands worker false = slice_get hands worker ≡ Some None

-- the worker is there with an empty hand, and the book isn't halted
pub record MayTake (s : BookState) (worker : ℕ) : Type 0 where
  pub free : IsFull s.hands worker false
  pub going : s.halted ≡ false

-- some open node may lead to a schedule that is shorter than the best
abbrev pub CanImprove : BookState → Type 0
CanImprove s = Any (λ (n : Named). IsUnder (best_makespan s) n.node.bound) s.waiting

-- some node is open, and none can lead to a shorter schedule
abbrev pub IsSettled : BookState → Type 0
IsSettled s = (0 < length s.waiting) × All (λ (n : Named). Reaches (best_makespan s) n.node.bound) s.waiting

-- the open nodes of a settled book are cut, and the trail, if one is kept, tells it; any other book stays as it is
abbrev pub Cuts : BookState → BookState → Type 0
Cuts old new =
    (IsSettled old
    × (new ≡ record old {
      waiting = [];
      cut = old.cut + length old.waiting;
      trail = option_map (note_cut old.waiting) old.trail;
    }))
    ⊎ (((old.waiting ≡ []) ⊎ CanImprove old) × (new ≡ old))

-- no node is left open
pub record LeavesNoneOpen (old : BookState) (worker : ℕ) (new : BookState) : Type 0 where
  pub may : MayTake old worker
  pub cuts : Cuts old new
  pub none : new.waiting ≡ []

-- the open node that goes before each other moves into the worker's hand, and the ticket is for it
pub record HandsOut (old : BookState) (worker : ℕ) (ticket : Ticket) (new : BookState) : Type 0 where
  pub first : Named
  pub moved : IsPermutation old.waiting (first ∷ new.waiting)
  pub before : All (GoesBefore first) new.waiting
  pub others : new ≡ record old {
    waiting = new.waiting;
    hands = slice_set old.hands worker (Some first);
    taken = old.taken + 1;
  }
  pub name : ticket.name ≡ first.name
  pub node : arc_value ticket.node ≡ first.node
  pub ceiling : ticket.ceiling ≡ best_makespan old

abbrev pub Takes : BookState → ℕ → Take → BookState → Type 0
Takes old worker answer.NoSuchWorker new = (length old.hands ≤ worker) × (new ≡ old)
Takes old worker answer.HandsFull new = IsFull old.hands worker true × (new ≡ old)
Takes old worker answer.Halted new = IsFull old.hands worker false × (old.halted ≡ true) × (new ≡ old)
Takes old worker answer.Done new = LeavesNoneOpen old worker new × (in_hand new.hands ≡ [])
Takes old worker answer.Idle new = LeavesNoneOpen old worker new × (0 < length (in_hand new.hands))
Takes old worker answer.LimitReached new = MayTake old worker × CanImprove old × (old.taken ≡ old.limit) × (new ≡ old)
Takes old worker (answer.Ticket ticket) new =
    MayTake old worker × CanImprove old × (old.taken < old.limit) × HandsOut old worker ticket new
