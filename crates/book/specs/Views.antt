-- The fields of this crate's types, as contracts see them.
use Rattle.std.specs.Prelude.{◌≡◌, option_map, IfSome}
use Rattle.std.specs.Arc.{arc_value}
use Rattle.book.specs.State.{BookState}
use Rattle.book.specs.Sound.{IsSound, IsWithinLimits, IsRecorded}
use Rattle.search_log.specs.SearchLog.{TrailOf}
use Rattle.book.specs.declared.book.Book.TheInside.{Inside}

abbrev pub state_of : Inside → BookState
state_of b =
    record {
      project = arc_value b.project;
      best = b.best;
      waiting = b.waiting;
      hands = b.hands;
      opened = b.opened;
      checked = b.checked;
      cut = b.cut;
      taken = b.taken;
      limit = b.limit;
      halted = b.halted;
      trail = option_map (λ (t : TrailOf). t.entries) b.trail;
    }

-- what a book always keeps
pub record IsKept (s : BookState) : Type 0 where
  pub sound : IsSound s
  pub within : IsWithinLimits s
  pub recorded : IfSome s.trail (IsRecorded s)

-- the same, and the trail's project is the book's
pub record KeepsBook (b : Inside) : Type 0 where
  pub kept : IsKept (state_of b)
  pub of_trail : IfSome b.trail (λ (t : TrailOf). t.project ≡ arc_value b.project)
