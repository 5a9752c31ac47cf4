use Rattle.std.proofs.Common.{◌≡◌, length}
use Rattle.book.specs.Sound.{note_cut}
use Rattle.search_log.specs.SearchLog.{with_entries}
use Rattle.book.proofs.recording.cut_all.Given as goal

abbrev pub invariant-loop-held : goal.invariant-loop-held
invariant-loop-held l = with_entries (note_cut l.nodes) l.trail ≡ with_entries (note_cut l.initial.nodes) l.initial.trail

abbrev pub decreases-loop-held : goal.decreases-loop-held
decreases-loop-held l = length l.nodes
