use Rattle.std.proofs.Common.{◌≡◌, ℕ, ◌<◌, false, get_or, map, take, None, unwrap_or, pos, is_none}
use Rattle.schedule_check.proofs.table.all_starts.Given as goal

abbrev pub invariant-loop-activity : goal.invariant-loop-activity
invariant-loop-activity l = record {
  whole : (k : ℕ) → k < l.activity → is_none (get_or l.found k None) ≡ false;
  starts : l.starts.items ≡ map (λ start. unwrap_or start (pos 0)) (take l.activity l.found);
}
