-- What psprove says of an outcome in JSON: an answer with the figures of its search.
use Rattle.std.specs.Prelude.{◌≡◌, ◌++◌, ℕ, ℤ, List, Option, Some, None, codes}
use Rattle.serde_json.specs.Data.{Data, unsigned, number, string, object, no_members, member}
use Rattle.serde_json.specs.Written.{compact_text}
use Rattle.network.specs.Schedule.{makespan}
use Rattle.network.specs.declared.outcome.Outcome.{Outcome}
use Rattle.network.specs.declared.outcome.Outcome.TheVariants.{Optimal, NoSchedule, Stopped}
use Rattle.answers.specs.declared.TheConstants.{VERSION}
use Rattle.answers.specs.declared.json_text.Figures.{Figures}
use Rattle.answers.specs.Answers.{number_data, list_data}

-- the object, with its keys in this order
abbrev pub figured_data : Figures → Option ℤ → Option ℤ → Option (List ℤ) → List ℕ → Data
figured_data f bound makespan starts status =
    object (member (codes "bound") (number_data bound)
    (member (codes "conflicts") (number (unsigned f.conflicts))
    (member (codes "decisions") (number (unsigned f.decisions))
    (member (codes "makespan") (number_data makespan)
    (member (codes "record_bytes") (number (unsigned f.record_bytes))
    (member (codes "seconds") (number (unsigned f.seconds))
    (member (codes "starts") (list_data starts)
    (member (codes "status") (string status)
    (member (codes "version") (string VERSION.now) no_members)))))))))

-- its text without spaces, and LF
abbrev pub figured_line : Figures → Option ℤ → Option ℤ → Option (List ℤ) → List ℕ → List ℕ
figured_line f bound makespan starts status = compact_text (figured_data f bound makespan starts status) ++ codes "\n"

-- what is said of an outcome, and the exit status
abbrev pub SaysFigures : Figures → Outcome → ℕ → List ℕ → Type 0
SaysFigures f (Optimal best) exit written =
    let length = Some (makespan best.starts) in
    (exit ≡ 0) × (written ≡ figured_line f length length (Some best.starts) (codes "optimal"))
SaysFigures f NoSchedule exit written = (exit ≡ 0) × (written ≡ figured_line f None None None (codes "no schedule"))
SaysFigures f (Stopped (Some best) bound) exit written =
    (exit ≡ 3)
    × (written ≡ figured_line f (Some bound) (Some (makespan best.starts)) (Some best.starts) (codes "feasible"))
SaysFigures f (Stopped None bound) exit written =
    (exit ≡ 3) × (written ≡ figured_line f (Some bound) None None (codes "unknown"))
