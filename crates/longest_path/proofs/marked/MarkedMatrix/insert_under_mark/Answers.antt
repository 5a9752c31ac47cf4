use Rattle.std.proofs.Common.{◌≡◌, ap, w64, rules, SFits}
use Rattle.std.proofs.lemmas.Int.{to_z-of_z}
use Rattle.longest_path.specs.Saved.{Marked}
use Rattle.longest_path.proofs.marked.MarkedMatrix.insert_under_mark.Goals as goal

pub returns-in-Err-clause-fault : goal.returns-in-Err-clause-fault
returns-in-Err-clause-fault c =
    let same : c.mark.new.self.rows ≡ c.args.self.now.rows = ap (λ (m : Marked). m.rows) c.in_ok-mark.ensures.ok in
    let fits : SFits w64 c.args.arc.weight = search rules in
    rw (same, to_z-of_z w64 c.args.arc.weight fits) at c.in-Err.ensures.fault

pub returns-clause-ok : goal.returns-clause-ok
returns-clause-ok c =
    let same : c.mark.new.self.rows ≡ c.args.self.now.rows = ap (λ (m : Marked). m.rows) c.in_ok-mark.ensures.ok in
    let fits : SFits w64 c.args.arc.weight = search rules in
    rw (same, to_z-of_z w64 c.args.arc.weight fits) at c.in_default.ensures.ok
