use Rattle.std.proofs.Common.{rules}
use Rattle.forbidden_sets.specs.Incompatible.{AreIncompatible}
use Rattle.branching.specs.Right.{IsForced}
use Rattle.search_record.proofs.judge.is_forced.Goals as goal

pub returns : goal.returns
returns c pairs m =
    let late = c.is_too_late.ensures pairs m in
    let both : AreIncompatible c.args.project.now c.args.pair = search rules in (
      λ yes. record { is_live = m.matrix.no_cycle; incompatible = both; too_late = late.0 yes },
      λ (forced : IsForced c.args.project.now pairs c.args.pair). late.1 forced.too_late,
    )
