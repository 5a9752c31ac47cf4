use Rattle.std.proofs.Common.{◌≡◌, ap, ◌∙◌, rules, pos, ◌-◌, ◌+ℤ◌, ℤ, Option, w64, SFits}
use Rattle.std.specs.Option.{unwrap_or}
use Rattle.std.proofs.lemmas.Int.{to_z-of_z}
use Rattle.network.specs.Problem.{Problem, activity_count, end_of, duration, IsWithin}
use Rattle.network.specs.Walk.{entry}
pub use Rattle.network.specs.declared.limits.TheConstants.{MAX_WALK_WEIGHT}
use Rattle.branching.proofs.Nodes.{rows_of, ends_of, least_with_critical, weight_within, sum_fits, sums_fit}
use Rattle.branching.proofs.branch.least_with.Goals as goal
use Rattle.branching.proofs.branch.least_with.Goals.{After-unwrap_or-rest}

pub get-requires-clause-to_activity : goal.get-requires-clause-to_activity
get-requires-clause-to_activity c = (rows_of c.args.node.now.project c.args.node.now.pairs c.args.matrix.now c.args.pair
    c.requires.tied.matrix c.requires.named).0

pub get-requires-2-clause-from_activity : goal.get-requires-2-clause-from_activity
get-requires-2-clause-from_activity c = (rows_of c.args.node.now.project c.args.node.now.pairs c.args.matrix.now
    c.args.pair c.requires.tied.matrix c.requires.named).1

pub duration-requires : goal.duration-requires
duration-requires c =
    rw (c.deref-2.ensures ∙ c.project-2.ensures.project) ((ends_of c.args.node.now.project c.args.pair c.requires.named).0)

-- the walks to the first activity and from the second
walks_within : (c : After-unwrap_or-rest) → IsWithin MAX_WALK_WEIGHT c.unwrap_or-head.result × IsWithin MAX_WALK_WEIGHT c.unwrap_or-rest.result
walks_within c = (
  rw c.unwrap_or-head.ensures (weight_within c.get.result c.get.ensures.fits),
  rw c.unwrap_or-rest.ensures (weight_within c.get-2.result c.get-2.ensures.fits),
)

pub overflow_add-result : goal.overflow_add-result
overflow_add-result c =
    let head_fits : SFits w64 c.unwrap_or-head.result = search rules in
    let long_fits : SFits w64 c.duration.result = search rules in
    let head = (walks_within (goal.at.overflow_add-result c).After-unwrap_or-rest).0 in
    simp to_z-of_z (sum_fits c.unwrap_or-head.result c.duration.result head c.duration.ensures.amount)

pub overflow_add-result-2 : goal.overflow_add-result-2
overflow_add-result-2 c =
    let head_fits : SFits w64 c.unwrap_or-head.result = search rules in
    let long_fits : SFits w64 c.duration.result = search rules in
    let rest_fits : SFits w64 c.unwrap_or-rest.result = search rules in
    let (head, rest) = walks_within (goal.at.overflow_add-result-2 c).After-unwrap_or-rest in
    let fits : SFits w64 (c.unwrap_or-head.result +ℤ c.duration.result) = sum_fits c.unwrap_or-head.result c.duration.result head c.duration.ensures.amount in
    simp to_z-of_z (sums_fit c.unwrap_or-head.result c.duration.result c.unwrap_or-rest.result head c.duration.ensures.amount rest)

pub returns : goal.returns
returns c =
    let p : Problem = c.args.node.now.project in
    let same : c.deref-2.result.now ≡ p = c.deref-2.ensures ∙ c.project-2.ensures.project in
    let same_first : c.deref.result.now ≡ p = c.deref.ensures ∙ c.project.ensures.project in
    let long : c.duration.result ≡ duration p c.args.pair.before = c.duration.ensures.value ∙ ap (λ (q : Problem). duration q c.args.pair.before) same in
    let head_is : c.unwrap_or-head.result ≡ unwrap_or (entry c.args.matrix.now 0 c.args.pair.before) (pos 0) =
    c.unwrap_or-head.ensures ∙ ap (λ (o : Option ℤ). unwrap_or o (pos 0)) c.get.ensures.value in
    let rest_is : c.unwrap_or-rest.result ≡ unwrap_or (entry c.args.matrix.now c.args.pair.after (end_of p)) (pos 0) =
    c.unwrap_or-rest.ensures ∙ ap (λ (o : Option ℤ). unwrap_or o (pos 0))
    (c.get-2.ensures.value ∙ ap (λ n. entry c.args.matrix.now c.args.pair.after (n - 1))
    (c.activity_count-end.ensures.value ∙ ap (λ (q : Problem). activity_count q) same_first)) in
    let head_fits : SFits w64 c.unwrap_or-head.result = search rules in
    let long_fits : SFits w64 c.duration.result = search rules in
    let rest_fits : SFits w64 c.unwrap_or-rest.result = search rules in
    let (head, rest) = walks_within (goal.at.returns c).After-unwrap_or-rest in
    let fits : SFits w64 (c.unwrap_or-head.result +ℤ c.duration.result) = sum_fits c.unwrap_or-head.result c.duration.result head c.duration.ensures.amount in
    let all_fits : SFits w64 ((c.unwrap_or-head.result +ℤ c.duration.result) +ℤ c.unwrap_or-rest.result) =
    sums_fit c.unwrap_or-head.result c.duration.result c.unwrap_or-rest.result head c.duration.ensures.amount rest
    in
    simp to_z-of_z (rw (head_is, long, rest_is)
    (least_with_critical p c.args.node.now.pairs c.args.pair c.args.matrix.now c.requires.tied.matrix
    c.requires.named))
