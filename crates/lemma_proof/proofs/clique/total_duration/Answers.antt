use Rattle.std.proofs.Common.{ℕ, ◌≤◌, List, length, arith}
use Rattle.std.proofs.lemmas.Int.{ints}
use Rattle.network.specs.declared.limits.TheConstants.{MAX_ACTIVITIES}
use Rattle.network.specs.Problem.{IsProject, Problem, activity_count}
use Rattle.forbidden_sets.proofs.Apart.{rising_length}
use Rattle.schedule_check.specs.Members.{AreMembers}
use Rattle.lemma_proof.proofs.Windows.{begins}
use Rattle.lemma_proof.proofs.clique.total_duration.Goals as goal

-- there are no more members than activities
few_members : (p : Problem) (members : List ℕ) → IsProject p → AreMembers p members → length members ≤ 1002
few_members p members is are =
    let few : activity_count p ≤ MAX_ACTIVITIES = is.activity_limit in
    rising_length 0 1002 members (begins members) are.rising (λ k d l. omega (arith, few, (are.take_time k d l).named))

pub overflow_add-total : goal.overflow_add-total
overflow_add-total c =
    let few = few_members c.args.project.now c.args.members.now c.duration.ensures.limits c.requires in
    omega (
      arith,
      ints,
      few,
      c.loop-member-test.true,
      c.loop-member.invariant.small,
      c.unsigned_abs-total.ensures.value,
      c.duration.ensures.amount.at_least,
      c.duration.ensures.amount.at_most,
    )

pub returns-clause-small : goal.returns-clause-small
returns-clause-small c =
    let few = few_members c.args.project.now c.args.members.now c.activity_count.ensures.limits c.requires in
    omega (arith, few, c.loop-member.auto.member-index-end, c.loop-member.invariant.small)
