use Rattle.std.proofs.Common.{◌≡◌, ◌<◌, ◌∙◌, [], ◌∷◌, ◌++◌}
use Rattle.network.specs.declared.parts.Pair.{Pair}
use Rattle.network.specs.Problem.{activity_count}
use Rattle.branching.proofs.Covers.{all_left}
use Rattle.record_text.proofs.FirstWrong.{all_right}
use Rattle.search_record.proofs.Steps.{pushed_later, pushed_nested}
use Rattle.search_record.proofs.due.push_later.Goals as goal

pub loop-pair-preserved : goal.loop-pair-preserved
loop-pair-preserved c =
    let front = c.pop.new.self.items in
    let popped : c.loop-pair.pairs.items ≡ c.pop.new.self.items ++ c.in-Some.pair ∷ [] = c.in-Some.ensures.items in
    let pushed = pushed_later c.args.depth c.pop.new.self.items c.in-Some.pair c.loop-pair.later.items c.push.new.self.items c.in_ok-push.ensures.items in
    record {
      added = pushed ∙ (rw popped at c.loop-pair.invariant.added);
      named = λ p named. all_left (λ (q : Pair). (q.before < activity_count p) × (q.after < activity_count p))
          c.pop.new.self.items (c.in-Some.pair ∷ []) (rw popped at c.loop-pair.invariant.named p named);
      nested = λ p named nested.
          let last = all_right (λ (q : Pair). (q.before < activity_count p) × (q.after < activity_count p))
          c.pop.new.self.items (c.in-Some.pair ∷ []) (rw popped at c.loop-pair.invariant.named p named) in
          pushed_nested p c.args.depth c.in-Some.pair c.loop-pair.later.items c.push.new.self.items
          c.in_ok-push.ensures.items last (c.loop-pair.invariant.nested p named nested);
    }
