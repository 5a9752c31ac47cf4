use Rattle.std.proofs.Common.{◌≡◌, ⊎_elim, not, ◌<◌, ap, ◌∙◌, arith, ◌+◌, ◌-◌, ◌≤◌, ◌++◌, ◌∷◌, [], List, length, replicate, Option, None, ℕ}
use Rattle.std.proofs.lemmas.Bool.{cases_lt}
use Rattle.network.specs.declared.parts.Lag.{Lag}
use Rattle.lemma_proof.specs.Slots.{Slots}
use Rattle.lemma_proof.proofs.Slotted.{made_more}
use Rattle.lemma_proof.proofs.slots.make_slot.Goals as goal

pub loop-preserved : goal.loop-preserved
loop-preserved c = record {
  count = c.loop.invariant.count;
  made =
      let is_ok = c.is_err.ensures.negation ∙ ap not c.if-is_err.false in
      let items : c.push.new.self.items ≡ c.loop.lemmas.items ++ None ∷ [] = rw is_ok at c.push.ensures.items in
      items ∙ ap (λ (before : Slots). before ++ None ∷ []) c.loop.invariant.made
      ∙ made_more c.args.lemmas.now.items c.len-count.result c.loop.counter c.loop.auto.counter;
  none = λ late. let low = c.loop-test.true in let from = c.loop.auto.counter in absurd (omega arith);
}

pub returns-clause-made : goal.returns-clause-made
returns-clause-made c =
    let past = c.loop-test.false in
    let many : c.loop.counter - c.len-count.result ≡ c.args.slot + 1 - length c.args.lemmas.now.items =
    ⊎_elim
    (λ (few : c.len-count.result < c.args.slot + 1). let most = c.loop.auto.counter-end (omega (arith, few))
    in let count = c.loop.invariant.count in omega arith)
    (λ (late : c.args.slot + 1 ≤ c.len-count.result). let same = c.loop.invariant.none late in let count = c.loop.invariant.count in omega arith)
    (cases_lt c.len-count.result (c.args.slot + 1)) in
    c.loop.invariant.made ∙ ap (λ (n : ℕ). c.args.lemmas.now.items ++ replicate {A = Option (List Lag)} n None) many
