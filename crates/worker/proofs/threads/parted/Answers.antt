use Rattle.std.proofs.Common.{rules, arith, ◌∷◌, [], ◌∙◌, ap, sym}
use Rattle.std.specs.Option.{option_or}
use Rattle.std.proofs.lemmas.List.{length-append}
use Rattle.worker.specs.Solving.{first_fault}
use Rattle.worker.proofs.Ends.{first_fault_snoc}
use Rattle.worker.proofs.threads.parted.Goals as goal

pub loop-desk-preserved : goal.loop-desk-preserved
loop-desk-preserved g c =
    let before = c.loop-desk.yielded in
    record {
      desks = omega (arith, length-append before ((c.in-Some.desk, c.in-Some.ended) ∷ []), c.push_reserved.ensures.len, c.loop-desk.invariant.desks);
      room = search rules;
      fault =
          c.or-fault.ensures
          ∙ (ap (λ f. option_or f c.err.result) c.loop-desk.invariant.fault
          ∙ (ap (λ f. option_or (first_fault before) f) c.err.ensures.value
          ∙ sym (first_fault_snoc before (c.in-Some.desk, c.in-Some.ended))));
    }
