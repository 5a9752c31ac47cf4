use Rattle.std.proofs.Common.{sym}
use Rattle.std.specs.List.{All}
use Rattle.lemma_proof.specs.Lines.{IsArc}
use Rattle.lemma_book.specs.Premises.{PremisesOf, premises_of}
use Rattle.lemma_book.proofs.Premised.{shelved_are}
use Rattle.lemma_book.proofs.premises.Premises.shelve.Goals as goal

pub invariant_of-self-2 : goal.invariant_of-self-2
invariant_of-self-2 c =
    let x : PremisesOf = premises_of c.self.inside.project.now c.self.inside.roots.items c.self.inside.lemmas in
    let are : All (IsArc x.project) c.args.arcs = rw (sym c.self.view_is) at c.requires.are_arcs in
    rw c.in_ok-put.ensures.filled (shelved_are x c.self.inside.bench c.args.slot c.args.arcs c.self.invariant are)
