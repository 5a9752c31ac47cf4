use Rattle.std.proofs.Common.{sym}
use Rattle.lemma_book.specs.Premises.{PremisesOf, premises_of}
use Rattle.lemma_book.proofs.Premised.{gone_are, gone_empties}
use Rattle.lemma_book.proofs.premises.Premises.let_go.Goals as goal

pub invariant_of-self : goal.invariant_of-self
invariant_of-self c =
    let x : PremisesOf = premises_of c.self.inside.project.now c.self.inside.roots.items c.self.inside.lemmas in
    gone_are x c.self.inside.bench c.args.slot c.let_go.result c.let_go.new.self c.self.invariant c.let_go.ensures

pub returns : goal.returns
returns c =
    let x : PremisesOf = premises_of c.self.inside.project.now c.self.inside.roots.items c.self.inside.lemmas in
    rw (sym c.self.view_is) (gone_empties x c.args.slot c.let_go.result c.let_go.new.self c.let_go.ensures)
