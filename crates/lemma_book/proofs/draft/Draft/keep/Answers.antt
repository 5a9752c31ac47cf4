use Rattle.std.proofs.Common.{◌≡◌, ◌∙◌, sym, arith, Some}
use Rattle.lemma_book.specs.Ledger.{root_of}
use Rattle.lemma_book.proofs.Ledgers.{light_root}
use Rattle.lemma_book.proofs.draft.Draft.keep.Goals as goal

pub root_arc-requires : goal.root_arc-requires
root_arc-requires c = (c.args.self.now.project, rw c.as_slice.ensures c.requires.are_arcs)

pub add_root-requires : goal.add_root-requires
add_root-requires c =
    let root : root_of c.args.arcs ≡ Some c.in-Some.arc = rw c.as_slice.ensures at (sym c.root_arc.ensures ∙ c.in-Some.is) in
    let two = rw (c.activity_count.ensures.value, c.project.ensures) at c.if-prove.false in
    let may = rw (sym c.self.view_is) at c.requires in
    light_root c.self.inside.premises.project c.args.arcs c.in-Some.arc (omega (arith, two)) may.are_arcs root
