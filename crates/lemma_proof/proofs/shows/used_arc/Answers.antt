use Rattle.std.specs.List.{Contains}
use Rattle.std.proofs.lemmas.List.Elements.{All-contains}
use Rattle.lemma_proof.specs.Lines.{IsArc, IsIn, IsLeft}
use Rattle.lemma_proof.proofs.Used.{light_reverse, used, not_used}
use Rattle.lemma_proof.proofs.shows.used_arc.Goals as goal

pub reverse_of-requires : goal.reverse_of-requires
reverse_of-requires c =
    let found : IsIn c.args.lemmas.now c.args.slot c.in_ok-lemma.lemma.now = c.in_ok-lemma.ensures in
    let there : Contains c.in_ok-lemma.lemma.now c.in_ok-left.left = c.in_ok-left.ensures.there in
    (All-contains (IsArc c.args.project.now) c.in_ok-lemma.lemma.now c.in_ok-left.left
    (c.requires.lemmas c.args.slot c.in_ok-lemma.lemma.now found) there).light

pub returns-clause-told : goal.returns-clause-told
returns-clause-told c = λ exact arcs m.
    let found : IsIn c.args.lemmas.now c.args.slot c.in_ok-lemma.lemma.now = c.in_ok-lemma.ensures in
    let left : IsLeft arcs c.in_ok-lemma.lemma.now c.in_ok-left.left = c.in_ok-left.ensures.left exact arcs (rw c.requires.size m) in
    used c.args.lemmas.now arcs c.in_ok-lemma.lemma.now c.args.slot c.in_ok-left.left c.reverse_of.result found c.reverse_of.ensures left

pub returns-in_err-left-clause-told : goal.returns-in_err-left-clause-told
returns-in_err-left-clause-told c = λ exact arcs m.
    let found : IsIn c.args.lemmas.now c.args.slot c.in_ok-lemma.lemma.now = c.in_ok-lemma.ensures in
    rw c.from_residual-in_err-left.ensures
    (λ sure. not_used c.args.lemmas.now arcs c.in_ok-lemma.lemma.now c.args.slot found
    (c.in_err-left.ensures.left exact arcs (rw c.requires.size m) sure))

pub returns-clause-light : goal.returns-clause-light
returns-clause-light c =
    let found : IsIn c.args.lemmas.now c.args.slot c.in_ok-lemma.lemma.now = c.in_ok-lemma.ensures in
    let there : Contains c.in_ok-lemma.lemma.now c.in_ok-left.left = c.in_ok-left.ensures.there in
    rw c.reverse_of.ensures (light_reverse c.args.project.now c.in_ok-left.left
    (All-contains (IsArc c.args.project.now) c.in_ok-lemma.lemma.now c.in_ok-left.left
    (c.requires.lemmas c.args.slot c.in_ok-lemma.lemma.now found) there))
