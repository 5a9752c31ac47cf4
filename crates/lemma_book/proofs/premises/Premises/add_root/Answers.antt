use Rattle.std.proofs.Common.{◌≡◌, sym, [], ◌∷◌, None, Some}
use Rattle.lemma_proof.specs.Heads.{IsLight}
use Rattle.network.specs.Problem.{activity_count}
use Rattle.network.specs.Walk.{HasPositiveCycle, IsMatrixOf}
use Rattle.lemma_book.specs.Premises.{PremisesOf, premises_of, root_arcs}
use Rattle.lemma_book.proofs.Premised.{root_none, with_root_are}
use Rattle.lemma_book.proofs.premises.Premises.add_root.Goals as goal

pub invariant_of-self-in_default : goal.invariant_of-self-in_default
invariant_of-self-in_default c =
    let x : PremisesOf = premises_of c.self.inside.project.now c.self.inside.roots.items c.self.inside.lemmas in
    let light : IsLight (activity_count x.project) c.args.arc = rw (sym c.self.view_is) at c.requires in
    let none : c.self.inside.bench ≡ None = c.in_default.is in
    let cycle : HasPositiveCycle (root_arcs x) = rw none at c.self.invariant.root in
    rw (c.in_ok-push.ensures.items, none) (with_root_are x c.self.inside.bench None c.args.arc c.self.invariant light
    (root_none (root_arcs x) (c.args.arc ∷ []) cycle))

pub invariant_of-self-in-Ok-true : goal.invariant_of-self-in-Ok-true
invariant_of-self-in-Ok-true c =
    let x : PremisesOf = premises_of c.self.inside.project.now c.self.inside.roots.items c.self.inside.lemmas in
    let light : IsLight (activity_count x.project) c.args.arc = rw (sym c.self.view_is) at c.requires in
    let m : IsMatrixOf (activity_count x.project) (root_arcs x) c.in-Some.bench.rows = rw c.in-Some.is at c.self.invariant.root in
    let added = rw (c.in-Ok-true.field-0-test, m.square.0) at c.in-Ok-true.ensures.added in
    rw c.in_ok-push.ensures.items (with_root_are x c.self.inside.bench None c.args.arc c.self.invariant light (added (root_arcs x) m))

pub invariant_of-self-in-Ok-false : goal.invariant_of-self-in-Ok-false
invariant_of-self-in-Ok-false c =
    let x : PremisesOf = premises_of c.self.inside.project.now c.self.inside.roots.items c.self.inside.lemmas in
    let light : IsLight (activity_count x.project) c.args.arc = rw (sym c.self.view_is) at c.requires in
    let m : IsMatrixOf (activity_count x.project) (root_arcs x) c.in-Some.bench.rows = rw c.in-Some.is at c.self.invariant.root in
    let added = rw (c.in-Ok-false.field-0-test, m.square.0) at c.in-Ok-false.ensures.added in
    rw c.in_ok-push.ensures.items (with_root_are x c.self.inside.bench (Some c.add_root.new.self) c.args.arc c.self.invariant light (added (root_arcs x) m))
