use Rattle.std.proofs.Common.{◌≡◌, ◌∙◌, refl, inl, inr, ⊎_elim, [], ◌∷◌, ◌++◌, true}
use Rattle.network.specs.Problem.{activity_count}
use Rattle.network.specs.Walk.{IsMatrixOf}
use Rattle.longest_path.specs.Insert.{rows_over}
use Rattle.longest_path.proofs.Inserted.{length-rows_over}
use Rattle.lemma_proof.specs.Reasons.{Tells, Implies, entries_of_matrix, reverse_of}
use Rattle.lemma_proof.proofs.Loops.{tells_false}
use Rattle.lemma_proof.proofs.KnownWalks.{known_matrix}
use Rattle.lemma_proof.proofs.Weighing.{reversed}
use Rattle.lemma_proof.specs.Lines.{IsOverload}
use Rattle.lemma_proof.proofs.shows.is_pushed.Goals as goal

pub is_overload-requires : goal.is_overload-requires
is_overload-requires c = rw c.with.ensures (length-rows_over _ c.args.matrix.now ∙ c.requires.size)

pub returns : goal.returns
returns c = λ arcs m.
    let implied : Tells true c.implies.result (Implies arcs c.args.arc) =
    c.implies.ensures true arcs (rw (c.of.ensures, c.requires.size)
    (known_matrix (activity_count c.args.project.now) arcs c.args.matrix.now m)) in
    let never : ¬ Implies arcs c.args.arc = tells_false implied c.if-implies.false refl in
    let over : c.with.result ≡ entries_of_matrix (rows_over (reverse_of c.args.arc) c.args.matrix.now) = rw c.reverse_of.ensures at c.with.ensures in
    let back : IsMatrixOf (activity_count c.args.project.now) (arcs ++ reverse_of c.args.arc ∷ [])
    (rows_over (reverse_of c.args.arc) c.args.matrix.now) =
    reversed (activity_count c.args.project.now) arcs c.args.matrix.now c.args.arc c.requires.size m
    c.requires.arc.joins.0 c.requires.arc.joins.1 never in
    let ends : Tells true c.is_overload.result
    (IsOverload c.args.project.now c.args.lemmas.now (arcs ++ reverse_of c.args.arc ∷ []) c.args.over.now) =
    c.is_overload.ensures true (arcs ++ reverse_of c.args.arc ∷ [])
    (rw over (known_matrix (activity_count c.args.project.now) (arcs ++ reverse_of c.args.arc ∷ [])
    (rows_over (reverse_of c.args.arc) c.args.matrix.now) back)) in (
      λ yes. inr (ends.shown yes),
      λ either. ⊎_elim (λ (i : Implies arcs c.args.arc). absurd (never i))
          (λ (e : IsOverload c.args.project.now c.args.lemmas.now (arcs ++ reverse_of c.args.arc ∷ []) c.args.over.now). ends.only refl e)
          either,
    )

pub returns-then-implies : goal.returns-then-implies
returns-then-implies c = λ arcs m.
    let implied : Tells true c.implies.result (Implies arcs c.args.arc) =
    c.implies.ensures true arcs (rw (c.of.ensures, c.requires.size)
    (known_matrix (activity_count c.args.project.now) arcs c.args.matrix.now m)) in
    (λ _. inl (implied.shown c.if-implies.true), λ _. refl)
