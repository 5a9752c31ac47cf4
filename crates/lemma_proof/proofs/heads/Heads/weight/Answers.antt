use Rattle.std.proofs.Common.{rules, ◌≡◌, ◌∙◌, pos, arith, subst, sym, ap, Some, w32, w64, SFits}
use Rattle.std.proofs.lemmas.Int.{ints, to_z-of_z}
use Rattle.std.proofs.lemmas.List.{get_or_default}
use Rattle.network.specs.Schedule.{start}
use Rattle.lemma_proof.specs.Heads.{HeadsOf, AreHeads}
use Rattle.lemma_proof.proofs.Rows.{IsFullRow, row_at}
use Rattle.lemma_proof.proofs.heads.Heads.weight.Goals as goal

row : (c : goal.After-index) → IsFullRow c.args.self.now.rows c.args.a c.index.result.now.items
row c =
    let is : AreHeads c.args.self.now = subst AreHeads c.self.view_is c.self.invariant in
    row_at c.self.inside.table.items c.args.self.now.rows c.args.a c.index.result.now
    (ap (λ (x : HeadsOf). x.rows) c.self.view_is) is.table.matrix c.requires.from_activity c.index.ensures

pub index-requires-2 : goal.index-requires-2
index-requires-2 c = omega (arith, (row c).long, c.requires.to_activity)

pub returns-clause-value : goal.returns-clause-value
returns-clause-value c =
    let small_fits : SFits w32 c.index-2.result.now = search rules in
    let fits : SFits w64 c.index-2.result.now = omega (arith, ints, small_fits) in
    let is : AreHeads c.args.self.now = subst AreHeads c.self.view_is c.self.invariant in
    let row = row_at c.self.inside.table.items c.args.self.now.rows c.args.a c.index.result.now
    (ap (λ (x : HeadsOf). x.rows) c.self.view_is) is.table.matrix c.requires.from_activity c.index.ensures in
    let cell : start c.index.result.now.items c.args.b ≡ c.index-2.result.now =
    get_or_default c.index.result.now.items c.args.b (pos 0) c.index-2.result.now
    (omega (arith, row.long, c.requires.to_activity)) ∙ sym c.index-2.ensures in
    simp to_z-of_z (row.says c.args.b c.requires.to_activity ∙ ap Some cell)

pub returns-clause-small : goal.returns-clause-small
returns-clause-small c =
    let small_fits : SFits w32 c.index-2.result.now = search rules in
    let fits : SFits w64 c.index-2.result.now = omega (arith, ints, small_fits) in
    let is : AreHeads c.args.self.now = subst AreHeads c.self.view_is c.self.invariant in
    let row = row_at c.self.inside.table.items c.args.self.now.rows c.args.a c.index.result.now
    (ap (λ (x : HeadsOf). x.rows) c.self.view_is) is.table.matrix c.requires.from_activity c.index.ensures in
    let cell : start c.index.result.now.items c.args.b ≡ c.index-2.result.now =
    get_or_default c.index.result.now.items c.args.b (pos 0) c.index-2.result.now
    (omega (arith, row.long, c.requires.to_activity)) ∙ sym c.index-2.ensures in
    simp to_z-of_z (rw cell at (row.small c.args.b c.requires.to_activity))
