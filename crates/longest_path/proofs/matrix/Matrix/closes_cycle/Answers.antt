use Rattle.std.proofs.Common.{refl, ◌⊎◌, ◌≡◌, ◌<◌, length, sym, ◌∙◌, ap, w64, rules, Some, Bool, true, false, ℤ, pos, ◌≤ℤ◌, SFits}
use Rattle.std.specs.Bool.{MatchBool}
use Rattle.std.proofs.lemmas.Int.{to_z-of_z}
use Rattle.network.specs.Walk.{entry}
use Rattle.longest_path.specs.Matrix.{joined, IfSomeAbove}
use Rattle.longest_path.specs.Insert.{ClosesCycle, FillsRows, MayInsert, TakesArc}
use Rattle.longest_path.proofs.Over.{transitive, some_sum_fits}
use Rattle.longest_path.proofs.Inserted.{GainsNothing, adds, closes}
use Rattle.longest_path.proofs.Full.{IsLightWith, first_fits, still_matrix, weight_fits, why_may}
use Rattle.longest_path.proofs.matrix.Matrix.closes_cycle.Goals as goal

either : (b : Bool) (P Q R S : Type 0) → (P → R) → (Q → S) → MatchBool b P Q → MatchBool b R S
either true P Q R S f g h = f h
either false P Q R S f g h = g h

pub sum-requires : goal.sum-requires
sum-requires c =
    let may : MayInsert c.args.arc c.self.inside.grid = rw (sym c.self.view_is) at c.requires.light in
    let why : IsLightWith c.args.arc c.self.inside.grid c.self.invariant.matrix
    ⊎ FillsRows c.args.arc c.self.inside.grid = why_may c.args.arc c.self.inside.grid c.self.invariant.matrix may in
    let fits : SFits w64 c.args.arc.weight = search rules in
    rw (to_z-of_z w64 c.args.arc.weight fits)
    (some_sum_fits c.get.result c.args.arc.weight
    (λ x e. c.self.invariant.matrix.within c.args.arc.to c.args.arc.from x (sym c.get.ensures ∙ e))
    (weight_fits c.args.arc c.self.inside.grid c.self.invariant.matrix why))

pub returns : goal.returns
returns c =
    let may : MayInsert c.args.arc c.self.inside.grid = rw (sym c.self.view_is) at c.requires.light in
    let why : IsLightWith c.args.arc c.self.inside.grid c.self.invariant.matrix
    ⊎ FillsRows c.args.arc c.self.inside.grid = why_may c.args.arc c.self.inside.grid c.self.invariant.matrix may in
    let size : length c.args.self.now ≡ length c.self.inside.grid = ap length (sym c.self.view_is) in
    let lf : c.args.arc.from < length c.self.inside.grid = rw size at c.requires.from_activity in
    let lt : c.args.arc.to < length c.self.inside.grid = rw size at c.requires.to_activity in
    let fits : SFits w64 c.args.arc.weight = search rules in
    let sum_is : c.sum.result ≡ joined (entry c.self.inside.grid c.args.arc.to c.args.arc.from)
    (Some c.args.arc.weight) = rw (to_z-of_z w64 c.args.arc.weight fits, c.get.ensures) at c.sum.ensures in
    rw (sym c.self.view_is) (either c.is_positive.result (IfSomeAbove c.sum.result)
    ((w : ℤ) → c.sum.result ≡ Some w → w ≤ℤ pos 0) (ClosesCycle c.args.arc c.self.inside.grid)
    (TakesArc c.args.arc c.self.inside.grid)
    (λ above arcs m. closes (length c.self.inside.grid) c.args.arc c.self.inside.grid lf lt (rw sum_is at above) arcs m)
    (λ none.
    let gains : GainsNothing c.args.arc c.self.inside.grid = λ x h. none x (sum_is ∙ h) in
    record {
      ready = record {
        from_vertex = lf;
        to_vertex = lt;
        light = weight_fits c.args.arc c.self.inside.grid c.self.invariant.matrix why;
        fits = c.self.invariant.matrix.within;
        transitive = transitive (length c.self.inside.grid) c.self.invariant.matrix.arcs c.self.inside.grid c.self.invariant.matrix.matrix;
        first_fits = first_fits c.args.arc c.self.inside.grid c.self.invariant.matrix lf lt why gains;
      };
      taken = λ new square over. record {
        law = still_matrix (length c.self.inside.grid) c.args.arc c.self.inside.grid new refl c.self.invariant.matrix lf lt why gains square over;
        adds = adds (length c.self.inside.grid) c.args.arc c.self.inside.grid new lf lt gains square over;
      };
    })
    c.is_positive.ensures)
