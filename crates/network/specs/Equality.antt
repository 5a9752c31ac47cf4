-- Equality of projects: of the four lists.
use Rattle.std.specs.Prelude.{Bool, ◌==◌, ◌&&◌}
use Rattle.std.specs.Ordering.{int_eq}
use Rattle.std.specs.Cmp.{IsEquivalence}
use Rattle.std.specs.Cmp.Lexicographic.{pointwise}
use Rattle.std.proofs.lemmas.Cmp.{nat_eq_equiv, int_eq_equiv, lists_equiv, on_equiv, and_equiv}
use Rattle.network.specs.Problem.{Problem, Lag}

-- whether two arcs are the same
abbrev pub lag_eq : Lag → Lag → Bool
lag_eq a b = a.from == b.from && (a.to == b.to && int_eq a.weight b.weight)

-- whether two projects have the same durations, demands, capacities and given arcs
abbrev pub problem_eq : Problem → Problem → Bool
problem_eq p q =
    pointwise int_eq p.durations q.durations
    && (pointwise (pointwise int_eq) p.demands q.demands
    && (pointwise int_eq p.capacities q.capacities && pointwise lag_eq p.lags q.lags))

-- both are equivalences
pub lag_eq_equiv : IsEquivalence lag_eq
lag_eq_equiv =
    and_equiv (on_equiv (λ (e : Lag). e.from) nat_eq_equiv)
    (and_equiv (on_equiv (λ (e : Lag). e.to) nat_eq_equiv) (on_equiv (λ (e : Lag). e.weight) int_eq_equiv))

pub problem_eq_equiv : IsEquivalence problem_eq
problem_eq_equiv =
    and_equiv (on_equiv (λ (p : Problem). p.durations) (lists_equiv int_eq_equiv))
    (and_equiv (on_equiv (λ (p : Problem). p.demands) (lists_equiv (lists_equiv int_eq_equiv)))
    (and_equiv (on_equiv (λ (p : Problem). p.capacities) (lists_equiv int_eq_equiv))
    (on_equiv (λ (p : Problem). p.lags) (lists_equiv lag_eq_equiv))))
