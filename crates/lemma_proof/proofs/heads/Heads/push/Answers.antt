use Rattle.std.proofs.Common.{sym, length, inl, inr, subst}
use Rattle.std.proofs.lemmas.List.Elements.{Contains-push_cases}
use Rattle.lemma_proof.specs.Heads.{IsLight, table_rows}
use Rattle.lemma_proof.proofs.heads.Heads.push.Goals as goal

pub invariant_of-self-2 : goal.invariant_of-self-2
invariant_of-self-2 c =
    let light : IsLight (length (table_rows c.self.inside.table.items)) c.args.arc = rw (sym c.self.view_is) at c.requires in
    record {
      table = c.self.invariant.table;
      arcs_light = λ e there. elim (Contains-push_cases c.self.inside.arcs.items c.args.arc e (rw c.in_ok-push.ensures.items at there)) [
        | inl old ↦ c.self.invariant.arcs_light e old
        | inr is ↦ subst (IsLight (length (table_rows c.self.inside.table.items))) is light
      ];
      heads_long = c.self.invariant.heads_long;
      tried_long = c.self.invariant.tried_long;
    }
