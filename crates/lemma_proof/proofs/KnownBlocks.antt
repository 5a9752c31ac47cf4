-- What is known of a block and of its trial.
use Rattle.std.proofs.Common.{◌≡◌, refl, sym, subst, ℕ, ◌<◌, arith, ℤ, ◌≤ℤ◌, ◌⊎◌, inl, inr, ⊎_elim, Bool, IsTrue, List, [], ◌∷◌, ◌++◌, length, append_assoc}
use Rattle.std.proofs.Common.{Option, None, Some, false}
use Rattle.std.specs.List.{Contains}
use Rattle.std.proofs.lemmas.Int.{ints, by_lt_z}
use Rattle.network.specs.declared.parts.Lag.{Lag}
use Rattle.network.specs.Walk.{Rows, entry, weight, IsMatrixOf, HasNoPositiveCycle}
use Rattle.longest_path.specs.Matrix.{Reaches}
use Rattle.longest_path.proofs.OneArc.{IsGreatest-matrix}
use Rattle.longest_path.proofs.Reach.{Reaches-weaker}
use Rattle.lemma_proof.specs.Implied.{Implies}
use Rattle.lemma_proof.specs.Block.{AreEnds, BlockOf, IsBlock}
use Rattle.lemma_proof.proofs.Implying.{IsPartOf, implied_lower, implied_entry}
use Rattle.lemma_proof.proofs.Existing.{matrix_there}
use Rattle.lemma_proof.specs.Reasons.{AreBelow, Entries, IsKnown, TellsWhether, entries_of_block, reverse_of}
use Rattle.lemma_proof.proofs.KnownWalks.{below_seen, known_below}
use Rattle.lemma_proof.proofs.Weighing.{reversed}

reaches_or_not : (w : ℤ) (o : Option ℤ) → Reaches w o ⊎ ¬ Reaches w o
reaches_or_not w None = inr (λ r. let bad : None ≡ Some r.0 = r.1 in cc)
reaches_or_not w (Some x) = by_lt_z x w (λ less.
    inr (λ r. let same : Some x ≡ Some r.0 = r.1 in let is : x ≡ r.0 = cc in let le : w ≤ℤ r.0 = r.2
    in absurd (omega (arith, ints)))) (λ reached. inl (x, refl, reached))

-- arcs with a matrix imply an arc, or they don't
pub implied_or_not : (n : ℕ) (arcs : List Lag) (rows : Rows) (e : Lag) → IsMatrixOf n arcs rows → e.from < n → e.to < n → Implies arcs e ⊎ ¬ Implies arcs e
implied_or_not n arcs rows e m from to =
    ⊎_elim
    (λ (r : Reaches e.weight (entry rows e.from e.to)).
    inl (implied_lower arcs e.from e.to e.weight r.0 r.2 (implied_entry n arcs rows e.from e.to r.0 m from to r.1)))
    (λ (never : ¬ Reaches e.weight (entry rows e.from e.to)). inr (λ i.
    let there = (IsGreatest-matrix n arcs rows m).covered e.from e.to i.walk from to i.goes in
    never (Reaches-weaker e.weight (weight i.walk) (entry rows e.from e.to) i.weighs there)))
    (reaches_or_not e.weight (entry rows e.from e.to))

-- what is known of a block
pub known_block : (n : ℕ) (x : BlockOf) (own : List Lag) → length x.rows ≡ n → IsBlock x → IsMatrixOf n own x.rows
    → HasNoPositiveCycle (own ++ x.more) → IsKnown false n (own ++ x.more) (entries_of_block None x)
known_block n x own long is m live =
    let here : IsMatrixOf (length x.rows) own x.rows = rw long m in
    let below = below_seen x.rows own x.more x.more x.heads x.tails here (λ e c. c) is.ends live in
    let below_n : AreBelow n (own ++ x.more) (entries_of_block None x) = subst (λ (k : ℕ). AreBelow k (own ++ x.more) (entries_of_block None x)) long below in
    known_below n (own ++ x.more) (entries_of_block None x) below_n

-- a fact that an answer tells of what is seen
pub told_by : (n : ℕ) (x : BlockOf) (own : List Lag) (P : List Lag → Type 0) (answer : Bool) (y : Entries)
    → length x.rows ≡ n → IsBlock x → IsMatrixOf n own x.rows → HasNoPositiveCycle (own ++ x.more)
    → y ≡ entries_of_block None x → TellsWhether n y answer P → IsTrue answer → P (own ++ x.more)
told_by n x own P answer y long is m live same tells granted =
    let here : TellsWhether n (entries_of_block None x) answer P = subst (λ (z : Entries). TellsWhether n z answer P) same tells in
    (here false (own ++ x.more) (known_block n x own long is m live)).shown granted

-- and of its trial, where the arc's reverse closes no walk of positive weight
known_trial : (n : ℕ) (x : BlockOf) (own more : List Lag) (e : Lag) → length x.rows ≡ n → x.more ≡ more
    → AreEnds x.rows (more ++ e ∷ []) x.tried_heads x.tried_tails → IsMatrixOf n own x.rows
    → HasNoPositiveCycle (own ++ (more ++ e ∷ []))
    → IsKnown false n (own ++ (more ++ e ∷ [])) (entries_of_block (Some e) x)
known_trial n x own more e long same ends m live =
    let here : IsMatrixOf (length x.rows) own x.rows = rw long m in
    let part : IsPartOf (own ++ (x.more ++ e ∷ [])) (own ++ (more ++ e ∷ [])) = rw same (λ f c. c) in
    let below = below_seen x.rows own (x.more ++ e ∷ []) (more ++ e ∷ []) x.tried_heads x.tried_tails here part ends live in
    let below_n : AreBelow n (own ++ (more ++ e ∷ [])) (entries_of_block (Some e) x) =
    subst (λ (k : ℕ). AreBelow k (own ++ (more ++ e ∷ [])) (entries_of_block (Some e) x)) long below in
    known_below n (own ++ (more ++ e ∷ [])) (entries_of_block (Some e) x) below_n

-- the arc is implied, or the arcs with its reverse have what each such trial has
pub shown_by_trial : (n : ℕ) (x : BlockOf) (own more : List Lag) (e : Lag) (P : List Lag → Type 0) → length x.rows ≡ n
    → x.more ≡ more → e.from < n → e.to < n → ((f : Lag) → Contains more f → (f.from < n) × (f.to < n)) →
    AreEnds x.rows (more ++ reverse_of e ∷ []) x.tried_heads x.tried_tails → IsMatrixOf n own x.rows → HasNoPositiveCycle (own ++ more) →
    ((arcs : List Lag) → IsKnown false n arcs (entries_of_block (Some (reverse_of e)) x) → P arcs)
    → Implies (own ++ more) e ⊎ P ((own ++ more) ++ reverse_of e ∷ [])
shown_by_trial n x own more e P long same from to inside ends m live by =
    let all = matrix_there n own more x.rows long m inside live in
    ⊎_elim
    (λ (implied : Implies (own ++ more) e). inl implied)
    (λ (never : ¬ Implies (own ++ more) e).
    let back = reversed n (own ++ more) all.0 e all.2 all.1 from to never in
    let joined : (own ++ more) ++ reverse_of e ∷ [] ≡ own ++ (more ++ reverse_of e ∷ []) = append_assoc own more (reverse_of e ∷ []) in
    let live_there : HasNoPositiveCycle (own ++ (more ++ reverse_of e ∷ [])) = subst HasNoPositiveCycle joined back.no_cycle in
    let found = by (own ++ (more ++ reverse_of e ∷ [])) (known_trial n x own more (reverse_of e) long same ends m live_there) in
    inr (subst P (sym joined) found))
    (implied_or_not n (own ++ more) all.0 e all.1 from to)
