use Rattle.std.proofs.Common.{◌≡◌, ◌<◌, ℕ, zero, suc, List, [], ◌∷◌, map, length, get_or, ap, ◌∙◌, arith, rules}
use Rattle.std.proofs.Math.ListN.{set}
use Rattle.search_log.specs.SearchLog.{Entry, TrailOf, trail_entry, trail_of, node_ending, NodeEntry}
use Rattle.search_log.specs.Recording.{ended_as}
pub use Rattle.search_log.specs.declared.log.NodeEnding.{NodeEnding}
use Rattle.search_log.proofs.log.SearchLog.end.Goals as goal

-- the entry at a place, ended
abbrev ended_entry : NodeEntry → NodeEnding → NodeEntry
ended_entry e ending = record e { ending = ending }

ended_there : (entries : List NodeEntry) (place : ℕ) (e : NodeEntry) (ending : NodeEnding) → place < length entries
    → e ≡ get_or entries place e → map trail_entry (set entries place (ended_entry e ending)) ≡ ended_as
    (map trail_entry entries) place (node_ending ending)
ended_there [] place e ending known is = absurd (omega (arith, known))
ended_there (x ∷ entries) zero e ending known is = ap (λ (y : NodeEntry). trail_entry (ended_entry y ending) ∷ map trail_entry entries) is
ended_there (x ∷ entries) (suc place) e ending known is =
    ap (λ (es : List Entry). trail_entry x ∷ es) (ended_there entries place e ending (omega (arith, known)) is)

pub returns-then-place-len : goal.returns-then-place-len
returns-then-place-len c =
    let entries : List NodeEntry = c.self.inside.entries.items in
    let known : c.args.name < length entries = search rules in
    let ended : map trail_entry (set entries c.args.name c.set_ending.new.entry) ≡ ended_as (map trail_entry entries) c.args.name (node_ending c.args.ending) =
    ap (λ (e : NodeEntry). map trail_entry (set entries c.args.name e)) c.set_ending.ensures
    ∙ ended_there entries c.args.name c.index_mut.result.now c.args.ending known c.index_mut.ensures.value in
    rw (← c.self.view_is) (ap (λ (es : List Entry). let t : TrailOf = record (trail_of c.self.inside) { entries = es } in t) ended)
