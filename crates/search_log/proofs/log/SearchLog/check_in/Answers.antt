use Rattle.std.proofs.Common.{◌≡◌, ◌∙◌, ◌++◌, ℕ, List, map, length, sym, ap, rules}
use Rattle.std.proofs.lemmas.List.{length-map}
use Rattle.network.specs.Problem.{Problem}
use Rattle.branching.specs.Fair.{Expansion}
use Rattle.search_log.specs.RightTrail.{children_below}
use Rattle.search_log.specs.SearchLog.{Entry, Ending, TrailOf, node_ending, trail_entry, trail_for, NodeEntry}
use Rattle.search_log.specs.Recording.{child_entry, ending_of, ended_as}
use Rattle.search_log.proofs.TrailSteps.{ended_append}
use Rattle.search_log.proofs.log.SearchLog.check_in.Goals as goal

pub returns-clause-ok : goal.returns-clause-ok
returns-clause-ok c =
    let p : Problem = c.args.self.now.project in
    let entries : List Entry = c.args.self.now.entries in
    let report : Expansion = c.args.report.now in
    let more : List Entry = map (child_entry c.args.name (length report.node.pairs)) (children_below c.args.limit report.children) in
    let added : c.add.new.self ≡ trail_for p (entries ++ more) = search rules in
    let kept : List NodeEntry = c.self.inside.entries.items in
    let count : c.len-first.result ≡ length kept = search rules in
    let first : c.len-first.result ≡ length entries = count ∙ (sym (length-map kept trail_entry) ∙ ap (λ (t : TrailOf). length t.entries) c.self.view_is) in
    let told : node_ending c.in_ok-ending.ending ≡ ending_of c.args.limit c.len-first.result report = c.in_ok-ending.ensures in
    let ending : node_ending c.in_ok-ending.ending ≡ ending_of c.args.limit (length entries) report = told
    ∙ ap (λ (n : ℕ). ending_of c.args.limit n report) first in
    c.end.ensures
    ∙ (ap (λ (t : TrailOf). trail_for t.project (ended_as t.entries c.args.name (node_ending c.in_ok-ending.ending))) added
    ∙ (ap (λ (e : Ending). trail_for p (ended_as (entries ++ more) c.args.name e)) ending
    ∙ ap (trail_for p) (ended_append entries more c.args.name (ending_of c.args.limit (length entries) report) c.requires.known)))
