use Rattle.std.proofs.Common.{◌≡◌, ◌∙◌, ℕ, List, Some, sym, ap, subst, length, rules}
use Rattle.std.specs.Arc.{arc_value}
use Rattle.std.proofs.Math.ListN.{replicate}
use Rattle.network.specs.Problem.{Problem}
use Rattle.book.specs.State.{Named, BookState}
use Rattle.search_log.specs.SearchLog.{Entry, no_entry, TrailOf, trail_for}
use Rattle.book.specs.Steps.{AreAllowed, IsOpened, new_state, first_entries}
use Rattle.book.specs.Views.{state_of}
use Rattle.book.proofs.book.Book.open_recorded.Goals as goal

pub returns-clause-opens : goal.returns-clause-opens
returns-clause-opens c =
    let p : Problem = arc_value c.args.project in
    let is_opened : AreAllowed c.args.workers c.args.takes × IsOpened p c.args.workers c.args.takes c.in_ok-book.book = search rules in
    let opened : AreAllowed c.args.workers c.args.takes × IsOpened p c.args.workers c.args.takes (state_of c.book.inside) =
    subst (λ (s : BookState). AreAllowed c.args.workers c.args.takes × IsOpened p c.args.workers c.args.takes s) (sym c.book.view_is) is_opened in
    let nodes : List Named = opened.1.0 in
    let state : state_of c.book.inside ≡ new_state p c.args.workers c.args.takes nodes = opened.1.2 in
    let roots : c.len-roots.result ≡ length c.book.inside.waiting = search rules in
    let trail : c.in_ok-trail.trail ≡ trail_for (arc_value c.in_ok-project.project) (replicate c.len-roots.result no_entry) = search rules in
    let entries : c.in_ok-trail.trail.entries ≡ first_entries nodes =
    ap (λ (t : TrailOf). t.entries) trail ∙ ap (λ (n : ℕ). let es : List Entry = replicate n no_entry in es)
    (roots ∙ ap (λ (s : BookState). length s.waiting) state) in
    (opened.0, (nodes, opened.1.1, λ i. record (state i) { trail = Some (entries i) }))
