use Rattle.std.proofs.Common.{◌≡◌, ◌≤◌, ◌<◌, ℕ, sym, ap, ◌∙◌, arith, length, map, Some, true}
use Rattle.std.specs.List.{All, Contains}
use Rattle.std.specs.BTreeSet.{contains}
use Rattle.std.specs.Map.Iter.{deref}
use Rattle.std.proofs.lemmas.Bool.{iff_false}
use Rattle.std.proofs.lemmas.List.Elements.{All-contains, All-map, All-push}
use Rattle.std.proofs.lemmas.Map.Iter.{iter_end}
use Rattle.std.proofs.lemmas.Option.{slice_get_within}
use Rattle.lemma_proof.specs.Slots.{HaveDelays, SaysAt, joined, place_cmp}
use Rattle.lemma_proof.proofs.Listed.{among, says_ends}
use Rattle.lemma_proof.proofs.slots.LemmaSlots.slot_of_delays.Goals as goal

pub loop-place-preserved : goal.loop-place-preserved
loop-place-preserved c =
    All-push (λ x. ¬ SaysAt c.args.self.now c.args.one c.args.other (deref {X = (ℕ × ℕ) × ℕ} x).1) c.loop-place.yielded
    c.in-Some.place c.loop-place.invariant (iff_false c.says_at.ensures c.if-says_at.false)

pub returns : goal.returns
returns c =
    let P : (ℕ × ℕ) × ℕ → Type 0 = λ x. ¬ SaysAt c.args.self.now c.args.one c.args.other x.1 in
    let ends : ℕ × ℕ = joined c.args.one.activity c.args.other.activity in
    let whole : map deref c.loop-place.yielded ≡ c.range-place-items.result =
    (iter_end deref c.range-place-items.result c.loop-place.yielded c.into_iter-place-iterator.result
    c.loop-place.place-iterator c.next.new.self c.next.result c.into_iter-place-iterator.ensures.into_iter_gives
    c.loop-place.yielded_by c.in-None.is c.next.ensures.steps).0 in
    let none : All P (map deref c.loop-place.yielded) = All-map P deref c.loop-place.yielded c.loop-place.invariant in
    let none_at : All P c.range-place-items.result = rw (sym whole) none in
    λ (h : HaveDelays c.args.self.now c.args.one c.args.other).
    let within : h.slot < length c.args.self.now = slice_get_within c.args.self.now h.slot (Some h.says.lemma) h.says.found in
    let listed : contains place_cmp c.self.inside.places (ends, h.slot) ≡ true =
    c.self.invariant h.slot h.says.lemma (rw c.self.view_is h.says.found) ends
    (says_ends c.args.one c.args.other h.says.lemma h.says.says) in
    let there : Contains c.range-place-items.result (ends, h.slot) =
    among c.self.inside.places ends h.slot c.len-last.result _ _ c.range-place-items.result
    (c.new.ensures.start ∙ ap (λ (e : ℕ × ℕ). (e, 0)) c.joined-ends.ensures)
    (c.new.ensures.end ∙ ap (λ (e : ℕ × ℕ). (e, c.len-last.result)) c.joined-ends.ensures)
    (omega (arith, within, c.len-last.ensures, ap length c.self.view_is))
    (c.range-place-items.ensures.between c.new.ensures.exhausted) listed in
    All-contains P c.range-place-items.result (ends, h.slot) none_at there h.says
