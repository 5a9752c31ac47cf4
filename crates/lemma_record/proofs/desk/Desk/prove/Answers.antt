use Rattle.std.proofs.Common.{◌≡◌, ◌<◌, rules, length}
use Rattle.lemma_proof.specs.Lines.{IsRefuted, picked}
use Rattle.lemma_book.specs.Ledger.{HasRoom}
use Rattle.lemma_book.specs.Premises.{root_arcs}
use Rattle.lemma_record.specs.declared.desk.Lemma.{Lemma}
use Rattle.lemma_record.specs.Desk.{lemma_of}
use Rattle.lemma_record.proofs.Desks.{proved_more}
use Rattle.lemma_record.proofs.desk.Desk.prove.Goals as goal

pub invariant_of-self-2 : goal.invariant_of-self-2
invariant_of-self-2 c =
    let x = c.self.inside.premises in
    let lemma : Lemma = lemma_of c.args.slot c.args.arcs c.in_ok-lines.lines in
    let copy : c.new-copy.result ≡ c.args.arcs = search rules in
    let lines : c.in_ok-lines.lines ≡ picked c.args.lines.now c.in-Some.places.items = search rules in
    let several : 1 < length c.args.arcs = rw c.as_slice.ensures at c.if-as_slice-lt2.false in
    let room : HasRoom c.self.inside.premises.lemmas c.args.slot c.args.arcs =
    rw c.as_slice-else-as_slice-lt2.ensures at (c.has_room.ensures.0 c.if-not-has_room.false) in
    let told = rw (c.in-Some.is, c.as_slice-2.ensures) at c.in_ok-places.ensures.refuted in
    let refuted : IsRefuted c.self.inside.premises.project c.self.inside.premises.lemmas
    (root_arcs c.self.inside.premises) c.args.arcs c.in_ok-lines.lines = rw lines told.1 in
    rw (
      c.push_reserved.ensures.items,
      c.in_ok-reserve.ensures.items,
      c.in_ok-shelve.ensures.filled,
      copy,
      c.in_ok-places.ensures.same,
    ) (proved_more c.self.inside.premises c.self.inside.proved.items lemma room
    (record { several = several; refuted = refuted }) c.self.invariant)
