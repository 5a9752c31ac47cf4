use Rattle.lemma_proof.proofs.Halves.{converse_light}
use Rattle.lemma_proof.proofs.RootedHalves.{converse_none, rooted_halves}
use Rattle.lemma_proof.proofs.both.root_both.Goals as goal

pub take_root-requires-2-clause-light : goal.take_root-requires-2-clause-light
take_root-requires-2-clause-light c = rw c.converse_of.ensures
    (converse_light c.args.heads.now.rows c.args.tails.now.rows c.args.arc c.requires.converse c.requires.light)

pub take_root-requires-2-clause-none : goal.take_root-requires-2-clause-none
take_root-requires-2-clause-none c = rw c.converse_of.ensures
    (converse_none c.args.heads.now.rows c.args.tails.now.rows c.args.arc c.requires.converse c.requires.light
    c.requires.none)

pub returns : goal.returns
returns c =
    let back = rw c.converse_of.ensures at c.take_root-2.ensures.rooted in
    rooted_halves c.args.arc c.args.heads.now c.args.tails.now c.take_root.new.self c.take_root-2.new.self
    c.requires.converse c.activity_count.ensures.law.table c.activity_count-2.ensures.law.table c.requires.light
    c.requires.none c.take_root.ensures.rooted back c.take_root.ensures.first c.take_root-2.ensures.first
