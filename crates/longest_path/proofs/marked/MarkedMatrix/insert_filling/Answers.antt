use Rattle.std.proofs.Common.{w64}
use Rattle.std.proofs.lemmas.Int.{to_z-of_z}
use Rattle.longest_path.proofs.marked.MarkedMatrix.insert_filling.Goals as goal

pub returns-clause-ok : goal.returns-clause-ok
returns-clause-ok c = rw (to_z-of_z w64 c.args.w c.ranges.w) at c.take.ensures.ok

pub returns-clause-fault : goal.returns-clause-fault
returns-clause-fault c = rw (to_z-of_z w64 c.args.w c.ranges.w) at c.take.ensures.fault
