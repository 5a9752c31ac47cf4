-- Where weights of walks come from.
use Rattle.std.specs.Prelude.{Option, None, Some, length}
use Rattle.network.specs.declared.parts.Lag.{Lag}
use Rattle.network.specs.Walk.{Rows}
use Rattle.lemma_proof.specs.Heads.{IsLight}
use Rattle.lemma_proof.specs.declared.weights.Source.{Source}
use Rattle.lemma_proof.specs.declared.weights.Source.TheVariants.{Matrix, Seen}
use Rattle.lemma_proof.specs.Reasons.{Entries, MayBeWith, entries_of_block, entries_of_matrix, rows_with}

-- the weights of a matrix, or those that are easily seen in a block or its trial
abbrev pub entries_of : Source → Entries
entries_of (Matrix matrix added) = entries_of_matrix (rows_with added matrix.now)
entries_of (Seen block tried) = entries_of_block tried block.now

-- the arc of a trial joins activities, and weighs no more than a walk may
abbrev pub MayTry : Option Lag → Rows → Type 0
MayTry None rows = Unit {0}
MayTry (Some e) rows = IsLight (length rows) e

-- an arc may be added to the matrix
abbrev pub IsSource : Source → Type 0
IsSource (Matrix matrix added) = MayBeWith added matrix.now
IsSource (Seen block tried) = MayTry tried block.now.rows
