-- What is read, and that what is written is read back.
use Rattle.std.specs.Prelude.{◌≡◌, ◌≢◌, ℕ, Result, Ok, MatchResult, List, [], ◌++◌, length, drop}
use Rattle.lemma_log.specs.declared.event.Event.{Event}
use Rattle.lemma_log.specs.declared.fault.DecodeFault.{DecodeFault}
use Rattle.lemma_log.specs.declared.fault.DecodeFault.TheVariants.{Short, Memory}
use Rattle.lemma_log.specs.declared.read.Read.{Read}
use Rattle.lemma_log.specs.Text.{event_text, IsWritable}
use Rattle.lemma_log.specs.Reading.{read_in}

-- the event is what the bytes begin with, it has so many of them, and the others follow it
abbrev pub IsFirst : List ℕ → Read → Type 0
IsFirst bytes read = read_in bytes ≡ Ok (record { value = read.event; left = drop read.count bytes })

-- the event was read with all its bytes, unless memory ran out
abbrev pub IsReadAs : Result Read DecodeFault → Event → Type 0
IsReadAs result e = MatchResult result (λ read. (read.event ≡ e) × (read.count ≡ length (event_text e))) (λ fault. fault ≡ Memory)

-- more bytes are asked for, unless memory ran out
abbrev pub IsShort : Result Read DecodeFault → Type 0
IsShort result = MatchResult result (λ read. ⊥) (λ fault. fault ≢ Memory → fault ≡ Short)

-- bytes that begin with an event are read as it, whatever follows; where its bytes are cut off, more are asked for
pub record ReadsBack (bytes : List ℕ) (result : Result Read DecodeFault) : Type 0 where
  pub reads : (e : Event) (rest : List ℕ) → IsWritable e → bytes ≡ event_text e ++ rest → IsReadAs result e
  pub short : (e : Event) (more : List ℕ) → IsWritable e → bytes ++ more ≡ event_text e → more ≢ [] → IsShort result
