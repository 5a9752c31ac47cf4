-- The text of a log: its title, and events one after another.
use Rattle.std.specs.Prelude.{◌≡◌, ℕ, List, [], ◌∷◌, ◌++◌, Ok}
use Rattle.std.specs.List.{flat_map, AllByRecursion}
use Rattle.lemma_log.specs.declared.event.Event.{Event}
use Rattle.lemma_log.specs.Text.{event_text, title_text, IsWritable}
use Rattle.lemma_log.specs.Reading.{read_in}

-- the title, and these events one after another
abbrev pub log_text : List Event → List ℕ
log_text events = title_text ++ flat_map event_text events

-- these events are read first, one after another, and this is left
abbrev pub AreFirst : List ℕ → List Event → List ℕ → Type 0
AreFirst bytes [] left = left ≡ bytes
AreFirst bytes (e ∷ events) left =
    (more : List ℕ) × (read_in bytes ≡ Ok (record { value = e; left = more })) × AreFirst more events left

-- the text begins with the title and these events, and this is left
pub record Begins (text : List ℕ) (events : List Event) (left : List ℕ) : Type 0 where
  pub body : List ℕ
  pub title : text ≡ title_text ++ body
  pub first : AreFirst body events left

-- the text is the title and these events, to its end
abbrev pub Spells : List ℕ → List Event → Type 0
Spells text events = Begins text events []

-- the text of events that are writable spells these
abbrev pub LogIsSpelled : Type 0
LogIsSpelled = (events : List Event) → AllByRecursion IsWritable events → Spells (log_text events) events

-- and a text spells no others
abbrev pub LogIsOne : Type 0
LogIsOne = (text : List ℕ) (events others : List Event) → Spells text events → Spells text others → events ≡ others
