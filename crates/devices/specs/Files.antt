-- What the files of a call lead to, and what is done to them.
use Rattle.std.specs.Prelude.{◌≡◌, ◌⊎◌, ℕ, List, [], ◌∷◌, ◌++◌, Option, Some, None, IsSome, option_map, option_copied, String, string_bytes}
use Rattle.std.specs.List.{All}
use Rattle.devices.specs.declared.names.FileNames.{FileNames}
use Rattle.devices.specs.declared.names.CallFile.{CallFile}
use Rattle.devices.specs.declared.names.CallFile.TheVariants as file
use Rattle.devices.specs.declared.names.FileFault.{FileFault}
use Rattle.devices.specs.declared.names.FileFault.TheVariants as fault
use Rattle.devices.specs.declared.losses.TheConstants.{STANDARD_INPUT, STANDARD_OUTPUT}

-- ---- what is done to files

-- a file of this name was opened to be read, or to be written and so made empty, or was made new
pub data Act : Type 0 where
  was_opened : List ℕ → Act
  was_emptied : List ℕ → Act
  was_made : List ℕ → Act

-- where it is told what was done, this was done since, in this order
abbrev pub AddsActs : Option (List Act) → List Act → Option (List Act) → Type 0
AddsActs before acts after = after ≡ option_map (λ (done : List Act). done ++ acts) before

abbrev pub openings : Option (List ℕ) → List Act
openings None = []
openings (Some name) = was_opened name ∷ []

-- the output of a record is emptied; one that is a part is made new
abbrev pub writings : Option (List ℕ) → Option (List ℕ) → List Act
writings None last = []
writings (Some name) None = was_emptied name ∷ []
writings (Some name) (Some last) = was_made name ∷ []

-- the second input of a call is opened first, and the file of its record is written last
abbrev pub acts_of : FileNames → List Act
acts_of c = openings (option_copied c.second) ++ writings (option_copied c.record_file) (option_copied c.record_name)

-- ---- which names lead to one file

-- where names lead, by number: names that lead to one file, or that would make one file, have one number; none for what is no
-- file, or is not to be found out
abbrev pub Places : Type 0
Places = List ℕ → Option ℕ

-- both names are there, and lead to one file
abbrev pub AreOneFile : Places → Option (List ℕ) → Option (List ℕ) → Type 0
AreOneFile places (Some one) (Some other) = IsSome (places one) × (places other ≡ places one)
AreOneFile places one other = ⊥

-- none of the files of cubes is that of the name
abbrev pub IsApart : {A : Type 0} → Places → List (String A) → Option (List ℕ) → Type 0
IsApart {A} places cubes name = All (λ (cube : String A). ¬ AreOneFile places (Some (string_bytes cube)) name) cubes

-- the name of a file of a call; the files of cubes have many
abbrev pub name_of : FileNames → CallFile → Option (List ℕ)
name_of names file.Input = Some STANDARD_INPUT.now
name_of names file.Second = option_copied names.second
name_of names file.Project = option_copied names.project
name_of names file.Resume = option_copied names.resume
name_of names file.Tree = option_copied names.tree
name_of names file.Cube = None
name_of names file.Path = option_copied names.path
name_of names file.Guide = option_copied names.guide
name_of names file.Import = option_copied names.import
name_of names file.Until = option_copied names.until
name_of names file.Answer = Some STANDARD_OUTPUT.now
name_of names file.RecordFile = option_copied names.record_file
name_of names file.Record = option_copied names.record_name
name_of names file.Export = option_copied names.export

-- the file of the call is that of the name
abbrev pub IsAt : Places → FileNames → CallFile → Option (List ℕ) → Type 0
IsAt places names file.Cube name = ¬ IsApart places names.cubes.now name
IsAt places names one name = AreOneFile places (name_of names one) name

-- ---- no file is lost

-- an output of this name is no input of the search of a cube, or of a join
pub record IsNoCubeInput (places : Places) (names : FileNames) (name : Option (List ℕ)) : Type 0 where
  pub tree : ¬ AreOneFile places (option_copied names.tree) name
  pub cubes : IsApart places names.cubes.now name
  pub path : ¬ AreOneFile places (option_copied names.path) name
  pub guide : ¬ AreOneFile places (option_copied names.guide) name
  pub import : ¬ AreOneFile places (option_copied names.import) name

-- an output of this name is no file that the call reads, but for the record that it goes on from
pub record IsNoInput (places : Places) (names : FileNames) (name : Option (List ℕ)) : Type 0 where
  pub input : ¬ AreOneFile places (Some STANDARD_INPUT.now) name
  pub second : ¬ AreOneFile places (option_copied names.second) name
  pub project : ¬ AreOneFile places (option_copied names.project) name
  pub until : ¬ AreOneFile places (option_copied names.until) name
  pub of_cube : IsNoCubeInput places names name

-- no output is the record that the call goes on from; but its own record may take the place of that one, which is read by then
pub record KeepsResumed (places : Places) (names : FileNames) : Type 0 where
  pub record_file : ¬ AreOneFile places (option_copied names.resume) (option_copied names.record_file)
  pub export : ¬ AreOneFile places (option_copied names.resume) (option_copied names.export)
  pub answer : ¬ AreOneFile places (option_copied names.resume) (Some STANDARD_OUTPUT.now)

-- no two files that the call writes are one
pub record AreApart (places : Places) (names : FileNames) : Type 0 where
  pub answer_file : ¬ AreOneFile places (Some STANDARD_OUTPUT.now) (option_copied names.record_file)
  pub answer_record : ¬ AreOneFile places (Some STANDARD_OUTPUT.now) (option_copied names.record_name)
  pub answer_export : ¬ AreOneFile places (Some STANDARD_OUTPUT.now) (option_copied names.export)
  pub file_record : ¬ AreOneFile places (option_copied names.record_file) (option_copied names.record_name)
  pub file_export : ¬ AreOneFile places (option_copied names.record_file) (option_copied names.export)
  pub record_export : ¬ AreOneFile places (option_copied names.record_name) (option_copied names.export)

-- no file that the call writes is one that it reads, and no two that it writes are one
pub record LosesNone (places : Places) (names : FileNames) : Type 0 where
  pub outputs : AreApart places names
  pub resumed : KeepsResumed places names
  pub answer : IsNoInput places names (Some STANDARD_OUTPUT.now)
  pub record_file : IsNoInput places names (option_copied names.record_file)
  pub of_record : IsNoInput places names (option_copied names.record_name)
  pub export : IsNoInput places names (option_copied names.export)

-- the output of this name is the file that this fault names
abbrev pub IsLoss : Places → FileNames → CallFile → Option (List ℕ) → FileFault → Type 0
IsLoss places names output name (fault.Same one other) = (other ≡ output) × IsAt places names one name
IsLoss places names output name other = Unit {0}

-- the two files that this fault names are one
abbrev pub Loses : Places → FileNames → FileFault → Type 0
Loses places names (fault.Same one other) = IsAt places names one (name_of names other)
Loses places names other = Unit {0}

-- the call would lose a file
abbrev pub LosesFile : FileFault → Type 0
LosesFile (fault.Same one other) = Unit {0}
LosesFile other = ⊥
