-- How far an evaluation has come in its reading of files.
use Rattle.std.specs.Prelude.{◌≡◌, ◌⊎◌, ◌<◌, ◌≤◌, ◌+◌, ◌^◌, ℕ, zero, suc, List, length, map, Option, Some, None, Result, Ok, Err}
use Rattle.cell_core.specs.declared.code.Code.{Code}
use Rattle.cell_core.specs.declared.code.Code.TheVariants.{NoFile}
use Rattle.outside_io.specs.Count.{HasRisen, raised}
use Rattle.outside_io.specs.Files.{FilesValue}
use Rattle.meaning_laws.specs.cells.Text.{Text, Contents}
use Rattle.meaning_laws.specs.cells.Fault.{FaultValue, limit}
use Rattle.meaning_laws.specs.cells.FaultOf.{fault_of}
use Rattle.meaning_laws.specs.tables.Settled.{IsSettled}
use Rattle.meaning_laws.specs.script.Spent.{Spent, IsAtMost}
use Rattle.meaning_laws.specs.script.Reading.{Files, Reading, Reads, at_once, gives, after, then_read, path_of_name}
use Rattle.script_state.specs.declared.file_names.FileName.{FileName}
use Rattle.script_state.specs.declared.fault.EvalFault.{EvalFault}
use Rattle.script_state.specs.declared.fault.EvalFault.TheVariants.{Refused, Input, NoMemory}

-- the names of the command line with their paths, and files that hold these contents
abbrev pub paths_of : List FileName → List (Text × Text)
paths_of names = map (λ f. (f.name, f.path)) names

abbrev pub files_in : List FileName → Contents → Files
files_in names held = record { paths = paths_of names; held = held }

-- the count after so many fetches
abbrev pub count_after : ℕ → ℕ → ℕ
count_after count zero = count
count_after count (suc n) = raised count (suc n)

-- The contents that the files may have: those that they tell. Where they tell none, any contents will do as long as nothing was fetched, or the meaning fetches nothing.
abbrev pub Holds : Option Contents → Spent → Spent → Contents → Type 0
Holds None spent meant held = (spent.fetches ≡ 0) ⊎ (meant.fetches ≡ 0)
Holds (Some told) spent meant held = held ≡ told

-- both, or the first fault
abbrev pub both_of : {A B : Type 0} → Reads A → Reads B → Reads (A × B)
both_of x y = then_read x (λ v. then_read y (λ w. gives (v, w)))

-- After what was spent, of whose fetches the count tells, the meaning of the whole is that of the rest.
pub record Goes {X : Type 0} (held : Contents) (old new : FilesValue) (whole rest : Reading X) : Type 0 where
  pub spent : Spent
  pub counted : new.fetches ≡ count_after old.fetches spent.fetches
  pub meant : Holds old.contents spent whole.spent held → whole ≡ after spent rest

-- the charge so far, and how many cells are held
pub record Tab : Type 0 where
  pub charge : ℕ
  pub held : ℕ

-- what costs so many cells raises the charge by them, and what is held by at most as many
pub record Costs (cells : ℕ) (old new : Tab) : Type 0 where
  pub charge : new.charge ≡ count_after old.charge cells
  pub held : new.held ≤ old.held + cells

-- what is seen of the files, beside the tab
pub record Meter : Type 0 where
  pub files : FilesValue
  pub tab : Tab

abbrev pub metered : Tab → FilesValue → Meter
metered tab files = record { files = files; tab = tab }

-- The same where what was spent was put on the tab.
pub record Pays {X : Type 0} (held : Contents) (old new : Meter) (whole rest : Reading X) : Type 0 where
  pub goes : Goes held old.files new.files whole rest
  pub costs : Costs goes.spent.charge old.tab new.tab

-- no more was spent than the whole spends
pub record Spends {X : Type 0} (held : Contents) (old new : FilesValue) (whole : Reading X) : Type 0 where
  pub spent : Spent
  pub counted : new.fetches ≡ count_after old.fetches spent.fetches
  pub within : Holds old.contents spent whole.spent held → IsAtMost spent whole.spent

-- A call of the source failed, and so at least one fetch was made, and no more was spent than the whole spends.
pub record Stuck {X : Type 0} (held : Contents) (old new : FilesValue) (whole : Reading X) : Type 0 where
  pub spent : Spent
  pub counted : new.fetches ≡ count_after old.fetches spent.fetches
  pub some : 0 < spent.fetches
  pub within : Holds old.contents spent whole.spent held → IsAtMost spent whole.spent
  pub risen : HasRisen old.faults new.faults

-- the name of the file that isn't there, where that is the refusal
abbrev pub absent_name : Code → Option Text
absent_name (NoFile name) = Some name
absent_name code = None

-- A file isn't there: its name isn't given, or a fetch found none.
abbrev pub IsCaused : List (Text × Text) → FilesValue → FilesValue → Option Text → Type 0
IsCaused paths old new None = Unit {0}
IsCaused paths old new (Some name) = (path_of_name paths name ≡ None) ⊎ HasRisen old.absences new.absences

-- The meaning gives this fault, whose texts were given their numbers; or a file could not be read, or memory was refused.
abbrev pub Halts : {X : Type 0} → (FaultValue → X) → List Text → Files → FilesValue → FilesValue → Reading X → EvalFault → Type 0
Halts stop texts files old new whole (Refused code) = Goes files.held old new whole (at_once (stop (fault_of texts code))) × IsCaused files.paths old new (absent_name code) × IsSettled fault_of texts code
Halts stop texts files old new whole Input = Stuck files.held old new whole
Halts stop texts files old new whole NoMemory = Spends files.held old new whole

-- what an evaluation answers is what is meant, as it is seen; or it halts
abbrev pub Reaches : {V A : Type 0} → (V → A) → List Text → Files → Meter → Meter → Reads A → Result V EvalFault → Type 0
Reaches view texts files old new whole (Ok v) = Pays files.held old new whole (gives (view v))
Reaches view texts files old new whole (Err fault) = Halts Err texts files old.files new.files whole fault

-- The bytes of a file are those of which what is meant is made; or the call halts.
abbrev pub ReachesBytes : {A : Type 0} → (List ℕ → Reads A) → List Text → Files → Meter → Meter → Reads A → Result (List ℕ) EvalFault → Type 0
ReachesBytes go texts files old new whole (Ok bytes) = Pays files.held old new whole (go bytes)
ReachesBytes go texts files old new whole (Err fault) = Halts Err texts files old.files new.files whole fault

-- bytes beyond the limits are refused
abbrev pub RefusesLong : {A : Type 0} → (List ℕ → Reads A) → Type 0
RefusesLong go = (bytes : List ℕ) → 2 ^ 28 < length bytes → go bytes ≡ at_once (Err limit)
