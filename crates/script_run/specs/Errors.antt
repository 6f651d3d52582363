-- What a run leaves on the errors, by its status, in any files.
use Rattle.std.specs.Prelude.{◌≡◌, ◌⊎◌, ◌<◌, ℕ, suc, Bool, List, [], ◌∷◌, ◌++◌, All, Option, None, true, false, codes}
use Rattle.std.specs.List.{flat_map}
use Rattle.outside_io.specs.Count.{HasRisen}
use Rattle.outside_io.specs.Sink.{appended, AppendsFront}
use Rattle.script_session.specs.cells.Text.{Text}
use Rattle.script_session.specs.cells.Fault.{FaultValue, no_file}
use Rattle.script_session.specs.cells.FaultText.{fault_text}
use Rattle.script_session.specs.script.Reading.{path_of_name}
use Rattle.script_session.specs.script.Run.{warning_line, line_about, stats_line, syntax_line, too_large_line}
use Rattle.meaning_run.specs.words.Words.{Flags}
use Rattle.script_run.specs.declared.status.Status.{Status}
use Rattle.script_run.specs.declared.status.Status.TheVariants.{Done, Fault, Usage, Syntax, Input, Output, Memory}

-- what statements write on the errors: the line that warns of a setting at a line of the script, and the line of a fault there
pub data ErrorLine : Type 0 where
  warning : ℕ → ErrorLine
  refusal : ℕ → FaultValue → ErrorLine

abbrev pub line_text : ErrorLine → Text
line_text (warning line) = warning_line line true
line_text (refusal line fault) = line_about line (fault_text fault)

abbrev pub lines_text : List ErrorLine → Text
lines_text lines = flat_map line_text lines

-- how many statements were refused by these lines
abbrev pub faults_in : List ErrorLine → ℕ
faults_in [] = 0
faults_in (warning line ∷ lines) = faults_in lines
faults_in (refusal line fault ∷ lines) = suc (faults_in lines)

-- lines that warn, and nothing else
abbrev pub HasNoFault : List ErrorLine → Type 0
HasNoFault lines = faults_in lines ≡ 0

-- the lines of a run in which a statement was refused: it was the last one, unless the run keeps going
abbrev pub HasFault : Bool → List ErrorLine → Type 0
HasFault false lines = (warnings : List ErrorLine) × (line : ℕ) × (fault : FaultValue) × HasNoFault warnings × (lines ≡ warnings ++ refusal line fault ∷ [])
HasFault true lines = 0 < faults_in lines

-- the lines of a run that was cut short: a statement was refused only if the run keeps going
abbrev pub MayHaveFault : Bool → List ErrorLine → Type 0
MayHaveFault false lines = HasNoFault lines
MayHaveFault true lines = Unit {0}

-- the lines of one statement, which was refused or done
abbrev pub IsOfStatement : Bool → List ErrorLine → Type 0
IsOfStatement false lines = HasNoFault lines
IsOfStatement true lines = HasFault false lines

-- not that the file of a given name isn't there
abbrev pub IsOfGivenFiles : List (Text × Text) → FaultValue → Type 0
IsOfGivenFiles paths (no_file name) = path_of_name paths name ≡ None
IsOfGivenFiles paths fault = Unit {0}

abbrev pub IsLineOfGivenFiles : List (Text × Text) → ErrorLine → Type 0
IsLineOfGivenFiles paths (warning line) = Unit {0}
IsLineOfGivenFiles paths (refusal line fault) = IsOfGivenFiles paths fault

-- Lines that are so were written, and nothing else. One says that the file of a given name isn't there only where a fetch found nothing.
pub record Reports (paths : List (Text × Text)) (absences absences' : ℕ) (AreSo : List ErrorLine → Type 0) (old new : Option (List ℕ)) : Type 0 where
  pub lines : List ErrorLine
  pub are_so : AreSo lines
  pub cause : ¬ (HasRisen absences absences') → All (IsLineOfGivenFiles paths) lines
  pub errors : new ≡ appended old (lines_text lines)

-- the same, and then a front of the line that says that a file could not be read
abbrev pub ReportsUnread : List (Text × Text) → ℕ → ℕ → (List ErrorLine → Type 0) → Option (List ℕ) → Option (List ℕ) → Type 0
ReportsUnread paths absences absences' AreSo old new = (mid : Option (List ℕ)) × Reports paths absences absences' AreSo old mid × AppendsFront mid new (codes "input failed\n")

-- What the statements of a run leave on the errors, by the status at which they end, where the run keeps going or not, has these names and paths, and absences rose so.
abbrev pub StatementsLeave : Bool → List (Text × Text) → ℕ → ℕ → Status → Option (List ℕ) → Option (List ℕ) → Type 0
StatementsLeave keep_going paths absences absences' Done old new = Reports paths absences absences' HasNoFault old new
StatementsLeave keep_going paths absences absences' Fault old new = Reports paths absences absences' (HasFault keep_going) old new
StatementsLeave keep_going paths absences absences' Usage old new = ⊥
StatementsLeave keep_going paths absences absences' Syntax old new = ⊥
StatementsLeave keep_going paths absences absences' Input old new = ReportsUnread paths absences absences' (MayHaveFault keep_going) old new
StatementsLeave keep_going paths absences absences' Output old new = Unit {0}
StatementsLeave keep_going paths absences absences' Memory old new = Reports paths absences absences' (MayHaveFault keep_going) old new

-- the line was written that the script is too large, or that of a syntax error
abbrev pub SaysUnparsed : Option (List ℕ) → Option (List ℕ) → Type 0
SaysUnparsed old new = (new ≡ appended old too_large_line) ⊎ ((line : ℕ) × (new ≡ appended old (syntax_line line)))

-- the line of `--stats`, or nothing
abbrev pub Tells : Bool → Option (List ℕ) → Option (List ℕ) → Type 0
Tells false old new = new ≡ old
Tells true old new = (peak : ℕ) × (charge : ℕ) × (new ≡ appended old (stats_line peak charge))

-- The same of a whole run, which tells with `--stats` what it cost where all was done. Of a script that isn't there, and of a write that failed, this says nothing.
abbrev pub RunLeaves : Flags → List (Text × Text) → ℕ → ℕ → Status → Option (List ℕ) → Option (List ℕ) → Type 0
RunLeaves flags paths absences absences' Done old new = (mid : Option (List ℕ)) × Reports paths absences absences' HasNoFault old mid × Tells flags.stats mid new
RunLeaves flags paths absences absences' Usage old new = Unit {0}
RunLeaves flags paths absences absences' Syntax old new = SaysUnparsed old new
RunLeaves flags paths absences absences' status old new = StatementsLeave flags.keep_going paths absences absences' status old new
