-- What the files and streams of the machine count.
use Rattle.std.specs.Prelude.{ℕ, None}
use Rattle.outside_io.specs.Files.{FilesValue}
use Rattle.outside_io.specs.declared.real.RealSink.{RealSink}
use Rattle.outside_io.specs.declared.real.RealFiles.{RealFiles}

-- how many puts have failed
abbrev pub stream_faults : {W : Type 0} → RealSink W → ℕ
stream_faults s = s.faults

-- how many fetches and reads have failed
abbrev pub source_faults : {R F D : Type 0} → RealFiles R F D → ℕ
source_faults s = s.faults

-- how many fetches found no file
abbrev pub source_absences : {R F D : Type 0} → RealFiles R F D → ℕ
source_absences s = s.absences

-- how many fetches there were
abbrev pub source_fetches : {R F D : Type 0} → RealFiles R F D → ℕ
source_fetches s = s.fetches

-- how many bytes were taken since the last fetch
abbrev pub source_taken : {R F D : Type 0} → RealFiles R F D → ℕ
source_taken s = s.taken

-- what is seen of the files of the machine, which tell no bytes
abbrev pub files_value : {R F D : Type 0} → RealFiles R F D → FilesValue
files_value s = record { contents = None; rest = None; faults = s.faults; absences = s.absences; fetches = s.fetches; taken = s.taken }
