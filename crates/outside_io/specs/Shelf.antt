-- Held files, and the one of them that is read.
use Rattle.std.specs.Prelude.{◌+◌, ℕ, zero, suc, Bool, List, [], ◌∷◌, map, if◌then◌else◌, nat_eq, refl}
use Rattle.std.specs.Coded.{Coded, code_by, coded×, coded_ℕ, coded_list}
use Rattle.std.specs.FinMap.{from_entries, code as map_code}
use Rattle.std.specs.Global.{Vec}
use Rattle.meaning_cells.specs.Text.{Text, same_text, Contents}
use Rattle.outside_io.specs.declared.shelf.HeldFile.{HeldFile}
use Rattle.outside_io.specs.declared.shelf.Reading.{Reading}
use Rattle.outside_io.specs.declared.shelf.Reading.TheVariants.{Nothing, Held, Replaced}

-- the bytes of each path, and what is left of the file that is read
pub record Shelved : Type 0 where
  pub contents : Contents
  pub rest : List ℕ

-- how contents are stored
abbrev pub contents_code : Coded Contents
contents_code = map_code (coded_list coded_ℕ) (coded_list coded_ℕ)

-- a shelf is stored as the pair of its fields
abbrev pub shelved_code : Coded Shelved
shelved_code =
    code_by (Contents × List ℕ) (coded× contents_code (coded_list coded_ℕ)) (λ s. (s.contents, s.rest)) (λ p. record { contents = p.0; rest = p.1 }) (λ _. refl)

-- the path of a file, and its bytes
abbrev pub entry_of : HeldFile → Text × List ℕ
entry_of file = (file.path, file.bytes.items)

-- the bytes of each path, as the first file under it has them
abbrev pub map_of : List HeldFile → Contents
map_of files = from_entries (map entry_of files)

-- whether a file stands under the path
abbrev pub is_under : Text → HeldFile → Bool
is_under path file = same_text file.path path

-- the bytes of the file at a place
abbrev pub bytes_at : List HeldFile → ℕ → List ℕ
bytes_at [] place = []
bytes_at (file ∷ files) zero = file.bytes.items
bytes_at (file ∷ files) (suc place) = bytes_at files place

-- the files, where the one at a place has other bytes
abbrev pub with_bytes : List HeldFile → ℕ → Vec ℕ → List HeldFile
with_bytes [] place bytes = []
with_bytes (file ∷ files) zero bytes = record { path = file.path; bytes = bytes } ∷ files
with_bytes (file ∷ files) (suc place) bytes = file ∷ with_bytes files place bytes

-- all bytes of the file that is read
abbrev pub reading_bytes : List HeldFile → Reading → List ℕ
reading_bytes files Nothing = []
reading_bytes files (Held place) = bytes_at files place
reading_bytes files (Replaced bytes) = bytes.items

-- how many files are held at least
abbrev pub least_held : Reading → ℕ
least_held Nothing = 0
least_held (Held place) = place + 1
least_held (Replaced bytes) = 0

-- what is read after the file at a place was given other bytes, where this is the file as it was
abbrev pub kept_reading : Reading → ℕ → Reading → Reading
kept_reading Nothing place replaced = Nothing
kept_reading (Held held) place replaced = if nat_eq held place then replaced else Held held
kept_reading (Replaced bytes) place replaced = Replaced bytes
