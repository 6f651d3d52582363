-- What the words of a command line ask for, taken as a whole.
use Rattle.std.specs.Prelude.{ℕ, ◌+◌, ◌&&◌, ◌==◌, nat_lt, not, Bool, List, [], ◌∷◌, ◌++◌, length, take, drop, is_some, Option, Some, None, if◌then◌else◌}
use Rattle.std.specs.List.{position_or_len}
use Rattle.meaning_script.specs.cells.Text.{Text}
use Rattle.meaning_script.specs.Reading.{path_of_name}
use Rattle.meaning_words.specs.Words.{Flags, WordsRead, help, fault, read, words_read, demo_size}

-- the flags, the script's path, and the names of files with their paths
pub record RunWords : Type 0 where
  pub flags : Flags
  pub script : Text
  pub paths : List (Text × Text)

-- what has one result in all files: help, words that are wrong, a demonstration with these flags and so many orders
pub data Fixed : Type 0 where
  usage_help : Fixed
  wrong_words : Fixed
  demonstration : Flags → ℕ → Fixed

pub data Asked : Type 0 where
  fixed : Fixed → Asked
  script : RunWords → Asked

-- what holds of what has one result in all files
abbrev pub IfFixed : Asked → (Fixed → Type 0) → Type 0
IfFixed (fixed asks) P = P asks
IfFixed (script run) P = Unit {0}

-- what holds of a script with its names of files
abbrev pub IfScript : Asked → (RunWords → Type 0) → Type 0
IfScript (fixed asks) P = Unit {0}
IfScript (script run) P = P run

-- the place of the first `=` in a word, or its length
abbrev pub cut_place : Text → ℕ
cut_place word = position_or_len (λ b. b == 61) word

-- the name and the path in a word
abbrev pub pair_in : Text → Text × Text
pair_in word = (take (cut_place word) word, drop (cut_place word + 1) word)

-- a word that is a name, `=` and a path, neither of which is empty
abbrev pub is_named_path : Text → Bool
is_named_path word = nat_lt 0 (cut_place word) && nat_lt (cut_place word + 1) (length word)

-- a word that may stand after these names: a name that isn't among them, and a path
abbrev pub may_follow : List (Text × Text) → Text → Bool
may_follow names word = is_named_path word && not (is_some (path_of_name names (pair_in word).0))

-- the names in these words after others, each with its path
abbrev pub names_after : List (Text × Text) → List Text → Option (List (Text × Text))
names_after names [] = Some names
names_after names (word ∷ words) = if may_follow names word then names_after (names ++ pair_in word ∷ []) words else None

abbrev pub with_names : Flags → Text → Option (List (Text × Text)) → Asked
with_names flags path None = fixed wrong_words
with_names flags path (Some names) = script record { flags = flags; script = path; paths = names }

-- the script's path, and then names of files
abbrev pub of_plain : Flags → List Text → Asked
of_plain flags [] = fixed wrong_words
of_plain flags (path ∷ more) = if nat_lt 0 (length path) then with_names flags path (names_after [] more) else fixed wrong_words

abbrev pub of_size : Flags → Option ℕ → Asked
of_size flags None = fixed wrong_words
of_size flags (Some orders) = fixed (demonstration flags orders)

-- a demonstration, beside which no other word stands; without one a script
abbrev pub of_words : Flags → Option Text → List Text → Asked
of_words flags None plain = of_plain flags plain
of_words flags (Some value) [] = of_size flags (demo_size value)
of_words flags (Some value) (word ∷ more) = fixed wrong_words

abbrev pub of_read : WordsRead → Asked
of_read help = fixed usage_help
of_read fault = fixed wrong_words
of_read (read words) = of_words words.flags words.demo words.plain

-- what these words ask for, of which the first is the program's name
abbrev pub asked : List Text → Asked
asked words = of_read (words_read words)
