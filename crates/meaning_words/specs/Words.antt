-- The words of a command line, read from left to right.
use Rattle.std.specs.Prelude.{ℕ, ◌&&◌, nat_lt, nat_le, Bool, true, false, List, [], ◌∷◌, ◌++◌, length, take, drop, is_some, Option, Some, None, codes, if◌then◌else◌}
use Rattle.std.specs.Str.{all_ascii_digits}
use Rattle.std.specs.Str.Parse.{digits_value}
use Rattle.meaning_cells.specs.Text.{Text, same_text}

abbrev pub begins : Text → Text → Bool
begins front word = same_text front (take (length front) word)

-- a word that begins with `-` and isn't `-` alone
abbrev pub is_option : Text → Bool
is_option word = begins (codes "-") word && nat_lt 1 (length word)

-- `--stats` and `--keep-going`
pub data Flag : Type 0 where
  stats : Flag
  keep_going : Flag

-- What a word is by its text: one that asks for help; a flag; `--demo`, whose value is the next word; `--demo=` and its value;
-- `--`, after which no word is an option; any other option; a word that stands for itself.
pub data WordSort : Type 0 where
  asking : WordSort
  flag : Flag → WordSort
  demo : WordSort
  demo_with : Text → WordSort
  dashes : WordSort
  unknown : WordSort
  plain : WordSort

abbrev pub sort_of : Text → WordSort
sort_of word =
    if same_text word (codes "--help") then asking
    else if begins (codes "-h") word then asking
    else if same_text word (codes "--stats") then flag stats
    else if same_text word (codes "--keep-going") then flag keep_going
    else if same_text word (codes "--demo") then demo
    else if begins (codes "--demo=") word then demo_with (drop 7 word)
    else if same_text word (codes "--") then dashes
    else if is_option word then unknown
    else plain

-- which flags were given
pub record Flags : Type 0 where
  pub stats : Bool
  pub keep_going : Bool

abbrev pub no_flags : Flags
no_flags = record { stats = false; keep_going = false }

abbrev pub has_flag : Flag → Flags → Bool
has_flag stats flags = flags.stats
has_flag keep_going flags = flags.keep_going

abbrev pub with_flag : Flag → Flags → Flags
with_flag stats flags = record flags { stats = true }
with_flag keep_going flags = record flags { keep_going = true }

-- what was read: the flags, the value of `--demo`, where it was given, and the plain words in order
pub record Words : Type 0 where
  pub flags : Flags
  pub demo : Option Text
  pub plain : List Text

abbrev pub no_words : Words
no_words = record { flags = no_flags; demo = None; plain = [] }

-- what reading comes to: the first help or fault decides
pub data WordsRead : Type 0 where
  help : WordsRead
  fault : WordsRead
  read : Words → WordsRead

-- the next word of this sort, and then the others, of which `go` says what they come to: after the words read so far, and
-- whether their first one is the value of `--demo`
abbrev pub read_as : WordSort → Words → Text → List Text → (Words → Bool → WordsRead) → WordsRead
read_as asking before word more go = help
read_as (flag f) before word more go = if has_flag f before.flags then fault else go (record before { flags = with_flag f before.flags }) false
read_as demo before word more go = if is_some before.demo then fault else go before true
read_as (demo_with value) before word more go = if is_some before.demo then fault else go (record before { demo = Some value }) false
read_as dashes before word more go = read (record before { plain = before.plain ++ more })
read_as unknown before word more go = fault
read_as plain before word more go = go (record before { plain = before.plain ++ word ∷ [] }) false

abbrev pub read_after : Words → Bool → List Text → WordsRead
read_after before false [] = read before
read_after before true [] = fault
read_after before false (word ∷ more) = read_as (sort_of word) before word more (λ before' awaits. read_after before' awaits more)
read_after before true (value ∷ more) = if is_option value then fault else read_after (record before { demo = Some value }) false more

-- the words of a command line, of which the first is the program's name
abbrev pub words_read : List Text → WordsRead
words_read [] = read no_words
words_read (program ∷ more) = read_after no_words false more

-- how many orders a demonstration is asked for: one to six digits, from 1 to 100,000
abbrev pub is_demo_size : Text → Bool
is_demo_size value = nat_lt 0 (length value) && nat_le (length value) 6 && all_ascii_digits value && nat_lt 0 (digits_value 10 value) && nat_le (digits_value 10 value) 100000

abbrev pub demo_size : Text → Option ℕ
demo_size value = if is_demo_size value then Some (digits_value 10 value) else None
