-- The command line as `clap` sees it, and what a reading of it says.
use Rattle.std.specs.Prelude.{codes, map, option_map, Some, List, unwrap_or, []}
use Rattle.clap.specs.Words.{App, Rule, Row, Text, all_of, new_app, new_rule, with_rule}
use Rattle.clap.specs.declared.builder.action.ArgAction.TheVariants.{Append, Set, SetTrue}
use Rattle.meaning_words.specs.Words.{Flag, stats, keep_going}
use Rattle.meaning_words.specs.Words as meaning
use Rattle.script_words.specs.declared.reading.Flags.{Flags}
use Rattle.script_words.specs.declared.reading.WordsRead.{WordsRead}
use Rattle.script_words.specs.declared.reading.WordsRead.TheVariants.{Help, Wrong, Words}

-- the name of a flag, behind its two dashes
abbrev pub flag_name : Flag → Text
flag_name stats = codes "stats"
flag_name keep_going = codes "keep-going"

abbrev pub demo_id : Text
demo_id = codes "demo"

abbrev pub plain_id : Text
plain_id = codes "plain"

-- a flag, which its name stands for
abbrev pub rule_named : Text → Rule
rule_named name = record (new_rule name) { long = Some name; action = Some SetTrue }

abbrev pub flag_rule : Flag → Rule
flag_rule flag = rule_named (flag_name flag)

-- the option `--demo`, which takes a value
abbrev pub demo_rule : Rule
demo_rule = record (new_rule demo_id) { long = Some (codes "demo"); action = Some Set }

-- the plain words, of which there may be any number
abbrev pub plain_rule : Rule
plain_rule = record (new_rule plain_id) { action = Some Append }

abbrev pub with_flags : App
with_flags = with_rule (with_rule (new_app (codes "pdscript")) (flag_rule stats)) (flag_rule keep_going)

abbrev pub with_options : App
with_options = with_rule with_flags demo_rule

abbrev pub command_line : App
command_line = with_rule with_options plain_rule

-- the plain words that `clap` found
abbrev pub plain_of : List Row → List Text
plain_of rows = unwrap_or (all_of plain_id rows) []

abbrev pub flags_of : Flags → meaning.Flags
flags_of flags = record { stats = flags.stats; keep_going = flags.keep_going }

abbrev pub words_of : WordsRead → meaning.WordsRead
words_of Help = meaning.help
words_of Wrong = meaning.fault
words_of (Words flags demo plain) = meaning.read (record { flags = flags_of flags; demo = option_map (λ s. s.now) demo; plain = map (λ s. s.now) plain.items })
