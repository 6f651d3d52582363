-- What the words of the command line were found to ask for.
use Rattle.script_session.specs.script_state.Reads.{paths_of}
use Rattle.script_words.specs.CommandLine.{flags_of}
use Rattle.meaning_run.specs.Asked.{Asked, fixed, script, usage_help, wrong_words, demonstration}
use Rattle.script_run.specs.declared.words.Asked.{Asked as Found}
use Rattle.script_run.specs.declared.words.Asked.TheVariants.{Help, Wrong, Demo, Script}

abbrev pub asked_of : Found → Asked
asked_of Help = fixed usage_help
asked_of Wrong = fixed wrong_words
asked_of (Demo flags orders) = fixed (demonstration (flags_of flags) orders)
asked_of (Script flags path names) = script record { flags = flags_of flags; script = path.now; paths = paths_of names }
