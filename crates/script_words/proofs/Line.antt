-- The command line as `clap` walks it, and the states of the walk.
use Rattle.std.proofs.Common.{◌≡◌, ◌∙◌, ap, refl, Bool, true, false, List, [], ◌∷◌, Option, None, codes, fold}
use Rattle.clap.specs.Simple.{Shape, filled, help_rule, new_shape, with_index}
use Rattle.clap.specs.Walk.{Held, Row, Rule, Text, Waiting, Walk, settled, walked}
use Rattle.clap.specs.Faults.{settle_fault, walk_fault}
use Rattle.clap.specs.Kinds.{Kinds, or_else}
use Rattle.clap.specs.declared.error.kind.ErrorKind.{ErrorKind}
use Rattle.clap.specs.declared.error.kind.ErrorKind.TheVariants.{DisplayHelp}
use Rattle.meaning_words.specs.Words.{Flag, stats, keep_going}
use Rattle.script_words.specs.CommandLine.{demo_rule, plain_rule, flag_rule}

abbrev pub flag : Flag → Rule
flag f = filled (flag_rule f)

abbrev pub demo : Rule
demo = filled demo_rule

abbrev pub plain : Rule
plain = with_index 1 (filled plain_rule)

abbrev pub help : Rule
help = filled help_rule

abbrev pub rules : List Rule
rules = flag stats ∷ flag keep_going ∷ demo ∷ plain ∷ help ∷ []

-- the command line, built
abbrev pub line : Shape
line = record (new_shape (codes "pdscript")) { rules = rules; is_built = true; disable_help_subcommand = true }

abbrev pub Pending : Type 0
Pending = Option (Text × List Text)

abbrev pub held : List Row → Pending → Held
held rows pending = record { rows = rows; pending = pending; skip = 0 }

abbrev pub standing : List Row → Pending → Waiting → Bool → Walk
standing rows pending waiting is_trailing = record {
  held = held rows pending;
  waiting = waiting;
  position = 1;
  is_trailing = is_trailing;
  stopped = None;
}

abbrev pub settling : Held → Kinds
settling h = settle_fault rules false h

-- what the walk comes to over these words, and what it has found at their end
abbrev pub fault_from : Walk → List Text → Kinds
fault_from w words = or_else (walk_fault line [] w words) (settling (fold (walked rules []) w words).held)

abbrev pub rows_from : Walk → List Text → List Row
rows_from w words = (settled rules (fold (walked rules []) w words).held).rows

-- one kind, and no call for help
abbrev pub IsWrong : Kinds → Type 0
IsWrong kinds = (k : ErrorKind) × (kinds ≡ k ∷ []) × (k ≡ DisplayHelp → ⊥)

pub wrong_first : (a b : Kinds) → IsWrong a → IsWrong (or_else a b)
wrong_first a b w = (w.0, ap (λ k. or_else k b) w.1, w.2)

pub wrong_as : (a b : Kinds) → a ≡ b → IsWrong b → IsWrong a
wrong_as a b e w = (w.0, e ∙ w.1, w.2)

pub nothing_after : (a : Kinds) → or_else a [] ≡ a
nothing_after [] = refl
nothing_after (k ∷ ks) = refl
