-- What a parse answered, by the rule for the words.
use Rattle.std.proofs.Common.{◌≡◌, ◌∙◌, inl, inr, ap, ap₂, refl, sym, subst, Bool, true, false, List, [], ◌∷◌, codes, Option, Some, None, map, option_map, unwrap_or, string_bytes, String}
use Rattle.std.specs.Borrow.{Bor}
use Rattle.std.proofs.lemmas.Str.{IsUtf8-had}
use Rattle.clap.specs.Kinds.{HasKind, IsAmong, Kinds}
use Rattle.clap.specs.Words.{App, HasMatchesOf, Row, Text, fault_of, first_value, found_of, one_text, is_simple, is_simple_and_free, kind_of, matches_of, rows_of}
use Rattle.clap.specs.Matches.{matched_of, raw_values}
use Rattle.clap.specs.Walk.{first_of, one_of}
use Rattle.clap.specs.declared.error.Error.{Error}
use Rattle.clap.specs.declared.error.kind.ErrorKind.{ErrorKind}
use Rattle.clap.specs.declared.error.kind.ErrorKind.TheVariants.{DisplayHelp, OutOfMemory}
use Rattle.clap.specs.declared.parser.matches.ArgMatches.{ArgMatches}
use Rattle.clap.specs.declared.parser.matches.Found.{Found}
use Rattle.clap.proofs.WalkLemmas.{first_value-rows, one_text-rows, raw_values-rows}
use Rattle.meaning_words.specs.Words.{Flag, Flags, Words, WordsRead, has_flag, keep_going, stats, words_read}
use Rattle.meaning_words.specs.Words as meaning
use Rattle.script_words.specs.CommandLine.{command_line, demo_id, flag_name, plain_id, plain_of}
use Rattle.script_words.proofs.Rows.{HoldsAll, flag_text}
use Rattle.script_words.proofs.WalkRule.{AreTexts, TellsAll, tells}

simple : is_simple command_line ≡ true
simple = refl

free : is_simple_and_free command_line ≡ true
free = refl

pub are_texts : {Z : Type 0} (words : List (String Z)) → AreTexts (map string_bytes words)
are_texts [] = tt
are_texts (word ∷ more) = (IsUtf8-had _ word.ok, are_texts more)

-- ---- what a telling rules out

-- what a flag is read as, by its text
abbrev pub IsFlag : Option Text → Bool → Type 0
IsFlag found b = (found ≡ Some (codes "true") → b ≡ true) × (found ≡ Some (codes "false") → b ≡ false)

flag_is : (f : Flag) (rows : List Row) (words : Words) (b : Bool) → HoldsAll rows words → IsFlag (one_of (flag_name f) rows) b → b ≡ has_flag f words.flags
flag_is f rows words b h is = go (has_flag f words.flags) (h.flags f)
  where
    go : (c : Bool) → one_of (flag_name f) rows ≡ Some (flag_text c) → b ≡ c
    go true found = is.0 found
    go false found = is.1 found

-- both flags are read so
abbrev pub AreFlags : List Row → Flags → Type 0
AreFlags rows flags = (f : Flag) → IsFlag (one_of (flag_name f) rows) (has_flag f flags)

held_words : (rows : List Row) (words : Words) (flags : Flags) → HoldsAll rows words → AreFlags rows flags → words ≡ record { flags = flags; demo = first_of demo_id rows; plain = plain_of rows }
held_words rows words flags h are i = record {
  flags = record { stats = sym (flag_is stats rows words flags.stats h (are stats)) i; keep_going = sym (flag_is keep_going rows words flags.keep_going h (are keep_going)) i };
  demo = sym h.demo i;
  plain = sym h.plain i;
}

read_of : (kinds : Kinds) (rows : List Row) (flags : Flags) (what : WordsRead) → TellsAll kinds rows what → AreFlags rows flags → kinds ≡ []
    → meaning.read (record { flags = flags; demo = first_of demo_id rows; plain = plain_of rows }) ≡ what
read_of kinds rows flags meaning.help t are none = absurd (some_kind (sym t ∙ none))
  where
    some_kind : {k : ErrorKind} → k ∷ [] ≡ [] → ⊥
    some_kind e = cc
read_of kinds rows flags meaning.fault t are none = absurd (some_kind (sym t.1 ∙ none))
  where
    some_kind : {k : ErrorKind} → k ∷ [] ≡ [] → ⊥
    some_kind e = cc
read_of kinds rows flags (meaning.read words) t are none = ap meaning.read (sym (held_words rows words flags t.1 are))

-- the kind of an error among those of a telling
kind_in : (kinds : Kinds) (k k' : ErrorKind) → kinds ≡ k' ∷ [] → IsAmong k kinds → k ≡ k'
kind_in kinds k k' is among = elim (subst (IsAmong k) is among) [ inl same ↦ same | inr none ↦ absurd none ]

help_of : (kinds : Kinds) (rows : List Row) (what : WordsRead) → TellsAll kinds rows what → IsAmong DisplayHelp kinds → meaning.help ≡ what
help_of kinds rows meaning.help t among = refl
help_of kinds rows meaning.fault t among = absurd (t.2 (sym (kind_in kinds DisplayHelp t.0 t.1 among)))
help_of kinds rows (meaning.read words) t among = absurd (subst (IsAmong DisplayHelp) t.0 among)

fault_in : (kinds : Kinds) (rows : List Row) (what : WordsRead) (k : ErrorKind) → TellsAll kinds rows what → IsAmong k kinds → (k ≡ DisplayHelp → ⊥) → meaning.fault ≡ what
fault_in kinds rows meaning.help k t among other = absurd (other (kind_in kinds k DisplayHelp t among))
fault_in kinds rows meaning.fault k t among other = refl
fault_in kinds rows (meaning.read words) k t among other = absurd (subst (IsAmong k) t.0 among)

-- ---- the two outcomes of a parse

pub parsed : (app : App) (words : List Text) (m : ArgMatches) (flags : Flags) → app ≡ command_line → AreTexts words → HasMatchesOf app words m
    → (is_simple_and_free app ≡ true → fault_of app words ≡ []) → ((f : Flag) → IsFlag (one_text (found_of m) (flag_name f)) (has_flag f flags))
    → meaning.read (record { flags = flags; demo = first_value (found_of m) demo_id; plain = plain_of (rows_of (found_of m)) }) ≡ words_read words
parsed app words m flags is texts matches kinds are =
    let rows : rows_of (found_of m) ≡ matches_of command_line words =
    (matches (ap is_simple is ∙ simple)).0 ∙ ap (λ (a : App). matches_of a words) is in
    let none : fault_of command_line words ≡ [] =
    ap (λ (a : App). fault_of a words) (sym is) ∙ kinds (ap is_simple_and_free is ∙ free) in
    ap₂ (λ (d : Option Text) (p : List Text). meaning.read (record { flags = flags; demo = d; plain = p }))
    (first_value-rows (found_of m) demo_id ∙ ap (first_of demo_id) rows) (ap plain_of rows)
    ∙ read_of (fault_of command_line words) (matches_of command_line words) flags (words_read words) (tells words texts)
    (λ f. subst (λ o. IsFlag o (has_flag f flags)) (one_text-rows (found_of m) (flag_name f) ∙ ap (one_of (flag_name f)) rows) (are f)) none

refused_by : (app : App) (words : List Text) (e : Error) → app ≡ command_line → (is_simple_and_free app ≡ true → HasKind (fault_of app words) e)
    → HasKind (fault_of command_line words) e
refused_by app words e is kinds = subst (λ (a : App). HasKind (fault_of a words) e) is (kinds (ap is_simple_and_free is ∙ free))

pub helped : (app : App) (words : List Text) (e : Error) → app ≡ command_line → AreTexts words
    → (is_simple_and_free app ≡ true → HasKind (fault_of app words) e) → DisplayHelp ≡ kind_of e → meaning.help ≡ words_read words
helped app words e is texts kinds shown = elim (refused_by app words e is kinds) [
  | inl memory ↦ absurd (differ (shown ∙ memory))
  | inr among ↦ help_of (fault_of command_line words) (matches_of command_line words) (words_read words) (tells words texts)
      (subst (λ k. IsAmong k (fault_of command_line words)) (sym shown) among)
]
  where
    differ : DisplayHelp ≡ OutOfMemory → ⊥
    differ same = cc

pub faulted : (app : App) (words : List Text) (e : Error) → app ≡ command_line → AreTexts words
    → (is_simple_and_free app ≡ true → HasKind (fault_of app words) e) → (kind_of e ≡ DisplayHelp → ⊥) → (kind_of e ≡ OutOfMemory → ⊥)
    → meaning.fault ≡ words_read words
faulted app words e is texts kinds shown memory = elim (refused_by app words e is kinds) [
  | inl short ↦ absurd (memory short)
  | inr among ↦ fault_in (fault_of command_line words) (matches_of command_line words) (words_read words) (kind_of e) (tells words texts) among shown
]

-- the plain words as the matches have them
pub plain_found : (f : Found) (words : List (Bor Text)) → Some (map (λ s. s.now) words) ≡ option_map raw_values (matched_of f plain_id)
    → map (λ s. s.now) words ≡ plain_of (rows_of f)
plain_found f words is = ap (λ o. unwrap_or o []) (is ∙ raw_values-rows f plain_id)

pub none_found : (f : Found) → None ≡ option_map raw_values (matched_of f plain_id) → [] ≡ plain_of (rows_of f)
none_found f is = ap (λ o. unwrap_or o []) (is ∙ raw_values-rows f plain_id)
