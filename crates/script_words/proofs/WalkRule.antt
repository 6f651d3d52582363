-- The walk of `clap` over the words comes to what the rule for them says.
use Rattle.std.proofs.Common.{◌≡◌, ◌∙◌, ◌||◌, ap, refl, sym, subst, true, false, List, [], ◌∷◌, ◌++◌, Option, Some, None, codes, drop, fold, is_some, IsUtf8, append_assoc, append-nil, true≢false, subst₂, eqb-true, arith}
use Rattle.std.proofs.lemmas.Bool.{and_parts, cond-true, cond_both, or_right}
use Rattle.std.specs.List.{list_all}
use Rattle.clap.specs.declared.builder.value_parser.Reading.{Reading}
use Rattle.clap.specs.Walk.{Row, Text, Waiting, Walk, has_row, idle, nothing_held, option, positional, settled, settled_rows, used, walk, walked, with_default, default_rows, is_empty, reading_by, Rule}
use Rattle.clap.specs.Faults.{defaults_fault, fault_of, given_default_fault, walk_fault, level_fault, entered_fault, default_fault}
use Rattle.clap.specs.Simple.{App, entered, matches_of}
use Rattle.clap.specs.Kinds.{Kinds, or_else}
use Rattle.clap.specs.declared.error.kind.ErrorKind.TheVariants as kind
use Rattle.meaning_words.specs.Words.{Flag, WordSort, Words, has_flag, keep_going, stats, with_flag, WordsRead, is_option, no_words, read_after, read_as, sort_of, words_read}
use Rattle.meaning_words.specs.Words as meaning
use Rattle.script_words.specs.CommandLine.{command_line, demo_id, flag_name, plain_id}
use Rattle.script_words.proofs.Line.{IsWrong, Pending, demo, fault_from, flag, held, help, line, nothing_after, plain, rows_from, rules, settling, standing, wrong_as, wrong_first}
use Rattle.script_words.proofs.Rows.{Holds, HoldsAll, adds_demo, adds_flag, adds_plain, has_demo, has_set, holds_none, with_defaults, with_flags}
use Rattle.script_words.proofs.Spelling.{IsPlain, IsSpelled, plain_from, spelled}
use Rattle.script_words.proofs.Turns.{IsFree, after_plain, awaiting, dashes_next, dashes_turn, demo_next, demo_turn, flag_fresh, flag_next, flag_turn, flag_twice, known_in_wrong, known_turn, next, plain_next, plain_turn, refused_turn, trailing_next, trailing_turn, turn, use_fresh, use_twice, value_next, value_turn, with_next, with_turn}

-- what the kinds and the rows at the end of a walk say
abbrev pub Tells : Kinds → List Row → WordsRead → Type 0
Tells kinds rows meaning.help = kinds ≡ kind.DisplayHelp ∷ []
Tells kinds rows meaning.fault = IsWrong kinds
Tells kinds rows (meaning.read words) = (kinds ≡ []) × Holds rows words

abbrev pub AreTexts : List Text → Type 0
AreTexts [] = Unit {0}
AreTexts (word ∷ more) = IsUtf8 word × AreTexts more

-- ---- one word more

abbrev TellsOf : Walk → List Text → WordsRead → Type 0
TellsOf w words what = Tells (fault_from w words) (rows_from w words) what

goes_on : (w w' : Walk) (word : Text) (more : List Text) (what : WordsRead) → turn w word ≡ [] → next w word ≡ w' → TellsOf w' more what → TellsOf w (word ∷ more) what
unfolding walk_fault
goes_on w w' word more what quiet steps h =
    let same : fault_from w (word ∷ more) ≡ fault_from (next w word) more =
    ap (λ k. or_else (or_else k (walk_fault line [] (next w word) more)) (settling (fold (walked rules []) (next w word) more).held)) quiet in
    subst (λ k. Tells k (rows_from (next w word) more) what) (sym same) (subst (λ x. TellsOf x more what) (sym steps) h)

helps : (w : Walk) (word : Text) (more : List Text) → turn w word ≡ kind.DisplayHelp ∷ [] → fault_from w (word ∷ more) ≡ kind.DisplayHelp ∷ []
unfolding walk_fault
helps w word more is =
    ap (λ k. or_else (or_else k (walk_fault line [] (next w word) more)) (settling (fold (walked rules []) (next w word) more).held)) is

refuses : (w : Walk) (word : Text) (more : List Text) → IsWrong (turn w word) → IsWrong (fault_from w (word ∷ more))
unfolding walk_fault
refuses w word more wrong = wrong_first _ _ (wrong_first _ _ wrong)

ends : (w : Walk) → fault_from w [] ≡ settling w.held
unfolding walk_fault
ends w = refl

-- ---- once what is pending is wrong, no word mends it

lost_trailing : (words : List Text) (rows : List Row) (p : Pending) (waiting : Waiting) → IsWrong (settling (held rows p))
    → IsWrong (fault_from (standing rows p waiting true) words)
lost_trailing [] rows p waiting wrong = wrong_as _ _ (ends (standing rows p waiting true)) wrong
lost_trailing (word ∷ more) rows p waiting wrong = refuses (standing rows p waiting true) word more (wrong_as _ _ (trailing_turn word rows p waiting) wrong)

lost_at_dashes : (word : Text) (more : List Text) (rows : List Row) (p : Pending) (waiting : Waiting) → word ≡ codes "--" → IsWrong (settling (held rows p))
    → IsWrong (fault_from (standing rows p waiting false) (word ∷ more))
lost_at_dashes word more rows p waiting is wrong =
    goes_on (standing rows p waiting false) (standing rows p waiting true) word more meaning.fault
    (dashes_turn word rows p waiting is) (dashes_next word rows p waiting is) (lost_trailing more rows p waiting wrong)

lost_at : (s : WordSort) (word : Text) (more : List Text) (rows : List Row) (p : Pending) (waiting : Waiting) → IsSpelled s word → IsWrong (settling (held rows p))
    → (IsPlain word → IsWrong (fault_from (standing rows p waiting false) (word ∷ more))) → IsWrong (fault_from (standing rows p waiting false) (word ∷ more))
lost_at meaning.asking word more rows p waiting is wrong plainly = refuses (standing rows p waiting false) word more (known_in_wrong meaning.asking word rows p waiting is refl wrong)
lost_at (meaning.flag f) word more rows p waiting is wrong plainly = refuses (standing rows p waiting false) word more (known_in_wrong (meaning.flag f) word rows p waiting is refl wrong)
lost_at meaning.demo word more rows p waiting is wrong plainly = refuses (standing rows p waiting false) word more (known_in_wrong meaning.demo word rows p waiting is refl wrong)
lost_at (meaning.demo_with given) word more rows p waiting is wrong plainly =
    refuses (standing rows p waiting false) word more (known_in_wrong (meaning.demo_with given) word rows p waiting is refl wrong)
lost_at meaning.dashes word more rows p waiting is wrong plainly = lost_at_dashes word more rows p waiting is wrong
lost_at meaning.unknown word more rows p waiting is wrong plainly = refuses (standing rows p waiting false) word more (refused_turn word rows p waiting is.1)
lost_at meaning.plain word more rows p waiting is wrong plainly = plainly is

lost_idle : (words : List Text) → AreTexts words → (rows : List Row) (p : Pending) → IsWrong (settling (held rows p)) → IsWrong (fault_from (standing rows p idle false) words)
lost_idle [] texts rows p wrong = wrong_as _ _ (ends (standing rows p idle false)) wrong
lost_idle (word ∷ more) texts rows p wrong = lost_at (sort_of word) word more rows p idle (spelled word texts.0) wrong
    (λ is. refuses (standing rows p idle false) word more (wrong_as _ _ (plain_turn word rows p idle tt is) wrong))

no_value : (rows : List Row) → IsWrong (settling (held rows (Some (demo_id, []))))
no_value rows = (kind.InvalidValue, refl, λ e. cc)

-- `--demo` a second time
lost_awaiting : (words : List Text) → AreTexts words → (rows : List Row) → has_row demo_id rows ≡ true → IsWrong (fault_from (awaiting rows) words)
lost_awaiting [] texts rows has = wrong_as _ _ (ends (awaiting rows)) (no_value rows)
lost_awaiting (word ∷ more) texts rows has = lost_at (sort_of word) word more rows (Some (demo_id, [])) (option demo_id) (spelled word texts.0) (no_value rows)
    (λ is. goes_on (awaiting rows) (standing rows (Some (demo_id, word ∷ [])) idle false) word more meaning.fault
    (value_turn word rows is) (value_next word rows is) (lost_idle more texts.1 rows (Some (demo_id, word ∷ [])) (use_twice word rows has)))

-- ---- the words, one after another

-- what is pending is right, and with it the walk has found what was read
abbrev IsRight : List Row → Pending → Words → Type 0
IsRight rows p before = (settling (held rows p) ≡ []) × Holds (settled_rows rules p rows) before

right_after_plain : (rows : List Row) (p : Pending) (before : Words) (word : Text) → IsRight rows p before
    → IsRight (settled_rows rules p rows) (Some (plain_id, word ∷ [])) (record before { plain = before.plain ++ word ∷ [] })
right_after_plain rows p before word right = (refl, adds_plain (settled_rows rules p rows) before word right.1)

trailing : (words : List Text) (before : Words) (rows : List Row) (p : Pending) (waiting : Waiting) → IsRight rows p before
    → TellsOf (standing rows p waiting true) words (meaning.read (record before { plain = before.plain ++ words }))
trailing [] before rows p waiting right = (
  ends (standing rows p waiting true) ∙ right.0,
  record { flags = right.1.flags; demo = right.1.demo; plain = right.1.plain ∙ sym (append-nil before.plain) },
)
trailing (word ∷ more) before rows p waiting right =
    goes_on (standing rows p waiting true) (after_plain rows p word true) word more (meaning.read (record before { plain = before.plain ++ word ∷ more }))
    (trailing_turn word rows p waiting ∙ right.0) (trailing_next word rows p waiting)
    (subst (λ l. TellsOf (after_plain rows p word true) more (meaning.read (record before { plain = l }))) (append_assoc before.plain (word ∷ []) more)
    (trailing more (record before { plain = before.plain ++ word ∷ [] }) (settled_rows rules p rows) (Some (plain_id, word ∷ [])) positional
    (right_after_plain rows p before word right)))

abbrev ReadsOn : List Text → Type 0
ReadsOn words = (before : Words) (rows : List Row) (p : Pending) (waiting : Waiting) → IsFree waiting → IsRight rows p before
    → TellsOf (standing rows p waiting false) words (read_after before false words)

abbrev ReadsValue : List Text → Type 0
ReadsValue words = (before : Words) (rows : List Row) → is_some before.demo ≡ false → Holds rows before
    → TellsOf (awaiting rows) words (read_after before true words)

module _ (word : Text) (more : List Text) (texts : AreTexts more) (on : ReadsOn more) (awaits : ReadsValue more) where
  reads_word : (s : WordSort) → IsSpelled s word → (before : Words) (rows : List Row) (p : Pending) (waiting : Waiting) → IsFree waiting → IsRight rows p before
      → TellsOf (standing rows p waiting false) (word ∷ more) (read_as s before word more (λ before' awaited. read_after before' awaited more))
  reads_word meaning.asking is before rows p waiting free right =
      helps (standing rows p waiting false) word more (known_turn meaning.asking word rows p waiting is refl right.0)
  reads_word (meaning.flag f) is before rows p waiting free right =
      let found = has_set f (settled_rows rules p rows) before right.1 in
      let after : Words = record before { flags = with_flag f before.flags } in
      cond_both (has_flag f before.flags) meaning.fault (read_after after false more) (TellsOf (standing rows p waiting false) (word ∷ more))
      (λ again. refuses (standing rows p waiting false) word more
      (wrong_as _ _ (flag_turn f word rows p waiting is right.0) (flag_twice f (settled_rows rules p rows) (found ∙ again))))
      (λ first. goes_on (standing rows p waiting false) (standing (used (flag f) [] (settled_rows rules p rows)) None idle false) word more (read_after after false more)
      (flag_turn f word rows p waiting is right.0 ∙ flag_fresh f (settled_rows rules p rows) (found ∙ first)) (flag_next f word rows p waiting is)
      (on after (used (flag f) [] (settled_rows rules p rows)) None idle tt
      (refl, adds_flag f (settled_rows rules p rows) before right.1 first)))
  reads_word meaning.demo is before rows p waiting free right =
      let found = has_demo (settled_rows rules p rows) before right.1 in
      cond_both (is_some before.demo) meaning.fault (read_after before true more) (TellsOf (standing rows p waiting false) (word ∷ more))
      (λ again. goes_on (standing rows p waiting false) (awaiting (settled_rows rules p rows)) word more meaning.fault
      (demo_turn word rows p waiting is right.0) (demo_next word rows p waiting is) (lost_awaiting more texts (settled_rows rules p rows) (found ∙ again)))
      (λ first. goes_on (standing rows p waiting false) (awaiting (settled_rows rules p rows)) word more (read_after before true more)
      (demo_turn word rows p waiting is right.0) (demo_next word rows p waiting is) (awaits before (settled_rows rules p rows) first right.1))
  reads_word (meaning.demo_with given) is before rows p waiting free right =
      let found = has_demo (settled_rows rules p rows) before right.1 in
      cond_both (is_some before.demo) meaning.fault (read_after (record before { demo = Some given }) false more) (TellsOf (standing rows p waiting false) (word ∷ more))
      (λ again. refuses (standing rows p waiting false) word more
      (wrong_as _ _ (with_turn word given rows p waiting is right.0) (use_twice given (settled_rows rules p rows) (found ∙ again))))
      (λ first. goes_on (standing rows p waiting false) (standing (used demo (given ∷ []) (settled_rows rules p rows)) None idle false) word more (read_after (record before { demo = Some given }) false more)
      (with_turn word given rows p waiting is right.0 ∙ use_fresh given (settled_rows rules p rows) (found ∙ first)) (with_next word given rows p waiting is)
      (on (record before { demo = Some given }) (used demo (given ∷ []) (settled_rows rules p rows)) None idle tt
      (refl, adds_demo (settled_rows rules p rows) before given right.1 first)))
  reads_word meaning.dashes is before rows p waiting free right =
      goes_on (standing rows p waiting false) (standing rows p waiting true) word more (meaning.read (record before { plain = before.plain ++ more }))
      (dashes_turn word rows p waiting is) (dashes_next word rows p waiting is) (trailing more before rows p waiting right)
  reads_word meaning.unknown is before rows p waiting free right =
      refuses (standing rows p waiting false) word more (refused_turn word rows p waiting is.1)
  reads_word meaning.plain is before rows p waiting free right =
      goes_on (standing rows p waiting false) (after_plain rows p word false) word more (read_after (record before { plain = before.plain ++ word ∷ [] }) false more)
      (plain_turn word rows p waiting free is ∙ right.0) (plain_next word rows p waiting free is)
      (on (record before { plain = before.plain ++ word ∷ [] }) (settled_rows rules p rows) (Some (plain_id, word ∷ [])) positional tt
      (right_after_plain rows p before word right))

  reads_value : IsUtf8 word → ReadsValue (word ∷ more)
  reads_value text before rows fresh h =
      let found = has_demo rows before h in
      cond_both (is_option word) meaning.fault (read_after (record before { demo = Some word }) false more) (TellsOf (awaiting rows) (word ∷ more))
      (λ is. lost_at (sort_of word) word more rows (Some (demo_id, [])) (option demo_id) (spelled word text) (no_value rows)
      (λ plainly. absurd (true≢false (sym is ∙ plainly.not_option))))
      (λ never. let is = plain_from word never in
      goes_on (awaiting rows) (standing rows (Some (demo_id, word ∷ [])) idle false) word more (read_after (record before { demo = Some word }) false more)
      (value_turn word rows is) (value_next word rows is)
      (on (record before { demo = Some word }) rows (Some (demo_id, word ∷ [])) idle tt
      (use_fresh word rows (found ∙ fresh), adds_demo rows before word h fresh)))

reads : (words : List Text) → AreTexts words → ReadsOn words × ReadsValue words
reads [] texts = (
  λ before rows p waiting free right. (ends (standing rows p waiting false) ∙ right.0, right.1),
  λ before rows fresh h. wrong_as _ _ (ends (awaiting rows)) (no_value rows),
)
reads (word ∷ more) texts =
    let rest = reads more texts.1 in (
      λ before rows p waiting free right. reads_word word more texts.1 rest.0 rest.1 (sort_of word) (spelled word texts.0) before rows p waiting free right,
      reads_value word more texts.1 rest.0 rest.1 texts.0,
    )

-- ---- the whole of a parse

-- the arguments but for the flags have no default
abbrev others : List Rule
others = demo ∷ plain ∷ help ∷ []

abbrev HaveNoDefaults : List Rule → Type 0
HaveNoDefaults ds = list_all (λ a. is_empty a.defaults) ds ≡ true

quiet_default : (d : Rule) (rows : List Row) → is_empty d.defaults ≡ true → default_fault rows d ≡ []
quiet_default d rows none = cond-true _ _ _ (or_right (has_row d.id rows) _ none)

quiet_defaults : (ds : List Rule) (rows : List Row) → HaveNoDefaults ds → defaults_fault rows ds ≡ []
unfolding defaults_fault
quiet_defaults [] rows none = refl
quiet_defaults (d ∷ ds) rows none =
    let both = and_parts _ _ none in
    ap (λ k. or_else k (defaults_fault (with_default rows d) ds)) (quiet_default d rows both.0) ∙ quiet_defaults ds (with_default rows d) both.1

no_default_rows : (id : Text) (how : Reading) (values : List Text) (rows : List Row) → is_empty values ≡ true → default_rows id how values rows ≡ rows
no_default_rows id how [] rows none = refl
no_default_rows id how (v ∷ vs) rows none = absurd (omega (arith, eqb-true _ _ none))

kept_rows : (ds : List Rule) (rows : List Row) → HaveNoDefaults ds → fold with_default rows ds ≡ rows
kept_rows [] rows none = refl
kept_rows (d ∷ ds) rows none =
    let both = and_parts _ _ none in
    ap (λ r. fold with_default r ds) (cond_both (has_row d.id rows) rows (default_rows d.id (reading_by d) d.defaults rows) (λ x. x ≡ rows) (λ _. refl)
    (λ _. no_default_rows d.id (reading_by d) d.defaults rows both.0)) ∙ kept_rows ds rows both.1

-- the default of a flag is no fault
quiet_flag : (f : Flag) (rows : List Row) → default_fault rows (flag f) ≡ []
quiet_flag stats rows = cond_both (has_row (flag_name stats) rows || is_empty (flag stats).defaults) [] (given_default_fault (flag stats) (flag stats).defaults) (λ x. x ≡ []) (λ _. refl) (λ _. refl)
quiet_flag keep_going rows =
    cond_both (has_row (flag_name keep_going) rows || is_empty (flag keep_going).defaults) [] (given_default_fault (flag keep_going) (flag keep_going).defaults) (λ x. x ≡ []) (λ _. refl) (λ _. refl)

quiet_rules : (rows : List Row) → defaults_fault rows rules ≡ []
unfolding defaults_fault
quiet_rules rows =
    ap (λ k. or_else k (defaults_fault (with_default rows (flag stats)) (flag keep_going ∷ others))) (quiet_flag stats rows)
    ∙ ap (λ k. or_else k (defaults_fault (with_defaults rows) others)) (quiet_flag keep_going (with_default rows (flag stats)))
    ∙ quiet_defaults others (with_defaults rows) refl

abbrev start : Walk
start = standing [] None idle false

abbrev top : App
top = record { top = line; subs = [] }

no_level_below : (stop : Option (Text × List Text)) (words : List Text)
    → level_fault line [] nothing_held words (is_some (entered top stop)) (entered_fault top stop) ≡ level_fault line [] nothing_held words false []
no_level_below None words = refl
no_level_below (Some p) words = refl

level_is : (words : List Text) → level_fault line [] nothing_held words false [] ≡ fault_from start words
level_is words =
    let end = (fold (walked rules []) start words).held in
    ap (or_else (walk_fault line [] start words))
    (ap (λ k. or_else (settling end) (or_else k [])) (quiet_rules (settled rules end).rows) ∙ nothing_after (settling end))

fault_is : (words : List Text) → fault_of command_line words ≡ fault_from start (drop 1 words)
fault_is words = no_level_below (walk rules [] nothing_held (drop 1 words)).stopped (drop 1 words) ∙ level_is (drop 1 words)

rows_are : (words : List Text) → matches_of command_line words ≡ with_defaults (rows_from start (drop 1 words))
rows_are words = kept_rows others (with_defaults (rows_from start (drop 1 words))) refl

-- the same once the flags have their defaults
abbrev pub TellsAll : Kinds → List Row → WordsRead → Type 0
TellsAll kinds rows meaning.help = kinds ≡ kind.DisplayHelp ∷ []
TellsAll kinds rows meaning.fault = IsWrong kinds
TellsAll kinds rows (meaning.read words) = (kinds ≡ []) × HoldsAll rows words

all_told : (kinds : Kinds) (rows : List Row) (what : WordsRead) → Tells kinds rows what → TellsAll kinds (with_defaults rows) what
all_told kinds rows meaning.help t = t
all_told kinds rows meaning.fault t = t
all_told kinds rows (meaning.read words) t = (t.0, with_flags rows words t.1)

told : (words : List Text) (what : WordsRead) → TellsOf start (drop 1 words) what → TellsAll (fault_of command_line words) (matches_of command_line words) what
told words what h = subst₂ (λ k rows. TellsAll k rows what) (sym (fault_is words)) (sym (rows_are words)) (all_told _ _ what h)

-- what the parse comes to is what the rule says of the words
pub tells : (words : List Text) → AreTexts words → TellsAll (fault_of command_line words) (matches_of command_line words) (words_read words)
tells [] texts = told [] (words_read []) ((reads [] tt).0 no_words [] None idle tt (refl, holds_none))
tells (program ∷ more) texts = told (program ∷ more) (words_read (program ∷ more)) ((reads more texts.1).0 no_words [] None idle tt (refl, holds_none))
