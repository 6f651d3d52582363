-- One word of the walk, by its sort.
use Rattle.std.proofs.Common.{◌≡◌, ◌∙◌, ◌&&◌, inl, inr, ap, refl, sym, Bool, true, false, cond, List, [], ◌∷◌, ◌++◌, Some, None, codes, true≢false}
use Rattle.std.specs.Str as str
use Rattle.clap.specs.Walk.{Held, Row, Step, Text, Waiting, Walk, after_step, option, idle, positional, pushed, settled, settled_rows, subcommand_or_other, used, value, walked, positional_held, is_pending}
use Rattle.clap.specs.Faults.{flags_fault, other_fault, positional_fault, step_fault, turn_fault, use_fault}
use Rattle.clap.specs.Kinds.{Kinds, or_else}
use Rattle.clap.specs.declared.error.kind.ErrorKind.TheVariants as kind
use Rattle.meaning_words.specs.Words.{Flag, WordSort, stats, keep_going}
use Rattle.meaning_words.specs.Words as meaning
use Rattle.script_words.specs.CommandLine.{demo_id, flag_name, plain_id}
use Rattle.clap.specs.Walk.{has_row}
use Rattle.script_words.proofs.Line.{IsWrong, Pending, demo, flag, held, line, nothing_after, plain, rules, settling, standing, wrong_as, wrong_first}
use Rattle.script_words.proofs.Spelling.{IsPlain, IsRefused, IsSpelled}

abbrev pub turn : Walk → Text → Kinds
turn w word = turn_fault line [] w word

abbrev pub next : Walk → Text → Walk
next w word = walked rules [] w word

-- what the word is, before it goes to the plain words
abbrev met : List Row → Pending → Waiting → Text → Held × Step
met rows p waiting word = subcommand_or_other rules None waiting 1 word (held rows p)

turn_is : (rows : List Row) (p : Pending) (waiting : Waiting) (word : Text) → turn (standing rows p waiting false) word
    ≡ or_else (other_fault line None word (held rows p)) (step_fault line 1 (met rows p waiting word).0 (met rows p waiting word).1)
turn_is rows p idle word = refl
turn_is rows p (option id) word = refl
turn_is rows p positional word = refl

next_is : (rows : List Row) (p : Pending) (waiting : Waiting) (word : Text) → next (standing rows p waiting false) word
    ≡ after_step rules word (standing rows p waiting false) (met rows p waiting word).0 (met rows p waiting word).1
unfolding walked
next_is rows p idle word = refl
next_is rows p (option id) word = refl
next_is rows p positional word = refl

-- ---- what a word is refused for

-- what an option comes to once what was pending is settled
abbrev pub known_kinds : WordSort → List Row → Kinds
known_kinds meaning.asking rows = kind.DisplayHelp ∷ []
known_kinds (meaning.flag f) rows = use_fault false (flag f) [] rows
known_kinds (meaning.demo_with given) rows = use_fault false demo (given ∷ []) rows
known_kinds _ rows = []

abbrev pub is_known : WordSort → Bool
is_known meaning.asking = true
is_known (meaning.flag f) = true
is_known meaning.demo = true
is_known (meaning.demo_with given) = true
is_known _ = false

stops : (a b : Kinds) → or_else (or_else a (kind.DisplayHelp ∷ [])) b ≡ or_else a (kind.DisplayHelp ∷ [])
stops [] b = refl
stops (k ∷ ks) b = refl

settles_bundle : (more : Text) (rows : List Row) (p : Pending)
    → other_fault line None (45 ∷ 104 ∷ more) (held rows p) ≡ or_else (settling (held rows p)) (kind.DisplayHelp ∷ [])
unfolding flags_fault str.chars
settles_bundle [] rows p = stops (settling (held rows p)) _
settles_bundle (second ∷ more) rows p = stops (settling (held rows p)) _

settles : (s : WordSort) (word : Text) (rows : List Row) (p : Pending) → IsSpelled s word → is_known s ≡ true
    → other_fault line None word (held rows p) ≡ or_else (settling (held rows p)) (known_kinds s (settled_rows rules p rows))
settles meaning.asking word rows p (inl is) known = ap (λ w. other_fault line None w (held rows p)) is
settles meaning.asking word rows p (inr is) known = ap (λ w. other_fault line None w (held rows p)) is.1 ∙ settles_bundle is.0 rows p
settles (meaning.flag stats) word rows p is known = ap (λ w. other_fault line None w (held rows p)) is
settles (meaning.flag keep_going) word rows p is known = ap (λ w. other_fault line None w (held rows p)) is
settles meaning.demo word rows p is known = ap (λ w. other_fault line None w (held rows p)) is ∙ sym (nothing_after (settling (held rows p)))
settles (meaning.demo_with given) word rows p is known = ap (λ w. other_fault line None w (held rows p)) is
settles meaning.dashes word rows p is known = absurd (true≢false (sym known))
settles meaning.unknown word rows p is known = absurd (true≢false (sym known))
settles meaning.plain word rows p is known = absurd (true≢false (sym known))

-- an option where what is pending is wrong
pub known_in_wrong : (s : WordSort) (word : Text) (rows : List Row) (p : Pending) (waiting : Waiting) → IsSpelled s word → is_known s ≡ true
    → IsWrong (settling (held rows p)) → IsWrong (turn (standing rows p waiting false) word)
known_in_wrong s word rows p waiting is known wrong =
    wrong_as _ _ (turn_is rows p waiting word) (wrong_first _ _ (wrong_as _ _ (settles s word rows p is known) (wrong_first _ _ wrong)))

pub refused_turn : (word : Text) (rows : List Row) (p : Pending) (waiting : Waiting) → IsRefused word → IsWrong (turn (standing rows p waiting false) word)
refused_turn word rows p waiting refused = wrong_as _ _ (turn_is rows p waiting word) (wrong_first _ _ (refused rows p))

-- an option where what is pending is right
pub known_turn : (s : WordSort) (word : Text) (rows : List Row) (p : Pending) (waiting : Waiting) → IsSpelled s word → is_known s ≡ true
    → settling (held rows p) ≡ []
    → turn (standing rows p waiting false) word
    ≡ or_else (known_kinds s (settled_rows rules p rows)) (step_fault line 1 (met rows p waiting word).0 (met rows p waiting word).1)
known_turn s word rows p waiting is known right =
    turn_is rows p waiting word
    ∙ ap (λ a. or_else a (step_fault line 1 (met rows p waiting word).0 (met rows p waiting word).1))
    (settles s word rows p is known ∙ ap (λ a. or_else a (known_kinds s (settled_rows rules p rows))) right)

-- ---- the words that pass

pub dashes_turn : (word : Text) (rows : List Row) (p : Pending) (waiting : Waiting) → word ≡ codes "--" → turn (standing rows p waiting false) word ≡ []
dashes_turn word rows p waiting is = ap (turn (standing rows p waiting false)) is ∙ turn_is rows p waiting (codes "--")

pub dashes_next : (word : Text) (rows : List Row) (p : Pending) (waiting : Waiting) → word ≡ codes "--"
    → next (standing rows p waiting false) word ≡ standing rows p waiting true
dashes_next word rows p waiting is = ap (next (standing rows p waiting false)) is ∙ next_is rows p waiting (codes "--")

pub flag_turn : (f : Flag) (word : Text) (rows : List Row) (p : Pending) (waiting : Waiting) → word ≡ codes "--" ++ flag_name f → settling (held rows p) ≡ []
    → turn (standing rows p waiting false) word ≡ use_fault false (flag f) [] (settled_rows rules p rows)
flag_turn stats word rows p waiting is right =
    ap (turn (standing rows p waiting false)) is ∙ turn_is rows p waiting (codes "--stats")
    ∙ ap (λ a. or_else (or_else a (use_fault false (flag stats) [] (settled_rows rules p rows))) []) right
    ∙ nothing_after (use_fault false (flag stats) [] (settled_rows rules p rows))
flag_turn keep_going word rows p waiting is right =
    ap (turn (standing rows p waiting false)) is ∙ turn_is rows p waiting (codes "--keep-going")
    ∙ ap (λ a. or_else (or_else a (use_fault false (flag keep_going) [] (settled_rows rules p rows))) []) right
    ∙ nothing_after (use_fault false (flag keep_going) [] (settled_rows rules p rows))

pub flag_next : (f : Flag) (word : Text) (rows : List Row) (p : Pending) (waiting : Waiting) → word ≡ codes "--" ++ flag_name f
    → next (standing rows p waiting false) word ≡ standing (used (flag f) [] (settled_rows rules p rows)) None idle false
flag_next stats word rows p waiting is = ap (next (standing rows p waiting false)) is ∙ next_is rows p waiting (codes "--stats")
flag_next keep_going word rows p waiting is = ap (next (standing rows p waiting false)) is ∙ next_is rows p waiting (codes "--keep-going")

pub flag_fresh : (f : Flag) (rows : List Row) → has_row (flag_name f) rows ≡ false → use_fault false (flag f) [] rows ≡ []
flag_fresh stats rows none = rw none
flag_fresh keep_going rows none = rw none

pub flag_twice : (f : Flag) (rows : List Row) → has_row (flag_name f) rows ≡ true → IsWrong (use_fault false (flag f) [] rows)
flag_twice stats rows has = (kind.ArgumentConflict, rw has, λ e. cc)
flag_twice keep_going rows has = (kind.ArgumentConflict, rw has, λ e. cc)

pub demo_turn : (word : Text) (rows : List Row) (p : Pending) (waiting : Waiting) → word ≡ codes "--demo" → settling (held rows p) ≡ []
    → turn (standing rows p waiting false) word ≡ []
demo_turn word rows p waiting is right =
    ap (turn (standing rows p waiting false)) is ∙ turn_is rows p waiting (codes "--demo") ∙ ap (λ a. or_else a []) right

pub demo_next : (word : Text) (rows : List Row) (p : Pending) (waiting : Waiting) → word ≡ codes "--demo"
    → next (standing rows p waiting false) word ≡ standing (settled_rows rules p rows) (Some (demo_id, [])) (option demo_id) false
demo_next word rows p waiting is = ap (next (standing rows p waiting false)) is ∙ next_is rows p waiting (codes "--demo")

pub use_fresh : (given : Text) (rows : List Row) → has_row demo_id rows ≡ false → use_fault false demo (given ∷ []) rows ≡ []
use_fresh given rows none = rw none

pub use_twice : (given : Text) (rows : List Row) → has_row demo_id rows ≡ true → IsWrong (use_fault false demo (given ∷ []) rows)
use_twice given rows has = (kind.ArgumentConflict, rw has, λ e. cc)

pub with_turn : (word given : Text) (rows : List Row) (p : Pending) (waiting : Waiting) → word ≡ codes "--demo=" ++ given → settling (held rows p) ≡ []
    → turn (standing rows p waiting false) word ≡ use_fault false demo (given ∷ []) (settled_rows rules p rows)
with_turn word given rows p waiting is right =
    ap (turn (standing rows p waiting false)) is ∙ turn_is rows p waiting (codes "--demo=" ++ given)
    ∙ ap (λ a. or_else (or_else a (use_fault false demo (given ∷ []) (settled_rows rules p rows))) []) right
    ∙ nothing_after (use_fault false demo (given ∷ []) (settled_rows rules p rows))

pub with_next : (word given : Text) (rows : List Row) (p : Pending) (waiting : Waiting) → word ≡ codes "--demo=" ++ given
    → next (standing rows p waiting false) word ≡ standing (used demo (given ∷ []) (settled_rows rules p rows)) None idle false
with_next word given rows p waiting is = ap (next (standing rows p waiting false)) is ∙ next_is rows p waiting (codes "--demo=" ++ given)

-- ---- plain words

-- only an option waits for a value
abbrev pub IsFree : Waiting → Type 0
IsFree idle = Unit {0}
IsFree positional = Unit {0}
IsFree (option id) = ⊥

never_several : {X : Type 0} (b : Bool) (x y : X) → cond (b && false) x y ≡ y
never_several true x y = refl
never_several false x y = refl

plain_fault : (word : Text) (rows : List Row) (p : Pending) → IsPlain word → other_fault line None word (held rows p) ≡ []
plain_fault word rows p is = rw (is.not_dashes, is.not_long, is.not_short)

plain_met : (word : Text) (rows : List Row) (p : Pending) (waiting : Waiting) → IsFree waiting → IsPlain word → met rows p waiting word ≡ (held rows p, value)
plain_met word rows p idle free is = rw (is.not_dashes, is.not_long, is.not_short)
plain_met word rows p positional free is = rw (is.not_dashes, is.not_long, is.not_short)
plain_met word rows p (option id) free is = absurd free

to_plain : (rows : List Row) (p : Pending) → positional_fault rules false plain (held rows p) ≡ settling (held rows p)
to_plain rows p = never_several (is_pending plain p) _ _

pub plain_turn : (word : Text) (rows : List Row) (p : Pending) (waiting : Waiting) → IsFree waiting → IsPlain word
    → turn (standing rows p waiting false) word ≡ settling (held rows p)
plain_turn word rows p waiting free is =
    turn_is rows p waiting word
    ∙ ap (λ a. or_else a (step_fault line 1 (met rows p waiting word).0 (met rows p waiting word).1)) (plain_fault word rows p is)
    ∙ ap (λ (m : Held × Step). step_fault line 1 m.0 m.1) (plain_met word rows p waiting free is)
    ∙ to_plain rows p

-- the state after a plain word
abbrev pub after_plain : List Row → Pending → Text → Bool → Walk
after_plain rows p word is_trailing = standing (settled_rows rules p rows) (Some (plain_id, word ∷ [])) positional is_trailing

taken : (rows : List Row) (p : Pending) (word : Text) → positional_held rules plain word (held rows p)
    ≡ held (settled_rows rules p rows) (Some (plain_id, word ∷ []))
taken rows p word = ap (λ h. pushed plain_id word h) (never_several (is_pending plain p) (held rows p) (settled rules (held rows p)))

pub plain_next : (word : Text) (rows : List Row) (p : Pending) (waiting : Waiting) → IsFree waiting → IsPlain word
    → next (standing rows p waiting false) word ≡ after_plain rows p word false
plain_next word rows p waiting free is =
    next_is rows p waiting word
    ∙ ap (λ (m : Held × Step). after_step rules word (standing rows p waiting false) m.0 m.1) (plain_met word rows p waiting free is)
    ∙ ap (λ (h : Held). record (after_plain rows p word false) { held = h }) (taken rows p word)

pub trailing_turn : (word : Text) (rows : List Row) (p : Pending) (waiting : Waiting) → turn (standing rows p waiting true) word ≡ settling (held rows p)
trailing_turn word rows p waiting = to_plain rows p

pub trailing_next : (word : Text) (rows : List Row) (p : Pending) (waiting : Waiting) → next (standing rows p waiting true) word ≡ after_plain rows p word true
unfolding walked
trailing_next word rows p waiting = ap (λ (h : Held). record (after_plain rows p word true) { held = h }) (taken rows p word)

-- a plain word is the value that `--demo` waits for
abbrev pub awaiting : List Row → Walk
awaiting rows = standing rows (Some (demo_id, [])) (option demo_id) false

pub value_turn : (word : Text) (rows : List Row) → IsPlain word → turn (awaiting rows) word ≡ []
value_turn word rows is =
    turn_is rows (Some (demo_id, [])) (option demo_id) word
    ∙ ap (λ a. or_else a (step_fault line 1 (met rows (Some (demo_id, [])) (option demo_id) word).0 (met rows (Some (demo_id, [])) (option demo_id) word).1)) (plain_fault word rows (Some (demo_id, [])) is)
    ∙ rw (is.not_dashes, is.not_long, is.not_short)

pub value_next : (word : Text) (rows : List Row) → IsPlain word → next (awaiting rows) word ≡ standing rows (Some (demo_id, word ∷ [])) idle false
value_next word rows is = next_is rows (Some (demo_id, [])) (option demo_id) word ∙ rw (is.not_dashes, is.not_long, is.not_short)
