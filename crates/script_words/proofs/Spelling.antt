-- How a word of each sort is spelled, and what `clap` makes of it.
use Rattle.std.proofs.Common.{◌≡◌, ◌≢◌, ◌∙◌, ◌⊎◌, ◌==◌, ◌||◌, ℕ, inl, inr, ap, refl, sym, subst, arith, Bool, true, false, cond, List, [], ◌∷◌, ◌++◌, length, take, drop, Some, None, codes, IsUtf8, encode_utf8_all, encode_utf8, slice_get, chars, true≢false, suc, ◌+◌, append-nil, get_or}
use Rattle.std.specs.List.{before_first, after_first, position_or_len}
use Rattle.std.specs.Str as str
use Rattle.std.proofs.lemmas.Bool.{and_parts, cond_both, cases_eq, cases_Bool, false_from_ne_true, ne_eqb, lt-ltb, eqb-true}
use Rattle.std.proofs.lemmas.List.{take-append-drop}
use Rattle.std.proofs.lemmas.Slice.Eq.{bytes_eq-Decides}
use Rattle.std.proofs.lemmas.Str.{encode_ascii, encodes-chars}
use Rattle.clap.specs.Faults.{bundle_fault, bundle_step_fault, flags_fault, long_fault, other_fault}
use Rattle.clap.specs.Lexer.{has_byte, long_of, short_of}
use Rattle.clap.specs.Walk.{Held, Row, Text}
use Rattle.clap.specs.declared.error.kind.ErrorKind.TheVariants as kind
use Rattle.meaning_words.specs.Words.{WordSort, begins, is_option, keep_going, sort_of, stats}
use Rattle.meaning_words.specs.Words as meaning
use Rattle.script_words.specs.CommandLine.{flag_name}
use Rattle.script_words.proofs.Line.{IsWrong, Pending, demo, flag, held, help, line, rules}

-- `clap` refuses the word
abbrev pub IsRefused : Text → Type 0
IsRefused word = (rows : List Row) (p : Pending) → IsWrong (other_fault line None word (held rows p))

-- `clap` sees no option in the word
pub record IsPlain (word : Text) : Type 0 where
  pub not_option : is_option word ≡ false
  pub not_dashes : str.bytes_eq word (45 ∷ 45 ∷ []) ≡ false
  pub not_long : long_of word ≡ None
  pub not_short : short_of word ≡ None

abbrev pub IsSpelled : WordSort → Text → Type 0
IsSpelled meaning.asking word = (word ≡ codes "--help") ⊎ ((more : Text) × (word ≡ 45 ∷ 104 ∷ more))
IsSpelled (meaning.flag f) word = word ≡ codes "--" ++ flag_name f
IsSpelled meaning.demo word = word ≡ codes "--demo"
IsSpelled (meaning.demo_with value) word = word ≡ codes "--demo=" ++ value
IsSpelled meaning.dashes word = word ≡ codes "--"
IsSpelled meaning.unknown word = (is_option word ≡ true) × IsRefused word
IsSpelled meaning.plain word = IsPlain word

nil_differs : (first : ℕ) (more : Text) → [] ≡ first ∷ more → ⊥
nil_differs first more e = cc

-- a text that begins with `h`
head_is : (first : ℕ) (more after : Text) → (x : ℕ) → encode_utf8 x ++ after ≡ first ∷ more → x ≡ 104 → first ≡ 104
head_is first more after x e is =
    let h : 104 ∷ after ≡ first ∷ more = rw (is, encode_ascii 104 (omega arith)) at e in
    sym (ap (λ l. get_or l 0 0) h)

same_is : (a b : Text) → str.bytes_eq a b ≡ true → a ≡ b
same_is a b e = (bytes_eq-Decides a b).0 e

begins_is : (front word : Text) → begins front word ≡ true → word ≡ front ++ drop (length front) word
begins_is front word e =
    sym (take-append-drop (length front) word) ∙ ap (λ f. f ++ drop (length front) word) (sym (same_is front _ e))

-- ---- plain words

is_plain_but : (first : ℕ) (more : Text) → first ≢ 45 → IsPlain (first ∷ more)
is_plain_but first more other =
    let not_dash : (first == 45) ≡ false = ne_eqb first 45 other in
    let not_minus : (45 == first) ≡ false = ne_eqb 45 first (λ e. other (sym e)) in
    record {
      not_option = rw not_minus;
      not_dashes = rw not_dash;
      not_long = rw not_dash;
      not_short = rw not_dash;
    }

option_of_two : (second : ℕ) (more : Text) → is_option (45 ∷ second ∷ more) ≡ true
option_of_two second more = lt-ltb 1 (length (45 ∷ second ∷ more)) (omega arith)

pub plain_from : (word : Text) → is_option word ≡ false → IsPlain word
plain_from [] none = record { not_option = none; not_dashes = refl; not_long = refl; not_short = refl }
plain_from (first ∷ more) none = elim (cases_eq first 45) [
  | inr other ↦ is_plain_but first more other
  | inl is ↦ subst (λ n. is_option (n ∷ more) ≡ false → IsPlain (n ∷ more)) (sym is) (alone more) none
]
  where
    alone : (more : Text) → is_option (45 ∷ more) ≡ false → IsPlain (45 ∷ more)
    alone [] none = record { not_option = none; not_dashes = refl; not_long = refl; not_short = refl }
    alone (second ∷ more) none = absurd (true≢false (sym (option_of_two second more) ∙ none))

-- ---- unknown options

-- a byte more before the first `=`
one_before : (first n : ℕ) (more : Text) (has : Bool) → more ≡ take n more ++ cond has (61 ∷ drop (n + 1) more) []
    → first ∷ more ≡ take (1 + n) (first ∷ more) ++ cond has (61 ∷ drop (1 + n + 1) (first ∷ more)) []
one_before first n more has whole =
    let one : 1 + n ≡ suc n = omega arith in
    let two : 1 + n + 1 ≡ suc (n + 1) = omega arith in
    rw (two, one) (ap (λ t. first ∷ t) whole)

-- a text is its name, and `=` and its value where it has one
parts : (text : Text) → text ≡ before_first (λ x. x == 61) text ++ cond (has_byte 61 text) (61 ∷ after_first (λ x. x == 61) text) []
parts [] = refl
parts (first ∷ more) = elim (cases_Bool (first == 61)) [
  | inl is ↦ rw is (ap (λ n. n ∷ more) (eqb-true first 61 is))
  | inr other ↦ rw other (one_before first (position_or_len (λ x. x == 61) more) more (has_byte 61 more) (parts more))
]

-- a text with this name is the name alone, or has a value
named : (text name : Text) → before_first (λ x. x == 61) text ≡ name
    → (text ≡ name) ⊎ ((has_byte 61 text ≡ true) × (text ≡ name ++ 61 ∷ after_first (λ x. x == 61) text))
named text name is = elim (cases_Bool (has_byte 61 text)) [
  | inl has ↦ inr (has, rw has at (parts text) ∙ ap (λ t. t ++ 61 ∷ after_first (λ x. x == 61) text) is)
  | inr none ↦ inl (rw none at (parts text) ∙ append-nil _ ∙ is)
]

-- What the name of an option is, of which the option for the value isn't one: a flag or the call for help, which then has a value, or none of them.
long_refused : (has is_stats is_keep is_demo is_help : Bool) (value : Text) (h : Held) → (is_stats ≡ true → has ≡ true) → (is_keep ≡ true → has ≡ true) → is_demo ≡ false → (is_help ≡ true → has ≡ true)
    → IsWrong (long_fault rules false (cond (is_stats || false) (Some (flag stats)) (cond (is_keep || false) (Some (flag keep_going)) (cond (is_demo || false) (Some demo) (cond (is_help || false) (Some help) None)))) (cond has (Some value) None) h)
long_refused true true is_keep is_demo is_help value h flagged kept other only = (kind.TooManyValues, refl, λ e. cc)
long_refused false true is_keep is_demo is_help value h flagged kept other only = absurd (true≢false (sym (flagged refl)))
long_refused true false true is_demo is_help value h flagged kept other only = (kind.TooManyValues, refl, λ e. cc)
long_refused false false true is_demo is_help value h flagged kept other only = absurd (true≢false (sym (kept refl)))
long_refused has false false true is_help value h flagged kept other only = absurd (true≢false other)
long_refused has false false false false value h flagged kept other only = (kind.UnknownArgument, refl, λ e. cc)
long_refused true false false false true value h flagged kept other only = (kind.TooManyValues, refl, λ e. cc)
long_refused false false false false true value h flagged kept other only = absurd (true≢false (sym (only refl)))

unknown_long : (first : ℕ) (more : Text) → (first ∷ more ≡ codes "help" → ⊥) → (first ∷ more ≡ codes "stats" → ⊥) → (first ∷ more ≡ codes "keep-going" → ⊥) → (first ∷ more ≡ codes "demo" → ⊥)
    → ((value : Text) → first ∷ more ≡ codes "demo=" ++ value → ⊥) → IsRefused (45 ∷ 45 ∷ first ∷ more)
unknown_long first more help_not stats_not keep_not demo_not value_not rows p =
    let text : Text = first ∷ more in
    let name : Text = before_first (λ x. x == 61) text in
    let value : Text = after_first (λ x. x == 61) text in
    long_refused (has_byte 61 text) (str.bytes_eq (codes "stats") name) (str.bytes_eq (codes "keep-going") name) (str.bytes_eq (codes "demo") name) (str.bytes_eq (codes "help") name) value (held rows p)
    (λ e. elim (named text (codes "stats") (sym (same_is _ _ e))) [ inl alone ↦ absurd (stats_not alone) | inr with ↦ with.0 ])
    (λ e. elim (named text (codes "keep-going") (sym (same_is _ _ e))) [ inl alone ↦ absurd (keep_not alone) | inr with ↦ with.0 ])
    (false_from_ne_true _ (λ e. elim (named text (codes "demo") (sym (same_is _ _ e))) [ inl alone ↦ demo_not alone | inr with ↦ value_not value with.1 ]))
    (λ e. elim (named text (codes "help") (sym (same_is _ _ e))) [ inl alone ↦ absurd (help_not alone) | inr with ↦ with.0 ])

-- the first character of what follows a dash
first_after_dash : (first : ℕ) (more : Text) → first ≢ 104 → IsUtf8 (45 ∷ first ∷ more)
    → (x : ℕ) × (slice_get (str.chars (first ∷ more)) 0 ≡ Some x) × (x ≢ 104)
unfolding str.chars
first_after_dash first more other utf8 = go _ (encodes-chars _ utf8)
  where
    go : (cs : List ℕ) → encode_utf8_all (45 ∷ cs) ≡ 45 ∷ first ∷ more → (x : ℕ) × (slice_get cs 0 ≡ Some x) × (x ≢ 104)
    go [] e = absurd (nil_differs first more (ap (λ l. drop 1 l) (rw (encode_ascii 45 (omega arith)) at e)))
    go (x ∷ xs) e = (
      x,
      refl,
      λ is. other (head_is first more (encode_utf8_all xs) x
          (ap (λ l. drop 1 l) (rw (encode_ascii 45 (omega arith)) at e)) is),
    )

bundle_refused : (first x : ℕ) (more : Text) → slice_get (str.chars (first ∷ more)) 0 ≡ Some x → x ≢ 104 → (rows : List Row) (p : Pending)
    → IsWrong (bundle_fault rules false (first ∷ more) (held rows p))
unfolding flags_fault
bundle_refused first x more is other rows p = (
  kind.UnknownArgument,
  ap (λ o. bundle_step_fault rules false o (first ∷ more) 0 (held rows p) (flags_fault rules false (length more))) is
      ∙ rw (ne_eqb 104 x (λ e. other (sym e))),
  λ e. cc,
)

unknown_short : (first : ℕ) (more : Text) → first ≢ 45 → first ≢ 104 → IsUtf8 (45 ∷ first ∷ more) → IsRefused (45 ∷ first ∷ more)
unknown_short first more dash_not help_not utf8 rows p =
    let character = first_after_dash first more help_not utf8 in
    let dash : (first == 45) ≡ false = ne_eqb first 45 dash_not in
    rw dash (rw dash (bundle_refused first character.0 more character.1 character.2 rows p))

-- none of the other sorts
abbrev IsRefusedBut : Text → Type 0
IsRefusedBut word = IsUtf8 word → str.bytes_eq word (codes "--help") ≡ false → begins (codes "-h") word ≡ false
    → str.bytes_eq word (codes "--stats") ≡ false → str.bytes_eq word (codes "--keep-going") ≡ false → str.bytes_eq word (codes "--demo") ≡ false → begins (codes "--demo=") word ≡ false → str.bytes_eq word (codes "--") ≡ false
    → is_option word ≡ true → IsRefused word

after_two_dashes : (more : Text) → IsRefusedBut (45 ∷ 45 ∷ more)
after_two_dashes [] utf8 not_help not_h not_stats not_keep not_demo not_with not_dashes is = absurd (true≢false not_dashes)
after_two_dashes (first ∷ more) utf8 not_help not_h not_stats not_keep not_demo not_with not_dashes is =
    unknown_long first more
    (λ e. true≢false (sym ((bytes_eq-Decides _ (codes "--help")).1 (ap (λ t. 45 ∷ 45 ∷ t) e)) ∙ not_help))
    (λ e. true≢false (sym ((bytes_eq-Decides _ (codes "--stats")).1 (ap (λ t. 45 ∷ 45 ∷ t) e)) ∙ not_stats))
    (λ e. true≢false (sym ((bytes_eq-Decides _ (codes "--keep-going")).1 (ap (λ t. 45 ∷ 45 ∷ t) e)) ∙ not_keep))
    (λ e. true≢false (sym ((bytes_eq-Decides _ (codes "--demo")).1 (ap (λ t. 45 ∷ 45 ∷ t) e)) ∙ not_demo))
    (λ value e. true≢false (sym (ap (λ t. begins (codes "--demo=") (45 ∷ 45 ∷ t)) e) ∙ not_with))

after_dash : (more : Text) → IsRefusedBut (45 ∷ more)
after_dash [] = λ utf8 not_help not_h not_stats not_keep not_demo not_with not_dashes is. absurd (true≢false (sym is))
after_dash (second ∷ more) = elim (cases_eq second 45) [
  | inl dash ↦ subst (λ n. IsRefusedBut (45 ∷ n ∷ more)) (sym dash) (after_two_dashes more)
  | inr not_dash ↦ elim (cases_eq second 104) [
    | inl letter ↦ subst (λ n. IsRefusedBut (45 ∷ n ∷ more)) (sym letter) (λ utf8 not_help not_h not_stats not_keep not_demo not_with not_dashes is. absurd (true≢false not_h))
    | inr other ↦ λ utf8 not_help not_h not_stats not_keep not_demo not_with not_dashes is. unknown_short second more not_dash other utf8
  ]
]

refused_from : (word : Text) → IsRefusedBut word
refused_from [] utf8 not_help not_h not_stats not_keep not_demo not_with not_dashes is = absurd (true≢false (sym is))
refused_from (first ∷ more) utf8 not_help not_h not_stats not_keep not_demo not_with not_dashes is =
    let whole = begins_is (codes "-") (first ∷ more) (and_parts _ _ is).0 in
    subst IsRefusedBut (sym whole) (after_dash more) utf8 not_help not_h not_stats not_keep not_demo not_with not_dashes is

pub spelled : (word : Text) → IsUtf8 word → IsSpelled (sort_of word) word
spelled word utf8 =
    let P = λ (s : WordSort). IsSpelled s word in
    cond_both _ meaning.asking _ P (λ e. inl (same_is word (codes "--help") e)) (λ not_help.
    cond_both _ meaning.asking _ P (λ e. inr (drop 2 word, begins_is (codes "-h") word e)) (λ not_h.
    cond_both _ (meaning.flag stats) _ P (λ e. same_is word (codes "--stats") e) (λ not_stats.
    cond_both _ (meaning.flag keep_going) _ P (λ e. same_is word (codes "--keep-going") e) (λ not_keep.
    cond_both _ meaning.demo _ P (λ e. same_is word (codes "--demo") e) (λ not_demo.
    cond_both _ (meaning.demo_with (drop 7 word)) _ P (λ e. begins_is (codes "--demo=") word e) (λ not_with.
    cond_both _ meaning.dashes _ P (λ e. same_is word (codes "--") e) (λ not_dashes.
    cond_both _ meaning.unknown meaning.plain P (λ e. (e, refused_from word utf8 not_help not_h not_stats not_keep not_demo not_with not_dashes e)) (λ never. plain_from word never))))))))
