-- What the small readers give.
use Rattle.{meaning_language.{proofs.cells.Common.{◌≡◌, ℕ, zero, suc, ◌<◌, ◌≤◌, ◌++◌, ◌+◌, Bool, true, false, List, [], ◌∷◌, length, map, Option, Some, None, refl, arith, codes, lt-ltb, leb_tells, eq-eqb, eqb-true, append_assoc, append-nil, list_any, Text, same_text, bytes_eq-Decides}, specs.{Token.{Token, word, op, mark, Mark, comma, open_bracket, close_bracket}, Tree.{sub, Literal}, Grammar.{SpellsLiteral}}}, meaning_query.{specs.{QueryToken.{QueryToken, plain}, Query.{IsQueryName, SpellsConstant, SpellsMore, SpellsList, begins_number}, Reading.{and_then, or_else, pick, after_mark, after_word, after_minus, is_query_word, name_at, column_at, script_name_at, truth_at, positive, negative, negative_at, constant_at, Item, item_of, more_at, items_at, list_at, Joint, joint_level, joint_left_level, is_symbol, joint_of, joint_at, joint_for}}, proofs.Takes.{Only, only_weaker, SpellsJoint}}}
use Rattle.std.proofs.Common.{le-leb}
use Rattle.meaning_language.specs.Grammar.{reserved_words}

-- ---- tokens

text_same : (a : Text) → same_text a a ≡ true
text_same a = (bytes_eq-Decides a a).1 refl

pub mark_same : (m : Mark) (us : List QueryToken) → after_mark m (plain (mark m) ∷ us) ≡ Some us
unfolding after_mark pick
mark_same = search eq-eqb

pub other_mark : (k m : Mark) (us : List QueryToken) → (k ≡ m → ⊥) → after_mark m (plain (mark k) ∷ us) ≡ None
unfolding after_mark pick
other_mark = grind (arith, eqb-true)

pub word_same : (w : Text) (us : List QueryToken) → after_word w (plain (word w) ∷ us) ≡ Some us
unfolding after_word pick
word_same w us = rw (text_same w) refl

pub other_word : (v w : Text) (us : List QueryToken) → same_text v w ≡ false → after_word w (plain (word v) ∷ us) ≡ None
unfolding after_word pick
other_word v w us h = rw h refl

pub minus_reads : (us : List QueryToken) → begins_number us ≡ false → after_minus (plain (op sub) ∷ us) ≡ Some us
unfolding after_minus pick
minus_reads us h = rw h refl

none_of : (p : Text → Bool) (w : Text) (ws : List Text) → list_any p (w ∷ ws) ≡ false → (p w ≡ false) × (list_any p ws ≡ false)
none_of = grind arith

-- a name is not the word `not`
pub name_not : (n : Text) → IsQueryName n → same_text n (codes "not") ≡ false
name_not n h =
    let not_on : List Text = codes "not" ∷ codes "in" ∷ reserved_words in
    let or_on : List Text = codes "or" ∷ not_on in
    let rest = (none_of (same_text n) (codes "and") or_on h).1 in
    (none_of (same_text n) (codes "not") (codes "in" ∷ reserved_words) (none_of (same_text n) (codes "or") not_on rest).1).0

pub name_reads : (n : Text) (us : List QueryToken) → IsQueryName n → name_at (plain (word n) ∷ us) ≡ Some (n, us)
unfolding name_at is_query_word pick
name_reads n us h = rw h refl

-- ---- constants

pub constant_reads : (v : Literal) (ts us : List QueryToken) → SpellsConstant v ts us → constant_at ts ≡ Some (v, us)
unfolding constant_at truth_at positive negative_at negative pick
constant_reads = grind (arith, lt-ltb, le-leb)

-- the tokens begin no other place, and no sign
pub record IsPlain (ts : List QueryToken) : Type 0 where
  pub no_not : after_word (codes "not") ts ≡ None
  pub no_minus : after_minus ts ≡ None
  pub no_column : column_at ts ≡ None
  pub no_name : script_name_at ts ≡ None
  pub no_mark : (m : Mark) → after_mark m ts ≡ None

pub constant_plain : (v : Literal) (ts us : List QueryToken) → SpellsConstant v ts us → IsPlain ts
unfolding after_word after_minus column_at name_at is_query_word script_name_at after_mark pick
constant_plain = grind arith

literal_length : (v : Literal) (ts us : List Token) → SpellsLiteral v ts us → length us < length ts
literal_length = grind arith

length_plain : (front : List Token) (us : List QueryToken) → length (map plain front ++ us) ≡ length front + length us
length_plain [] us = omega arith
length_plain (t ∷ front) us = omega (arith, length_plain front us)

pub constant_shorter : (v : Literal) (ts us : List QueryToken) → SpellsConstant v ts us → length us < length ts
constant_shorter v ts us (c, front, s, e) = rw e (omega (arith, literal_length v front [] s, length_plain front us))

more_shorter : (vs : List Literal) (ts us : List QueryToken) → SpellsMore vs ts us → length us < length ts
more_shorter [] ts us s = rw s (omega arith)
more_shorter (v ∷ vs) ts us (ws, xs, e, c, s) = rw e (omega (arith, constant_shorter v ws xs c, more_shorter vs xs us s))

pub list_shorter : (vs : List Literal) (ts us : List QueryToken) → SpellsList vs ts us → length us < length ts
list_shorter [] ts us (ws, e, f) = rw (e, f) (omega arith)
list_shorter (v ∷ vs) ts us (ws, e, (xs, c, s)) = rw e (omega (arith, constant_shorter v ws xs c, more_shorter vs xs us s))

more_reads : (vs : List Literal) (n : ℕ) (items : List Item) (ts us : List QueryToken) → length ts ≤ n → SpellsMore vs ts us → more_at n items ts ≡ Some (items ++ map item_of vs, us)
unfolding more_at or_else and_then
more_reads [] zero items ts us le s = absurd (omega (arith, le, more_shorter [] ts us s))
more_reads (v ∷ vs) zero items ts us le s = absurd (omega (arith, le, more_shorter (v ∷ vs) ts us s))
more_reads [] (suc n) items ts us le s = rw (s, mark_same close_bracket us, append-nil items) refl
more_reads (v ∷ vs) (suc n) items ts us le (ws, xs, e, c, s) =
    let less : length xs ≤ n = omega (arith, constant_shorter v ws xs c, rw e at le) in
    rw (
      e,
      other_mark comma close_bracket ws (λ h. cc),
      mark_same comma ws,
      constant_reads v ws xs c,
      more_reads vs n (items ++ item_of v ∷ []) xs us less s,
      append_assoc items (item_of v ∷ []) (map item_of vs),
    ) refl

pub list_reads : (vs : List Literal) (ts us : List QueryToken) → SpellsList vs ts us → list_at ts ≡ Some (map item_of vs, us)
unfolding list_at items_at or_else and_then
list_reads [] ts us (ws, e, f) = rw (e, mark_same open_bracket ws, f, mark_same close_bracket us) refl
list_reads (v ∷ vs) ts us (ws, e, (xs, c, s)) =
    rw (
      e,
      mark_same open_bracket ws,
      (constant_plain v ws xs c).no_mark close_bracket,
      constant_reads v ws xs c,
      more_reads vs (length xs) (item_of v ∷ []) xs us (omega arith) s,
    ) refl

-- ---- joints

joint_reads : (j : Joint) (ts us : List QueryToken) → SpellsJoint j ts us → joint_at ts ≡ Some (j, us)
unfolding joint_at joint_of is_symbol and_then pick after_word
joint_reads = grind arith

pub joint_for_reads : (l own : ℕ) (j : Joint) (ts us : List QueryToken) → SpellsJoint j ts us → l ≤ joint_level j → joint_left_level j ≤ own → joint_for l own ts ≡ Some (j, us)
unfolding joint_for and_then pick
joint_for_reads l own j ts us s le left = rw (joint_reads j ts us s, le-leb l (joint_level j) le, le-leb (joint_left_level j) own left) refl

pub joint_shorter : (j : Joint) (ts us : List QueryToken) → SpellsJoint j ts us → length us < length ts
joint_shorter = grind arith

-- no joint of this level or a higher one follows
abbrev pub Ends : ℕ → List QueryToken → Type 0
Ends l us = Only (λ j. joint_level j.0 < l) (joint_at us)

pub joint_ends : (l : ℕ) (j : Joint) (ts us : List QueryToken) → SpellsJoint j ts us → joint_level j < l → Ends l ts
joint_ends l j ts us s less = rw (joint_reads j ts us s) less

pub joint_none : (l own : ℕ) (us : List QueryToken) → Ends l us → joint_for l own us ≡ None
unfolding joint_for and_then pick
joint_none = grind (arith, leb_tells)

pub ends_above : (l m : ℕ) (us : List QueryToken) → l ≤ m → Ends l us → Ends m us
ends_above l m us le e = only_weaker (λ j. joint_level j.0 < l) (λ j. joint_level j.0 < m) (joint_at us) e (λ j h. omega (arith, h, le))

-- no joint has a level above 5, nor the level 2
pub all_end : (us : List QueryToken) → Ends 6 us
all_end us = only_weaker (λ j. Unit {0}) (λ j. joint_level j.0 < 6) (joint_at us) (any (joint_at us)) (λ j h. small j.0)
  where
    any : (o : Option (Joint × List QueryToken)) → Only (λ j. Unit {0}) o
    any None = tt
    any (Some j) = tt

    small : (j : Joint) → joint_level j < 6
    small = grind arith

pub none_at_two : (us : List QueryToken) → Ends 3 us → Ends 2 us
none_at_two us e = only_weaker (λ j. joint_level j.0 < 3) (λ j. joint_level j.0 < 2) (joint_at us) e (λ j. apart j.0)
  where
    apart : (j : Joint) → joint_level j < 3 → joint_level j < 2
    apart = grind arith
