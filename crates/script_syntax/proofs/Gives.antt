-- What the small readers give.
use Rattle.{
  script_tokens.{proofs.cells.Common.{lt-ltb, eqb-true, leb_tells, ◌≡◌, ℕ, ◌<◌, ◌≤◌, true, false, List, ◌∷◌, Some, None, refl, arith, codes, list_any, Text, same_text, Binary}, specs.language.{Token.{Token, word, op, mark, Mark, equals, comma, open_paren}, Tree.{minus, sub, Tagging, Literal, Expr, Step, Arg, after}, Depth.{depth}, Grammar.{reserved_words, IsPart, IsName, IsMethodName, IsTextMethodName, level, begins_int, begins_paren, SpellsLiteral, IsItem, IsTarget, SpellsEnd}}},
  std.proofs.lemmas.Bool.{leb-false, le-leb},
  script_syntax.{specs.Reading.{and_then, or_else, pick, after_mark, after_word, word_at, text_at, ended, is_reserved, is_method_name, is_text_method_name, name_at, target_at, dotted_at, opened_at, call_at, len_at, maker_at, operator_at, sign_at, positive, negative, na_at, constant_at, negative_at, literal_at, is_item, as_item, as_part, past_comma, is_target, split, guard, closed, end_at}, proofs.{Tools.{text_same}, Takes.{mark_same}}},
}

pub word_same : (w : Text) (us : List Token) → after_word w (word w ∷ us) ≡ Some us
unfolding after_word pick
word_same w us = rw (text_same w) refl

pub other_mark : (k m : Mark) (us : List Token) → (k ≡ m → ⊥) → after_mark m (mark k ∷ us) ≡ None
unfolding after_mark pick
other_mark = grind (arith, eqb-true)

pub other_word : (v w : Text) (us : List Token) → same_text v w ≡ false → after_word w (word v ∷ us) ≡ None
unfolding after_word pick
other_word v w us h = rw h refl

-- ---- names

pub name_reads : (n : Text) (us : List Token) → IsName n → name_at (word n ∷ us) ≡ Some (n, us)
unfolding name_at word_at is_reserved and_then pick
name_reads n us h = rw h refl

pub reserved_is_none : (n : Text) (us : List Token) → list_any (same_text n) reserved_words ≡ true → name_at (word n ∷ us) ≡ None
unfolding name_at word_at is_reserved and_then pick
reserved_is_none n us h = rw h refl

pub target_reads : (n : Text) (us : List Token) → IsName n → target_at (word n ∷ mark equals ∷ us) ≡ Some (n, us)
unfolding target_at and_then
target_reads = search (name_reads, mark_same)

pub method_is : (n : Text) → IsMethodName n → is_method_name n ≡ true
unfolding is_method_name is_reserved pick
method_is n h = rw (h.0, h.1) refl

pub text_method_is : (n : Text) → IsTextMethodName n → is_text_method_name n ≡ true
unfolding is_text_method_name pick
text_method_is = grind (arith, method_is)

-- ---- operators and signs

pub operator_reads : (l : ℕ) (o : Binary) (ts : List Token) → l ≤ level o → operator_at l (op o ∷ ts) ≡ Some (o, ts)
unfolding operator_at pick
operator_reads = search le-leb

pub operator_below : (l : ℕ) (o : Binary) (ts : List Token) → level o < l → operator_at l (op o ∷ ts) ≡ None
unfolding operator_at pick
operator_below = grind (arith, leb_tells)

-- no operator of a level, so none of a higher one
pub none_above : (i j : ℕ) (ts : List Token) → i ≤ j → operator_at i ts ≡ None → operator_at j ts ≡ None
unfolding operator_at pick
none_above = grind (arith, operator_below, leb-false)

pub minus_reads : (ts : List Token) → begins_int ts ≡ false → sign_at (op sub ∷ ts) ≡ Some (minus, ts)
unfolding sign_at pick
minus_reads ts h = rw h refl

pub guard_reads : (room : ℕ) (x : Expr) (ts : List Token) → depth x ≤ room → guard room x ts ≡ Some (x, ts)
unfolding guard pick
guard_reads = search le-leb

-- ---- literals

pub literal_reads : (v : Literal) (ts us : List Token) → SpellsLiteral v ts us → literal_at ts ≡ Some (v, us)
unfolding literal_at constant_at negative_at or_else and_then positive pick negative na_at
literal_reads = grind (arith, lt-ltb, le-leb, word_same, other_word, mark_same)

-- ---- what begins as no other atom

pub word_no_mark : (m : Mark) (w : Text) (vs : List Token) → after_mark m (word w ∷ vs) ≡ None
unfolding after_mark
word_no_mark m w vs = refl

pub no_len : (n : Text) (us : List Token) → same_text n (codes "len") ≡ false → len_at (word n ∷ us) ≡ None
unfolding len_at and_then
no_len = search other_word

pub no_maker : (n : Text) (us : List Token) → same_text n (codes "pd") ≡ false → maker_at (word n ∷ us) ≡ None
unfolding maker_at and_then
no_maker = search other_word

no_paren : (us : List Token) → begins_paren us ≡ false → after_mark open_paren us ≡ None
unfolding after_mark pick
no_paren = grind arith

-- the tokens begin no name, no parenthesis and no call
pub record IsPlain (ts : List Token) : Type 0 where
  pub no_name : name_at ts ≡ None
  pub no_paren : after_mark open_paren ts ≡ None
  pub no_len : len_at ts ≡ None
  pub no_maker : maker_at ts ≡ None

pub literal_plain : (v : Literal) (ts us : List Token) → SpellsLiteral v ts us → IsPlain ts
unfolding name_at word_at is_reserved after_mark len_at maker_at after_word and_then call_at opened_at dotted_at pick
literal_plain = grind (arith, no_paren)

-- ---- parts

pub item_yes : (a : Arg) → IsItem a → is_item a ≡ true
unfolding is_item
item_yes = grind arith

pub as_item_reads : (a : Arg) (ts : List Token) → IsItem a → as_item a ts ≡ Some (a, ts)
unfolding as_item pick
as_item_reads a ts h = rw (item_yes a h) refl

pub as_part_reads : (by : Tagging) (a : Arg) (ts : List Token) → IsPart by a → as_part by a ts ≡ Some (a, ts)
unfolding as_part
as_part_reads = grind (arith, as_item_reads)

pub past_comma_reads : (close : Mark) (us : List Token) → past_comma close (mark comma ∷ us) ≡ Some us
unfolding past_comma or_else
past_comma_reads = search mark_same

pub at_close_reads : (close : Mark) (us : List Token) → (close ≡ comma → ⊥) → past_comma close (mark close ∷ us) ≡ Some (mark close ∷ us)
unfolding past_comma or_else and_then
at_close_reads = search (other_mark, mark_same)

target_yes : (s : Step) → IsTarget s → is_target s ≡ true
unfolding is_target
target_yes = grind arith

pub split_reads : (x : Expr) (s : Step) → IsTarget s → split (after x s) ≡ Some (x, s)
unfolding split pick
split_reads x s h = rw (target_yes s h) refl

pub end_reads : (ts : List Token) (end : Text) → SpellsEnd end ts → end_at ts ≡ Some end
unfolding end_at closed or_else and_then ended text_at
end_reads = grind (arith, other_mark, mark_same, word_same)
