-- What the small readers take.
use Rattle.{
  script_tokens.{proofs.cells.Common.{leb-true, ltb-true, eqb-true, eq-eqb, leb_tells, eqb_tells, ◌≡◌, ◌↔◌, ℕ, ◌≤◌, Bool, true, false, List, ◌∷◌, length, Some, None, refl, arith, ◌⊎◌, codes, nat_eq, Text, Binary}, specs.language.{Token.{Token, word, op, mark, Mark, equals, dot, comma, tilde, open_paren}, Tree.{Unary, minus, invert, sub, Tagging, bare, named, keyed, Tag, Expr, Arg, after}, Grammar.{IsName, IsMethodName, IsTextMethodName, accessor_word, level, begins_int, SpellsLiteral, IsItem, IsPart, MayFollow, SpellsTag, IsTarget, SpellsEnd}}},
  script_syntax.{specs.Reading.{and_then, or_else, pick, after_mark, after_word, word_at, text_at, ended, is_reserved, is_method_name, is_text_method_name, name_at, target_at, dotted_at, opened_at, call_at, text_call_at, len_at, maker_at, operator_at, sign_at, positive, negative, na_at, constant_at, negative_at, literal_at, accessor_at, Call, plain, grouped, rolled, expanded, call_of, is_item, as_item, past_comma, keyword_at, may_follow, keyword_for, key_at, tag_at, has_name, as_part, is_target, split, closed, end_at}, proofs.Tools.{Only, Sound, text_is, text_tells}},
}
use Rattle.script_tokens.specs.language.Tree as tree

pub mark_takes : (m : Mark) → Sound (after_mark m) (λ ts us. ts ≡ mark m ∷ us)
unfolding after_mark pick
mark_takes = grind (arith, eqb-true)

pub mark_same : (m : Mark) (us : List Token) → after_mark m (mark m ∷ us) ≡ Some us
unfolding after_mark pick
mark_same = search eq-eqb

pub word_takes : (w : Text) → Sound (after_word w) (λ ts us. ts ≡ word w ∷ us)
unfolding after_word pick
word_takes = grind (arith, text_tells)

pub name_takes : Sound name_at (λ ts y. (ts ≡ word y.0 ∷ y.1) × IsName y.0)
unfolding name_at word_at is_reserved and_then pick
name_takes = grind arith

pub target_takes : Sound target_at (λ ts y. (ts ≡ word y.0 ∷ mark equals ∷ y.1) × IsName y.0)
unfolding target_at and_then
target_takes = grind (arith, name_takes, mark_takes)

pub dotted_takes : Sound dotted_at (λ ts y. ts ≡ mark dot ∷ word y.0 ∷ y.1)
unfolding dotted_at word_at and_then
dotted_takes = grind (arith, mark_takes)

is_method : (w : Text) → is_method_name w ≡ true → IsMethodName w
unfolding is_method_name is_reserved pick
is_method = grind arith

opened_takes : Sound opened_at (λ ts y. ts ≡ mark dot ∷ word y.0 ∷ mark open_paren ∷ y.1)
unfolding opened_at and_then
opened_takes = grind (arith, dotted_takes, mark_takes)

pub call_takes : Sound call_at (λ ts y. (ts ≡ mark dot ∷ word y.0 ∷ mark open_paren ∷ y.1) × IsMethodName y.0)
unfolding call_at and_then pick
call_takes = grind (arith, opened_takes, is_method)

is_text_method : (w : Text) → is_text_method_name w ≡ true → IsTextMethodName w
unfolding is_text_method_name pick
is_text_method = grind (arith, is_method, text_is)

pub text_call_takes : Sound text_call_at (λ ts y. (ts ≡ mark dot ∷ word y.0 ∷ mark open_paren ∷ y.1) × IsTextMethodName y.0)
unfolding text_call_at and_then pick
text_call_takes = grind (arith, opened_takes, is_text_method)

pub len_takes : Sound len_at (λ ts us. ts ≡ word (codes "len") ∷ mark open_paren ∷ us)
unfolding len_at and_then
len_takes = grind (arith, word_takes, mark_takes)

pub maker_takes : Sound maker_at (λ ts y. (ts ≡ word (codes "pd") ∷ mark dot ∷ word y.0 ∷ mark open_paren ∷ y.1) × IsMethodName y.0)
unfolding maker_at and_then
maker_takes = grind (arith, word_takes, call_takes)

pub operator_takes : (l : ℕ) → Sound (operator_at l) (λ ts o. (ts ≡ op o.0 ∷ o.1) × (l ≤ level o.0))
unfolding operator_at pick
operator_takes = grind (arith, leb-true)

pub no_tokens : (l : ℕ) (ts : List Token) → length ts ≤ 0 → operator_at l ts ≡ None
unfolding operator_at
no_tokens = grind arith

-- the expression under a sign
abbrev pub SignIs : Unary → List Token → List Token → Type 0
SignIs minus ts us = (ts ≡ op sub ∷ us) × (begins_int us ≡ false)
SignIs invert ts us = ts ≡ mark tilde ∷ us

pub sign_takes : Sound sign_at (λ ts y. SignIs y.0 ts y.1)
unfolding sign_at pick
sign_takes = grind arith

constant_takes : Sound constant_at (λ ts y. SpellsLiteral y.0 ts y.1)
unfolding constant_at na_at and_then or_else pick
constant_takes = grind (arith, word_takes, mark_takes)

pub literal_takes : Sound literal_at (λ ts y. SpellsLiteral y.0 ts y.1)
unfolding literal_at positive negative_at negative pick
literal_takes = grind (arith, constant_takes, ltb-true, leb-true)

pub accessor_takes : (w : Text) → Only (λ by. w ≡ accessor_word by) (accessor_at w)
unfolding accessor_at pick
accessor_takes = grind (arith, text_is)

abbrev pub CallIs : Call → Text → Type 0
CallIs plain w = IsMethodName w
CallIs grouped w = w ≡ codes "groupby"
CallIs rolled w = w ≡ codes "rolling"
CallIs expanded w = w ≡ codes "expanding"

pub call_of_takes : (w : Text) → Only (λ c. CallIs c w) (call_of w)
unfolding call_of pick
call_of_takes = grind (arith, text_is, is_method)

pub item_is : (a : Arg) → is_item a ≡ true → IsItem a
unfolding is_item
item_is = grind arith

pub comma_takes : (close : Mark) → Sound (past_comma close) (λ ts us. (ts ≡ mark comma ∷ us) ⊎ ((ts ≡ us) × (vs : List Token) × (us ≡ mark close ∷ vs)))
unfolding past_comma and_then or_else
comma_takes = grind (arith, mark_takes)

keyword_takes : (ts : List Token) → SpellsTag named (keyword_at ts).0 ts (keyword_at ts).1
unfolding keyword_at or_else
keyword_takes = grind (arith, target_takes)

key_takes : Sound key_at (λ ts y. SpellsTag keyed y.0 ts y.1)
unfolding key_at and_then
key_takes = grind (arith, mark_takes, literal_takes)

-- what may stand before a part, also after one with a name
abbrev pub MayCome : (by : Tagging) → Bool → Tag by → Type 0
MayCome by false tag = Unit {0}
MayCome named true None = ⊥
MayCome by true tag = Unit {0}

pub may_come : (by : Tagging) (last tag : Tag by) → MayCome by (has_name by last) tag ↔ MayFollow by last tag
unfolding has_name
may_come named last tag = grind arith
may_come by last tag = grind arith

pub tag_takes : (by : Tagging) (after_name : Bool) → Sound (tag_at by after_name) (λ ts y. SpellsTag by y.0 ts y.1 × MayCome by after_name y.0)
unfolding tag_at keyword_for may_follow pick
tag_takes named after_name = grind (arith, keyword_takes)
tag_takes by after_name = grind (arith, key_takes)

pub part_takes : (by : Tagging) (a : Arg) (ts : List Token) → Only (λ y. (y ≡ (a, ts)) × IsPart by a) (as_part by a ts)
unfolding as_part as_item pick
part_takes = grind (arith, item_is)

pub split_takes : (x : Expr) → Only (λ y. (x ≡ after y.0 y.1) × IsTarget y.1) (split x)
unfolding split is_target pick
split_takes = grind arith

pub end_takes : Sound end_at (λ ts end. SpellsEnd end ts)
unfolding end_at closed text_at ended and_then or_else
end_takes = grind (arith, mark_takes, word_takes)

pub level_small : (o : Binary) → level o ≤ 5
level_small = grind arith

-- no operator has a level above 5
pub no_operator : (l : ℕ) (ts : List Token) → 6 ≤ l → operator_at l ts ≡ None
unfolding operator_at pick
no_operator = grind (arith, level_small, leb_tells)

pub mark_reads : (m : Mark) (ts us : List Token) → ts ≡ mark m ∷ us → after_mark m ts ≡ Some us
mark_reads m ts us e = cc (mark_same m us)

pub not_zero : (n : ℕ) → 1 ≤ n → nat_eq n 0 ≡ false
not_zero = grind (arith, eqb_tells)

pub tilde_reads : (vs : List Token) → sign_at (mark tilde ∷ vs) ≡ Some (tree.invert, vs)
unfolding sign_at
tilde_reads vs = refl
