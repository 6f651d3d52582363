-- What the small readers take.
use Rattle.{meaning_language.{proofs.cells.Common.{◌≡◌, ℕ, zero, suc, ◌<◌, ◌≤◌, ◌++◌, ◌^◌, ◌⊎◌, inl, inr, nat_le, pos, Bool, true, false, List, [], ◌∷◌, length, map, Option, Some, None, refl, ◌∙◌, arith, codes, leb-true, ltb-true, eqb-true, append_assoc, append-nil, Text, same_text, bytes_eq-Decides}, specs.{Token.{Token, word, int, op, mark, Mark, comma, open_bracket, close_bracket}, Tree.{Binary, or, and, xor, sub, Literal, Expr}, Depth.{depth}, Grammar.{SpellsLiteral}}}, meaning_query.specs.{QueryToken.{QueryToken, plain, at_sign, quoted}, Query.{IsQueryName, IsConstant, SpellsConstant, SpellsMore, SpellsList, SpellsOperator, begins_number}, Reading.{and_then, or_else, pick, after_mark, after_word, after_minus, is_query_word, name_at, column_at, script_name_at, truth_at, positive, negative, negative_at, constant_at, Item, item_of, more_at, items_at, list_at, Joint, operator, inside, outside, joint_level, joint_left_level, is_symbol, joint_of, joint_at, joint_for, Form, guard}}}
use Rattle.std.specs.Prelude.{neg_ℤ}
use Rattle.meaning_language.specs.Tree as tree

-- ---- what holds of the value that a reader gives, if it gives one

abbrev pub Only : {A : Type 0} → (A → Type 0) → Option A → Type 0
Only P None = Unit {0}
Only P (Some y) = P y

-- what a reader finds at the tokens
abbrev pub Sound : {A : Type 0} → (List QueryToken → Option A) → (List QueryToken → A → Type 0) → Type 0
Sound read Is = (ts : List QueryToken) → Only (Is ts) (read ts)

-- what goes on from a value
pub then_only : {A B : Type 0} (P : A → Type 0) (Q : B → Type 0) (o : Option A) (go : A → Option B) → Only P o → ((a : A) → P a → Only Q (go a)) → Only Q (and_then o go)
unfolding and_then
then_only P Q None go h so = tt
then_only P Q (Some a) go h so = so a h

-- what is read first, or else second
pub or_only : {A B : Type 0} (P : A → Type 0) (Q : B → Type 0) (o : Option A) (other : Option B) (go : A → Option B) → Only P o → Only Q other → ((a : A) → P a → Only Q (go a)) → Only Q (or_else o other go)
unfolding or_else
or_only P Q None other go h k so = k
or_only P Q (Some a) other go h k so = so a h

pub only_weaker : {A : Type 0} (P Q : A → Type 0) (o : Option A) → Only P o → ((a : A) → P a → Q a) → Only Q o
only_weaker P Q None h so = tt
only_weaker P Q (Some a) h so = so a h

-- what a test lets be read
pub pick_only : {B : Type 0} (Q : B → Type 0) (test : Bool) (o : Option B) → (test ≡ true → Only Q o) → Only Q (pick test o None)
unfolding pick
pick_only Q true o so = so refl
pick_only Q false o so = tt

pub at_most : (m n : ℕ) → nat_le m n ≡ true → m ≤ n
at_most = search leb-true

text_is : (a b : Text) → same_text a b ≡ true → a ≡ b
text_is a b e = (bytes_eq-Decides a b).0 e

-- either the texts are equal, or the test says no
text_tells : (a b : Text) → ((same_text a b ≡ true) × (a ≡ b)) ⊎ (same_text a b ≡ false)
text_tells a b = grind (arith, text_is a b)

-- ---- tokens

pub mark_takes : (m : Mark) → Sound (after_mark m) (λ ts us. ts ≡ plain (mark m) ∷ us)
unfolding after_mark pick
mark_takes = grind (arith, eqb-true)

pub word_takes : (w : Text) → Sound (after_word w) (λ ts us. ts ≡ plain (word w) ∷ us)
unfolding after_word pick
word_takes = grind (arith, text_tells)

pub minus_takes : Sound after_minus (λ ts us. (ts ≡ plain (op sub) ∷ us) × (begins_number us ≡ false))
unfolding after_minus pick
minus_takes = grind arith

is_name : (w : Text) → is_query_word w ≡ false → IsQueryName w
unfolding is_query_word
is_name w e = e

name_takes : Sound name_at (λ ts y. (ts ≡ plain (word y.0) ∷ y.1) × IsQueryName y.0)
unfolding name_at pick
name_takes = grind (arith, is_name)

pub column_takes : Sound column_at (λ ts y. ((ts ≡ plain (word y.0) ∷ y.1) × IsQueryName y.0) ⊎ (ts ≡ quoted y.0 ∷ y.1))
unfolding column_at
column_takes = grind (arith, name_takes)

pub script_name_takes : Sound script_name_at (λ ts y. (ts ≡ at_sign ∷ plain (word y.0) ∷ y.1) × IsQueryName y.0)
unfolding script_name_at
script_name_takes = grind (arith, name_takes)

-- ---- constants

-- a constant of one token, or of two
one_token : (v : Literal) (t : Token) (us : List QueryToken) → IsConstant v → SpellsLiteral v (t ∷ []) [] → SpellsConstant v (plain t ∷ us) us
one_token v t us c s = (c, t ∷ [], s, refl)

two_tokens : (v : Literal) (s t : Token) (us : List QueryToken) → IsConstant v → SpellsLiteral v (s ∷ t ∷ []) [] → SpellsConstant v (plain s ∷ plain t ∷ us) us
two_tokens v s t us c p = (c, s ∷ t ∷ [], p, refl)

positive_spells : (n : ℕ) (us : List QueryToken) → n < 2 ^ 63 → SpellsConstant (tree.int (pos n)) (plain (int n) ∷ us) us
positive_spells n us h = one_token (tree.int (pos n)) (int n) us tt (inl (n, refl, h, refl))

negative_spells : (n : ℕ) (us : List QueryToken) → n ≤ 2 ^ 63 → SpellsConstant (tree.int (neg_ℤ (pos n))) (plain (op sub) ∷ plain (int n) ∷ us) us
negative_spells n us h = two_tokens (tree.int (neg_ℤ (pos n))) (op sub) (int n) us tt (inr (n, refl, h, refl))

truth_takes : (w : Text) (ts : List QueryToken) → Only (λ y. SpellsConstant y.0 (plain (word w) ∷ ts) y.1) (truth_at w ts)
unfolding truth_at pick
truth_takes = grind (arith, text_tells, one_token)

positive_takes : (n : ℕ) (ts : List QueryToken) → Only (λ y. SpellsConstant y.0 (plain (int n) ∷ ts) y.1) (positive n ts)
unfolding positive pick
positive_takes = grind (arith, ltb-true, positive_spells)

negative_is : (n : ℕ) (ts : List QueryToken) → Only (λ y. SpellsConstant y.0 (plain (op sub) ∷ plain (int n) ∷ ts) y.1) (negative n ts)
unfolding negative
negative_is n ts =
    let Q : Literal × List QueryToken → Type 0 = λ y. SpellsConstant y.0 (plain (op sub) ∷ plain (int n) ∷ ts) y.1 in
    pick_only Q (nat_le n (2 ^ 63)) _ (λ e. negative_spells n ts (at_most _ _ e))

negative_takes : Sound negative_at (λ ts y. SpellsConstant y.0 (plain (op sub) ∷ ts) y.1)
unfolding negative_at
negative_takes = grind (arith, negative_is)

pub constant_takes : Sound constant_at (λ ts y. SpellsConstant y.0 ts y.1)
unfolding constant_at
constant_takes = grind (arith, one_token, truth_takes, positive_takes, negative_takes)

-- the parts of a list after these, as the reader holds them
abbrev IsMore : List Item → List QueryToken → List Item × List QueryToken → Type 0
IsMore items ts y = (vs : List Literal) × SpellsMore vs ts y.1 × (y.0 ≡ items ++ map item_of vs)

more_ends : (items : List Item) (ts us : List QueryToken) → ts ≡ plain (mark close_bracket) ∷ us → IsMore items ts (items, us)
more_ends = grind (arith, append-nil)

more_goes : (items : List Item) (v : Literal) (ts us vs : List QueryToken) (y : List Item × List QueryToken) → ts ≡ plain (mark comma) ∷ us → SpellsConstant v us vs → IsMore (items ++ item_of v ∷ []) vs y → IsMore items ts y
more_goes items v ts us vs y e c (ws, s, f) = (v ∷ ws, (us, vs, e, c, s), f ∙ append_assoc items (item_of v ∷ []) (map item_of ws))

more_takes : (n : ℕ) (items : List Item) → Sound (more_at n items) (IsMore items)
unfolding more_at
more_takes zero items ts = tt
more_takes (suc n) items ts =
    let Q : List Item × List QueryToken → Type 0 = IsMore items ts in
    or_only (λ us. ts ≡ plain (mark close_bracket) ∷ us) Q (after_mark close_bracket ts) _ _ (mark_takes close_bracket ts)
    (then_only (λ us. ts ≡ plain (mark comma) ∷ us) Q (after_mark comma ts) _ (mark_takes comma ts)
    (λ us e. then_only (λ v. SpellsConstant v.0 us v.1) Q (constant_at us) _ (constant_takes us)
    (λ v c. only_weaker (IsMore (items ++ item_of v.0 ∷ []) v.1) Q _ (more_takes n (items ++ item_of v.0 ∷ []) v.1) (λ y s. more_goes items v.0 ts us v.1 y e c s))))
    (λ us e. more_ends items ts us e)

abbrev pub IsList : List QueryToken → List Item × List QueryToken → Type 0
IsList ts y = (vs : List Literal) × SpellsList vs ts y.1 × (y.0 ≡ map item_of vs)

no_items : (ts us vs : List QueryToken) → ts ≡ plain (mark open_bracket) ∷ us → us ≡ plain (mark close_bracket) ∷ vs → IsList ts ([], vs)
no_items ts us vs e f = ([], (us, e, f), refl)

some_items : (v : Literal) (ts us ws : List QueryToken) (y : List Item × List QueryToken) → ts ≡ plain (mark open_bracket) ∷ us → SpellsConstant v us ws → IsMore (item_of v ∷ []) ws y → IsList ts y
some_items v ts us ws y e c (vs, s, f) = (v ∷ vs, (us, e, (ws, c, s)), f)

pub list_takes : Sound list_at IsList
unfolding list_at items_at
list_takes ts =
    let Q : List Item × List QueryToken → Type 0 = IsList ts in
    then_only (λ us. ts ≡ plain (mark open_bracket) ∷ us) Q (after_mark open_bracket ts) _ (mark_takes open_bracket ts)
    (λ us e. or_only (λ vs. us ≡ plain (mark close_bracket) ∷ vs) Q (after_mark close_bracket us) _ _ (mark_takes close_bracket us)
    (then_only (λ v. SpellsConstant v.0 us v.1) Q (constant_at us) _ (constant_takes us)
    (λ v c. only_weaker (IsMore (item_of v.0 ∷ []) v.1) Q _ (more_takes (length v.1) (item_of v.0 ∷ []) v.1) (λ y s. some_items v.0 ts us v.1 y e c s)))
    (λ vs f. no_items ts us vs e f))

-- ---- joints

abbrev pub SpellsJoint : Joint → List QueryToken → List QueryToken → Type 0
SpellsJoint (operator o) ts us = SpellsOperator o ts us
SpellsJoint inside ts us = ts ≡ plain (word (codes "in")) ∷ us
SpellsJoint outside ts us = ts ≡ plain (word (codes "not")) ∷ plain (word (codes "in")) ∷ us

word_joint_takes : (w : Text) (ts : List QueryToken) → Only (λ j. SpellsJoint j.0 (plain (word w) ∷ ts) j.1) (joint_of w ts)
unfolding joint_of and_then pick
word_joint_takes = grind (arith, text_tells, word_takes)

symbol_spells : (o : Binary) (us : List QueryToken) → is_symbol o ≡ true → SpellsOperator o (plain (op o) ∷ us) us
unfolding is_symbol
symbol_spells = grind arith

joint_takes : Sound joint_at (λ ts j. SpellsJoint j.0 ts j.1)
unfolding joint_at pick
joint_takes = grind (arith, word_joint_takes, symbol_spells)

pub joint_for_takes : (l own : ℕ) → Sound (joint_for l own) (λ ts j. SpellsJoint j.0 ts j.1 × (l ≤ joint_level j.0) × (joint_left_level j.0 ≤ own))
unfolding joint_for
joint_for_takes l own ts =
    let Q : Joint × List QueryToken → Type 0 = λ j. SpellsJoint j.0 ts j.1 × (l ≤ joint_level j.0) × (joint_left_level j.0 ≤ own) in
    then_only (λ j. SpellsJoint j.0 ts j.1) Q (joint_at ts) _ (joint_takes ts)
    (λ j s. pick_only Q (nat_le l (joint_level j.0)) _ (λ e. pick_only Q (nat_le (joint_left_level j.0) own) _ (λ f. (s, at_most _ _ e, at_most _ _ f))))

pub guard_only : (Q : Form × List QueryToken → Type 0) (room : ℕ) (x : Expr) (l : ℕ) (ts : List QueryToken) → (depth x ≤ room → Q ((x, l), ts)) → Only Q (guard room x l ts)
unfolding guard
guard_only Q room x l ts so = pick_only Q (nat_le (depth x) room) _ (λ e. so (at_most _ _ e))
