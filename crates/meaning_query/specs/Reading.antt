-- Reading the tokens of a query from left to right. A reader answers a value and the tokens after it, or that none begins there.
use Rattle.std.specs.Prelude.{ℕ, zero, suc, pos, ◌^◌, neg_ℤ, Bool, true, false, nat_lt, nat_le, nat_eq, List, [], ◌∷◌, ◌++◌, length, Option, Some, None, codes}
use Rattle.std.specs.List.{list_any}
use Rattle.meaning_language.specs.cells.Text.{Text, same_text}
use Rattle.meaning_language.specs.Token.{word, int, text, op, mark, Mark, comma, open_paren, close_paren, open_bracket, close_bracket, byte_of}
use Rattle.meaning_language.specs.Tree as tree
use Rattle.meaning_language.specs.Tree.{Binary, sub, and, or, xor, Literal, Expr, Step, Arg, Tag, bare}
use Rattle.meaning_language.specs.Depth.{depth}
use Rattle.meaning_language.specs.Grammar.{most_depth}
use Rattle.meaning_query.specs.QueryToken.{QueryToken, plain, at_sign, quoted}
use Rattle.meaning_query.specs.Lexing.{tokens_of}
use Rattle.meaning_query.specs.Query.{frame_name, query_words, query_level, query_left_level, begins_number}

abbrev pub Read : Type 0 → Type 0
Read A = Option (A × List QueryToken)

abbrev pub Reader : Type 0 → Type 0
Reader A = List QueryToken → Read A

unfoldable pub and_then : {A B : Type 0} → Option A → (A → Option B) → Option B
and_then None f = None
and_then (Some x) f = f x

infixl 10 ◌>>=◌
abbrev pub ◌>>=◌ : {A B : Type 0} → Option A → (A → Option B) → Option B
o >>= f = and_then o f

-- goes on where there is a value, and else is the second
unfoldable pub or_else : {A B : Type 0} → Option A → B → (A → B) → B
or_else None other f = other
or_else (Some x) other f = f x

unfoldable pub pick : {A : Type 0} → Bool → A → A → A
pick true x y = x
pick false x y = y

-- ---- tokens

-- the tokens after this mark
unfoldable pub after_mark : Mark → List QueryToken → Option (List QueryToken)
after_mark m (plain (mark k) ∷ ts) = pick (nat_eq (byte_of k) (byte_of m)) (Some ts) None
after_mark m _ = None

-- the tokens after this word
unfoldable pub after_word : Text → List QueryToken → Option (List QueryToken)
after_word w (plain (word v) ∷ ts) = pick (same_text v w) (Some ts) None
after_word w _ = None

-- the tokens after a minus sign that is not part of a number
unfoldable pub after_minus : List QueryToken → Option (List QueryToken)
after_minus (plain (op sub) ∷ ts) = pick (begins_number ts) None (Some ts)
after_minus _ = None

unfoldable pub ended : {A : Type 0} → A → List QueryToken → Option A
ended x [] = Some x
ended x _ = None

unfoldable pub is_query_word : Text → Bool
is_query_word w = list_any (same_text w) query_words

unfoldable pub name_at : Reader Text
name_at (plain (word w) ∷ ts) = pick (is_query_word w) None (Some (w, ts))
name_at _ = None

-- a name, or what stands between backquotes
unfoldable pub column_at : Reader Text
column_at (quoted c ∷ ts) = Some (c, ts)
column_at ts = name_at ts

-- a name after `@`
unfoldable pub script_name_at : Reader Text
script_name_at (at_sign ∷ ts) = name_at ts
script_name_at _ = None

-- ---- constants

unfoldable pub truth_at : Text → Reader Literal
truth_at w ts = pick (same_text w (codes "True")) (Some (tree.truth true, ts)) (pick (same_text w (codes "False")) (Some (tree.truth false, ts)) None)

unfoldable pub positive : ℕ → Reader Literal
positive n ts = pick (nat_lt n (2 ^ 63)) (Some (tree.int (pos n), ts)) None

unfoldable pub negative : ℕ → Reader Literal
negative n ts = pick (nat_le n (2 ^ 63)) (Some (tree.int (neg_ℤ (pos n)), ts)) None

-- the number after a minus sign
unfoldable pub negative_at : Reader Literal
negative_at (plain (int n) ∷ ts) = negative n ts
negative_at _ = None

unfoldable pub constant_at : Reader Literal
constant_at (plain (word w) ∷ ts) = truth_at w ts
constant_at (plain (int n) ∷ ts) = positive n ts
constant_at (plain (text s) ∷ ts) = Some (tree.text s, ts)
constant_at (plain (op sub) ∷ ts) = negative_at ts
constant_at _ = None

-- a constant as a part of a list
abbrev pub Item : Type 0
Item = Tag bare × Arg

abbrev pub item_of : Literal → Item
item_of v = (tt, tree.expr (tree.literal v))

-- a constant after these parts of a list, and the parts after it with the bracket that closes them; the number bounds the turns
unfoldable pub more_at : ℕ → List Item → Reader (List Item)
more_at zero items ts = None
more_at (suc n) items ts =
    or_else (after_mark close_bracket ts)
    (after_mark comma ts >>= λ us. constant_at us >>= λ v. more_at n (items ++ item_of v.0 ∷ []) v.1)
    (λ us. Some (items, us))

-- the parts of a list, after its bracket
unfoldable pub items_at : Reader (List Item)
items_at ts =
    or_else (after_mark close_bracket ts)
    (constant_at ts >>= λ v. more_at (length v.1) (item_of v.0 ∷ []) v.1)
    (λ us. Some ([], us))

unfoldable pub list_at : Reader (List Item)
list_at ts = after_mark open_bracket ts >>= items_at

-- ---- what joins two sides

-- an operator between operands, or `in` or `not in` before a list
pub data Joint : Type 0 where
  operator : Binary → Joint
  inside : Joint
  outside : Joint

abbrev pub joint_level : Joint → ℕ
joint_level (operator o) = query_level o
joint_level _ = 3

abbrev pub joint_left_level : Joint → ℕ
joint_left_level (operator o) = query_left_level o
joint_left_level _ = 4

-- an operator that is no word in a query
unfoldable pub is_symbol : Binary → Bool
is_symbol or = false
is_symbol and = false
is_symbol xor = false
is_symbol _ = true

-- what this word joins, with the tokens after it
unfoldable pub joint_of : Text → Reader Joint
joint_of w ts =
    pick (same_text w (codes "or")) (Some (operator or, ts))
    (pick (same_text w (codes "and")) (Some (operator and, ts))
    (pick (same_text w (codes "in")) (Some (inside, ts))
    (pick (same_text w (codes "not")) (after_word (codes "in") ts >>= λ us. Some (outside, us)) None)))

unfoldable pub joint_at : Reader Joint
joint_at (plain (word w) ∷ ts) = joint_of w ts
joint_at (plain (op o) ∷ ts) = pick (is_symbol o) (Some (operator o, ts)) None
joint_at _ = None

-- one of at least a level, that may have a query of the other level for its left side
unfoldable pub joint_for : ℕ → ℕ → Reader Joint
joint_for l own ts = joint_at ts >>= λ j. pick (nat_le l (joint_level j.0)) (pick (nat_le (joint_left_level j.0) own) (Some j) None) None

-- ---- queries

-- a mask, and how tightly its query binds
abbrev pub Form : Type 0
Form = Expr × ℕ

abbrev pub column_mask : Text → Expr
column_mask c = tree.after (tree.name frame_name) (tree.item (tree.expr (tree.literal (tree.text c))))

-- `.isin([..])`
abbrev pub isin : List Item → Step
isin items = tree.method (codes "isin") (tree.more_parts None (tree.many (tree.parts items)) tree.no_parts)

abbrev pub is_among : Expr → List Item → Expr
is_among x items = tree.after x (isin items)

-- a mask of at most this depth
unfoldable pub guard : ℕ → Expr → ℕ → List QueryToken → Read Form
guard room x l ts = pick (nat_le (depth x) room) (Some ((x, l), ts)) None

-- Up to the depth `room + 1`, where `inner` reads queries of at least a level up to the depth `room`.
module _ (room : ℕ) (inner : ℕ → Reader Form) where
  -- a query and what closes its parenthesis
  unfoldable pub enclosed : Reader Form
  enclosed ts = inner 0 ts >>= λ x. after_mark close_paren x.1 >>= λ us. Some ((tree.paren (x.0).0, 6), us)

  unfoldable pub place : Reader Form
  place ts =
      or_else (column_at ts)
      (or_else (script_name_at ts)
      (or_else (after_mark open_paren ts)
      (constant_at ts >>= λ v. Some ((tree.literal v.0, 6), v.1))
      (λ us. enclosed us))
      (λ n. Some ((tree.name n.0, 6), n.1)))
      (λ c. guard (suc room) (column_mask c.0) 6 c.1)

  -- a place with its sign, or what is negated, where that may stand
  unfoldable pub prefixed : ℕ → Reader Form
  prefixed l ts =
      or_else (after_word (codes "not") ts)
      (or_else (after_minus ts)
      (place ts)
      (λ us. inner 6 us >>= λ x. Some ((tree.unary tree.minus (x.0).0, 6), x.1)))
      (λ us. pick (nat_le l 2) (inner 2 us >>= λ x. Some ((tree.unary tree.invert (x.0).0, 2), x.1)) None)

  -- what follows the joint, joined to what stands before it
  unfoldable pub joined : Joint → Expr → Reader Form
  joined (operator o) x ts = inner (suc (query_level o)) ts >>= λ y. guard (suc room) (tree.binary o x (y.0).0) (query_level o) y.1
  joined inside x ts = list_at ts >>= λ v. guard (suc room) (is_among x v.0) 3 v.1
  joined outside x ts = list_at ts >>= λ v. guard (suc room) (tree.unary tree.invert (is_among x v.0)) 3 v.1

  -- the joints of at least a level after a query, with what follows them; the first number bounds the turns
  unfoldable pub joints : ℕ → ℕ → Form → Reader Form
  joints zero l x ts = Some (x, ts)
  joints (suc n) l x ts = or_else (joint_for l x.1 ts) (Some (x, ts)) (λ j. joined j.0 x.0 j.1 >>= λ y. joints n l y.0 y.1)

  -- a query of at least a level
  unfoldable pub query_with : ℕ → Reader Form
  query_with l ts = prefixed l ts >>= λ x. joints (length x.1) l x.0 x.1

-- a query of at least a level, of at most a depth
unfoldable pub query_at : ℕ → ℕ → Reader Form
query_at zero l ts = None
query_at (suc room) l ts = query_with room (query_at room) l ts

-- the mask of the query that the tokens spell
unfoldable pub mask_read : List QueryToken → Option Expr
mask_read ts = query_at most_depth 0 ts >>= λ x. ended (x.0).0 x.1

-- the mask of the query that a text is
unfoldable pub query_expr : Text → Option Expr
query_expr t = tokens_of t >>= mask_read
