-- Reading tokens from left to right. A reader answers a value and the tokens after it, or that none begins there.
use Rattle.std.specs.Prelude.{ℕ, zero, suc, pos, ◌^◌, neg_ℤ, Bool, true, false, nat_lt, nat_le, nat_eq, List, [], ◌∷◌, length, Option, Some, None, is_some, codes}
use Rattle.std.specs.List.{list_any}
use Rattle.script_tokens.specs.cells.Text.{Text, same_text}
use Rattle.script_tokens.specs.language.Token.{Token, word, int, text, op, mark, Mark, equals, dot, comma, colon, tilde, open_paren, close_paren, open_bracket, close_bracket, open_brace, close_brace, byte_of}
use Rattle.script_tokens.specs.language.Tree as tree
use Rattle.script_tokens.specs.language.Tree.{Unary, minus, invert, Binary, sub, Accessor, loc, iloc, at, iat, Literal, Expr, Step, Sub, OptionalSub, OptionalArg, OptionalExpr, Tagging, bare, named, keyed, Tag, Arg, Parts, Action, name, literal, unary, binary, after, len, make, paren, item, access, method, text_method, group, rolling, expanding, key, span, no_sub, some_sub, no_arg, some_arg, no_expr, some_expr, expr, many, row, table, nothing, no_parts, more_parts, import_pandas, bind, put, drop_name, drop_column, print}
use Rattle.script_tokens.specs.language.Depth.{depth}
use Rattle.script_tokens.specs.language.Grammar.{reserved_words, form_words, level, begins_int, begins_paren, begins_minus, most_depth}

abbrev pub Read : Type 0 → Type 0
Read A = Option (A × List Token)

abbrev pub Reader : Type 0 → Type 0
Reader A = List Token → Read A

unfoldable pub and_then : {A B : Type 0} → Option A → (A → Option B) → Option B
and_then None f = None
and_then (Some x) f = f x

infixl 10 ◌>>=◌
abbrev pub ◌>>=◌ : {A B : Type 0} → Option A → (A → Option B) → Option B
o >>= f = and_then o f

-- goes on where there is a value, and else is the second
unfoldable pub or_else : {A B : Type 0} → Option A → B → (A → B) → B
or_else None other f = other
or_else (Some x) other f = f x

unfoldable pub pick : {A : Type 0} → Bool → A → A → A
pick true x y = x
pick false x y = y

-- ---- tokens

-- the tokens after this mark
unfoldable pub after_mark : Mark → List Token → Option (List Token)
after_mark m (mark k ∷ ts) = pick (nat_eq (byte_of k) (byte_of m)) (Some ts) None
after_mark m _ = None

-- the tokens after this word
unfoldable pub after_word : Text → List Token → Option (List Token)
after_word w (word v ∷ ts) = pick (same_text v w) (Some ts) None
after_word w _ = None

unfoldable pub word_at : Reader Text
word_at (word w ∷ ts) = Some (w, ts)
word_at _ = None

unfoldable pub text_at : Reader Text
text_at (text s ∷ ts) = Some (s, ts)
text_at _ = None

unfoldable pub ended : {A : Type 0} → A → List Token → Option A
ended x [] = Some x
ended x _ = None

unfoldable pub is_reserved : Text → Bool
is_reserved w = list_any (same_text w) reserved_words

unfoldable pub is_method_name : Text → Bool
is_method_name w = pick (is_reserved w) false (pick (list_any (same_text w) form_words) false true)

unfoldable pub is_text_method_name : Text → Bool
is_text_method_name w = pick (same_text w (codes "len")) true (is_method_name w)

unfoldable pub name_at : Reader Text
name_at ts = word_at ts >>= λ w. pick (is_reserved w.0) None (Some w)

-- `name =`
unfoldable pub target_at : Reader Text
target_at ts = name_at ts >>= λ n. after_mark equals n.1 >>= λ us. Some (n.0, us)

-- `.word`
unfoldable pub dotted_at : Reader Text
dotted_at ts = after_mark dot ts >>= word_at

-- `.word(`
unfoldable pub opened_at : Reader Text
opened_at ts = dotted_at ts >>= λ w. after_mark open_paren w.1 >>= λ us. Some (w.0, us)

-- `.name(`, of no form of its own
unfoldable pub call_at : Reader Text
call_at ts = opened_at ts >>= λ w. pick (is_method_name w.0) (Some w) None

-- `.name(` after `str`
unfoldable pub text_call_at : Reader Text
text_call_at ts = opened_at ts >>= λ w. pick (is_text_method_name w.0) (Some w) None

-- `len(`
unfoldable pub len_at : List Token → Option (List Token)
len_at ts = after_word (codes "len") ts >>= after_mark open_paren

-- `pd.name(`
unfoldable pub maker_at : Reader Text
maker_at ts = after_word (codes "pd") ts >>= call_at

unfoldable pub operator_at : ℕ → Reader Binary
operator_at l (op o ∷ ts) = pick (nat_le l (level o)) (Some (o, ts)) None
operator_at l _ = None

-- a sign that is not part of a number
unfoldable pub sign_at : Reader Unary
sign_at (op sub ∷ ts) = pick (begins_int ts) None (Some (minus, ts))
sign_at (mark tilde ∷ ts) = Some (invert, ts)
sign_at _ = None

unfoldable pub begins_step : List Token → Bool
begins_step (mark dot ∷ ts) = true
begins_step (mark open_bracket ∷ ts) = true
begins_step _ = false

-- what can't begin a bound or the step of a slice
unfoldable pub ends_bound : List Token → Bool
ends_bound (mark colon ∷ ts) = true
ends_bound (mark comma ∷ ts) = true
ends_bound (mark close_bracket ∷ ts) = true
ends_bound _ = false

-- ---- literals

unfoldable pub positive : ℕ → Reader Literal
positive n ts = pick (nat_lt n (2 ^ 63)) (Some (tree.int (pos n), ts)) None

unfoldable pub negative : ℕ → Reader Literal
negative n ts = pick (nat_le n (2 ^ 63)) (Some (tree.int (neg_ℤ (pos n)), ts)) None

unfoldable pub na_at : List Token → Option (List Token)
na_at ts = after_word (codes "pd") ts >>= after_mark dot >>= after_word (codes "NA") >>= λ us. pick (begins_paren us) None (Some us)

-- a literal that is written in words
unfoldable pub constant_at : Reader Literal
constant_at ts =
    or_else (after_word (codes "True") ts)
    (or_else (after_word (codes "False") ts)
    (na_at ts >>= λ us. Some (tree.na, us))
    (λ us. Some (tree.truth false, us)))
    (λ us. Some (tree.truth true, us))

-- the number after a minus sign
unfoldable pub negative_at : Reader Literal
negative_at (int n ∷ ts) = negative n ts
negative_at _ = None

unfoldable pub literal_at : Reader Literal
literal_at (word w ∷ ts) = constant_at (word w ∷ ts)
literal_at (int n ∷ ts) = positive n ts
literal_at (text s ∷ ts) = Some (tree.text s, ts)
literal_at (op sub ∷ ts) = negative_at ts
literal_at _ = None

-- ---- names of steps

unfoldable pub accessor_at : Text → Option Accessor
accessor_at w =
    pick (same_text w (codes "loc")) (Some loc)
    (pick (same_text w (codes "iloc")) (Some iloc)
    (pick (same_text w (codes "at")) (Some at)
    (pick (same_text w (codes "iat")) (Some iat) None)))

pub data Call : Type 0 where
  plain : Call
  grouped : Call
  rolled : Call
  expanded : Call

unfoldable pub call_of : Text → Option Call
call_of w =
    pick (same_text w (codes "groupby")) (Some grouped)
    (pick (same_text w (codes "rolling")) (Some rolled)
    (pick (same_text w (codes "expanding")) (Some expanded)
    (pick (is_method_name w) (Some plain) None)))

-- ---- parts

unfoldable pub is_item : Arg → Bool
is_item (expr x) = true
is_item (row parts) = true
is_item a = false

unfoldable pub as_item : Arg → List Token → Read Arg
as_item a ts = pick (is_item a) (Some (a, ts)) None

-- what follows a part of a list: past a comma, or at the end of the list
unfoldable pub past_comma : Mark → List Token → Option (List Token)
past_comma close ts = or_else (after_mark comma ts) (after_mark close ts >>= λ us. Some ts) (λ us. Some us)

unfoldable pub keyword_at : List Token → Option Text × List Token
keyword_at ts = or_else (target_at ts) (None, ts) (λ n. (Some n.0, n.1))

unfoldable pub may_follow : Bool → Option Text → Bool
may_follow true None = false
may_follow after_name n = true

-- the name of an argument, if it has one, where that may stand
unfoldable pub keyword_for : Bool → Reader (Option Text)
keyword_for after_name ts = pick (may_follow after_name (keyword_at ts).0) (Some (keyword_at ts)) None

-- a key and its colon
unfoldable pub key_at : Reader Literal
key_at ts = literal_at ts >>= λ k. after_mark colon k.1 >>= λ us. Some (k.0, us)

-- what stands before a part, where that may stand
unfoldable pub tag_at : (by : Tagging) → Bool → Reader (Tag by)
tag_at bare after_name ts = Some (tt, ts)
tag_at named after_name ts = keyword_for after_name ts
tag_at keyed after_name ts = key_at ts

unfoldable pub has_name : (by : Tagging) → Tag by → Bool
has_name named n = is_some n
has_name by tag = false

-- an argument that may be a part
unfoldable pub as_part : Tagging → Arg → List Token → Read Arg
as_part bare a ts = as_item a ts
as_part by a ts = Some (a, ts)

unfoldable pub is_target : Step → Bool
is_target (item a) = true
is_target (access by s t) = true
is_target s = false

-- an expression before its last step, where that may be set
unfoldable pub split : Expr → Option (Expr × Step)
split (after x s) = pick (is_target s) (Some (x, s)) None
split x = None

-- an expression of at most this depth
unfoldable pub guard : ℕ → Expr → List Token → Read Expr
guard room x ts = pick (nat_le (depth x) room) (Some (x, ts)) None

-- Up to the depth `room + 1`, where `inner` and `argument` read up to the depth `room`: `inner` expressions of at least a level.
-- A number beside a list bounds the turns of a loop: the count of the tokens is enough.
module _ (room : ℕ) (inner : ℕ → Reader Expr) (argument : Reader Arg) where
  unfoldable pub item_at : Reader Arg
  item_at ts = argument ts >>= λ a. as_item a.0 a.1

  -- an argument and what closes its bracket
  unfoldable pub bracketed : Reader Arg
  bracketed ts = argument ts >>= λ a. after_mark close_bracket a.1 >>= λ us. Some (a.0, us)

  -- an expression and what closes its parenthesis
  unfoldable pub enclosed : Reader Expr
  enclosed ts = inner 0 ts >>= λ x. after_mark close_paren x.1 >>= λ us. Some (x.0, us)

  -- a part, after what may stand before it
  unfoldable pub part_at : (by : Tagging) → Bool → Reader (Tag by × Arg)
  part_at by after_name ts = tag_at by after_name ts >>= λ t. argument t.1 >>= λ a. as_part by a.0 a.1 >>= λ b. Some ((t.0, b.0), b.1)

  -- parts, and what closes them
  unfoldable pub parts : (by : Tagging) → Mark → Bool → ℕ → Reader (Parts by)
  parts by close after_name zero ts = None
  parts by close after_name (suc n) ts =
      or_else (after_mark close ts)
      (part_at by after_name ts >>= λ p. past_comma close p.1 >>= λ us. parts by close (has_name by (p.0).0) n us >>= λ r. Some (more_parts (p.0).0 (p.0).1 r.0, r.1))
      (λ us. Some (no_parts, us))

  unfoldable pub all_arguments : Reader (Parts named)
  all_arguments ts = parts named close_paren false (length ts) ts

  -- `.name(` with its arguments
  unfoldable pub named_call : Reader (Text × Parts named)
  named_call ts = call_at ts >>= λ n. all_arguments n.1 >>= λ r. Some ((n.0, r.0), r.1)

  unfoldable pub atom : Reader Expr
  atom ts =
      or_else (name_at ts)
      (or_else (after_mark open_paren ts)
      (or_else (len_at ts)
      (or_else (maker_at ts)
      (literal_at ts >>= λ v. Some (literal v.0, v.1))
      (λ n. all_arguments n.1 >>= λ r. Some (make n.0 r.0, r.1)))
      (λ us. enclosed us >>= λ x. Some (len x.0, x.1)))
      (λ us. enclosed us >>= λ x. Some (paren x.0, x.1)))
      (λ n. Some (name n.0, n.1))

  unfoldable pub bound : Reader OptionalArg
  bound ts = pick (ends_bound ts) (Some (no_arg, ts)) (item_at ts >>= λ a. Some (some_arg a.0, a.1))

  unfoldable pub stride : Reader OptionalExpr
  stride ts =
      or_else (after_mark colon ts)
      (Some (no_expr, ts))
      (λ us. pick (ends_bound us) (Some (no_expr, us)) (inner 0 us >>= λ x. Some (some_expr x.0, x.1)))

  -- the rest of a slice, after its first colon
  unfoldable pub span_after : OptionalArg → Reader Sub
  span_after from ts = bound ts >>= λ to. stride to.1 >>= λ by. Some (span from to.0 by.0, by.1)

  -- a subscript that begins with this argument
  unfoldable pub sub_from : Arg → Reader Sub
  sub_from a ts = or_else (after_mark colon ts) (Some (key a, ts)) (λ us. pick (is_item a) (span_after (some_arg a) us) None)

  unfoldable pub sub_at : Reader Sub
  sub_at ts = or_else (after_mark colon ts) (argument ts >>= λ a. sub_from a.0 a.1) (λ us. span_after no_arg us)

  unfoldable pub second : Reader OptionalSub
  second ts =
      or_else (after_mark comma ts)
      (after_mark close_bracket ts >>= λ us. Some (no_sub, us))
      (λ us. sub_at us >>= λ s. after_mark close_bracket s.1 >>= λ vs. Some (some_sub s.0, vs))

  -- the subscripts of an accessor, after its bracket
  unfoldable pub subscripts : Accessor → Reader Step
  subscripts by ts = sub_at ts >>= λ s. second s.1 >>= λ t. Some (access by s.0 t.0, t.1)

  unfoldable pub brackets : Reader OptionalArg
  brackets ts = or_else (after_mark open_bracket ts) (Some (no_arg, ts)) (λ us. bracketed us >>= λ a. Some (some_arg a.0, a.1))

  -- the rest of a step, after its first arguments
  unfoldable pub called : Call → Text → Parts named → Reader Step
  called plain w r ts = Some (method w r, ts)
  called grouped w r ts = brackets ts >>= λ b. named_call b.1 >>= λ q. Some (group r b.0 (q.0).0 (q.0).1, q.1)
  called rolled w r ts = named_call ts >>= λ q. Some (rolling r (q.0).0 (q.0).1, q.1)
  called expanded w r ts = named_call ts >>= λ q. Some (expanding r (q.0).0 (q.0).1, q.1)

  -- a step with parentheses, after the first of them
  unfoldable pub call : Text → Reader Step
  call w ts = call_of w >>= λ c. all_arguments ts >>= λ r. called c w r.0 r.1

  -- a method of texts, after `str`
  unfoldable pub text_call : Reader Step
  text_call ts = text_call_at ts >>= λ n. all_arguments n.1 >>= λ r. Some (text_method n.0 r.0, r.1)

  -- a step after its dot and its word
  unfoldable pub dotted : Text → Reader Step
  dotted w ts =
      or_else (after_mark open_paren ts)
      (or_else (after_mark open_bracket ts)
      (pick (same_text w (codes "str")) (text_call ts) None)
      (λ us. accessor_at w >>= λ by. subscripts by us))
      (λ us. call w us)

  -- a step that begins with these brackets, if there are any
  unfoldable pub step_from : OptionalArg → Reader Step
  step_from no_arg ts = dotted_at ts >>= λ w. dotted w.0 w.1
  step_from (some_arg a) ts = Some (item a, ts)

  unfoldable pub step : Reader Step
  step ts = brackets ts >>= λ b. step_from b.0 b.1

  -- the steps after an expression
  unfoldable pub steps : ℕ → Expr → Reader Expr
  steps zero x ts = Some (x, ts)
  steps (suc n) x ts =
      pick (begins_step ts) (step ts >>= λ s. guard (suc room) (after x s.0) s.1 >>= λ y. steps n y.0 y.1) (Some (x, ts))

  unfoldable pub postfix : Reader Expr
  postfix ts = atom ts >>= λ x. steps (length x.1) x.0 x.1

  unfoldable pub signed : Reader Expr
  signed ts = or_else (sign_at ts) (postfix ts) (λ s. inner 6 s.1 >>= λ x. Some (unary s.0 x.0, x.1))

  -- the operators of at least a level after an expression; none follows a comparison
  unfoldable pub operators : ℕ → ℕ → Expr → Reader Expr
  operators zero l x ts = Some (x, ts)
  operators (suc n) l x ts =
      or_else (operator_at l ts)
      (Some (x, ts))
      (λ o. inner (suc (level o.0)) o.1 >>= λ y. guard (suc room) (binary o.0 x y.0) y.1 >>= λ z. pick (nat_eq (level o.0) 0) (Some z) (operators n l z.0 z.1))

  -- an expression of at least a level
  unfoldable pub expr_with : ℕ → Reader Expr
  expr_with l ts = signed ts >>= λ x. operators (length x.1) l x.0 x.1

  -- the rest of an expression that begins with this one
  unfoldable pub expr_from : Expr → Reader Expr
  expr_from x ts = steps (length ts) x ts >>= λ y. operators (length y.1) 0 y.0 y.1

  -- what begins with a parenthesis and an argument, without a comma
  unfoldable pub unparted : Arg → Reader Arg
  unparted (expr x) ts = after_mark close_paren ts >>= λ us. expr_from (paren x) us >>= λ y. Some (expr y.0, y.1)
  unparted a ts = None

  -- what begins with a parenthesis and this argument
  unfoldable pub opened : Arg → Reader Arg
  opened a ts =
      or_else (after_mark comma ts)
      (unparted a ts)
      (λ us. pick (is_item a) (parts bare close_paren false (length us) us >>= λ r. Some (row (more_parts tt a r.0), r.1)) None)

  unfoldable pub argument_with : Reader Arg
  argument_with ts =
      or_else (after_mark open_paren ts)
      (or_else (after_mark open_bracket ts)
      (or_else (after_mark open_brace ts)
      (or_else (after_word (codes "None") ts)
      (expr_with 0 ts >>= λ x. Some (expr x.0, x.1))
      (λ us. Some (nothing, us)))
      (λ us. parts keyed close_brace false (length us) us >>= λ r. Some (table r.0, r.1)))
      (λ us. parts bare close_bracket false (length us) us >>= λ r. Some (many r.0, r.1)))
      (λ us. argument us >>= λ a. opened a.0 a.1)

-- an expression, or an argument, of at most a depth
unfoldable mutual
  pub expr_at : ℕ → ℕ → Reader Expr
  expr_at zero l ts = None
  expr_at (suc room) l ts = expr_with room (expr_at room) (argument_at room) l ts

  pub argument_at : ℕ → Reader Arg
  argument_at zero ts = None
  argument_at (suc room) ts = argument_with room (expr_at room) (argument_at room) ts

-- ---- statements

unfoldable pub imported : List Token → Option Action
imported ts = after_word (codes "pandas") ts >>= after_word (codes "as") >>= after_word (codes "pd") >>= ended import_pandas

unfoldable pub deleted : List Token → Option Action
deleted ts =
    name_at ts >>= λ n. or_else (after_mark open_bracket n.1)
    (ended (drop_name n.0) n.1)
    (λ us. expr_at most_depth 0 us >>= λ x. after_mark close_bracket x.1 >>= ended (drop_column n.0 x.0))

-- a text, after the parenthesis that ends a printing
unfoldable pub closed : Text → List Token → Option Text
closed end ts = after_mark close_paren ts >>= ended end

-- what ends a printing: the text after the printed one
unfoldable pub end_at : List Token → Option Text
end_at ts =
    or_else (after_mark comma ts)
    (closed (codes "\n") ts)
    (λ us. after_word (codes "end") us >>= after_mark equals >>= text_at >>= λ s. closed s.0 s.1)

unfoldable pub printed : List Token → Option Action
printed ts = after_mark open_paren ts >>= λ us. expr_at most_depth 0 us >>= λ x. end_at x.1 >>= λ end. Some (print x.0 end)

unfoldable pub bound_to : Text → List Token → Option Action
bound_to n ts = expr_at most_depth 0 ts >>= λ x. ended (bind n x.0) x.1

unfoldable pub set : List Token → Option Action
set ts =
    pick (begins_minus ts)
    None
    (expr_at most_depth 6 ts >>= λ x. split x.0 >>= λ t. after_mark equals x.1 >>= λ us. argument_at most_depth us >>= λ a. ended (put t.0 t.1 a.0) a.1)

unfoldable pub assigned : List Token → Option Action
assigned ts = or_else (target_at ts) (set ts) (λ n. bound_to n.0 n.1)

-- the statement that the tokens spell
unfoldable pub action_read : List Token → Option Action
action_read ts =
    or_else (after_word (codes "import") ts)
    (or_else (after_word (codes "del") ts)
    (or_else (after_word (codes "print") ts) (assigned ts) printed)
    deleted)
    imported
