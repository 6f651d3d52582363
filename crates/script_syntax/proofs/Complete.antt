-- What is in the grammar is read.
use Rattle.{
  script_tokens.{proofs.cells.Common.{◌≡◌, ℕ, zero, suc, ◌≤◌, Bool, false, List, ◌∷◌, length, Option, Some, None, refl, arith, inl, inr, ◌⊎◌, codes, nat_eq, Text, Binary}, specs.language.{Token.{Token, word, op, mark, Mark, equals, dot, comma, colon, open_paren, close_paren, open_bracket, close_bracket, close_brace}, Tree.{Unary, Literal, Expr, Step, Sub, OptionalSub, OptionalArg, OptionalExpr, Tagging, bare, named, keyed, Tag, Arg, Parts, name, literal, unary, binary, after, len, make, paren, item, access, method, text_method, group, rolling, expanding, key, span, no_sub, some_sub, no_arg, some_arg, no_expr, some_expr, expr, many, row, table, nothing, no_parts, more_parts}, Depth.{depth, step_depth, sub_depth, optional_sub_depth, optional_arg_depth, optional_expr_depth, arg_depth, parts_depth}, Grammar.{level, IsMethodName, IsTextMethodName, SpellsTag, SpellsComma, SpellsExpr, SpellsStep, SpellsSecond, SpellsBrackets, SpellsSub, SpellsBound, SpellsStride, SpellsArg, SpellsParts}}},
  script_syntax.{specs.Reading.{dotted_at, opened_at, call_at, text_call_at, after_word, may_follow, call_of, accessor_at, maker_at, len_at, Reader, and_then, or_else, pick, after_mark, name_at, operator_at, sign_at, begins_step, ends_bound, Call, plain, grouped, rolled, expanded, past_comma, keyword_at, keyword_for, key_at, tag_at, has_name, item_at, bracketed, enclosed, part_at, parts, all_arguments, atom, bound, stride, span_after, sub_from, sub_at, second, subscripts, brackets, named_call, called, call, text_call, dotted, step_from, step, steps, postfix, signed, operators, expr_with, expr_from, unparted, opened, argument_with, expr_at, argument_at, word_at}, proofs.{Starts.{StartsExpr, StartsArg, expr_starts, arg_starts, part_starts, arg_no_mark, arg_no_end, expr_no_end, arg_no_target, Ends, EndsBound, mark_ends, step_begins, Closes, EndsSub, stride_ends}, Gives.{method_is, text_method_is, word_same, other_mark, name_reads, reserved_is_none, target_reads, operator_reads, operator_below, none_above, minus_reads, guard_reads, literal_reads, word_no_mark, no_len, literal_plain, item_yes, as_item_reads, as_part_reads, past_comma_reads, at_close_reads}, Takes.{mark_same, MayCome, may_come, CallIs, no_operator, level_small, not_zero, tilde_reads, mark_takes}, Sound.{FirstComes, expr_sound}, Shorter.{parts_shorter, expr_shorter, step_shorter, arg_shorter, tag_shorter, comma_shorter}}},
}
use Rattle.script_syntax.specs.At as at

-- ---- what is proved of each part

-- reading from the front comes to the loop after the expression, with turns enough
pub record AtSteps (x : Expr) (room : ℕ) (ts us : List Token) : Type 0 where
  turns : ℕ
  enough : length us ≤ turns
  same : at.signed room ts ≡ at.steps room turns x us

pub record AtOperators (x : Expr) (room l : ℕ) (ts us : List Token) : Type 0 where
  turns : ℕ
  enough : length us ≤ turns
  same : at.expr_with room l ts ≡ at.operators room turns l x us

abbrev HasSteps : ℕ → Expr → Type 0
HasSteps l x = (room : ℕ) (ts us : List Token) → SpellsExpr x l ts us → depth x ≤ suc room → AtSteps x room ts us

-- No operator that is looked for follows, or none that binds more tightly than the level m of what was read.
abbrev HasOperators : Expr → Type 0
HasOperators x = (room l m : ℕ) (ts us : List Token) → l ≤ m → m ≤ 6 → SpellsExpr x m ts us → begins_step us ≡ false → (operator_at l us ≡ None) ⊎ ((1 ≤ m) × (operator_at (suc m) us ≡ None))
    → depth x ≤ suc room → AtOperators x room l ts us

abbrev HasWhole : Expr → Type 0
HasWhole x = (room l : ℕ) (ts us : List Token) → l ≤ 6 → SpellsExpr x l ts us → Ends l us → depth x ≤ room → expr_at room l ts ≡ Some (x, us)

pub record ReadsExpr (x : Expr) : Type 0 where
  steps_after : HasSteps 7 x
  operators_after : HasOperators x
  pub whole : HasWhole x

abbrev Reads : {A : Type 0} → (ℕ → Reader A) → (A → List Token → List Token → Type 0) → (List Token → Type 0) → (A → ℕ) → A → Type 0
Reads read Spells Ends deep x = (room : ℕ) (ts us : List Token) → Spells x ts us → Ends us → deep x ≤ room → read room ts ≡ Some (x, us)

abbrev Any : List Token → Type 0
Any ts = Unit {0}

abbrev ReadsStep : Step → Type 0
ReadsStep = Reads at.step SpellsStep Any step_depth

abbrev ReadsSub : Sub → Type 0
ReadsSub = Reads at.sub_at SpellsSub EndsSub sub_depth

abbrev ReadsSecond : OptionalSub → Type 0
ReadsSecond = Reads at.second SpellsSecond Any optional_sub_depth

record ReadsOptional (a : OptionalArg) : Type 0 where
  as_brackets : Reads at.brackets SpellsBrackets (λ us. after_mark open_bracket us ≡ None) optional_arg_depth a
  as_bound : Reads at.bound SpellsBound EndsBound optional_arg_depth a
  as_from : (room : ℕ) (ts us : List Token) → SpellsBound a ts (mark colon ∷ us) → optional_arg_depth a ≤ room → at.sub_at room ts ≡ at.span_after room a us

abbrev ReadsStride : OptionalExpr → Type 0
ReadsStride = Reads at.stride SpellsStride EndsSub optional_expr_depth

abbrev ReadsArg : Arg → Type 0
ReadsArg = Reads argument_at SpellsArg (Ends 0) arg_depth

abbrev ReadsParts : {by : Tagging} → Parts by → Type 0
ReadsParts {by} r = (room : ℕ) (close : Mark) (after_name : Bool) (n : ℕ) (ts us : List Token) → Closes close → length ts ≤ n → SpellsParts r close ts us → FirstComes after_name r → parts_depth r ≤ room
    → at.parts room by close after_name n ts ≡ Some (r, us)

abbrev ReadsArgs : Parts named → Type 0
ReadsArgs = Reads at.all_arguments (λ r. SpellsParts r close_paren) Any parts_depth

-- what stands first stands after nothing
first : {by : Tagging} (r : Parts by) → FirstComes false r
first no_parts = tt
first (more_parts tag a r) = tt

args_read : (r : Parts named) → ReadsParts r → ReadsArgs r
unfolding all_arguments
args_read r q room ts us s e d = q room close_paren false (length ts) ts us (inl refl) (omega arith) s (first r) d

-- ---- loops that stop

depth_positive : (x : Expr) → 1 ≤ depth x
depth_positive (name n) = omega arith
depth_positive _ = omega arith

-- an expression that is read by its steps is read with its signs
signed_reads : (x : Expr) (room : ℕ) (ts us : List Token) → AtSteps x room ts us → begins_step us ≡ false → at.signed room ts ≡ Some (x, us)
unfolding steps pick
signed_reads = grind arith

-- and then comes to the loop over operators
climbs : (x : Expr) (room l : ℕ) (ts us : List Token) → at.signed room ts ≡ Some (x, us) → AtOperators x room l ts us
unfolding expr_with and_then
climbs = grind arith

-- which stops where none follows
operators_stop : (room n l : ℕ) (x : Expr) (us : List Token) → operator_at l us ≡ None → at.operators room n l x us ≡ Some (x, us)
unfolding operators or_else
operators_stop = grind arith

-- ---- a whole expression, from the loop over operators

whole_by : (x : Expr) → HasOperators x → HasWhole x
unfolding expr_at
whole_by x h zero l ts us le s e d = absurd (omega (arith, depth_positive x))
whole_by x h (suc room) l ts us le s e d =
    let a = h room l l ts us (omega arith) le s e.no_step (inl e.no_operator) d in
    rw a.same (search operators_stop)

reads : (x : Expr) → HasSteps 7 x → HasOperators x → ReadsExpr x
reads x steps operators = record { steps_after = steps; operators_after = operators; whole = whole_by x operators }

-- an expression of the highest level
highest : (x : Expr) → ((l : ℕ) → HasSteps l x) → ReadsExpr x
highest x h = reads x (h 7) (search (climbs, signed_reads))

-- an atom: the loop begins after it

name_steps : (n : Text) (l : ℕ) → HasSteps l (name n)
unfolding signed atom sign_at or_else postfix and_then
name_steps = grind (arith, name_reads)

literal_steps : (v : Literal) (l : ℕ) → HasSteps l (literal v)
unfolding signed atom or_else and_then sign_at pick postfix
literal_steps = grind (arith, literal_plain, literal_reads)

paren_steps : (x : Expr) → ReadsExpr x → (l : ℕ) → HasSteps l (paren x)
unfolding signed atom or_else and_then sign_at name_at word_at enclosed postfix
paren_steps = grind (arith, mark_same, mark_ends)

len_steps : (x : Expr) → ReadsExpr x → (l : ℕ) → HasSteps l (len x)
unfolding signed atom or_else and_then sign_at enclosed postfix len_at
len_steps = grind (arith, reserved_is_none, word_no_mark, word_same, mark_ends, mark_same)

call_is_read : (n : Text) (q : Parts named) (room : ℕ) (vs us : List Token) → IsMethodName n → ReadsArgs q → SpellsParts q close_paren vs us → parts_depth q ≤ room
    → at.named_call room (mark dot ∷ word n ∷ mark open_paren ∷ vs) ≡ Some ((n, q), us)
unfolding named_call and_then call_at opened_at pick dotted_at word_at
call_is_read = grind (arith, mark_same, method_is)

make_steps : (n : Text) (q : Parts named) → ReadsArgs q → (l : ℕ) → HasSteps l (make n q)
unfolding signed atom or_else and_then sign_at postfix maker_at call_at opened_at pick dotted_at word_at
make_steps = grind (arith, reserved_is_none, word_no_mark, no_len, word_same, mark_same, method_is)

after_steps : (x : Expr) (p : Step) → ReadsExpr x → ReadsStep p → (l : ℕ) → HasSteps l (after x p)
unfolding steps pick and_then
after_steps x p r q l room ts us (vs, s, t) d =
    let a = r.steps_after room ts vs s (omega arith) in
    turn _ a.enough a.same
  where
    turn : (n : ℕ) → length vs ≤ n → at.signed room ts ≡ at.steps room n x vs → AtSteps (after x p) room ts us
    turn zero le h = grind (arith, step_shorter)
    turn (suc n) le h = record { turns = n; enough = omega (arith, step_shorter p vs us t); same = grind (arith, guard_reads, step_begins) }

-- ---- signs and operators

unary_reads : (o : Unary) (x : Expr) → ReadsExpr x → ReadsExpr (unary o x)
unfolding signed or_else and_then
unary_reads o x r = reads _ (grind arith) (grind (climbs, arith, minus_reads, no_operator, tilde_reads))

-- a comparison is the last operator
last_operator : (room n l k : ℕ) (x : Expr) (us : List Token) → (operator_at l us ≡ None) ⊎ (1 ≤ k) → pick (nat_eq k 0) (Some (x, us)) (at.operators room n l x us) ≡ at.operators room n l x us
unfolding pick
last_operator = grind (arith, not_zero, operators_stop)

module _ (o : Binary) (x y : Expr) (r : ReadsExpr x) (q : ReadsExpr y) where
  binary_operators : HasOperators (binary o x y)
  unfolding operators or_else and_then begins_step
  binary_operators room l m ts us le top (h, vs, s, t) b f d =
      let a : AtOperators x room l ts (op o ∷ vs) = grind (arith, level_small, operator_below) in
      turn _ a.enough a.same
    where
      right : expr_at room (suc (level o)) vs ≡ Some (y, us)
      right = grind (arith, level_small, no_operator, none_above)

      turn : (n : ℕ) → length (op o ∷ vs) ≤ n → at.expr_with room l ts ≡ at.operators room n l x (op o ∷ vs) → AtOperators (binary o x y) room l ts us
      turn zero few e = absurd (omega arith)
      turn (suc n) few e = record { turns = n; enough = omega (arith, expr_shorter y (suc (level o)) vs us t); same = grind (arith, operator_reads, guard_reads, last_operator, right) }

  binary_reads : ReadsExpr (binary o x y)
  binary_reads = reads _ (grind (arith, level_small)) binary_operators

-- ---- arguments

abbrev as_expr : Expr × List Token → Option (Arg × List Token)
as_expr z = Some (expr z.0, z.1)

-- an argument that begins as an expression, without a parenthesis, is read as one
reads_as_expr : (room : ℕ) (ts : List Token) → StartsExpr ts → after_mark open_paren ts ≡ None → argument_at (suc room) ts ≡ and_then (expr_at (suc room) 0 ts) as_expr
unfolding argument_at argument_with expr_at or_else after_mark pick after_word
reads_as_expr = grind arith

abbrev AsArgument : ℕ → Type 0
AsArgument room = (ts : List Token) (y : Expr × List Token) → expr_at room 0 ts ≡ Some y → argument_at room ts ≡ as_expr y

-- after a parenthesis both ways go on from the expression in it
opened_same : (room : ℕ) → AsArgument room → (vs : List Token) (y : Expr × List Token) → expr_at (suc room) 0 (mark open_paren ∷ vs) ≡ Some y → argument_at (suc room) (mark open_paren ∷ vs) ≡ as_expr y
unfolding argument_at argument_with opened unparted expr_at expr_with expr_from signed postfix sign_at atom enclosed name_at word_at or_else and_then
opened_same = grind (arith, mark_same, other_mark, mark_takes)

-- what is read as an expression is read as an argument
as_argument : (room : ℕ) → AsArgument room
unfolding expr_at and_then
as_argument zero ts y e = absurd cc
as_argument (suc room) ts y e = go (as_argument room) _ refl
  where
    go : AsArgument room → (o : Option (List Token)) → after_mark open_paren ts ≡ o → argument_at (suc room) ts ≡ as_expr y
    go same None h = rw (reads_as_expr room ts (expr_starts _ 0 ts _ (rw e at (expr_sound (suc room) 0 ts (omega arith))).0.0) h, e) refl
    go same (Some vs) h =
        let f : ts ≡ mark open_paren ∷ vs = rw h at (mark_takes open_paren ts) in
        rw f (opened_same room same vs y (rw f at e))

expr_reads : (x : Expr) → ReadsExpr x → ReadsArg (expr x)
expr_reads x r room ts us s e d = as_argument room ts (x, us) (r.whole room 0 ts us (omega arith) s e d)

many_reads : (r : Parts bare) → ReadsParts r → ReadsArg (many r)
unfolding argument_at argument_with and_then or_else after_mark pick
many_reads r q zero ts us s e d = absurd (omega arith)
many_reads r q (suc room) ts us (vs, f, s) e d =
    rw (f, q room close_bracket false (length vs) vs us (inr (inl refl)) (omega arith) s (first r) (omega arith)) refl

table_reads : (r : Parts keyed) → ReadsParts r → ReadsArg (table r)
unfolding argument_at argument_with and_then or_else after_mark pick
table_reads r q zero ts us s e d = absurd (omega arith)
table_reads r q (suc room) ts us (vs, f, s) e d =
    rw (f, q room close_brace false (length vs) vs us (inr (inr refl)) (omega arith) s (first r) (omega arith)) refl

nothing_reads : ReadsArg nothing
unfolding argument_at argument_with or_else
nothing_reads = grind (arith, word_no_mark, word_same)

-- ---- parts

-- what stands past a comma, or at the end of the parts
record Goes {by : Tagging} (last : Tag by) (r : Parts by) (close : Mark) (ts us : List Token) : Type 0 where
  past : past_comma close ts ≡ Some us
  ends : Ends 0 ts
  no_name : after_mark equals ts ≡ None
  comes : FirstComes (has_name by last) r

comma_goes : {by : Tagging} (last : Tag by) (r : Parts by) (close : Mark) (ts us vs : List Token) → Closes close → SpellsComma last r ts us → SpellsParts r close us vs → Goes last r close ts us
unfolding after_mark pick begins_step operator_at
comma_goes last no_parts = grind (arith, at_close_reads, past_comma_reads, mark_ends)
comma_goes last (more_parts tag a r) = grind (arith, past_comma_reads, mark_ends, may_come)

tag_reads : (by : Tagging) (after_name : Bool) (tag : Tag by) (a : Arg) (ts us vs : List Token) → SpellsTag by tag ts us → MayCome by after_name tag → SpellsArg a us vs → after_mark equals vs ≡ None
    → tag_at by after_name ts ≡ Some (tag, us)
unfolding tag_at keyword_for keyword_at may_follow key_at or_else and_then pick after_mark
tag_reads named after_name tag = grind (arith, arg_no_target, target_reads)
tag_reads by after_name tag = grind (arith, literal_reads)

no_close : (close : Mark) (ts : List Token) → Closes close → StartsArg ts → after_mark close ts ≡ None
no_close = grind (arith, arg_no_mark)

row_reads : (tag : Tag bare) (a : Arg) (rest : Parts bare) → ReadsArg a → ReadsParts rest → ReadsArg (row (more_parts tag a rest))
unfolding argument_at argument_with opened or_else and_then after_mark pick
row_reads tag a rest r q zero ts us s e d = absurd (omega arith)
row_reads tag a rest r q (suc room) ts us (ws, f, (vs, i, s, t)) e d =
    rw (f, r room ws (mark comma ∷ vs) s (mark_ends comma vs refl) (omega arith), item_yes a i, q room close_paren false (length vs) vs us (inl refl) (omega arith) t (first rest) (omega arith)) refl

-- ---- subscripts

span_reads : (from to : OptionalArg) (by : OptionalExpr) → ReadsOptional from → ReadsOptional to → ReadsStride by → ReadsSub (span from to by)
unfolding span_after and_then
span_reads from to by f t b room = grind (arith, stride_ends, f.as_from room, t.as_bound room, b room)

second_ends : (t : OptionalSub) (ts us : List Token) → SpellsSecond t ts us → EndsSub ts
unfolding after_mark pick ends_bound begins_step operator_at
second_ends no_sub = grind arith
second_ends (some_sub t) = grind arith

-- ---- steps

call_reads_as : (c : Call) (w : Text) (q : Parts named) (room : ℕ) (vs ws : List Token) → CallIs c w → ReadsArgs q → SpellsParts q close_paren vs ws → parts_depth q ≤ room
    → at.step room (mark dot ∷ word w ∷ mark open_paren ∷ vs) ≡ called room (expr_at room) (argument_at room) c w q ws
unfolding dotted call or_else and_then step step_from brackets call_of pick dotted_at word_at
call_reads_as = grind (arith, other_mark, mark_same, method_is)

text_call_is_read : (n : Text) (q : Parts named) (room : ℕ) (vs us : List Token) → IsTextMethodName n → ReadsArgs q → SpellsParts q close_paren vs us → parts_depth q ≤ room
    → at.text_call room (mark dot ∷ word n ∷ mark open_paren ∷ vs) ≡ Some (text_method n q, us)
unfolding text_call and_then text_call_at opened_at pick dotted_at word_at
text_call_is_read = grind (arith, mark_same, text_method_is)

group_reads : (q : Parts named) (by : OptionalArg) (n : Text) (p : Parts named) → ReadsArgs q → ReadsOptional by → ReadsArgs p → ReadsStep (group q by n p)
unfolding called and_then
group_reads q by n p r b k room ts us (vs, ws, xs, e, s, t, ys, f, h, u) g d =
    rw (
      e,
      call_reads_as grouped (codes "groupby") q room vs ws refl r s (omega arith),
      b.as_brackets room ws xs t (rw f (other_mark dot open_bracket _ (λ e. cc))) (omega arith),
      f,
      call_is_read n p room ys us h k u (omega arith),
    ) refl

rolling_reads : (q : Parts named) (n : Text) (p : Parts named) → ReadsArgs q → ReadsArgs p → ReadsStep (rolling q n p)
unfolding called and_then
rolling_reads q n p r k room ts us (vs, ws, e, s, xs, f, h, t) g d =
    rw (e, call_reads_as rolled (codes "rolling") q room vs ws refl r s (omega arith), f, call_is_read n p room xs us h k t (omega arith)) refl

expanding_reads : (q : Parts named) (n : Text) (p : Parts named) → ReadsArgs q → ReadsArgs p → ReadsStep (expanding q n p)
unfolding called and_then
expanding_reads q n p r k room ts us (vs, ws, e, s, xs, f, h, t) g d =
    rw (e, call_reads_as expanded (codes "expanding") q room vs ws refl r s (omega arith), f, call_is_read n p room xs us h k t (omega arith)) refl

-- ---- all of them

mutual
  unfolding or_else and_then pick word_at dotted_at after_mark ends_bound begins_step operator_at step step_from brackets bracketed dotted subscripts accessor_at called bound item_at sub_at sub_from span_after stride second parts part_at

  pub expr_is_read : (x : Expr) → ReadsExpr x
  expr_is_read (name n) = highest _ (name_steps n)
  expr_is_read (literal v) = highest _ (literal_steps v)
  expr_is_read (unary o x) = unary_reads o x (expr_is_read x)
  expr_is_read (binary o x y) = binary_reads o x y (expr_is_read x) (expr_is_read y)
  expr_is_read (after x p) = highest _ (after_steps x p (expr_is_read x) (step_is_read p))
  expr_is_read (len x) = highest _ (len_steps x (expr_is_read x))
  expr_is_read (make n r) = highest _ (make_steps n r (args_read r (parts_are_read r)))
  expr_is_read (paren x) = highest _ (paren_steps x (expr_is_read x))

  step_is_read : (p : Step) → ReadsStep p
  step_is_read (item a) = grind (arith, mark_ends, arg_is_read a)
  step_is_read (access by s t) = grind (arith, second_ends, sub_is_read s, second_is_read t)
  step_is_read (method n q) = grind (arith, call_reads_as plain n q, args_read q (parts_are_read q))
  step_is_read (text_method n q) = grind (arith, text_call_is_read n q, args_read q (parts_are_read q))
  step_is_read (group r by n q) = group_reads r by n q (args_read r (parts_are_read r)) (optional_is_read by) (args_read q (parts_are_read q))
  step_is_read (rolling r n q) = rolling_reads r n q (args_read r (parts_are_read r)) (args_read q (parts_are_read q))
  step_is_read (expanding r n q) = expanding_reads r n q (args_read r (parts_are_read r)) (args_read q (parts_are_read q))

  sub_is_read : (s : Sub) → ReadsSub s
  sub_is_read (key a) = grind (arith, arg_no_mark, arg_starts, arg_is_read a)
  sub_is_read (span from to by) = span_reads from to by (optional_is_read from) (optional_is_read to) (stride_is_read by)

  second_is_read : (t : OptionalSub) → ReadsSecond t
  second_is_read no_sub = grind arith
  second_is_read (some_sub s) = grind (arith, sub_is_read s)

  optional_is_read : (a : OptionalArg) → ReadsOptional a
  optional_is_read no_arg = grind arith
  optional_is_read (some_arg a) = grind (arith, mark_ends, as_item_reads, arg_no_end, arg_starts, arg_no_mark, item_yes, arg_is_read a)

  stride_is_read : (by : OptionalExpr) → ReadsStride by
  stride_is_read no_expr = grind arith
  stride_is_read (some_expr x) = grind (arith, expr_no_end, expr_starts, expr_is_read x)

  pub arg_is_read : (a : Arg) → ReadsArg a
  arg_is_read (expr x) = expr_reads x (expr_is_read x)
  arg_is_read (many r) = many_reads r (parts_are_read r)
  arg_is_read (row no_parts) = grind arith
  arg_is_read (row (more_parts tag a r)) = row_reads tag a r (arg_is_read a) (parts_are_read r)
  arg_is_read (table r) = table_reads r (parts_are_read r)
  arg_is_read nothing = nothing_reads

  parts_are_read : {by : Tagging} (r : Parts by) → ReadsParts r
  parts_are_read no_parts room close after_name (suc n) ts us c le s f d = grind arith
  parts_are_read r room close after_name zero ts us c le s f d = grind (arith, parts_shorter r)
  parts_are_read {by} (more_parts tag a r) room close after_name (suc n) ts us c le (vs, ws, xs, t, i, s, e, m) f d =
      let g = comma_goes tag r close ws xs us c e m in
      let less : length xs ≤ n = omega (arith, le, tag_shorter by tag ts vs t, arg_shorter a vs ws s, comma_shorter tag r ws xs e) in
      rw (
        no_close close ts c (part_starts by tag a ts vs ws t s),
        tag_reads by after_name tag a ts vs ws t f s g.no_name,
        arg_is_read a room vs ws s g.ends (omega (arith, d)),
        as_part_reads by a ws i,
        g.past,
        parts_are_read r room close (has_name by tag) n xs us c less m g.comes (omega (arith, d)),
      ) refl
