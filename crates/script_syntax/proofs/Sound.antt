-- What is read is in the grammar, and no deeper than was allowed.
use Rattle.{
  script_tokens.{proofs.cells.Common.{◌≡◌, ℕ, zero, suc, ◌≤◌, Bool, true, false, List, ◌∷◌, length, Option, Some, None, refl, arith, eqb_tells, codes, Text, same_text, Binary}, specs.language.{Token.{Token, word, op, mark, Mark, dot, open_paren, close_paren}, Tree.{binary, Expr, Step, Sub, Tagging, Tag, Arg, Parts, no_parts, more_parts}, Depth.{depth, step_depth, sub_depth, optional_sub_depth, optional_arg_depth, optional_expr_depth, arg_depth, parts_depth}, Grammar.{level, left_level, IsTextMethodName, IsItem, IsPart, SpellsTag, SpellsComma, SpellsExpr, SpellsStep, SpellsSecond, SpellsBrackets, SpellsSub, SpellsBound, SpellsStride, SpellsArg, SpellsParts}}},
  script_syntax.{proofs.{Starts.{Closes, part_starts}, Tools.{Only, Sound, guard_takes, text_is}, Takes.{mark_takes, word_takes, name_takes, dotted_takes, call_takes, text_call_takes, len_takes, maker_takes, operator_takes, sign_takes, literal_takes, accessor_takes, call_of_takes, item_is, comma_takes, MayCome, may_come, tag_takes, part_takes, no_operator, no_tokens, level_small}, Shorter.{expr_shorter, lower}, Gives.{operator_reads}}, specs.Reading.{text_call_at, and_then, or_else, pick, as_item, operator_at, past_comma, item_at, bracketed, enclosed, has_name, part_at, parts, all_arguments, atom, bound, stride, span_after, sub_from, sub_at, second, subscripts, brackets, named_call, called, call, text_call, dotted, step_from, step, steps, postfix, signed, operators, expr_with, expr_from, unparted, opened, argument_with, expr_at, argument_at}},
}
use Rattle.script_syntax.specs.At as at

abbrev Is : {A : Type 0} → (A → List Token → List Token → Type 0) → (A → ℕ) → ℕ → List Token → A × List Token → Type 0
Is Spells deep room ts y = Spells y.0 ts y.1 × (deep y.0 ≤ room)

abbrev pub IsExpr : ℕ → ℕ → List Token → Expr × List Token → Type 0
IsExpr room l = Is (λ x. SpellsExpr x l) depth room

abbrev pub Stops : ℕ → List Token → Type 0
Stops l us = 1 ≤ l → operator_at l us ≡ None

abbrev pub IsArg : ℕ → List Token → Arg × List Token → Type 0
IsArg = Is SpellsArg arg_depth

abbrev IsStep : ℕ → List Token → Step × List Token → Type 0
IsStep = Is SpellsStep step_depth

abbrev IsSub : ℕ → List Token → Sub × List Token → Type 0
IsSub = Is SpellsSub sub_depth

-- what stands before the first part may stand there
abbrev pub FirstComes : {by : Tagging} → Bool → Parts by → Type 0
FirstComes after_name no_parts = Unit {0}
FirstComes {by} after_name (more_parts tag a rest) = MayCome by after_name tag

abbrev IsParts : {by : Tagging} → Mark → ℕ → List Token → Parts by × List Token → Type 0
IsParts close = Is (λ r. SpellsParts r close) parts_depth

-- what stands past a comma, or at the end of the parts
parts_comma : {by : Tagging} (last : Tag by) (r : Parts by) (close : Mark) (ts us vs : List Token) → Closes close → past_comma close ts ≡ Some us → SpellsParts r close us vs
    → FirstComes (has_name by last) r → SpellsComma last r ts us
parts_comma last no_parts close ts us vs c p s f = grind (arith, comma_takes)
parts_comma {by} last (more_parts tag a r) close ts us vs c p (ws, xs, ys, t, i, q, e, s) f =
    let starts = part_starts by tag a us ws xs t q in
    (grind (arith, comma_takes, starts), (may_come by last tag).0 f)

-- what goes on from a value, and what a test lets be read
then_only : {A B : Type 0} (P : A → Type 0) (Q : B → Type 0) (o : Option A) (go : A → Option B) → Only P o → ((a : A) → P a → Only Q (go a)) → Only Q (and_then o go)
unfolding and_then
then_only P Q None go h so = tt
then_only P Q (Some a) go h so = so a h

pick_only : {B : Type 0} (Q : B → Type 0) (test : Bool) (o : Option B) → (test ≡ true → Only Q o) → Only Q (pick test o None)
unfolding pick
pick_only Q true o so = so refl
pick_only Q false o so = tt

-- the name of a method of texts, after a dot and before a parenthesis
abbrev IsTextCall : List Token → Text × List Token → Type 0
IsTextCall ts n = (ts ≡ mark dot ∷ word n.0 ∷ mark open_paren ∷ n.1) × IsTextMethodName n.0

-- the level of what is read so far
own_level : Expr → ℕ
own_level (binary o x y) = level o
own_level _ = 6

own_binary : (o : Binary) (x y : Expr) → own_level (binary o x y) ≡ level o
unfolding own_level
own_binary o x y = refl

sixth : (x : Expr) (l : ℕ) (ts us : List Token) → 6 ≤ l → SpellsExpr x l ts us → (own_level x ≡ 6) × SpellsExpr x 6 ts us
unfolding own_level
sixth = grind (arith, level_small, lower)

left_side : (o : Binary) (x : Expr) (m : ℕ) (ts us : List Token) → 1 ≤ m → operator_at (suc m) (op o ∷ us) ≡ None → SpellsExpr x m ts (op o ∷ us) → (level o ≤ m) × SpellsExpr x (left_level o) ts (op o ∷ us)
left_side = grind (arith, operator_reads, lower)

module _ (room : ℕ) (inner_sound : (l : ℕ) (ts : List Token) → l ≤ 6 → Only (λ y. IsExpr room l ts y × Stops l y.1) (expr_at room l ts)) (argument_sound : Sound (argument_at room) (IsArg room)) where
  item_sound : Sound (item_at room (expr_at room) (argument_at room)) (λ ts y. IsArg room ts y × IsItem y.0)
  unfolding item_at as_item and_then pick
  item_sound = grind (arith, item_is)

  enclosed_sound : Sound (at.enclosed room) (Is (λ x ts us. SpellsExpr x 0 ts (mark close_paren ∷ us)) depth room)
  unfolding enclosed and_then
  enclosed_sound = grind (arith, mark_takes)

  -- ---- lists

  IsPartAt : (by : Tagging) → Bool → List Token → (Tag by × Arg) × List Token → Type 0
  IsPartAt by after_name ts p = (vs : List Token) × SpellsTag by (p.0).0 ts vs × IsPart by (p.0).1 × IsArg room vs ((p.0).1, p.1) × MayCome by after_name (p.0).0

  part_sound : (by : Tagging) (after_name : Bool) → Sound (at.part_at room by after_name) (IsPartAt by after_name)
  unfolding IsPartAt part_at and_then
  part_sound by after_name = grind (arith, tag_takes, part_takes)

  AreParts : (by : Tagging) → Mark → Bool → List Token → Parts by × List Token → Type 0
  AreParts by close after_name ts y = IsParts close room ts y × FirstComes after_name y.0

  are_none : (by : Tagging) (close : Mark) (after_name : Bool) (ts us : List Token) → ts ≡ mark close ∷ us → AreParts by close after_name ts (no_parts, us)
  unfolding AreParts
  are_none by close after_name ts us e = ((e, omega arith), tt)

  are_more : (by : Tagging) (close : Mark) (after_name : Bool) (ts us : List Token) (p : (Tag by × Arg) × List Token) (y : Parts by × List Token) → Closes close → IsPartAt by after_name ts p → past_comma close p.1 ≡ Some us
      → AreParts by close (has_name by (p.0).0) us y → AreParts by close after_name ts (more_parts (p.0).0 (p.0).1 y.0, y.1)
  unfolding AreParts IsPartAt
  are_more by close after_name ts us p y c (vs, t, i, s, f) e ((u, d), g) =
      (((vs, p.1, us, t, i, s.0, parts_comma (p.0).0 y.0 close p.1 us y.1 c e u g, u), omega (arith, s.1, d)), f)

  parts_sound : (by : Tagging) (close : Mark) (n : ℕ) (after_name : Bool) → Closes close → Sound (at.parts room by close after_name n) (AreParts by close after_name)
  unfolding parts and_then or_else
  parts_sound by close zero after_name = grind arith
  parts_sound by close (suc n) after_name = grind (arith, mark_takes, are_none, part_sound, are_more, parts_sound by close n)

  all_sound : Sound (at.all_arguments room) (IsParts close_paren room)
  unfolding all_arguments AreParts
  all_sound = grind (arith, parts_sound)

  -- ---- atoms

  atom_sound : Sound (at.atom room) (IsExpr (suc room) 7)
  unfolding atom and_then or_else
  atom_sound = grind (arith, name_takes, mark_takes, len_takes, enclosed_sound, maker_takes, all_sound, literal_takes)

  -- ---- subscripts

  bound_sound : Sound (at.bound room) (Is SpellsBound optional_arg_depth room)
  unfolding bound and_then pick
  bound_sound = grind (arith, item_sound)

  stride_sound : Sound (at.stride room) (Is SpellsStride optional_expr_depth room)
  unfolding stride and_then or_else pick
  stride_sound = grind (arith, mark_takes)

  sub_sound : Sound (at.sub_at room) (IsSub room)
  unfolding sub_at sub_from span_after and_then or_else pick
  sub_sound = grind (arith, bound_sound, stride_sound, mark_takes, item_is)

  second_sound : Sound (at.second room) (Is SpellsSecond optional_sub_depth room)
  unfolding second and_then or_else
  second_sound = grind (arith, sub_sound, mark_takes)

  -- ---- steps

  brackets_sound : Sound (at.brackets room) (Is SpellsBrackets optional_arg_depth room)
  unfolding brackets bracketed and_then or_else
  brackets_sound = grind (arith, mark_takes)

  -- what stands after a dot and a word is a method of texts, where the word is `str`
  text_call_sound : (w : Text) (ts : List Token) → Only (IsStep room (mark dot ∷ word w ∷ ts)) (pick (same_text w (codes "str")) (at.text_call room ts) None)
  unfolding text_call
  text_call_sound w ts =
      let Q : Step × List Token → Type 0 = IsStep room (mark dot ∷ word w ∷ ts) in
      pick_only Q (same_text w (codes "str")) _
      (λ e. then_only (IsTextCall ts) Q (text_call_at ts) _ (text_call_takes ts)
      (λ n h. then_only (IsParts close_paren room n.1) Q (at.all_arguments room n.1) _ (all_sound n.1) (λ r s. ((n.1, cc (text_is w (codes "str") e, h.0), h.1, s.0), s.1))))

  step_sound : Sound (at.step room) (IsStep room)
  unfolding step step_from dotted subscripts call called named_call and_then or_else
  step_sound = grind (arith, brackets_sound, dotted_takes, mark_takes, call_of_takes, all_sound, call_takes, text_call_sound, accessor_takes, sub_sound, second_sound)

  steps_sound : (ts : List Token) (n : ℕ) (x : Expr) (us : List Token) → IsExpr (suc room) 7 ts (x, us) → Only (IsExpr (suc room) 7 ts) (at.steps room n x us)
  unfolding steps and_then pick
  steps_sound ts zero x us s = s
  steps_sound ts (suc n) x us s = grind (arith, step_sound, guard_takes, steps_sound ts n)

  signed_sound : Sound (at.signed room) (IsExpr (suc room) 6)
  unfolding signed postfix and_then or_else
  signed_sound ts = grind (arith, sign_takes, atom_sound, steps_sound ts, lower)

  -- ---- operators

  abbrev Ended : ℕ → List Token → Expr × List Token → Type 0
  Ended l ts y = IsExpr (suc room) l ts y × Stops l y.1

  -- No operator above the own level of what is read so far follows, so one that follows has it for its left side.
  operators_sound : (l : ℕ) (ts : List Token) (n : ℕ) (x : Expr) (us : List Token) → length us ≤ n → 1 ≤ own_level x → l ≤ own_level x → operator_at (suc (own_level x)) us ≡ None
      → IsExpr (suc room) (own_level x) ts (x, us) → Only (Ended l ts) (at.operators room n l x us)
  unfolding operators and_then or_else pick
  operators_sound l ts zero x us = grind (arith, lower, no_tokens)
  operators_sound l ts (suc n) x us = grind (arith, lower, operator_takes, level_small, left_side, own_binary, guard_takes, eqb_tells, expr_shorter, operators_sound l ts n)

  expr_with_sound : (l : ℕ) (ts : List Token) → l ≤ 6 → Only (Ended l ts) (at.expr_with room l ts)
  unfolding expr_with and_then
  expr_with_sound l ts = grind (arith, signed_sound, no_operator, sixth, operators_sound l ts)

  -- ---- arguments

  argument_with_sound : Sound (at.argument_with room) (IsArg (suc room))
  unfolding AreParts argument_with opened unparted expr_from and_then or_else pick
  argument_with_sound ts = grind (arith, mark_takes, parts_sound, item_is, word_takes, expr_with_sound, sixth, no_operator, steps_sound ts, operators_sound 0 ts)

mutual
  unfolding expr_at argument_at

  pub expr_sound : (room l : ℕ) (ts : List Token) → l ≤ 6 → Only (λ y. IsExpr room l ts y × Stops l y.1) (expr_at room l ts)
  expr_sound zero l ts le = tt
  expr_sound (suc room) l ts le = expr_with_sound room (expr_sound room) (argument_sound room) l ts le

  pub argument_sound : (room : ℕ) → Sound (argument_at room) (IsArg room)
  argument_sound zero ts = tt
  argument_sound (suc room) ts = argument_with_sound room (expr_sound room) (argument_sound room) ts
