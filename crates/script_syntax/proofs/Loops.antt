-- The loops of the parser, turn by turn.
use Rattle.{
  script_tokens.{proofs.cells.Common.{leb_tells, eqb_tells, err_from_is_err_and, length-map, ◌≡◌, ℕ, suc, ◌+◌, ◌-◌, ◌<◌, ◌≤◌, max, Bool, List, [], ◌∷◌, ◌++◌, Option, Some, None, Result, Err, refl, ◌⊎◌, arith, nat_eq}, specs.language.{Token.{Token, Mark}, Tree.{Tagging, Tag, Expr, Arg, Parts, binary, after, no_parts, more_parts, parts}, Depth.{depth, arg_depth, parts_depth}, Grammar.{level}}},
  std.specs.Result.{IsErr, IsErrAnd},
  script_syntax.specs.{declared.refusal.Refusal.{Refusal}, Found.{before_parts, after_parts}, Reading.{and_then, or_else, pick, guard, after_mark, past_comma, begins_step, operator_at, has_name, steps, operators, parts as read_parts, expr_at}},
}
use Rattle.script_syntax.specs.At as at

pub err_is : {X : Type 0} (r : Refusal) (result : Result X Refusal) → IsErr result × IsErrAnd result (λ e. e ≡ r) → result ≡ Err r
err_is = grind (arith, err_from_is_err_and)

pub guard_tells : (room : ℕ) (x : Expr) (ts : List Token) → ((guard room x ts ≡ Some (x, ts)) × (depth x ≤ room)) ⊎ ((guard room x ts ≡ None) × (room < depth x))
unfolding guard pick
guard_tells = grind (arith, leb_tells)

-- ---- steps and operators, with a bound of the turns

pub steps_go : (room n : ℕ) (x : Expr) (ts : List Token) → 1 ≤ n
    → at.steps room n x ts ≡ pick (begins_step ts) (and_then (at.step room ts) (λ s. and_then (guard (suc room) (after x s.0) s.1) (λ y. at.steps room (n - 1) y.0 y.1))) (Some (x, ts))
unfolding steps
steps_go = grind arith

pub steps_end : (room n : ℕ) (x : Expr) (ts : List Token) → n ≤ 0 → at.steps room n x ts ≡ Some (x, ts)
unfolding steps
steps_end = grind arith

pub operators_go : (room n l : ℕ) (x : Expr) (ts : List Token) → 1 ≤ n
    → at.operators room n l x ts ≡ or_else (operator_at l ts) (Some (x, ts)) (λ o. and_then (expr_at room (level o.0 + 1) o.1) (λ y. and_then (guard (suc room) (binary o.0 x y.0) y.1) (λ z. pick (nat_eq (level o.0) 0) (Some z) (at.operators room (n - 1) l z.0 z.1))))
unfolding operators
operators_go = grind arith

pub operators_end : (room n l : ℕ) (x : Expr) (ts : List Token) → n ≤ 0 → at.operators room n l x ts ≡ Some (x, ts)
unfolding operators
operators_end = grind arith

-- ---- parts that were begun

before_none : {by : Tagging} (front : List (Tag by × Arg)) → before_parts front no_parts ≡ parts front
before_none [] = refl
before_none (p ∷ front) = cc (before_none front)

before_push : {by : Tagging} (front : List (Tag by × Arg)) (p : Tag by × Arg) (rest : Parts by) → before_parts front (more_parts p.0 p.1 rest) ≡ before_parts (front ++ p ∷ []) rest
before_push [] p rest = refl
before_push (q ∷ front) p rest = cc (before_push front p rest)

pub parts_depth_push : (by : Tagging) (front : List (Tag by × Arg)) (p : Tag by × Arg) → parts_depth (parts (front ++ p ∷ [])) ≡ max (parts_depth (parts front)) (arg_depth p.1)
parts_depth_push by [] p = omega arith
parts_depth_push by (q ∷ front) p = omega (arith, parts_depth_push by front p)

pub after_none : {by : Tagging} (read : Option (Parts by × List Token)) → after_parts [] read ≡ read
unfolding after_parts
after_none = grind arith

-- ---- parts, turn by turn

pub parts_go : (room : ℕ) (by : Tagging) (close : Mark) (named : Bool) (n : ℕ) (front : List (Tag by × Arg)) (ts : List Token) → 1 ≤ n
    → after_parts front (at.parts room by close named n ts)
    ≡ or_else (after_mark close ts) (and_then (at.part_at room by named ts) (λ p. and_then (past_comma close p.1) (λ us. after_parts (front ++ p.0 ∷ []) (at.parts room by close (has_name by (p.0).0) (n - 1) us)))) (λ us. Some (parts front, us))
unfolding read_parts or_else and_then after_parts
parts_go = grind (arith, before_push, before_none)

pub parts_end : (room : ℕ) (by : Tagging) (close : Mark) (named : Bool) (n : ℕ) (front : List (Tag by × Arg)) (ts : List Token) → n ≤ 0 → after_parts front (at.parts room by close named n ts) ≡ None
unfolding read_parts after_parts
parts_end = grind arith

pub ruleset turns = (length-map, err_is, guard_tells, eqb_tells, steps_go, steps_end, operators_go, operators_end, parts_go, parts_end, parts_depth_push)
