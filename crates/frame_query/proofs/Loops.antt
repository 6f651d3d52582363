-- The loops of the reader, turn by turn, and what is read within a depth by what is read one depth lower.
use Rattle.{
  script_tokens.{proofs.cells.Common.{length-map, err_from_is_err_and, ◌≡◌, ℕ, suc, ◌-◌, ◌≤◌, max, List, [], ◌∷◌, ◌++◌, Option, Some, None, Result, Err, refl, arith, Bor}, specs.language.{Token.{comma, close_bracket}, Depth.{arg_depth}}},
  std.specs.Result.{IsErr, IsErrAnd},
  query_tokens.specs.declared.token.QueryToken.{QueryToken},
  meaning_query.specs.Reading.{and_then, or_else, after_mark, constant_at, Item, item_of, more_at, joint_for, Form, joints, query_at},
  frame_query.specs.{declared.{fault.QueryFault.{QueryFault}, form.Form.{Form as CodeForm}}, Found.{Finds, items_depth}},
}
use Rattle.meaning_query.specs.At as at
use Rattle.meaning_query.specs.QueryToken as spec

pub err_is : {X : Type 0} (e : QueryFault) (result : Result X QueryFault) → IsErr result × IsErrAnd result (λ f. f ≡ e) → result ≡ Err e
err_is = grind (arith, err_from_is_err_and)

pub joints_go : (room n l : ℕ) (x : Form) (ts : List spec.QueryToken) → 1 ≤ n
    → at.joints room n l x ts ≡ or_else (joint_for l x.1 ts) (Some (x, ts)) (λ j. and_then (at.joined room j.0 x.0 j.1) (λ y. at.joints room (n - 1) l y.0 y.1))
unfolding joints
joints_go = grind arith

pub joints_end : (room n l : ℕ) (x : Form) (ts : List spec.QueryToken) → n ≤ 0 → at.joints room n l x ts ≡ Some (x, ts)
unfolding joints
joints_end = grind arith

pub more_go : (n : ℕ) (items : List Item) (ts : List spec.QueryToken) → 1 ≤ n
    → more_at n items ts ≡ or_else (after_mark close_bracket ts) (and_then (after_mark comma ts) (λ us. and_then (constant_at us) (λ v. more_at (n - 1) (items ++ item_of v.0 ∷ []) v.1))) (λ us. Some (items, us))
unfolding more_at
more_go = grind arith

pub more_end : (n : ℕ) (items : List Item) (ts : List spec.QueryToken) → n ≤ 0 → more_at n items ts ≡ None
unfolding more_at
more_end = grind arith

pub items_depth_push : (front : List Item) (p : Item) → items_depth (front ++ p ∷ []) ≡ max (items_depth front) (arg_depth p.1)
items_depth_push [] p = omega arith
items_depth_push (q ∷ front) p = omega (arith, items_depth_push front p)

pub ruleset turns = (length-map, err_is, joints_go, joints_end, more_go, more_end, items_depth_push)

-- ---- depths

pub finds_as : (m n : ℕ) (r : Result (CodeForm × Bor (List QueryToken)) QueryFault) (one two : Option (Form × List spec.QueryToken)) → m ≡ n → two ≡ one → Finds m r one → Finds n r two
finds_as = grind arith

pub query_none : (room l : ℕ) (ts : List spec.QueryToken) → room ≡ 0 → query_at room l ts ≡ None
unfolding query_at
query_none room l ts e = rw e refl

pub query_deeper : (room less l : ℕ) (ts : List spec.QueryToken) → room ≡ suc less → query_at room l ts ≡ at.query_with less l ts
unfolding query_at
query_deeper room less l ts e = rw e refl
