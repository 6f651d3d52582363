-- What is read is in the grammar, and no deeper than was allowed.
use Rattle.{meaning_language.{proofs.cells.Common.{◌≡◌, ℕ, zero, suc, ◌≤◌, ◌⊎◌, false, length, List, [], ◌∷◌, map, refl, ap, arith, nat_le, codes}, specs.{Token.{word, op, mark, open_paren, close_paren}, Tree.{sub, Binary, Literal, Expr}, Depth.{depth}}}, meaning_query.{specs.{QueryToken.{QueryToken, plain, at_sign, quoted}, Query.{Query, column, script_name, constant, minus, negated, binary, is_in, is_not_in, paren, mask_of, listed, is_listed, IsQueryName, SpellsConstant, SpellsQuery, query_level, query_left_level, begins_number}, Reading.{after_mark, after_word, after_minus, column_at, script_name_at, constant_at, item_of, list_at, Joint, operator, inside, outside, joint_level, joint_left_level, joint_for, Form, column_mask, is_among, enclosed, place, prefixed, joined, joints, query_with, query_at}}, proofs.Takes.{Only, Sound, then_only, or_only, pick_only, at_most, mark_takes, word_takes, minus_takes, column_takes, script_name_takes, constant_takes, IsList, list_takes, SpellsJoint, joint_for_takes, guard_only}}}
use Rattle.meaning_language.specs.Tree as tree
use Rattle.meaning_query.specs.At as at

-- how tightly a query binds
abbrev pub own_level : Query → ℕ
own_level (negated x) = 2
own_level (binary o x y) = query_level o
own_level (is_in x vs) = 3
own_level (is_not_in x vs) = 3
own_level _ = 6

-- A query may stand at its own level and at each lower one.
pub at_own : (q : Query) (l m : ℕ) (ts us : List QueryToken) → SpellsQuery q l ts us → m ≤ own_level q → SpellsQuery q m ts us
at_own (column c) l m ts us s le = s
at_own (script_name n) l m ts us s le = s
at_own (constant v) l m ts us s le = s
at_own (minus x) l m ts us s le = (le, s.1, s.2, s.3, s.4)
at_own (negated x) l m ts us s le = (le, s.1, s.2, s.3)
at_own (binary o x y) l m ts us s le = (le, s.1, s.2, s.3, s.4, s.5)
at_own (is_in x items) l m ts us s le = (le, s.1, s.2, s.3)
at_own (is_not_in x items) l m ts us s le = (le, s.1, s.2, s.3)
at_own (paren x) l m ts us s le = s

pub own_least : (q : Query) (l : ℕ) (ts us : List QueryToken) → l ≤ 6 → SpellsQuery q l ts us → l ≤ own_level q
own_least (negated x) l ts us le s = s.0
own_least (binary o x y) l ts us le s = s.0
own_least (is_in x vs) l ts us le s = s.0
own_least (is_not_in x vs) l ts us le s = s.0
own_least _ l ts us le s = le

-- the parts of a list are its constants
parts_listed : (vs : List Literal) → tree.parts (map item_of vs) ≡ listed vs
parts_listed [] = refl
parts_listed (v ∷ vs) = ap (tree.more_parts tt (tree.expr (tree.literal v))) (parts_listed vs)

pub among_listed : (x : Expr) (vs : List Literal) → is_among x (map item_of vs) ≡ is_listed x vs
among_listed x vs = rw (parts_listed vs) refl

pub right_small : (o : Binary) → suc (query_level o) ≤ 6
right_small = grind arith

-- what is read is a query of the level, and has this mask
abbrev pub IsForm : ℕ → ℕ → List QueryToken → Form × List QueryToken → Type 0
IsForm room l ts y = (q : Query) × SpellsQuery q l ts y.1 × ((y.0).0 ≡ mask_of q) × ((y.0).1 ≡ own_level q) × (depth (y.0).0 ≤ room)

module _ (room : ℕ) (inner_sound : (l : ℕ) (ts : List QueryToken) → l ≤ 6 → Only (IsForm room l ts) (query_at room l ts)) where
  -- what stands behind a parenthesis
  enclosed_sound : (l : ℕ) (ts us : List QueryToken) → ts ≡ plain (mark open_paren) ∷ us → Only (IsForm (suc room) l ts) (at.enclosed room us)
  unfolding enclosed
  enclosed_sound l ts us e =
      let Q : Form × List QueryToken → Type 0 = IsForm (suc room) l ts in
      then_only (IsForm room 0 us) Q (query_at room 0 us) _ (inner_sound 0 us (omega arith))
      (λ x h. then_only (λ vs. x.1 ≡ plain (mark close_paren) ∷ vs) Q (after_mark close_paren x.1) _ (mark_takes close_paren x.1)
      (λ vs f. (paren h.0, (us, e, rw f at h.1), ap tree.paren h.2, refl, omega (arith, h.4))))

  place_sound : (l : ℕ) → Sound (at.place room) (IsForm (suc room) l)
  unfolding place
  place_sound l ts =
      let Q : Form × List QueryToken → Type 0 = IsForm (suc room) l ts in
      or_only (λ c. ((ts ≡ plain (word c.0) ∷ c.1) × IsQueryName c.0) ⊎ (ts ≡ quoted c.0 ∷ c.1)) Q (column_at ts) _ _ (column_takes ts)
      (or_only (λ n. (ts ≡ at_sign ∷ plain (word n.0) ∷ n.1) × IsQueryName n.0) Q (script_name_at ts) _ _ (script_name_takes ts)
      (or_only (λ us. ts ≡ plain (mark open_paren) ∷ us) Q (after_mark open_paren ts) _ _ (mark_takes open_paren ts)
      (then_only (λ v. SpellsConstant v.0 ts v.1) Q (constant_at ts) _ (constant_takes ts) (λ v s. (constant v.0, s, refl, refl, omega arith)))
      (λ us e. enclosed_sound l ts us e))
      (λ n s. (script_name n.0, s, refl, refl, omega arith)))
      (λ c s. guard_only Q (suc room) (column_mask c.0) 6 c.1 (λ d. (column c.0, s, refl, refl, d)))

  prefixed_sound : (l : ℕ) (ts : List QueryToken) → l ≤ 6 → Only (IsForm (suc room) l ts) (at.prefixed room l ts)
  unfolding prefixed
  prefixed_sound l ts le =
      let Q : Form × List QueryToken → Type 0 = IsForm (suc room) l ts in
      or_only (λ us. ts ≡ plain (word (codes "not")) ∷ us) Q (after_word (codes "not") ts) _ _ (word_takes (codes "not") ts)
      (or_only (λ us. (ts ≡ plain (op sub) ∷ us) × (begins_number us ≡ false)) Q (after_minus ts) _ _ (minus_takes ts)
      (place_sound l ts)
      (λ us e. then_only (IsForm room 6 us) Q (query_at room 6 us) _ (inner_sound 6 us (omega arith))
      (λ x h. (minus h.0, (le, us, e.0, e.1, h.1), ap (tree.unary tree.minus) h.2, refl, omega (arith, h.4)))))
      (λ us e. pick_only Q (nat_le l 2) _ (λ t. then_only (IsForm room 2 us) Q (query_at room 2 us) _ (inner_sound 2 us (omega arith))
      (λ x h. (negated h.0, (at_most _ _ t, us, e, h.1), ap (tree.unary tree.invert) h.2, refl, omega (arith, h.4)))))

  -- a query may be the left side of what follows
  joined_sound : (l : ℕ) (ts us vs : List QueryToken) (j : Joint) (x : Form) → IsForm (suc room) l ts (x, us) → SpellsJoint j us vs → l ≤ joint_level j → joint_left_level j ≤ x.1
      → Only (IsForm (suc room) l ts) (at.joined room j x.0 vs)
  unfolding joined
  joined_sound l ts us vs (operator o) x (q, s, f, g, d) t le own =
      let Q : Form × List QueryToken → Type 0 = IsForm (suc room) l ts in
      let left : SpellsQuery q (query_left_level o) ts us = at_own q l (query_left_level o) ts us s (rw g at own) in
      then_only (IsForm room (suc (query_level o)) vs) Q (query_at room (suc (query_level o)) vs) _ (inner_sound (suc (query_level o)) vs (right_small o))
      (λ y h. guard_only Q (suc room) (tree.binary o x.0 (y.0).0) (query_level o) y.1
      (λ e. (binary o q h.0, (le, us, vs, left, t, h.1), rw (f, h.2) refl, refl, e)))
  joined_sound l ts us vs inside x (q, s, f, g, d) t le own =
      let Q : Form × List QueryToken → Type 0 = IsForm (suc room) l ts in
      let left : SpellsQuery q 4 ts us = at_own q l 4 ts us s (rw g at own) in
      then_only (IsList vs) Q (list_at vs) _ (list_takes vs)
      (λ y h. guard_only Q (suc room) (is_among x.0 y.0) 3 y.1
      (λ e. (is_in q h.0, (le, vs, rw t at left, h.1), rw (f, h.2, among_listed (mask_of q) h.0) refl, refl, e)))
  joined_sound l ts us vs outside x (q, s, f, g, d) t le own =
      let Q : Form × List QueryToken → Type 0 = IsForm (suc room) l ts in
      let left : SpellsQuery q 4 ts us = at_own q l 4 ts us s (rw g at own) in
      then_only (IsList vs) Q (list_at vs) _ (list_takes vs)
      (λ y h. guard_only Q (suc room) (tree.unary tree.invert (is_among x.0 y.0)) 3 y.1
      (λ e. (is_not_in q h.0, (le, vs, rw t at left, h.1), rw (f, h.2, among_listed (mask_of q) h.0) refl, refl, e)))

  joints_sound : (l : ℕ) (ts : List QueryToken) (n : ℕ) (x : Form) (us : List QueryToken) → IsForm (suc room) l ts (x, us) → Only (IsForm (suc room) l ts) (at.joints room n l x us)
  unfolding joints
  joints_sound l ts zero x us h = h
  joints_sound l ts (suc n) x us h =
      let Q : Form × List QueryToken → Type 0 = IsForm (suc room) l ts in
      or_only (λ j. SpellsJoint j.0 us j.1 × (l ≤ joint_level j.0) × (joint_left_level j.0 ≤ x.1)) Q (joint_for l x.1 us) _ _ (joint_for_takes l x.1 us)
      h
      (λ j t. then_only Q Q (at.joined room j.0 x.0 j.1) _ (joined_sound l ts us j.1 j.0 x h t.0 t.1 t.2) (λ y s. joints_sound l ts n y.0 y.1 s))

  with_sound : (l : ℕ) (ts : List QueryToken) → l ≤ 6 → Only (IsForm (suc room) l ts) (at.query_with room l ts)
  unfolding query_with
  with_sound l ts le =
      let Q : Form × List QueryToken → Type 0 = IsForm (suc room) l ts in
      then_only Q Q (at.prefixed room l ts) _ (prefixed_sound l ts le) (λ x h. joints_sound l ts (length x.1) x.0 x.1 h)

pub query_sound : (room l : ℕ) (ts : List QueryToken) → l ≤ 6 → Only (IsForm room l ts) (query_at room l ts)
unfolding query_at
query_sound zero l ts le = tt
query_sound (suc room) l ts le = with_sound room (query_sound room) l ts le
