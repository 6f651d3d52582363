-- What is in the grammar is read.
use Rattle.{meaning_language.{proofs.cells.Common.{◌≡◌, ℕ, zero, suc, ◌<◌, ◌≤◌, inl, inr, List, ◌∷◌, length, Some, refl, arith, codes, Text}, specs.{Token.{word, mark, open_paren, close_paren}, Tree.{sub, Binary, Literal, Expr}, Depth.{depth}}}, std.proofs.Common.{le-leb}, meaning_query.{specs.{QueryToken.{QueryToken, plain}, Query.{Query, column, script_name, constant, minus, negated, binary, is_in, is_not_in, paren, mask_of, SpellsQuery, query_level, query_left_level}, Reading.{and_then, or_else, pick, after_word, after_minus, column_at, name_at, script_name_at, joint_at, Joint, operator, inside, outside, joint_level, joint_left_level, Form, column_mask, guard, enclosed, place, prefixed, joined, joints, query_with, query_at}}, proofs.{Takes.{SpellsJoint}, Sound.{own_level, own_least, right_small, among_listed}, Gives.{mark_same, word_same, minus_reads, name_not, name_reads, constant_reads, constant_plain, constant_shorter, list_shorter, list_reads, joint_for_reads, joint_shorter, Ends, joint_ends, joint_none, ends_above, all_end, none_at_two}}}}
use Rattle.meaning_language.specs.Tree as tree
use Rattle.meaning_query.specs.At as at

-- the mask of a query, and how tightly it binds
abbrev pub form_of : Query → Form
form_of q = (mask_of q, own_level q)

guard_reads : (room : ℕ) (x : Expr) (l : ℕ) (ts : List QueryToken) → depth x ≤ room → guard room x l ts ≡ Some ((x, l), ts)
unfolding guard pick
guard_reads = search le-leb

-- a query takes a token
query_shorter : (q : Query) (l : ℕ) (ts us : List QueryToken) → SpellsQuery q l ts us → length us < length ts
query_shorter (column c) = grind arith
query_shorter (script_name n) = grind arith
query_shorter (constant v) = λ l. constant_shorter v
query_shorter (minus x) = grind (arith, query_shorter x)
query_shorter (negated x) = grind (arith, query_shorter x)
query_shorter (binary o x y) =
    λ l ts us s. omega (arith, query_shorter x (query_left_level o) ts s.1 s.3, joint_shorter (operator o) s.1 s.2 s.4, query_shorter y (suc (query_level o)) s.2 us s.5)
query_shorter (is_in x items) = λ l ts us s. omega (arith, query_shorter x 4 ts _ s.2, list_shorter items s.1 us s.3)
query_shorter (is_not_in x items) = λ l ts us s. omega (arith, query_shorter x 4 ts _ s.2, list_shorter items s.1 us s.3)
query_shorter (paren x) = grind (arith, query_shorter x)

-- ---- what is proved of each query

-- reading from the front comes to the joints after the query, with turns enough
pub record AtJoints (q : Query) (room l : ℕ) (ts us : List QueryToken) : Type 0 where
  turns : ℕ
  enough : length us ≤ turns
  same : at.query_with room l ts ≡ at.joints room turns l (form_of q) us

-- No joint that binds more tightly than the level m of what was read follows.
abbrev HasJoints : Query → Type 0
HasJoints q = (room l m : ℕ) (ts us : List QueryToken) → l ≤ m → m ≤ 6 → SpellsQuery q m ts us → Ends (suc m) us → depth (mask_of q) ≤ suc room → AtJoints q room l ts us

abbrev HasWhole : Query → Type 0
HasWhole q = (room l : ℕ) (ts us : List QueryToken) → l ≤ 6 → SpellsQuery q l ts us → Ends l us → depth (mask_of q) ≤ room → query_at room l ts ≡ Some (form_of q, us)

pub record ReadsQuery (q : Query) : Type 0 where
  joints_after : HasJoints q
  pub whole : HasWhole q

-- what is read with its signs comes to the joints
climbs : (q : Query) (room l : ℕ) (ts us : List QueryToken) → at.prefixed room l ts ≡ Some (form_of q, us) → AtJoints q room l ts us
unfolding query_with and_then
climbs = grind arith

-- which stop where none follows
joints_stop : (room n l : ℕ) (x : Form) (us : List QueryToken) → Ends l us → at.joints room n l x us ≡ Some (x, us)
unfolding joints or_else
joints_stop room zero l x us e = refl
joints_stop room (suc n) l x us e = rw (joint_none l x.1 us e) refl

depth_positive : (x : Expr) → 1 ≤ depth x
depth_positive (tree.name n) = omega arith
depth_positive _ = omega arith

whole_by : (q : Query) → HasJoints q → HasWhole q
unfolding query_at
whole_by q h zero l ts us le s e d = absurd (omega (arith, d, depth_positive (mask_of q)))
whole_by q h (suc room) l ts us le s e d =
    let a = h room l l ts us (omega arith) le s (ends_above l (suc l) us (omega arith) e) d in
    rw (a.same, joints_stop room a.turns l (form_of q) us e) refl

reads : (q : Query) → HasJoints q → ReadsQuery q
reads q h = record { joints_after = h; whole = whole_by q h }

-- one joint more is read
turned : (room l : ℕ) (j : Joint) (x q : Query) (ts vs ws us : List QueryToken) → AtJoints x room l ts vs → SpellsJoint j vs ws → l ≤ joint_level j → joint_left_level j ≤ own_level x
    → at.joined room j (mask_of x) ws ≡ Some (form_of q, us) → length us < length ws → AtJoints q room l ts us
unfolding joints or_else and_then
turned room l j x q ts vs ws us a t le left e less = turn a.turns a.enough a.same
  where
    turn : (n : ℕ) → length vs ≤ n → at.query_with room l ts ≡ at.joints room n l (form_of x) vs → AtJoints q room l ts us
    turn zero few h = absurd (omega (arith, few, joint_shorter j vs ws t))
    turn (suc n) few h = record {
      turns = n;
      enough = omega (arith, few, less, joint_shorter j vs ws t);
      same = rw (h, joint_for_reads l (own_level x) j vs ws t le left, e) refl;
    }

-- ---- places

column_joints : (c : Text) → HasJoints (column c)
unfolding prefixed place after_minus column_at or_else and_then after_word pick
column_joints c room l m ts us le top (inl (e, h)) f d = climbs _ room l ts us (rw (e, name_not c h, name_reads c us h, guard_reads (suc room) (column_mask c) 6 us d) refl)
column_joints c room l m ts us le top (inr e) f d = climbs _ room l ts us (rw (e, guard_reads (suc room) (column_mask c) 6 us d) refl)

name_joints : (n : Text) → HasJoints (script_name n)
unfolding prefixed place after_minus column_at name_at script_name_at or_else and_then after_word
name_joints n room l m ts us le top (e, h) f d = climbs _ room l ts us (rw (e, name_reads n us h) refl)

constant_joints : (v : Literal) → HasJoints (constant v)
unfolding prefixed place or_else and_then
constant_joints v room l m ts us le top s f d =
    let p = constant_plain v ts us s in
    climbs _ room l ts us (rw (p.no_not, p.no_minus, p.no_column, p.no_name, p.no_mark open_paren, constant_reads v ts us s) refl)

paren_joints : (x : Query) → ReadsQuery x → HasJoints (paren x)
unfolding prefixed place enclosed after_minus column_at name_at script_name_at or_else and_then after_word joint_at
paren_joints x r room l m ts us le top (vs, e, s) f d =
    climbs _ room l ts us (rw (e, mark_same open_paren vs, r.whole room 0 vs (plain (mark close_paren) ∷ us) (omega arith) s tt (omega (arith, d)), mark_same close_paren us) refl)

-- ---- signs

minus_joints : (x : Query) → ReadsQuery x → HasJoints (minus x)
unfolding prefixed or_else and_then after_word
minus_joints x r room l m ts us le top (h, vs, e, b, s) f d =
    climbs _ room l ts us (rw (e, minus_reads vs b, r.whole room 6 vs us (omega arith) s (all_end us) (omega (arith, d))) refl)

negated_joints : (x : Query) → ReadsQuery x → HasJoints (negated x)
unfolding prefixed or_else and_then pick
negated_joints x r room l m ts us le top (h, vs, e, s) f d =
    let ends : Ends 2 us = none_at_two us (ends_above (suc m) 3 us (omega (arith, h)) f) in
    climbs _ room l ts us (rw (e, word_same (codes "not") vs, le-leb l 2 (omega (arith, le, h)), r.whole room 2 vs us (omega arith) s ends (omega (arith, d))) refl)

-- ---- joints

left_small : (o : Binary) → (query_level o ≤ query_left_level o) × (query_left_level o ≤ 6)
left_small = grind arith

binary_joints : (o : Binary) (x y : Query) → ReadsQuery x → ReadsQuery y → HasJoints (binary o x y)
unfolding joined and_then
binary_joints o x y r q room l m ts us le top (h, vs, ws, s, t, u) f d =
    let small = left_small o in
    let ends : Ends (suc (query_left_level o)) vs = joint_ends (suc (query_left_level o)) (operator o) vs ws t (omega (arith, small.0)) in
    let a = r.joints_after room l (query_left_level o) ts vs (omega (arith, le, h, small.0)) small.1 s ends (omega (arith, d)) in
    let right = q.whole room (suc (query_level o)) ws us (right_small o) u (ends_above (suc m) (suc (query_level o)) us (omega (arith, h)) f) (omega (arith, d)) in
    turned room l (operator o) x (binary o x y) ts vs ws us a t (omega (arith, le, h)) (own_least x (query_left_level o) ts vs small.1 s)
    (rw (right, guard_reads (suc room) (mask_of (binary o x y)) (query_level o) us d) refl) (query_shorter y (suc (query_level o)) ws us u)

in_joints : (x : Query) (items : List Literal) → ReadsQuery x → HasJoints (is_in x items)
unfolding joined and_then
in_joints x items r room l m ts us le top (h, vs, s, u) f d =
    let w : List QueryToken = plain (word (codes "in")) ∷ vs in
    let ends : Ends 5 w = joint_ends 5 inside w vs refl (omega arith) in
    let a = r.joints_after room l 4 ts w (omega (arith, le, h)) (omega arith) s ends (omega (arith, d)) in
    turned room l inside x (is_in x items) ts w vs us a refl (omega (arith, le, h)) (own_least x 4 ts w (omega arith) s)
    (rw (list_reads items vs us u, among_listed (mask_of x) items, guard_reads (suc room) (mask_of (is_in x items)) 3 us d) refl) (list_shorter items vs us u)

not_in_joints : (x : Query) (items : List Literal) → ReadsQuery x → HasJoints (is_not_in x items)
unfolding joined and_then
not_in_joints x items r room l m ts us le top (h, vs, s, u) f d =
    let w : List QueryToken = plain (word (codes "not")) ∷ plain (word (codes "in")) ∷ vs in
    let ends : Ends 5 w = joint_ends 5 outside w vs refl (omega arith) in
    let a = r.joints_after room l 4 ts w (omega (arith, le, h)) (omega arith) s ends (omega (arith, d)) in
    turned room l outside x (is_not_in x items) ts w vs us a refl (omega (arith, le, h)) (own_least x 4 ts w (omega arith) s)
    (rw (list_reads items vs us u, among_listed (mask_of x) items, guard_reads (suc room) (mask_of (is_not_in x items)) 3 us d) refl) (list_shorter items vs us u)

-- ---- all of them

pub query_is_read : (q : Query) → ReadsQuery q
query_is_read (column c) = reads _ (column_joints c)
query_is_read (script_name n) = reads _ (name_joints n)
query_is_read (constant v) = reads _ (constant_joints v)
query_is_read (minus x) = reads _ (minus_joints x (query_is_read x))
query_is_read (negated x) = reads _ (negated_joints x (query_is_read x))
query_is_read (binary o x y) = reads _ (binary_joints o x y (query_is_read x) (query_is_read y))
query_is_read (is_in x items) = reads _ (in_joints x items (query_is_read x))
query_is_read (is_not_in x items) = reads _ (not_in_joints x items (query_is_read x))
query_is_read (paren x) = reads _ (paren_joints x (query_is_read x))
