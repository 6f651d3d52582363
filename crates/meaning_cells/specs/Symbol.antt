-- The operators of two sides, and the words that stand before brackets.

pub data Binary : Type 0 where
  add : Binary
  sub : Binary
  mul : Binary
  floor_div : Binary
  mod_ : Binary
  eq : Binary
  ne : Binary
  lt : Binary
  le : Binary
  gt : Binary
  ge : Binary
  and : Binary
  or : Binary
  xor : Binary

pub data Accessor : Type 0 where
  loc : Accessor
  iloc : Accessor
  at : Accessor
  iat : Accessor
