-- Laws of what is settled.
use Rattle.{
  column_core.proofs.cells.Common.{get_or_from_slice_get, map-append, take_rest, rules, ◌≡◌, ◌≤◌, ℕ, zero, suc, refl, sym, List, [], ◌∷◌, ◌++◌, length, map, append_assoc, slice_index_or, slice_get, take, drop, get_or, ◌-◌, Some, arith, IsLonger, with_text, TextId, Text, text},
  std.proofs.Common.{append-nil},
  meaning_csv.specs.tables.{Settled.{IsSettled}, Table.{tuple_value}},
}
use Rattle.cell_core.specs.declared.cell.Label.TheVariants as label

pub longer_self : (texts : List Text) → IsLonger texts texts
longer_self texts = ([], sym (append-nil texts))

pub longer_twice : (a b c : List Text) → IsLonger a b → IsLonger b c → IsLonger a c
longer_twice = grind (arith, append_assoc)

pub longer_with : (texts texts' : List Text) (t : Text) → texts' ≡ with_text texts t → IsLonger texts texts'
longer_with = search rules

-- what is settled stays so
module _ {X Y : Type 0} (view : List Text → X → Y) (old new : List Text) (x : X) (h6 : IsLonger old new) (h7 : IsSettled view old x) where
  pub settled_later : IsSettled view new x
  settled_later = grind (arith, append_assoc)

  -- and is seen as before
  pub seen_later : view new x ≡ view old x
  seen_later = grind arith

-- what is seen of a list
abbrev pub all_seen : {X Y : Type 0} → (List Text → X → Y) → List Text → List X → List Y
all_seen view texts xs = map (view texts) xs

-- one thing more
module _ {X Y : Type 0} (view : List Text → X → Y) (old new : List Text) (xs xs' : List X) (x : X) (longer : IsLonger old new) (settled : IsSettled (all_seen view) old xs) (is : xs' ≡ xs ++ x ∷ []) where
  pub settled_more : IsSettled view new x → IsSettled (all_seen view) new xs'
  settled_more = grind (arith, map-append, append_assoc)

  pub seen_more : (y : Y) (rest whole : List Y) → view new x ≡ y → all_seen view old xs ++ y ∷ rest ≡ whole → all_seen view new xs' ++ rest ≡ whole
  seen_more = grind (arith, map-append, append_assoc)

-- a number that was given keeps its text
text_kept : (texts more : List Text) (i : ℕ) (t : Text) → slice_get texts i ≡ Some t → slice_index_or (texts ++ more) i [] ≡ slice_index_or texts i []
text_kept [] _ i t given = Prim.cc
text_kept (u ∷ us) _ zero t given = refl
text_kept (u ∷ us) _ (suc i) t given = text_kept us _ i t given

-- a text's label as a tuple of its own
module _ (texts : List Text) (id : TextId) (t : Text) (h3 : slice_get texts id.0 ≡ Some t) where
  pub tuple_settled : IsSettled tuple_value texts (label.Text id ∷ [])
  tuple_settled = search text_kept

  pub tuple_seen : tuple_value texts (label.Text id ∷ []) ≡ text t ∷ []
  tuple_seen = grind (arith, get_or_from_slice_get)

-- what stands after the first
abbrev pub after : {X : Type 0} → List X → List X
after xs = take (length xs - 1) (drop 1 xs)

pub first_of : {X : Type 0} (xs : List X) (x : X) → x ≡ get_or xs 0 x → 1 ≤ length xs → xs ≡ x ∷ after xs
first_of xs x is some = grind (arith, take_rest xs 1)
