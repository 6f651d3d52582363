-- What is seen of a list of parts.
use Rattle.{
  frame_store.{proofs.cells.Common.{◌≡◌, ◌&&◌, Bool, refl, zero, suc, List, [], ◌∷◌, length, arith, ◌↔◌, IsTrue, true, Text}, specs.{tables.Value.{Given}, Objects.{Tables}, Arguments.{item_of, items_of}, declared.arguments.Item.{Item}}},
  std.specs.List.{All},
  meaning_call.specs.Binding.{each, count_of},
}

pub count_is : (live : Tables) (texts : List Text) (items : List Item) → count_of (items_of live texts items) ≡ length items
count_is _ _ [] = refl
count_is live texts (item ∷ rest) = grind (arith, count_is live texts rest)

-- each part passes, told by place
both : (a b : Bool) → (a && b) ≡ true → (a ≡ true) × (b ≡ true)
both = grind arith

each_at : (test : Given → Bool) (live : Tables) (texts : List Text) (items : List Item) → each test (items_of live texts items) ≡ true → All (λ item. IsTrue (test (item_of live texts item))) items
each_at test live texts [] h k d = grind arith
each_at test live texts (item ∷ rest) h zero d = grind (arith, both)
each_at test live texts (item ∷ rest) h (suc k) d = grind (arith, both, each_at test live texts rest)

each_from : (test : Given → Bool) (live : Tables) (texts : List Text) (items : List Item) → All (λ item. IsTrue (test (item_of live texts item))) items → each test (items_of live texts items) ≡ true
each_from test live texts [] h = grind arith
each_from test live texts (item ∷ rest) h = grind (arith, h 0 item, each_from test live texts rest (λ k d lt. h (suc k) d (omega (arith, lt))))

pub each_told : (test : Given → Bool) (live : Tables) (texts : List Text) (items : List Item) (b : Bool) → (IsTrue b ↔ All (λ item. IsTrue (test (item_of live texts item))) items) → b ≡ each test (items_of live texts items)
each_told = grind (arith, each_from, each_at)
