-- Rows and headings are equal exactly where their labels' numbers are.
use Rattle.{
  column_core.proofs.cells.Common.{map, arith, ◌≡◌, Bool, List, [], ◌∷◌, refl, All, All-head, All-tail, All-cons, same_from_decides, Decides, pointwise_decides, Label, AreDistinct, IsGivenLabel, LabelValue, label_datum, Text, value_decides},
  frame_store.specs.{tables.{Settled.{IsSettled}, Table.{tuple_value}}, Shown.{labels_value}},
  meaning_form.specs.Infix.{same_tuple, same_tuples},
  label_align.{specs.{row_keys.Keys.{same_tuple as same_numbers}, Runs.{AreGivenTuples}}, proofs.SameLaws.{tuple_decides as numbers_decide}},
  frame_parts.proofs.LabelLaws.{label_given, label_one},
}

tuple_decides : (a b : List LabelValue) → Decides (same_tuple a b) (a ≡ b)
tuple_decides a b = pointwise_decides value_decides a b

tuples_decide : (a b : List (List LabelValue)) → Decides (same_tuples a b) (a ≡ b)
tuples_decide a b = pointwise_decides tuple_decides a b

-- tuples of one text each have one number each
map_one : {X Y : Type 0} (P : X → Type 0) (f : X → Y) → ((x y : X) → P x → P y → f x ≡ f y → x ≡ y) → (xs ys : List X) → All P xs → All P ys → map f xs ≡ map f ys → xs ≡ ys
map_one P f one [] [] all also e = refl
map_one P f one (x ∷ xs) (y ∷ ys) all also e =
    let head : f x ≡ f y = cc in
    let tail : map f xs ≡ map f ys = cc in
    cc (one x y (All-head P x xs all) (All-head P y ys also) head, map_one P f one xs ys (All-tail P x xs all) (All-tail P y ys also) tail)
map_one P f one xs ys all also e = cc

-- the labels of tuples that further texts leave as they are were given
tuple_given : (texts : List Text) (t : List Label) → IsSettled tuple_value texts t → All (IsGivenLabel texts) t
tuple_given _ [] settled = grind arith
tuple_given texts (l ∷ ls) settled = grind (arith, label_given, tuple_given texts ls (λ more. cc (settled more)))

-- each tuple of rows whose texts were given
pub tuples_settled : (texts : List Text) (ts : List (List Label)) → IsSettled labels_value texts ts → All (IsSettled tuple_value texts) ts
tuples_settled _ [] settled = grind arith
tuples_settled texts (t ∷ ts) settled = All-cons (IsSettled tuple_value texts) t ts (λ more. cc (settled more)) (tuples_settled texts ts (λ more. cc (settled more)))

pub tuples_given : (texts : List Text) (ts : List (List Label)) → IsSettled labels_value texts ts → AreGivenTuples texts ts
tuples_given texts ts settled k d lt = tuple_given texts _ (tuples_settled texts ts settled k d lt)

tuple_one : (texts : List Text) (a b : List Label) → AreDistinct texts → IsSettled tuple_value texts a → IsSettled tuple_value texts b → tuple_value texts a ≡ tuple_value texts b → a ≡ b
tuple_one texts a b distinct f g = map_one (IsGivenLabel texts) (label_datum texts) (λ x y. label_one texts x y distinct) a b (tuple_given texts a f) (tuple_given texts b g)

-- a test of tuples by texts is the test by numbers
pub tuple_by_number : (texts : List Text) (a b : List Label) → AreDistinct texts → IsSettled tuple_value texts a → IsSettled tuple_value texts b → same_tuple (tuple_value texts a) (tuple_value texts b) ≡ same_numbers a b
tuple_by_number texts a b distinct f g = grind (arith, tuple_one texts a b distinct f g, tuple_decides (tuple_value texts a) (tuple_value texts b), numbers_decide a b, same_from_decides)

pub settled_tuples : (texts : List Text) (ts : List (List Label)) → All (IsSettled tuple_value texts) ts → IsSettled labels_value texts ts
settled_tuples _ [] _ = λ more. refl
settled_tuples texts (t ∷ ts) all = λ more j. all 0 t (omega arith) more j ∷ settled_tuples texts ts (All-tail (IsSettled tuple_value texts) t ts all) more j

-- a test of rows by numbers is the test by texts
pub rows_by_number : (texts : List Text) (a b : List (List Label)) (r : Bool) → AreDistinct texts → IsSettled labels_value texts a → IsSettled labels_value texts b → Decides r (a ≡ b)
    → r ≡ same_tuples (labels_value texts a) (labels_value texts b)
rows_by_number texts a b r distinct f g is = grind (arith, map_one (IsSettled tuple_value texts) (tuple_value texts) (λ x y. tuple_one texts x y distinct) a b (tuples_settled texts a f) (tuples_settled texts b g), tuples_decide (labels_value texts a) (labels_value texts b), same_from_decides)
