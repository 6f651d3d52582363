-- The labels of a header, said as a whole.
use Rattle.{
  column_core.proofs.cells.Common.{rules, ◌≡◌, ℕ, zero, suc, ◌+◌, ◌-◌, ◌<◌, ◌≤◌, ◌^◌, true, false, ◌||◌, List, [], ◌∷◌, ◌++◌, length, take, refl, ap, ◌∙◌, arith, append_assoc, list_any-append, get_or-range_with_len, length-range_with_len, prefix_len_passes, prefix_len-le-length, slice_get, Option, Some, position_or_len, range_with_len, with_text, Text},
  std.proofs.Common.{append-nil},
  meaning_csv.{specs.CsvRead.{with_number, is_free, next_label, labels_after, with_texts, different_labels}, proofs.DifferentLaws.{IsFair, numbered-free, fair-after, count-texts, header-had, labels_differ}},
  csv_frames.specs.Numbered.{has_text, AreNumbered},
}

-- the same texts, in whatever order and however often
abbrev Alike : List Text → List Text → Type 0
Alike xs ys = (q : Text) → has_text xs q ≡ has_text ys q

put_has : (xs : List Text) (t q : Text) → has_text (with_text xs t) q ≡ has_text (xs ++ t ∷ []) q
put_has = search (rules, list_any-append)

all_alike : (xs ys ls : List Text) → Alike xs ys → Alike (with_texts xs ls) (ys ++ ls)
all_alike _ _ [] alike q = search append-nil
all_alike xs ys (l ∷ ls) alike q = grind (arith, append_assoc, all_alike (with_text xs l) (ys ++ l ∷ []) ls (grind (arith, put_has, list_any-append)) q)

-- no smaller number is free
passed : (taken : List Text) (label : Text) (m n : ℕ) → 1 ≤ n → n < 1 + position_or_len (is_free taken label) (range_with_len 1 m) → has_text taken (with_number label n) ≡ true
passed taken label m n some lt = grind (arith, prefix_len-le-length, get_or-range_with_len 1 m (n - 1) 0, length-range_with_len, prefix_len_passes)

module _ (columns : ℕ) (small : columns < 2 ^ 64) (header : List Text) where
  -- the next column, after columns with these labels
  record IsNext (before labels : List Text) (label : Text) (next : Option Text) : Type 0 where
    first : has_text before label ≡ false → next ≡ Some label
    number : ℕ
    some : 1 ≤ number
    is : has_text before label ≡ true → next ≡ Some (with_number label number)
    free : has_text before label ≡ true → (has_text header (with_number label number) || has_text labels (with_number label number)) ≡ false
    least : has_text before label ≡ true → (n : ℕ) → 1 ≤ n → n < number → (has_text header (with_number label n) || has_text labels (with_number label n)) ≡ true

  next_is : (pre outs before taken : List Text) (label : Text) (rest : List Text) → Alike before pre → Alike taken (header ++ outs) → IsFair columns before taken (label ∷ rest)
      → IsNext pre outs label (Some (next_label columns before taken label))
  next_is _ outs before taken label _ old used fair =
      let m = 1 + position_or_len (is_free taken label) (range_with_len 1 (columns - 1)) in
      let told : (t : Text) → (has_text header t || has_text outs t) ≡ has_text taken t = grind (arith, list_any-append) in
      record {
        first = grind arith;
        number = m;
        some = omega arith;
        is = grind arith;
        free = λ again. told (with_number label m) ∙ numbered-free _ small before _ _ _ fair (old label ∙ again);
        least = λ again n some lt. grind (arith, passed);
      }

  nexts : (pre outs before taken rest : List Text) → Alike before pre → Alike taken (header ++ outs) → IsFair columns before taken rest → (i : ℕ) (label : Text) → slice_get rest i ≡ Some label
      → IsNext (pre ++ take i rest) (outs ++ take i (labels_after columns before taken rest)) label (slice_get (labels_after columns before taken rest) i)
  nexts pre outs before taken [] old used fair i label is = Prim.cc
  nexts pre outs before taken (l ∷ rest) old used fair zero label is = grind (arith, append-nil, next_is)
  nexts pre outs before taken (l ∷ rest) old used fair (suc i) label is =
      let next = next_label columns before taken l in
      let more = labels_after columns (with_text before l) (with_text taken next) rest in
      let later = nexts (pre ++ l ∷ []) (outs ++ next ∷ []) (with_text before l) (with_text taken next) _ (grind (arith, put_has, list_any-append))
      (λ q. grind (arith, put_has, list_any-append, append_assoc))
      (search fair-after) i _ is in
      grind (arith, append_assoc)

pub after_count : (columns : ℕ) (before taken rest : List Text) → length (labels_after columns before taken rest) ≡ length rest
after_count _ _ _ [] = refl
after_count _ before _ (l ∷ rest) = ap suc (after_count _ (with_text before l) _ rest)

pub labels_numbered : (header : List Text) → length header < 2 ^ 64 → AreNumbered header (different_labels header)
labels_numbered header small =
    let used : Alike (with_texts [] header) (header ++ []) = λ q. cc (all_alike [] [] header (λ t. refl) q, append-nil header) in
    let at = nexts _ small _ [] [] [] _ _ (λ t. refl) used (grind (arith, count-texts, header-had)) in
    record {
      count = search after_count;
      first = λ place label is new. (at place label is).first new;
      again = λ place label is old. let n = at place label is in record { number = n.number; some = n.some; is = n.is old; free = n.free old; least = n.least old };
      different = labels_differ _ small;
    }
