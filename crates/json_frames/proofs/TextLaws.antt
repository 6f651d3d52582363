-- JSON values whose text reads as them.
use Rattle.{meaning_json.{proofs.cells.Common.{◌≡◌, ℕ, suc, pos, negsuc, ◌≤◌, ◌^◌, Bool, true, cond, ◌&&◌, List, [], ◌∷◌, ◌++◌, map, refl, ap, sym, ◌∙◌, append-nil, arith, Some, None, option_and_then, option_map, unwrap_or, is_some, subst, list_all, All, ltb-true, IsUtf8, IsUtf8-append, IsUtf8-nil, IsUtf8-from_ascii, CellValue, LabelValue, int, text, na, na_cell, int_cell, truth_cell}, specs.{cells.Cell.{truth, text_cell, cell_label}, JsonWrite.{value_text, items_of, label_json}, JsonRead.{values_in, cell_in, label_in, is_cell}}}, json.{specs.{Token.{Token}, Print.{IsNumber, token_text, ends, print_from}, Tree.{json_tokens, items_tokens, members_tokens, depth, items_depth, HasNumbers, ItemsHaveNumbers, MembersHaveNumbers}, Json.{Json, Items, no_items, item, Members, no_members, member, if_last, value}}, proofs.Printed.{Tokens.{tokens-print}, Trees.{value-json_tokens, ArePrintable-json_tokens}, Decimals.{IsNumber-signed_decimal}, Utf8.{IsUtf8-are_ascii, IsUtf8-quoted, IsUtf8-key, IsUtf8-boolean, IsUtf8-separator}}}, serde_json.{specs.{Data.{Data}, Read.{read, of_json, of_items, max_depth}, Find.{of_integer}}, proofs.Numbers.{number_of-decimal, number_of-negative}}, json_frames.specs.ReadBack.{IsLabel, IsCell}, std.{proofs.{lemmas.Fmt.{IsAscii-signed}, Common.{ap₂}}, specs.Prelude.{⊤}}}
use Rattle.json.specs.Json as json
use Rattle.json.specs.Token as token
use Rattle.serde_json.specs.Data as dat
use Rattle.serde_json.specs.View as view

-- the numbers are numbers, and all texts are UTF-8
abbrev mutual
  pub IsGood : Json → Type 0
  IsGood json.null = ⊤
  IsGood (json.boolean b) = ⊤
  IsGood (json.number s) = IsNumber s × IsUtf8 s
  IsGood (json.string s) = IsUtf8 s
  IsGood (json.array js) = AreGood js
  IsGood (json.object ms) = HasGood ms

  pub AreGood : Items → Type 0
  AreGood no_items = ⊤
  AreGood (item j js) = IsGood j × AreGood js

  pub HasGood : Members → Type 0
  HasGood no_members = ⊤
  HasGood (member k j ms) = IsUtf8 k × (IsGood j × HasGood ms)

mutual
  good_numbers : (j : Json) → IsGood j → HasNumbers j
  good_numbers json.null h = tt
  good_numbers (json.boolean b) h = tt
  good_numbers (json.number s) h = h.0
  good_numbers (json.string s) h = tt
  good_numbers (json.array js) h = items_numbers js h
  good_numbers (json.object ms) h = members_numbers ms h

  items_numbers : (js : Items) → AreGood js → ItemsHaveNumbers js
  items_numbers no_items h = tt
  items_numbers (item j js) h = (good_numbers j h.0, items_numbers js h.1)

  members_numbers : (ms : Members) → HasGood ms → MembersHaveNumbers ms
  members_numbers no_members h = tt
  members_numbers (member k j ms) h = (good_numbers j h.1.0, members_numbers ms h.1.1)

abbrev AreUtf8 : List Token → Type 0
AreUtf8 [] = ⊤
AreUtf8 (t ∷ ts) = IsUtf8 (token_text t) × AreUtf8 ts

both_utf8 : (ts us : List Token) → AreUtf8 ts → AreUtf8 us → AreUtf8 (ts ++ us)
both_utf8 [] us h k = k
both_utf8 (t ∷ ts) us h k = (h.0, both_utf8 ts us h.1 k)

mutual
  good_tokens : (j : Json) → IsGood j → AreUtf8 (json_tokens j)
  good_tokens json.null h = (IsUtf8-are_ascii (token_text token.null) refl, tt)
  good_tokens (json.boolean b) h = (IsUtf8-boolean b, tt)
  good_tokens (json.number s) h = (h.1, tt)
  good_tokens (json.string s) h = (IsUtf8-quoted s h, tt)
  good_tokens (json.array js) h = (IsUtf8-are_ascii (91 ∷ []) refl, items_utf8 js h)
  good_tokens (json.object ms) h = (IsUtf8-are_ascii (123 ∷ []) refl, members_utf8 ms h)

  items_utf8 : (js : Items) → AreGood js → AreUtf8 (items_tokens js)
  items_utf8 no_items h = (IsUtf8-are_ascii (93 ∷ []) refl, tt)
  items_utf8 (item j js) h = both_utf8 (json_tokens j) (items_tokens js) (good_tokens j h.0) (items_utf8 js h.1)

  members_utf8 : (ms : Members) → HasGood ms → AreUtf8 (members_tokens ms)
  members_utf8 no_members h = (IsUtf8-are_ascii (125 ∷ []) refl, tt)
  members_utf8 (member k j ms) h = (IsUtf8-key k h.0, both_utf8 (json_tokens j) (members_tokens ms) (good_tokens j h.1.0) (members_utf8 ms h.1.1))

print_utf8 : (b : Bool) (ts : List Token) → AreUtf8 ts → IsUtf8 (print_from b ts)
unfolding print_from
print_utf8 b [] h = IsUtf8-nil
print_utf8 b (t ∷ ts) h = IsUtf8-append _ _ (IsUtf8-separator b t) (IsUtf8-append _ _ h.0 (print_utf8 (ends t) ts h.1))

-- the text of such a value is UTF-8, and reads as the value
module _ (j : Json) (good : IsGood j) where
  pub text_utf8 : IsUtf8 (value_text j)
  text_utf8 = print_utf8 _ (json_tokens j) (good_tokens j good)

  pub text_read : depth j ≤ 127 → read (value_text j) ≡ of_json j
  text_read shallow =
      ap (option_and_then of_json)
      (ap (option_and_then (λ p. if_last p.0 p.1))
      (ap (value max_depth) (tokens-print (json_tokens j) (ArePrintable-json_tokens j (good_numbers j good)) ∙ sym (append-nil (json_tokens j)))
      ∙ value-json_tokens j max_depth [] shallow))

-- Arrays

module _ {X : Type 0} (f : X → Json) where
  pub items_good : (xs : List X) → All (λ x. IsGood (f x)) xs → AreGood (items_of (map f xs))
  items_good [] h = tt
  items_good (x ∷ xs) h = (h 0 x (omega arith), items_good xs (λ k d lt. h (suc k) d (omega arith)))

  pub items_shallow : (n : ℕ) → ((x : X) → depth (f x) ≤ n) → (xs : List X) → items_depth (items_of (map f xs)) ≤ n
  items_shallow n h [] = omega arith
  items_shallow n h (x ∷ xs) = omega (arith, h x, items_shallow n h xs)

  pub items_read : (g : X → Data) (xs : List X) → All (λ x. of_json (f x) ≡ Some (g x)) xs → of_items (items_of (map f xs)) ≡ Some (view.items_of (map g xs))
  items_read g [] h = refl
  items_read g (x ∷ xs) h =
      ap (option_and_then (λ d. option_map (dat.item d) (of_items (items_of (map f xs))))) (h 0 x (omega arith))
      ∙ ap (option_map (dat.item (g x))) (items_read g xs (λ k d lt. h (suc k) d (omega arith)))

pub values_back : (ds : List Data) → values_in (view.items_of ds) ≡ ds
values_back [] = refl
values_back (d ∷ ds) = ap (λ l. d ∷ l) (values_back ds)

-- Labels and cells

abbrev pub label_data : LabelValue → Data
label_data na = dat.null
label_data (int z) = dat.number (of_integer z)
label_data (truth b) = dat.boolean b
label_data (text t) = dat.string t

abbrev pub cell_data : CellValue → Data
cell_data c = label_data (cell_label c)

pub label_good : (l : LabelValue) → IsLabel l → IsGood (label_json l)
label_good na h = tt
label_good (int (pos n)) h = let lt = ltb-true n (2 ^ 63) h in (IsNumber-signed_decimal (pos n) lt, IsUtf8-from_ascii _ (IsAscii-signed (pos n) lt))
label_good (int (negsuc n)) h = let lt = ltb-true n (2 ^ 63) h in (IsNumber-signed_decimal (negsuc n) lt, IsUtf8-from_ascii _ (IsAscii-signed (negsuc n) lt))
label_good (truth b) h = tt
label_good (text t) h = h

pub label_shallow : (l : LabelValue) → depth (label_json l) ≡ 0
label_shallow na = refl
label_shallow (int z) = refl
label_shallow (truth b) = refl
label_shallow (text t) = refl

pub label_read : (l : LabelValue) → IsLabel l → of_json (label_json l) ≡ Some (label_data l)
label_read na h = refl
label_read (int (pos n)) h = ap (option_map dat.number) (number_of-decimal n (omega (arith, ltb-true n (2 ^ 63) h)))
label_read (int (negsuc n)) h = ap (option_map dat.number) (number_of-negative n (ltb-true n (2 ^ 63) h))
label_read (truth b) h = refl
label_read (text t) h = refl

pub cell_back : (c : CellValue) → IsCell c → cell_in (cell_data c) ≡ Some c
cell_back na_cell h = refl
cell_back (int_cell (pos n)) h = ap (λ b. option_map int_cell (cond b (Some (pos n)) None)) h
cell_back (int_cell (negsuc n)) h = refl
cell_back (truth_cell b) h = refl
cell_back (text_cell t) h = refl

abbrev label_cell : LabelValue → CellValue
label_cell na = na_cell
label_cell (int z) = int_cell z
label_cell (truth b) = truth_cell b
label_cell (text t) = text_cell t

same_label : (l : LabelValue) → cell_label (label_cell l) ≡ l
same_label na = refl
same_label (int z) = refl
same_label (truth b) = refl
same_label (text t) = refl

module _ (l : LabelValue) (h : IsLabel l) where
  label_found : cell_in (label_data l) ≡ Some (label_cell l)
  label_found = ap (λ m. cell_in (label_data m)) (sym (same_label l)) ∙ cell_back (label_cell l) (subst IsLabel (sym (same_label l)) h)

  pub label_back : label_in (label_data l) ≡ l
  label_back = ap (λ o. cell_label (unwrap_or o na_cell)) label_found ∙ same_label l

  pub label_is_cell : is_cell (label_data l) ≡ true
  label_is_cell = ap is_some label_found

-- all of some labels
pub labels_back : (ls : List LabelValue) → All IsLabel ls → map label_in (map label_data ls) ≡ ls
labels_back [] h = refl
labels_back (l ∷ ls) h = ap₂ (λ x xs. x ∷ xs) (label_back l (h 0 l (omega arith))) (labels_back ls (λ k d lt. h (suc k) d (omega arith)))

pub labels_are_cells : (ls : List LabelValue) → All IsLabel ls → list_all is_cell (map label_data ls) ≡ true
labels_are_cells [] h = refl
labels_are_cells (l ∷ ls) h = ap₂ (λ x y. x && y) (label_is_cell l (h 0 l (omega arith))) (labels_are_cells ls (λ k d lt. h (suc k) d (omega arith)))
