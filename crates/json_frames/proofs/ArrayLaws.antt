-- Arrays, objects and lists that are made item by item.
use Rattle.{meaning_json.{proofs.cells.Common.{◌≡◌, ℕ, ◌+◌, ◌<◌, ◌≤◌, List, [], ◌∷◌, ◌++◌, length, drop, get_or, ap, sym, ◌∙◌, append_assoc, append-nil, drop_all, drop_more, OnOk, Result, Ok, Err, Text, na, na_cell, LabelValue, CellValue}, specs.JsonWrite.{items_of, record_members, key_text, cell_json}}, json.specs.{Token.{Token, end_object, end_array, key}, Json.{Json, null}, Tree.{json_tokens, items_tokens, members_tokens}}}

-- items written one after the other, and the closing bracket
module _ (js : List Json) (out new all : List Token) (k : ℕ) where
  pub item_more : (j : Json) → k < length js → get_or js k null ≡ j → new ≡ out ++ json_tokens j → out ++ items_tokens (items_of (drop k js)) ≡ all → new ++ items_tokens (items_of (drop (k + 1) js)) ≡ all
  item_more j h is written so_far =
      ap (λ l. l ++ items_tokens (items_of (drop (k + 1) js))) (written ∙ ap (λ x. out ++ json_tokens x) (sym is))
      ∙ append_assoc out (json_tokens (get_or js k null)) (items_tokens (items_of (drop (k + 1) js)))
      ∙ ap (λ l. out ++ items_tokens (items_of l)) (sym (drop_more js k null h)) ∙ so_far

  pub items_closed : {T E : Type 0} (r : Result T E) → length js ≤ k → out ++ items_tokens (items_of (drop k js)) ≡ all → OnOk r (new ≡ out ++ end_array ∷ []) → OnOk r (new ≡ all)
  items_closed (Ok _) h so_far written = written ∙ ap (λ l. out ++ items_tokens (items_of l)) (sym (drop_all k js h)) ∙ so_far
  items_closed (Err _) h so_far written = tt

-- members written one after the other, and the closing bracket
module _ (labels : List LabelValue) (cells : List CellValue) (out all : List Token) (k : ℕ) where
  pub member_more : (name : Text) (c : CellValue) (mid new : List Token) → k < length labels → k < length cells → name ≡ key_text (get_or labels k na) → get_or cells k na_cell ≡ c
      → mid ≡ out ++ key name ∷ [] → new ≡ mid ++ json_tokens (cell_json c) → out ++ members_tokens (record_members (drop k labels) (drop k cells)) ≡ all
      → new ++ members_tokens (record_members (drop (k + 1) labels) (drop (k + 1) cells)) ≡ all
  member_more name c mid new h i named is keyed written so_far =
      let l : LabelValue = get_or labels k na in
      let rest : List Token = members_tokens (record_members (drop (k + 1) labels) (drop (k + 1) cells)) in
      let opened : out ++ key (key_text l) ∷ (json_tokens (cell_json (get_or cells k na_cell)) ++ rest) ≡ all =
      ap (λ ls. out ++ members_tokens (record_members ls (get_or cells k na_cell ∷ drop (k + 1) cells))) (sym (drop_more labels k na h))
      ∙ ap (λ cs. out ++ members_tokens (record_members (drop k labels) cs)) (sym (drop_more cells k na_cell i)) ∙ so_far in
      ap (λ l. l ++ rest) written ∙ append_assoc mid (json_tokens (cell_json c)) rest
      ∙ ap (λ m. m ++ (json_tokens (cell_json c) ++ rest)) (keyed ∙ ap (λ n. out ++ key n ∷ []) named)
      ∙ append_assoc out (key (key_text l) ∷ []) (json_tokens (cell_json c) ++ rest)
      ∙ ap (λ x. out ++ key (key_text l) ∷ (json_tokens (cell_json x) ++ rest)) (sym is) ∙ opened

  pub members_closed : {T E : Type 0} (new : List Token) (r : Result T E) → length labels ≤ k → out ++ members_tokens (record_members (drop k labels) (drop k cells)) ≡ all → OnOk r (new ≡ out ++ end_object ∷ []) → OnOk r (new ≡ all)
  members_closed new (Ok _) h so_far written = written ∙ ap (λ l. out ++ members_tokens (record_members l (drop k cells))) (sym (drop_all k labels h)) ∙ so_far
  members_closed new (Err _) h so_far written = tt

-- a list that is made item by item
module _ {X : Type 0} (xs made : List X) (d : X) (k : ℕ) where
  pub one_more : (new : List X) (x : X) → k < length xs → x ≡ get_or xs k d → new ≡ made ++ x ∷ [] → made ++ drop k xs ≡ xs → new ++ drop (k + 1) xs ≡ xs
  one_more new x h is pushed so_far =
      ap (λ l. l ++ drop (k + 1) xs) (pushed ∙ ap (λ y. made ++ y ∷ []) is) ∙ append_assoc made (get_or xs k d ∷ []) (drop (k + 1) xs)
      ∙ ap (λ l. made ++ l) (sym (drop_more xs k d h)) ∙ so_far

  pub all_made : length xs ≤ k → made ++ drop k xs ≡ xs → made ≡ xs
  all_made h so_far = sym (append-nil made) ∙ ap (λ l. made ++ l) (sym (drop_all k xs h)) ∙ so_far

-- an object of three members
pub three_members : {T E : Type 0} (r : Result T E) (o b k1 j1 k2 j2 k3 j3 new : List Token) (begin x1 x2 x3 : Token) (a1 a2 a3 : List Token) → b ≡ o ++ begin ∷ [] → k1 ≡ b ++ x1 ∷ [] → j1 ≡ k1 ++ a1 → k2 ≡ j1 ++ x2 ∷ [] → j2 ≡ k2 ++ a2 → k3 ≡ j2 ++ x3 ∷ [] → j3 ≡ k3 ++ a3
    → OnOk r (new ≡ j3 ++ end_object ∷ []) → OnOk r (new ≡ o ++ begin ∷ x1 ∷ (a1 ++ x2 ∷ (a2 ++ x3 ∷ (a3 ++ end_object ∷ []))))
three_members (Err _) o b k1 j1 k2 j2 k3 j3 new begin x1 x2 x3 a1 a2 a3 e1 e2 e3 e4 e5 e6 e7 e8 = tt
three_members (Ok _) o b k1 j1 k2 j2 k3 j3 new begin x1 x2 x3 a1 a2 a3 e1 e2 e3 e4 e5 e6 e7 e8 =
    let t3 : List Token = end_object ∷ [] in
    e8 ∙ ap (λ l. l ++ t3) e7 ∙ append_assoc k3 a3 t3
    ∙ ap (λ l. l ++ (a3 ++ t3)) e6 ∙ append_assoc j2 (x3 ∷ []) (a3 ++ t3)
    ∙ ap (λ l. l ++ x3 ∷ (a3 ++ t3)) e5 ∙ append_assoc k2 a2 (x3 ∷ (a3 ++ t3))
    ∙ ap (λ l. l ++ (a2 ++ x3 ∷ (a3 ++ t3))) e4 ∙ append_assoc j1 (x2 ∷ []) (a2 ++ x3 ∷ (a3 ++ t3))
    ∙ ap (λ l. l ++ x2 ∷ (a2 ++ x3 ∷ (a3 ++ t3))) e3 ∙ append_assoc k1 a1 (x2 ∷ (a2 ++ x3 ∷ (a3 ++ t3)))
    ∙ ap (λ l. l ++ (a1 ++ x2 ∷ (a2 ++ x3 ∷ (a3 ++ t3)))) e2 ∙ append_assoc b (x1 ∷ []) (a1 ++ x2 ∷ (a2 ++ x3 ∷ (a3 ++ t3)))
    ∙ ap (λ l. l ++ x1 ∷ (a1 ++ x2 ∷ (a2 ++ x3 ∷ (a3 ++ t3)))) e1 ∙ append_assoc o (begin ∷ []) (x1 ∷ (a1 ++ x2 ∷ (a2 ++ x3 ∷ (a3 ++ t3))))
