-- Texts of labels that stand again.
use Rattle.{
  meaning_json.{
    proofs.cells.Common.{◌≡◌, ℕ, suc, ◌<◌, Bool, true, false, cond, List, [], ◌∷◌, ◌++◌, length, map, get_or, refl, ap, sym, ◌∙◌, append_assoc, arith, Option, Some, None, Ok, Err, subst, IfSome, length-append, length-map, get_or-map, map_push, take, take_all, take_more, ◌+◌, ◌-◌, ◌≤◌, GridValue, Label, label_datum, list_any, list_any-append, string_bytes, String, bytes_eq-Decides, with_text, Text, same_text, LabelValue, na},
    specs.{tables.Table.{Table, heading_value, tuple_value}, format.Told.{told, heading_at}, declared.Orient.TheVariants.{Records}, JsonWrite.{value_text, key_text, heading_label, column_labels, records_json, first_repeated, repeated, unless_repeated, json_text_of}},
  },
  frame_format.proofs.ToldLaws.{columns_told, headings_seen, heading_seen},
  json_frames.{specs.{Labels.{texts_seen, repeated_from, IsFoundBehind}, Answers.{NamesGiven}, declared.writing.TextRefusal.TheVariants.{Repeated}}, proofs.TableLaws.{heading_is, keys_count}},
}

-- a text joins those behind it
same_then : (t u : Text) (later : List Text) → same_text t u ≡ true → list_any (same_text u) later ≡ true → list_any (same_text t) later ≡ true
same_then t u later e h = let is : t ≡ u = (bytes_eq-Decides t u).0 e in ap (λ v. list_any (same_text v) later) is ∙ h

joins : (had : Bool) (later done : List Text) (u t : Text) → had ≡ list_any (same_text u) later → list_any (same_text t) later ≡ list_any (same_text t) done → list_any (same_text t) (cond had later (later ++ u ∷ [])) ≡ list_any (same_text t) (u ∷ done)
joins true later done u t e h = grind (arith, same_then t u later, h)
joins false later done u t e h = grind (arith, list_any-append, h)

one_within : (had : Bool) (k n : ℕ) (found : Option ℕ) → k < n → IfSome found (λ p. p < n) → IfSome (cond had (Some k) found) (λ p. p < n)
one_within true k n found h w = h
one_within false k n found h w = w

pub found_before : {Y : Type 0} (texts before rest : List (String Y)) (x : String Y) (later later' : List Text) (found found' : Option ℕ) (had : Bool) → rest ≡ before ++ x ∷ [] → IsFoundBehind texts rest later found
    → had ≡ list_any (same_text (string_bytes x)) later → later' ≡ with_text later (string_bytes x) → found' ≡ cond had (Some (length before)) found → IsFoundBehind texts before later' found'
found_before texts before rest x later later' found found' had front f e le fe =
    let count : length rest ≡ suc (length before) = omega (arith, ap length front, length-append before (x ∷ [])) in
    let split : texts ≡ before ++ x ∷ f.done = f.split ∙ ap (λ l. l ++ f.done) front ∙ append_assoc before (x ∷ []) f.done in
    record {
      done = x ∷ f.done;
      split = split;
      first = fe ∙ ap (λ b. cond b (Some (length before)) found) (e ∙ f.behind (string_bytes x)) ∙ ap (λ p. cond (list_any (same_text (string_bytes x)) (texts_seen f.done)) (Some (length before)) p) (f.first ∙ ap (λ n. repeated_from n (texts_seen f.done)) count);
      behind = λ t. ap (list_any (same_text t)) (le ∙ ap (λ b. cond b later (later ++ string_bytes x ∷ [])) (sym e)) ∙ joins had later (texts_seen f.done) (string_bytes x) t e (f.behind t);
      within = subst (λ o. IfSome o (λ p. p < length texts)) (sym fe) (one_within had (length before) (length texts) found (omega (arith, ap length split, length-append before (x ∷ f.done))) f.within);
    }

pub found_at_last : {Y : Type 0} (texts : List (String Y)) (later : List Text) (found : Option ℕ) → IsFoundBehind texts [] later found → found ≡ repeated_from 0 (texts_seen texts)
found_at_last texts later found f = f.first ∙ ap (λ l. repeated_from 0 (texts_seen l)) (sym f.split)

-- the label at the place

past : (labels before : List LabelValue) (l : LabelValue) → get_or (before ++ l ∷ labels) (length before) na ≡ l
past labels [] l = refl
past labels (b ∷ before) l = past labels before l

module _ (l : LabelValue) (labels before : List LabelValue) (n place : ℕ) where
  here_or_later : (b : Bool) → n ≡ length before → cond b (Some n) (repeated_from (suc n) (map key_text labels)) ≡ Some place
      → (repeated_from (suc n) (map key_text labels) ≡ Some place → first_repeated labels ≡ Some (get_or (before ++ l ∷ labels) place na))
      → cond b (Some l) (first_repeated labels) ≡ Some (get_or (before ++ l ∷ labels) place na)
  here_or_later true e h _ = cc (past labels before l, h, e)
  here_or_later false _ h later = later h

label_found : (labels before : List LabelValue) (n place : ℕ) → n ≡ length before → repeated_from n (map key_text labels) ≡ Some place → first_repeated labels ≡ Some (get_or (before ++ labels) place na)
label_found [] before n place e h = cc
label_found (l ∷ labels) before n place e h =
    here_or_later l labels before n place (list_any (same_text (key_text l)) (map key_text labels)) e h
    (λ later. label_found labels (before ++ l ∷ []) (suc n) place (omega (arith, length-append before (l ∷ []))) later ∙ ap (λ ls. Some (get_or ls place na)) (append_assoc before (l ∷ []) labels))

none_later : (l : LabelValue) (b : Bool) (n : ℕ) (labels : List LabelValue) → cond b (Some n) (repeated_from (suc n) (map key_text labels)) ≡ None → (repeated_from (suc n) (map key_text labels) ≡ None → first_repeated labels ≡ None) → cond b (Some l) (first_repeated labels) ≡ None
none_later l true n labels h _ = cc
none_later l false n labels h later = later h

no_label : (labels : List LabelValue) (n : ℕ) → repeated_from n (map key_text labels) ≡ None → first_repeated labels ≡ None
no_label [] n h = refl
no_label (l ∷ labels) n h = none_later l (list_any (same_text (key_text l)) (map key_text labels)) n labels h (no_label labels (suc n))

module _ {Y : Type 0} (t : Table) (keys : List (String Y)) (found : Option ℕ) (is : texts_seen keys ≡ map key_text (column_labels t)) (at : found ≡ repeated_from 0 (texts_seen keys)) where
  searched : found ≡ repeated_from 0 (map key_text (column_labels t))
  searched = at ∙ ap (repeated_from 0) is

  -- a frame whose labels have different texts has a text, and any other a refusal
  pub different_keys : found ≡ None → json_text_of Records t ≡ Ok (value_text (records_json t))
  different_keys none = ap (λ o. unless_repeated o (records_json t)) (no_label (column_labels t) 0 (sym searched ∙ none))

  pub repeated_key : (place : ℕ) (l : LabelValue) → found ≡ Some place → l ≡ get_or (column_labels t) place na → json_text_of Records t ≡ Err (repeated (l ∷ []))
  repeated_key place l some e =
      ap (λ o. unless_repeated o (records_json t)) (label_found (column_labels t) [] 0 place refl (sym searched ∙ some)) ∙ ap (λ m. Err (repeated (m ∷ []))) (sym e)

-- the text at a place is that of the label there
pub key_named : {Y : Type 0} (keys : List (String Y)) (labels : List LabelValue) (k : ℕ) (x : String Y) → texts_seen keys ≡ map key_text labels → k < length labels → x ≡ get_or keys k x → string_bytes x ≡ key_text (get_or labels k na)
key_named keys labels k x e h is =
    ap string_bytes is ∙ sym (get_or-map string_bytes keys k x [] (omega (arith, ap length e, length-map keys string_bytes, length-map labels key_text)))
    ∙ ap (λ l. get_or l k []) e ∙ get_or-map key_text labels k na [] h

-- one text more
pub text_pushed : {Y : Type 0} (keys new : List (String Y)) (x : String Y) → new ≡ keys ++ x ∷ [] → texts_seen new ≡ texts_seen keys ++ string_bytes x ∷ []
text_pushed keys new x e = ap texts_seen e ∙ map_push string_bytes keys x

-- the last of some texts behind the others
pub last_split : {X : Type 0} (rest : List X) (x : X) → 1 ≤ length rest → x ≡ get_or rest (length rest - 1) x → rest ≡ take (length rest - 1) rest ++ x ∷ []
last_split rest x some is =
    let n : ℕ = length rest - 1 in
    sym (take_all (n + 1) rest (omega arith)) ∙ take_more rest n x (omega arith) ∙ ap (λ y. take n rest ++ y ∷ []) (sym is)

-- What a frame that a grid tells has as records
module _ {Y : Type 0} (t : Table) (texts : List Text) (g : GridValue) (keys : List (String Y)) (found : Option ℕ) (is : t ≡ told texts g) (named : texts_seen keys ≡ map key_text (column_labels t)) (at : found ≡ repeated_from 0 (texts_seen keys)) where
  module _ (place : ℕ) (some : found ≡ Some place) (within : IfSome found (λ k. k < length keys)) where
    pub place_within : place < g.columns
    place_within =
        let below : place < length keys = subst (λ o. IfSome o (λ k. k < length keys)) some within in
        omega (arith, ap length named, length-map keys string_bytes, keys_count t 0, headings_seen t texts g is, ap (λ s. length s.columns) is, columns_told texts g)

    pub refused : (l : Label) (tuple : List Label) → label_datum texts l ≡ heading_label (heading_value texts (g.heading place)) → tuple ≡ l ∷ [] → json_text_of Records (told texts g) ≡ Err (repeated (tuple_value texts tuple))
    refused l tuple label one =
        let column : place < length t.columns = omega (arith, place_within, ap (λ s. length s.columns) is, columns_told texts g) in
        let headed : place < length t.headings = omega (arith, column, headings_seen t texts g is) in
        let l_is : label_datum texts l ≡ get_or (column_labels t) place na = label ∙ ap heading_label (heading_seen t texts g is place (g.heading place) column refl) ∙ sym (heading_is t place headed) in
        ap (json_text_of Records) (sym is) ∙ repeated_key t keys found named at place (label_datum texts l) some l_is ∙ ap (λ ls. Err (repeated (tuple_value texts ls))) (sym one)

  pub written : (words : Text) → found ≡ None → words ≡ value_text (records_json t) → json_text_of Records (told texts g) ≡ Ok words
  written words none e = ap (json_text_of Records) (sym is) ∙ different_keys t keys found named at none ∙ ap Ok (sym e)

-- The label of a column
module _ (g : GridValue) (place : ℕ) (l : Label) (within : place < g.columns) (label : (texts : List Text) → label_datum texts l ≡ heading_label (heading_value texts (g.heading place))) where
  label_told : (texts : List Text) → label_datum texts l ≡ heading_label (heading_at (told texts g) place)
  label_told texts = label texts ∙ ap heading_label (heading_seen (told texts g) texts g refl place (g.heading place) (omega (arith, within, columns_told texts g)) refl)

  pub label_given : (texts : List Text) (tuple : List Label) → tuple ≡ l ∷ [] → NamesGiven texts g (Repeated tuple)
  label_given texts tuple one settled more =
      ap (λ ls. Some (repeated (tuple_value (texts ++ more) ls))) one ∙ ap (λ d. Some (repeated (d ∷ []))) (label_told (texts ++ more) ∙ ap (λ t. heading_label (heading_at t place)) (settled more) ∙ sym (label_told texts))
      ∙ ap (λ ls. Some (repeated (tuple_value texts ls))) (sym one)
