-- The groups of a table's rows by the cells of columns are those of the rows with their texts.
use Rattle.{frame_parts.proofs.Common.{arith, ◌≡◌, ◌∙◌, refl, ap, sym, subst, ℕ, ◌<◌, List, [], ◌∷◌, map, length, slice_index_or, All, Result, Ok, Err, IfOk, get_or-map, length-map, length-range_with_len, get_or-map-range_with_len, AreDistinct, Label, Text, na_cell, datum, label_datum, cell_label, IsSettled, NumberedTable, Table, column_at, table_value, tuple_value, label_of, tuple_by_number, tuples_settled, labels_value, settled_by}, column_core.proofs.cells.Common.{zero-add}, factorize.{specs.{row_keys.Keys.{same_tuple, place_among}, Keys.{seen_rules}, declared.factor.KeyGroups.{KeyGroups}, group.{Keys.{tuple_rules, group_keys, group_codes}, Rows.{GroupsValue}}}, proofs.{GroupLaws.{rows_inside, tuples_there}, group.{ListLaws.{map_on}, SeenLaws.{keys_seen, codes_seen}}}}, frame_store.specs.Parts.{AreRowsOf}, frame_select.{specs.Across.{cell_across}, proofs.AnswerLaws.{column_seen}}, meaning_method.specs.Groups.{Grouping, row_keys, keys_of, groups_of}, frame_labels.{specs.{Levels.{row_labels}, RowGroups.{AreGroupsOf}}, proofs.{IndexingLaws.{tuples_seen}, KeyLaws.{numbered_keys}}}}
use Rattle.cell_core.specs.declared.cell.Cell.TheVariants as cell

module _ (texts : List Text) (t : NumberedTable) (g : Grouping) (distinct : AreDistinct texts) (settled : IsSettled table_value texts t) where
  abbrev T : Table
  T = table_value texts t

  abbrev K : List (List Label)
  K = numbered_keys t g.keys

  -- the keys of the groups, by numbers
  abbrev of_groups : List (List Label)
  of_groups = group_keys (seen_rules texts) g.sorted g.dropna K

  rows_settled : All (IsSettled tuple_value texts) K
  rows_settled = tuples_settled _ K (settled_by table_value labels_value (λ v. row_keys v g.keys) _ t K (λ ts. sym (tuples_seen ts t _)) settled)

  seen : row_keys T g.keys ≡ map (tuple_value texts) K
  seen = sym (tuples_seen texts t g.keys)

  keys_with_texts : keys_of T g ≡ map (tuple_value texts) of_groups
  keys_with_texts = cc (seen, keys_seen (IsSettled tuple_value texts) (tuple_value texts) (seen_rules texts) tuple_rules (λ a b f h. tuple_by_number texts a b distinct f h) (λ a b f h. refl) (λ a f. refl) g.sorted g.dropna K rows_settled)

  codes_with_texts : group_codes tuple_rules g.sorted g.dropna (row_keys T g.keys) ≡ group_codes (seen_rules texts) g.sorted g.dropna K
  codes_with_texts = cc (seen, codes_seen (IsSettled tuple_value texts) (tuple_value texts) (seen_rules texts) tuple_rules (λ a b f h. tuple_by_number texts a b distinct f h) (λ a b f h. refl) (λ a f. refl) g.sorted g.dropna K rows_settled)

  -- what was found of the rows, whose keys these are
  module _ (found : List (List Label)) (same : found ≡ K) (groups : GroupsValue) (firsts : List ℕ) (counted : groups.count ≡ length (group_keys (seen_rules texts) g.sorted g.dropna found)) (coded : groups.codes ≡ group_codes (seen_rules texts) g.sorted g.dropna found)
      (first : firsts ≡ map (place_among same_tuple found) (group_keys (seen_rules texts) g.sorted g.dropna found)) where
    pub groups_are : groups ≡ groups_of T g
    groups_are = grind (arith, length-map, keys_with_texts, codes_with_texts)

    -- a group for each row, and a first row for each group
    pub codes_counted : length groups.codes ≡ length t.labels
    codes_counted = grind (arith, length-map, length-range_with_len)

    pub firsts_counted : length firsts ≡ groups.count
    firsts_counted = grind (arith, length-map)

    pub firsts_inside : AreRowsOf t firsts
    firsts_inside =
        let rows : length found ≡ length t.labels = grind (arith, length-map, length-range_with_len) in
        rw first (subst (λ n. All (λ row. row < n) (map (place_among same_tuple found) (group_keys (seen_rules texts) g.sorted g.dropna found))) rows (rows_inside texts found g.sorted g.dropna))

    tuple_there : (row : ℕ) → row < length t.labels → row_labels t g.keys row ≡ slice_index_or K row []
    tuple_there = grind (arith, get_or-map-range_with_len, zero-add)

    pub labels_are : labels_value texts (map (row_labels t g.keys) firsts) ≡ keys_of T g
    labels_are = cc (map_on (λ row. row < length t.labels) (row_labels t g.keys) (λ row. slice_index_or K row []) tuple_there firsts firsts_inside, tuples_there texts K g.sorted g.dropna, keys_with_texts)

  -- all of it, if memory sufficed
  pub groups_found : {E : Type 0} (found : List (List Label)) (r : Result KeyGroups E) → found ≡ K → IfOk r (λ made. made.groups.count ≡ length (group_keys (seen_rules texts) g.sorted g.dropna found)) → IfOk r (λ made. made.groups.codes ≡ group_codes (seen_rules texts) g.sorted g.dropna found)
      → IfOk r (λ made. made.firsts ≡ map (place_among same_tuple found) (group_keys (seen_rules texts) g.sorted g.dropna found)) → IfOk r (AreGroupsOf texts t g)
  groups_found found (Ok made) same counted coded first = record {
    groups = groups_are found same made.groups made.firsts counted coded first;
    labels = labels_are found same made.groups made.firsts counted coded first;
    firsts = firsts_inside found same made.groups made.firsts counted coded first;
    count = firsts_counted found same made.groups made.firsts counted coded first;
    codes = codes_counted found same made.groups made.firsts counted coded first;
  }
  groups_found found (Err e) _ _ _ _ = tt

-- the texts of keys were given
pub key_labels_settled : (texts : List Text) (t : NumberedTable) (keys rows : List ℕ) → IsSettled table_value texts t → IsSettled labels_value texts (map (row_labels t keys) rows)
key_labels_settled _ t _ [] _ = λ more. refl
key_labels_settled texts t keys (r ∷ rs) settled = λ more i. row_settled keys more i ∷ key_labels_settled _ t keys rs settled more i
  where
    cell_seen : (ts : List Text) (place : ℕ) → label_datum ts (label_of (cell_across t r place)) ≡ cell_label (slice_index_or (column_at (table_value ts t).columns place).cells r na_cell)
    cell_seen ts place = grind (arith, get_or-map (datum ts) (column_at t.columns place).cells r cell.Na, column_seen ts t.columns place)

    row_settled : (keys : List ℕ) → IsSettled tuple_value texts (row_labels t keys r)
    row_settled [] = λ more. refl
    row_settled (p ∷ ps) = λ more i.
        (cell_seen _ p ∙ ap (λ v. cell_label (slice_index_or (column_at v.columns p).cells r na_cell)) (settled more) ∙ sym (cell_seen _ p)) i
        ∷ row_settled ps more i
