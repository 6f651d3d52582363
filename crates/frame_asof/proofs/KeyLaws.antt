-- The columns of two frames by which their rows meet.
use Rattle.{frame_parts.proofs.Common.{◌≡◌, ◌∙◌, ◌+◌, subst, ◌&&◌, ap, refl, sym, arith, Some, false, ℕ, Bool, List, [], ◌∷◌, ◌++◌, map, drop, length, slice_get, Result, Ok, Err, nat_lt, if◌then◌else◌, append_assoc, length-map, drop_more, get_or_from_slice_get, slice_get_within, Cell, Int64, Text, IsGiven, datum, LabelValue, cell_label, FaultValue, bad_value, limit, then_value, IsSettled, NumberedTable, Table, column_at, table_value, cells_value, try_all, same_kind, cell_settled, cells_given, MakesBy, OpFault, Refused, NoMemory}, column_core.{specs.cells.Fault.{key_kinds}}, cell_core.specs.declared.cell.Kind.{Kind}, frame_select.proofs.AnswerLaws.{column_seen}, frame_labels.specs.method.Merge.{MergeKeys, keys_named, kinds_at, are_same_kinds}, frame_merge.{specs.{declared.keys.MergeKeys.{MergeKeys as NumberedKeys}, Keys.{keys_value, keys_seen, cell_labels, kinds_of}}, proofs.KeyLaws.{all_count}}, meaning_nearest.specs.AsofMerge.{together, asof_keys, are_asof_kinds}, frame_store.proofs.tables.KindLaws.{kind_is, kind_itself}, frame_asof.specs.{Asked.{asof_value, labels_of}, Keys.{places_seen, together_named}, declared.asked.Asof.{Asof}}}

abbrev refusal : {X : Type 0} → OpFault → Result X OpFault
refusal fault = Err fault

-- one label has one column
pub one_named : (l r : Table) (label : LabelValue) (keys : MergeKeys) → keys_named l r (label ∷ []) ≡ Ok keys → (length keys.left ≡ 1) × (length keys.right ≡ 1)
one_named l r label keys is = grind (arith, all_count)

only : (places : List ℕ) (place : ℕ) → length places ≡ 1 → slice_get places 0 ≡ Some place → places ≡ place ∷ []
only (p ∷ []) place count at = grind arith
only [] place count at = cc
only (p ∷ q ∷ ps) place count at = absurd (omega (arith, count))

pub named_so : (texts : List Text) (l r : Table) (label : Cell) (labels : List Cell) (keys : NumberedKeys) (left right : ℕ) → labels ≡ label ∷ [] → keys_named l r (cell_labels texts labels) ≡ Ok (keys_value keys) → slice_get keys.left 0 ≡ Some left → slice_get keys.right 0 ≡ Some right
    → keys_named l r (cell_label (datum texts label) ∷ []) ≡ Ok record { left = left ∷ []; right = right ∷ [] }
named_so texts l r label labels keys left right one is at_left at_right =
    let named : keys_named l r (cell_label (datum texts label) ∷ []) ≡ Ok (keys_value keys) = ap (λ labels. keys_named l r (cell_labels texts labels)) (sym one) ∙ is in
    let counts = one_named l r (cell_label (datum texts label)) (keys_value keys) named in
    named ∙ (λ i. Ok record { left = only keys.left left counts.0 at_left i; right = only keys.right right counts.1 at_right i })

-- the text of a label was given, if those of all were
pub label_given : (texts : List Text) (labels : List Cell) (k : ℕ) (label : Cell) → slice_get labels k ≡ Some label → IsSettled cells_value texts labels → IsSettled datum texts label
label_given texts labels k label at given = cell_settled texts label (subst (λ c. IsGiven texts c) (get_or_from_slice_get labels k label label at) (cells_given texts labels given k label (slice_get_within labels k label at)))

module _ (l r : Table) where
  abbrev named : LabelValue → Result MergeKeys FaultValue
  named label = keys_named l r (label ∷ [])

  -- the columns so far, before those of the other labels
  abbrev behind : List ℕ → List ℕ → List MergeKeys → Result MergeKeys FaultValue
  behind left right each = Ok record { left = left ++ (together each).left; right = right ++ (together each).right }

  abbrev pub rest_named : List ℕ → List ℕ → List LabelValue → Result MergeKeys FaultValue
  rest_named left right labels = then_value (try_all named labels) (behind left right)

  abbrev before : MergeKeys → List MergeKeys → Result (List MergeKeys) FaultValue
  before keys each = Ok (keys ∷ each)

  abbrev step : List ℕ → List ℕ → List LabelValue → Result MergeKeys FaultValue → Result MergeKeys FaultValue
  step left right labels first = then_value (then_value first (λ keys. then_value (try_all named labels) (before keys))) (behind left right)

  abbrev pair_of : ℕ → ℕ → MergeKeys
  pair_of i j = record { left = i ∷ []; right = j ∷ [] }

  one_more : (left right : List ℕ) (label : LabelValue) (labels : List LabelValue) (i j : ℕ) → named label ≡ Ok (pair_of i j) → rest_named left right (label ∷ labels) ≡ rest_named (left ++ i ∷ []) (right ++ j ∷ []) labels
  one_more left right label labels i j is = ap (step left right labels) is ∙ by (try_all named labels)
    where
      by : (more : Result (List MergeKeys) FaultValue) → then_value (then_value more (before (pair_of i j))) (behind left right) ≡ then_value more (behind (left ++ i ∷ []) (right ++ j ∷ []))
      by (Ok each) = λ k. Ok record { left = sym (append_assoc left (i ∷ []) (together each).left) k; right = sym (append_assoc right (j ∷ []) (together each).right) k }
      by (Err fault) = refl

  refused : (left right : List ℕ) (label : LabelValue) (labels : List LabelValue) (fault : FaultValue) → named label ≡ Err fault → rest_named left right (label ∷ labels) ≡ Err fault
  refused left right label labels fault is = ap (step left right labels) is

module _ (texts : List Text) (l r : Table) (labels : List Cell) (left right : List ℕ) (k : ℕ) where
  abbrev pub so_far : Result MergeKeys FaultValue
  so_far = rest_named l r left right (cell_labels texts (drop k labels))

  module _ (label : Cell) (at : slice_get labels k ≡ Some label) where
    from_here : cell_labels texts (drop k labels) ≡ cell_label (datum texts label) ∷ cell_labels texts (drop (k + 1) labels)
    from_here = ap (cell_labels texts) (drop_more labels k label (slice_get_within labels k label at)) ∙ (λ i. cell_label (datum texts (get_or_from_slice_get labels k label label at i)) ∷ cell_labels texts (drop (k + 1) labels))

    pub places_more : (i j : ℕ) (left' right' : List ℕ) (whole : Result MergeKeys FaultValue) → keys_named l r (cell_label (datum texts label) ∷ []) ≡ Ok record { left = i ∷ []; right = j ∷ [] } → left' ≡ left ++ i ∷ [] → right' ≡ right ++ j ∷ []
        → so_far ≡ whole → rest_named l r left' right' (cell_labels texts (drop (k + 1) labels)) ≡ whole
    places_more i j left' right' whole is left_is right_is before =
        (λ m. rest_named l r (left_is m) (right_is m) (cell_labels texts (drop (k + 1) labels)))
        ∙ sym (one_more l r left right _ _ i j is) ∙ ap (rest_named l r left right) (sym from_here) ∙ before

    label_refused : (fault : FaultValue) (whole : Result MergeKeys FaultValue) → keys_named l r (cell_label (datum texts label) ∷ []) ≡ Err fault → so_far ≡ whole → whole ≡ Err fault
    label_refused fault whole is before = sym before ∙ ap (rest_named l r left right) from_here ∙ refused l r left right _ _ fault is

    pub label_fails : (fault : OpFault) (whole : Result MergeKeys FaultValue) → MakesBy places_seen texts (refusal {X = ℕ × ℕ} fault) (keys_named l r (cell_label (datum texts label) ∷ [])) → so_far ≡ whole → MakesBy keys_seen texts (refusal {X = NumberedKeys} fault) whole
    label_fails (Refused code) whole is before = (label_refused _ whole is.0 before, is.1)
    label_fails NoMemory whole is before = tt

-- kinds
kinds_seen : (texts : List Text) (t : NumberedTable) (places : List ℕ) → kinds_at (table_value texts t) places ≡ kinds_of t places
kinds_seen texts t places = λ i. map (λ place. (column_seen texts t.columns place i).kind) places

module _ (texts : List Text) (l r : NumberedTable) (asof : Asof) where
  abbrev L : Table
  L = table_value texts l

  abbrev R : Table
  R = table_value texts r

  abbrev tested : Bool → Bool → MergeKeys → Result MergeKeys FaultValue
  tested a b keys = if a then (if b then Err limit else Ok keys) else Err (bad_value key_kinds)

  abbrev test : MergeKeys → Result MergeKeys FaultValue
  test keys = tested (are_asof_kinds (kinds_at L keys.left) (kinds_at R keys.right)) (nat_lt 4 (length (cell_labels texts asof.by))) keys

  pub checked : (labels : List Cell) (keys : NumberedKeys) (a b : Bool) → labels ≡ labels_of asof → together_named L R (cell_labels texts labels) ≡ Ok (keys_value keys) → are_asof_kinds (kinds_of l keys.left) (kinds_of r keys.right) ≡ a → nat_lt 4 (length asof.by) ≡ b
      → asof_keys L R (asof_value texts asof) ≡ (if a then (if b then Err limit else Ok (keys_value keys)) else Err (bad_value key_kinds))
  checked labels keys a b are is kinds count =
      let named : together_named L R (cell_labels texts (labels_of asof)) ≡ Ok (keys_value keys) = ap (λ labels. together_named L R (cell_labels texts labels)) (sym are) ∙ is in
      let first : asof_keys L R (asof_value texts asof) ≡ test (keys_value keys) = ap (λ found. then_value found test) named in
      let of_kinds : are_asof_kinds (kinds_at L keys.left) (kinds_at R keys.right) ≡ a = (λ i. are_asof_kinds (kinds_seen texts l keys.left i) (kinds_seen texts r keys.right i)) ∙ kinds in
      let of_count : nat_lt 4 (length (cell_labels texts asof.by)) ≡ b = ap (nat_lt 4) (length-map (cells_value texts asof.by) cell_label ∙ length-map asof.by (datum texts)) ∙ count in
      first ∙ (λ i. tested (of_kinds i) (of_count i) (keys_value keys))

  unnamed : (labels : List Cell) (fault : FaultValue) → labels ≡ labels_of asof → together_named L R (cell_labels texts labels) ≡ Err fault → asof_keys L R (asof_value texts asof) ≡ Err fault
  unnamed labels fault are is =
      let named : together_named L R (cell_labels texts (labels_of asof)) ≡ Err fault = ap (λ labels. together_named L R (cell_labels texts labels)) (sym are) ∙ is in
      ap (λ found. then_value found test) named

  pub unnamed_so : (labels : List Cell) (fault : OpFault) → labels ≡ labels_of asof → MakesBy keys_seen texts (refusal {X = NumberedKeys} fault) (together_named L R (cell_labels texts labels)) → MakesBy keys_seen texts (refusal {X = NumberedKeys} fault) (asof_keys L R (asof_value texts asof))
  unnamed_so labels (Refused code) are is = (unnamed labels _ are is.0, is.1)
  unnamed_so labels NoMemory are is = tt

module _ (l : NumberedTable) (places : List ℕ) (place : ℕ) (kind : Kind) (others : List Kind) (at : slice_get places 0 ≡ Some place) (is : kind ≡ (column_at l.columns place).kind) where
  kinds_from : are_asof_kinds (kinds_of l places) others ≡ same_kind kind Int64 && are_same_kinds (kinds_of l places) others
  kinds_from = by places refl
    where
      by : (ps : List ℕ) → ps ≡ places → are_asof_kinds (kinds_of l places) others ≡ same_kind kind Int64 && are_same_kinds (kinds_of l places) others
      by [] same = grind arith
      by (p ∷ ps) same = grind arith

  pub no_numbers : (kind ≡ Int64 → ⊥) → false ≡ are_asof_kinds (kinds_of l places) others
  no_numbers = grind (arith, kinds_from, kind_is)

  pub of_numbers : kind ≡ Int64 → (b : Bool) → b ≡ are_same_kinds (kinds_of l places) others → b ≡ are_asof_kinds (kinds_of l places) others
  of_numbers = grind (arith, kinds_from, kind_itself)
