-- The kinds of a row's cells, and of the cells of all rows.
use Rattle.{meaning_json.{proofs.cells.Common.{◌≡◌, Bool, true, false, cond, List, [], ◌∷◌, ◌++◌, refl, ap, sym, ◌∙◌, Option, Some, None, string_bytes, String, bytes_eq-Decides, false≢true, Text, same_text, Kind}, specs.JsonRead.{cell_kind, cell_found, first_kind, known_kind, has_two_kinds, with_key, with_keys, keys_in, keys_after, cells_under}}, serde_json.{specs.{Data.{Data, object}, Find.{get, get_member}, View.{view, members_view}}, proofs.Views.{Entry, member_here, member_later}}, std.{proofs.{Common.{subst}, lemmas.{Cmp.{nat_list_cmp_total}}}, specs.{BTreeMap.{BTreeMap}, Map.{keys_of as map_keys}, String.{string_cmp}, List.{AllByRecursion, Sorted.{IsStrictlySortedBy}}, Ordering.{match_ordering, ordering_reverse, nat_cmp}, Cmp.Lexicographic.{slice_cmp}, declared.{alloc.Global.{Global}, cmp.Ordering.{TheVariants.{Less, Greater}}}}}, json_frames.{specs.Kinds.{clash, IsUniform, keys_seen, kind_under, kind_in, IsNoted, WithRow, HasClash, OfRows, HasMixed}, proofs.KindLaws.{first_none, known_next, uniform_more, no_clash, two_kinds_found}}}

-- a key that is above those before it is found where it stands
abbrev IsAbove : Text → List Entry → Type 0
IsAbove k [] = Unit {0}
IsAbove k (e ∷ es) = (slice_cmp nat_cmp k (string_bytes e.0) ≡ Greater) × IsAbove k es

below_middle : (first : Entry) (es : List Entry) (e : Entry) (more : List Entry) → AllByRecursion (λ y. string_cmp first.0 y ≡ Less) (map_keys (es ++ e ∷ more)) → string_cmp first.0 e.0 ≡ Less
below_middle first [] e more h = h.0
below_middle first (x ∷ es) e more h = below_middle first es e more h.1

pub above_done : (done : List Entry) (e : Entry) (left : List Entry) → IsStrictlySortedBy string_cmp (map_keys (done ++ e ∷ left)) → IsAbove (string_bytes e.0) done
unfolding IsStrictlySortedBy
above_done [] e left h = tt
above_done (d ∷ done) e left h = (nat_list_cmp_total.antisymm (string_bytes e.0) (string_bytes d.0) ∙ ap ordering_reverse (below_middle d done e left h.0), above_done done e left h.1)

none_in : (done : List Entry) (k : Text) → IsAbove k done → get_member k (members_view done) ≡ None
none_in [] k h = refl
none_in (d ∷ done) k h =
    let rest = get_member k (members_view done) in
    ap (λ o. match_ordering o rest (Some (view d.1)) rest) h.0 ∙ none_in done k h.1

here : (done : List Entry) (e : Entry) (left : List Entry) → IsAbove (string_bytes e.0) done → get_member (string_bytes e.0) (members_view (done ++ e ∷ left)) ≡ Some (view e.1)
here [] e left h = member_here (string_bytes e.0) e left refl
here (d ∷ done) e left h =
    let rest = get_member (string_bytes e.0) (members_view (done ++ e ∷ left)) in
    ap (λ o. match_ordering o rest (Some (view d.1)) rest) h.0 ∙ here done e left h.1

elsewhere : (done : List Entry) (e : Entry) (key : Text) → same_text (string_bytes e.0) key ≡ false → get_member key (members_view (done ++ e ∷ [])) ≡ get_member key (members_view done)
elsewhere [] e key h = member_later key e [] (λ is. false≢true (sym h ∙ (bytes_eq-Decides (string_bytes e.0) key).1 (sym is)))
elsewhere (d ∷ done) e key h = ap (λ r. match_ordering (slice_cmp nat_cmp key (string_bytes d.0)) r (Some (view d.1)) r) (elsewhere done e key h)

names_more : (done : List Entry) (e : Entry) → keys_in (object (members_view (done ++ e ∷ []))) ≡ keys_in (object (members_view done)) ++ string_bytes e.0 ∷ []
names_more [] e = refl
names_more (d ∷ done) e = ap (λ l. string_bytes d.0 ∷ l) (names_more done e)

keys_more : (ks xs : List Text) (k : Text) → with_keys ks (xs ++ k ∷ []) ≡ with_key (with_keys ks xs) k
keys_more ks [] k = refl
keys_more ks (x ∷ xs) k = keys_more (with_key ks x) xs k

first_twice : (a b c : Option Kind) → first_kind (first_kind a b) c ≡ first_kind a (first_kind b c)
first_twice None b c = refl
first_twice (Some a) b c = refl

module _ (done : List Entry) (e : Entry) (kind : Option Kind) (above : IsAbove (string_bytes e.0) done) (is : kind ≡ cell_kind (cell_found (Some (view e.1)))) where
  kind_last : (key : Text) (b : Bool) → same_text (string_bytes e.0) key ≡ b → kind_in (object (members_view (done ++ e ∷ []))) key ≡ first_kind (kind_in (object (members_view done)) key) (cond b kind None)
  kind_last key true h =
      let same : string_bytes e.0 ≡ key = (bytes_eq-Decides (string_bytes e.0) key).0 h in
      ap (kind_in (object (members_view (done ++ e ∷ [])))) (sym same)
      ∙ ap (λ o. cell_kind (cell_found o)) (here done e [] above) ∙ sym is
      ∙ ap (λ o. first_kind (cell_kind (cell_found o)) kind) (sym (none_in done (string_bytes e.0) above))
      ∙ ap (λ k. first_kind (kind_in (object (members_view done)) k) kind) same
  kind_last key false h = ap (λ o. cell_kind (cell_found o)) (elsewhere done e key h) ∙ sym (first_none _)

  module _ (old now : BTreeMap (String Global) (Option Kind)) (so_far : WithRow old (object (members_view done)) now) where
    -- what is known before of the key that comes
    known_before : kind_under now (string_bytes e.0) ≡ kind_under old (string_bytes e.0)
    known_before =
        so_far.kinds (string_bytes e.0) ∙ ap (λ o. first_kind (kind_under old (string_bytes e.0)) (cell_kind (cell_found o))) (none_in done (string_bytes e.0) above) ∙ first_none _

    fit_last : (key : Text) (b : Bool) → same_text (string_bytes e.0) key ≡ b → clash (kind_under now (string_bytes e.0)) kind ≡ false → clash (kind_under old key) (kind_in (object (members_view (done ++ e ∷ []))) key) ≡ false
    fit_last key true h n =
        let same : string_bytes e.0 ≡ key = (bytes_eq-Decides (string_bytes e.0) key).0 h in
        ap (λ k. clash (kind_under old k) (kind_in (object (members_view (done ++ e ∷ []))) k)) (sym same)
        ∙ ap (λ o. clash (kind_under old (string_bytes e.0)) (cell_kind (cell_found o))) (here done e [] above)
        ∙ ap (clash (kind_under old (string_bytes e.0))) (sym is) ∙ ap (λ k. clash k kind) (sym known_before) ∙ n
    fit_last key false h n = ap (λ o. clash (kind_under old key) (cell_kind (cell_found o))) (elsewhere done e key h) ∙ so_far.fit key

    pub row_more : (new : BTreeMap (String Global) (Option Kind)) → IsNoted now (string_bytes e.0) kind new → clash (kind_under now (string_bytes e.0)) kind ≡ false → WithRow old (object (members_view (done ++ e ∷ []))) new
    row_more new noted n = record {
      keys = noted.keys ∙ ap (λ l. with_key l (string_bytes e.0)) so_far.keys ∙ sym (keys_more (keys_seen old) (keys_in (object (members_view done))) (string_bytes e.0)) ∙ ap (with_keys (keys_seen old)) (sym (names_more done e));
      kinds = λ key.
          noted.kinds key ∙ ap (λ k. first_kind k (cond (same_text (string_bytes e.0) key) kind None)) (so_far.kinds key)
          ∙ first_twice (kind_under old key) (kind_in (object (members_view done)) key) (cond (same_text (string_bytes e.0) key) kind None) ∙ ap (first_kind (kind_under old key)) (sym (kind_last key (same_text (string_bytes e.0) key) refl));
      fit = λ key. fit_last key (same_text (string_bytes e.0) key) refl n;
    }

    pub row_clash : (left : List Entry) → clash (kind_under now (string_bytes e.0)) kind ≡ true → HasClash old (object (members_view (done ++ e ∷ left)))
    row_clash left n = record {
      key = string_bytes e.0;
      differs =
          ap (λ o. clash (kind_under old (string_bytes e.0)) (cell_kind (cell_found o))) (here done e left above)
          ∙ ap (clash (kind_under old (string_bytes e.0))) (sym is) ∙ ap (λ k. clash k kind) (sym known_before) ∙ n;
    }

pub row_begins : (old : BTreeMap (String Global) (Option Kind)) → WithRow old (object (members_view [])) old
row_begins old = record { keys = refl; kinds = λ key. sym (first_none _); fit = λ key. no_clash _ None refl }

-- all rows

cells_more : (done : List Data) (row : Data) (key : Text) → cells_under (done ++ row ∷ []) key ≡ cells_under done key ++ cell_found (get key row) ∷ []
cells_more [] row key = refl
cells_more (d ∷ done) row key = ap (λ l. cell_found (get key d) ∷ l) (cells_more done row key)

cells_split : (done : List Data) (row : Data) (rest : List Data) (key : Text) → cells_under (done ++ row ∷ rest) key ≡ cells_under done key ++ cell_found (get key row) ∷ cells_under rest key
cells_split [] row rest key = refl
cells_split (d ∷ done) row rest key = ap (λ l. cell_found (get key d) ∷ l) (cells_split done row rest key)

rows_more : (ks : List Text) (done : List Data) (row : Data) → keys_after ks (done ++ row ∷ []) ≡ with_keys (keys_after ks done) (keys_in row)
rows_more ks [] row = refl
rows_more ks (d ∷ done) row = rows_more (with_keys ks (keys_in d)) done row

pub of_more : (done : List Data) (row : Data) (now new : BTreeMap (String Global) (Option Kind)) → OfRows now done → WithRow now row new → OfRows new (done ++ row ∷ [])
of_more done row now new so_far noted = record {
  keys = noted.keys ∙ ap (λ l. with_keys l (keys_in row)) so_far.keys ∙ sym (rows_more [] done row);
  known = λ key.
      noted.kinds key ∙ ap (λ k. first_kind k (kind_in row key)) (so_far.known key) ∙ sym (known_next (cells_under done key) (cell_found (get key row))) ∙ ap known_kind (sym (cells_more done row key));
  fit = λ key.
      subst IsUniform (sym (cells_more done row key)) (uniform_more (cells_under done key) (cell_found (get key row)) (so_far.fit key) (ap (λ k. clash k (kind_in row key)) (sym (so_far.known key)) ∙ noted.fit key));
}

pub has_mixed : (done : List Data) (row : Data) (rest : List Data) (now : BTreeMap (String Global) (Option Kind)) → OfRows now done → HasClash now row → HasMixed (done ++ row ∷ rest)
has_mixed done row rest now so_far other = record {
  key = other.key;
  mixed =
      ap has_two_kinds (cells_split done row rest other.key)
      ∙ two_kinds_found (cells_under done other.key) (cell_found (get other.key row)) (cells_under rest other.key) (ap (λ k. clash k (kind_in row other.key)) (sym (so_far.known other.key)) ∙ other.differs);
}
