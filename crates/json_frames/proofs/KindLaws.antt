-- Kinds of cells, one cell after the other.
use Rattle.{meaning_json.{proofs.cells.Common.{◌≡◌, Bool, true, false, not, cond, ◌&&◌, ◌||◌, List, [], ◌∷◌, ◌++◌, map, refl, ap, sym, ◌∙◌, Option, Some, None, is_some, option_and_then, unwrap_or, list_all, list_any, list_all-append, string_bytes, String, bytes_eq-Decides, false≢true, IsSome, Text, same_text, CellValue, Kind, Int64, Boolean}, specs.{cells.Cell.{string}, tables.Table.{same_kind}, JsonRead.{cell_kind, first_kind, known_kind, kind_of_cells, is_of, has_two_kinds, key_in_place, with_key}}}, std.{proofs.{Common.{ap₂}, lemmas.{Map.Text.{is_eq-slice_cmp, btree_map_updates_text}}}, specs.{BTreeMap.{BTreeMap, keys, insert_entry, get_by_text, is_at, UpdatesBy}, Map.{keys_of as map_keys, lookup}, String.{string_cmp}, Ordering.{match_ordering, is_eq, is_lt, nat_cmp}, Cmp.Lexicographic.{slice_cmp}, declared.cmp.Ordering.{Ordering, TheVariants.{Less, Equal, Greater}}}}, json_frames.specs.Kinds.{clash, IsUniform, keys_seen, kind_under, IsNoted}}

-- Cells

pub first_none : (k : Option Kind) → first_kind k None ≡ k
first_none None = refl
first_none (Some k) = refl

first_twice : (a b c : Option Kind) → first_kind (first_kind a b) c ≡ first_kind a (first_kind b c)
first_twice None b c = refl
first_twice (Some a) b c = refl

pub known_more : (done cells : List CellValue) → known_kind (done ++ cells) ≡ first_kind (known_kind done) (known_kind cells)
known_more [] cells = refl
known_more (c ∷ done) cells = ap (first_kind (cell_kind c)) (known_more done cells) ∙ sym (first_twice (cell_kind c) (known_kind done) (known_kind cells))

pub known_next : (done : List CellValue) (c : CellValue) → known_kind (done ++ c ∷ []) ≡ first_kind (known_kind done) (cell_kind c)
known_next done c = known_more done (c ∷ []) ∙ ap (first_kind (known_kind done)) (first_none (cell_kind c))

-- where no kind is known all cells are missing
none_first : (k rest : Option Kind) → first_kind k rest ≡ None → (k ≡ None) × (rest ≡ None)
none_first None rest e = (refl, e)
none_first (Some k) rest e = cc

pub no_clash : (k : Option Kind) (o : Option Kind) → o ≡ None → clash k o ≡ false
no_clash None o e = refl
no_clash (Some k) o e = ap (clash (Some k)) e

pub all_missing : (k : Option Kind) (cells : List CellValue) → known_kind cells ≡ None → list_all (λ c. not (clash k (cell_kind c))) cells ≡ true
all_missing k [] e = refl
all_missing k (c ∷ cells) e =
    let both = none_first (cell_kind c) (known_kind cells) e in
    ap₂ (λ x y. x && y) (ap not (no_clash k (cell_kind c) both.0)) (all_missing k cells both.1)

kind_itself : (kind : Kind) → same_kind kind kind ≡ true
kind_itself Int64 = refl
kind_itself Boolean = refl
kind_itself string = refl

itself : (k : Option Kind) → clash k k ≡ false
itself None = refl
itself (Some k) = ap not (kind_itself k)

fit_last : (k o : Option Kind) (done : List CellValue) → k ≡ known_kind done → list_all (λ c. not (clash k (cell_kind c))) done ≡ true → clash k o ≡ false
    → (list_all (λ c. not (clash (first_kind k o) (cell_kind c))) done ≡ true) × (clash (first_kind k o) o ≡ false)
fit_last None o done e h n = (all_missing o done (sym e), itself o)
fit_last (Some k) o done e h n = (h, n)

-- one cell more
pub uniform_more : (done : List CellValue) (c : CellValue) → IsUniform done → clash (known_kind done) (cell_kind c) ≡ false → IsUniform (done ++ c ∷ [])
uniform_more done c h n =
    let last = fit_last (known_kind done) (cell_kind c) done refl h n in
    ap (λ k. list_all (λ x. not (clash k (cell_kind x))) (done ++ c ∷ [])) (known_next done c)
    ∙ list_all-append (λ x. not (clash (first_kind (known_kind done) (cell_kind c)) (cell_kind x))) done (c ∷ [])
    ∙ ap₂ (λ x y. x && (y && true)) last.0 (ap not last.1)

of_known : (k : Kind) (o : Option Kind) → not (clash (Some k) o) ≡ is_of k o
of_known k None = refl
of_known k (Some o) = not_not (same_kind k o)
  where
    not_not : (b : Bool) → not (not b) ≡ b
    not_not true = refl
    not_not false = refl

are_known : (k : Kind) (cells : List CellValue) → list_all (λ c. not (clash (Some k) (cell_kind c))) cells ≡ list_all (λ c. is_of k (cell_kind c)) cells
are_known k [] = refl
are_known k (c ∷ cells) = ap₂ (λ x y. x && y) (of_known k (cell_kind c)) (are_known k cells)

by_known : (k : Option Kind) (cells : List CellValue) → k ≡ known_kind cells → list_all (λ c. not (clash k (cell_kind c))) cells ≡ true → list_all (λ c. is_of (unwrap_or k Int64) (cell_kind c)) cells ≡ true
by_known None cells e h = sym (are_known Int64 cells) ∙ all_missing (Some Int64) cells (sym e)
by_known (Some k) cells e h = sym (are_known k cells) ∙ h

-- no cell is of another kind
pub one_kind : (cells : List CellValue) → IsUniform cells → list_all (λ c. is_of (kind_of_cells cells) (cell_kind c)) cells ≡ true
one_kind cells h = by_known (known_kind cells) cells refl h

pub not_two : (cells : List CellValue) → IsUniform cells → has_two_kinds cells ≡ false
not_two cells h = ap not (one_kind cells h)

-- a cell is of another kind
and_false : (b c : Bool) → c ≡ false → (b && c) ≡ false
and_false true c e = e
and_false false c e = refl

differing : (k : Option Kind) (o : Option Kind) → clash k o ≡ true → is_of (unwrap_or k Int64) o ≡ false
differing None o h = cc
differing (Some k) None h = cc
differing (Some k) (Some o) h = not_true (same_kind k o) h
  where
    not_true : (b : Bool) → not b ≡ true → b ≡ false
    not_true true e = cc
    not_true false e = refl

known_clash : (k o rest : Option Kind) → clash k o ≡ true → first_kind k rest ≡ k
known_clash None o rest h = cc
known_clash (Some k) o rest h = refl

pub two_kinds_found : (done : List CellValue) (c : CellValue) (rest : List CellValue) → clash (known_kind done) (cell_kind c) ≡ true → has_two_kinds (done ++ c ∷ rest) ≡ true
two_kinds_found done c rest h =
    let known : known_kind (done ++ c ∷ rest) ≡ known_kind done = known_more done (c ∷ rest) ∙ known_clash (known_kind done) (cell_kind c) (known_kind (c ∷ rest)) h in
    ap not (
    ap (λ k. list_all (λ x. is_of (unwrap_or k Int64) (cell_kind x)) (done ++ c ∷ rest)) known
    ∙ list_all-append (λ x. is_of (unwrap_or (known_kind done) Int64) (cell_kind x)) done (c ∷ rest)
    ∙ and_false _ _ (ap (λ b. b && list_all (λ x. is_of (unwrap_or (known_kind done) Int64) (cell_kind x)) rest) (differing (known_kind done) (cell_kind c) h))
    )

-- Kinds under keys

has_key : {Y X : Type 0} (es : List (String Y × X)) (q : Text) → list_any (same_text q) (map string_bytes (map_keys es)) ≡ is_some (lookup (is_at (λ k. slice_cmp nat_cmp q (string_bytes k))) es)
has_key [] q = refl
has_key (e ∷ es) q =
    let rest = lookup (is_at (λ k. slice_cmp nat_cmp q (string_bytes k))) es in
    ap (λ r. same_text q (string_bytes e.0) || r) (has_key es q) ∙ either (same_text q (string_bytes e.0)) e.1 rest ∙ ap (λ b. is_some (cond b (Some e.1) rest)) (sym (is_eq-slice_cmp q (string_bytes e.0)))
  where
    either : {X : Type 0} (b : Bool) (x : X) (o : Option X) → (b || is_some o) ≡ is_some (cond b (Some x) o)
    either true x o = refl
    either false x o = refl

some_inside : (o : Option (Option Kind)) (k : Kind) → Some k ≡ option_and_then (λ x. x) o → is_some o ≡ true
some_inside None k e = cc
some_inside (Some x) k e = refl

known_stays : (b : Bool) (o kind : Option Kind) (known : Kind) → (b ≡ true → o ≡ Some known) → o ≡ first_kind o (cond b kind None)
known_stays true o kind known h = h refl ∙ sym (ap (λ x. first_kind x kind) (h refl))
known_stays false o kind known h = sym (first_none o)

pub noted_known : {Y : Type 0} (m : BTreeMap (String Y) (Option Kind)) (key : Text) (known : Kind) (kind : Option Kind) → Some known ≡ kind_under m key → IsNoted m key kind m
noted_known m key known kind e = record {
  keys = sym (ap (λ b. cond b (keys_seen m) (key_in_place key (keys_seen m))) (has_key m.entries key ∙ some_inside (get_by_text m key) known e));
  kinds = λ other. known_stays (same_text key other) (kind_under m other) kind known (λ b. ap (kind_under m) (sym ((bytes_eq-Decides key other).0 b)) ∙ sym e);
}

-- a key that isn't there goes to its place
by_order : {Y X : Type 0} (o : Ordering) (k : String Y) (v : X) (e : String Y × X) (es : List (String Y × X)) (rest : List (String Y × X)) → is_eq o ≡ false → map string_bytes (map_keys rest) ≡ key_in_place (string_bytes k) (map string_bytes (map_keys es))
    → map string_bytes (map_keys (match_ordering o ((k, v) ∷ e ∷ es) ((e.0, v) ∷ es) (e ∷ rest))) ≡ cond (is_lt o) (string_bytes k ∷ string_bytes e.0 ∷ map string_bytes (map_keys es)) (string_bytes e.0 ∷ key_in_place (string_bytes k) (map string_bytes (map_keys es)))
by_order Less k v e es rest n h = refl
by_order Equal k v e es rest n h = absurd (false≢true (sym n))
by_order Greater k v e es rest n h = ap (λ l. string_bytes e.0 ∷ l) h

or_false : (b c : Bool) → (b || c) ≡ false → (b ≡ false) × (c ≡ false)
or_false true c e = absurd (false≢true (sym e))
or_false false c e = (refl, e)

placed : {Y X : Type 0} (es : List (String Y × X)) (k : String Y) (v : X) → list_any (same_text (string_bytes k)) (map string_bytes (map_keys es)) ≡ false
    → map string_bytes (map_keys (insert_entry string_cmp es k v)) ≡ key_in_place (string_bytes k) (map string_bytes (map_keys es))
placed [] k v h = refl
placed (e ∷ es) k v h =
    let both = or_false (same_text (string_bytes k) (string_bytes e.0)) _ h in
    by_order (slice_cmp nat_cmp (string_bytes k) (string_bytes e.0)) k v e es (insert_entry string_cmp es k v) (is_eq-slice_cmp (string_bytes k) (string_bytes e.0) ∙ both.0) (placed es k v both.1)

by_presence : {Y : Type 0} (b : Bool) (m n : BTreeMap (String Y) (Option Kind)) (k : String Y) (kind : Option Kind) → list_any (same_text (string_bytes k)) (keys_seen m) ≡ b → (is_some (get_by_text m (string_bytes k)) ≡ true → keys n ≡ keys m) → n.entries ≡ insert_entry string_cmp m.entries k kind
    → keys_seen n ≡ cond b (keys_seen m) (key_in_place (string_bytes k) (keys_seen m))
by_presence true m n k kind b stay is = ap (map string_bytes) (stay (sym (has_key m.entries (string_bytes k)) ∙ b))
by_presence false m n k kind b stay is = ap (λ es. map string_bytes (map_keys es)) is ∙ placed m.entries k kind b

new_kind : (b : Bool) (o : Option (Option Kind)) (kind : Option Kind) → (b ≡ true → option_and_then (λ x. x) o ≡ None) → option_and_then (λ x. x) (cond b (Some kind) o) ≡ first_kind (option_and_then (λ x. x) o) (cond b kind None)
new_kind true o kind h = sym (ap (λ x. first_kind x kind) (h refl))
new_kind false o kind h = sym (first_none _)

pub noted_new : {Y : Type 0} (m n : BTreeMap (String Y) (Option Kind)) (k : String Y) (key : Text) (kind : Option Kind) (old : Option (Option Kind)) → string_bytes k ≡ key → None ≡ kind_under m key → old ≡ get_by_text m (string_bytes k) → (IsSome old → keys n ≡ keys m)
    → n.entries ≡ insert_entry string_cmp m.entries k kind → UpdatesBy string_cmp (λ l. slice_cmp nat_cmp (string_bytes k) (string_bytes l)) m n (Some kind) → IsNoted m key kind n
noted_new m n k key kind old e none was stay is updates = record {
  keys = by_presence _ m n k kind refl (λ there. stay (ap is_some was ∙ there)) is ∙ ap (with_key (keys_seen m)) e;
  kinds = λ other.
      ap (option_and_then (λ x. x)) (btree_map_updates_text (string_bytes k) m n (Some kind) updates other)
      ∙ ap (λ t. option_and_then (λ x. x) (cond (same_text t other) (Some kind) (get_by_text m other))) e
      ∙ new_kind (same_text key other) (get_by_text m other) kind (λ b. ap (kind_under m) (sym ((bytes_eq-Decides key other).0 b)) ∙ sym none);
}
