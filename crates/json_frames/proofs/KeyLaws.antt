-- The keys of records: a key that isn't among them has no cell.
use Rattle.{meaning_json.{proofs.cells.Common.{◌≡◌, Bool, true, false, not, cond, ◌&&◌, ◌||◌, List, [], ◌∷◌, map, refl, ap, sym, ◌∙◌, Option, Some, None, list_any, list_all, bytes_eq-Decides, false≢true, Text, same_text, Kind}, specs.JsonRead.{cell_found, cell_kind, is_of, kind_of_cells, has_two_kinds, key_in_place, with_key, with_keys, keys_in, keys_after, keys_of, members_in, cells_under}}, serde_json.specs.{Data.{Data, Members}, Find.{get, get_member}}, std.{proofs.{Common.{ap₂}, lemmas.Map.Text.{is_eq-slice_cmp}}, specs.{Ordering.{match_ordering, is_eq, is_lt, nat_cmp}, Cmp.Lexicographic.{slice_cmp}, declared.cmp.Ordering.{Ordering, TheVariants.{Less, Equal, Greater}}}}, json_frames.{specs.Kinds.{IsUniform, HasMixed}, proofs.KindLaws.{not_two}}}
use Rattle.serde_json.specs.Data as dat

or_swap : (a b c : Bool) → (a || (b || c)) ≡ (b || (a || c))
or_swap true true c = refl
or_swap true false c = refl
or_swap false b c = refl

or_sym : (a b : Bool) → (a || b) ≡ (b || a)
or_sym true true = refl
or_sym true false = refl
or_sym false true = refl
or_sym false false = refl

or_twice : (a b c : Bool) → ((a || b) || c) ≡ (a || (b || c))
or_twice true b c = refl
or_twice false b c = refl

or_true : (a b : Bool) → b ≡ true → (a || b) ≡ true
or_true true b e = refl
or_true false b e = e

or_none : (a b : Bool) → (a || b) ≡ false → (a ≡ false) × (b ≡ false)
or_none true b e = absurd (false≢true (sym e))
or_none false b e = (refl, e)

-- a key in its place
any_in_place : (p : Text → Bool) (k : Text) (ks : List Text) → list_any p (key_in_place k ks) ≡ (p k || list_any p ks)
any_in_place p k [] = refl
any_in_place p k (l ∷ ks) = by (is_lt (slice_cmp nat_cmp k l)) (any_in_place p k ks)
  where
    by : (b : Bool) → list_any p (key_in_place k ks) ≡ (p k || list_any p ks) → list_any p (cond b (k ∷ l ∷ ks) (l ∷ key_in_place k ks)) ≡ (p k || (p l || list_any p ks))
    by true e = refl
    by false e = ap (λ b. p l || b) e ∙ or_swap (p l) (p k) (list_any p ks)

-- a text that equals a key which is there is there
there : (q k : Text) (ks : List Text) (b : Bool) → same_text q k ≡ b → list_any (same_text k) ks ≡ true → list_any (same_text q) ks ≡ (b || list_any (same_text q) ks)
there q k ks true h e = ap (λ t. list_any (same_text t) ks) ((bytes_eq-Decides q k).0 h) ∙ e
there q k ks false h e = refl

any_with_key : (q k : Text) (ks : List Text) (b : Bool) → list_any (same_text k) ks ≡ b → list_any (same_text q) (with_key ks k) ≡ (same_text q k || list_any (same_text q) ks)
any_with_key q k ks true e = ap (λ b. list_any (same_text q) (cond b ks (key_in_place k ks))) e ∙ there q k ks (same_text q k) refl e
any_with_key q k ks false e = ap (λ b. list_any (same_text q) (cond b ks (key_in_place k ks))) e ∙ any_in_place (same_text q) k ks

any_with_keys : (q : Text) (ks more : List Text) → list_any (same_text q) (with_keys ks more) ≡ (list_any (same_text q) more || list_any (same_text q) ks)
any_with_keys q ks [] = refl
any_with_keys q ks (k ∷ more) =
    any_with_keys q (with_key ks k) more
    ∙ ap (λ b. list_any (same_text q) more || b) (any_with_key q k ks _ refl)
    ∙ or_swap (list_any (same_text q) more) (same_text q k) (list_any (same_text q) ks)
    ∙ sym (or_twice (same_text q k) (list_any (same_text q) more) (list_any (same_text q) ks))

-- a record has nothing under another key
other_member : (o : Ordering) (d : Data) (rest : Option Data) → is_eq o ≡ false → rest ≡ None → match_ordering o rest (Some d) rest ≡ None
other_member Less d rest n e = e
other_member Equal d rest n e = absurd (false≢true (sym n))
other_member Greater d rest n e = e

not_member : (key : Text) (ms : Members) → list_any (same_text key) (map (λ m. m.0) (members_in ms)) ≡ false → get_member key ms ≡ None
not_member key dat.no_members h = refl
not_member key (dat.member l d ms) h =
    let both = or_none (same_text key l) (list_any (same_text key) (map (λ m. m.0) (members_in ms))) h in
    other_member (slice_cmp nat_cmp key l) d (get_member key ms) (is_eq-slice_cmp key l ∙ both.0) (not_member key ms both.1)

not_in : (key : Text) (row : Data) → list_any (same_text key) (keys_in row) ≡ false → get key row ≡ None
not_in key dat.null h = refl
not_in key (dat.boolean b) h = refl
not_in key (dat.number n) h = refl
not_in key (dat.string s) h = refl
not_in key (dat.array ds) h = refl
not_in key (dat.object ms) h = not_member key ms h

-- the cells under a key that no record has are missing
none_under : (kind : Kind) (key : Text) (ks : List Text) (rows : List Data) → list_any (same_text key) (keys_after ks rows) ≡ false
    → (list_any (same_text key) ks ≡ false) × (list_all (λ c. is_of kind (cell_kind c)) (cells_under rows key) ≡ true)
none_under kind key ks [] e = (e, refl)
none_under kind key ks (row ∷ rows) e =
    let later = none_under kind key (with_keys ks (keys_in row)) rows e in
    let both = or_none (list_any (same_text key) (keys_in row)) (list_any (same_text key) ks) (sym (any_with_keys key ks (keys_in row)) ∙ later.0) in (
      both.1,
      ap₂ (λ x y. x && y) (ap (λ o. is_of kind (cell_kind (cell_found o))) (not_in key row both.0)) later.1,
    )

-- a key with cells of two kinds is one of the keys
mixed_is_key : (rows : List Data) (key : Text) (b : Bool) → list_any (same_text key) (keys_of rows) ≡ b → has_two_kinds (cells_under rows key) ≡ true → b ≡ true
mixed_is_key rows key true e h = refl
mixed_is_key rows key false e h = sym (ap not (none_under (kind_of_cells (cells_under rows key)) key [] rows e).1) ∙ h

mixed_among : (rows : List Data) (key : Text) → has_two_kinds (cells_under rows key) ≡ true → (ks : List Text) → list_any (same_text key) ks ≡ true → list_any has_two_kinds (map (cells_under rows) ks) ≡ true
mixed_among rows key h [] e = e
mixed_among rows key h (k ∷ ks) e = by (same_text key k) refl e (mixed_among rows key h ks)
  where
    by : (b : Bool) → same_text key k ≡ b → (b || list_any (same_text key) ks) ≡ true → (list_any (same_text key) ks ≡ true → list_any has_two_kinds (map (cells_under rows) ks) ≡ true)
        → (has_two_kinds (cells_under rows k) || list_any has_two_kinds (map (cells_under rows) ks)) ≡ true
    by true same e later = ap (λ b. b || list_any has_two_kinds (map (cells_under rows) ks)) (ap (λ t. has_two_kinds (cells_under rows t)) (sym ((bytes_eq-Decides key k).0 same)) ∙ h)
    by false other e later = or_true (has_two_kinds (cells_under rows k)) _ (later e)

pub mixed_there : (rows : List Data) → HasMixed rows → list_any has_two_kinds (map (cells_under rows) (keys_of rows)) ≡ true
mixed_there rows two = mixed_among rows two.key two.mixed (keys_of rows) (mixed_is_key rows two.key _ refl two.mixed)

pub none_mixed : (rows : List Data) (ks : List Text) → ((key : Text) → IsUniform (cells_under rows key)) → list_any has_two_kinds (map (cells_under rows) ks) ≡ false
none_mixed rows [] h = refl
none_mixed rows (k ∷ ks) h = ap₂ (λ x y. x || y) (not_two (cells_under rows k) (h k)) (none_mixed rows ks h)
