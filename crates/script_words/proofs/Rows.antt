-- What `clap` has found, by the demonstration's value and the plain words.
use Rattle.std.proofs.Common.{◌≡◌, ◌∙◌, ◌||◌, inl, inr, ap, refl, subst, sym, Bool, true, false, cond, List, [], ◌∷◌, ◌++◌, codes, Option, Some, None, find, is_some, option_map, unwrap_or, slice_get, true≢false}
use Rattle.std.specs.Option.{option_and_then}
use Rattle.std.specs.Str.{bytes_eq}
use Rattle.std.proofs.lemmas.Bool.{cases_Bool, or_parts}
use Rattle.std.proofs.lemmas.Slice.Eq.{bytes_eq-Decides}
use Rattle.clap.specs.Walk.{Row, Text, all_of, first_of, has_row, one_of, reading_by, row_text, used, with_default, with_values, without}
use Rattle.clap.specs.declared.parser.matches.ValueSource.TheVariants.{CommandLine}
use Rattle.clap.specs.declared.builder.value_parser.Reading.{Reading}
use Rattle.clap.specs.declared.parser.matches.ValueSource.{ValueSource}
use Rattle.meaning_words.specs.Words.{Flag, stats, keep_going, Words, has_flag, no_flags, no_words, with_flag}
use Rattle.script_words.specs.CommandLine.{demo_id, flag_name, plain_id, plain_of}
use Rattle.script_words.proofs.Line.{demo, flag, plain}

abbrev one : Text → List Text
one value = value ∷ []

-- the row of an id
abbrev pub found_of : Text → List Row → Option Row
found_of id rows = find (λ r. bytes_eq r.id id) rows

-- what is found for a flag
abbrev set_row : Flag → Row
set_row f = record { id = flag_name f; values = codes "true" ∷ []; count = None; source = Some CommandLine; reading = reading_by (flag f) }

abbrev flag_row : Flag → Bool → Option Row
flag_row f true = Some (set_row f)
flag_row f false = None

pub record Holds (rows : List Row) (words : Words) : Type 0 where
  pub flags : (f : Flag) → found_of (flag_name f) rows ≡ flag_row f (has_flag f words.flags)
  pub demo : all_of demo_id rows ≡ option_map one words.demo
  pub plain : plain_of rows ≡ words.plain

-- nothing was read yet
pub holds_none : Holds [] no_words
holds_none = record { flags = none; demo = refl; plain = refl }
  where
    none : (f : Flag) → found_of (flag_name f) [] ≡ flag_row f (has_flag f no_flags)
    none stats = refl
    none keep_going = refl

-- more values of an id, behind those that it has
values_added : (id : Text) (how : Reading) (s : ValueSource) (values : List Text) (rows : List Row) → bytes_eq id id ≡ true
    → all_of id (with_values id how s values rows) ≡ Some (unwrap_or (all_of id rows) [] ++ values)
values_added id how s values [] same = rw same
values_added id how s values (r ∷ rs) same = elim (cases_Bool (bytes_eq r.id id)) [
  | inl here ↦ rw here (rw here)
  | inr other ↦ rw other (rw other (values_added id how s values rs same))
]

other_values : (id other : Text) (how : Reading) (s : ValueSource) (values : List Text) (rows : List Row) → bytes_eq id other ≡ false
    → all_of other (with_values id how s values rows) ≡ all_of other rows
other_values id other how s values [] differs = rw differs
other_values id other how s values (r ∷ rs) differs = elim (cases_Bool (bytes_eq r.id id)) [
  | inl here ↦
      let is : r.id ≡ id = (bytes_eq-Decides r.id id).0 here in
      let not_other : bytes_eq r.id other ≡ false = ap (λ t. bytes_eq t other) is ∙ differs in
      rw here (rw not_other)
  | inr not_here ↦ rw not_here (later (bytes_eq r.id other) _ (other_values id other how s values rs differs))
]
  where
    later : (b : Bool) (more : List Row) → all_of other more ≡ all_of other rs
        → option_map (λ (x : Row). x.values) (cond b (Some r) (find (λ x. bytes_eq x.id other) more))
        ≡ option_map (λ (x : Row). x.values) (cond b (Some r) (find (λ x. bytes_eq x.id other) rs))
    later true more e = refl
    later false more e = e

-- the row of a new id, and of another one
found_new : (id : Text) (how : Reading) (s : ValueSource) (values : List Text) (rows : List Row) → bytes_eq id id ≡ true → has_row id rows ≡ false
    → found_of id (with_values id how s values rows) ≡ Some (record { id = id; values = values; count = None; source = Some s; reading = how })
found_new id how s values [] same none = rw same
found_new id how s values (r ∷ rs) same none =
    let none_of = or_parts (bytes_eq r.id id) (has_row id rs) none in
    rw none_of.0 (rw none_of.0 (found_new id how s values rs same none_of.1))

found_other : (id other : Text) (how : Reading) (s : ValueSource) (values : List Text) (rows : List Row) → bytes_eq id other ≡ false
    → found_of other (with_values id how s values rows) ≡ found_of other rows
found_other id other how s values [] differs = rw differs
found_other id other how s values (r ∷ rs) differs = elim (cases_Bool (bytes_eq r.id id)) [
  | inl here ↦
      let is : r.id ≡ id = (bytes_eq-Decides r.id id).0 here in
      let not_other : bytes_eq r.id other ≡ false = ap (λ t. bytes_eq t other) is ∙ differs in
      rw here (rw not_other)
  | inr not_here ↦ rw not_here (ap (λ found. cond (bytes_eq r.id other) (Some r) found) (found_other id other how s values rs differs))
]

without_none : (id : Text) (rows : List Row) → has_row id rows ≡ false → without id rows ≡ rows
without_none id [] none = refl
without_none id (r ∷ rs) none =
    let none_of = or_parts (bytes_eq r.id id) (has_row id rs) none in
    rw none_of.0 (ap (λ l. r ∷ l) (without_none id rs none_of.1))

has_row_is : (id : Text) (rows : List Row) → has_row id rows ≡ is_some (all_of id rows)
has_row_is id [] = refl
has_row_is id (r ∷ rs) = go (bytes_eq r.id id) (has_row_is id rs)
  where
    go : (b : Bool) → has_row id rs ≡ is_some (all_of id rs)
        → (b || has_row id rs) ≡ is_some (option_map (λ (x : Row). x.values) (cond b (Some r) (find (λ x. bytes_eq x.id id) rs)))
    go true e = refl
    go false e = e

pub has_demo : (rows : List Row) (words : Words) → Holds rows words → has_row demo_id rows ≡ is_some words.demo
has_demo rows words h = has_row_is demo_id rows ∙ ap is_some h.demo ∙ go words.demo
  where
    go : (o : Option Text) → is_some (option_map one o) ≡ is_some o
    go None = refl
    go (Some x) = refl

pub has_set : (f : Flag) (rows : List Row) (words : Words) → Holds rows words → has_row (flag_name f) rows ≡ has_flag f words.flags
has_set f rows words h = has_row_is (flag_name f) rows ∙ ap (λ o. is_some (option_map (λ (x : Row). x.values) o)) (h.flags f) ∙ go (has_flag f words.flags)
  where
    go : (b : Bool) → is_some (option_map (λ (x : Row). x.values) (flag_row f b)) ≡ b
    go true = refl
    go false = refl

none_found : (o : Option Text) (found : Option (List Text)) → found ≡ option_map one o → is_some o ≡ false → found ≡ None
none_found None found is none = is
none_found (Some x) found is none = absurd (true≢false none)

-- the rows once a flag was met that none had
abbrev pub rows_with : Flag → List Row → List Row
rows_with f rows = with_values (flag_name f) (reading_by (flag f)) CommandLine (codes "true" ∷ []) rows

used_rows : (f : Flag) (rows : List Row) → has_row (flag_name f) rows ≡ false → used (flag f) [] rows ≡ rows_with f rows
used_rows stats rows absent = ap (rows_with stats) (without_none (flag_name stats) rows absent)
used_rows keep_going rows absent = ap (rows_with keep_going) (without_none (flag_name keep_going) rows absent)

with_new : (f : Flag) (rows : List Row) (words : Words) → Holds rows words → has_row (flag_name f) rows ≡ false
    → (g : Flag) → found_of (flag_name g) (rows_with f rows) ≡ flag_row g (has_flag g (with_flag f words.flags))
with_new stats rows words h absent stats = found_new (flag_name stats) _ CommandLine (codes "true" ∷ []) rows refl absent
with_new stats rows words h absent keep_going = found_other (flag_name stats) (flag_name keep_going) _ CommandLine (codes "true" ∷ []) rows refl ∙ h.flags keep_going
with_new keep_going rows words h absent stats = found_other (flag_name keep_going) (flag_name stats) _ CommandLine (codes "true" ∷ []) rows refl ∙ h.flags stats
with_new keep_going rows words h absent keep_going = found_new (flag_name keep_going) _ CommandLine (codes "true" ∷ []) rows refl absent

no_demo : (f : Flag) → bytes_eq (flag_name f) demo_id ≡ false
no_demo stats = refl
no_demo keep_going = refl

no_plain : (f : Flag) → bytes_eq (flag_name f) plain_id ≡ false
no_plain stats = refl
no_plain keep_going = refl

pub adds_flag : (f : Flag) (rows : List Row) (words : Words) → Holds rows words → has_flag f words.flags ≡ false → Holds (used (flag f) [] rows) (record words { flags = with_flag f words.flags })
adds_flag f rows words h none =
    let absent = has_set f rows words h ∙ none in
    let added : Holds (rows_with f rows) (record words { flags = with_flag f words.flags }) = record {
      flags = with_new f rows words h absent;
      demo = other_values (flag_name f) demo_id _ CommandLine (codes "true" ∷ []) rows (no_demo f) ∙ h.demo;
      plain = ap (λ o. unwrap_or o []) (other_values (flag_name f) plain_id _ CommandLine (codes "true" ∷ []) rows (no_plain f)) ∙ h.plain;
    } in
    subst (λ rs. Holds rs (record words { flags = with_flag f words.flags })) (sym (used_rows f rows absent)) added

demo_apart : (f : Flag) → bytes_eq demo_id (flag_name f) ≡ false
demo_apart stats = refl
demo_apart keep_going = refl

plain_apart : (f : Flag) → bytes_eq plain_id (flag_name f) ≡ false
plain_apart stats = refl
plain_apart keep_going = refl

pub adds_demo : (rows : List Row) (words : Words) (value : Text) → Holds rows words → is_some words.demo ≡ false
    → Holds (used demo (value ∷ []) rows) (record words { demo = Some value })
adds_demo rows words value h none =
    let fresh = without_none demo_id rows (has_demo rows words h ∙ none) in
    record {
      flags = λ f. found_other demo_id (flag_name f) _ _ (value ∷ []) (without demo_id rows) (demo_apart f) ∙ ap (found_of (flag_name f)) fresh ∙ h.flags f;
      demo = values_added demo_id _ _ (value ∷ []) (without demo_id rows) refl
          ∙ ap (λ l. Some (unwrap_or (all_of demo_id l) [] ++ value ∷ [])) fresh
          ∙ ap (λ o. Some (unwrap_or o [] ++ value ∷ [])) (none_found words.demo _ h.demo none);
      plain = ap (λ o. unwrap_or o []) (other_values demo_id plain_id _ _ (value ∷ []) (without demo_id rows) refl ∙ ap (all_of plain_id) fresh)
          ∙ h.plain;
    }

pub adds_plain : (rows : List Row) (words : Words) (word : Text) → Holds rows words
    → Holds (used plain (word ∷ []) rows) (record words { plain = words.plain ++ word ∷ [] })
adds_plain rows words word h = record {
  flags = λ f. found_other plain_id (flag_name f) _ _ (word ∷ []) rows (plain_apart f) ∙ h.flags f;
  demo = other_values plain_id demo_id _ _ (word ∷ []) rows refl ∙ h.demo;
  plain = ap (λ o. unwrap_or o []) (values_added plain_id _ _ (word ∷ []) rows refl) ∙ ap (λ l. l ++ word ∷ []) h.plain;
}

pub first_demo : (rows : List Row) (words : Words) → Holds rows words → first_of demo_id rows ≡ words.demo
first_demo rows words h = found (find (λ r. bytes_eq r.id demo_id) rows) ∙ ap (option_and_then (λ (vs : List Text). slice_get vs 0)) h.demo ∙ go words.demo
  where
    found : (o : Option Row) → option_and_then (λ (r : Row). slice_get r.values 0) o
        ≡ option_and_then (λ (vs : List Text). slice_get vs 0) (option_map (λ (r : Row). r.values) o)
    found None = refl
    found (Some r) = refl

    go : (o : Option Text) → option_and_then (λ (vs : List Text). slice_get vs 0) (option_map one o) ≡ o
    go None = refl
    go (Some x) = refl

-- What is found once flags that aren't given have their defaults.
abbrev pub flag_text : Bool → Text
flag_text true = codes "true"
flag_text false = codes "false"

pub record HoldsAll (rows : List Row) (words : Words) : Type 0 where
  pub flags : (f : Flag) → one_of (flag_name f) rows ≡ Some (flag_text (has_flag f words.flags))
  pub demo : first_of demo_id rows ≡ words.demo
  pub plain : plain_of rows ≡ words.plain

-- the text of a flag, where it is met or has its default
default_text : (f : Flag) (rows : List Row) (b : Bool) → has_row (flag_name f) rows ≡ b → found_of (flag_name f) rows ≡ flag_row f b
    → one_of (flag_name f) (with_default rows (flag f)) ≡ Some (flag_text b)
default_text stats rows true has found = rw has (ap (option_and_then row_text) found)
default_text stats rows false none found = rw none (ap (option_and_then row_text) (found_new (flag_name stats) _ _ (codes "false" ∷ []) rows refl none))
default_text keep_going rows true has found = rw has (ap (option_and_then row_text) found)
default_text keep_going rows false none found = rw none (ap (option_and_then row_text) (found_new (flag_name keep_going) _ _ (codes "false" ∷ []) rows refl none))

-- the default of a flag leaves another id as it was
default_apart : (f : Flag) (id : Text) (rows : List Row) → bytes_eq (flag_name f) id ≡ false → found_of id (with_default rows (flag f)) ≡ found_of id rows
default_apart stats id rows apart = go (has_row (flag_name stats) rows) refl
  where
    go : (b : Bool) → has_row (flag_name stats) rows ≡ b → found_of id (with_default rows (flag stats)) ≡ found_of id rows
    go true has = rw has refl
    go false none = rw none (found_other (flag_name stats) id _ _ (codes "false" ∷ []) rows apart)
default_apart keep_going id rows apart = go (has_row (flag_name keep_going) rows) refl
  where
    go : (b : Bool) → has_row (flag_name keep_going) rows ≡ b → found_of id (with_default rows (flag keep_going)) ≡ found_of id rows
    go true has = rw has refl
    go false none = rw none (found_other (flag_name keep_going) id _ _ (codes "false" ∷ []) rows apart)

abbrev pub with_defaults : List Row → List Row
with_defaults rows = with_default (with_default rows (flag stats)) (flag keep_going)

defaults_apart : (id : Text) (rows : List Row) → bytes_eq (flag_name stats) id ≡ false → bytes_eq (flag_name keep_going) id ≡ false → found_of id (with_defaults rows) ≡ found_of id rows
defaults_apart id rows apart apart' = default_apart keep_going id (with_default rows (flag stats)) apart' ∙ default_apart stats id rows apart

pub with_flags : (rows : List Row) (words : Words) → Holds rows words → HoldsAll (with_defaults rows) words
with_flags rows words h = record {
  flags = told;
  demo = ap (option_and_then (λ (r : Row). slice_get r.values 0)) (defaults_apart demo_id rows refl refl) ∙ first_demo rows words h;
  plain = ap (λ o. unwrap_or (option_map (λ (r : Row). r.values) o) []) (defaults_apart plain_id rows refl refl) ∙ h.plain;
}
  where
    middle : List Row
    middle = with_default rows (flag stats)

    -- the other flag is found as before
    kept : found_of (flag_name keep_going) middle ≡ found_of (flag_name keep_going) rows
    kept = default_apart stats (flag_name keep_going) rows refl

    still : has_row (flag_name keep_going) middle ≡ has_row (flag_name keep_going) rows
    still = has_row_is (flag_name keep_going) middle ∙ ap (λ o. is_some (option_map (λ (x : Row). x.values) o)) kept ∙ sym (has_row_is (flag_name keep_going) rows)

    told : (f : Flag) → one_of (flag_name f) (with_defaults rows) ≡ Some (flag_text (has_flag f words.flags))
    told stats = ap (option_and_then row_text) (default_apart keep_going (flag_name stats) middle refl) ∙ default_text stats rows _ (has_set stats rows words h) (h.flags stats)
    told keep_going = default_text keep_going middle _ (still ∙ has_set keep_going rows words h) (kept ∙ h.flags keep_going)
