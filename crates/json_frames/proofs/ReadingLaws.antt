-- Tables that are read.
use Rattle.{meaning_json.{proofs.cells.Common.{◌≡◌, ◌≤◌, ◌^◌, ℕ, true, false, List, [], ◌∷◌, length, map, take, take-append_seam, refl, ap, sym, ◌∙◌, arith, Option, Some, None, option_map, Result, list_any, unwrap_or, IsLonger, Text, Kind, String}, specs.{declared.Orient.{Orient}, JsonRead.{JsonValue, JsonRefusal, has_two_kinds, keys_of, cells_under, values_in, members_in, array_in, member_count, table_if_read, table_of_file}}}, serde_json.{specs.{Data.{Data, Members, Items}, Find.{as_array, as_object}, Read.{read}, View.{items_view, members_view}, declared.value.Value.{Value}}, proofs.Views.{Entry}}, std.{proofs.{lemmas.Str.{utf8_valid_len-IsUtf8}}, specs.{Prelude.{IsUtf8, is_err}, BTreeMap.{BTreeMap}, declared.alloc.Global.{Global}}}, json_frames.{specs.{Kinds.{OfRows}, Views.{values_seen, ReadsAs, ReadAnswers}, declared.reading.{JsonTable.{JsonTable}, JsonFault.{JsonFault}}}, proofs.{TextLaws.{values_back}, KeyLaws.{none_mixed}}}}
use Rattle.serde_json.specs.Data as dat

-- no two cells under a key differ
pub one_kind : (kinds : BTreeMap (String Global) (Option Kind)) (rows : List Data) → OfRows kinds rows → list_any has_two_kinds (map (cells_under rows) (keys_of rows)) ≡ false
one_kind kinds rows of = none_mixed rows (keys_of rows) of.fit

-- Values

-- the values of an array
pub array_values : (d : Data) (vs : List Value) → Some (items_view vs) ≡ as_array d → Some (values_seen vs) ≡ array_in d
array_values d vs e = ap Some (sym (values_back (values_seen vs))) ∙ ap (option_map values_in) e

-- the keys of an object
count_members : (es : List Entry) → length (map (λ m. m.0) (members_in (members_view es))) ≡ length es
count_members [] = refl
count_members (e ∷ es) = omega (arith, count_members es)

keys_counted : (d : Data) (ms : Members) → Some ms ≡ as_object d → member_count d ≡ length (map (λ m. m.0) (members_in ms))
keys_counted dat.null ms e = cc
keys_counted (dat.boolean b) ms e = cc
keys_counted (dat.number n) ms e = cc
keys_counted (dat.string s) ms e = cc
keys_counted (dat.array ds) ms e = cc
keys_counted (dat.object ns) ms e = ap (λ o. length (map (λ m. m.0) (members_in (unwrap_or o ns)))) (sym e)

pub members_counted : (d : Data) (es : List Entry) → Some (members_view es) ≡ as_object d → member_count d ≡ length es
members_counted d es e = keys_counted d (members_view es) e ∙ count_members es

pub no_members_counted : (d : Data) → None ≡ as_object d → member_count d ≡ 0
no_members_counted dat.null e = refl
no_members_counted (dat.boolean b) e = refl
no_members_counted (dat.number n) e = refl
no_members_counted (dat.string s) e = refl
no_members_counted (dat.array ds) e = refl
no_members_counted (dat.object ns) e = cc

-- Files

front : (old inner : List Text) → IsLonger old inner → take (length old) inner ≡ old
front = grind (arith, take-append_seam)

pub refused : (old inner new : List Text) (known : ℕ) (result : Result JsonTable JsonFault) (meant : Result JsonValue JsonRefusal) → IsLonger old inner → known ≡ length old → new ≡ take known inner → is_err result ≡ true → ReadsAs inner result meant → ReadAnswers old new result meant
refused = grind (arith, front)

-- a file that is a text and isn't too long
pub file_read : (orient : Orient) (bytes : List ℕ) → length bytes ≤ 2 ^ 28 → IsUtf8 bytes → table_if_read orient (read bytes) ≡ table_of_file orient bytes
file_read = grind (arith, utf8_valid_len-IsUtf8)
