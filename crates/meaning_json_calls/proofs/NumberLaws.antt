-- The whole numbers that a text of JSON has are of 64 bits.
use Rattle.std.{proofs.Common.{◌≡◌, ℕ, zero, suc, ◌^◌, ◌<◌, ◌≤◌, pos, List, Bool, true, false, nat_lt, if◌then◌else◌, Option, Some, None, refl, arith}, proofs.lemmas.Bool.Decides.{nat_tests}, specs.{Prelude.{IfSome, option_map, option_and_then}, Ordering.{nat_cmp, match_ordering}, Cmp.Lexicographic.{slice_cmp}, declared.cmp.Ordering.{Ordering}}}
use Rattle.fast_float.specs.Text.{Parts, with_sign}
use Rattle.json.specs.Json as json
use Rattle.json.specs.Lex.{tokens}
use Rattle.serde_json.specs.Data.{Num, unsigned, negative, float, Data, null, boolean, number, string, array, object, Items, no_items, item, Members, no_members, member, put}
use Rattle.serde_json.specs.Read.{float_of, number_from, number_of, of_json, of_items, of_members, max_depth, read}
use Rattle.serde_json.specs.Find.{get, at, get_member, get_item, as_i64}
use Rattle.meaning_json.specs.cells.Text.{Text}
use Rattle.meaning_json.specs.cells.Cell.{has_64_bits}

-- a number below 0 that fits
abbrev pub IsFit : Num → Type 0
IsFit (unsigned n) = Unit {0}
IsFit (negative z) = has_64_bits z ≡ true
IsFit (float x) = Unit {0}

abbrev mutual
  pub HasFit : Data → Type 0
  HasFit null = Unit {0}
  HasFit (boolean b) = Unit {0}
  HasFit (number n) = IsFit n
  HasFit (string s) = Unit {0}
  HasFit (array ds) = ItemsFit ds
  HasFit (object ms) = MembersFit ms

  pub ItemsFit : Items → Type 0
  ItemsFit no_items = Unit {0}
  ItemsFit (item d ds) = HasFit d × ItemsFit ds

  pub MembersFit : Members → Type 0
  MembersFit no_members = Unit {0}
  MembersFit (member k d ms) = HasFit d × MembersFit ms

-- Numbers

float_fit : (sign : Bool) (p : Parts) → IfSome (float_of sign p) IsFit
float_fit sign p = grind arith

below_zero : (n : ℕ) → 0 < n → n ≤ 2 ^ 63 → has_64_bits (with_sign true n) ≡ true
below_zero zero some few = absurd (omega arith)
below_zero (suc n) some few = grind (arith, nat_tests)

from_fit : (sign : Bool) (p : Parts) → IfSome (number_from sign p) IsFit
from_fit false p = grind (arith, float_fit false p)
from_fit true p = grind (arith, nat_tests, below_zero, float_fit true p)

number_fit : (s : List ℕ) → IfSome (number_of s) IsFit
unfolding number_of
number_fit s = grind (arith, from_fit)

-- Values

ordered_fit : (o : Ordering) (a b c : Members) → MembersFit a → MembersFit b → MembersFit c → MembersFit (match_ordering o a b c)
ordered_fit = grind arith

put_fit : (k : Text) (d : Data) (ms : Members) → HasFit d → MembersFit ms → MembersFit (put k d ms)
put_fit k d no_members h hs = (h, tt)
put_fit k d (member l e ms) h hs = ordered_fit (slice_cmp nat_cmp k l) _ _ _ (h, hs) (h, hs.1) (hs.0, put_fit k d ms h hs.1)

map_fit : {A B : Type 0} (P : A → Type 0) (Q : B → Type 0) (f : A → B) (o : Option A) → ((a : A) → P a → Q (f a)) → IfSome o P → IfSome (option_map f o) Q
map_fit P Q f None so h = tt
map_fit P Q f (Some a) so h = so a h

then_fit : {A B : Type 0} (P : A → Type 0) (Q : B → Type 0) (f : A → Option B) (o : Option A) → ((a : A) → P a → IfSome (f a) Q) → IfSome o P → IfSome (option_and_then f o) Q
then_fit P Q f None so h = tt
then_fit P Q f (Some a) so h = so a h

mutual
  value_fit : (j : json.Json) → IfSome (of_json j) HasFit
  value_fit json.null = tt
  value_fit (json.boolean b) = tt
  value_fit (json.number s) = map_fit IsFit HasFit number (number_of s) (λ n h. h) (number_fit s)
  value_fit (json.string s) = tt
  value_fit (json.array js) = map_fit ItemsFit HasFit array (of_items js) (λ ds h. h) (items_fit js)
  value_fit (json.object ms) = map_fit MembersFit HasFit object (of_members ms no_members) (λ ns h. h) (members_fit ms no_members tt)

  items_fit : (js : json.Items) → IfSome (of_items js) ItemsFit
  items_fit json.no_items = tt
  items_fit (json.item j js) = then_fit HasFit ItemsFit (λ d. option_map (item d) (of_items js)) (of_json j) (λ d h. map_fit ItemsFit ItemsFit (item d) (of_items js) (λ ds hs. (h, hs)) (items_fit js)) (value_fit j)

  members_fit : (ms : json.Members) (found : Members) → MembersFit found → IfSome (of_members ms found) MembersFit
  members_fit json.no_members found h = h
  members_fit (json.member k j ms) found hs = then_fit HasFit MembersFit (λ d. of_members ms (put k d found)) (of_json j) (λ d h. members_fit ms (put k d found) (put_fit k d found h hs)) (value_fit j)

any_fit : (o : Option json.Json) → IfSome (option_and_then of_json o) HasFit
any_fit None = tt
any_fit (Some j) = value_fit j

pub read_fit : (text : List ℕ) → IfSome (read text) HasFit
read_fit text = any_fit (option_and_then (λ p. json.if_last p.0 p.1) (json.value max_depth (tokens text)))

-- What stands under a key or at a place

either_fit : (o : Ordering) (a b c : Option Data) → IfSome a HasFit → IfSome b HasFit → IfSome c HasFit → IfSome (match_ordering o a b c) HasFit
either_fit = grind arith

member_fit : (k : Text) (ms : Members) → MembersFit ms → IfSome (get_member k ms) HasFit
member_fit k no_members h = tt
member_fit k (member l e ms) h = either_fit (slice_cmp nat_cmp k l) _ _ _ (member_fit k ms h.1) h.0 (member_fit k ms h.1)

item_fit : (n : ℕ) (ds : Items) → ItemsFit ds → IfSome (get_item n ds) HasFit
item_fit n no_items h = tt
item_fit zero (item d ds) h = h.0
item_fit (suc n) (item d ds) h = item_fit n ds h.1

pub key_fit : (k : Text) (d : Data) → HasFit d → IfSome (get k d) HasFit
key_fit k (object ms) h = member_fit k ms h
key_fit k null h = tt
key_fit k (boolean b) h = tt
key_fit k (number n) h = tt
key_fit k (string s) h = tt
key_fit k (array ds) h = tt

pub place_fit : (n : ℕ) (d : Data) → HasFit d → IfSome (at n d) HasFit
place_fit n (array ds) h = item_fit n ds h
place_fit n null h = tt
place_fit n (boolean b) h = tt
place_fit n (number m) h = tt
place_fit n (string s) h = tt
place_fit n (object ms) h = tt

-- a whole number of 64 bits is one
pub whole_fit : (n : Num) → IsFit n → IfSome (as_i64 n) (λ z. has_64_bits z ≡ true)
whole_fit (unsigned n) h = by _ refl
  where
    by : (b : Bool) → b ≡ nat_lt n (2 ^ 63) → IfSome (if b then Some (pos n) else None) (λ z. has_64_bits z ≡ true)
    by = grind arith
whole_fit (negative z) h = h
whole_fit (float x) h = tt
