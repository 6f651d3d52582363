-- Laws of the slots of a dictionary.
use Rattle.{std.{proofs.{Common.{◌<◌, ◌≤◌, length, take, position, slice_get, ◌≡◌, ◌∙◌, ℕ, Bool, cond, false, nat_eq, get_or, Some, None, List, [], ◌∷◌, ◌++◌, refl, sym, ap, arith, subst, IsUtf8}, lemmas.{List.{map_push, take-map, length-map, get_or-map, Folds.{list_any_none}, Sums.{position_or_len_is, fails_before_first}}, Map.Keys.{IsDistinct-from_apart}, Grind.{common_steps}, Option.{get_or_from_slice_get, slice_get_within}}}, specs.{List.{list_any, position_or_len, IsDistinct, AllByRecursion}, Str.{IsCharBoundary}}}, indexmap.specs.IndexSet.{insert_key}, cell_core.{specs.{declared.slots.Slot.{Slot}, Pieces.{pieces, IsBuffer}, Texts.{with_text, number_of}, Keys.{key_at, key_place, AreKeyed, IsOthers, IsFree}, Slots.{keys_of, starts_of, texts_of, AreSlots}}, proofs.{PieceLaws.{pieces-length, buffer_more, pieces_more, buffer_first, pieces_first, start_is_boundary}, KeyLaws.{missing, keyed_more, keyed_first, number_there, number_new}}}}

abbrev pub same_slot : Slot → Slot → Bool
same_slot = λ a b. nat_eq a.key b.key

-- a slot is found by its key
place_seen : (k : ℕ) (slots : List Slot) → position_or_len (λ s. nat_eq k s.key) slots ≡ key_place (keys_of slots) k
place_seen k [] = refl
place_seen k (s ∷ slots) = cc (place_seen k slots)

pub at_key : (slots : List Slot) (k i : ℕ) → Some i ≡ position (λ s. nat_eq k s.key) slots → (key_place (keys_of slots) k ≡ i) × (i < length slots)
at_key slots k i found =
    let seen = place_seen k slots in
    let at : position_or_len (λ s. nat_eq k s.key) slots ≡ i = grind (arith, common_steps) in
    let inside : i < length slots = grind (arith, common_steps) in
    (sym seen ∙ at, inside)

pub no_key : (slots : List Slot) (k : ℕ) → None ≡ position (λ s. nat_eq k s.key) slots → length (keys_of slots) ≤ key_place (keys_of slots) k
no_key slots k none =
    let seen = place_seen k slots in
    let size = length-map slots (λ s. s.key) in
    let past : length slots ≤ position_or_len (λ s. nat_eq k s.key) slots = grind (arith, common_steps) in
    omega arith

-- different slots have different keys
distinct-head : (s : Slot) (slots : List Slot) → AllByRecursion (λ b. same_slot s b ≡ false) slots → AllByRecursion (λ k. nat_eq s.key k ≡ false) (keys_of slots)
distinct-head s [] h = h
distinct-head s (b ∷ slots) h = (h.0, distinct-head s slots h.1)

pub distinct_keys : (slots : List Slot) → IsDistinct same_slot slots → IsDistinct nat_eq (keys_of slots)
unfolding IsDistinct
distinct_keys [] h = h
distinct_keys (s ∷ slots) h = (distinct-head s slots h.0, distinct_keys slots h.1)

-- a slot of a new key goes last
pub insert_new : (slots : List Slot) (s : Slot) → length (keys_of slots) ≤ key_place (keys_of slots) s.key → (insert_key same_slot slots s ≡ slots ++ s ∷ []) × (position_or_len (same_slot s) slots ≡ length slots)
insert_new slots s unused =
    let seen = place_seen s.key slots in
    let size = length-map slots (λ b. b.key) in
    let others : (i : ℕ) (d : Slot) → i < length slots → same_slot s (get_or slots i d) ≡ false = λ i d lt. fails_before_first (same_slot s) slots i d (omega arith) in
    let none : list_any (same_slot s) slots ≡ false = list_any_none (same_slot s) slots others in (
      ap (λ b. cond b slots (slots ++ s ∷ [])) none,
      position_or_len_is (same_slot s) slots (length slots) s (omega arith) (λ i lt. others i s lt) (λ lt. absurd (omega arith)),
    )

module _ (bytes t : List ℕ) (slots : List Slot) (k : ℕ) (h : AreSlots bytes slots) (utf8 : IsUtf8 t) where
  abbrev last : Slot
  last = record { key = k; start = length bytes }

  starts_push : starts_of (slots ++ last ∷ []) ≡ starts_of slots ++ length bytes ∷ []
  starts_push = map_push (λ s. s.start) slots last

  keys_push : keys_of (slots ++ last ∷ []) ≡ keys_of slots ++ k ∷ []
  keys_push = map_push (λ s. s.key) slots last

  -- one more text
  pub texts_more : texts_of (bytes ++ t) (slots ++ last ∷ []) ≡ texts_of bytes slots ++ t ∷ []
  texts_more = ap (λ ns. pieces ns (bytes ++ t)) starts_push ∙ pieces_more (starts_of slots) bytes h.buffer t utf8

  pub slots_more : IsFree (texts_of bytes slots) (keys_of slots) t k → IsDistinct same_slot (slots ++ last ∷ []) → AreSlots (bytes ++ t) (slots ++ last ∷ [])
  slots_more free distinct =
      let unique : IsDistinct nat_eq (keys_of slots ++ k ∷ []) = subst (IsDistinct nat_eq) keys_push (distinct_keys (slots ++ last ∷ []) distinct) in
      record {
        buffer = subst (λ ns. IsBuffer ns (bytes ++ t)) (sym starts_push) (buffer_more (starts_of slots) bytes h.buffer t utf8);
        keyed = subst (λ ks. AreKeyed (texts_of (bytes ++ t) (slots ++ last ∷ [])) ks) (sym keys_push)
            (subst (λ ts. AreKeyed ts (keys_of slots ++ k ∷ [])) (sym texts_more) (keyed_more (texts_of bytes slots) (keys_of slots) t k h.keyed free unique));
      }

module _ (bytes : List ℕ) (slots : List Slot) (n : ℕ) (s : Slot) (h : AreSlots bytes slots) (at : slice_get slots n ≡ Some s) where
  inside : n < length slots
  inside = slice_get_within slots n s at

  start_there : get_or (starts_of slots) n 0 ≡ s.start
  start_there = get_or-map (λ b. b.start) slots n s 0 inside ∙ ap (λ b. b.start) (get_or_from_slice_get slots n s s at)

  starts_first : starts_of (take n slots) ≡ take n (starts_of slots)
  starts_first = sym (take-map (λ b. b.start) n slots)

  bytes_first : take s.start bytes ≡ take (get_or (starts_of slots) n 0) bytes
  bytes_first = ap (λ e. take e bytes) (sym start_there)

  many : n < length (starts_of slots)
  many = omega (arith, inside, length-map slots (λ b. b.start))

  -- the first texts
  pub texts_first : texts_of (take s.start bytes) (take n slots) ≡ take n (texts_of bytes slots)
  texts_first = ap (λ b. texts_of b (take n slots)) bytes_first ∙ ap (λ ns. pieces ns (take (get_or (starts_of slots) n 0) bytes)) starts_first ∙ pieces_first (starts_of slots) bytes h.buffer n many

  -- the first of the others may be cut off
  pub start_is_cut : IsCharBoundary bytes s.start
  start_is_cut = subst (IsCharBoundary bytes) start_there (start_is_boundary (starts_of slots) bytes h.buffer n many)

  pub slots_first : IsDistinct same_slot (take n slots) → AreSlots (take s.start bytes) (take n slots)
  slots_first distinct =
      let keys : keys_of (take n slots) ≡ take n (keys_of slots) = sym (take-map (λ b. b.key) n slots) in
      let unique : IsDistinct nat_eq (take n (keys_of slots)) = subst (IsDistinct nat_eq) keys (distinct_keys (take n slots) distinct) in
      record {
        buffer = subst (λ b. IsBuffer (starts_of (take n slots)) b) (sym bytes_first)
            (subst (λ ns. IsBuffer ns (take (get_or (starts_of slots) n 0) bytes)) (sym starts_first) (buffer_first (starts_of slots) bytes h.buffer n many));
        keyed = subst (λ ks. AreKeyed (texts_of (take s.start bytes) (take n slots)) ks) (sym keys)
            (subst (λ ts. AreKeyed ts (take n (keys_of slots))) (sym texts_first) (keyed_first (texts_of bytes slots) (keys_of slots) n h.keyed unique));
      }

-- a text that no attempt finds may be put in
pub free_at : (texts : List (List ℕ)) (keys t : List ℕ) (n : ℕ) → AreKeyed texts keys → ((m : ℕ) → m < n → IsOthers texts keys t m) → length keys ≤ key_place keys (key_at t n) → IsFree texts keys t (key_at t n)
free_at texts keys t n h passed unused = record {
  attempt = n;
  at_attempt = refl;
  taken = λ m lt. (passed m lt).0;
  unused = unused;
  absent = missing texts keys t n h passed unused;
}

-- as many texts as slots
pub count_seen : (bytes : List ℕ) (slots : List Slot) → length (texts_of bytes slots) ≡ length slots
count_seen bytes slots = pieces-length (starts_of slots) bytes ∙ length-map slots (λ s. s.start)

-- a text that is found
pub text_found : (bytes b t : List ℕ) (slots : List Slot) (texts : List (List ℕ)) (n : ℕ) → AreSlots bytes slots → texts_of bytes slots ≡ texts → b ≡ bytes → n < length slots → get_or (texts_of b slots) n [] ≡ t → (with_text texts t ≡ texts) × (number_of texts t ≡ n)
text_found bytes b t slots texts n h view same lt found =
    let count = count_seen bytes slots in
    let at : get_or (texts_of bytes slots) n [] ≡ t = ap (λ x. get_or (texts_of x slots) n []) (sym same) ∙ found in
    subst (λ u. (with_text u t ≡ u) × (number_of u t ≡ n)) view (number_there (texts_of bytes slots) t n h.keyed.distinct (omega arith) at)

-- a text that is put in
module _ (bytes b t : List ℕ) (slots new : List Slot) (texts : List (List ℕ)) (k start : ℕ) (h : AreSlots bytes slots) (utf8 : IsUtf8 t) (view : texts_of bytes slots ≡ texts) (same : b ≡ bytes) (is : start ≡ length bytes) (free : IsFree (texts_of b slots) (keys_of slots) t k) (put : new ≡ insert_key same_slot slots (record { key = k; start = start })) where
  free_here : IsFree (texts_of bytes slots) (keys_of slots) t k
  free_here = subst (λ x. IsFree (texts_of x slots) (keys_of slots) t k) same free

  put_last : (insert_key same_slot slots (record { key = k; start = start }) ≡ slots ++ record { key = k; start = start } ∷ []) × (position_or_len (same_slot (record { key = k; start = start })) slots ≡ length slots)
  put_last = insert_new slots (record { key = k; start = start }) free_here.unused

  put_is : new ≡ slots ++ record { key = k; start = length bytes } ∷ []
  put_is = put ∙ put_last.0 ∙ ap (λ n. slots ++ record { key = k; start = n } ∷ []) is

  number_is : (with_text (texts_of bytes slots) t ≡ texts_of bytes slots ++ t ∷ []) × (number_of (texts_of bytes slots) t ≡ length (texts_of bytes slots))
  number_is = number_new (texts_of bytes slots) t free_here.absent

  pub put_slots : IsDistinct same_slot new → AreSlots (bytes ++ t) new
  put_slots distinct = subst (AreSlots (bytes ++ t)) (sym put_is) (slots_more bytes t slots k h utf8 free_here (subst (IsDistinct same_slot) put_is distinct))

  pub put_texts : texts_of (bytes ++ t) new ≡ with_text texts t
  put_texts = ap (texts_of (bytes ++ t)) put_is ∙ texts_more bytes t slots k h utf8 ∙ sym number_is.0 ∙ ap (λ u. with_text u t) view

  pub put_number : position_or_len (same_slot (record { key = k; start = start })) slots ≡ number_of texts t
  put_number = put_last.1 ∙ sym (count_seen bytes slots) ∙ sym number_is.1 ∙ ap (λ u. number_of u t) view

-- no slots
pub no_slots : (bytes : List ℕ) (slots : List Slot) → bytes ≡ [] → slots ≡ [] → AreSlots bytes slots
no_slots bytes slots no_byte no_slot =
    let none : AreSlots [] [] = record {
      buffer = record { texts = []; placed = refl; joined = refl; utf8 = λ i d lt. absurd (omega arith) };
      keyed = record {
        count = refl;
        unique = IsDistinct-from_apart nat_eq [] (λ i j d below lt. absurd (omega arith));
        distinct = λ i j hi hj same. absurd (omega arith);
        keyed = λ i lt. absurd (omega arith);
      };
    } in
    subst (λ b. AreSlots b slots) (sym no_byte) (subst (AreSlots []) (sym no_slot) none)
