-- Columns under new labels, by number and with texts.
use Rattle.{
  frame_parts.proofs.Common.{◌≡◌, ◌∙◌, ◌<◌, ◌+◌, refl, ap, sym, ℕ, Bool, true, false, List, [], ◌∷◌, map, length, drop, get_or, Option, Some, None, Result, Ok, Err, All, if◌then◌else◌, arith, drop-cons, All-map, IsSome, option_map, list_all, lookup, Cell, Label, Frame, AreDistinct, same_by_number, MakesBy, Text, LabelValue, datum, label_datum, cell_label, FaultValue, wrong_kind, then_value, IsSettled, NumberedTable, Table, table_value, heading_value, AreHeadings, Entry, Given, dict_in, scalar_in, same_label, limited, with_pair, pairs_onto, pairs_in, Tables, argument_of, entries_of, arguments_of, HeadingList, OpFault, Refused, NoMemory, Argument, One, Shown, headings_value, FormAnswers},
  indexmap.specs.IndexMap.{insert_entry, insert_all},
  frame_store.specs.tables.Value.{GivenPairs},
  frame_labels.{specs.method.Methods.{is_scalar_pair, new_label, renamed_heading, renamed_frame}, proofs.TableLaws.{frame_heads}},
  frame_signatures.{specs.{Bound.{Tells}, declared.bound.Bound.{Bound}}, proofs.ToldLaws.{told_settled}},
  frame_select.{specs.{Picked.{headed_by}, Headings.{same_number}}, proofs.HeadingLaws.{label_decides, head_settled, rest_settled}},
  frame_methods.specs.Renames.{label_pair, given_label, given_labels, pair_seen, pairs_seen, have_labels, found_label, heading_by, label_from, heading_from, relabelled, labels_seen},
}

-- the pairs of a dict by number, with texts and as they are given, and headings
abbrev Labels : Type 0
Labels = List (Label × Option Label)

abbrev LabelValues : Type 0
LabelValues = List (LabelValue × Option LabelValue)

abbrev Pairs : Type 0
Pairs = List (Label × Argument)

abbrev Dict : Type 0
Dict = List (LabelValue × Given)

abbrev Headings : Type 0
Headings = List (Option Label)

abbrev HeadingValues : Type 0
HeadingValues = List (Option LabelValue)

abbrev when : {A : Type 0} → Bool → Result A FaultValue → Result A FaultValue
when b rest = if b then rest else Err wrong_kind

module _ (texts : List Text) where
  abbrev AreLabels : Labels → Type 0
  AreLabels es = IsSettled pairs_seen texts es

  abbrev AreNamed : Headings → Type 0
  AreNamed hs = IsSettled headings_value texts hs

-- what two dictionaries agree on
module _ (a b : List Text) where
  -- one pair more
  inserted_alike : (es : Labels) (k : Label) (v : Option Label) → pairs_seen a es ≡ pairs_seen b es → label_datum a k ≡ label_datum b k → heading_value a v ≡ heading_value b v
      → pairs_seen a (insert_entry same_number es k v) ≡ pairs_seen b (insert_entry same_number es k v)
  inserted_alike [] k v _ key value = cc
  inserted_alike (e ∷ es) k v at key value = grind (arith, inserted_alike es k v)

  found_alike : (test : Label → Bool) (es : Labels) → pairs_seen a es ≡ pairs_seen b es → heading_value a (found_label (lookup test es)) ≡ heading_value b (found_label (lookup test es))
  found_alike _ [] _ = refl
  found_alike test (e ∷ es) at = grind (arith, found_alike test es)

  heading_alike : (es : Labels) (h : Option Label) → pairs_seen a es ≡ pairs_seen b es → heading_value a h ≡ heading_value b h → heading_value a (heading_by es h) ≡ heading_value b (heading_by es h)
  heading_alike = grind (arith, found_alike)

  headings_alike : (es : Labels) (hs : Headings) → pairs_seen a es ≡ pairs_seen b es → headings_value a hs ≡ headings_value b hs → headings_value a (map (heading_by es) hs) ≡ headings_value b (map (heading_by es) hs)
  headings_alike _ [] _ _ = refl
  headings_alike es (h ∷ hs) at here = grind (arith, heading_alike, headings_alike es hs)

module _ (texts : List Text) where
  headings_settled : (es : Labels) (hs : Headings) → AreLabels texts es → AreNamed texts hs → AreNamed texts (map (heading_by es) hs)
  headings_settled = search headings_alike

  -- what is meant, by number
  labels_there : (es : Labels) → have_labels (pairs_seen texts es) ≡ have_labels es
  labels_there [] = refl
  labels_there (e ∷ es) = grind (arith, labels_there es)

  pub new_settled : (es : Labels) (hs new : Headings) → new ≡ map (heading_by es) hs → AreLabels texts es → AreNamed texts hs → AreNamed texts new
  new_settled es hs new is settled here = rw is (headings_settled es hs settled here)

  pub no_labels : (es : Labels) (all : LabelValues) (hs : HeadingValues) → pairs_seen texts es ≡ all → have_labels es ≡ false → relabelled all hs ≡ Err wrong_kind
  no_labels es _ _ is none = cc (labels_there es)

  module _ (distinct : AreDistinct texts) where
    key_settled : (e : Label × Option Label) (es : Labels) → AreLabels texts (e ∷ es) → IsSettled label_datum texts e.0
    key_settled = grind (arith, head_settled)

    key_seen : (e : Label × Option Label) (es : Labels) (k : Label) → AreLabels texts (e ∷ es) → IsSettled label_datum texts k → same_number k e.0 ≡ same_label (label_datum texts k) (label_datum texts e.0)
    key_seen = search (same_by_number, key_settled, label_decides)

    inserted_seen : (es : Labels) (k : Label) (v : Option Label) → AreLabels texts es → IsSettled label_datum texts k
        → pairs_seen texts (insert_entry same_number es k v) ≡ insert_entry same_label (pairs_seen texts es) (label_datum texts k) (heading_value texts v)
    inserted_seen [] k v _ _ = refl
    inserted_seen (e ∷ es) k v settled key = grind (arith, key_seen e es k settled key, inserted_seen es k v (rest_settled pair_seen _ e es settled) key)

    -- the label of a key
    label_found : (es : Labels) (l : Label) → AreLabels texts es → IsSettled label_datum texts l
        → heading_value texts (found_label (lookup (same_number l) es)) ≡ label_from (pairs_seen texts es) (label_datum texts l)
    label_found [] l _ _ = refl
    label_found (e ∷ es) l settled here =
        let same : same_number l e.0 ≡ same_label (label_datum texts e.0) (label_datum texts l) = same_by_number _ _ _ _ distinct (key_settled e es settled) here (grind (arith, label_decides)) in
        grind (arith, same, label_found es l (rest_settled pair_seen _ e es settled) here)

    heading_seen : (es : Labels) (h : Option Label) → AreLabels texts es → IsSettled heading_value texts h
        → heading_value texts (heading_by es h) ≡ heading_from (pairs_seen texts es) (heading_value texts h)
    heading_seen _ None _ _ = refl
    heading_seen es (Some l) settled here = grind (arith, label_found es l settled (λ more. cc (here more)))

    headings_seen : (es : Labels) (hs : Headings) → AreLabels texts es → AreNamed texts hs
        → headings_value texts (map (heading_by es) hs) ≡ map (heading_from (pairs_seen texts es)) (headings_value texts hs)
    headings_seen _ [] _ _ = refl
    headings_seen es (h ∷ hs) settled here = search (heading_seen, head_settled, headings_seen es hs settled (rest_settled heading_value texts h hs here))

    -- what is made is what is meant
    pub new_meant : (es : Labels) (hs new : Headings) (all : LabelValues) → AreLabels texts es → AreNamed texts hs → pairs_seen texts es ≡ all → new ≡ map (heading_by es) hs → have_labels es ≡ true
        → relabelled all (headings_value texts hs) ≡ Ok (headings_value texts new)
    new_meant es hs new all settled here seen is labels = cc (headings_seen es hs settled here, labels_there es)

abbrev IsScalarOf : Option Cell → Argument → Type 0
IsScalarOf o a = (live : Tables) (texts : List Text) → option_map (datum texts) o ≡ scalar_in (argument_of live texts a)

abbrev IsNameOf : Option Label → Option Cell → Type 0
IsNameOf name o = (texts : List Text) → heading_value texts name ≡ option_map cell_label (option_map (datum texts) o)

-- the labels so far, before the others
abbrev pub LabelsSoFar : List Text → Labels → Pairs → LabelValues → Type 0
LabelsSoFar texts es rest whole = record {
  given : IsSettled given_labels texts rest;
  settled : IsSettled pairs_seen texts es;
  last : insert_all same_label (pairs_seen texts es) (given_labels texts rest) ≡ whole;
}

pub labels_step : (texts : List Text) (pairs : Pairs) (i : ℕ) (p : Label × Argument) (o : Option Cell) (name : Option Label) (es es' : Labels) (whole : LabelValues) → AreDistinct texts
    → i < length pairs → p ≡ get_or pairs i p → IsScalarOf o p.1 → IsNameOf name o → es' ≡ insert_entry same_number es p.0 name
    → LabelsSoFar texts es (drop i pairs) whole → LabelsSoFar texts es' (drop (i + 1) pairs) whole
labels_step texts pairs i p o name es _ _ distinct lt is scalar named more so_far =
    let rest : drop i pairs ≡ p ∷ drop (i + 1) pairs = grind (arith, drop-cons) in
    let seen : (ts : List Text) → heading_value ts name ≡ (given_label ts p).1 = λ ts. cc (named ts, scalar (λ id. None) ts) in
    let given = rw rest at so_far.given in
    let here = head_settled given_label texts p (drop (i + 1) pairs) given in
    let key : IsSettled label_datum texts p.0 = λ m. ap (λ v. v.0) (here m) in
    record {
      given = rest_settled given_label texts p (drop (i + 1) pairs) given;
      settled = rw more (λ m. inserted_alike _ _ es _ _ (so_far.settled m) (key m) (seen _ ∙ ap (λ v. v.1) (here m) ∙ sym (seen _)));
      last = cc (rw rest at so_far.last, inserted_seen texts distinct es p.0 name so_far.settled key, seen texts);
    }

-- the pairs of a dict as labels
scalar_same : (live other : Tables) (texts : List Text) (a : Argument) → scalar_in (argument_of live texts a) ≡ scalar_in (argument_of other texts a)
scalar_same live other texts (One v) = grind arith
scalar_same _ _ _ _ = grind arith

pair_more : (ps : Dict) (k : LabelValue) (v : Given) → map label_pair (with_pair ps k v) ≡ insert_entry same_label (map label_pair ps) k (option_map cell_label (scalar_in v))
pair_more [] k v = refl
pair_more (p ∷ ps) k v = grind (arith, pair_more ps k v)

pairs_more : (live : Tables) (texts : List Text) (ps : Dict) (pairs : Pairs)
    → map label_pair (pairs_onto ps (entries_of live texts pairs)) ≡ insert_all same_label (map label_pair ps) (given_labels texts pairs)
pairs_more _ _ _ [] = refl
pairs_more live texts ps (p ∷ rest) = grind (arith, pair_more, scalar_same, pairs_more live texts (with_pair ps (label_datum texts p.0) (argument_of live texts p.1)) rest)

pairs_labelled : (ps : Dict) → have_labels (map label_pair ps) ≡ list_all is_scalar_pair ps
pairs_labelled [] = refl
pairs_labelled (p ∷ ps) = grind (arith, pairs_labelled ps)

label_same : (ps : Dict) (l : LabelValue) → label_from (map label_pair ps) l ≡ new_label ps l
label_same [] l = refl
label_same (p ∷ ps) l = cc (label_same ps l)

heading_same : (ps : Dict) (h : Option LabelValue) → heading_from (map label_pair ps) h ≡ renamed_heading ps h
heading_same = grind (arith, label_same)

headings_same : (ps : Dict) (hs : HeadingValues) → map (heading_from (map label_pair ps)) hs ≡ map (renamed_heading ps) hs
headings_same ps hs = λ j. map (λ h. heading_same ps h j) hs

abbrev pub under : Table → HeadingValues → Table
under t hs = record t { headings = hs }

abbrev pub limited_under : Table → Result (HeadingValues) FaultValue → Result Entry FaultValue
limited_under t r = then_value r (λ hs. limited (under t hs))

labelled : (es : Labels) (h : Option Label) → IsSome h → IsSome (heading_by es h)
labelled = grind arith

-- a frame's new headings
pub new_heads : (es : Labels) (name : Option Label) (hs new : Headings) → new ≡ map (heading_by es) hs → All IsSome hs → AreHeadings Frame name new
new_heads es _ hs _ is all = frame_heads _ _ (rw is (All-map IsSome (heading_by es) hs (λ k d lt. labelled es _ (all k d lt))))

-- the pairs of a dict that was given
given_alike : (live : Tables) (a b : List Text) (pairs : Pairs) → entries_of live a pairs ≡ entries_of live b pairs → given_labels a pairs ≡ given_labels b pairs
given_alike _ _ _ [] _ = refl
given_alike live a b (p ∷ rest) at = grind (arith, scalar_same live (λ id. None) a p.1, scalar_same live (λ id. None) b p.1, given_alike live a b rest)

pub pairs_settled : (b : Bound) (place : ℕ) (pairs : Pairs) (live : Tables) (dict : List Text) → Tells b place dict_in (λ live texts. Some (entries_of live texts pairs))
    → IsSettled (arguments_of live) dict b.args.now → IsSettled given_labels dict pairs
pairs_settled b place pairs live dict tells settled = λ more. given_alike live _ _ pairs (cc (told_settled b place dict_in (λ live texts. Some (entries_of live texts pairs)) live dict tells settled more))

-- a frame under the labels of a dict
abbrev pub frame_of : Table → GivenPairs → Result Entry FaultValue
frame_of t pairs = renamed_frame t (pairs_in pairs)

abbrev pub relabelled_with : List Text → Pairs → HeadingValues → Result (HeadingValues) FaultValue
relabelled_with texts pairs hs = relabelled (insert_all same_label [] (given_labels texts pairs)) hs

later_limited : (t : Table) (b : Bool) (hs : HeadingValues) → when b (limited (under t hs)) ≡ limited_under t (when b (Ok hs))
later_limited = grind arith

frame_meant : (live : Tables) (texts : List Text) (pairs : Pairs) (t : Table) → frame_of t (entries_of live texts pairs) ≡ limited_under t (relabelled_with texts pairs t.headings)
frame_meant live texts pairs t = rw (← pairs_more live texts [] pairs) (search (pairs_labelled, headings_same, later_limited))

pub frame_refused : (live : Tables) (texts : List Text) (pairs : Pairs) (source t : NumberedTable) (fault : OpFault) (objects : Shown) → source ≡ t
    → MakesBy labels_seen texts (Err fault) (relabelled_with texts pairs (headings_value texts source.headings)) → FormAnswers texts (Err fault) (frame_of (table_value texts t) (entries_of live texts pairs)) objects objects
frame_refused live texts pairs _ t (Refused code) _ at makes = grind (arith, frame_meant live texts pairs (table_value texts t))
frame_refused _ _ _ _ t NoMemory _ _ _ = refl

pub frame_renamed : (live : Tables) (texts : List Text) (pairs : Pairs) (source t : NumberedTable) (h : HeadingList) → source ≡ t → h.columns_name ≡ source.columns_name
    → relabelled_with texts pairs (headings_value texts source.headings) ≡ Ok (labels_seen texts h) → limited (table_value texts (headed_by t.shape h t)) ≡ frame_of (table_value texts t) (entries_of live texts pairs)
frame_renamed live texts pairs _ t = grind (arith, frame_meant live texts pairs (table_value texts t))
