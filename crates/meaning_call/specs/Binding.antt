-- How the arguments of a call are bound to a signature, and the refusals that all calls share.
use Rattle.std.specs.Prelude.{ℕ, ◌+◌, ℤ, pos, Bool, true, false, not, ◌&&◌, ◌||◌, List, [], ◌∷◌, slice_get, nat_eq, nat_lt, codes, Option, Some, None, Result, Err, if◌then◌else◌}
use Rattle.std.specs.List.{position_or_len, list_any}
use Rattle.std.specs.Ordering.{int_eq}
use Rattle.meaning_form.specs.cell_core.declared.grid.Shape.{Shape}
use Rattle.meaning_form.specs.cells.Text.{Text, same_text}
use Rattle.meaning_form.specs.cells.Cell.{CellValue, na_cell, int_cell, truth_cell, text_cell}
use Rattle.meaning_form.specs.cells.Fault.{FaultValue, wrong_kind, bad_value, argument}
use Rattle.meaning_form.specs.tables.Value.{Entry, cell, table, Given, GivenList, GivenPairs, NamedGiven, nothing, one, row, many, entries, scalar_in}
use Rattle.meaning_call.specs.declared.Accepted.{Accepted}
use Rattle.meaning_call.specs.declared.Accepted.TheVariants as accepted
use Rattle.meaning_call.specs.declared.Omitted.{Omitted}
use Rattle.meaning_call.specs.declared.Omitted.TheVariants as omitted
use Rattle.meaning_call.specs.declared.Choices.{Choices}
use Rattle.meaning_call.specs.declared.Choices.TheVariants as listed
use Rattle.meaning_call.specs.declared.Parameter.{Parameter}
use Rattle.meaning_call.specs.Signature.{spelled, default_text}
pub use Rattle.meaning_form.specs.Given.{is_scalar, is_object, each, count_of, is_key, is_tuple_of, are_alike, are_row_labels, is_truth, is_whole, is_text, same_label, has_key, each_value, is_frame, is_given_text}

-- whether None, a scalar, an object, a list or a dict has the form
abbrev pub none_has : Accepted → Bool
none_has accepted.ScalarOrNone = true
none_has accepted.Names = true
none_has f = false

abbrev pub scalar_has : Accepted → CellValue → Bool
scalar_has accepted.Truth c = is_truth c
scalar_has accepted.Whole c = is_whole c
scalar_has accepted.Text c = is_text c
scalar_has accepted.Scalar c = true
scalar_has accepted.ScalarOrNone c = true
scalar_has accepted.Labels c = true
scalar_has accepted.SomeLabels c = true
scalar_has accepted.Names c = true
scalar_has accepted.Level c = is_whole c || is_text c
scalar_has f c = false

abbrev pub object_has : Accepted → Shape → Bool
object_has accepted.Frame s = is_frame s
object_has f s = false

abbrev pub list_has : Accepted → GivenList → Bool
list_has accepted.Scalars parts = each is_scalar parts
list_has accepted.Labels parts = each is_scalar parts
list_has accepted.SomeLabels parts = nat_lt 0 (count_of parts) && each is_scalar parts
list_has accepted.Keys parts = each is_key parts
list_has accepted.RowLabels parts = are_row_labels parts
list_has accepted.Names parts = each is_scalar parts
list_has accepted.Objects parts = each is_object parts
list_has f parts = false

abbrev pub dict_has : Accepted → GivenPairs → Bool
dict_has accepted.Dict pairs = true
dict_has accepted.TextDict pairs = each_value is_given_text pairs
dict_has f pairs = false

-- None is taken where it is the default, and counts as not given
abbrev pub none_stands : Omitted → Bool
none_stands omitted.None = true
none_stands o = false

-- whether a parameter takes an argument
abbrev pub takes : Parameter → Given → Bool
takes p nothing = none_stands p.omitted || none_has p.accepted
takes p (one (cell c)) = scalar_has p.accepted c
takes p (one (table t)) = object_has p.accepted t.shape
takes p (row parts) = false
takes p (many parts) = list_has p.accepted parts
takes p (entries pairs) = dict_has p.accepted pairs

abbrev pub kind_names : List Text
kind_names = codes "Int64" ∷ codes "boolean" ∷ codes "string" ∷ []

abbrev pub how_names : List Text
how_names = codes "inner" ∷ codes "left" ∷ codes "right" ∷ codes "outer" ∷ []

abbrev pub join_names : List Text
join_names = codes "inner" ∷ codes "outer" ∷ []

abbrev pub validation_names : List Text
validation_names =
    codes "one_to_one" ∷ codes "one_to_many" ∷ codes "many_to_one" ∷ codes "many_to_many" ∷ codes "1:1" ∷ codes "1:m" ∷ codes "m:1" ∷ codes "m:m" ∷ []

abbrev pub aggregation_names : List Text
aggregation_names = codes "sum" ∷ codes "min" ∷ codes "max" ∷ codes "count" ∷ codes "first" ∷ codes "last" ∷ []

abbrev pub backend_names : List Text
backend_names = codes "numpy_nullable" ∷ []

abbrev pub is_among : List Text → CellValue → Bool
is_among names (text_cell t) = list_any (same_text t) names
is_among names c = false

abbrev pub is_axis : CellValue → Bool
is_axis (int_cell z) = int_eq z (pos 0) || int_eq z (pos 1)
is_axis c = false

abbrev pub is_false : CellValue → Bool
is_false (truth_cell b) = not b
is_false c = false

-- whether a scalar is among the listed values
abbrev pub lists_scalar : Choices → CellValue → Bool
lists_scalar listed.Any c = true
lists_scalar listed.KindNames c = is_among kind_names c
lists_scalar listed.KindNameDict c = true
lists_scalar listed.Backends c = is_among backend_names c
lists_scalar listed.Hows c = is_among how_names c
lists_scalar listed.Joins c = is_among join_names c
lists_scalar listed.Validations c = is_among validation_names c
lists_scalar listed.Aggregations c = is_among aggregation_names c
lists_scalar listed.Axes c = is_axis c
lists_scalar listed.NoRegex c = is_false c

abbrev pub is_kind_name : Given → Bool
is_kind_name (one (cell c)) = is_among kind_names c
is_kind_name (one (table t)) = false
is_kind_name nothing = false
is_kind_name (row parts) = false
is_kind_name (many parts) = false
is_kind_name (entries pairs) = false

abbrev pub lists_dict : Choices → GivenPairs → Bool
lists_dict listed.KindNameDict pairs = each_value is_kind_name pairs
lists_dict l pairs = true

-- whether an argument is among the listed values
abbrev pub lists : Choices → Given → Bool
lists l nothing = true
lists l (one (cell c)) = lists_scalar l c
lists l (one (table t)) = true
lists l (row parts) = true
lists l (many parts) = true
lists l (entries pairs) = lists_dict l pairs

-- the place of the parameter that an argument goes to, after k arguments without a name
abbrev pub goes_to : List Parameter → ℕ → Option Text → ℕ
goes_to ps k None = k
goes_to ps k (Some n) = position_or_len (λ p. same_text (spelled p.name) n) ps

abbrev pub counted : ℕ → Option Text → ℕ
counted k None = k + 1
counted k (Some n) = k

-- the first argument that goes to a place
abbrev pub given_at : List Parameter → ℕ → List NamedGiven → ℕ → Option Given
given_at ps k [] place = None
given_at ps k (g ∷ gs) place = if nat_eq (goes_to ps k g.name) place then Some g.value else given_at ps (counted k g.name) gs place

abbrev pub is_given : Option Given → Bool
is_given None = false
is_given (Some a) = true

abbrev pub taken_by : Option Parameter → Given → Bool
taken_by None a = false
taken_by (Some p) a = takes p a

abbrev pub listed_by : Option Parameter → Given → Bool
listed_by None a = true
listed_by (Some p) a = lists p.listed a

-- an argument goes to a parameter that takes it, and none of those after it goes there
abbrev pub fits : List Parameter → ℕ → NamedGiven → List NamedGiven → Bool
fits ps k g gs =
    if taken_by (slice_get ps (goes_to ps k g.name)) g.value
    then not (is_given (given_at ps (counted k g.name) gs (goes_to ps k g.name)))
    else false

-- so does each
abbrev pub fit : List Parameter → ℕ → List NamedGiven → Bool
fit ps k [] = true
fit ps k (g ∷ gs) = if fits ps k g gs then fit ps (counted k g.name) gs else false

-- each argument is among the values that its parameter lists
abbrev pub are_listed : List Parameter → ℕ → List NamedGiven → Bool
are_listed ps k [] = true
are_listed ps k (g ∷ gs) = if listed_by (slice_get ps (goes_to ps k g.name)) g.value then are_listed ps (counted k g.name) gs else false

-- what stands where an argument isn't given
abbrev pub stands_for : Omitted → Given
stands_for omitted.Required = nothing
stands_for omitted.None = nothing
stands_for (omitted.Number z) = one (cell (int_cell z))
stands_for (omitted.Truth b) = one (cell (truth_cell b))
stands_for (omitted.Text t) = one (cell (text_cell (default_text t)))

abbrev pub stand_in : Option Parameter → Given
stand_in None = nothing
stand_in (Some p) = stands_for p.omitted

abbrev pub or_stand_in : Option Given → Option Parameter → Given
or_stand_in (Some a) p = a
or_stand_in None p = stand_in p

-- the argument at a place of the signature
abbrev pub argument_at : List Parameter → List NamedGiven → ℕ → Given
argument_at ps gs place = or_stand_in (given_at ps 0 gs place) (slice_get ps place)

-- the arguments at the places from one on, as many as there are parameters left
abbrev pub arguments_from : List Parameter → List NamedGiven → ℕ → List Parameter → List Given
arguments_from ps gs place [] = []
arguments_from ps gs place (p ∷ rest) = argument_at ps gs place ∷ arguments_from ps gs (place + 1) rest

abbrev pub may_be_omitted : Omitted → Bool
may_be_omitted omitted.Required = false
may_be_omitted o = true

-- no parameter from a place on lacks its argument
abbrev pub none_missing : List Parameter → List NamedGiven → ℕ → List Parameter → Bool
none_missing ps gs place [] = true
none_missing ps gs place (p ∷ rest) =
    if (if is_given (given_at ps 0 gs place) then true else may_be_omitted p.omitted) then none_missing ps gs (place + 1) rest else false

-- what all calls share: a TypeError, then a ValueError, or the arguments in the order of the signature
pub data Bound : Type 0 where
  not_taken : Bound
  not_listed : Bound
  bound : List Given → Bound

abbrev pub bound_of : List Parameter → List NamedGiven → Bound
bound_of ps gs =
    if fit ps 0 gs
    then (if none_missing ps gs 0 ps
    then (if are_listed ps 0 gs then bound (arguments_from ps gs 0 ps) else not_listed)
    else not_taken)
    else not_taken

-- the arguments, or what all calls refuse
abbrev pub on_bound : Bound → (List Given → Result Entry FaultValue) → Result Entry FaultValue
on_bound not_taken go = Err wrong_kind
on_bound not_listed go = Err (bad_value argument)
on_bound (bound gs) go = go gs

-- the whole number, the truth value and the text that a scalar is
abbrev pub whole_of : Option CellValue → Option ℤ
whole_of (Some (int_cell z)) = Some z
whole_of (Some (truth_cell b)) = None
whole_of (Some (text_cell t)) = None
whole_of (Some na_cell) = None
whole_of None = None

abbrev pub truth_of : Option CellValue → Option Bool
truth_of (Some (truth_cell b)) = Some b
truth_of (Some (int_cell z)) = None
truth_of (Some (text_cell t)) = None
truth_of (Some na_cell) = None
truth_of None = None

abbrev pub text_of : Option CellValue → Option Text
text_of (Some (text_cell t)) = Some t
text_of (Some (int_cell z)) = None
text_of (Some (truth_cell b)) = None
text_of (Some na_cell) = None
text_of None = None

abbrev pub whole_in : Given → Option ℤ
whole_in g = whole_of (scalar_in g)

abbrev pub truth_in : Given → Option Bool
truth_in g = truth_of (scalar_in g)

abbrev pub text_in : Given → Option Text
text_in g = text_of (scalar_in g)

-- None, which may stand for an argument that isn't given
abbrev pub is_nothing : Given → Bool
is_nothing nothing = true
is_nothing (one v) = false
is_nothing (row parts) = false
is_nothing (many parts) = false
is_nothing (entries pairs) = false

-- what stands where an argument isn't given is no text
abbrev pub IsNoText : Omitted → Type 0
IsNoText omitted.Required = Unit {0}
IsNoText omitted.None = Unit {0}
IsNoText (omitted.Number z) = Unit {0}
IsNoText (omitted.Truth b) = Unit {0}
IsNoText (omitted.Text t) = ⊥

abbrev pub HasNoText : Option Parameter → Type 0
HasNoText None = Unit {0}
HasNoText (Some p) = IsNoText p.omitted
