-- The signatures of the methods of a Series and of a frame, and of the functions of `pd`.
use Rattle.std.specs.Prelude.{pos, negsuc, Bool, true, false, List, [], ◌∷◌, codes, find, Option, Some, None, if◌then◌else◌, option_and_then}
use Rattle.std.specs.List.{list_any}
use Rattle.std.specs.Option.{option_map_or}
use denote.Enum.Bare.{sameb}
use Rattle.meaning_form.specs.cell_core.declared.grid.Shape.{Shape}
use Rattle.meaning_form.specs.cell_core.declared.grid.Shape.TheVariants.{Series, Frame}
use Rattle.meaning_form.specs.cells.Text.{Text, same_text}
use Rattle.meaning_call.specs.contracts.ColumnMethod as column_method_type
use Rattle.meaning_call.specs.contracts.SummaryMethod as summary_method_type
use Rattle.meaning_call.specs.contracts.RowMethod as row_method_type
use Rattle.meaning_call.specs.contracts.LevelMethod as level_method_type
use Rattle.meaning_call.specs.contracts.LabelMethod as label_method_type
use Rattle.meaning_call.specs.contracts.TableMethod as table_method_type
use Rattle.meaning_call.specs.contracts.ReshapeMethod as reshape_method_type
use Rattle.meaning_call.specs.contracts.OtherMethod as other_method_type
use Rattle.meaning_call.specs.declared.Method.{Method}
use Rattle.meaning_call.specs.declared.Method.TheVariants as method
use Rattle.meaning_call.specs.declared.ColumnMethod.TheVariants as column_method
use Rattle.meaning_call.specs.declared.SummaryMethod.TheVariants as summary_method
use Rattle.meaning_call.specs.declared.RowMethod.TheVariants as row_method
use Rattle.meaning_call.specs.declared.LevelMethod.TheVariants as level_method
use Rattle.meaning_call.specs.declared.LabelMethod.TheVariants as label_method
use Rattle.meaning_call.specs.declared.TableMethod.TheVariants as table_method
use Rattle.meaning_call.specs.declared.ReshapeMethod.TheVariants as reshape_method
use Rattle.meaning_call.specs.declared.OtherMethod.TheVariants as other_method
use Rattle.meaning_call.specs.declared.StrMethod.{StrMethod}
use Rattle.meaning_call.specs.declared.StrMethod.TheVariants as str_method
use Rattle.meaning_call.specs.declared.Function.{Function}
use Rattle.meaning_call.specs.declared.Function.TheVariants as function
use Rattle.meaning_call.specs.declared.ParameterName.{ParameterName}
use Rattle.meaning_call.specs.declared.ParameterName.TheVariants as name
use Rattle.meaning_call.specs.declared.Accepted.{Accepted}
use Rattle.meaning_call.specs.declared.Accepted.TheVariants as accepted
use Rattle.meaning_call.specs.declared.Omitted.{Omitted}
use Rattle.meaning_call.specs.declared.Omitted.TheVariants as omitted
use Rattle.meaning_call.specs.declared.DefaultText.{DefaultText}
use Rattle.meaning_call.specs.declared.DefaultText.TheVariants as default
use Rattle.meaning_call.specs.declared.Choices.{Choices}
use Rattle.meaning_call.specs.declared.Choices.TheVariants as listed
use Rattle.meaning_call.specs.declared.Parameter.{Parameter}

-- a parameter that must be given, and one that may be left out
abbrev pub needed : ParameterName → Accepted → Parameter
needed n f = record { name = n; accepted = f; omitted = omitted.Required; listed = listed.Any }

abbrev pub optional : ParameterName → Accepted → Omitted → Parameter
optional n f o = record { name = n; accepted = f; omitted = o; listed = listed.Any }

-- a parameter whose values are listed
abbrev pub among : Choices → Parameter → Parameter
among l p = record { name = p.name; accepted = p.accepted; omitted = p.omitted; listed = l }

abbrev pub parameters_of : Method → List Parameter
parameters_of (method.Table table_method.Copy) = optional name.Deep accepted.Truth (omitted.Truth true) ∷ []
parameters_of (method.Table table_method.Head) = optional name.N accepted.Whole (omitted.Number (pos 5)) ∷ []
parameters_of (method.Table table_method.Tail) = optional name.N accepted.Whole (omitted.Number (pos 5)) ∷ []
parameters_of (method.Columns column_method.Isna) = []
parameters_of (method.Columns column_method.Notna) = []
parameters_of (method.Columns column_method.Fillna) = needed name.Value accepted.Scalar ∷ []
parameters_of (method.Rows row_method.Dropna) = []
parameters_of (method.Columns column_method.Isin) = needed name.Values accepted.Scalars ∷ []
parameters_of (method.Columns column_method.Astype) = among listed.KindNames (needed name.Dtype accepted.Text) ∷ []
parameters_of (method.Rows row_method.DuplicatedSeries) = []
parameters_of (method.Rows row_method.DuplicatedFrame) = optional name.Subset accepted.Labels omitted.None ∷ []
parameters_of (method.Columns column_method.Shift) = optional name.Periods accepted.Whole (omitted.Number (pos 1)) ∷ []
parameters_of (method.Columns column_method.Cumsum) = []
parameters_of (method.Columns column_method.Cummin) = []
parameters_of (method.Columns column_method.Cummax) = []
parameters_of (method.Summary summary_method.Sum) = []
parameters_of (method.Summary summary_method.Min) = []
parameters_of (method.Summary summary_method.Max) = []
parameters_of (method.Summary summary_method.Any) = []
parameters_of (method.Summary summary_method.All) = []
parameters_of (method.Summary summary_method.Count) = []
parameters_of (method.Summary summary_method.Nunique) = []
parameters_of (method.Rows row_method.SortValuesSeries) = optional name.Ascending accepted.Truth (omitted.Truth true) ∷ []
parameters_of (method.Rows row_method.SortValuesFrame) = needed name.By accepted.Labels ∷ optional name.Ascending accepted.Truth (omitted.Truth true) ∷ []
parameters_of (method.Rows row_method.SortIndex) = optional name.Ascending accepted.Truth (omitted.Truth true) ∷ []
parameters_of (method.Labels label_method.ReindexSeries) = needed name.Index accepted.Keys ∷ []
parameters_of (method.Labels label_method.ReindexFrame) = optional name.Index accepted.Keys omitted.None ∷ optional name.Columns accepted.Scalars omitted.None ∷ []
parameters_of (method.Table table_method.RenameSeries) = needed name.Name accepted.ScalarOrNone ∷ []
parameters_of (method.Table table_method.RenameFrame) = needed name.Columns accepted.Dict ∷ []
parameters_of (method.Levels level_method.RenameAxis) = needed name.Names accepted.Names ∷ []
parameters_of (method.Levels level_method.SetIndex) = needed name.Keys accepted.SomeLabels ∷ []
parameters_of (method.Levels level_method.ResetIndex) = optional name.DropLabels accepted.Truth (omitted.Truth false) ∷ []
parameters_of (method.Table table_method.DropColumns) = needed name.Columns accepted.Labels ∷ []
parameters_of (method.Levels level_method.Droplevel) = needed name.Level accepted.Level ∷ []
parameters_of (method.Levels level_method.Swaplevel) = optional name.I accepted.Level (omitted.Number (negsuc 1)) ∷ optional name.J accepted.Level (omitted.Number (negsuc 0)) ∷ []
parameters_of (method.Labels label_method.Xs) = needed name.Key accepted.Scalar ∷ optional name.Level accepted.Level (omitted.Number (pos 0)) ∷ []
parameters_of (method.Table table_method.ToFrame) = []
parameters_of (method.Table table_method.ToCsv) = optional name.Index accepted.Truth (omitted.Truth true) ∷ []
parameters_of (method.Other other_method.Groupby) =
    needed name.By accepted.SomeLabels ∷ optional name.Sort accepted.Truth (omitted.Truth true) ∷ optional name.Dropna accepted.Truth (omitted.Truth true)
    ∷ optional name.AsIndex accepted.Truth (omitted.Truth true) ∷ []
parameters_of (method.Other other_method.Rolling) = needed name.Window accepted.Whole ∷ optional name.MinPeriods accepted.Whole omitted.None ∷ []
parameters_of (method.Other other_method.Expanding) = optional name.MinPeriods accepted.Whole (omitted.Number (pos 1)) ∷ []
parameters_of (method.Other other_method.Merge) =
    needed name.Right accepted.Frame ∷ among listed.Hows (optional name.How accepted.Text (omitted.Text default.Inner)) ∷ optional name.On accepted.SomeLabels omitted.None
    ∷ among listed.Validations (optional name.Validate accepted.Text omitted.None) ∷ []
parameters_of (method.Reshape reshape_method.Stack) = []
parameters_of (method.Reshape reshape_method.Unstack) = optional name.Level accepted.Level (omitted.Number (negsuc 0)) ∷ []
parameters_of (method.Reshape reshape_method.Pivot) = needed name.Columns accepted.Scalar ∷ needed name.Index accepted.SomeLabels ∷ needed name.Values accepted.Scalar ∷ []
parameters_of (method.Reshape reshape_method.PivotTable) =
    needed name.Values accepted.Scalar ∷ needed name.Index accepted.SomeLabels ∷ needed name.Columns accepted.Scalar
    ∷ among listed.Aggregations (needed name.Aggfunc accepted.Text) ∷ []
parameters_of (method.Reshape reshape_method.Melt) = optional name.IdVars accepted.Labels omitted.None ∷ optional name.ValueVars accepted.Labels omitted.None ∷ []

-- A pattern is a text and no regular expression, which has to be said.
abbrev pub str_parameters : StrMethod → List Parameter
str_parameters str_method.Len = []
str_parameters str_method.Strip = []
str_parameters str_method.Startswith = needed name.Pat accepted.Text ∷ []
str_parameters str_method.Endswith = needed name.Pat accepted.Text ∷ []
str_parameters str_method.Contains = needed name.Pat accepted.Text ∷ among listed.NoRegex (needed name.Regex accepted.Truth) ∷ []
str_parameters str_method.Slice = optional name.Start accepted.Whole omitted.None ∷ optional name.Stop accepted.Whole omitted.None ∷ optional name.Step accepted.Whole omitted.None ∷ []
str_parameters str_method.Zfill = needed name.Width accepted.Whole ∷ []

abbrev pub function_parameters : Function → List Parameter
function_parameters function.Series =
    needed name.Values accepted.Scalars ∷ optional name.Index accepted.RowLabels omitted.None ∷ optional name.Name accepted.Scalar omitted.None
    ∷ among listed.KindNames (optional name.Dtype accepted.Text omitted.None) ∷ []
function_parameters function.DataFrame = needed name.Columns accepted.Dict ∷ optional name.Index accepted.RowLabels omitted.None ∷ []
function_parameters function.ReadCsv =
    needed name.Name accepted.Text ∷ among listed.Backends (optional name.DtypeBackend accepted.Text (omitted.Text default.NumpyNullable))
    ∷ among listed.KindNameDict (optional name.Dtype accepted.TextDict omitted.None) ∷ []
function_parameters function.Concat =
    needed name.Objects accepted.Objects ∷ among listed.Axes (optional name.Axis accepted.Whole (omitted.Number (pos 0)))
    ∷ among listed.Joins (optional name.Join accepted.Text (omitted.Text default.Outer)) ∷ optional name.IgnoreIndex accepted.Truth (omitted.Truth false)
    ∷ optional name.Keys accepted.Scalars omitted.None ∷ []

-- how a parameter's name is written
abbrev pub spelled : ParameterName → Text
spelled name.Aggfunc = codes "aggfunc"
spelled name.AsIndex = codes "as_index"
spelled name.Ascending = codes "ascending"
spelled name.Axis = codes "axis"
spelled name.By = codes "by"
spelled name.Columns = codes "columns"
spelled name.Deep = codes "deep"
spelled name.DropLabels = codes "drop"
spelled name.Dropna = codes "dropna"
spelled name.Dtype = codes "dtype"
spelled name.DtypeBackend = codes "dtype_backend"
spelled name.How = codes "how"
spelled name.I = codes "i"
spelled name.IdVars = codes "id_vars"
spelled name.IgnoreIndex = codes "ignore_index"
spelled name.Index = codes "index"
spelled name.J = codes "j"
spelled name.Join = codes "join"
spelled name.Key = codes "key"
spelled name.Keys = codes "keys"
spelled name.Level = codes "level"
spelled name.MinPeriods = codes "min_periods"
spelled name.N = codes "n"
spelled name.Name = codes "name"
spelled name.Names = codes "names"
spelled name.Objects = codes "objects"
spelled name.On = codes "on"
spelled name.Pat = codes "pat"
spelled name.Periods = codes "periods"
spelled name.Regex = codes "regex"
spelled name.Right = codes "right"
spelled name.Sort = codes "sort"
spelled name.Start = codes "start"
spelled name.Step = codes "step"
spelled name.Stop = codes "stop"
spelled name.Subset = codes "subset"
spelled name.Validate = codes "validate"
spelled name.Value = codes "value"
spelled name.ValueVars = codes "value_vars"
spelled name.Values = codes "values"
spelled name.Width = codes "width"
spelled name.Window = codes "window"

abbrev pub default_text : DefaultText → Text
default_text default.Inner = codes "inner"
default_text default.Outer = codes "outer"
default_text default.NumpyNullable = codes "numpy_nullable"

-- a name, with the method that it means on a Series and the one that it means on a frame
pub record MethodName : Type 0 where
  pub name : Text
  pub series : Option Method
  pub frame : Option Method

abbrev pub either : Text → Method → Method → MethodName
either t s f = record { name = t; series = Some s; frame = Some f }

abbrev pub both : Text → Method → MethodName
both t m = either t m m

abbrev pub series_alone : Text → Method → MethodName
series_alone t m = record { name = t; series = Some m; frame = None }

abbrev pub frame_alone : Text → Method → MethodName
frame_alone t m = record { name = t; series = None; frame = Some m }

-- all names of methods; the forms of groups and windows among them
unfoldable pub method_names : List MethodName
method_names =
    both (codes "copy") (method.Table table_method.Copy)
    ∷ both (codes "head") (method.Table table_method.Head)
    ∷ both (codes "tail") (method.Table table_method.Tail)
    ∷ both (codes "isna") (method.Columns column_method.Isna)
    ∷ both (codes "notna") (method.Columns column_method.Notna)
    ∷ both (codes "fillna") (method.Columns column_method.Fillna)
    ∷ both (codes "dropna") (method.Rows row_method.Dropna)
    ∷ both (codes "isin") (method.Columns column_method.Isin)
    ∷ both (codes "astype") (method.Columns column_method.Astype)
    ∷ either (codes "duplicated") (method.Rows row_method.DuplicatedSeries) (method.Rows row_method.DuplicatedFrame)
    ∷ both (codes "shift") (method.Columns column_method.Shift)
    ∷ both (codes "cumsum") (method.Columns column_method.Cumsum)
    ∷ both (codes "cummin") (method.Columns column_method.Cummin)
    ∷ both (codes "cummax") (method.Columns column_method.Cummax)
    ∷ both (codes "sum") (method.Summary summary_method.Sum)
    ∷ both (codes "min") (method.Summary summary_method.Min)
    ∷ both (codes "max") (method.Summary summary_method.Max)
    ∷ both (codes "any") (method.Summary summary_method.Any)
    ∷ both (codes "all") (method.Summary summary_method.All)
    ∷ both (codes "count") (method.Summary summary_method.Count)
    ∷ both (codes "nunique") (method.Summary summary_method.Nunique)
    ∷ either (codes "sort_values") (method.Rows row_method.SortValuesSeries) (method.Rows row_method.SortValuesFrame)
    ∷ both (codes "sort_index") (method.Rows row_method.SortIndex)
    ∷ either (codes "reindex") (method.Labels label_method.ReindexSeries) (method.Labels label_method.ReindexFrame)
    ∷ either (codes "rename") (method.Table table_method.RenameSeries) (method.Table table_method.RenameFrame)
    ∷ both (codes "rename_axis") (method.Levels level_method.RenameAxis)
    ∷ frame_alone (codes "set_index") (method.Levels level_method.SetIndex)
    ∷ both (codes "reset_index") (method.Levels level_method.ResetIndex)
    ∷ frame_alone (codes "drop") (method.Table table_method.DropColumns)
    ∷ both (codes "droplevel") (method.Levels level_method.Droplevel)
    ∷ both (codes "swaplevel") (method.Levels level_method.Swaplevel)
    ∷ both (codes "xs") (method.Labels label_method.Xs)
    ∷ series_alone (codes "to_frame") (method.Table table_method.ToFrame)
    ∷ both (codes "to_csv") (method.Table table_method.ToCsv)
    ∷ frame_alone (codes "groupby") (method.Other other_method.Groupby)
    ∷ both (codes "rolling") (method.Other other_method.Rolling)
    ∷ both (codes "expanding") (method.Other other_method.Expanding)
    ∷ frame_alone (codes "merge") (method.Other other_method.Merge)
    ∷ frame_alone (codes "stack") (method.Reshape reshape_method.Stack)
    ∷ series_alone (codes "unstack") (method.Reshape reshape_method.Unstack)
    ∷ frame_alone (codes "pivot") (method.Reshape reshape_method.Pivot)
    ∷ frame_alone (codes "pivot_table") (method.Reshape reshape_method.PivotTable)
    ∷ frame_alone (codes "melt") (method.Reshape reshape_method.Melt)
    ∷ []

abbrev pub method_at : Shape → MethodName → Option Method
method_at Series n = n.series
method_at Frame n = n.frame

-- the method that a name means on a Series or a frame
abbrev pub method_named : Shape → Text → Option Method
method_named s t = option_and_then (method_at s) (find (λ n. same_text n.name t) method_names)

abbrev pub same_method : Method → Method → Bool
same_method (method.Columns m) (method.Columns n) = sameb column_method_type.the_type m n
same_method (method.Summary m) (method.Summary n) = sameb summary_method_type.the_type m n
same_method (method.Rows m) (method.Rows n) = sameb row_method_type.the_type m n
same_method (method.Levels m) (method.Levels n) = sameb level_method_type.the_type m n
same_method (method.Labels m) (method.Labels n) = sameb label_method_type.the_type m n
same_method (method.Table m) (method.Table n) = sameb table_method_type.the_type m n
same_method (method.Reshape m) (method.Reshape n) = sameb reshape_method_type.the_type m n
same_method (method.Other m) (method.Other n) = sameb other_method_type.the_type m n
same_method m n = false

-- whether a method is one of the shape: some name means it there
abbrev pub fits_shape : Method → Shape → Bool
fits_shape m s = list_any (λ n. option_map_or (same_method m) (method_at s n) false) method_names

-- the method of texts that a name means, behind `str`
abbrev pub str_named : Text → Option StrMethod
str_named t =
    if same_text t (codes "len") then Some str_method.Len
    else if same_text t (codes "strip") then Some str_method.Strip
    else if same_text t (codes "startswith") then Some str_method.Startswith
    else if same_text t (codes "endswith") then Some str_method.Endswith
    else if same_text t (codes "contains") then Some str_method.Contains
    else if same_text t (codes "slice") then Some str_method.Slice
    else if same_text t (codes "zfill") then Some str_method.Zfill
    else None

-- the function that a name means
abbrev pub function_named : Text → Option Function
function_named t =
    if same_text t (codes "Series") then Some function.Series
    else if same_text t (codes "DataFrame") then Some function.DataFrame
    else if same_text t (codes "read_csv") then Some function.ReadCsv
    else if same_text t (codes "concat") then Some function.Concat
    else None
