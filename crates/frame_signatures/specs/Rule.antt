-- The rule by which the arguments of a call are bound to parameters, said of the call as a whole.
use Rattle.std.specs.Prelude.{◌≡◌, ℕ, Bool, true, false, IsTrue, List, length, slice_get, take, count_by, position, Option, Some, None}
use Rattle.frame_store.specs.cells.Text.{Text, same_text}
use Rattle.frame_store.specs.tables.Value.{Given, NamedGiven}
use Rattle.meaning_call.specs.declared.Parameter.{Parameter}
use Rattle.meaning_call.specs.declared.Omitted.TheVariants.{Required}
use Rattle.meaning_call.specs.Signature.{spelled}
use Rattle.meaning_call.specs.Binding.{takes, lists, stands_for, Bound, not_taken, not_listed, bound}

abbrev pub is_unnamed : Option Text → Bool
is_unnamed None = true
is_unnamed (Some name) = false

-- the place of an argument after these: without a name, the number of those without a name; with one, the place of the parameter of that name, if there is one
abbrev pub place_after : List Parameter → List NamedGiven → Option Text → Option ℕ
place_after ps before None = Some (count_by (λ g. is_unnamed g.name) before)
place_after ps before (Some name) = position (λ p. same_text (spelled p.name) name) ps

-- the argument with this index has this place
pub record HasPlace (ps : List Parameter) (gs : List NamedGiven) (i : ℕ) (g : NamedGiven) (place : ℕ) : Type 0 where
  pub argument : slice_get gs i ≡ Some g
  pub placed : place_after ps (take i gs) g.name ≡ Some place

-- its place is a parameter that takes it
pub record IsTaken (ps : List Parameter) (gs : List NamedGiven) (i : ℕ) (g : NamedGiven) : Type 0 where
  pub place : ℕ
  pub parameter : Parameter
  pub placed : HasPlace ps gs i g place
  pub found : slice_get ps place ≡ Some parameter
  pub taken : IsTrue (takes parameter g.value)

-- some argument has this place
pub record HasArgument (ps : List Parameter) (gs : List NamedGiven) (place : ℕ) : Type 0 where
  pub index : ℕ
  pub argument : NamedGiven
  pub placed : HasPlace ps gs index argument place

-- the place of each argument is a parameter that takes it, no two have one place, and no parameter that is required lacks its argument
pub record AreTaken (ps : List Parameter) (gs : List NamedGiven) : Type 0 where
  pub each : (i : ℕ) (g : NamedGiven) → slice_get gs i ≡ Some g → IsTaken ps gs i g
  pub apart : (i j place : ℕ) (g h : NamedGiven) → HasPlace ps gs i g place → HasPlace ps gs j h place → i ≡ j
  pub complete : (place : ℕ) (p : Parameter) → slice_get ps place ≡ Some p → p.omitted ≡ Required → HasArgument ps gs place

-- each argument is among the values that its parameter lists
abbrev pub AreListed : List Parameter → List NamedGiven → Type 0
AreListed ps gs = (i place : ℕ) (g : NamedGiven) (p : Parameter) → HasPlace ps gs i g place → slice_get ps place ≡ Some p → IsTrue (lists p.listed g.value)

-- for each parameter the argument that has its place, else what stands for it
pub record AreInOrder (ps : List Parameter) (gs : List NamedGiven) (values : List Given) : Type 0 where
  pub as_many : length values ≡ length ps
  pub given : (i place : ℕ) (g : NamedGiven) → HasPlace ps gs i g place → slice_get values place ≡ Some g.value
  pub omitted : (place : ℕ) (p : Parameter) → slice_get ps place ≡ Some p → (HasArgument ps gs place → ⊥) → slice_get values place ≡ Some (stands_for p.omitted)

-- what binding answers, and exactly when
abbrev pub IsBinding : List Parameter → List NamedGiven → Bound → Type 0
IsBinding ps gs not_taken = AreTaken ps gs → ⊥
IsBinding ps gs not_listed = AreTaken ps gs × (AreListed ps gs → ⊥)
IsBinding ps gs (bound values) = AreTaken ps gs × AreListed ps gs × AreInOrder ps gs values
