-- What forms cost: a form that costs at most so much costs at most more.
use Rattle.{meaning_tables.{proofs.cells.Common.{◌≡◌, ◌∙◌, refl, ap, arith, ℕ, ◌≤◌, List, length-map, Option, None, IsSome, Result, Ok, Err, ⊤, Text, FaultValue}, specs.{Table.{NumberedTable, Table, table_value, tuple_value, column_value, cell_count}, Cost.{answer_charge, cost_of, free}, Value.{Entry}}}, frame_store.specs.{declared.{arguments.Value.{Value}, fault.OpFault.{OpFault}}, Objects.{Tables, BlocksByObject, Holding, LieStill}, Stores.{charged}, World.{World, Holds, FormsFor, SetsFor, changed_value}}}
use Rattle.meaning_tables.specs.Value as value

pub cost_within : {A F : Type 0} (lower upper : A → ℕ) (meant : Result A F) → ((a : A) → meant ≡ Ok a → lower a ≤ upper a) → cost_of lower meant ≤ cost_of upper meant
cost_within lower upper (Ok a) least = least a refl
cost_within lower upper (Err fault) least = omega arith

pub charged_within : {A E : Type 0} (r : Result A E) (m n : ℕ) → m ≤ n → charged m r ≤ charged n r
charged_within (Ok x) m n least = least
charged_within (Err e) m n least = omega arith

pub holds_within : (m n : ℕ) (but : Option ℕ) (old new : World) → m ≤ n → Holds m but old new → Holds n but old new
holds_within m n but old new least holds = record { cells = omega (arith, holds.cells, least); blocks = holds.blocks }

-- the same objects on the same blocks, whatever texts there are
pub holds_still : (more : ℕ) (but : Option ℕ) (tables : Tables) (holding : Holding) (before after : List Text)
    → Holds more but (record { tables = tables; texts = before; holding = holding }) (record { tables = tables; texts = after; holding = holding })
holds_still more but tables holding before after = record { cells = omega arith; blocks = λ id live there apart. refl }

-- one change of the blocks after another, and one of no object as one of this object
pub lie_twice : (but : Option ℕ) (a b c : Tables) (x y z : BlocksByObject) → ((id : ℕ) → IsSome (a id) → IsSome (c id) → IsSome (b id)) → LieStill but a b x y → LieStill but b c y z → LieStill but a c x z
lie_twice but a b c x y z between first second id live there apart =
    let here : IsSome (b id) = between id live there in
    second id here there apart ∙ first id live here apart

pub lie_but : (but : Option ℕ) (a b : Tables) (x y : BlocksByObject) → LieStill None a b x y → LieStill but a b x y
lie_but but a b x y still id live there apart = still id live there (λ e. cc)

-- a charge that is at most another one at the answer that is meant
pub forms_within : (lower upper : Entry → ℕ) (r : Result Value OpFault) (meant : Result Entry FaultValue) (old new : World) → ((answer : Entry) → meant ≡ Ok answer → lower answer ≤ upper answer)
    → FormsFor lower r meant old new → FormsFor upper r meant old new
forms_within lower upper r meant old new least forms = (
  forms.0,
  forms.1,
  forms.2,
  holds_within (charged (cost_of lower meant) r) (charged (cost_of upper meant) r) None old new (charged_within r (cost_of lower meant) (cost_of upper meant) (cost_within lower upper meant least)) forms.3,
)

pub sets_within : (lower upper : Table → ℕ) (r : Result ⊤ OpFault) (on : Value) (meant : Result Table FaultValue) (old new : World) → ((left : Table) → meant ≡ Ok left → lower left ≤ upper left)
    → SetsFor lower r on meant old new → SetsFor upper r on meant old new
sets_within lower upper r on meant old new least sets = (
  sets.0,
  sets.1,
  sets.2,
  holds_within (charged (cost_of lower meant) r) (charged (cost_of upper meant) r) (changed_value on r) old new (charged_within r (cost_of lower meant) (cost_of upper meant) (cost_within lower upper meant least)) sets.3,
)

-- what is free costs at most anything
pub free_forms : (charge : Entry → ℕ) (r : Result Value OpFault) (meant : Result Entry FaultValue) (old new : World) → FormsFor free r meant old new → FormsFor charge r meant old new
free_forms charge r meant old new forms = forms_within free charge r meant old new (λ answer is. omega arith) forms

pub free_sets : (charge : Table → ℕ) (r : Result ⊤ OpFault) (on : Value) (meant : Result Table FaultValue) (old new : World) → SetsFor free r on meant old new → SetsFor charge r on meant old new
free_sets charge r on meant old new sets = sets_within free charge r on meant old new (λ left is. omega arith) sets

-- a table has as many cells with its texts as without them
pub cells_with_texts : (texts : List Text) (t : NumberedTable) → cell_count (table_value texts t) ≡ cell_count t
cells_with_texts texts t = rw (length-map t.labels (tuple_value texts), length-map t.columns (column_value texts))

pub answer_cost : (texts : List Text) (t : NumberedTable) (meant : Result Entry FaultValue) → meant ≡ Ok (value.table (table_value texts t)) → cost_of answer_charge meant ≡ cell_count t
answer_cost texts t meant is = ap (cost_of answer_charge) is ∙ cells_with_texts texts t
