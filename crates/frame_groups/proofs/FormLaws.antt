-- What a form answers, by what it reads.
use Rattle.{
  frame_parts.proofs.Common.{arith, ◌≡◌, ◌∙◌, refl, subst, ℕ, sym, List, ◌++◌, false, Some, None, Result, Err, Text, IsLonger, FaultValue, IsSettled, NumberedTable, table_value, IsWhole, Entry, list_in, Cell, Value, Argument, Item, OpFault, NoMemory, argument_of, items_of, Tables, table_or, shown, cells_value, World, IsSettledWorld, IsKnownTable, IsKnownArgument, Forms, AreColumnsOf, object_settled, settled_later, seen_later},
  frame_select.specs.Selected.{scalars_in},
  frame_signatures.{specs.Scalars.{scalars}, proofs.{ScalarLaws.{scalars_are}, ToldLaws.{some_same}}},
  frame_groups.specs.Grouped.{AreValues},
  frame_labels.specs.method.Groups.{group_answer},
}
use Rattle.frame_labels.specs.method.Groups as meant

-- a table that is read
pub known_table : (w : World) (id : ℕ) (t : NumberedTable) → w.tables id ≡ Some t → IsWhole t → IsSettledWorld w → IsKnownTable w.texts t
known_table = search object_settled

pub seen_before : (w : World) (texts : List Text) (id : ℕ) (t : NumberedTable) → w.tables id ≡ Some t → IsLonger w.texts texts → IsSettledWorld w → table_value texts t ≡ table_value w.texts (table_or (w.tables id))
seen_before w texts id t at longer settled = cc (seen_later table_value w.texts texts t longer (object_settled w.texts w.tables id t at settled))

-- want of memory after texts were added
pub no_memory_forms : (w : World) (texts : List Text) (r : Result Value OpFault) (meant : Result Entry FaultValue) → r ≡ Err NoMemory → IsLonger w.texts texts → IsSettledWorld w → Forms r meant w (record { tables = w.tables; texts = texts; holding = w.holding })
no_memory_forms w _ r meant is longer settled = rw is (seen_later shown _ _ _ longer settled, longer, search settled_later, record { cells = omega arith; blocks = λ id live there apart. refl })

pub forms_so : (r : Result Value OpFault) (meant meant' : Result Entry FaultValue) (old new : World) → Forms r meant old new → meant ≡ meant' → Forms r meant' old new
forms_so r _ _ old new forms is = subst (λ m. Forms r m old new) is forms

-- the same of a table that is read, and of a call that is told
pub answer_at : (texts : List Text) (g : meant.Grouping) (v : meant.Values) {t t' : NumberedTable} {call call' : meant.GroupCall} → t ≡ t' → call ≡ call' → group_answer (table_value texts t) g v call ≡ group_answer (table_value texts t') g v call'
answer_at texts g v at is = cc (at, is)

-- the cells of a list of scalars alone
abbrev no_tables : Tables
no_tables = λ id. None

cells_are : (texts : List Text) (items : List Item) (cells : List Cell) → Some (cells_value texts cells) ≡ scalars_in (items_of no_tables texts items) → cells_value texts cells ≡ scalars texts items
cells_are = grind (arith, some_same)

pub listed_settled : (texts : List Text) (items : List Item) (cells : List Cell) → ((live : Tables) (ts : List Text) → Some (cells_value ts cells) ≡ scalars_in (items_of live ts items)) → IsSettled scalars texts items → IsSettled cells_value texts cells
listed_settled texts items _ is settled = λ more. cells_are _ items _ (is _ (texts ++ more)) ∙ settled more ∙ sym (cells_are _ items _ (is _ texts))

pub items_known : (w : World) (a : Argument) (items : List Item) → ((live : Tables) (ts : List Text) → Some (items_of live ts items) ≡ list_in (argument_of live ts a)) → IsKnownArgument w a → IsSettled scalars w.texts items
items_known = grind (arith, scalars_are, some_same)

-- several columns
pub many_values : (t : NumberedTable) (places : List ℕ) → AreColumnsOf t places → AreValues t (record { places = places; single = false })
many_values = grind arith
