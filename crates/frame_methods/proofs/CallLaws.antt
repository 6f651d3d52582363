-- What is made, as an answer.
use Rattle.{frame_parts.proofs.Common.{arith, ◌≡◌, ◌∙◌, List, ap, Result, Ok, Err, IfOk, IsLonger, Cell, Text, datum, FaultValue, IsSettled, NumberedTable, table_value, Entry, MakesBy, Value, OpFault, Tables, shown, Makes, FormAnswers, seen_later}, frame_methods.specs.{declared.made.Made.{Made}, Made.{made_value}}}
use Rattle.frame_store.specs.tables.Value as value
use Rattle.frame_methods.specs.declared.made.Made.TheVariants as made

-- a refusal
pub refused_made : (earlier texts : List Text) (tables : Tables) (m : Result Made OpFault) (result : Result Value OpFault) (fault : OpFault) (meant : Result Entry FaultValue)
    → m ≡ Err fault → result ≡ Err fault → IsLonger earlier texts → IsSettled shown earlier tables → MakesBy made_value texts m meant → FormAnswers texts result meant (shown earlier tables) (shown texts tables)
refused_made earlier texts tables m result fault meant was is longer settled makes = grind (arith, seen_later shown earlier texts tables longer settled)

-- the table that was made is settled
table_settled_in : (texts : List Text) (m : Result Made OpFault) (one : Made) (t : NumberedTable) → m ≡ Ok one → one ≡ made.Table t → IfOk m (IsSettled made_value texts) → IsSettled table_value texts t
table_settled_in texts m _ t was is settled =
    let here : IsSettled made_value texts (made.Table t) = rw (was ∙ ap Ok is) at settled in
    grind arith

-- a scalar
pub scalar_answered : (earlier texts : List Text) (tables : Tables) (m : Result Made OpFault) (one : Made) (c : Cell) (meant : Result Entry FaultValue)
    → m ≡ Ok one → one ≡ made.Scalar c → IfOk m (IsSettled made_value texts) → IsLonger earlier texts → IsSettled shown earlier tables → MakesBy made_value texts m meant
    → (meant ≡ Ok (value.cell (datum texts c))) × ((shown texts tables ≡ shown earlier tables) × IsSettled datum texts c)
scalar_answered _ texts _ m _ c _ was is given longer settled makes =
    let here : IsSettled made_value texts (made.Scalar c) = rw (was ∙ ap Ok is) at given in
    (grind arith, (seen_later shown _ _ _ longer settled, grind arith))

-- a table is meant, and it is settled
pub table_meant : (texts : List Text) (m : Result Made OpFault) (one : Made) (t : NumberedTable) (meant : Result Entry FaultValue) → m ≡ Ok one → one ≡ made.Table t → IfOk m (IsSettled made_value texts)
    → MakesBy made_value texts m meant → Makes texts (Ok t) meant
table_meant = grind (arith, table_settled_in)
