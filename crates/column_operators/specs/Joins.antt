-- Two texts that were joined stay so in a longer dictionary.
use Rattle.std.specs.Prelude.{◌≡◌, ℕ, ◌<◌, ◌++◌, List, [], length, Option, Some, None}
use Rattle.std.proofs.Common.{refl, ap, ◌∙◌}
use Rattle.std.proofs.Math.ListN.{get_or-append}
use Rattle.cell_core.specs.declared.cell.TextId.{TextId}
use Rattle.column_core.specs.cells.Cell.{text_of, IsLonger, IsGiven}
use Rattle.column_core.specs.Columns.{text_cell}
use Rattle.column_operators.specs.Operations.{both}

text_stays : (earlier later : List (List ℕ)) (x : TextId) → IsLonger earlier later → x.0 < length earlier → text_of later x ≡ text_of earlier x
text_stays earlier later x (more, e) given = ap (λ texts. text_of texts x) e ∙ get_or-append earlier more [] x.0 given

pub join_stays : (earlier later : List (List ℕ)) (x y : Option TextId) → IsLonger earlier later → IsGiven earlier (text_cell x) → IsGiven earlier (text_cell y)
    → both (λ a b. text_of later a ++ text_of later b) x y ≡ both (λ a b. text_of earlier a ++ text_of earlier b) x y
join_stays earlier later None y l g h = refl
join_stays earlier later (Some x) None l g h = refl
join_stays earlier later (Some x) (Some y) l g h = λ i. Some (text_stays earlier later x l g i ++ text_stays earlier later y l h i)
