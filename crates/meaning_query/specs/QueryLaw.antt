-- That the reader of texts reads queries, and all of them.
use Rattle.std.specs.Prelude.{◌≡◌, Some}
use Rattle.meaning_language.specs.cells.Text.{Text}
use Rattle.meaning_language.specs.Tree.{Expr}
use Rattle.meaning_query.specs.Query.{IsQuery}
use Rattle.meaning_query.specs.Reading.{query_expr}

-- What is read of the text is a mask that it stands for as a query, and each such mask is read: so there is one at most.
abbrev pub ReadsQuery : Text → Type 0
ReadsQuery text = ((x : Expr) → query_expr text ≡ Some x → IsQuery text x) × ((x : Expr) → IsQuery text x → query_expr text ≡ Some x)
