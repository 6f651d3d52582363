-- How the joined rows grow.
use Rattle.std.specs.Prelude.{◌≡◌, ℕ, List, ◌++◌, map}
use Rattle.cell_core.specs.declared.cell.Label.{Label}
use Rattle.multi_index.specs.Axes.{tuples_at}
use Rattle.meaning_align.specs.Joins.{Entry, Lists}
use Rattle.label_align.specs.declared.joined.JoinedRows.{JoinedRows}
use Rattle.label_align.specs.declared.joined.Joined.{Joined}

-- the lists have more entries
pub record HasMore (old new : JoinedRows) (entries : List (Entry ℕ)) : Type 0 where
  pub rows : new.rows.items ≡ old.rows.items ++ map (λ e. e.key) entries
  pub left : new.left.items ≡ old.left.items ++ map (λ e. e.left) entries
  pub right : new.right.items ≡ old.right.items ++ map (λ e. e.right) entries

-- the lists as they are meant
abbrev pub entries_seen : JoinedRows → Lists ℕ
entries_seen entries = record { keys = entries.rows.items; left = entries.left.items; right = entries.right.items }

-- with the tuples of the rows in place of these
abbrev pub entries_shown : List (List Label) → JoinedRows → Lists (List Label)
entries_shown tuples entries = record { keys = tuples_at tuples entries.rows.items; left = entries.left.items; right = entries.right.items }

abbrev pub lists_seen : Joined → Lists (List Label)
lists_seen joined = record { keys = joined.axis.tuples; left = joined.left; right = joined.right }
