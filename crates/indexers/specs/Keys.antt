-- Keys as they are meant.
use Rattle.std.specs.Prelude.{ℕ, List, IfSome}
use Rattle.cell_core.specs.declared.cell.Label.{Label}
use Rattle.index_core.specs.pick.Keys.{LabelKey, all_rows, one_key, each_key, between, PlaceKey, one_place, each_place, place_slice}
use Rattle.multi_index.specs.Axes.{HaveLevels, AreLeading}
use Rattle.indexers.specs.declared.keys.LocKey.{LocKey}
use Rattle.indexers.specs.declared.keys.LocKey.TheVariants as loc
use Rattle.indexers.specs.declared.keys.PosKey.{PosKey}
use Rattle.indexers.specs.declared.keys.PosKey.TheVariants as position

abbrev pub label_key : LocKey → LabelKey (List Label)
label_key loc.All = all_rows
label_key (loc.One key) = one_key key
label_key (loc.Many keys) = each_key keys
label_key (loc.Span lower upper) = between lower upper

abbrev pub place_key : PosKey → PlaceKey
place_key (position.One z) = one_place z
place_key (position.Many zs) = each_place zs
place_key (position.Span from to step) = place_slice from to step

-- the labels of the key fit so many levels: leading ones, and in a list those of whole tuples
abbrev pub FitsLevels : ℕ → LocKey → Type 0
FitsLevels levels loc.All = Unit {0}
FitsLevels levels (loc.One key) = AreLeading levels key
FitsLevels levels (loc.Many keys) = HaveLevels levels keys
FitsLevels levels (loc.Span lower upper) = IfSome lower (AreLeading levels) × IfSome upper (AreLeading levels)
