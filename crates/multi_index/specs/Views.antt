-- What an axis keeps, as its tuples and names.
use Rattle.std.specs.Prelude.{◌≡◌, length, take}
use Rattle.multi_index.specs.declared.axis.Axis.TheInside.{Inside}
use Rattle.multi_index.specs.Axes.{AxisValue}
use Rattle.multi_index.specs.Levels.{AreLevels, level_tuples}

-- the axis that is kept: its levels, of which each has a name or none
abbrev pub kept_axis : Inside → AxisValue
kept_axis axis = record { tuples = level_tuples axis.levels; names = take (length axis.levels) axis.names }

-- there is room for the names of four levels
pub record IsAxis (axis : Inside) : Type 0 where
  pub room : length axis.names ≡ 4
  pub whole : AreLevels axis.levels
