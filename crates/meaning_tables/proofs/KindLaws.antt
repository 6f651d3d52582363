-- The test of kinds holds just where they are one.
use Rattle.{
  meaning_cells.{proofs.Common.{◌≡◌, true, refl, Kind, Int64, Boolean}, specs.cell_core.declared.cell.Kind.TheVariants.{Text as string}},
  meaning_tables.specs.Table.{same_kind},
}

pub kind_is : (a b : Kind) → same_kind a b ≡ true → a ≡ b
kind_is Int64 Int64 e = refl
kind_is Boolean Boolean e = refl
kind_is string string e = refl
kind_is a b e = cc

pub kind_itself : (kind : Kind) → same_kind kind kind ≡ true
kind_itself Int64 = refl
kind_itself Boolean = refl
kind_itself string = refl
