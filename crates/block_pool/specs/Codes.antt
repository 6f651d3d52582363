-- How what is seen of a pool is stored.
use Rattle.std.specs.Prelude.{◌≡◌, ◌⊎◌, ℕ, ℤ, Bool, true, false, List, Option, Some, None, refl}
use Rattle.std.proofs.Common.{inl, inr}
use Rattle.std.specs.Ordering.{nat_cmp}
use Rattle.std.specs.FinMap.{FinMap, code}
use Rattle.std.specs.Coded.{Coded, code_by, coded×, coded⊎, coded_ℕ, coded_ℤ, coded_bool, coded_list, coded_option}
use Rattle.cell_core.specs.declared.cell.Kind.{Kind}
use Rattle.cell_core.specs.declared.cell.Kind.TheVariants.{Int64, Boolean, Text as string}
use Rattle.cell_core.specs.declared.cell.Cell.{Cell}
use Rattle.cell_core.specs.declared.cell.Cell.TheVariants as cell
use Rattle.column_core.specs.Blocks.{CellBlock}
use Rattle.block_pool.specs.Pools.{ViewValue, PoolValue}

abbrev of_kind : Kind → Option Bool
of_kind Int64 = None
of_kind Boolean = Some false
of_kind string = Some true

abbrev to_kind : Option Bool → Kind
to_kind None = Int64
to_kind (Some false) = Boolean
to_kind (Some true) = string

pub kind_back : (k : Kind) → to_kind (of_kind k) ≡ k
kind_back Int64 = refl
kind_back Boolean = refl
kind_back string = refl

abbrev of_cell : Cell → Option (ℤ ⊎ (Bool ⊎ ℕ))
of_cell cell.Na = None
of_cell (cell.Int z) = Some (inl z)
of_cell (cell.Bool b) = Some (inr (inl b))
of_cell (cell.Text id) = Some (inr (inr id.0))

abbrev to_cell : Option (ℤ ⊎ (Bool ⊎ ℕ)) → Cell
to_cell None = cell.Na
to_cell (Some (inl z)) = cell.Int z
to_cell (Some (inr (inl b))) = cell.Bool b
to_cell (Some (inr (inr n))) = cell.Text record { 0 = n }

pub cell_back : (c : Cell) → to_cell (of_cell c) ≡ c
cell_back cell.Na = refl
cell_back (cell.Int z) = refl
cell_back (cell.Bool b) = refl
cell_back (cell.Text id) = refl

abbrev pub coded_kind : Coded Kind
coded_kind = code_by (Option Bool) (coded_option coded_bool) of_kind to_kind kind_back

abbrev pub coded_cell : Coded Cell
coded_cell = code_by (Option (ℤ ⊎ (Bool ⊎ ℕ))) (coded_option (coded⊎ coded_ℤ (coded⊎ coded_bool coded_ℕ))) of_cell to_cell cell_back

abbrev pub coded_grid : Coded CellBlock
coded_grid =
    code_by (Kind × (ℕ × List (List Cell))) (coded× coded_kind (coded× coded_ℕ (coded_list (coded_list coded_cell))))
    (λ g. (g.kind, (g.rows, g.columns))) (λ p. record { kind = p.0; rows = p.1.0; columns = p.1.1 }) (λ _. refl)

abbrev pub coded_view : Coded ViewValue
coded_view =
    code_by (ℕ × (ℕ × CellBlock)) (coded× coded_ℕ (coded× coded_ℕ coded_grid))
    (λ s. (s.block, (s.cells, s.grid))) (λ p. record { block = p.0; cells = p.1.0; grid = p.1.1 }) (λ _. refl)

abbrev pub coded_pool : Coded PoolValue
coded_pool =
    code_by (FinMap nat_cmp ViewValue × (FinMap nat_cmp ℕ × ℕ)) (coded× (code coded_ℕ coded_view) (coded× (code coded_ℕ coded_ℕ) coded_ℕ))
    (λ s. (s.views, (s.blocks, s.spare))) (λ p. record { views = p.0; blocks = p.1.0; spare = p.1.1 }) (λ _. refl)
