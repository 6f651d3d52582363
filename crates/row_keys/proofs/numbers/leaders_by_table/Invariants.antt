use Rattle.{
  multi_index.proofs.cells.Common.{◌≡◌, ◌+◌, map, take, length},
  row_keys.{specs.Numbers.{first_with}, proofs.LeaderLaws.{IsTable}},
}
use Rattle.row_keys.proofs.numbers.leaders_by_table.Given as goal

-- the table and the leaders of the rows so far
abbrev pub invariant-loop-row : goal.invariant-loop-row
invariant-loop-row l = record {
  long : length l.table.items ≡ l.end + 1;
  table : IsTable l.numbers l.table.items l.row;
  leaders : l.leaders.items ≡ map (first_with l.numbers) (take l.row l.numbers);
}
