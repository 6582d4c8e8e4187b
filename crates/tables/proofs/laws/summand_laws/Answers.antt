use Rattle.tables.proofs.SummandLaws.{shifted_trees_stand, summands_go_through, raised_tables_keep_nodes, summands_are_taken}
use Rattle.tables.proofs.TableLaws.{raised_tables_are_sums, sums_of_raised_tables}
use Rattle.tables.proofs.laws.summand_laws.Goals as goal

pub returns : goal.returns
returns c = record {
  raised_tables_are_sums = raised_tables_are_sums;
  shifted_trees_stand = shifted_trees_stand;
  summands_go_through = summands_go_through;
  raised_tables_keep_nodes = raised_tables_keep_nodes;
  summands_are_taken = summands_are_taken;
  sums_of_raised_tables = sums_of_raised_tables;
}
