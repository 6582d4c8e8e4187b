use Rattle.tables.proofs.FactorLaws.{scaled_trees_stand, factors_go_through, multiples_keep_nodes, factors_fit, factors_are_taken, factor_is_zero}
use Rattle.tables.proofs.TableLaws.{products_of_multiples}
use Rattle.tables.proofs.laws.factor_laws.Goals as goal

pub returns : goal.returns
returns c = record {
  scaled_trees_stand = scaled_trees_stand;
  factors_go_through = factors_go_through;
  multiples_keep_nodes = multiples_keep_nodes;
  factors_fit = factors_fit;
  factors_are_taken = factors_are_taken;
  factor_is_zero = factor_is_zero;
  products_of_multiples = products_of_multiples;
}
