use Rattle.tables.proofs.NodeLaws.{nodes_are_added, nodes_are_listed, nodes_are_distinct, listed_nodes_are_distinct}
use Rattle.tables.proofs.laws.node_laws.Goals as goal

pub returns : goal.returns
returns c = record {
  nodes_are_added = nodes_are_added;
  nodes_are_listed = nodes_are_listed;
  nodes_are_distinct = nodes_are_distinct;
  listed_nodes_are_distinct = listed_nodes_are_distinct;
}
