use Rattle.k_star_bmd.proofs.ContentLaws.{nodes_are_reduced, reduced_keeps_content}
use Rattle.k_star_bmd.proofs.laws.content_laws.Goals as goal

pub returns : goal.returns
returns c = record {
  nodes_are_reduced = nodes_are_reduced;
  reduced_keeps_content = reduced_keeps_content;
}
