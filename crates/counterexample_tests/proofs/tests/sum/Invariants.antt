use Rattle.kind_laws.specs.Plain.{plain}
use Rattle.diagram.specs.View.{IsEdge, Keeps}
use Rattle.counterexample_tests.proofs.tests.sum.Given as goal

abbrev pub invariant-loop-product : goal.invariant-loop-product
invariant-loop-product g l = record {
  keeps : Keeps l.fn.builder l.builder;
  good : IsEdge g.K.Kind.NAME l.builder (plain g.K.Kind.extra_of l.sum);
}
