use Rattle.spec_lang.proofs.Values.{IsTotalSoFar}
use Rattle.spec_lang.proofs.value.value_of_nets.Given as goal

abbrev pub invariant-loop-net : goal.invariant-loop-net
invariant-loop-net l = IsTotalSoFar l.values l.nets l.net-index l.total l.weight
