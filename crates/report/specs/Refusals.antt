-- What is written where a run takes nothing.
use Rattle.std.specs.Prelude.{◌≡◌, ℕ, List, ◌++◌, codes, refl}
use Rattle.std.specs.Fmt.{digits}
use Rattle.bench_reader.specs.Faults.{fault}
use Rattle.bench_reader.specs.Texts as bench
use Rattle.bench_reader.specs.declared.fault.BenchCause.TheVariants.{DuplicateNet}
use Rattle.spec_grammar.specs.Texts as spec
use Rattle.spec_grammar.specs.declared.fault.SpecCause.TheVariants.{NoCheck}
use Rattle.report.specs.declared.refusal.Refusal.{Refusal}
use Rattle.report.specs.declared.refusal.Refusal.TheVariants.{Usage, Words, NetlistTooLong, Netlist, SpecTooLong, Spec}

abbrev pub refusal_text : Refusal → List ℕ
refusal_text Usage = codes "refused usage"
refusal_text Words = codes "refused words unbuilt"
refusal_text NetlistTooLong = codes "refused netlist too-long"
refusal_text (Netlist fault) = codes "refused netlist " ++ bench.fault_text fault
refusal_text SpecTooLong = codes "refused spec too-long"
refusal_text (Spec fault) = codes "refused spec " ++ spec.fault_text fault

duplicate : refusal_text (Netlist (fault 3 DuplicateNet)) ≡ codes "refused netlist 3 duplicate-net"
unfolding digits
duplicate = refl

too_long : refusal_text SpecTooLong ≡ codes "refused spec too-long"
too_long = refl

no_check : refusal_text (Spec (record { line = 0; cause = NoCheck })) ≡ codes "refused spec 0 no-check"
unfolding digits
no_check = refl
