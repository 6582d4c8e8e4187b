-- What came of one text.
use Rattle.std.proofs.Common.{◌≡◌, refl, sym, subst, List, ℕ, inl, inr}
use Rattle.std.specs.Prelude.{IsErrAnd, Option, Result, Some, None, Ok, Err}
use Rattle.circuits.specs.Circuit.{Circuit}
use Rattle.bench_reader.specs.Reading as bench
use Rattle.bench_reader.specs.declared.fault.BenchError.{BenchError}
use Rattle.bench_reader.specs.declared.fault.BenchError.TheVariants as bench_error
use Rattle.spec_grammar.specs.Reading as grammar
use Rattle.spec_grammar.specs.declared.fault.SpecError.{SpecError}
use Rattle.spec_grammar.specs.declared.fault.SpecError.TheVariants as spec_error
use Rattle.spec_lang.specs.Specification.{Specification}
use Rattle.word_base.specs.declared.kind_name.KindName.{KindName}
use Rattle.outside.specs.Shelf.{IsLonger, IsWhole}
use Rattle.texts.specs.declared.limits.TheConstants.{MOST_BYTES}
use Rattle.report.specs.declared.refusal.Refusal.{Refusal}
use Rattle.check_run.specs.declared.stop.Stop.{Stop}
use Rattle.check_run.specs.declared.stop.Stop.TheVariants as stop
use Rattle.check_run.specs.Files.{IsText, RefusesNetlist, RefusesSpec, SaysNetlist, SaysSpec}
use Rattle.check_run.specs.Loading.{ComesTo, Gives, stop_of_netlist, stop_of_spec}
use Rattle.check_run.specs.Outside.{ShelfSeen}
use Rattle.check_run.specs.Sources.{MayBeThere, Told}

pub text_is_there : (text : Told) (bytes : List ℕ) → IsText text bytes → MayBeThere text
text_is_there text bytes is lacks = subst (λ (o : Told). IsWhole o bytes) lacks is.whole

pub longer_is_there : (text : Told) → IsLonger text MOST_BYTES → MayBeThere text
longer_is_there text longer lacks = subst (λ (o : Told). IsLonger o MOST_BYTES) lacks longer

-- a netlist that is there and was not read
netlist_stopped : (text : Told) (bytes : List ℕ) (error : BenchError) → IsText text bytes → bench.IsFaultOf error (bench.reading bytes) →
    Gives {X = Circuit} (SaysNetlist text) (RefusesNetlist text) (Err (stop_of_netlist error))
netlist_stopped text bytes (bench_error.Fault fault) is reads = inr (bytes, fault, is, reads, refl)
netlist_stopped text bytes bench_error.Memory is _ = tt

pub netlist_not_read : (text : Told) (bytes : List ℕ) (error : BenchError) (r : Result Circuit Stop) → IsText text bytes →
    bench.IsFaultOf error (bench.reading bytes) → IsErrAnd r (λ s. s ≡ stop_of_netlist error) → Gives (SaysNetlist text) (RefusesNetlist text) r
netlist_not_read text bytes error (Ok c) is reads said = absurd said
netlist_not_read text bytes error (Err s) is reads said =
    subst (λ (x : Stop). Gives {X = Circuit} (SaysNetlist text) (RefusesNetlist text) (Err x)) (sym said) (netlist_stopped text bytes error is reads)

-- a specification that is there and was not read
spec_stopped : (k : KindName) (c : Circuit) (text : Told) (bytes : List ℕ) (error : SpecError) → IsText text bytes → grammar.IsFaultOf error (grammar.reading c k bytes) →
    Gives {X = Specification} (SaysSpec k c text) (RefusesSpec k c text) (Err (stop_of_spec error))
spec_stopped k c text bytes (spec_error.Fault fault) is reads = inr (bytes, fault, is, reads, refl)
spec_stopped k c text bytes spec_error.Memory is _ = tt

pub spec_not_read : (k : KindName) (c : Circuit) (text : Told) (bytes : List ℕ) (error : SpecError) (r : Result Specification Stop) → IsText text bytes →
    grammar.IsFaultOf error (grammar.reading c k bytes) → IsErrAnd r (λ s. s ≡ stop_of_spec error) → Gives (SaysSpec k c text) (RefusesSpec k c text) r
spec_not_read k c text bytes error (Ok s) is reads said = absurd said
spec_not_read k c text bytes error (Err s) is reads said =
    subst (λ (x : Stop). Gives {X = Specification} (SaysSpec k c text) (RefusesSpec k c text) (Err x)) (sym said) (spec_stopped k c text bytes error is reads)

-- what a text gives that was asked for without a fault
pub comes_of_text : {X : Type 0} (Says : X → Type 0) (old new : ShelfSeen) (text : Told) (Refuses : Refusal → Type 0) (r : Result X Stop) → MayBeThere text →
    new.faults ≡ old.faults → Gives Says Refuses r → ComesTo Says Refuses old new text r
comes_of_text Says old new text Refuses (Ok x) there same gives = (gives, same)
comes_of_text Says old new text Refuses (Err (stop.Refused r)) there same gives = (gives, same)
comes_of_text Says old new text Refuses (Err stop.ReadFault) there same gives = absurd gives
comes_of_text Says old new text Refuses (Err stop.Memory) there same gives = (there, same)
