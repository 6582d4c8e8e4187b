-- What came of the steps of a run: of the words, of a text, of both, and of the line.
use Rattle.std.specs.Prelude.{◌≡◌, ◌⊎◌, ℕ, ◌≤◌, List, Result, Ok, Err}
use Rattle.std.specs.Io.KnownBytes.{Appends}
use Rattle.circuits.specs.Circuit.{Circuit}
use Rattle.spec_grammar.specs.declared.fault.SpecError.{SpecError}
use Rattle.spec_grammar.specs.declared.fault.SpecError.TheVariants as spec
use Rattle.spec_lang.specs.Specification.{Specification}
use Rattle.command_line.specs.Commands.{IsForClap}
use Rattle.word_base.specs.declared.kind_name.KindName.{KindName}
use Rattle.multiplier.specs.declared.size.TheConstants.{LEAST_SIZE, MOST_SIZE}
use Rattle.bench_reader.specs.declared.fault.BenchError.{BenchError}
use Rattle.bench_reader.specs.declared.fault.BenchError.TheVariants as bench
use Rattle.outside.specs.Count.{raised}
use Rattle.outside.specs.Sink.{AppendsPrefix}
use Rattle.outside.specs.Shelf.{IsLonger}
use Rattle.outside.specs.declared.shelf.FetchError.{FetchError}
use Rattle.outside.specs.declared.shelf.FetchError.TheVariants as fetch
use Rattle.report.specs.declared.refusal.Refusal.{Refusal}
use Rattle.report.specs.declared.refusal.Refusal.TheVariants as refusal
use Rattle.check_run.specs.declared.status.Status.{Status}
use Rattle.check_run.specs.declared.status.Status.TheVariants.{WriteFault}
use Rattle.check_run.specs.declared.stop.Stop.{Stop}
use Rattle.check_run.specs.declared.stop.Stop.TheVariants as stop
use Rattle.texts.specs.declared.limits.TheConstants.{MOST_BYTES}
use Rattle.check_run.specs.Outside.{ShelfSeen, SinkSeen}
use Rattle.check_run.specs.Reading.{FailsIn, FailsToRead, IsRefused, IsTaken, IsUnread, RefusesIn, TakesTexts, WantsIn, WantsMemory}
use Rattle.check_run.specs.Sources.{MayBeThere, PlainSource, Told, in_files, made}
use Rattle.check_run.specs.Words.{PlainAsked, asked_of, plain_asked}
use Rattle.check_run.specs.declared.asked.Asked as declared
use Rattle.kind_laws.specs.Plain.{answered}

-- why a file stops a run that was not fetched; one that is too long is refused so
abbrev pub stop_of_fetch : Refusal → FetchError → Stop
stop_of_fetch too_long fetch.Failed = stop.ReadFault
stop_of_fetch too_long fetch.TooLong = stop.Refused too_long
stop_of_fetch too_long fetch.Memory = stop.Memory

-- the text is too long, and the refusal says so
abbrev pub IsTooLong : Told → Refusal → Refusal → Type 0
IsTooLong text too_long refusal = (refusal ≡ too_long) × IsLonger text MOST_BYTES

-- why a netlist stops a run that was not read
abbrev pub stop_of_netlist : BenchError → Stop
stop_of_netlist (bench.Fault fault) = stop.Refused (refusal.Netlist fault)
stop_of_netlist bench.Memory = stop.Memory

-- why a specification stops a run that was not read
abbrev pub stop_of_spec : SpecError → Stop
stop_of_spec (spec.Fault fault) = stop.Refused (refusal.Spec fault)
stop_of_spec spec.Memory = stop.Memory

-- The words that stop a run
abbrev pub StopsAtWords : List (List ℕ) → Stop → Type 0
StopsAtWords words (stop.Refused r) = asked_of words ≡ Err r
StopsAtWords words stop.ReadFault = ⊥
StopsAtWords words stop.Memory = IsForClap words

-- a multiplier has a size that can be made
abbrev pub HasSize : PlainSource → Type 0
HasSize (in_files netlist spec) = Unit {0}
HasSize (made size) = (LEAST_SIZE ≤ size) × (size ≤ MOST_SIZE)

-- The text was asked for: it says what is answered, or it is refused, or it was not read, or memory was wanting
abbrev pub ComesTo : {X : Type 0} → (X → Type 0) → (Refusal → Type 0) → ShelfSeen → ShelfSeen → Told → Result X Stop → Type 0
ComesTo Says Refuses old new text (Ok x) = Says x × (new.faults ≡ old.faults)
ComesTo Says Refuses old new text (Err (stop.Refused r)) = Refuses r × (new.faults ≡ old.faults)
ComesTo Says Refuses old new text (Err stop.ReadFault) = IsUnread old new text
ComesTo Says Refuses old new text (Err stop.Memory) = MayBeThere text × (new.faults ≡ old.faults)

-- the same of a text that no shelf is asked for, and that is always there
abbrev pub Gives : {X : Type 0} → (X → Type 0) → (Refusal → Type 0) → Result X Stop → Type 0
Gives Says Refuses (Ok x) = Says x
Gives Says Refuses (Err (stop.Refused r)) = Refuses r
Gives Says Refuses (Err stop.ReadFault) = ⊥
Gives Says Refuses (Err stop.Memory) = Unit {0}

-- both texts of a source, for a kind
abbrev pub LoadsTexts : KindName → PlainSource → ShelfSeen → ShelfSeen → Result (Circuit × Specification) Stop → Type 0
LoadsTexts k source old new (Ok both) = TakesTexts k source old new both.0 both.1 × (new.faults ≡ old.faults)
LoadsTexts k source old new (Err (stop.Refused r)) = RefusesIn r k source old new × (new.faults ≡ old.faults)
LoadsTexts k source old new (Err stop.ReadFault) = FailsIn source old new
LoadsTexts k source old new (Err stop.Memory) = WantsIn source old new × (new.faults ≡ old.faults)

abbrev pub loaded : Result (declared.Asked × Circuit × Specification) Stop → Result (PlainAsked × Circuit × Specification) Stop
loaded = answered (λ all. (plain_asked all.0, all.1, all.2))

-- what the words ask for, and both texts
abbrev pub Loads : List (List ℕ) → ShelfSeen → ShelfSeen → Result (PlainAsked × Circuit × Specification) Stop → Type 0
Loads words old new (Ok all) = IsTaken words old new all.0 all.1 all.2 × (new.faults ≡ old.faults)
Loads words old new (Err (stop.Refused r)) = IsRefused words old new r × (new.faults ≡ old.faults)
Loads words old new (Err stop.ReadFault) = FailsToRead words old new
Loads words old new (Err stop.Memory) = WantsMemory words old new × (new.faults ≡ old.faults)

-- The text was put out, and its status is answered; or a part of it was, and the sink met a fault
abbrev pub PutsText : SinkSeen → SinkSeen → List ℕ → Status → Status → Type 0
PutsText old new text status answered =
    (answered ≡ status) × Appends old.written new.written text × (new.faults ≡ old.faults)
    ⊎ (answered ≡ WriteFault) × AppendsPrefix old.written new.written text × (new.faults ≡ raised old.faults)
