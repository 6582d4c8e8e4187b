-- What a run does, from what it loaded, wrote and answers.
use Rattle.std.proofs.Common.{◌≡◌, refl, sym, ◌∙◌, ap, subst, ℕ, ◌≤◌, Bool, true, false, if◌then◌else◌, List, [], ◌∷◌, length, arith, inl, inr, le_refl}
use Rattle.std.specs.Prelude.{◌⊎◌, Option, Some, None, Result, Ok, Err, IfOk, OnErr, slice_get}
use Rattle.std.specs.List.{list_any}
use Rattle.std.specs.declared.alloc.AllocError.{AllocError}
use Rattle.std.specs.Io.KnownBytes.{Appends}
use Rattle.std.proofs.lemmas.Option.{same_Some}
use Rattle.circuits.specs.Circuit.{Circuit}
use Rattle.bench_reader.specs.Reading as bench
use Rattle.command_line.specs.Commands.{IsForClap}
use Rattle.spec_lang.specs.Specification.{Check, Specification}
use Rattle.spec_grammar.specs.Reading as grammar
use Rattle.settings.specs.declared.command.Settings.{Settings}
use Rattle.word_base.specs.declared.kind_name.KindName.{KindName}
use Rattle.checks.specs.Answer.{answer}
use Rattle.checks.specs.declared.verdict.Verdict.{Verdict}
use Rattle.checks.specs.declared.verdict.Verdict.TheVariants.{Equal, Different, Overflow, Full}
use Rattle.outside.specs.Count.{raised, Rose}
use Rattle.outside.specs.Shelf.{IsLonger, IsWhole}
use Rattle.outside.specs.Sink.{AppendsPrefix}
use Rattle.report.specs.declared.refusal.Refusal.{Refusal}
use Rattle.texts.specs.declared.limits.TheConstants.{MOST_BYTES}
use Rattle.check_run.specs.declared.status.Status.{Status}
use Rattle.check_run.specs.declared.status.Status.TheVariants.{Done, Differs, Refused, Limited, ReadFault, WriteFault, NoMemory}
use Rattle.check_run.specs.Files.{Accepts, IsText, RefusesNetlist, RefusesSpec, SaysNetlist}
use Rattle.check_run.specs.Loading.{PutsText}
use Rattle.check_run.specs.Outside.{Files, Outside, ShelfSeen}
use Rattle.check_run.specs.Reading.{FailsIn, FailsToRead, IsRefused, IsTaken, IsUnread, RefusesIn, TakesTexts, WantsIn, WantsMemory}
use Rattle.check_run.specs.Run.{AnswerAll, GivesReport, IsOutput, IsRefusalLine, IsReport, IsRun, WritesReport, is_written}
use Rattle.check_run.specs.Sources.{MayBeThere, PlainSource, Told, netlist_told, spec_told}
use Rattle.check_run.specs.Statuses.{is_different, is_limit}
use Rattle.check_run.specs.Verdicts.{AreReported, IsReported, IsVerdictOf, MeetsNoLimit}
use Rattle.check_run.specs.Words.{PlainAsked, asked_of}
use Rattle.check_run.proofs.FileLaws.{longer_is_there, text_is_there}

-- ---- texts that are there
refused_is_there : (text : Told) (r : Refusal) → RefusesNetlist text r → MayBeThere text
refused_is_there text r (inl (is, longer)) = longer_is_there text longer
refused_is_there text r (inr (bytes, fault, is, reads, says)) = text_is_there text bytes is

refused_spec_is_there : (k : KindName) (c : Circuit) (text : Told) (r : Refusal) → RefusesSpec k c text r → MayBeThere text
refused_spec_is_there k c text r (inl (is, longer)) = longer_is_there text longer
refused_spec_is_there k c text r (inr (bytes, fault, is, reads, says)) = text_is_there text bytes is

-- ---- want of memory
refused_wants_in : (k : KindName) (source : PlainSource) (old new : ShelfSeen) (r : Refusal) → RefusesIn r k source old new → WantsIn source old new
refused_wants_in k source old new r (inl (once, refuses)) = inl (once, refused_is_there (netlist_told old.files source) r refuses)
refused_wants_in k source old new r (inr (c, says, twice, refuses)) =
    inr (c, says, twice, refused_spec_is_there k c (spec_told old.files source) r refuses)

refused_wants : (words : List (List ℕ)) (old new : ShelfSeen) (r : Refusal) → IsRefused words old new r → WantsMemory words old new
refused_wants words old new r (inl (is, never)) = inr (inl (r, is, never))
refused_wants words old new r (inr (a, asks, refuses)) = inr (inr (a, asks, refused_wants_in a.settings.kind a.source old new r refuses))

taken_wants : (words : List (List ℕ)) (old new : ShelfSeen) (a : PlainAsked) (c : Circuit) (s : Specification) → IsTaken words old new a c s → WantsMemory words old new
taken_wants words old new a c s taken =
    let (bytes, is, reads) = taken.texts.spec in
    inr (inr (a, taken.asks, inr (c, taken.texts.netlist, taken.texts.fetches, text_is_there (spec_told old.files a.source) bytes is)))

output_wants : (words : List (List ℕ)) (old new : ShelfSeen) (text : List ℕ) (status : Status) → IsOutput words old new text status → WantsMemory words old new
output_wants words old new text status (inl (r, refused, line)) = refused_wants words old new r refused
output_wants words old new text status (inr (a, c, s, verdicts, taken, reported, report)) = taken_wants words old new a c s taken

-- words ask for one thing
same_asked : (words : List (List ℕ)) (a b : PlainAsked) → asked_of words ≡ Ok a → asked_of words ≡ Ok b → b ≡ a
same_asked words a b is other = let both : Ok b ≡ Ok a = sym other ∙ is in cc

not_absent_in : (source : PlainSource) (old new : ShelfSeen) → WantsIn source old new → MayBeThere (netlist_told old.files source)
not_absent_in source old new (inl (once, there)) = there
not_absent_in source old new (inr (c, (bytes, is, reads), twice, there)) = text_is_there (netlist_told old.files source) bytes is

-- where the netlist's text is absent, memory can want at the words alone
only_at_words : (words : List (List ℕ)) (old new : ShelfSeen) (a : PlainAsked) → WantsMemory words old new → asked_of words ≡ Ok a →
    netlist_told old.files a.source ≡ Some None → IsForClap words
only_at_words words old new a (inl (for_clap, never)) asks lacks = for_clap
only_at_words words old new a (inr (inl (refusal, is, never))) asks lacks = absurd (let both : Ok a ≡ Err refusal = sym asks ∙ is in cc)
only_at_words words old new a (inr (inr (b, other, wants))) asks lacks =
    absurd (not_absent_in a.source old new (subst (λ (x : PlainAsked). WantsIn x.source old new) (same_asked words a b asks other) wants) lacks)

present_refused : (words : List (List ℕ)) (old new : ShelfSeen) (a : PlainAsked) (r : Refusal) → IsRefused words old new r → asked_of words ≡ Ok a →
    MayBeThere (netlist_told old.files a.source)
present_refused words old new a r (inl (is, never)) asks = absurd (let both : Ok a ≡ Err r = sym asks ∙ is in cc)
present_refused words old new a r (inr (b, other, refuses)) asks =
    not_absent_in a.source old new (subst (λ (x : PlainAsked). WantsIn x.source old new) (same_asked words a b asks other) (refused_wants_in b.settings.kind b.source old new r refuses))

-- where something was written, the netlist's text was not absent
present : (words : List (List ℕ)) (old new : ShelfSeen) (a : PlainAsked) (text : List ℕ) (status : Status) → IsOutput words old new text status → asked_of words ≡ Ok a →
    MayBeThere (netlist_told old.files a.source)
present words old new a text status (inl (r, refused, line)) asks = present_refused words old new a r refused asks
present words old new a text status (inr (b, c, s, verdicts, taken, reported, report)) asks =
    let (bytes, is, reads) = taken.texts.netlist in
    subst (λ (x : PlainAsked). MayBeThere (netlist_told old.files x.source)) (same_asked words a b asks taken.asks)
    (text_is_there (netlist_told old.files b.source) bytes is)

-- ---- what is taken is not refused
same_circuit : (text other : List ℕ) (c d : Circuit) → bench.reading text ≡ Ok c → bench.reading other ≡ Ok d → other ≡ text → d ≡ c
same_circuit text other c d reads says is = let both : bench.reading text ≡ Ok d = ap bench.reading (sym is) ∙ says in cc

-- a told text is the only one
only_text : (text : Told) (bytes other : List ℕ) → text ≡ Some (Some bytes) → IsText text other → other ≡ bytes
only_text text bytes other holds is = subst (λ (o : Told). IsWhole o other) holds is.whole

not_longer : (text : Told) (bytes : List ℕ) → text ≡ Some (Some bytes) → length bytes ≤ MOST_BYTES → IsLonger text MOST_BYTES → ⊥
not_longer text bytes holds within longer =
    let more = subst (λ (o : Told). IsLonger o MOST_BYTES) holds longer in omega (arith, more, within)

accepted_netlist : (words : List (List ℕ)) (files : Files) (a : PlainAsked) (c d : Circuit) (s : Specification) → Accepts words files a c s →
    SaysNetlist (netlist_told files a.source) d → d ≡ c
accepted_netlist words files a c d s takes (bytes, is, reads) =
    same_circuit takes.netlist bytes c d takes.reads reads (only_text (netlist_told files a.source) takes.netlist bytes takes.netlist_is is)

accepted_spec : (words : List (List ℕ)) (files : Files) (a : PlainAsked) (c : Circuit) (s : Specification) (bytes : List ℕ) → Accepts words files a c s →
    IsText (spec_told files a.source) bytes → grammar.reading c a.settings.kind bytes ≡ Ok s
accepted_spec words files a c s bytes takes is =
    ap (grammar.reading c a.settings.kind) (only_text (spec_told files a.source) takes.spec bytes takes.spec_is is) ∙ takes.says

netlist_not_refused : (words : List (List ℕ)) (files : Files) (a : PlainAsked) (c : Circuit) (s : Specification) (r : Refusal) → Accepts words files a c s →
    RefusesNetlist (netlist_told files a.source) r → ⊥
netlist_not_refused words files a c s r takes (inl (is, longer)) =
    not_longer (netlist_told files a.source) takes.netlist takes.netlist_is takes.netlist_within longer
netlist_not_refused words files a c s r takes (inr (bytes, fault, is, reads, says)) =
    let one = only_text (netlist_told files a.source) takes.netlist bytes takes.netlist_is is in
    let both : Ok c ≡ Err fault = sym takes.reads ∙ ap bench.reading (sym one) ∙ reads in absurd (cc)

spec_not_refused : (words : List (List ℕ)) (files : Files) (a : PlainAsked) (c : Circuit) (s : Specification) (r : Refusal) → Accepts words files a c s →
    RefusesSpec a.settings.kind c (spec_told files a.source) r → ⊥
spec_not_refused words files a c s r takes (inl (is, longer)) =
    not_longer (spec_told files a.source) takes.spec takes.spec_is takes.spec_within longer
spec_not_refused words files a c s r takes (inr (bytes, fault, is, reads, says)) =
    let both : Ok s ≡ Err fault = sym (accepted_spec words files a c s bytes takes is) ∙ reads in absurd (cc)

not_refused_in : (words : List (List ℕ)) (old new : ShelfSeen) (a : PlainAsked) (c : Circuit) (s : Specification) (r : Refusal) → Accepts words old.files a c s →
    RefusesIn r a.settings.kind a.source old new → ⊥
not_refused_in words old new a c s r takes (inl (once, refuses)) = netlist_not_refused words old.files a c s r takes refuses
not_refused_in words old new a c s r takes (inr (d, says, twice, refuses)) =
    let same = accepted_netlist words old.files a c d s takes says in
    spec_not_refused words old.files a c s r takes (subst (λ (x : Circuit). RefusesSpec a.settings.kind x (spec_told old.files a.source) r) same refuses)

not_refused : (words : List (List ℕ)) (old new : ShelfSeen) (a : PlainAsked) (c : Circuit) (s : Specification) (r : Refusal) → Accepts words old.files a c s →
    IsRefused words old new r → ⊥
not_refused words old new a c s r takes (inl (is, never)) = let both : Ok a ≡ Err r = sym takes.asks ∙ is in absurd (cc)
not_refused words old new a c s r takes (inr (b, other, refuses)) =
    not_refused_in words old new a c s r takes (subst (λ (x : PlainAsked). RefusesIn r x.settings.kind x.source old new) (same_asked words a b takes.asks other) refuses)

-- the specification that was loaded is the one that is taken
taken_specification : (words : List (List ℕ)) (old new : ShelfSeen) (a : PlainAsked) (c : Circuit) (s t : Specification) → Accepts words old.files a c s →
    TakesTexts a.settings.kind a.source old new c t → t ≡ s
taken_specification words old new a c s t takes taken =
    let (bytes, is, reads) = taken.spec in
    let both : Ok t ≡ Ok s = sym reads ∙ accepted_spec words old.files a c s bytes takes is in cc

-- ---- the answers
no_limit : (k : KindName) (cells : ℕ) (c : Circuit) (s : Specification) (check : Check) (verdict : Verdict) → MeetsNoLimit k cells c s check → IsVerdictOf k cells c s check verdict → verdict ≡ answer k c s check
no_limit k cells c s check (Equal nodes) free is = is
no_limit k cells c s check (Different left right at) free (_, _, is) = is
no_limit k cells c s check Overflow free is = absurd (let none = free.not_over in cc)
no_limit k cells c s check Full free is = absurd (let none = free.not_short in cc)

reported_answer : (k : KindName) (cells : ℕ) (c : Circuit) (s : Specification) (place : ℕ) (check : Check) (verdict : Verdict) → slice_get s.checks place ≡ Some check → MeetsNoLimit k cells c s check →
    IsReported k cells c s place verdict → verdict ≡ answer k c s check
reported_answer k cells c s place check verdict is free (other, there, of_other) =
    let same = same_Some other check (sym there ∙ is) in
    no_limit k cells c s check verdict free (subst (λ (x : Check). IsVerdictOf k cells c s x verdict) same of_other)

answer_all : (opts : Settings) (c : Circuit) (s : Specification) (verdicts : List Verdict) → AreReported opts.kind opts.cells c s verdicts → AnswerAll opts c s verdicts
answer_all opts c s verdicts reported = λ place check verdict is there free. reported_answer opts.kind opts.cells c s place check verdict is free (reported.each place verdict there)

-- a text of the specification that is taken is the report of its checks
accepted_report : (words : List (List ℕ)) (old new : ShelfSeen) (a : PlainAsked) (c : Circuit) (s : Specification) (text : List ℕ) (status : Status) →
    Accepts words old.files a c s → IsOutput words old new text status →
    (verdicts : List Verdict) × AreReported a.settings.kind a.settings.cells c s verdicts × IsReport a.source c s verdicts text status
accepted_report words old new a c s text status takes (inl (r, refused, line)) = absurd (not_refused words old new a c s r takes refused)
accepted_report words old new a c s text status takes (inr (b, d, t, verdicts, taken, reported, report)) =
    let asked = same_asked words a b takes.asks taken.asks in
    let texts = subst (λ (x : PlainAsked). TakesTexts x.settings.kind x.source old new d t) asked taken.texts in
    let circuit = accepted_netlist words old.files a c d s takes texts.netlist in
    let spec = taken_specification words old new a c s t takes (subst (λ (x : Circuit). TakesTexts a.settings.kind a.source old new x t) circuit texts) in (
      verdicts,
      subst (λ (x : Specification). AreReported a.settings.kind a.settings.cells c x verdicts) spec
          (subst (λ (x : Circuit). AreReported a.settings.kind a.settings.cells x t verdicts) circuit
          (subst (λ (x : PlainAsked). AreReported x.settings.kind x.settings.cells d t verdicts) asked reported)),
      subst (λ (x : Specification). IsReport a.source c x verdicts text status) spec
          (subst (λ (x : Circuit). IsReport a.source x t verdicts text status) circuit
          (subst (λ (x : PlainAsked). IsReport x.source d t verdicts text status) asked report)),
    )

-- ---- the status of a text
if_written : (limited differs : Bool) → is_written (if limited then Limited else (if differs then Differs else Done)) ≡ true
if_written true differs = refl
if_written false true = refl
if_written false false = refl

output_is_written : (words : List (List ℕ)) (old new : ShelfSeen) (text : List ℕ) (status : Status) → IsOutput words old new text status → is_written status ≡ true
output_is_written words old new text status (inl (r, refused, line)) = ap is_written line.status_is
output_is_written words old new text status (inr (a, c, s, verdicts, taken, reported, report)) =
    ap is_written report.status_is ∙ if_written (list_any is_limit verdicts) (list_any is_different verdicts)

fault_not_written : (status : Status) → is_written status ≡ true → (fault : Status) → is_written fault ≡ false → status ≡ fault → ⊥
fault_not_written status is fault not same = let both : true ≡ false = sym is ∙ ap is_written same ∙ not in cc

report_where_written : (a : PlainAsked) (c : Circuit) (s : Specification) (old new : Outside) (status : Status) → is_written status ≡ true →
    WritesReport a c s old.sink new.sink status → GivesReport a c s old new status
report_where_written a c s old new Done is writes = writes
report_where_written a c s old new Differs is writes = writes
report_where_written a c s old new Refused is writes = writes
report_where_written a c s old new Limited is writes = writes
report_where_written a c s old new ReadFault is writes = absurd (cc)
report_where_written a c s old new WriteFault is writes = absurd (cc)
report_where_written a c s old new NoMemory is writes = absurd (cc)

gives_report : (words : List (List ℕ)) (old new : Outside) (a : PlainAsked) (c : Circuit) (s : Specification) (text : List ℕ) (status : Status) →
    Accepts words old.shelf.files a c s → IsOutput words old.shelf new.shelf text status → Appends old.sink.written new.sink.written text → GivesReport a c s old new status
gives_report words old new a c s text status takes output appended =
    let (verdicts, reported, report) = accepted_report words old.shelf new.shelf a c s text status takes output in
    report_where_written a c s old new status (output_is_written words old.shelf new.shelf text status output)
    (record {
      verdicts = verdicts;
      reported = reported;
      answers = answer_all a.settings c s verdicts reported;
      text = text;
      report = report;
      appended = appended;
    })

-- ---- runs
pub text_written : (words : List (List ℕ)) (old new : Outside) (text : List ℕ) (status : Status) → new.shelf.files ≡ old.shelf.files → new.shelf.faults ≡ old.shelf.faults →
    IsOutput words old.shelf new.shelf text status → Appends old.sink.written new.sink.written text → new.sink.faults ≡ old.sink.faults → IsRun words old new status
text_written words old new text status files read output appended faults =
    let is = output_is_written words old.shelf new.shelf text status output in
    record {
      files = files;
      written = λ _. record { text = text; output = output; appended = appended };
      write_fault = λ same. absurd (fault_not_written status is WriteFault refl same);
      read_fault = λ same. absurd (fault_not_written status is ReadFault refl same);
      no_memory = λ same. absurd (fault_not_written status is NoMemory refl same);
      no_read_fault = λ _. read;
      no_write_fault = λ _. faults;
      nothing = λ either. elim either as (λ _. new.sink.written ≡ old.sink.written) [
        | inl same ↦ absurd (fault_not_written status is ReadFault refl same)
        | inr same ↦ absurd (fault_not_written status is NoMemory refl same)
      ];
      answered = λ a c s takes. gives_report words old new a c s text status takes output appended;
      absent = λ a asks lacks. absurd (present words old.shelf new.shelf a text status output asks lacks);
    }

rose_of_raised : (before now : ℕ) → now ≡ raised before → Rose before now
rose_of_raised before now is = subst (λ (n : ℕ). raised before ≤ n) (sym is) (le_refl (raised before))

text_cut : (words : List (List ℕ)) (old new : Outside) (text : List ℕ) (status : Status) → new.shelf.files ≡ old.shelf.files → new.shelf.faults ≡ old.shelf.faults →
    IsOutput words old.shelf new.shelf text status → AppendsPrefix old.sink.written new.sink.written text → new.sink.faults ≡ raised old.sink.faults →
    IsRun words old new WriteFault
text_cut words old new text status files read output appended fault =
    record {
      files = files;
      written = λ is. absurd (cc);
      write_fault = λ _. record { text = text; status = status; output = output; appended = appended; fault = fault };
      read_fault = λ is. absurd (cc);
      no_memory = λ is. absurd (cc);
      no_read_fault = λ _. read;
      no_write_fault = λ is. absurd (is refl);
      nothing = λ either. elim either as (λ _. new.sink.written ≡ old.sink.written) [ inl same ↦ absurd (cc) | inr same ↦ absurd (cc) ];
      answered = λ a c s takes. rose_of_raised old.sink.faults new.sink.faults fault;
      absent = λ a asks lacks. absurd (present words old.shelf new.shelf a text status output asks lacks);
    }

pub wanted_memory : (words : List (List ℕ)) (old new : Outside) → new.shelf.files ≡ old.shelf.files → new.shelf.faults ≡ old.shelf.faults →
    WantsMemory words old.shelf new.shelf → new.sink ≡ old.sink → IsRun words old new NoMemory
wanted_memory words old new files read wants sink =
    record {
      files = files;
      written = λ is. absurd (cc);
      write_fault = λ is. absurd (cc);
      read_fault = λ is. absurd (cc);
      no_memory = λ _. wants;
      no_read_fault = λ _. read;
      no_write_fault = λ _. ap (λ s. s.faults) sink;
      nothing = λ _. ap (λ s. s.written) sink;
      answered = λ a c s takes. tt;
      absent = λ a asks lacks. inr (refl, only_at_words words old.shelf new.shelf a wants asks lacks);
    }

unread_rose : (old new : ShelfSeen) (text : Told) (bytes : List ℕ) → text ≡ Some (Some bytes) → IsUnread old new text → Rose old.faults new.faults
unread_rose old new text bytes holds (inl is) = rose_of_raised old.faults new.faults is
unread_rose old new text bytes holds (inr (lacks, same)) = absurd (let both : Some (Some bytes) ≡ Some None = sym holds ∙ lacks in cc)

-- where both files are there, the fault was counted
fault_counted_in : (words : List (List ℕ)) (old new : ShelfSeen) (a : PlainAsked) (c : Circuit) (s : Specification) → Accepts words old.files a c s →
    FailsIn a.source old new → Rose old.faults new.faults
fault_counted_in words old new a c s takes (in_files, inl (once, unread)) =
    unread_rose old new (netlist_told old.files a.source) takes.netlist takes.netlist_is unread
fault_counted_in words old new a c s takes (in_files, inr (d, says, twice, unread)) =
    unread_rose old new (spec_told old.files a.source) takes.spec takes.spec_is unread

fault_counted : (words : List (List ℕ)) (old new : ShelfSeen) (a : PlainAsked) (c : Circuit) (s : Specification) → Accepts words old.files a c s →
    FailsToRead words old new → Rose old.faults new.faults
fault_counted words old new a c s takes (b, other, fails) =
    fault_counted_in words old new a c s takes (subst (λ (x : PlainAsked). FailsIn x.source old new) (same_asked words a b takes.asks other) fails)

pub failed_to_read : (words : List (List ℕ)) (old new : Outside) → new.shelf.files ≡ old.shelf.files → FailsToRead words old.shelf new.shelf →
    new.sink ≡ old.sink → IsRun words old new ReadFault
failed_to_read words old new files fails sink =
    record {
      files = files;
      written = λ is. absurd (cc);
      write_fault = λ is. absurd (cc);
      read_fault = λ _. fails;
      no_memory = λ is. absurd (cc);
      no_read_fault = λ is. absurd (is refl);
      no_write_fault = λ _. ap (λ s. s.faults) sink;
      nothing = λ _. ap (λ s. s.written) sink;
      answered = λ a c s takes. fault_counted words old.shelf new.shelf a c s takes fails;
      absent = λ a asks lacks. inl refl;
    }

-- ---- a text that was put out, or was not made
text_put : (words : List (List ℕ)) (old new : Outside) (text : List ℕ) (status answered : Status) → new.shelf.files ≡ old.shelf.files → new.shelf.faults ≡ old.shelf.faults →
    IsOutput words old.shelf new.shelf text status → PutsText old.sink new.sink text status answered → IsRun words old new answered
text_put words old new text status answered files read output (inl (is, appended, faults)) =
    subst (λ (s : Status). IsRun words old new s) (sym is) (text_written words old new text status files read output appended faults)
text_put words old new text status answered files read output (inr (is, appended, fault)) =
    subst (λ (s : Status). IsRun words old new s) (sym is) (text_cut words old new text status files read output appended fault)

pub refusal_run : {X : Type 0} (text_of : X → List ℕ) (status_of : X → Status) (words : List (List ℕ)) (old new : Outside) (r : Refusal) (made : Result X AllocError) (answered : Status) →
    new.shelf.files ≡ old.shelf.files → new.shelf.faults ≡ old.shelf.faults → IsRefused words old.shelf new.shelf r →
    IfOk made (λ o. IsRefusalLine r (text_of o) (status_of o)) →
    IfOk made (λ o. PutsText old.sink new.sink (text_of o) (status_of o) answered) →
    OnErr made (answered ≡ NoMemory) → OnErr made (new.sink ≡ old.sink) → IsRun words old new answered
refusal_run text_of status_of words old new r (Ok o) answered files read refused line puts none nothing =
    text_put words old new (text_of o) (status_of o) answered files read (inl (r, refused, line)) puts
refusal_run text_of status_of words old new r (Err e) answered files read refused line puts none nothing =
    subst (λ (s : Status). IsRun words old new s) (sym none)
    (wanted_memory words old new files read (refused_wants words old.shelf new.shelf r refused) nothing)

pub check_run : {X : Type 0} (text_of : X → List ℕ) (status_of : X → Status) (words : List (List ℕ)) (old new : Outside) (a : PlainAsked) (c : Circuit) (s : Specification) (made : Result X AllocError) (answered : Status) →
    new.shelf.files ≡ old.shelf.files → new.shelf.faults ≡ old.shelf.faults → IsTaken words old.shelf new.shelf a c s →
    IfOk made (λ o. (verdicts : List Verdict) × AreReported a.settings.kind a.settings.cells c s verdicts × IsReport a.source c s verdicts (text_of o) (status_of o)) →
    IfOk made (λ o. PutsText old.sink new.sink (text_of o) (status_of o) answered) →
    OnErr made (answered ≡ NoMemory) → OnErr made (new.sink ≡ old.sink) → IsRun words old new answered
check_run text_of status_of words old new a c s (Ok o) answered files read taken (verdicts, reported, report) puts none nothing =
    text_put words old new (text_of o) (status_of o) answered files read (inr (a, c, s, verdicts, taken, reported, report)) puts
check_run text_of status_of words old new a c s (Err e) answered files read taken line puts none nothing =
    subst (λ (x : Status). IsRun words old new x) (sym none)
    (wanted_memory words old new files read (taken_wants words old.shelf new.shelf a c s taken) nothing)
