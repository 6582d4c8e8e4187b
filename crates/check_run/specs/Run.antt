-- What a run does.
use Rattle.std.specs.Prelude.{◌≡◌, ◌⊎◌, ℕ, Bool, true, false, List, [], ◌∷◌, ◌++◌, map, slice_get, Some, None, Ok, IsTrue}
use Rattle.std.specs.Io.KnownBytes.{Appends}
use Rattle.circuits.specs.Circuit.{Circuit, name_of}
use Rattle.spec_lang.specs.Specification.{Check, Specification}
use Rattle.checks.specs.Answer.{answer}
use Rattle.checks.specs.declared.verdict.Verdict.{Verdict}
use Rattle.outside.specs.Count.{raised, Rose}
use Rattle.settings.specs.declared.command.Settings.{Settings}
use Rattle.command_line.specs.Commands.{IsForClap}
use Rattle.outside.specs.Sink.{AppendsPrefix}
use Rattle.report.specs.Lines as lines
use Rattle.report.specs.Refusals.{refusal_text}
use Rattle.report.specs.declared.refusal.Refusal.{Refusal}
use Rattle.check_run.specs.declared.status.Status.{Status}
use Rattle.check_run.specs.declared.status.Status.TheVariants.{Refused, ReadFault, WriteFault, NoMemory}
use Rattle.check_run.specs.Files.{Accepts}
use Rattle.check_run.specs.Outside.{Outside, ShelfSeen, SinkSeen}
use Rattle.check_run.specs.Reading.{FailsToRead, IsRefused, IsTaken, WantsMemory}
use Rattle.check_run.specs.Statuses.{status_of}
use Rattle.check_run.specs.Verdicts.{AreReported, MeetsNoLimit}
use Rattle.check_run.specs.Sources.{PlainSource, heading, netlist_told}
use Rattle.check_run.specs.Words.{PlainAsked, asked_of}

-- the line of a refusal, and its status
pub record IsRefusalLine (refusal : Refusal) (text : List ℕ) (status : Status) : Type 0 where
  pub text_is : text ≡ refusal_text refusal ++ 10 ∷ []
  pub status_is : status ≡ Refused

-- the lines of all checks, with these verdicts, behind the heading of where they come from, and their status
pub record IsReport (source : PlainSource) (c : Circuit) (s : Specification) (verdicts : List Verdict) (text : List ℕ) (status : Status) : Type 0 where
  pub text_is : text ≡ heading source c ++ lines.report (map (name_of c) s.order) verdicts
  pub status_is : status ≡ status_of verdicts

-- The text that a run has to write, and the status that goes with it: the words or a text are refused, or both texts are
-- taken and each check's verdict has its cause
abbrev pub IsOutput : List (List ℕ) → ShelfSeen → ShelfSeen → List ℕ → Status → Type 0
IsOutput words old new text status =
    ((refusal : Refusal) × IsRefused words old new refusal × IsRefusalLine refusal text status)
    ⊎ ((a : PlainAsked) × (c : Circuit) × (s : Specification) × (verdicts : List Verdict)
    × IsTaken words old new a c s × AreReported a.settings.kind a.settings.cells c s verdicts × IsReport a.source c s verdicts text status)

-- the text was written whole
pub record WritesAll (words : List (List ℕ)) (old new : Outside) (status : Status) : Type 0 where
  pub text : List ℕ
  pub output : IsOutput words old.shelf new.shelf text status
  pub appended : Appends old.sink.written new.sink.written text

-- a part of the text, from its beginning, was written, and a fault of the sink was counted
pub record WritesPart (words : List (List ℕ)) (old new : Outside) : Type 0 where
  pub text : List ℕ
  pub status : Status
  pub output : IsOutput words old.shelf new.shelf text status
  pub appended : AppendsPrefix old.sink.written new.sink.written text
  pub fault : new.sink.faults ≡ raised old.sink.faults

-- the verdict of each check in which no limit has its cause is its answer
abbrev pub AnswerAll : Settings → Circuit → Specification → List Verdict → Type 0
AnswerAll x c s verdicts = (place : ℕ) (check : Check) (verdict : Verdict) → slice_get s.checks place ≡ Some check →
    slice_get verdicts place ≡ Some verdict → MeetsNoLimit x.kind x.cells c s check → verdict ≡ answer x.kind c s check

-- a line was written for each check: its answer, or the limit that has its cause in it
pub record WritesReport (a : PlainAsked) (c : Circuit) (s : Specification) (old new : SinkSeen) (status : Status) : Type 0 where
  pub verdicts : List Verdict
  pub reported : AreReported a.settings.kind a.settings.cells c s verdicts
  pub answers : AnswerAll a.settings c s verdicts
  pub text : List ℕ
  pub report : IsReport a.source c s verdicts text status
  pub appended : Appends old.written new.written text

-- the report was written, or a fault was counted, or memory was wanting
abbrev pub GivesReport : PlainAsked → Circuit → Specification → Outside → Outside → Status → Type 0
GivesReport a c s old new ReadFault = Rose old.shelf.faults new.shelf.faults
GivesReport a c s old new WriteFault = Rose old.sink.faults new.sink.faults
GivesReport a c s old new NoMemory = Unit {0}
GivesReport a c s old new status = WritesReport a c s old.sink new.sink status

-- a text was written whole
abbrev pub is_written : Status → Bool
is_written ReadFault = false
is_written WriteFault = false
is_written NoMemory = false
is_written status = true

-- A run of these words, from the outside as it was to the outside as it is, with the status that it answers
pub record IsRun (words : List (List ℕ)) (old new : Outside) (status : Status) : Type 0 where
  -- the files stay
  pub files : new.shelf.files ≡ old.shelf.files
  -- what happened, at each status
  pub written : IsTrue (is_written status) → WritesAll words old new status
  pub write_fault : status ≡ WriteFault → WritesPart words old new
  pub read_fault : status ≡ ReadFault → FailsToRead words old.shelf new.shelf
  pub no_memory : status ≡ NoMemory → WantsMemory words old.shelf new.shelf
  -- no other fault is counted, and else nothing is written
  pub no_read_fault : (status ≡ ReadFault → ⊥) → new.shelf.faults ≡ old.shelf.faults
  pub no_write_fault : (status ≡ WriteFault → ⊥) → new.sink.faults ≡ old.sink.faults
  pub nothing : (status ≡ ReadFault) ⊎ (status ≡ NoMemory) → new.sink.written ≡ old.sink.written
  -- where both texts are taken, all checks are answered
  pub answered : (a : PlainAsked) (c : Circuit) (s : Specification) → Accepts words old.shelf.files a c s → GivesReport a c s old new status
  -- A netlist's file that is told to be absent is a fault of reading, unless words that are not in plain form wanted memory
  pub absent : (a : PlainAsked) → asked_of words ≡ Ok a → netlist_told old.shelf.files a.source ≡ Some None →
      (status ≡ ReadFault) ⊎ ((status ≡ NoMemory) × IsForClap words)
