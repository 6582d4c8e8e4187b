-- How a run takes its words and its texts. It takes the words first, and then asks the shelf for the netlist's file, and
-- for the specification's where the netlist is taken: for each once. A multiplier's texts are made, and no file is asked for.
use Rattle.std.specs.Prelude.{◌≡◌, ◌⊎◌, ℕ, List, [], ◌∷◌, codes, Some, None, Ok, Err, refl}
use Rattle.std.proofs.Common.{inl, inr, lit≤}
use Rattle.circuits.specs.Circuit.{Circuit}
use Rattle.circuits.specs.Examples.{half}
use Rattle.bench_reader.specs.Faults.{fault}
use Rattle.bench_reader.specs.declared.fault.BenchCause.TheVariants.{Cycle}
use Rattle.spec_lang.specs.Specification.{Specification, half_adder}
use Rattle.command_line.specs.Commands.{IsForClap}
use Rattle.word_base.specs.declared.kind_name.KindName.{KindName}
use Rattle.outside.specs.Count.{raised}
use Rattle.report.specs.declared.refusal.Refusal.{Refusal}
use Rattle.report.specs.declared.refusal.Refusal.TheVariants.{Usage, Netlist}
use Rattle.check_run.specs.Files.{SaysNetlist, SaysSpec, RefusesNetlist, RefusesSpec, half_spec, half_text, two_files}
use Rattle.check_run.specs.Outside.{Files, ShelfSeen}
use Rattle.check_run.specs.Sources.{IsInFiles, MayBeThere, PlainSource, Told, asked_more, netlist_told, spec_told}
use Rattle.check_run.specs.Words.{PlainAsked, asked_of, check_n_s, n_and_s_by_hdd}

-- Where a run stops once its words are taken, and what holds there: at the netlist's text; or at the specification's, over the
-- circuit that the netlist says
abbrev pub StopsIn : PlainSource → ShelfSeen → ShelfSeen → (Told → Type 0) → (Circuit → Told → Type 0) → Type 0
StopsIn source old new AtNetlist AtSpec =
    (new.fetches ≡ asked_more source old.fetches) × AtNetlist (netlist_told old.files source)
    ⊎ ((c : Circuit) × SaysNetlist (netlist_told old.files source) c × (new.fetches ≡ asked_more source (asked_more source old.fetches))
    × AtSpec c (spec_told old.files source))

-- a text is refused so
abbrev pub RefusesIn : Refusal → KindName → PlainSource → ShelfSeen → ShelfSeen → Type 0
RefusesIn refusal k source old new =
    StopsIn source old new (λ text. RefusesNetlist text refusal) (λ c text. RefusesSpec k c text refusal)

-- the file was not read: a fault was counted, or the shelf tells its files and has none of this name
abbrev pub IsUnread : ShelfSeen → ShelfSeen → Told → Type 0
IsUnread old new text = (new.faults ≡ raised old.faults) ⊎ ((text ≡ Some None) × (new.faults ≡ old.faults))

-- a file could not be read
abbrev pub FailsIn : PlainSource → ShelfSeen → ShelfSeen → Type 0
FailsIn source old new = IsInFiles source × StopsIn source old new (IsUnread old new) (λ c text. IsUnread old new text)

-- memory was wanting. A text that is told to be absent is not asked for in vain
abbrev pub WantsIn : PlainSource → ShelfSeen → ShelfSeen → Type 0
WantsIn source old new = StopsIn source old new MayBeThere (λ c text. MayBeThere text)

-- both texts are taken
pub record TakesTexts (k : KindName) (source : PlainSource) (old new : ShelfSeen) (c : Circuit) (s : Specification) : Type 0 where
  pub netlist : SaysNetlist (netlist_told old.files source) c
  pub spec : SaysSpec k c (spec_told old.files source) s
  pub fetches : new.fetches ≡ asked_more source (asked_more source old.fetches)

-- where the words are refused, the shelf is not asked
abbrev pub IsAtWords : ShelfSeen → ShelfSeen → Type 0
IsAtWords old new = new.fetches ≡ old.fetches

-- a run stops since the words or a text are refused
abbrev pub IsRefused : List (List ℕ) → ShelfSeen → ShelfSeen → Refusal → Type 0
IsRefused words old new refusal =
    (asked_of words ≡ Err refusal) × IsAtWords old new
    ⊎ ((a : PlainAsked) × (asked_of words ≡ Ok a) × RefusesIn refusal a.settings.kind a.source old new)

-- it stops since a file could not be read
abbrev pub FailsToRead : List (List ℕ) → ShelfSeen → ShelfSeen → Type 0
FailsToRead words old new = (a : PlainAsked) × (asked_of words ≡ Ok a) × FailsIn a.source old new

-- It stops, or could not go on, for want of memory: at words that are not in plain form, with the refusal of words, or after that
abbrev pub WantsMemory : List (List ℕ) → ShelfSeen → ShelfSeen → Type 0
WantsMemory words old new =
    IsForClap words × IsAtWords old new
    ⊎ (((refusal : Refusal) × (asked_of words ≡ Err refusal) × IsAtWords old new)
    ⊎ ((a : PlainAsked) × (asked_of words ≡ Ok a) × WantsIn a.source old new))

-- it does not stop: the words ask for this, and both texts are taken
pub record IsTaken (words : List (List ℕ)) (old new : ShelfSeen) (a : PlainAsked) (c : Circuit) (s : Specification) : Type 0 where
  pub asks : asked_of words ≡ Ok a
  pub texts : TakesTexts a.settings.kind a.source old new c s

-- another word, at any shelf
another_word : (shelf : ShelfSeen) → IsRefused (codes "prove" ∷ []) shelf shelf Usage
another_word shelf = inl (refl, refl)

-- a shelf that was asked so often, and met three faults
abbrev asked : Files → ℕ → ShelfSeen
asked files fetches = record { files = files; fetches = fetches; faults = 3 }

-- the netlist is refused, though there is no specification
abbrev looped_text : List ℕ
looped_text = codes "INPUT(a)\nx = AND(x, a)\n"

abbrev looped : Files
looped = two_files looped_text None

looped-is_refused : IsRefused check_n_s (asked looped 7) (asked looped 8) (Netlist (fault 2 Cycle))
looped-is_refused =
    inr (n_and_s_by_hdd, refl, inl (refl, inr (looped_text, fault 2 Cycle, record { whole = refl; within = lit≤ tt }, refl, refl)))

-- a netlist's file that is not there
no_netlist : FailsToRead check_n_s (asked (Some (λ name. None)) 7) (asked (Some (λ name. None)) 8)
no_netlist = (n_and_s_by_hdd, refl, (tt, inl (refl, inr (refl, refl))))

-- a specification's, which is asked for where the netlist is taken
no_spec : FailsToRead check_n_s (asked (two_files half_text None) 7) (asked (two_files half_text None) 9)
no_spec = (
  n_and_s_by_hdd,
  refl,
  (tt, inr (half, (half_text, record { whole = refl; within = lit≤ tt }, refl), refl, inr (refl, refl))),
)

half-is_taken : IsTaken check_n_s (asked (two_files half_text (Some half_spec)) 0) (asked (two_files half_text (Some half_spec)) 2) n_and_s_by_hdd half half_adder
half-is_taken = record {
  asks = refl;
  texts = record {
    netlist = (half_text, record { whole = refl; within = lit≤ tt }, refl);
    spec = (half_spec, record { whole = refl; within = lit≤ tt }, refl);
    fetches = refl;
  };
}
