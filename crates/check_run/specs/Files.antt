-- What the two texts say, and why one is refused.
use Rattle.std.specs.Prelude.{◌≡◌, ◌⊎◌, ℕ, ◌≤◌, List, length, codes, Option, Some, None, Ok, Err, if◌then◌else◌, refl}
use Rattle.std.specs.Str.{bytes_eq}
use Rattle.std.proofs.Common.{inr, lit≤}
use Rattle.circuits.specs.Circuit.{Circuit}
use Rattle.circuits.specs.Examples.{half}
use Rattle.bench_reader.specs.Faults as netlist_faults
use Rattle.bench_reader.specs.declared.fault.BenchCause.TheVariants.{Cycle}
use Rattle.bench_reader.specs.Reading as bench
use Rattle.bench_reader.specs.declared.fault.BenchFault.{BenchFault}
use Rattle.spec_grammar.specs.Reading as grammar
use Rattle.spec_grammar.specs.Faults.{fault}
use Rattle.spec_grammar.specs.declared.fault.SpecCause.TheVariants.{UnknownWord}
use Rattle.spec_grammar.specs.declared.fault.SpecFault.{SpecFault}
use Rattle.spec_lang.specs.Specification.{Specification, half_adder}
use Rattle.word_base.specs.declared.kind_name.KindName.{KindName}
use Rattle.word_base.specs.declared.kind_name.KindName.TheVariants.{Hdd}
use Rattle.outside.specs.Shelf.{IsLonger, IsWhole}
use Rattle.report.specs.declared.refusal.Refusal.{Refusal}
use Rattle.report.specs.declared.refusal.Refusal.TheVariants.{NetlistTooLong, Netlist, SpecTooLong, Spec}
use Rattle.texts.specs.declared.limits.TheConstants.{MOST_BYTES}
use Rattle.check_run.specs.Outside.{Files}
use Rattle.check_run.specs.Sources.{Told, netlist_told, spec_told}
use Rattle.check_run.specs.Words.{PlainAsked, asked_of, check_n_s, n_and_s_by_hdd}

-- these bytes are the text, where it is told, and they are not too many
pub record IsText (text : Told) (bytes : List ℕ) : Type 0 where
  pub whole : IsWhole text bytes
  pub within : length bytes ≤ MOST_BYTES

-- the text says this circuit
abbrev pub SaysNetlist : Told → Circuit → Type 0
SaysNetlist text c = (bytes : List ℕ) × IsText text bytes × (bench.reading bytes ≡ Ok c)

-- the text says this specification over the circuit
abbrev pub SaysSpec : KindName → Circuit → Told → Specification → Type 0
SaysSpec k c text s = (bytes : List ℕ) × IsText text bytes × (grammar.reading c k bytes ≡ Ok s)

-- the netlist's text is refused: it is too long, or has a fault
abbrev pub RefusesNetlist : Told → Refusal → Type 0
RefusesNetlist text refusal =
    (refusal ≡ NetlistTooLong) × IsLonger text MOST_BYTES
    ⊎ ((bytes : List ℕ) × (f : BenchFault) × IsText text bytes × (bench.reading bytes ≡ Err f) × (refusal ≡ Netlist f))

-- the specification's text is refused over the circuit: it is too long, or has a fault
abbrev pub RefusesSpec : KindName → Circuit → Told → Refusal → Type 0
RefusesSpec k c text refusal =
    (refusal ≡ SpecTooLong) × IsLonger text MOST_BYTES
    ⊎ ((bytes : List ℕ) × (f : SpecFault) × IsText text bytes × (grammar.reading c k bytes ≡ Err f) × (refusal ≡ Spec f))

-- The words ask for this, both texts are told, and both are taken: the netlist reads as the circuit, and the specification's
-- text says the specification
pub record Accepts (words : List (List ℕ)) (files : Files) (a : PlainAsked) (c : Circuit) (s : Specification) : Type 0 where
  pub asks : asked_of words ≡ Ok a
  pub netlist : List ℕ
  pub netlist_is : netlist_told files a.source ≡ Some (Some netlist)
  pub netlist_within : length netlist ≤ MOST_BYTES
  pub reads : bench.reading netlist ≡ Ok c
  pub spec : List ℕ
  pub spec_is : spec_told files a.source ≡ Some (Some spec)
  pub spec_within : length spec ≤ MOST_BYTES
  pub says : grammar.reading c a.settings.kind spec ≡ Ok s

-- the half adder's two files
abbrev pub half_text : List ℕ
half_text = codes "INPUT(a)\nINPUT(b)\nOUTPUT(s)\nOUTPUT(c)\ns = XOR(a, b)\nc = AND(a, b)\n"

abbrev pub half_spec : List ℕ
half_spec = codes "word a = a\nword b = b\nword s = s\nword c = c\ncheck s + 2*c == a + b\n"

-- a shelf that tells a file "n", and one "s" where there is one
abbrev pub two_files : List ℕ → Option (List ℕ) → Files
two_files netlist spec =
    Some (λ name. if bytes_eq name (codes "n") then Some netlist else (if bytes_eq name (codes "s") then spec else None))

half-netlist : SaysNetlist (Some (Some half_text)) half
half-netlist = (half_text, record { whole = refl; within = lit≤ tt }, refl)

looped-refused : RefusesNetlist (Some (Some (codes "INPUT(a)\nx = AND(x, a)\n"))) (Netlist (netlist_faults.fault 2 Cycle))
looped-refused = inr (codes "INPUT(a)\nx = AND(x, a)\n", netlist_faults.fault 2 Cycle, record { whole = refl; within = lit≤ tt }, refl, refl)

-- a check of a word that no line defines
wordless_refused : RefusesSpec Hdd half (Some (Some (codes "check a == 0\n"))) (Spec (fault 1 UnknownWord))
wordless_refused = inr (codes "check a == 0\n", fault 1 UnknownWord, record { whole = refl; within = lit≤ tt }, refl, refl)

half-accepted : Accepts check_n_s (two_files half_text (Some half_spec)) n_and_s_by_hdd half half_adder
half-accepted = record {
  asks = refl;
  netlist = half_text;
  netlist_is = refl;
  netlist_within = lit≤ tt;
  reads = refl;
  spec = half_spec;
  spec_is = refl;
  spec_within = lit≤ tt;
  says = refl;
}
