-- Where the netlist and the specification of a run come from, and what is told of both texts.
use Rattle.std.specs.Prelude.{◌≡◌, ℕ, List, [], codes, length, Option, Some, None, refl}
use Rattle.circuits.specs.Circuit.{Circuit, input_count}
use Rattle.multiplier.specs.Texts.{netlist_text, spec_text}
use Rattle.outside.specs.Count.{raised}
use Rattle.outside.specs.Shelf.{told}
use Rattle.report.specs.Made.{made_line}
use Rattle.check_run.specs.declared.asked.Source as declared
use Rattle.check_run.specs.declared.asked.Source.TheVariants as variants
use Rattle.check_run.specs.Outside.{Files}

-- two files by their names, of the netlist and of the specification; or the multiplier of this size
pub data PlainSource : Type 0 where
  in_files : List ℕ → List ℕ → PlainSource
  made : ℕ → PlainSource

abbrev pub plain_source : declared.Source → PlainSource
plain_source (variants.Files netlist spec) = in_files netlist.now spec.now
plain_source (variants.Multiplier size) = made size

-- what is told of a text: nothing, that there is none, or its bytes
abbrev pub Told : Type 0
Told = Option (Option (List ℕ))

-- there is a text, or nothing is told
abbrev pub MayBeThere : Told → Type 0
MayBeThere text = text ≡ Some None → ⊥

abbrev pub netlist_told : Files → PlainSource → Told
netlist_told files (in_files netlist spec) = told files netlist
netlist_told files (made size) = Some (Some (netlist_text size))

abbrev pub spec_told : Files → PlainSource → Told
spec_told files (in_files netlist spec) = told files spec
spec_told files (made size) = Some (Some (spec_text size))

-- how often a shelf was asked, with one text of the source more
abbrev pub asked_more : PlainSource → ℕ → ℕ
asked_more (in_files netlist spec) fetches = raised fetches
asked_more (made size) fetches = fetches

abbrev pub IsInFiles : PlainSource → Type 0
IsInFiles (in_files netlist spec) = Unit {0}
IsInFiles (made size) = ⊥

-- what the report of a source begins with: nothing, or the line of the multiplier
abbrev pub heading : PlainSource → Circuit → List ℕ
heading (in_files netlist spec) c = []
heading (made size) c = made_line size (input_count c) (length c.gates)

-- a shelf that tells of no file is not asked for a multiplier
made-is_told : netlist_told (Some (λ name. None)) (made 2) ≡ Some (Some (netlist_text 2))
made-is_told = refl

made-is_not_fetched : asked_more (made 2) 7 ≡ 7
made-is_not_fetched = refl

file-is_fetched : asked_more (in_files (codes "n") (codes "s")) 7 ≡ 8
file-is_fetched = refl
