-- What the words of a command ask for, as far as it is built.
use Rattle.std.specs.Prelude.{◌≡◌, ℕ, ◌==◌, Bool, true, false, ◌&&◌, List, [], ◌∷◌, codes, Option, Some, None, Result, Ok, Err, if◌then◌else◌, refl}
use Rattle.checks.specs.declared.method.Method.{Method}
use Rattle.checks.specs.declared.method.Method.TheVariants.{Forward, Backward}
use Rattle.settings.specs.declared.command.Settings.{Settings}
use Rattle.command_line.specs.Commands.{command_of}
use Rattle.settings.specs.Commands.{PlainCommand, check, gen}
use Rattle.report.specs.declared.refusal.Refusal.{Refusal}
use Rattle.report.specs.declared.refusal.Refusal.TheVariants.{Usage, Words}
use Rattle.check_run.specs.declared.asked.Asked as declared
use Rattle.check_run.specs.Sources.{PlainSource, in_files, made, plain_source}
use Rattle.word_base.specs.declared.kind_name.KindName.TheVariants.{StarBmd, Hdd}

-- what the words of a command ask for: how the checks are decided, and where their texts come from
pub record PlainAsked : Type 0 where
  pub settings : Settings
  pub source : PlainSource

abbrev pub plain_asked : declared.Asked → PlainAsked
plain_asked asked = record { settings = asked.settings; source = plain_source asked.source }

abbrev pub is_forward : Method → Bool
is_forward Forward = true
is_forward Backward = false

-- forward, with one worker
abbrev pub is_built : Settings → Bool
is_built settings = is_forward settings.method && (settings.workers == 1)

-- what is asked, where it is built
abbrev pub asked_by : Settings → PlainSource → Result PlainAsked Refusal
asked_by settings source = if is_built settings then Ok (record { settings = settings; source = source }) else Err Words

-- words that say no command are refused as usage, and those of a command that is not built as such
abbrev pub asked_in : Option PlainCommand → Result PlainAsked Refusal
asked_in None = Err Usage
asked_in (Some (check settings netlist spec)) = asked_by settings (in_files netlist spec)
asked_in (Some (gen settings size)) = asked_by settings (made size)

abbrev pub asked_of : List (List ℕ) → Result PlainAsked Refusal
asked_of words = asked_in (command_of words)

abbrev pub usual : Settings
usual = record { kind = StarBmd; method = Forward; workers = 1; cells = 262144 }

abbrev pub by_hdd : Settings
by_hdd = record { kind = Hdd; method = Forward; workers = 1; cells = 262144 }

-- check --kind hdd n s
abbrev pub check_n_s : List (List ℕ)
check_n_s = codes "check" ∷ codes "--kind" ∷ codes "hdd" ∷ codes "n" ∷ codes "s" ∷ []

abbrev pub n_and_s : PlainSource
n_and_s = in_files (codes "n") (codes "s")

abbrev pub n_and_s_by_hdd : PlainAsked
n_and_s_by_hdd = record { settings = by_hdd; source = n_and_s }

two_names : asked_of check_n_s ≡ Ok n_and_s_by_hdd
two_names = refl

no_option : asked_of (codes "check" ∷ codes "n" ∷ codes "s" ∷ []) ≡ Ok (record { settings = usual; source = n_and_s })
no_option = refl

a_multiplier : asked_of (codes "gen" ∷ codes "2" ∷ []) ≡ Ok (record { settings = usual; source = made 2 })
a_multiplier = refl

another_word : asked_of (codes "prove" ∷ []) ≡ Err Usage
another_word = refl

two_workers : asked_of (codes "check" ∷ codes "--workers" ∷ codes "2" ∷ codes "n" ∷ codes "s" ∷ []) ≡ Err Words
two_workers = refl

backward : asked_of (codes "gen" ∷ codes "--method" ∷ codes "backward" ∷ codes "2" ∷ []) ≡ Err Words
backward = refl
