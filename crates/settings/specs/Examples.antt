-- Examples of commands.
use Rattle.std.specs.Prelude.{◌≡◌, ℕ, ◌++◌, List, [], ◌∷◌, codes, Some, None, refl}
use Rattle.checks.specs.declared.method.Method.TheVariants.{Forward, Backward}
use Rattle.settings.specs.declared.command.Settings.{Settings}
use Rattle.settings.specs.Commands.{check, gen, command_of}
use Rattle.word_base.specs.declared.kind_name.KindName.TheVariants.{Evbdd, StarBmd, Hdd, KStarBmd}

abbrev usual : Settings
usual = record { kind = StarBmd; method = Forward; workers = 1; cells = 262144 }

-- check OPTION VALUE .. n s
abbrev check_with : List (List ℕ) → List (List ℕ)
check_with options = codes "check" ∷ (options ++ (codes "n" ∷ codes "s" ∷ []))

-- OPTION VALUE
abbrev pair : List ℕ → List ℕ → List (List ℕ)
pair option value = option ∷ value ∷ []

abbrev workers : List ℕ → List (List ℕ)
workers number = pair (codes "--workers") number

abbrev cells : List ℕ → List (List ℕ)
cells number = pair (codes "--cells") number

abbrev kind : List ℕ → List (List ℕ)
kind name = pair (codes "--kind") name

no_word : command_of [] ≡ None
no_word = refl

check_alone : command_of (codes "check" ∷ []) ≡ None
check_alone = refl

no_pair : command_of (check_with []) ≡ Some (check usual (codes "n") (codes "s"))
no_pair = refl

one_name : command_of (codes "check" ∷ codes "n" ∷ []) ≡ None
one_name = refl

three_names : command_of (codes "check" ∷ codes "m" ∷ codes "n" ∷ codes "s" ∷ []) ≡ None
three_names = refl

another_word : command_of (codes "prove" ∷ codes "n" ∷ codes "s" ∷ []) ≡ None
another_word = refl

two_workers : command_of (check_with (workers (codes "2"))) ≡ Some (check (record usual { workers = 2 }) (codes "n") (codes "s"))
two_workers = refl

seventeen_workers : command_of (check_with (workers (codes "17"))) ≡ None
seventeen_workers = refl

no_worker : command_of (check_with (workers (codes "0"))) ≡ None
no_worker = refl

all_four : command_of (check_with (pair (codes "--method") (codes "backward") ++ cells (codes "4096") ++ kind (codes "evbdd") ++ workers (codes "16")))
    ≡ Some (check (record { kind = Evbdd; method = Backward; workers = 16; cells = 4096 }) (codes "n") (codes "s"))
all_four = refl

an_option_twice : command_of (check_with (kind (codes "hdd") ++ kind (codes "hdd"))) ≡ None
an_option_twice = refl

no_kind : command_of (check_with (kind (codes "bdd"))) ≡ None
no_kind = refl

no_option : command_of (check_with (pair (codes "--size") (codes "2"))) ≡ None
no_option = refl

zero_in_front : command_of (check_with (workers (codes "02"))) ≡ None
zero_in_front = refl

eight_digits : command_of (check_with (cells (codes "00262144"))) ≡ None
eight_digits = refl

no_value : command_of (codes "check" ∷ codes "--cells" ∷ codes "n" ∷ codes "s" ∷ []) ≡ None
no_value = refl

pairs_alone : command_of (codes "check" ∷ cells (codes "256")) ≡ None
pairs_alone = refl

pairs_behind : command_of (codes "check" ∷ codes "n" ∷ codes "s" ∷ cells (codes "256")) ≡ None
pairs_behind = refl

some_cells : command_of (check_with (cells (codes "256"))) ≡ Some (check (record usual { cells = 256 }) (codes "n") (codes "s"))
some_cells = refl

-- the workers that are given count, before the cells or behind them
cells_of_two : command_of (check_with (workers (codes "2") ++ cells (codes "256"))) ≡ None
cells_of_two = refl

cells_before_two : command_of (check_with (cells (codes "256") ++ workers (codes "2"))) ≡ None
cells_before_two = refl

an_option_as_name : command_of (codes "check" ∷ codes "n" ∷ codes "-s" ∷ []) ≡ None
an_option_as_name = refl

an_empty_name : command_of (codes "check" ∷ [] ∷ codes "s" ∷ []) ≡ None
an_empty_name = refl

a_multiplier : command_of (codes "gen" ∷ (kind (codes "k_star_bmd") ++ (codes "16" ∷ []))) ≡ Some (gen (record usual { kind = KStarBmd }) 16)
a_multiplier = refl

sizes : (command_of (codes "gen" ∷ codes "1" ∷ []) ≡ None) × (command_of (codes "gen" ∷ codes "2" ∷ []) ≡ Some (gen usual 2))
    × (command_of (codes "gen" ∷ codes "17" ∷ []) ≡ None) × (command_of (codes "gen" ∷ codes "02" ∷ []) ≡ None)
sizes = (refl, refl, refl, refl)

gen_alone : command_of (codes "gen" ∷ []) ≡ None
gen_alone = refl

two_sizes : command_of (codes "gen" ∷ codes "2" ∷ codes "2" ∷ []) ≡ None
two_sizes = refl

hybrid : command_of (check_with (kind (codes "hdd"))) ≡ Some (check (record usual { kind = Hdd }) (codes "n") (codes "s"))
hybrid = refl
