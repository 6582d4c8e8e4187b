-- Examples of words in another order.
use Rattle.std.specs.Prelude.{◌≡◌, [], ◌∷◌, codes, Some, None, refl}
use Rattle.std.specs.Option.{option_map}
use Rattle.checks.specs.declared.Method.TheVariants.{Forward}
use Rattle.clap.proofs.OnLiterals.{clap_on_literals}
use Rattle.settings.specs.Commands.{check, gen}
use Rattle.settings.specs.declared.Settings.{Settings}
use Rattle.word_base.specs.declared.KindName.TheVariants.{StarBmd, Hdd}
use Rattle.command_line.specs.Apps.{check_app, gen_app}
use Rattle.command_line.specs.Commands.{command_of}
use Rattle.command_line.specs.Found.{found}
use Rattle.command_line.specs.PlainWords.{check_words, gen_words}
use Rattle.command_line.specs.Taken.{IsTaken}

abbrev usual : Settings
usual = record { kind = StarBmd; method = Forward; workers = 1; cells = 262144 }

abbrev hybrid : Settings
hybrid = record usual { kind = Hdd }

a_value_is_found : option_map check_words (found check_app (codes "n" ∷ codes "--cells=512" ∷ codes "s" ∷ []))
    ≡ Some (codes "check" ∷ codes "--cells" ∷ codes "512" ∷ codes "n" ∷ codes "s" ∷ [])
unfolding clap_on_literals found check_app
a_value_is_found = refl

one_name : found check_app (codes "n" ∷ []) ≡ None
unfolding clap_on_literals found check_app
one_name = refl

a_size_is_found : option_map gen_words (found gen_app (codes "2" ∷ codes "--kind" ∷ codes "hdd" ∷ []))
    ≡ Some (codes "gen" ∷ codes "--kind" ∷ codes "hdd" ∷ codes "2" ∷ [])
unfolding clap_on_literals found gen_app
a_size_is_found = refl

a_value_behind_equals : command_of (codes "check" ∷ codes "--kind=hdd" ∷ codes "n" ∷ codes "s" ∷ []) ≡ Some (check hybrid (codes "n") (codes "s"))
unfolding clap_on_literals found check_app
a_value_behind_equals = refl

an_option_behind : command_of (codes "check" ∷ codes "n" ∷ codes "s" ∷ codes "--kind=hdd" ∷ []) ≡ Some (check hybrid (codes "n") (codes "s"))
unfolding clap_on_literals found check_app
an_option_behind = refl

options_between : command_of (codes "check" ∷ codes "--kind" ∷ codes "hdd" ∷ codes "n" ∷ codes "--cells=512" ∷ codes "s" ∷ [])
    ≡ Some (check (record hybrid { cells = 512 }) (codes "n") (codes "s"))
unfolding clap_on_literals found check_app
options_between = refl

behind_two_hyphens : command_of (codes "check" ∷ codes "--" ∷ codes "n" ∷ codes "s" ∷ []) ≡ Some (check usual (codes "n") (codes "s"))
unfolding clap_on_literals found check_app
behind_two_hyphens = refl

no_name_behind_two_hyphens : command_of (codes "check" ∷ codes "--" ∷ codes "n" ∷ codes "-s" ∷ []) ≡ None
unfolding clap_on_literals found check_app
no_name_behind_two_hyphens = refl

no_value : command_of (codes "check" ∷ codes "--kind=" ∷ codes "n" ∷ codes "s" ∷ []) ≡ None
unfolding clap_on_literals found check_app
no_value = refl

an_option_twice : command_of (codes "check" ∷ codes "--kind=hdd" ∷ codes "--kind=hdd" ∷ codes "n" ∷ codes "s" ∷ []) ≡ None
unfolding clap_on_literals found check_app
an_option_twice = refl

no_help : command_of (codes "check" ∷ codes "--help" ∷ []) ≡ None
unfolding clap_on_literals found check_app
no_help = refl

a_size_in_front : command_of (codes "gen" ∷ codes "2" ∷ codes "--workers" ∷ codes "2" ∷ []) ≡ Some (gen (record usual { workers = 2 }) 2)
unfolding clap_on_literals found gen_app
a_size_in_front = refl

no_version : command_of (codes "gen" ∷ codes "--version" ∷ []) ≡ None
unfolding clap_on_literals found gen_app
no_version = refl

another_word : command_of (codes "prove" ∷ codes "--kind=hdd" ∷ codes "n" ∷ codes "s" ∷ []) ≡ None
another_word = refl

plain_form : command_of (codes "check" ∷ codes "--kind" ∷ codes "hdd" ∷ codes "n" ∷ codes "s" ∷ []) ≡ Some (check hybrid (codes "n") (codes "s"))
plain_form = refl

taken : IsTaken (codes "check" ∷ codes "n" ∷ codes "s" ∷ codes "--kind=hdd" ∷ []) (check hybrid (codes "n") (codes "s"))
unfolding clap_on_literals check_app
taken = record {
  other = refl;
  rest = codes "n" ∷ codes "s" ∷ codes "--kind=hdd" ∷ [];
  named = refl;
  promised = refl;
  values = (
    record { options = record { kind = refl; method = refl; workers = refl; cells = refl }; within = refl },
    record { value = refl; allowed = refl },
    record { value = refl; allowed = refl },
  );
}
