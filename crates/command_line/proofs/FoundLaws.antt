-- What clap finds is what its contract tells.
use Rattle.std.proofs.Common.{◌≡◌, ◌∙◌, ap, sym, refl, true, List, [], ◌∷◌, Some, None}
use Rattle.clap.specs.Words.{App, IsAmong, Kinds, Row, Text, fault_of, is_simple_and_free, matches_of}
use Rattle.clap.specs.declared.error.ErrorKind.{ErrorKind}
use Rattle.command_line.specs.Apps.{check_app, gen_app}
use Rattle.command_line.specs.Found.{found, unless_at_fault}

pub accepted : (app : App) (words : List Text) (rows : List Row) → fault_of app words ≡ [] → rows ≡ matches_of app words
    → found app words ≡ Some rows
unfolding found
accepted app words rows promised are =
    ap (λ (kinds : Kinds). unless_at_fault kinds (matches_of app words)) promised ∙ ap Some (sym are)

at_fault : (kind : ErrorKind) (kinds : Kinds) (rows : List Row) → IsAmong kind kinds → unless_at_fault kinds rows ≡ None
at_fault kind [] rows among = absurd among
at_fault kind (first ∷ more) rows among = refl

pub refused : (app : App) (words : List Text) (kind : ErrorKind) → IsAmong kind (fault_of app words) → found app words ≡ None
unfolding found
refused app words kind among = at_fault kind (fault_of app words) (matches_of app words) among

-- clap tells exactly what it finds in the words of both commands
pub check_is_told : is_simple_and_free check_app ≡ true
unfolding check_app
check_is_told = refl

pub gen_is_told : is_simple_and_free gen_app ≡ true
unfolding gen_app
gen_is_told = refl
