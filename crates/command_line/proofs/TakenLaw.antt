-- Words that are taken are read, and words that are read are in plain form or taken.
use Rattle.std.proofs.Common.{◌≡◌, ◌∙◌, ap, sym, subst, inl, inr, refl, Bool, true, false, List, [], ◌∷◌, codes, Option, Some, None}
use Rattle.std.proofs.lemmas.Slice.Eq.{bytes_eq-Decides}
use Rattle.std.specs.Prelude.{◌⊎◌, if◌then◌else◌}
use Rattle.std.specs.Option.{option_and_then}
use Rattle.std.specs.Str.{bytes_eq}
use Rattle.clap.specs.Words.{App, Kinds, Row, Text, fault_of, matches_of}
use Rattle.settings.specs.Commands.{PlainCommand, check, gen, command_of as in_plain_form}
use Rattle.command_line.specs.Apps.{check_app, gen_app}
use Rattle.command_line.specs.Commands.{by_clap, check_of, gen_of, or_by_clap}
use Rattle.command_line.specs.PlainWords.{check_words, gen_words}
use Rattle.command_line.specs.Found.{found, unless_at_fault}
use Rattle.command_line.specs.Taken.{IsTaken, HasCommand, ReadWordsAreTaken, TakenWordsAreRead, app_for, name_of}
use Rattle.command_line.proofs.FoundLaws.{accepted}
use Rattle.command_line.proofs.ReadLaws.{bound, check_read, gen_read}
use Rattle.command_line.proofs.PlainLaws.{check_said, gen_said}

taken_by_clap : (command : PlainCommand) (rest : List Text) → fault_of (app_for command) rest ≡ []
    → HasCommand (matches_of (app_for command) rest) command → by_clap (name_of command ∷ rest) ≡ Some command
taken_by_clap (check settings netlist spec) rest promised says =
    ap (option_and_then (λ rows. in_plain_form (check_words rows))) (accepted check_app rest _ promised refl)
    ∙ check_said (matches_of check_app rest) settings netlist spec says.0 says.1 says.2
taken_by_clap (gen settings size) rest promised says =
    ap (option_and_then (λ rows. in_plain_form (gen_words rows))) (accepted gen_app rest _ promised refl)
    ∙ gen_said (matches_of gen_app rest) settings size says.0 says.1

pub taken : TakenWordsAreRead
taken words command is =
    ap (λ answer. or_by_clap answer words) is.other
    ∙ ap by_clap is.named
    ∙ taken_by_clap command is.rest is.promised is.values

-- ---- the other way

pub record WasFound (app : App) (words : List Text) (rows : List Row) : Type 0 where
  pub promised : fault_of app words ≡ []
  pub rows_are : matches_of app words ≡ rows

not_at_fault : (kinds : Kinds) (found rows : List Row) → unless_at_fault kinds found ≡ Some rows → (kinds ≡ []) × (found ≡ rows)
not_at_fault [] found rows is = (refl, cc)
not_at_fault (kind ∷ kinds) found rows is = cc

was_found : (app : App) (words : List Text) (rows : List Row) → found app words ≡ Some rows → WasFound app words rows
unfolding found
was_found app words rows is =
    let parts = not_at_fault (fault_of app words) (matches_of app words) rows is in
    record { promised = parts.0; rows_are = parts.1 }

check_taken : (words rest : List Text) (command : PlainCommand) → in_plain_form words ≡ None → words ≡ codes "check" ∷ rest
    → check_of rest ≡ Some command → IsTaken words command
check_taken words rest command other named is =
    let a = bound (found check_app rest) (λ rows. in_plain_form (check_words rows)) command is in
    let found = was_found check_app rest a.0 a.1 in
    let read = check_read a.0 command a.2 in
    let taken : IsTaken words (check read.settings read.netlist read.spec) = record {
      other = other;
      rest = rest;
      named = named;
      promised = found.promised;
      values = subst (λ (rows : List Row). HasCommand rows (check read.settings read.netlist read.spec)) (sym found.rows_are) read.values;
    } in
    subst (IsTaken words) read.same taken

gen_taken : (words rest : List Text) (command : PlainCommand) → in_plain_form words ≡ None → words ≡ codes "gen" ∷ rest
    → gen_of rest ≡ Some command → IsTaken words command
gen_taken words rest command other named is =
    let a = bound (found gen_app rest) (λ rows. in_plain_form (gen_words rows)) command is in
    let found = was_found gen_app rest a.0 a.1 in
    let read = gen_read a.0 command a.2 in
    let taken : IsTaken words (gen read.settings read.size) = record {
      other = other;
      rest = rest;
      named = named;
      promised = found.promised;
      values = subst (λ (rows : List Row). HasCommand rows (gen read.settings read.size)) (sym found.rows_are) read.values;
    } in
    subst (IsTaken words) read.same taken

by_first_word : (is_check is_gen : Bool) (word : Text) (rest : List Text) (command : PlainCommand) → in_plain_form (word ∷ rest) ≡ None
    → (is_check ≡ true → word ≡ codes "check") → (is_gen ≡ true → word ≡ codes "gen")
    → (if is_check then check_of rest else (if is_gen then gen_of rest else None)) ≡ Some command → IsTaken (word ∷ rest) command
by_first_word true is_gen word rest command other check_word gen_word is =
    check_taken (word ∷ rest) rest command other (ap (λ (w : Text). w ∷ rest) (check_word refl)) is
by_first_word false true word rest command other check_word gen_word is =
    gen_taken (word ∷ rest) rest command other (ap (λ (w : Text). w ∷ rest) (gen_word refl)) is
by_first_word false false word rest command other check_word gen_word is = cc

read_by_clap : (words : List Text) (command : PlainCommand) → in_plain_form words ≡ None → by_clap words ≡ Some command
    → IsTaken words command
read_by_clap [] command other is = cc
read_by_clap (word ∷ rest) command other is =
    by_first_word (bytes_eq word (codes "check")) (bytes_eq word (codes "gen")) word rest command other
    (bytes_eq-Decides word (codes "check")).0 (bytes_eq-Decides word (codes "gen")).0 is

by_plain_form : (words : List Text) (command : PlainCommand) (plain : Option PlainCommand) → in_plain_form words ≡ plain
    → or_by_clap plain words ≡ Some command → (in_plain_form words ≡ Some command) ⊎ IsTaken words command
by_plain_form words command (Some other) plain_is is = inl (plain_is ∙ is)
by_plain_form words command None plain_is is = inr (read_by_clap words command plain_is is)

pub read : ReadWordsAreTaken
read words command is = by_plain_form words command (in_plain_form words) refl is
