-- What clap finds in words.
use Rattle.std.specs.Prelude.{List, [], ◌∷◌, Option, Some, None}
use Rattle.clap.specs.Words.{App, Kinds, Row, Text, fault_of, found_of, matches_of, rows_of}
use Rattle.clap.specs.declared.parser.matches.ArgMatches.{ArgMatches}

-- the matches, where nothing is at fault
abbrev pub unless_at_fault : Kinds → List Row → Option (List Row)
unless_at_fault [] rows = Some rows
unless_at_fault (kind ∷ kinds) rows = None

-- the matches of a command on words, where it accepts them. The words at fault are those that clap refuses though it has memory
unfoldable pub found : App → List Text → Option (List Row)
found app words = unless_at_fault (fault_of app words) (matches_of app words)

-- the matches that a call of clap gives
abbrev pub rows_in : ArgMatches → List Row
rows_in matches = rows_of (found_of matches)
