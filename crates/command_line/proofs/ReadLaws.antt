-- Values that are read in the words of plain form mean something.
use Rattle.std.proofs.Common.{◌≡◌, ◌<◌, ◌++◌, ◌∙◌, ap, sym, refl, arith, append_assoc, codes, length, lit<, Bool, true, false, List, [], ◌∷◌, Option, Some, None}
use Rattle.std.proofs.lemmas.Bool.{and_parts}
use Rattle.std.proofs.lemmas.List.{append-nil}
use Rattle.std.specs.Prelude.{ℕ, ◌&&◌, if◌then◌else◌}
use Rattle.std.specs.Option.{option_and_then, option_map}
use Rattle.checks.specs.declared.Method.{Method}
use Rattle.checks.specs.declared.Method.TheVariants.{Forward}
use Rattle.clap.specs.Words.{Row, Text, first_of}
use Rattle.settings.specs.Commands.{PlainCommand, check, gen, command_by, command_of as in_plain_form}
use Rattle.settings.specs.Limits.{is_within, settings_of}
use Rattle.settings.specs.Numbers.{number_of, size_of}
use Rattle.settings.specs.Pairs.{nothing, pairs, with_pair}
use Rattle.settings.specs.Words.{is_name, kind_of, method_of}
use Rattle.settings.specs.declared.Settings.{Settings}
use Rattle.word_base.specs.declared.KindName.{KindName}
use Rattle.word_base.specs.declared.KindName.TheVariants.{StarBmd}
use Rattle.command_line.specs.PlainWords.{check_words, gen_words, pair_of, pairs_of, word_of}
use Rattle.command_line.specs.Taken.{HasName, HasSettings, HasSize, MeanOptions, Means}
use Rattle.command_line.proofs.PlainLaws.{Adds, Given, given_by, longer, meant, read_front, regrouped, with_usual_said}

-- ---- answers that are there

pub bound : {A B : Type 0} → (first : Option A) (next : A → Option B) (answer : B) → option_and_then next first ≡ Some answer
    → (a : A) × (first ≡ Some a) × (next a ≡ Some answer)
bound None next answer is = cc
bound (Some a) next answer is = (a, refl, is)

mapped : {A B : Type 0} → (first : Option A) (change : A → B) (answer : B) → option_map change first ≡ Some answer
    → (a : A) × (first ≡ Some a) × (answer ≡ change a)
mapped None change answer is = cc
mapped (Some a) change answer is = (a, refl, cc)

guarded : {A : Type 0} → (test : Bool) (value answer : A) → (if test then Some value else None) ≡ Some answer
    → (test ≡ true) × (value ≡ answer)
guarded true value answer is = (refl, cc)
guarded false value answer is = cc

-- ---- pairs

-- a pair that is read, where others follow
first_pair : (option : Text) (value : Option Text) (given : Given) (rest : List Text) (front : Given × List Text) → 0 < length rest
    → pairs given (pair_of option value ++ rest) ≡ Some front
    → (more : Given) × Adds given option value more × (pairs more rest ≡ Some front)
first_pair option value given [] front some is = absurd (omega arith)
first_pair option None given (word ∷ rest) front some is = (given, refl, is)
first_pair option (Some value) given (word ∷ rest) front some is =
    bound (with_pair given option value) (λ more. pairs more (word ∷ rest)) front is

-- the same, where what the pair adds is known by its meaning
next_pair : {T : Type 0} → (IsMeant : T → Type 0) (known : T → Given) (option : Text) (value : Option Text) (given : Given)
    (rest : List Text) (front : Given × List Text)
    → ((more : Given) → Adds given option value more → (meaning : T) × IsMeant meaning × (more ≡ known meaning)) → 0 < length rest
    → pairs given (pair_of option value ++ rest) ≡ Some front
    → (meaning : T) × IsMeant meaning × (pairs (known meaning) rest ≡ Some front)
next_pair IsMeant known option value given rest front means some is =
    let a = first_pair option value given rest front some is in
    let m = means a.0 a.1 in
    (m.0, m.1, sym (ap (λ (g : Given). pairs g rest) m.2) ∙ a.2)

kind_means : (value : Option Text) (more : Given) → Adds nothing (codes "--kind") value more
    → (kind : KindName) × Means kind_of StarBmd value kind × (more ≡ record nothing { kind = meant value kind })
kind_means None more adds = (StarBmd, refl, adds)
kind_means (Some value) more adds = mapped (kind_of value) (λ (k : KindName). record nothing { kind = Some k }) more adds

method_means : (k : Option KindName) (value : Option Text) (more : Given) → Adds (record nothing { kind = k }) (codes "--method") value more
    → (method : Method) × Means method_of Forward value method × (more ≡ record nothing { kind = k; method = meant value method })
method_means k None more adds = (Forward, refl, adds)
method_means k (Some value) more adds =
    mapped (method_of value) (λ (m : Method). record nothing { kind = k; method = Some m }) more adds

workers_mean : (k : Option KindName) (m : Option Method) (value : Option Text) (more : Given)
    → Adds (record nothing { kind = k; method = m }) (codes "--workers") value more
    → (workers : ℕ) × Means number_of 1 value workers × (more ≡ record nothing { kind = k; method = m; workers = meant value workers })
workers_mean k m None more adds = (1, refl, adds)
workers_mean k m (Some value) more adds =
    mapped (number_of value) (λ (n : ℕ). record nothing { kind = k; method = m; workers = Some n }) more adds

cells_mean : (k : Option KindName) (m : Option Method) (w : Option ℕ) (value : Option Text) (more : Given)
    → Adds (record nothing { kind = k; method = m; workers = w }) (codes "--cells") value more
    → (cells : ℕ) × Means number_of 262144 value cells
    × (more ≡ record nothing { kind = k; method = m; workers = w; cells = meant value cells })
cells_mean k m w None more adds = (262144, refl, adds)
cells_mean k m w (Some value) more adds =
    mapped (number_of value) (λ (n : ℕ). record nothing { kind = k; method = m; workers = w; cells = Some n }) more adds

-- the options that are read in front of last words
pub record AreRead (rows : List Row) (last : List Text) (front : Given × List Text) : Type 0 where
  pub settings : Settings
  pub options : MeanOptions rows settings
  pub rest : pairs (given_by rows settings) last ≡ Some front

options_read : (rows : List Row) (last : List Text) (front : Given × List Text) → 0 < length last
    → pairs nothing (pairs_of rows ++ last) ≡ Some front → AreRead rows last front
options_read rows last front some is =
    let kind = first_of (codes "kind") rows in
    let method = first_of (codes "method") rows in
    let workers = first_of (codes "workers") rows in
    let cells = first_of (codes "cells") rows in
    let fourth = pair_of (codes "--cells") cells ++ last in
    let third = pair_of (codes "--workers") workers ++ fourth in
    let second = pair_of (codes "--method") method ++ third in
    let some_fourth : 0 < length fourth = longer (codes "--cells") cells last some in
    let some_third : 0 < length third = longer (codes "--workers") workers fourth some_fourth in
    let some_second : 0 < length second = longer (codes "--method") method third some_third in
    let grouped : pairs nothing (pair_of (codes "--kind") kind ++ second) ≡ Some front =
    sym (ap (pairs nothing) (regrouped (pair_of (codes "--kind") kind) (pair_of (codes "--method") method)
    (pair_of (codes "--workers") workers) (pair_of (codes "--cells") cells) last)) ∙ is in
    let k = next_pair (Means kind_of StarBmd kind) (λ k. record nothing { kind = meant kind k }) (codes "--kind") kind
    nothing second front (kind_means kind) some_second grouped in
    let m = next_pair (Means method_of Forward method) (λ m. record nothing { kind = meant kind k.0; method = meant method m })
    (codes "--method") method (record nothing { kind = meant kind k.0 }) third front (method_means (meant kind k.0) method) some_third k.2 in
    let w = next_pair (Means number_of 1 workers)
    (λ w. record nothing { kind = meant kind k.0; method = meant method m.0; workers = meant workers w })
    (codes "--workers") workers (record nothing { kind = meant kind k.0; method = meant method m.0 }) fourth front
    (workers_mean (meant kind k.0) (meant method m.0) workers) some_fourth m.2 in
    let c = next_pair (Means number_of 262144 cells)
    (λ c. record nothing { kind = meant kind k.0; method = meant method m.0; workers = meant workers w.0; cells = meant cells c })
    (codes "--cells") cells (record nothing { kind = meant kind k.0; method = meant method m.0; workers = meant workers w.0 }) last front
    (cells_mean (meant kind k.0) (meant method m.0) (meant workers w.0) cells) some w.2 in
    record {
      settings = record { kind = k.0; method = m.0; workers = w.0; cells = c.0 };
      options = record { kind = k.1; method = m.1; workers = w.1; cells = c.1 };
      rest = c.2;
    }

-- ---- settings

settings_read : (rows : List Row) (settings answer : Settings) → MeanOptions rows settings
    → settings_of (given_by rows settings) ≡ Some answer → HasSettings rows settings × (settings ≡ answer)
settings_read rows settings answer options is =
    let guard = guarded (is_within settings.workers settings.cells) settings answer
    (sym (ap (λ (s : Settings). if is_within s.workers s.cells then Some s else None) (with_usual_said rows settings options)) ∙ is) in
    (record { options = options; within = guard.0 }, guard.1)

-- the command of a word, options and last words
pub record FrontRead (word : Text) (rows : List Row) (last : List Text) (command : PlainCommand) : Type 0 where
  pub settings : Settings
  pub said : HasSettings rows settings
  pub rest : command_by word settings last ≡ Some command

front_read : (word : Text) (rows : List Row) (last : List Text) (command : PlainCommand) → 0 < length last
    → ((given : Given) → pairs given last ≡ Some (given, last))
    → in_plain_form (word ∷ (pairs_of rows ++ last)) ≡ Some command → FrontRead word rows last command
front_read word rows last command some ends is =
    let a = bound (pairs nothing (pairs_of rows ++ last))
    (λ front. option_and_then (λ settings. command_by word settings front.1) (settings_of front.0)) command is in
    let options = options_read rows last a.0 some a.1 in
    let same : Some a.0 ≡ Some (given_by rows options.settings, last) = sym options.rest ∙ ends (given_by rows options.settings) in
    let front : option_and_then (λ settings. command_by word settings last) (settings_of (given_by rows options.settings)) ≡ Some command =
    sym (ap (read_front word) same) ∙ a.2 in
    let b = bound (settings_of (given_by rows options.settings)) (λ settings. command_by word settings last) command front in
    let s = settings_read rows options.settings b.0 options.options b.1 in
    record {
      settings = options.settings;
      said = s.0;
      rest = ap (λ (settings : Settings). command_by word settings last) s.1 ∙ b.2;
    }

-- ---- last words that are a pair, or none

-- no command has these last words
abbrev NoCommand : Text → Given × List Text → Type 0
NoCommand word front = (settings : Settings) → command_by word settings front.1 ≡ None

-- an option and a value are no last words of a command
abbrev IsNoEnd : Text → Text → Type 0
IsNoEnd word option = (settings : Settings) (value : Text) → command_by word settings (option ∷ value ∷ []) ≡ None

not_last : (word option : Text) (value : Option Text) (given : Given) (rest : List Text) (front : Given × List Text) → IsNoEnd word option
    → ((more : Given) → pairs more rest ≡ Some front → NoCommand word front)
    → pairs given (pair_of option value ++ rest) ≡ Some front → NoCommand word front
not_last word option None given rest front ends after is = after given is
not_last word option (Some value) given [] front ends after is =
    λ settings. let same : (given, option ∷ value ∷ []) ≡ front = cc in
    sym (ap (λ (f : Given × List Text). command_by word settings f.1) same) ∙ ends settings value
not_last word option (Some value) given (next ∷ rest) front ends after is =
    let a = bound (with_pair given option value) (λ more. pairs more (next ∷ rest)) front is in
    after a.0 a.2

-- the four options are no last words of a command
record AreNoEnds (word : Text) : Type 0 where
  kind : IsNoEnd word (codes "--kind")
  method : IsNoEnd word (codes "--method")
  workers : IsNoEnd word (codes "--workers")
  cells : IsNoEnd word (codes "--cells")

nothing_behind : (word : Text) (front : Given × List Text) (given : Given) → pairs given [] ≡ Some front → NoCommand word front
nothing_behind word front given is =
    λ settings. let same : (given, []) ≡ front = cc in sym (ap (λ (f : Given × List Text). command_by word settings f.1) same)

options_alone : (word : Text) (rows : List Row) (command : PlainCommand) → AreNoEnds word
    → in_plain_form (word ∷ pairs_of rows) ≡ Some command → ⊥
options_alone word rows command ends is =
    let kind = first_of (codes "kind") rows in
    let method = first_of (codes "method") rows in
    let workers = first_of (codes "workers") rows in
    let cells = first_of (codes "cells") rows in
    let fourth = pair_of (codes "--cells") cells ++ [] in
    let third = pair_of (codes "--workers") workers ++ fourth in
    let second = pair_of (codes "--method") method ++ third in
    let words : pairs_of rows ≡ pair_of (codes "--kind") kind ++ second = sym (append-nil (pairs_of rows))
    ∙ regrouped (pair_of (codes "--kind") kind) (pair_of (codes "--method") method)
    (pair_of (codes "--workers") workers) (pair_of (codes "--cells") cells) [] in
    let a = bound (pairs nothing (pairs_of rows))
    (λ front. option_and_then (λ settings. command_by word settings front.1) (settings_of front.0)) command is in
    let front = a.0 in
    let none : NoCommand word front =
    not_last word (codes "--kind") kind nothing second front ends.kind
    (λ g. not_last word (codes "--method") method g third front ends.method
    (λ h. not_last word (codes "--workers") workers h fourth front ends.workers
    (λ i. not_last word (codes "--cells") cells i [] front ends.cells
    (nothing_behind word front))))
    (sym (ap (pairs nothing) words) ∙ a.1) in
    let b = bound (settings_of front.0) (λ settings. command_by word settings front.1) command a.2 in
    let both : None ≡ Some command = sym (none b.0) ∙ b.2 in
    absurd cc

-- ---- commands

pub record CheckRead (rows : List Row) (command : PlainCommand) : Type 0 where
  pub settings : Settings
  pub netlist : Text
  pub spec : Text
  pub same : check settings netlist spec ≡ command
  pub values : HasSettings rows settings × HasName rows (codes "NETLIST") netlist × HasName rows (codes "SPEC") spec

check_by_names : (rows : List Row) (command : PlainCommand) (first second : Option Text) → first_of (codes "NETLIST") rows ≡ first
    → first_of (codes "SPEC") rows ≡ second
    → in_plain_form (codes "check" ∷ ((pairs_of rows ++ word_of first) ++ word_of second)) ≡ Some command → CheckRead rows command
check_by_names rows command None None found_first found_second is =
    let same : (pairs_of rows ++ []) ++ [] ≡ pairs_of rows = append-nil (pairs_of rows ++ []) ∙ append-nil (pairs_of rows) in
    absurd (options_alone (codes "check") rows command
    (record { kind = λ _ _. refl; method = λ _ _. refl; workers = λ _ _. refl; cells = λ _ _. refl })
    (sym (ap (λ (words : List Text). in_plain_form (codes "check" ∷ words)) same) ∙ is))
check_by_names rows command None (Some spec) found_first found_second is =
    let same : (pairs_of rows ++ []) ++ (spec ∷ []) ≡ pairs_of rows ++ (spec ∷ []) =
    ap (λ (words : List Text). words ++ (spec ∷ [])) (append-nil (pairs_of rows)) in
    let front = front_read (codes "check") rows (spec ∷ []) command (lit< tt) (λ given. refl)
    (sym (ap (λ (words : List Text). in_plain_form (codes "check" ∷ words)) same) ∙ is) in
    let bad : None ≡ Some command = front.rest in
    absurd cc
check_by_names rows command (Some netlist) None found_first found_second is =
    let front = front_read (codes "check") rows (netlist ∷ []) command (lit< tt) (λ given. refl)
    (sym (ap (λ (words : List Text). in_plain_form (codes "check" ∷ words)) (append-nil (pairs_of rows ++ (netlist ∷ [])))) ∙ is) in
    let bad : None ≡ Some command = front.rest in
    absurd cc
check_by_names rows command (Some netlist) (Some spec) found_first found_second is =
    let front = front_read (codes "check") rows (netlist ∷ spec ∷ []) command (lit< tt) (λ given. refl)
    (sym (ap (λ (words : List Text). in_plain_form (codes "check" ∷ words))
    (append_assoc (pairs_of rows) (netlist ∷ []) (spec ∷ []))) ∙ is) in
    let guard = guarded (is_name netlist && is_name spec) (check front.settings netlist spec) command front.rest in
    let names = and_parts (is_name netlist) (is_name spec) guard.0 in
    record {
      settings = front.settings;
      netlist = netlist;
      spec = spec;
      same = guard.1;
      values = (front.said, record { value = found_first; allowed = names.0 }, record { value = found_second; allowed = names.1 });
    }

pub check_read : (rows : List Row) (command : PlainCommand) → in_plain_form (check_words rows) ≡ Some command → CheckRead rows command
check_read rows command is =
    check_by_names rows command (first_of (codes "NETLIST") rows) (first_of (codes "SPEC") rows) refl refl is

pub record GenRead (rows : List Row) (command : PlainCommand) : Type 0 where
  pub settings : Settings
  pub size : ℕ
  pub same : gen settings size ≡ command
  pub values : HasSettings rows settings × HasSize rows size

gen_by_size : (rows : List Row) (command : PlainCommand) (found : Option Text) → first_of (codes "SIZE") rows ≡ found
    → in_plain_form (codes "gen" ∷ (pairs_of rows ++ word_of found)) ≡ Some command → GenRead rows command
gen_by_size rows command None found is =
    absurd (options_alone (codes "gen") rows command
    (record { kind = λ _ _. refl; method = λ _ _. refl; workers = λ _ _. refl; cells = λ _ _. refl })
    (sym (ap (λ (words : List Text). in_plain_form (codes "gen" ∷ words)) (append-nil (pairs_of rows))) ∙ is))
gen_by_size rows command (Some text) found is =
    let front = front_read (codes "gen") rows (text ∷ []) command (lit< tt) (λ given. refl) is in
    let size = mapped (size_of text) (gen front.settings) command front.rest in
    record {
      settings = front.settings;
      size = size.0;
      same = sym size.2;
      values = (front.said, record { text = text; value = found; allowed = size.1 });
    }

pub gen_read : (rows : List Row) (command : PlainCommand) → in_plain_form (gen_words rows) ≡ Some command → GenRead rows command
gen_read rows command is = gen_by_size rows command (first_of (codes "SIZE") rows) refl is
