-- Values that say something are read in the words of plain form.
use Rattle.std.proofs.Common.{◌≡◌, ◌<◌, ◌++◌, ◌∙◌, ap, sym, refl, arith, append_assoc, lit<, codes, length, true, List, [], ◌∷◌, Option, Some, None}
use Rattle.std.specs.Prelude.{ℕ, if◌then◌else◌, unwrap_or}
use Rattle.std.specs.Option.{option_and_then, option_map}
use Rattle.checks.specs.declared.Method.{Method}
use Rattle.checks.specs.declared.Method.TheVariants.{Forward}
use Rattle.clap.specs.Words.{Row, Text, first_of}
use Rattle.settings.specs.Commands.{PlainCommand, check, gen, check_of, command_by, command_of as in_plain_form}
use Rattle.settings.specs.Limits.{is_within, settings_of, with_usual}
use Rattle.settings.specs.Numbers.{number_of}
use Rattle.settings.specs.Pairs.{nothing, pairs, with_pair}
use Rattle.settings.specs.Words.{is_name, kind_of, method_of}
use Rattle.settings.specs.declared.Settings.{Settings}
use Rattle.word_base.specs.declared.KindName.{KindName}
use Rattle.word_base.specs.declared.KindName.TheVariants.{StarBmd}
use Rattle.command_line.specs.PlainWords.{check_words, gen_words, pair_of, pairs_of, word_of}
use Rattle.command_line.specs.Taken.{Means, HasName, HasSettings, HasSize, MeanOptions}

-- the type of what is given, which its crate keeps to itself
abbrev pub TypeOf : {T : Type 0} → T → Type 0
TypeOf {T} value = T

abbrev pub Given : Type 0
Given = TypeOf nothing

-- a pair, if there is one, leads from one given to another
abbrev pub Adds : Given → Text → Option Text → Given → Type 0
Adds given option None more = more ≡ given
Adds given option (Some value) more = with_pair given option value ≡ Some more

-- the meaning of an option, where a value is found
abbrev pub meant : {T : Type 0} → Option Text → T → Option T
meant None meaning = None
meant (Some value) meaning = Some meaning

meant_or_usual : {T : Type 0} → (read : Text → Option T) (usual : T) (value : Option Text) (meaning : T) → Means read usual value meaning
    → unwrap_or (meant value meaning) usual ≡ meaning
meant_or_usual read usual None meaning says = sym says
meant_or_usual read usual (Some value) meaning says = refl

adds_kind : (value : Option Text) (kind : KindName) → Means kind_of StarBmd value kind
    → Adds nothing (codes "--kind") value (record nothing { kind = meant value kind })
adds_kind None kind says = refl
adds_kind (Some value) kind says = ap (option_map (λ (k : KindName). record nothing { kind = Some k })) says

adds_method : (k : Option KindName) (value : Option Text) (method : Method) → Means method_of Forward value method
    → Adds (record nothing { kind = k }) (codes "--method") value (record nothing { kind = k; method = meant value method })
adds_method k None method says = refl
adds_method k (Some value) method says = ap (option_map (λ (m : Method). record nothing { kind = k; method = Some m })) says

adds_workers : (k : Option KindName) (m : Option Method) (value : Option Text) (workers : ℕ) → Means number_of 1 value workers
    → Adds (record nothing { kind = k; method = m }) (codes "--workers") value
    (record nothing { kind = k; method = m; workers = meant value workers })
adds_workers k m None workers says = refl
adds_workers k m (Some value) workers says =
    ap (option_map (λ (n : ℕ). record nothing { kind = k; method = m; workers = Some n })) says

adds_cells : (k : Option KindName) (m : Option Method) (w : Option ℕ) (value : Option Text) (cells : ℕ)
    → Means number_of 262144 value cells
    → Adds (record nothing { kind = k; method = m; workers = w }) (codes "--cells") value
    (record nothing { kind = k; method = m; workers = w; cells = meant value cells })
adds_cells k m w None cells says = refl
adds_cells k m w (Some value) cells says =
    ap (option_map (λ (n : ℕ). record nothing { kind = k; method = m; workers = w; cells = Some n })) says

-- pairs that others follow
one_pair : (option : Text) (value : Option Text) (given more : Given) (rest : List Text) → 0 < length rest → Adds given option value more
    → pairs given (pair_of option value ++ rest) ≡ pairs more rest
one_pair option value given more [] some adds = absurd (omega arith)
one_pair option None given more (word ∷ rest) some adds = ap (λ g. pairs g (word ∷ rest)) (sym adds)
one_pair option (Some value) given more (word ∷ rest) some adds = ap (option_and_then (λ g. pairs g (word ∷ rest))) adds

pub longer : (option : Text) (value : Option Text) (rest : List Text) → 0 < length rest → 0 < length (pair_of option value ++ rest)
longer option None rest some = some
longer option (Some value) rest some = omega arith

pub regrouped : (a b c d e : List Text) → (((a ++ b) ++ c) ++ d) ++ e ≡ a ++ (b ++ (c ++ (d ++ e)))
regrouped a b c d e = simp append_assoc

-- what the options give
abbrev pub given_by : List Row → Settings → Given
given_by rows settings = record nothing {
  kind = meant (first_of (codes "kind") rows) settings.kind;
  method = meant (first_of (codes "method") rows) settings.method;
  workers = meant (first_of (codes "workers") rows) settings.workers;
  cells = meant (first_of (codes "cells") rows) settings.cells;
}

pairs_said : (rows : List Row) (settings : Settings) → MeanOptions rows settings → (last : List Text) → 0 < length last
    → pairs nothing (pairs_of rows ++ last) ≡ pairs (given_by rows settings) last
pairs_said rows settings says last some =
    let kind = first_of (codes "kind") rows in
    let method = first_of (codes "method") rows in
    let workers = first_of (codes "workers") rows in
    let cells = first_of (codes "cells") rows in
    let fourth = pair_of (codes "--cells") cells ++ last in
    let third = pair_of (codes "--workers") workers ++ fourth in
    let second = pair_of (codes "--method") method ++ third in
    let some_fourth : 0 < length fourth = longer (codes "--cells") cells last some in
    let some_third : 0 < length third = longer (codes "--workers") workers fourth some_fourth in
    let some_second : 0 < length second = longer (codes "--method") method third some_third in
    let k = meant kind settings.kind in
    let m = meant method settings.method in
    let w = meant workers settings.workers in
    ap (pairs nothing) (regrouped (pair_of (codes "--kind") kind) (pair_of (codes "--method") method)
    (pair_of (codes "--workers") workers) (pair_of (codes "--cells") cells) last)
    ∙ one_pair (codes "--kind") kind _ _ second some_second (adds_kind kind settings.kind says.kind)
    ∙ one_pair (codes "--method") method _ _ third some_third (adds_method k method settings.method says.method)
    ∙ one_pair (codes "--workers") workers _ _ fourth some_fourth (adds_workers k m workers settings.workers says.workers)
    ∙ one_pair (codes "--cells") cells _ _ last some (adds_cells k m w cells settings.cells says.cells)

pub with_usual_said : (rows : List Row) (settings : Settings) → MeanOptions rows settings → with_usual (given_by rows settings) ≡ settings
with_usual_said rows settings says =
    let kind = meant_or_usual kind_of StarBmd (first_of (codes "kind") rows) settings.kind says.kind in
    let method = meant_or_usual method_of Forward (first_of (codes "method") rows) settings.method says.method in
    let workers = meant_or_usual number_of 1 (first_of (codes "workers") rows) settings.workers says.workers in
    let cells = meant_or_usual number_of 262144 (first_of (codes "cells") rows) settings.cells says.cells in
    rw (kind, method, workers, cells) refl

settings_said : (rows : List Row) (settings : Settings) → HasSettings rows settings
    → settings_of (given_by rows settings) ≡ Some settings
settings_said rows settings says =
    ap (λ (s : Settings). if is_within s.workers s.cells then Some s else None) (with_usual_said rows settings says.options)
    ∙ (rw says.within refl)

-- a command word, pairs and last words
abbrev pub read_front : Text → Option (Given × List Text) → Option PlainCommand
read_front command =
    option_and_then (λ front. option_and_then (λ settings. command_by command settings front.1) (settings_of front.0))

front_said : (command : Text) (rows : List Row) (settings : Settings) → HasSettings rows settings
    → (last : List Text) → 0 < length last → ((given : Given) → pairs given last ≡ Some (given, last))
    → in_plain_form (command ∷ (pairs_of rows ++ last)) ≡ command_by command settings last
front_said command rows settings says last some ends =
    ap (read_front command) (pairs_said rows settings says.options last some ∙ ends (given_by rows settings))
    ∙ ap (option_and_then (λ s. command_by command s last)) (settings_said rows settings says)

named : (settings : Settings) (netlist spec : Text) → is_name netlist ≡ true → is_name spec ≡ true
    → check_of (codes "check") settings netlist spec ≡ Some (check settings netlist spec)
named settings netlist spec first second = rw (first, second) refl

joined : (front : List Text) (a b : Option Text) (x y : Text) → a ≡ Some x → b ≡ Some y
    → (front ++ word_of a) ++ word_of b ≡ front ++ (x ∷ y ∷ [])
joined front a b x y first second = rw (first, second) (append_assoc front (x ∷ []) (y ∷ []))

pub check_said : (rows : List Row) (settings : Settings) (netlist spec : Text) → HasSettings rows settings
    → HasName rows (codes "NETLIST") netlist → HasName rows (codes "SPEC") spec
    → in_plain_form (check_words rows) ≡ Some (check settings netlist spec)
check_said rows settings netlist spec says first second =
    ap (λ words. in_plain_form (codes "check" ∷ words)) (joined (pairs_of rows) _ _ netlist spec first.value second.value)
    ∙ front_said (codes "check") rows settings says (netlist ∷ spec ∷ []) (lit< tt) (λ given. refl)
    ∙ named settings netlist spec first.allowed second.allowed

pub gen_said : (rows : List Row) (settings : Settings) (size : ℕ) → HasSettings rows settings → HasSize rows size
    → in_plain_form (gen_words rows) ≡ Some (gen settings size)
gen_said rows settings size says last =
    ap (λ word. in_plain_form (codes "gen" ∷ (pairs_of rows ++ word_of word))) last.value
    ∙ front_said (codes "gen") rows settings says (last.text ∷ []) (lit< tt) (λ given. refl)
    ∙ ap (option_map (gen settings)) last.allowed
