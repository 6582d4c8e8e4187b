-- For proofs alone: what the reader's own types stand for.
use Rattle.std.specs.Prelude.{ℕ, List, Option, Some, None}
use Rattle.bench_reader.specs.Forms as forms
use Rattle.bench_reader.specs.Statements as statements
use Rattle.bench_reader.specs.Symbols as symbols
use Rattle.bench_reader.specs.declared.form.Form.{Form}
use Rattle.bench_reader.specs.declared.form.Form.TheVariants.{Empty, Input, Output, Gate, NoForm}
use Rattle.bench_reader.specs.declared.statement.Statement.{Statement}
use Rattle.bench_reader.specs.declared.statement.Statement.TheVariants.{AddsInput, AddsOutput, AddsGate}
use Rattle.bench_reader.specs.declared.symbol.Symbol.{Symbol}
use Rattle.bench_reader.specs.declared.symbol.Symbol.TheVariants.{Name, Opening, Closing, Comma, Equals, Stray}

abbrev pub seen_symbol : Symbol → symbols.Symbol
seen_symbol (Name text) = symbols.name text.now
seen_symbol Opening = symbols.opening
seen_symbol Closing = symbols.closing
seen_symbol Comma = symbols.comma
seen_symbol Equals = symbols.equals
seen_symbol Stray = symbols.stray

-- what a name says; nothing for a sign
abbrev pub name_text : symbols.Symbol → Option (List ℕ)
name_text (symbols.name text) = Some text
name_text _ = None

abbrev pub seen_form : Form → forms.Form
seen_form Empty = forms.empty
seen_form (Input net) = forms.input net.now
seen_form (Output net) = forms.output net.now
seen_form (Gate net word inputs) = forms.gate net.now word.now inputs
seen_form NoForm = forms.no_form

abbrev pub seen_statement : Statement → statements.Statement
seen_statement (AddsInput net) = statements.says_input net.now
seen_statement (AddsOutput net) = statements.says_output net.now
seen_statement (AddsGate net word inputs) = statements.says_gate net.now word inputs
