use Rattle.std.proofs.Common.{ℕ, List, ◌++◌, map, filter_map, Bor, sym, ap, ◌∙◌}
use Rattle.std.proofs.lemmas.List.{append-nil}
use Rattle.bench_reader.specs.Symbols.{Symbol, symbols}
use Rattle.bench_reader.specs.Views.{name_text}
use Rattle.bench_reader.proofs.InputLemmas.{inputs_listed}
use Rattle.bench_reader.proofs.inputs.Inputs.names.Goals as goal

pub returns : goal.returns
returns c =
    let found : List (List ℕ) = map (λ (name : Bor (List ℕ)). name.now) c.loop-symbol.found.items in
    sym (append-nil found)
    ∙ sym (ap (λ (more : List Symbol). found ++ filter_map name_text more) c.in_default.ensures.symbol)
    ∙ c.loop-symbol.invariant
    ∙ inputs_listed (symbols c.self.inside.text.now) c.self.inside.count c.self.invariant
    ∙ c.self.view_is
