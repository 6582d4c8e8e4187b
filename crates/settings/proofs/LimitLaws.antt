-- The numbers of a command are within their limits.
use Rattle.std.proofs.Common.{◌≡◌, ℕ, ◌*◌, ◌≤◌, ◌%◌, ◌==◌, ◌&&◌, Bool, true, false, cond, nat_le, List, [], ◌∷◌, codes, Option, Some, None, IfSome, refl, sym, subst}
use Rattle.std.specs.Option.{option_and_then, option_map}
use Rattle.std.specs.Str.{bytes_eq}
use Rattle.std.proofs.lemmas.Bool.{and_parts, leb-true, eqb-true}
use Rattle.settings.specs.Commands.{PlainCommand, check, gen, IsWithinLimits, said, check_of, gen_of, command_by, command_of}
use Rattle.settings.specs.declared.command.Command.{Command}
use Rattle.settings.specs.declared.command.Settings.{Settings}
use Rattle.settings.specs.declared.given.Given.{Given}
use Rattle.multiplier.specs.declared.size.TheConstants.{LEAST_SIZE, MOST_SIZE}
use Rattle.settings.specs.declared.limits.TheConstants.{MOST_WORKERS, MOST_CELLS, CELLS_OF_WORKER}
use Rattle.settings.specs.Limits.{AreWithin, is_within, settings_of, with_usual}
use Rattle.settings.specs.Numbers.{number_of, size_of}
use Rattle.settings.specs.Pairs.{nothing, pairs}
use Rattle.settings.specs.Words.{is_name}

are_within : (s : Settings) → is_within s.workers s.cells ≡ true → AreWithin s
are_within s e =
    let w = s.workers in
    let n = s.cells in
    let p = and_parts (nat_le 1 w && nat_le w MOST_WORKERS && (n % CELLS_OF_WORKER == 0) && nat_le (CELLS_OF_WORKER * w) n) (nat_le n MOST_CELLS) e in
    let q = and_parts (nat_le 1 w && nat_le w MOST_WORKERS && (n % CELLS_OF_WORKER == 0)) (nat_le (CELLS_OF_WORKER * w) n) p.0 in
    let r = and_parts (nat_le 1 w && nat_le w MOST_WORKERS) (n % CELLS_OF_WORKER == 0) q.0 in
    let t = and_parts (nat_le 1 w) (nat_le w MOST_WORKERS) r.0 in
    record {
      some_worker = leb-true 1 w t.0;
      few_workers = leb-true w MOST_WORKERS t.1;
      whole = eqb-true (n % CELLS_OF_WORKER) 0 r.1;
      enough_cells = leb-true (CELLS_OF_WORKER * w) n q.1;
      few_cells = leb-true n MOST_CELLS p.1;
    }

-- a value that is kept on a condition meets it
kept_if : {A : Type 0} (P : A → Type 0) (b : Bool) (x : A) → (b ≡ true → P x) → IfSome (cond b (Some x) None) P
kept_if P true x h = h refl
kept_if P false x h = tt

settings_within : (given : Given) → IfSome (settings_of given) AreWithin
settings_within given = kept_if AreWithin (is_within (with_usual given).workers (with_usual given).cells) (with_usual given) (are_within (with_usual given))

abbrev IsSize : ℕ → Type 0
IsSize n = (LEAST_SIZE ≤ n) × (n ≤ MOST_SIZE)

-- what holds of each value that is gone on with holds of what comes
then_all : {A B : Type 0} (P : A → Type 0) (Q : B → Type 0) (f : A → Option B) (o : Option A) → IfSome o P → ((x : A) → P x → IfSome (f x) Q) → IfSome (option_and_then f o) Q
then_all P Q f None h more = tt
then_all P Q f (Some x) h more = more x h

map_all : {A B : Type 0} (P : A → Type 0) (Q : B → Type 0) (f : A → B) (o : Option A) → IfSome o P → ((x : A) → P x → Q (f x)) → IfSome (option_map f o) Q
map_all P Q f None h more = tt
map_all P Q f (Some x) h more = more x h

any : {A : Type 0} (o : Option A) → IfSome o (λ x. Unit {0})
any None = tt
any (Some x) = tt

sizes : (word : List ℕ) → IfSome (size_of word) IsSize
sizes word = then_all (λ n. Unit {0}) IsSize _ (number_of word) (any (number_of word)) (λ n u. kept_if IsSize (nat_le LEAST_SIZE n && nat_le n MOST_SIZE) n (λ e.
    let parts = and_parts (nat_le LEAST_SIZE n) (nat_le n MOST_SIZE) e in
    (leb-true LEAST_SIZE n parts.0, leb-true n MOST_SIZE parts.1)))

only_if : {A : Type 0} (P : A → Type 0) (b : Bool) (o : Option A) → IfSome o P → IfSome (cond b o None) P
only_if P true o h = h
only_if P false o h = tt

within_by : (command : List ℕ) (s : Settings) (last : List (List ℕ)) → AreWithin s → IfSome (command_by command s last) IsWithinLimits
within_by command s [] h = tt
within_by command s (size ∷ []) h =
    only_if IsWithinLimits (bytes_eq command (codes "gen")) _ (map_all IsSize IsWithinLimits (gen s) (size_of size) (sizes size) (λ n fits. (h, fits.0, fits.1)))
within_by command s (netlist ∷ spec ∷ []) h =
    only_if IsWithinLimits (bytes_eq command (codes "check") && is_name netlist && is_name spec) (Some (check s netlist spec)) h
within_by command s (a ∷ b ∷ c ∷ more) h = tt

pub within_limits : (words : List (List ℕ)) → IfSome (command_of words) IsWithinLimits
within_limits [] = tt
within_limits (command ∷ more) =
    then_all (λ front. Unit {0}) IsWithinLimits _ (pairs nothing more) (any (pairs nothing more)) (λ front u.
    then_all AreWithin IsWithinLimits _ (settings_of front.0) (settings_within front.0) (λ s h. within_by command s front.1 h))

-- so are those of a command that the words say
pub said_within : (words : List (List ℕ)) (c : Option Command) → option_map said c ≡ command_of words → IfSome c (λ x. IsWithinLimits (said x))
said_within words None e = tt
said_within words (Some x) e = subst (λ o. IfSome o IsWithinLimits) (sym e) (within_limits words)
