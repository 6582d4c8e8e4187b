-- A table of 512 cells for two passes, worked.
use Rattle.std.specs.Prelude.{◌≡◌, [], ◌∷◌, refl}
use Rattle.atomic_table.specs.Seated.{TableId}
use Rattle.table_rule.specs.Views.{fresh, take_chunk}
use Rattle.table_rule.specs.declared.layout.Layout.{Layout}
use Rattle.table_rule.specs.declared.view.PassView.{PassView}
use Rattle.unique_table.specs.Exploring.{drafted}
use Rattle.unique_table.specs.Passes.{pass_view, IsOneTable}
use Rattle.unique_table.specs.Values.{names_of, begun, IsOf}
use Rattle.unique_table.specs.declared.table.TableValue.{TableValue}
use Rattle.unique_table.specs.declared.token.PassValue.{PassValue}

abbrev pub id : TableId
id = record { words = 5123; slots = 0; views_name = 3; atom = 4; block = 5; offset = 0; slot_names = [] }

names_is : names_of id ≡ 5123 ∷ 0 ∷ 3 ∷ 4 ∷ 5 ∷ 0 ∷ []
names_is = refl

abbrev pub layout : Layout
layout = record { buckets = 1024; cells = 512; chunk = 256; tokens = 2 }

abbrev pub table : TableValue
table = record { names = names_of id; layout = layout }

-- the token of the second pass, and its stamp
abbrev pub second : PassValue
second = begun table (1 ∷ [])

second_stamp : (pass_view second).stamp ≡ 6 ∷ 5123 ∷ 0 ∷ 3 ∷ 4 ∷ 5 ∷ 0 ∷ 2 ∷ 0 ∷ 0 ∷ 0 ∷ 1 ∷ []
second_stamp = refl

second_room : (pass_view second).room ≡ 512
second_room = refl

second_is_of : IsOf table second
second_is_of = (refl, refl)

one_table : IsOneTable second (begun table (0 ∷ []))
one_table = (refl, refl)

-- it owns the cells of chunk 1, and writes a draft into the first
abbrev pub drafting : PassView
drafting = drafted (1 ∷ 0 ∷ 0 ∷ 0 ∷ 0 ∷ 0 ∷ 1 ∷ 0 ∷ []) (take_chunk layout 1 (fresh (1 ∷ [])))

drafting_owns : drafting.taken ≡ 1 ∷ []
drafting_owns = refl
