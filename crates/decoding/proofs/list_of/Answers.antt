-- `list_of` meets its contract.
use mathlib.Core.List.{[], ◌∷◌}
use Rattle.ids.specs.Ids.{el_of}
use Rattle.ids.proofs.Views.{map_take}
use Rattle.decoding.proofs.list_of.Goals as goal

pub returns : goal.returns
returns c =
    let a = c.args in
    map_take el_of a.len (record { 0 = a.a } ∷ record { 0 = a.b } ∷ record { 0 = a.c } ∷ record { 0 = a.d } ∷ [])
