-- `row` of `Impositions` meets its contract.
use mathlib.Core.List.{◌∷◌}
use Rattle.ids.specs.Ids.{els_of}
use Rattle.file.specs.Rows.{imposition_row, fact_row}
use Rattle.storing.proofs.Listed.{places_last}
use Rattle.storing.proofs.ImpositionsTable.row.Goals as goal

pub returns : goal.returns
unfolding imposition_row fact_row
returns c =
    let fact = c.args.fact in
    λ i. fact.el.0 ∷ fact.ct.typ.0 ∷ places_last (els_of fact.ct.parents) c.places.ensures i
