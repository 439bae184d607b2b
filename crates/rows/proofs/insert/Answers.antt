-- `insert` meets its contract.
use mathlib.Core.Path.{refl}
use Rattle.rows.proofs.Shifting.{inserted_at, place_within, inserted_before}
use Rattle.rows.proofs.insert.Goals as goal

pub returns-in_default : goal.returns-in_default
returns-in_default g c =
    inserted_at g.T.Keyed.order g.T.Keyed.seen _ _ _ c.requires.0 c.position.ensures c.in_default.is

pub place-requires : goal.place-requires
place-requires g c =
    let room = c.requires.0 in
    (place_within g.T.Keyed.order g.T.Keyed.seen _ _ _ room c.position.ensures c.in-Before.is, room)

pub returns : goal.returns
returns g c =
    inserted_before g.T.Keyed.order g.T.Keyed.seen _ _ _ c.requires.0 c.position.ensures c.in-Before.is refl c.place.ensures
