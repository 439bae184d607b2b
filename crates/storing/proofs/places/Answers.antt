-- `places` meets its contract.
use Rattle.ids.specs.Ids.{els_of}
use Rattle.storing.proofs.Listed.{in_places}
use Rattle.storing.proofs.places.Goals as goal

pub returns : goal.returns
returns c = in_places (els_of c.args.list) c.size-count.ensures c.place.ensures c.place-2.ensures c.place-3.ensures c.place-4.ensures
