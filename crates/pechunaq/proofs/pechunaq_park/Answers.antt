-- `pechunaq_park` meets its contract.
use mathlib.Core.Path.{refl}
use Rattle.pechunaq.specs.Session.{parked_by}
use Rattle.pechunaq.proofs.Laws.{parks}
use Rattle.pechunaq.proofs.pechunaq_park.Goals as goal

pub returns-in-Ok : goal.returns-in-Ok
unfolding parked_by
returns-in-Ok c =
    let s = c.store in
    parks s.result s.new.buffer c.in-Ok.is s.ensures refl

pub returns-in-Err : goal.returns-in-Err
unfolding parked_by
returns-in-Err c =
    let s = c.store in
    parks s.result s.new.buffer c.in-Err.is s.ensures refl
