-- `find_conflicts` meets its contract.
use Rattle.signature.specs.Model.{sig_of}
use Rattle.conflicts.proofs.Laws.{conflicts_alike}
use Rattle.carrying.proofs.find_conflicts.Goals as goal

pub after_conflicting-requires : goal.after_conflicting-requires
after_conflicting-requires c =
    let g = sig_of c.args.machine.signature in
    conflicts_alike g c.type_conflicts.result (c.type_conflicts.ensures g)
