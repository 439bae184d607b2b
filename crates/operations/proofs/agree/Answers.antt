-- `agree` meets its contract.
use Rattle.ids.specs.Ids.{els_of}
use Rattle.operations.specs.View.{side_of}
use Rattle.operations.proofs.Inserting.{agreed}
use Rattle.operations.proofs.agree.Goals as goal

pub returns : goal.returns
returns c =
    let e = c.args.equation in
    agreed (els_of e.parents) (side_of e.left) (side_of e.right) c.key_of-left.ensures c.key_of-right.ensures c.give-there.ensures
    c.give.ensures
