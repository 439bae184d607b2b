-- `follow` meets its contract.
use Rattle.sheet.proofs.Laws.{follows_end, follows_on}
use Rattle.structure.specs.View.{machine_of}
use Rattle.sheet.proofs.follow.Goals as goal

pub returns-then-position-eq0 : goal.returns-then-position-eq0
returns-then-position-eq0 c =
    let at = c.args.position in
    follows_end (machine_of c.args.machine) at.count at.index at.done c.if-position-eq0.true c.at_stage.ensures

pub returns : goal.returns
returns c =
    let at = c.args.position in
    follows_on (machine_of c.args.machine) at.count at.index at.done c.if-position-eq0.false c.at_stage-2.ensures
