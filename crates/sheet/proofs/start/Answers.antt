-- `start` meets its contract.
use Rattle.sheet.proofs.Laws.{starts_empty, starts_uneven, starts_long, starts}
use Rattle.sheet.proofs.start.Goals as goal
use Rattle.sheet.proofs.start.Goals.{then-length-eq0-via-then-length-eq0, then-length-eq0-via-else-length-eq0+then-length-ne0, then-length-eq0-via-else-length-eq0+else-length-ne0+then-length-gt-MAX_BYTES}

pub returns-then-length-eq0 : goal.returns-then-length-eq0
returns-then-length-eq0 c =
    let n = c.args.length in
    let new = c.new-machine.ensures in
    elim c.then-length-eq0.branch [
      | then-length-eq0-via-then-length-eq0 w ↦ starts_empty n new w.if-length-eq0.true c.at_stage.ensures
      | then-length-eq0-via-else-length-eq0+then-length-ne0 w ↦ starts_uneven n new w.if-length-eq0.false w.if-length-ne0.true c.at_stage.ensures
      | then-length-eq0-via-else-length-eq0+else-length-ne0+then-length-gt-MAX_BYTES w ↦
          starts_long n new w.if-length-eq0.false w.if-length-ne0.false w.if-length-gt-MAX_BYTES.true c.at_stage.ensures
    ]

pub returns : goal.returns
returns c =
    starts c.args.length c.new-machine.ensures c.if-length-eq0.false c.if-length-ne0.false c.if-length-gt-MAX_BYTES.false c.at_stage-2.ensures
