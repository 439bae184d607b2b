-- `put_bytes` meets its contract.
use mathlib.Core.Path.{ap, ◌∙◌}
use Rattle.storing.proofs.Writing.{written_nothing, written_room, written_next, written_all}
use Rattle.storing.proofs.put_bytes.Goals as goal

pub loop-value-init : goal.loop-value-init
loop-value-init g c = written_nothing _ _

pub bounds-buffer-end : goal.bounds-buffer-end
bounds-buffer-end g c = written_room g.T.InByte.byte c.args.values.now c.loop-value.invariant c.loop-value-test.true c.requires

pub loop-value-preserved : goal.loop-value-preserved
loop-value-preserved g c =
    written_next g.T.InByte.byte c.args.values.now c.loop-value.invariant c.loop-value-test.true c.requires c.value-item.result
    (c.byte.ensures ∙ ap g.T.InByte.byte c.value-item.is)

pub returns : goal.returns
returns g c = written_all g.T.InByte.byte c.args.values.now c.loop-value.invariant c.loop-value-test.false
