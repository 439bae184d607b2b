-- `read_bytes` meets its contract.
use mathlib.Core.Path.{refl, sym, ap, ◌∙◌}
use mathlib.Core.List.{map}
use native.Mathlib.Omega.{arith}
use lib.ListN.{length, take, length-take}
use lib.Seq.{take_all, length-take-le}
use Rattle.decoding.proofs.Reading.{read_more}
use Rattle.decoding.proofs.read_bytes.Goals as goal

pub loop-i-init : goal.loop-i-init
loop-i-init g c = refl

pub loop-i-preserved : goal.loop-i-preserved
loop-i-preserved g c =
    let n = length c.args.values.now in
    read_more g.T.InByte.of_byte c.loop-i.values (take n c.args.bytes.now) c.loop-i.invariant
    (omega (arith, c.loop-i-test.true, length-take n c.args.bytes.now, c.loop-i.auto.values)) c.loop-i-test.true c.of_byte.ensures

pub returns : goal.returns
returns g c =
    let n = length c.args.values.now in
    let l = c.loop-i in
    let bytes = take n c.args.bytes.now in
    sym (take_all l.i l.values (omega (arith, c.loop-i-test.false, length-take-le n c.args.bytes.now c.requires, l.auto.values)))
    ∙ l.invariant ∙ ap (map g.T.InByte.of_byte) (take_all l.i bytes c.loop-i-test.false)
