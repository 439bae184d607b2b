-- `word` meets its contract.
use mathlib.Core.Path.{sym}
use Prim.Native.Nat.{◌+◌, ◌<◌}
use native.Mathlib.Omega.{arith}
use lib.ListN.{length}
use Rattle.records.proofs.Laws.{word_here, word_past}
use Rattle.records.proofs.word.Goals as goal

pub returns-then-bytes-at : goal.returns-then-bytes-at
returns-then-bytes-at c =
    sym (word_past c.args.bytes.now c.args.at (omega arith))

pub returns-then-bytes-at-eq1 : goal.returns-then-bytes-at-eq1
returns-then-bytes-at-eq1 c =
    sym (word_past c.args.bytes.now c.args.at (omega arith))

pub returns : goal.returns
returns c =
    let here : c.args.at + 1 < length c.args.bytes.now = omega arith in
    omega (arith, word_here c.args.bytes.now c.args.at here, c.from_le_bytes.ensures)
