-- `pechunaq_hand_in` meets its contract.
use mathlib.Core.Path.{ap}
use borrow.Author.Rules.{rules}
use Rattle.sheet.specs.Pieces.{PieceM}
use Rattle.pechunaq.specs.View.{session_of}
use Rattle.pechunaq.proofs.Laws.{hands}
use Rattle.pechunaq.proofs.pechunaq_hand_in.Goals as goal

pub returns : goal.returns
returns c =
    let a = c.args in
    hands a.bytes.now (session_of a.session) c.from.result.progress c.carry_out-carried.result (search rules)
    (ap (λ (x : PieceM). x.progress) c.from.ensures)
    c.record_in-given.ensures c.carry_out-carried.ensures c.from-2.ensures c.saturating_add.ensures c.after_record-after.ensures c.from-3.ensures
