-- `pechunaq_next_line` meets its contract.
use mathlib.Core.Path.{refl, ◌∙◌}
use Rattle.sheet.specs.View.{piece_of}
use Rattle.sheet.proofs.Laws.{both}
use Rattle.pechunaq.specs.Session.{whole_records}
use Rattle.pechunaq.specs.View.{session_of}
use Rattle.pechunaq.proofs.Laws.{takes}
use Rattle.pechunaq.proofs.pechunaq_next_line.Goals as goal

pub returns : goal.returns
returns c =
    let a = c.args in
    takes (whole_records a.sheet.now) (session_of a.session) (piece_of c.up_to_line-piece.result) c.from.ensures c.up_to_line-piece.ensures
    (c.from-2.ensures ∙ both c.new.ensures refl)
