-- `Line::put_word` meets its contract. The rest of the word is still to be added.
use mathlib.Core.List.{[], ◌∷◌}
use native.Mathlib.Numerals.{add-one}
use lib.ListN.{get_or, drop_of_length-le}
use lib.Seq.{drop-cons}
use Rattle.lines.specs.View.{line_of}
use Rattle.lines.proofs.Puts.{put_turn, put_done, put_short}
use Rattle.lines.proofs.Line.put_word.Goals as goal

pub loop-b-preserved : goal.loop-b-preserved
loop-b-preserved c =
    let at = c.loop-b in
    let word = c.args.word.now in
    let turn = rw (drop-cons word at.b-index 0 c.loop-b-test.true, ← add-one at.b-index) at at.invariant.0 in
    (put_turn _ (get_or word at.b-index 0 ∷ []) _ turn c.put-line.ensures, put_short _ _ c.put-line.ensures)

pub returns : goal.returns
returns c =
    let at = c.loop-b in
    put_done (line_of at.line) _ at.invariant.1 (drop_of_length-le _ c.loop-b-test.false) at.invariant.0
