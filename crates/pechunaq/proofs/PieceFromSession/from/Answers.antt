-- `from` meets its contract.
use Rattle.structure.specs.View.{structure_of}
use Rattle.conflicts.specs.View.{conflicts_of}
use Rattle.lines.specs.View.{line_of}
use Rattle.semantics.specs.Calls.{machine}
use Rattle.sheet.specs.Pieces.{piece}
use Rattle.pechunaq.proofs.PieceFromSession.from.Goals as goal

pub returns : goal.returns
returns c =
    let s = c.args.session in
    λ i. piece (line_of s.line) (record {
      stage = c.stage_of.ensures i;
      machine = machine (c.signature_of.ensures i) (structure_of s.structure);
      count = s.count;
      index = s.index;
      done = s.done;
      conflicts = conflicts_of s.conflicts;
      printed = s.printed;
    })
