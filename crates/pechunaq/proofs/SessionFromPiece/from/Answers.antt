-- `from` meets its contract.
use Rattle.signature.specs.Model.{sig, view_preds, view_funcs, view_models, view_mor_apps}
use Rattle.structure.specs.View.{structure_of}
use Rattle.conflicts.specs.View.{conflicts_of}
use Rattle.lines.specs.View.{line_of}
use Rattle.semantics.specs.Calls.{machine}
use Rattle.sheet.specs.Pieces.{piece}
use Rattle.pechunaq.proofs.SessionFromPiece.from.Goals as goal

pub returns : goal.returns
returns c =
    let p = c.args.piece.progress in
    let g = p.machine.signature in
    λ i. piece (line_of c.args.piece.line) (record {
      stage = c.stage_number.ensures i;
      machine = machine (sig (c.from.ensures i) (view_preds g.preds) (view_funcs g.funcs) (view_models g.models) (view_mor_apps g.mor_app_funcs)) (structure_of p.machine.structure);
      count = p.position.count;
      index = p.position.index;
      done = p.position.done;
      conflicts = conflicts_of p.conflicts;
      printed = p.printed;
    })
