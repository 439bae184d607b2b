-- `store` meets its contract.
use mathlib.Core.Path.{◌≡◌, ◌∙◌}
use native.Mathlib.Omega.{arith}
use lib.ListN.{length}
use Rattle.structure.specs.View.{structure_of}
use Rattle.file.specs.File as parking
use Rattle.storing.proofs.Parts.{stored_none, stored_all}
use Rattle.storing.proofs.store.Goals as goal
use Rattle.storing.proofs.store.Goals.{After-write-n}

-- the file is as long as its bytes
size : (c : After-write-n) → c.write-n.result ≡ length (parking.store (structure_of c.args.structure))
size c = omega (arith, c.write-n.ensures.0.end)

pub returns-then-buffer-n : goal.returns-then-buffer-n
returns-then-buffer-n c =
    stored_none (structure_of c.args.structure) c.args.buffer.now (size (goal.at.returns-then-buffer-n c).After-write-n) c.if-buffer-n.true

pub returns : goal.returns
returns c =
    stored_all (structure_of c.args.structure) c.args.buffer.now (c.copy_from_slice.ensures.after ∙ c.write-n.ensures.0.is) (size (goal.at.returns c).After-write-n) c.if-buffer-n.false
