-- `marks_in` meets its contract.
use native.Mathlib.Omega.{arith}
use mathlib.Core.Bool.{Bool}
use lib.ListN.{length-take, length-replicate}
use Rattle.file.specs.Rows.{bit_in}
use Rattle.decoding.proofs.Reading.{bytes_said}
use Rattle.decoding.proofs.marks_in.Goals as goal

pub returns : goal.returns
returns c = bytes_said bit_in c.args.at c.args.bytes.now c.read_bytes.ensures (omega (arith, c.requires.0, length-take {A = Bool}, length-replicate {A = Bool})) (omega (arith, c.requires.0, c.requires.1, length-take {A = Bool}, length-replicate {A = Bool})) _
