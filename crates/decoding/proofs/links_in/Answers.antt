-- `links_in` meets its contract.
use mathlib.Core.Path.{◌∙◌}
use mathlib.Core.List.{map-id}
use Prim.Native.Nat.{ℕ}
use native.Mathlib.Omega.{arith}
use lib.ListN.{length-take, length-replicate}
use Rattle.decoding.proofs.Reading.{bytes_said}
use Rattle.decoding.proofs.links_in.Goals as goal

pub returns : goal.returns
returns c = bytes_said (λ (n : ℕ). n) c.args.at c.args.bytes.now c.read_bytes.ensures (omega (arith, c.requires.0, length-take {A = ℕ}, length-replicate {A = ℕ})) (omega (arith, c.requires.0, c.requires.1, length-take {A = ℕ}, length-replicate {A = ℕ})) _ ∙ map-id _
