use Prim.Native.Nat.{◌-◌}
use Rattle.signature.specs.Model.{max_types}
use Rattle.semantics.specs.Structure.{Ambient}
use Rattle.semantics.proofs.Orders.{ambient_ordered}
use Rattle.bindings.specs.View.{ambients_of}
use Rattle.file.specs.Rows.{ambient_in, pair_columns}
use Rattle.decoding.proofs.Bindings.{Bound}
use Rattle.decoding.proofs.ambients_in.Given as goal

abbrev pub invariant-loop-i : goal.invariant-loop-i
invariant-loop-i l = Bound ambient_ordered (λ (a : Ambient). a.typ) max_types ambient_in pair_columns l.n l.columns (ambients_of l.table) l.i

abbrev pub decreases-loop-i : goal.decreases-loop-i
decreases-loop-i l = l.n - l.i
