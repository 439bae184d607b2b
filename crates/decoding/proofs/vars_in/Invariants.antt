use Prim.Native.Nat.{◌-◌}
use Rattle.semantics.specs.Structure.{Var, max_vars}
use Rattle.semantics.proofs.Orders.{var_ordered}
use Rattle.bindings.specs.View.{vars_of}
use Rattle.file.specs.Rows.{var_in, pair_columns}
use Rattle.decoding.proofs.Bindings.{Bound}
use Rattle.decoding.proofs.vars_in.Given as goal

abbrev pub invariant-loop-i : goal.invariant-loop-i
invariant-loop-i l = Bound var_ordered (λ (v : Var). v.key) max_vars var_in pair_columns l.n l.columns (vars_of l.table) l.i

abbrev pub decreases-loop-i : goal.decreases-loop-i
decreases-loop-i l = l.n - l.i
