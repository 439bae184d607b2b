-- `type_kind` meets its contract.
use mathlib.Core.Path.{sym, ap}
use mathlib.Core.List.{[], ◌∷◌}
use Prim.Native.Nat.{ℕ}
use native.Mathlib.Omega.{arith}
use lib.ListN.{get_or-eq_default}
use Rattle.signature.specs.Model.{plain, model, enum, mor}
use Rattle.semantics.specs.Sheet.{kind_of}
use Rattle.carrying.proofs.type_kind.Goals as goal

pub returns-in-0 : goal.returns-in-0
unfolding kind_of
returns-in-0 c = ap (λ (k : ℕ). kind_of k c.args.b) (sym c.in-0.is)

pub returns-in-1 : goal.returns-in-1
unfolding kind_of
returns-in-1 c = ap (λ (k : ℕ). kind_of k c.args.b) (sym c.in-1.is)

pub returns-in-2 : goal.returns-in-2
unfolding kind_of
returns-in-2 c = ap (λ (k : ℕ). kind_of k c.args.b) (sym c.in-2.is)

pub returns-in_default : goal.returns-in_default
unfolding kind_of
returns-in_default c =
    sym (get_or-eq_default (plain ∷ model ∷ enum ∷ []) (mor c.args.b) {n = c.args.a} (omega arith))
