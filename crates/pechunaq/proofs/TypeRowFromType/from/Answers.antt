-- `from` meets its contract.
use mathlib.Core.Path.{ap}
use Prim.Native.Nat.{ℕ}
use Rattle.semantics.specs.Sheet.{kind_of}
use Rattle.pechunaq.specs.View.{type_in}
use Rattle.pechunaq.proofs.Laws.{by_kind}
use Rattle.pechunaq.proofs.TypeRowFromType.from.Goals as goal
use Rattle.pechunaq.proofs.TypeRowFromType.from.Goals.{in-Plain, in-Model, in-Enum, in-Mor}

pub returns : goal.returns
unfolding kind_of
returns c =
    let t = c.args.t in
    let of = λ (p : ℕ × ℕ). type_in (record { kind = p.0; model = p.1; parents = t.parents }) in
    elim c.match-t.branch [
      | in-Plain w ↦ by_kind t w.in-Plain.is (ap of w.kind-is)
      | in-Model w ↦ by_kind t w.in-Model.is (ap of w.kind-is)
      | in-Enum w ↦ by_kind t w.in-Enum.is (ap of w.kind-is)
      | in-Mor w ↦ by_kind t w.in-Mor.is (ap of w.kind-is)
    ]
