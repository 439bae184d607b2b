-- `Structure::accept` meets its contract.
use mathlib.Core.Bool.{true}
use mathlib.Core.List.{[]}
use Rattle.semantics.specs.Structure.{with_flags}
use Rattle.semantics.specs.Calls.{answers, machine, leaves}
use Rattle.structure.specs.View.{structure_of, answer_of}
use Rattle.structure.proofs.Structure.accept.Goals as goal

pub returns : goal.returns
unfolding leaves
returns c =
    let a = c.args in
    λ g i. answers (answer_of [] a.answer) (machine g (with_flags true (c.settled_by.ensures i) (structure_of a.self)))
