-- `settle` meets its contract.
use mathlib.Core.Path.{sym, ap, ◌∙◌}
use Rattle.ids.specs.Judge.{verdict_of}
use Rattle.signature.specs.Model.{sig_of}
use Rattle.structure.specs.View.{structure_of}
use Rattle.settle.proofs.Laws.{refuses, accepts}
use Rattle.settle.proofs.settle.Goals as goal

pub returns-in-Refused : goal.returns-in-Refused
returns-in-Refused c =
    let a = c.args in
    let is = c.settle_run-run.ensures in
    c.refuse.ensures (sig_of a.signature)
    ∙ refuses (sig_of a.signature) (structure_of a.structure) (sym is.met ∙ ap verdict_of c.in-Refused.is)

pub returns : goal.returns
returns c =
    let a = c.args in
    let is = c.settle_run-run.ensures in
    c.accept.ensures (sig_of a.signature)
    ∙ accepts (sig_of a.signature) (structure_of a.structure) (sym is.met ∙ ap verdict_of c.in_default.is) is.totals is.after
