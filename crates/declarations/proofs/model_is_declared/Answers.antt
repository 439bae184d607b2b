-- `model_is_declared` meets its contract.
use mathlib.Core.Path.{sym, ap, ◌∙◌}
use Rattle.signature.specs.declared.TypeKind.{TypeKind}
use Rattle.signature.specs.Model.{kind_of, sig_of}
use Rattle.signature.specs.Calls.{model_declared}
use Rattle.declarations.proofs.model_is_declared.Goals as goal

pub returns-in-Mor : goal.returns-in-Mor
returns-in-Mor c =
    c.is_type.ensures ∙ ap (λ (k : TypeKind). model_declared (sig_of c.args.signature) (kind_of k)) (sym c.in-Mor.is)
