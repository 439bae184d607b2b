-- `Head::is_over` meets its contract.
use lib.Dec.{ltb}
use Rattle.unification.specs.Roots.{max_els}
use Rattle.signature.specs.Model.{max_types}
use Rattle.semantics.specs.Structure.{max_facts, max_func_apps, max_pred_apps, max_impositions, max_vars, max_pairs}
use Rattle.file.specs.File.{any_over, counts}
use Rattle.decoding.proofs.Reading.{eight_tests}
use Rattle.decoding.proofs.Head.is_over.Goals as goal

pub returns : goal.returns
unfolding any_over counts
returns c =
    let h = c.args.self in
    eight_tests (ltb max_els h.els) (ltb max_facts h.facts) (ltb max_func_apps h.func_apps) (ltb max_pred_apps h.pred_apps)
    (ltb max_impositions h.impositions) (ltb max_vars h.vars) (ltb max_types h.ambients) (ltb max_pairs h.pairs)
