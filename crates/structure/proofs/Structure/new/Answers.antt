-- `Structure::new` meets its contract.
use mathlib.Core.Bool.{false}
use lib.ListN.{take, replicate}
use Rattle.unification.specs.Roots.{max_els, links_of}
use Rattle.semantics.specs.Structure.{empty, with_links, with_marks, with_facts, with_func_apps, with_pred_apps, with_vars, with_ambients}
use Rattle.semantics.specs.Structure.{with_pairs, with_impositions}
use Rattle.structure.proofs.Structure.new.Goals as goal

pub returns : goal.returns
unfolding empty
returns c =
    let u = c.new-6.ensures in
    λ i. with_facts (c.new.ensures i) (with_pred_apps (c.new-2.ensures i) (with_func_apps (c.new-3.ensures i)
    (with_vars (c.new-4.ensures i) (with_ambients (c.new-5.ensures i) (with_links (links_of (u i))
    (with_marks (take (u i).len (replicate max_els false)) (with_pairs (c.new-7.ensures i) (with_impositions (c.new-8.ensures i) empty))))))))
