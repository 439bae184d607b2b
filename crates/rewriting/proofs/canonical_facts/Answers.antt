-- `canonical_facts` meets its contract.
use Rattle.std.proofs.Common.{rules, of_calls}
use Rattle.semantics.specs.Structure.{canonical_fact}
use Rattle.el_rows.specs.View.{links_in}
use Rattle.rewriting.proofs.canonical_facts.Goals as goal

pub returns : goal.returns
returns c = c.rewrite.ensures (canonical_fact (links_in c.args.els.now)) (λ row r k. search (rules, of_calls))
