-- The code's structure and its answers as the definitions speak of them.
use Rattle.std.specs.Prelude.{ℕ, List, [], take}
use Rattle.std.proofs.Math.Option.{Option, none, some}
use Rattle.ids.specs.Ids.{given_els}
use Rattle.unification.specs.declared.Finding.{Finding}
use Rattle.unification.specs.declared.Finding.TheVariants as findings
use Rattle.unification.specs.Roots.{max_els, links_of, found}
use Rattle.signature.specs.Model.{Sig, sig_of}
use Rattle.semantics.specs.Structure as model
use Rattle.semantics.specs.Close as closing
use Rattle.semantics.specs.Close.{report}
use Rattle.semantics.specs.Conflicts.{Conflict}
use Rattle.semantics.specs.Calls as calls
use Rattle.semantics.specs.Calls.{totals, Step, answers, machine}
use Rattle.semantics.specs.Structure.{structure, max_facts, max_func_apps, max_pred_apps, max_vars, max_pairs, max_impositions}
use Rattle.facts.specs.View.{facts_of, impositions_of}
use Rattle.apps.specs.View.{func_apps_of, pred_apps_of}
use Rattle.bindings.specs.View.{vars_of, ambients_of}
use Rattle.equalities.specs.View.{pairs_of}
use Rattle.structure.specs.declared.Limits.{Limits}
use Rattle.structure.specs.declared.Structure.{Structure}
use Rattle.structure.specs.declared.Answer.{Answer}
use Rattle.structure.specs.declared.Answer.TheVariants as variants
use Rattle.structure.specs.declared.Closed.{Closed}
use Rattle.structure.specs.declared.Totals.{Totals}
use Rattle.structure.specs.declared.Stepped.{Stepped}
use Rattle.structure.specs.declared.Machine.{Machine}
use Rattle.structure.specs.declared.Looked.{Looked}
use Rattle.structure.specs.declared.Looked.TheVariants as looked
use Rattle.structure.specs.declared.AmbientParents.{AmbientParents}
use Rattle.structure.specs.declared.Rooting.{Rooting}

-- the limits of the tables
abbrev pub limits : Limits
limits = record {
  els = max_els;
  facts = max_facts;
  func_apps = max_func_apps;
  pred_apps = max_pred_apps;
  vars = max_vars;
  pairs = max_pairs;
  impositions = max_impositions;
}

abbrev pub structure_of : Structure → model.Structure
structure_of s =
    structure (links_of s.unification) (take s.unification.len s.inferred_parent_els) (facts_of s.els) (func_apps_of s.func_apps)
    (pred_apps_of s.pred_apps) (vars_of s.var_els) (ambients_of s.ambient_model_els) (pairs_of s.pending_equalities)
    (impositions_of s.pending_type_impositions) s.started s.settled

abbrev pub machine_of : Machine → calls.Machine
machine_of m = machine (sig_of m.signature) (structure_of m.structure)

-- What a call answers.

abbrev pub closed_of : Closed → closing.Closed
closed_of c = report c.changed c.merges c.rounds c.added

abbrev pub totals_of : Totals → calls.Totals
totals_of t = totals t.closes t.merges

-- with the conflicts that stand beside it
abbrev pub answer_of : List Conflict → Answer → calls.Answer
answer_of cs (variants.Number n) = calls.number n
answer_of cs (variants.Says b) = calls.says b
answer_of cs variants.Done = calls.done
answer_of cs (variants.Closed c) = calls.closed (closed_of c)
answer_of cs (variants.Conflicting n) = calls.conflicting cs n
answer_of cs (variants.Summed t) = calls.summed (totals_of t)
answer_of cs (variants.Refused n) = calls.refuse n

-- what a call on the structure makes of a machine whose signature is g
abbrev pub step_of : Sig → Stepped → Step
step_of g r = answers (answer_of [] r.answer) (machine g (structure_of r.structure))

-- A find.

abbrev pub found_of : Finding → calls.Answer
found_of (findings.Found f) = calls.found (found f)
found_of (findings.Refused n) = calls.refuse n

abbrev pub rooting_of : Sig → Rooting → Step
rooting_of g r = answers (found_of r.find) (machine g (structure_of r.structure))

-- The ambient lookup: its step, and the list that stands beside its answer.

pub record Looking : Type 0 where
  pub step : Step
  pub els : List ℕ

abbrev pub beside : Step → List ℕ → Looking
beside s es = record { step = s; els = es }

abbrev pub parents_in : Option calls.ConcreteType → List ℕ
parents_in none = []
parents_in (some t) = t.parents

-- the elements that an answer lists: none where it is another
abbrev pub els_in : calls.Answer → List ℕ
els_in (calls.number n) = []
els_in (calls.says b) = []
els_in calls.done = []
els_in (calls.closed c) = []
els_in (calls.conflicting cs n) = []
els_in (calls.summed t) = []
els_in (calls.found f) = []
els_in (calls.typed t) = parents_in t
els_in (calls.els es) = es
els_in (calls.refuse n) = []

abbrev pub looking : Step → Looking
looking s = beside s (els_in s.answer)

abbrev pub ambients_looked_of : List ℕ → Looked → calls.Answer
ambients_looked_of es looked.Found = calls.els es
ambients_looked_of es (looked.Refused n) = calls.refuse n

-- the elements stand beside the answer, as many as their length says
abbrev pub looking_of : calls.Machine → AmbientParents → Looking
looking_of m r = beside (answers (ambients_looked_of (given_els r.els) r.answer) m) (given_els r.els)
