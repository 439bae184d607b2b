-- A valid structure with one table replaced.
use mathlib.Core.Path.{◌≡◌, ◌∙◌}
use mathlib.Core.List.{List}
use Prim.Native.Nat.{ℕ}
use lib.ListN.{length}
use mathlib.Core.Bool.{Bool}
use Rattle.ids.proofs.Sorted.{All, all_map}
use Rattle.unification.specs.Roots.{root_of, Formed}
use Rattle.semantics.specs.Structure.{Fact, FuncApp, PredApp, Pair, Var, Ambient, Structure, max_pairs, max_impositions, max_func_apps, max_facts}
use Rattle.semantics.specs.Structure.{max_pred_apps, max_vars, compare_fact, compare_func_app, compare_pred_app, compare_var, compare_ambient, with_links}
use Rattle.semantics.specs.Structure.{with_facts, with_func_apps, with_pred_apps, with_vars, with_ambients, with_pairs, with_impositions, with_flags}
use Rattle.semantics.specs.Calls.{Answer, leaves}
use Rattle.semantics.specs.Valid.{Counts, PairValid, FactValid, FuncAppValid, PredAppValid, VarValid, AmbientValid, OnRoot, Queue, Table}
use Rattle.semantics.specs.Valid.{ValidStructure}

module _ (c : Counts) (s : Structure) (v : ValidStructure c s) where
  -- other tables and flags, over the same elements and facts
  tables : {xs : List FuncApp} {ps : List PredApp} {vs : List Var} {bs : List Ambient} {qs : List Pair} {is : List Fact} (started settled : Bool)
      → Table (FuncAppValid c) compare_func_app max_func_apps xs → Table (PredAppValid c) compare_pred_app max_pred_apps ps
      → Table (VarValid c) compare_var max_vars vs → Table (AmbientValid c) compare_ambient c.types bs → Queue (PairValid c) max_pairs qs
      → Queue (FactValid c) max_impositions is
      → ValidStructure c
      (with_func_apps xs (with_pred_apps ps (with_vars vs (with_ambients bs (with_pairs qs (with_impositions is (with_flags started settled s)))))))
  tables started settled funcs preds variables ambients pairs impositions = record {
    els = v.els;
    els_most = v.els_most;
    links = v.links;
    marks = v.marks;
    facts = v.facts;
    facts_rooted = v.facts_rooted;
    func_apps = funcs;
    pred_apps = preds;
    vars = variables;
    ambients = ambients;
    pairs = pairs;
    impositions = impositions;
  }

  -- what an accepted call leaves behind
  pub flags_valid : (starts : Bool) (a : Answer) → ValidStructure c (leaves starts a s)
  unfolding leaves
  flags_valid starts a = tables _ _ v.func_apps v.pred_apps v.vars v.ambients v.pairs v.impositions

  -- other links, with the same roots
  pub links_valid : (ks : List ℕ) → Formed ks → length ks ≡ length s.links → ((e : ℕ) → root_of ks e ≡ root_of s.links e)
      → ValidStructure c (with_links ks s)
  links_valid ks f l same = record {
    els = l ∙ v.els;
    els_most = v.els_most;
    links = f;
    marks = v.marks;
    facts = v.facts;
    facts_rooted = all_map (λ (x : Fact) (k : OnRoot s.links x). same x.el ∙ k) s.facts v.facts_rooted;
    func_apps = v.func_apps;
    pred_apps = v.pred_apps;
    vars = v.vars;
    ambients = v.ambients;
    pairs = v.pairs;
    impositions = v.impositions;
  }

  -- other facts, which stand at roots
  pub facts_valid : (fs : List Fact) → Table (FactValid c) compare_fact max_facts fs → All (OnRoot s.links) fs → ValidStructure c (with_facts fs s)
  facts_valid fs t rooted = record {
    els = v.els;
    els_most = v.els_most;
    links = v.links;
    marks = v.marks;
    facts = t;
    facts_rooted = rooted;
    func_apps = v.func_apps;
    pred_apps = v.pred_apps;
    vars = v.vars;
    ambients = v.ambients;
    pairs = v.pairs;
    impositions = v.impositions;
  }

  pub pairs_valid : (ps : List Pair) → Queue (PairValid c) max_pairs ps → ValidStructure c (with_pairs ps s)
  pairs_valid ps q = tables _ _ v.func_apps v.pred_apps v.vars v.ambients q v.impositions

  pub impositions_valid : (fs : List Fact) → Queue (FactValid c) max_impositions fs → ValidStructure c (with_impositions fs s)
  impositions_valid fs q = tables _ _ v.func_apps v.pred_apps v.vars v.ambients v.pairs q

  pub func_apps_valid : (xs : List FuncApp) → Table (FuncAppValid c) compare_func_app max_func_apps xs → ValidStructure c (with_func_apps xs s)
  func_apps_valid xs t = tables _ _ t v.pred_apps v.vars v.ambients v.pairs v.impositions

  pub pred_apps_valid : (xs : List PredApp) → Table (PredAppValid c) compare_pred_app max_pred_apps xs → ValidStructure c (with_pred_apps xs s)
  pred_apps_valid xs t = tables _ _ v.func_apps t v.vars v.ambients v.pairs v.impositions

  pub vars_valid : (xs : List Var) → Table (VarValid c) compare_var max_vars xs → ValidStructure c (with_vars xs s)
  vars_valid xs t = tables _ _ v.func_apps v.pred_apps t v.ambients v.pairs v.impositions

  pub ambients_valid : (xs : List Ambient) → Table (AmbientValid c) compare_ambient c.types xs → ValidStructure c (with_ambients xs s)
  ambients_valid xs t = tables _ _ v.func_apps v.pred_apps v.vars t v.pairs v.impositions
