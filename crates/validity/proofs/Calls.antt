-- The empty signature and structure are valid, and every call keeps them so.
use mathlib.Core.Path.{◌≡◌, refl, ap, ◌∙◌}
use mathlib.Core.Bool.{Bool, true, false, not, ◌&&◌}
use mathlib.Core.List.{List, [], ◌∷◌, ◌++◌}
use mathlib.Core.Option.{Option, none, some}
use Prim.Native.Nat.{ℕ, suc, ◌<◌}
use native.Mathlib.Omega.{arith}
use lib.ListN.{length}
use lib.Dec.{eqb, leb}
use borrow.Author.Tests.{ltb-true, leb-false, not-false}
use Rattle.ids.specs.declared.Ordering.{Ordering}
use Rattle.ids.specs.declared.Ordering.TheVariants.{Less}
use Rattle.ids.specs.Ids.{too_long}
use Rattle.ids.specs.Table.{present, placed, lookup_of}
use Rattle.ids.proofs.Judging.{NoneApplies}
use Rattle.ids.proofs.Sorted.{All, all_map, all_at, Ordered, no_test, placed_all, placed_sorted, lookup_sound}
use Rattle.ids.proofs.Sorted.{keys_few}
use Rattle.unification.specs.Roots.{max_els, short_of, find_causes}
use Rattle.unification.proofs.Theorems.{added_formed}
use Rattle.signature.specs.Model as signature
use Rattle.signature.specs.Model.{Sig}
use Rattle.signature.specs.Calls.{is_type, is_func, is_model}
use Rattle.semantics.specs.Structure.{Fact, FuncApp, PredApp, Pair, pair, Var, Ambient, Structure, empty, max_pairs, max_impositions}
use Rattle.semantics.specs.Structure.{max_func_apps, max_pred_apps, max_vars, compare_func_app, compare_pred_app, compare_var, compare_ambient}
use Rattle.semantics.specs.Structure.{canonical_fact, canonical_func_app, with_links, with_pairs}
use Rattle.semantics.specs.Applying.{equate}
use Rattle.semantics.specs.Calls.{is_el, are_els, is_pred, el_causes, with_el, equality_causes, with_equality, is_imposed}
use Rattle.semantics.specs.Applying.{Applied, applied, applied_equal, apply_at, insert_func_app_or_equate}
use Rattle.semantics.specs.Calls.{imposition_causes, with_imposition, applied_to}
use Rattle.semantics.specs.Calls.{application_causes, with_applied, predication_causes, with_pred_app, variable_causes, with_var, ambient_causes}
use Rattle.semantics.specs.Calls.{with_ambient, Call, push_type, push_pred, push_func, push_model, push_mor_app, push_el, equate_els}
use Rattle.semantics.specs.Calls.{impose_type, apply_func, apply_pred, bind_var, bind_ambient, close, type_conflicts, settle, root, root_const}
use Rattle.semantics.specs.Calls.{lookup_type, ambient_parents, Answer, Machine, start, equality_rule, imposition_rule, application_rule}
use Rattle.semantics.specs.Calls.{close_rule, settle_rule, rule, settled_by, leaves, acceptance, step, after_calls}
use Rattle.semantics.specs.Valid.{Counts, counts_at, counts_of, FactValid, FuncAppValid, PredAppValid, VarValid, AmbientValid, OnRoot}
use Rattle.semantics.specs.Valid.{Table, ValidSig, ValidStructure, Unreserved, WellApplied, OfModel, Valid}
use Rattle.semantics.proofs.Orders.{func_app_ordered, pred_app_ordered, var_ordered, ambient_ordered, order_less}
use Rattle.semantics.proofs.Cases.{and_first, and_second, or_first, or_second}
use Rattle.semantics.proofs.Equating.{short_relinked, equate_relinked}
use Rattle.semantics.proofs.Links.{length_push, added_is, root_push}
use Rattle.semantics.proofs.Judged.{step_by_lem, listed_if, fact_if}
use Rattle.semantics.proofs.Settling.{run_keeps}
use Rattle.validity.proofs.Imposing.{canonical_valid}
use Rattle.validity.proofs.Entering.{canonical_entry, canonical_unreserved, canonical_well_applied}
use Rattle.validity.proofs.Operating.{Admitted}
use Rattle.validity.proofs.Closing.{after_close_lem}
use Rattle.validity.proofs.Growing.{CountsGrow, table_place, table_more, queue_more, queue_push, pair_more, fact_more, func_app_more, pred_app_more}
use Rattle.validity.proofs.Growing.{var_more, ambient_more, counted}
use Rattle.validity.proofs.Replacing.{flags_valid, links_valid, pairs_valid, impositions_valid, func_apps_valid, pred_apps_valid}
use Rattle.validity.proofs.Replacing.{vars_valid, ambients_valid}
use Rattle.validity.proofs.Signatures.{empty_sig, empty_valid, type_valid, pred_valid, func_valid, model_valid, mor_app_valid}

-- one entry placed in a table whose keys bound the number of its entries
table_key : {A : Type 0} {P : A → Type 0} {cmp : A → A → Ordering} {limit : ℕ} → Ordered cmp → (key : A → ℕ)
    → ((x y : A) → cmp x y ≡ Less → key x < key y) → ((x : A) → P x → key x < limit) → (x : A) (l : List A) → P x → Table P cmp limit l
    → Table P cmp limit (placed cmp x l)
table_key {A} {P} {cmp} {limit} o key less below x l p t =
    let each = placed_all cmp x P l p t.each in
    let sorted = placed_sorted o x l t.sorted in
    record {
      each = each;
      sorted = sorted;
      most = keys_few cmp key less limit (placed cmp x l) sorted (all_map below (placed cmp x l) each);
    }

-- a test `not a && b` that fails where a does
room_if : (a b : Bool) → (not a && b) ≡ false → a ≡ false → b ≡ false
room_if true b t e = no_test refl e
room_if false b t e = t

var_less : (x y : Var) → compare_var x y ≡ Less → x.key < y.key
unfolding compare_var
var_less x y e = order_less x.key y.key e

ambient_less : (x y : Ambient) → compare_ambient x y ≡ Less → x.typ < y.typ
unfolding compare_ambient
ambient_less x y e = order_less x.typ y.typ e

-- What a call of kinds 6 to 15 shows of the structure that its effect is: `leaves_valid` adds the flags, for all of them.
record ValidEffect (g : Sig) (t : Structure) : Type 0 where
  structure : ValidStructure (counts_of g t) t
  unreserved : All (Unreserved g) t.func_apps
  well_applied : All (WellApplied g) t.func_apps
  of_models : All (OfModel g) t.ambients

leaves_valid : (g : Sig) (t : Structure) → ValidSig g → ValidEffect g t → (a : Answer) → Valid g (leaves true a t)
unfolding leaves
leaves_valid g t sig e a = record {
  sig = sig;
  structure = flags_valid (counts_of g t) t e.structure true a;
  unreserved = e.unreserved;
  well_applied = e.well_applied;
  of_models = e.of_models;
  unstarted = λ q. no_test refl q;
}

-- what is valid with its flags is so without
effect_of : {g : Sig} {t : Structure} → Valid g t → ValidEffect g t
effect_of v = record { structure = v.structure; unreserved = v.unreserved; well_applied = v.well_applied; of_models = v.of_models }

module _ (g : Sig) (s : Structure) (v : Valid g s) where
  abbrev c : Counts
  c = counts_of g s

  abbrev vs : ValidStructure c s
  vs = v.structure

  -- an effect that adds no element
  keeps : (t : Structure) → ValidStructure c t → All (Unreserved g) t.func_apps → All (WellApplied g) t.func_apps → All (OfModel g) t.ambients
      → ValidEffect g t
  keeps t h a b m = record { structure = counted g (length s.links) t h; unreserved = a; well_applied = b; of_models = m }

  -- Kind 6.

  more : CountsGrow c (counts_at g (suc (length s.links)))
  more = record { els = omega arith; types = omega arith; parents = λ t. refl; preds = omega arith; funcs = omega arith }

  added_valid : (mark : Bool) → length s.links < max_els → ValidStructure (counts_at g (suc (length s.links))) (with_el mark s)
  unfolding with_el
  added_valid mark few =
      let d = counts_at g (suc (length s.links)) in
      let new = added_is s.links few in
      record {
        els = ap length new ∙ length_push s.links (length s.links);
        els_most = few;
        links = added_formed s.links vs.links;
        marks = length_push s.marks mark ∙ ap suc vs.marks;
        facts = table_more (fact_more c d more) _ _ _ s.facts (omega arith) vs.facts;
        facts_rooted = rw new (all_map (λ (f : Fact) (k : OnRoot s.links f). root_push s.links f.el ∙ k) s.facts vs.facts_rooted);
        func_apps = table_more (func_app_more c d more) _ _ _ s.func_apps (omega arith) vs.func_apps;
        pred_apps = table_more (pred_app_more c d more) _ _ _ s.pred_apps (omega arith) vs.pred_apps;
        vars = table_more (var_more c d more) _ _ _ s.vars (omega arith) vs.vars;
        ambients = table_more (ambient_more c d more) _ _ _ s.ambients (omega arith) vs.ambients;
        pairs = queue_more (pair_more c d more) _ s.pairs vs.pairs;
        impositions = queue_more (fact_more c d more) _ s.impositions vs.impositions;
      }

  el_valid : (mark : Bool) → NoneApplies (el_causes s) → ValidEffect g (with_el mark s)
  unfolding el_causes with_el
  el_valid mark clear = record {
    structure =
        counted g (suc (length s.links)) (with_el mark s) (unfold with_el in added_valid mark (leb-false max_els (length s.links) clear.0));
    unreserved = v.unreserved;
    well_applied = v.well_applied;
    of_models = v.of_models;
  }

  -- Kind 7.

  equated_valid : (a b : ℕ) → a < length s.links → b < length s.links → length s.pairs < max_pairs
      → ValidStructure c (with_equality (equate s.links s.pairs a b) s)
  unfolding equate with_equality
  equated_valid a b la lb room =
      let r = equate_relinked s.links s.pairs a b vs.links la lb in
      let ps : List Pair = pair a b ∷ s.pairs in
      let q = pairs_valid c s vs ps (record { each = (record { lhs = la; rhs = lb }, vs.pairs.each); most = room }) in
      links_valid c (with_pairs ps s) q (short_of (short_of s.links a) b) r.formed r.long r.roots

  equality_valid : (a b : ℕ) → NoneApplies (equality_causes s a b) → ValidEffect g (with_equality (equate s.links s.pairs a b) s)
  unfolding equality_causes with_equality
  equality_valid a b clear =
      let d = not-false (is_el s a && is_el s b) clear.0 in
      keeps _ (equated_valid a b (ltb-true a (length s.links) (and_first (is_el s a) (is_el s b) d))
      (ltb-true b (length s.links) (and_second (is_el s a) (is_el s b) d)) (leb-false max_pairs (length s.pairs) clear.1.0))
      v.unreserved v.well_applied v.of_models

  -- Kind 8.

  imposed_valid : (f : Fact) → FactValid c f → (queued : Bool) → (not queued && leb max_impositions (length s.impositions)) ≡ false
      → ValidEffect g (with_imposition queued (canonical_fact s.links f) s)
  unfolding with_imposition
  imposed_valid f new true t = keeps s vs v.unreserved v.well_applied v.of_models
  imposed_valid f new false t =
      let entry = canonical_fact s.links f in
      keeps _ (impositions_valid c s vs (s.impositions ++ (entry ∷ []))
      (queue_push (λ x k. k) max_impositions s.impositions entry vs.impositions (leb-false max_impositions (length s.impositions) t)
      (canonical_valid c s.links f new))) v.unreserved v.well_applied v.of_models

  imposition_valid : (f : Fact) → NoneApplies (imposition_causes g s f)
      → ValidEffect g (with_imposition (is_imposed (canonical_fact s.links f) s.impositions) (canonical_fact s.links f) s)
  unfolding imposition_causes
  imposition_valid f clear =
      imposed_valid f (fact_if g (length s.links) f clear.0 clear.1.0 clear.1.1.0) _ clear.1.1.1.0

  -- Kind 9.

  module _ (x : FuncApp) (new : Admitted g c x) where
    applied_valid : (o : Option FuncApp) → lookup_of compare_func_app x s.func_apps ≡ o
        → (apply_at o x s.links s.pairs s.func_apps).full ≡ false
        → ValidEffect g (with_applied (apply_at o x s.links s.pairs s.func_apps) s)
    unfolding apply_at with_applied
    applied_valid none q t =
        keeps _ (func_apps_valid c s vs (placed compare_func_app x s.func_apps)
        (table_place func_app_ordered x s.func_apps new.valid vs.func_apps (λ e. leb-false max_func_apps (length s.func_apps) t)))
        (placed_all compare_func_app x (Unreserved g) s.func_apps new.unreserved v.unreserved)
        (placed_all compare_func_app x (WellApplied g) s.func_apps new.well_applied v.well_applied) v.of_models
    applied_valid (some y) q t = go (eqb y.result x.result) t
      where
        old : FuncAppValid c y
        old = all_at (FuncAppValid c) s.func_apps vs.func_apps.each y (lookup_sound compare_func_app x s.func_apps q).0

        same : Applied
        same = applied s.links s.pairs s.func_apps false false

        other : Applied
        other = applied_equal (equate s.links s.pairs y.result x.result) s.pairs s.func_apps

        go : (b : Bool) → (elim b as (λ _. Applied) [ true ↦ same | false ↦ other ]).full ≡ false
            → ValidEffect g (with_applied (elim b as (λ _. Applied) [ true ↦ same | false ↦ other ]) s)
        go true t = keeps s vs v.unreserved v.well_applied v.of_models
        go false t =
            (unfold applied_equal with_equality in
            keeps _ (equated_valid y.result x.result old.result new.valid.result (leb-false max_pairs (length s.pairs) t))
            v.unreserved v.well_applied v.of_models)

  application_valid : (x : FuncApp) → NoneApplies (application_causes g s x) → ValidEffect g (with_applied (applied_to s x) s)
  unfolding application_causes insert_func_app_or_equate
  application_valid x clear =
      let results = is_el s x.result in
      let args = are_els s x.args && results in
      let rest = are_els s x.parents && args in
      let d = not-false (is_func g x.func && rest) clear.1.0 in
      let e = and_second (is_func g x.func) rest d in
      let f = and_second (are_els s x.parents) args e in
      let new : FuncAppValid c x = record {
        func = ltb-true x.func (length g.funcs) (and_first (is_func g x.func) rest d);
        parents = listed_if (length s.links) x.parents (or_first (too_long x.parents) (too_long x.args) clear.0)
            (and_first (are_els s x.parents) args e);
        args = listed_if (length s.links) x.args (or_second (too_long x.parents) (too_long x.args) clear.0)
            (and_first (are_els s x.args) results f);
        result = ltb-true x.result (length s.links) (and_second (are_els s x.args) results f);
      } in
      let y = canonical_func_app s.links x in
      let entry : Admitted g c y = record {
        valid = (canonical_entry c s.links x new).valid;
        unreserved = canonical_unreserved g s.links x clear.1.1.0;
        well_applied = canonical_well_applied g s.links x clear.1.1.1.0;
      } in
      applied_valid y entry _ refl clear.1.1.1.1.0

  -- Kind 10.

  predication_valid : (x : PredApp) → NoneApplies (predication_causes g s x) → ValidEffect g (with_pred_app x s)
  unfolding predication_causes with_pred_app
  predication_valid x clear =
      let rest = are_els s x.parents && are_els s x.args in
      let d = not-false (is_pred g x.pred && rest) clear.1.0 in
      let e = and_second (is_pred g x.pred) rest d in
      let new : PredAppValid c x = record {
        pred = ltb-true x.pred (length g.preds) (and_first (is_pred g x.pred) rest d);
        parents = listed_if (length s.links) x.parents (or_first (too_long x.parents) (too_long x.args) clear.0)
            (and_first (are_els s x.parents) (are_els s x.args) e);
        args = listed_if (length s.links) x.args (or_second (too_long x.parents) (too_long x.args) clear.0)
            (and_second (are_els s x.parents) (are_els s x.args) e);
      } in
      let full = leb max_pred_apps (length s.pred_apps) in
      keeps _ (pred_apps_valid c s vs (placed compare_pred_app x s.pred_apps) (table_place pred_app_ordered x s.pred_apps new vs.pred_apps
      (λ e. leb-false max_pred_apps (length s.pred_apps) (room_if (present compare_pred_app x s.pred_apps) full clear.1.1.0 e))))
      v.unreserved v.well_applied v.of_models

  -- Kinds 11 and 12: the keys bound the number of entries.

  variable_valid : (x : Var) → NoneApplies (variable_causes s x) → ValidEffect g (with_var x s)
  unfolding variable_causes with_var
  variable_valid x clear =
      let new : VarValid c x = record {
        key = leb-false max_vars x.key clear.0;
        el = ltb-true x.el (length s.links) (not-false (is_el s x.el) clear.1.0);
      } in
      keeps _ (vars_valid c s vs (placed compare_var x s.vars)
      (table_key var_ordered (λ (y : Var). y.key) var_less (λ y k. k.key) x s.vars new vs.vars)) v.unreserved v.well_applied v.of_models

  ambient_valid : (x : Ambient) → NoneApplies (ambient_causes g s x) → ValidEffect g (with_ambient x s)
  unfolding ambient_causes with_ambient
  ambient_valid x clear =
      let d = not-false (is_type g x.typ && is_el s x.el) clear.0 in
      let new : AmbientValid c x = record {
        typ = ltb-true x.typ (length g.types) (and_first (is_type g x.typ) (is_el s x.el) d);
        el = ltb-true x.el (length s.links) (and_second (is_type g x.typ) (is_el s x.el) d);
      } in
      keeps _ (ambients_valid c s vs (placed compare_ambient x s.ambients)
      (table_key ambient_ordered (λ (y : Ambient). y.typ) ambient_less (λ y k. k.typ) x s.ambients new vs.ambients)) v.unreserved v.well_applied
      (placed_all compare_ambient x (OfModel g) s.ambients (not-false (is_model g x.typ) clear.1.0) v.of_models)

  -- A find.

  find_valid : (e : ℕ) → NoneApplies (find_causes s.links e) → Valid g (with_links (short_of s.links e) s)
  unfolding find_causes empty
  find_valid e clear =
      let there = leb-false (length s.links) e clear.0 in
      let r = short_relinked s.links e vs.links there in
      let t = with_links (short_of s.links e) s in
      record {
        sig = v.sig;
        structure = counted g (length s.links) t (links_valid c s vs (short_of s.links e) r.formed r.long r.roots);
        unreserved = v.unreserved;
        well_applied = v.well_applied;
        of_models = v.of_models;
        -- an empty structure has no element to find
        unstarted = λ q. absurd (omega (arith, there, ap (λ (z : Structure). length z.links) (v.unstarted q)));
      }

-- Every call.

abbrev pub ValidMachine : Machine → Type 0
ValidMachine m = Valid m.sig m.structure

pub start_valid : ValidMachine start
unfolding start
start_valid = empty_valid signature.empty empty_sig

-- the effect of a close; a settle has this of each of its closes
closed_valid : (m : Machine) → ValidMachine m → ValidMachine (acceptance (rule close m)).after
unfolding rule close_rule acceptance
closed_valid m v = leaves_valid _ _ v.sig (effect_of (after_close_lem m.sig m.structure v)) _

close_keeps : (m : Machine) → ValidMachine m → ValidMachine (step close m).after
close_keeps m v = step_by_lem close m (λ s. ValidMachine s.after) (λ n q. v) (λ none-applies. closed_valid m v)

-- where no cause applies, what a call leaves is valid
effect_valid : (k : Call) (m : Machine) → ValidMachine m → NoneApplies (rule k m).causes → ValidMachine (acceptance (rule k m)).after
unfolding rule equality_rule imposition_rule application_rule settle_rule acceptance
effect_valid (push_type t) m v clear = (unfold leaves settled_by in type_valid m.sig m.structure v t clear)
effect_valid (push_pred p) m v clear = (unfold leaves settled_by in pred_valid m.sig m.structure v p clear)
effect_valid (push_func f) m v clear = (unfold leaves settled_by in func_valid m.sig m.structure v f clear)
effect_valid (push_model x) m v clear = (unfold leaves settled_by in model_valid m.sig m.structure v x clear)
effect_valid (push_mor_app x) m v clear = (unfold leaves settled_by in mor_app_valid m.sig m.structure v x clear)
effect_valid (push_el mark) m v clear = leaves_valid _ _ v.sig (el_valid m.sig m.structure v mark clear) _
effect_valid (equate_els a b) m v clear = leaves_valid _ _ v.sig (equality_valid m.sig m.structure v a b clear) _
effect_valid (impose_type f) m v clear = leaves_valid _ _ v.sig (imposition_valid m.sig m.structure v f clear) _
effect_valid (apply_func x) m v clear = leaves_valid _ _ v.sig (application_valid m.sig m.structure v x clear) _
effect_valid (apply_pred x) m v clear = leaves_valid _ _ v.sig (predication_valid m.sig m.structure v x clear) _
effect_valid (bind_var x) m v clear = leaves_valid _ _ v.sig (variable_valid m.sig m.structure v x clear) _
effect_valid (bind_ambient a) m v clear = leaves_valid _ _ v.sig (ambient_valid m.sig m.structure v a clear) _
effect_valid close m v clear = closed_valid m v
effect_valid type_conflicts m v clear = leaves_valid _ _ v.sig (effect_of v) _
effect_valid settle m v clear = leaves_valid _ _ v.sig (effect_of (run_keeps m ValidMachine (λ z c q w. close_keeps z w) v)) _
effect_valid (root e) m v clear = (unfold leaves settled_by in find_valid m.sig m.structure v e clear)
effect_valid (root_const e) m v clear = (unfold leaves settled_by in v)
effect_valid (lookup_type t ps) m v clear = (unfold leaves settled_by in v)
effect_valid (ambient_parents ts) m v clear = (unfold leaves settled_by in v)

pub step_valid : (k : Call) (m : Machine) → ValidMachine m → ValidMachine (step k m).after
step_valid k m v = step_by_lem k m (λ s. ValidMachine s.after) (λ n q. v) (λ none-applies. effect_valid k m v none-applies)

calls_keep : (ks : List Call) (m : Machine) → ValidMachine m → ValidMachine (after_calls ks m)
unfolding after_calls
calls_keep [] m v = v
calls_keep (k ∷ ks) m v = calls_keep ks (step k m).after (step_valid k m v)

pub calls_valid : (ks : List Call) → ValidMachine (after_calls ks start)
calls_valid ks = calls_keep ks start start_valid
