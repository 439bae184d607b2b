-- What a file can hold: a structure that no cause of number 14 keeps out. Every valid structure is one.
use mathlib.Core.Path.{◌≡◌, refl, ap}
use mathlib.Core.Bool.{Bool, true, false, not, ◌&&◌}
use mathlib.Core.List.{List, [], ◌∷◌, ◌++◌, map}
use mathlib.Core.Option.{Option, none, some}
use Prim.Native.Nat.{ℕ, zero, suc, ◌+◌, ◌≤◌, ◌<◌}
use native.Mathlib.Omega.{arith}
use lib.ListN.{length, get_or}
use lib.Dec.{eqb, ltb}
use borrow.Author.Tests.{lt-ltb, le-ltb, lt-leb, ltb-true, ltb-false, leb-false, eq-eqb, eqb-true, not-false}
use Rattle.ids.specs.Limits.{max_list}
use Rattle.ids.specs.declared.Ordering.TheVariants.{Less}
use Rattle.ids.specs.Answers.{Cause, first_of}
use Rattle.ids.specs.Ids.{too_long, all_below}
use Rattle.ids.specs.Table.{present, lookup_of}
use Rattle.ids.proofs.Answers.{not_true, or_neither}
use Rattle.ids.proofs.Judging.{NoneApplies, none_apply}
use Rattle.ids.proofs.Sorted.{All, Sorted, all_map, all_join, all_left, all_right, all_image, no_test, keys_few}
use Rattle.unification.specs.Roots.{max_els, root_of, Formed}
use Rattle.signature.specs.Model.{Sig, max_types}
use Rattle.signature.specs.Calls.{is_type, is_func, is_model}
use Rattle.semantics.specs.Structure.{Fact, FuncApp, PredApp, Pair, Var, Ambient, Structure, structure, empty, max_facts, max_func_apps, max_pred_apps, max_impositions, max_vars, max_pairs}
use Rattle.semantics.specs.Structure.{compare_fact, compare_func_app, compare_pred_app, compare_var, compare_ambient}
use Rattle.semantics.specs.Applying.{insert_func_app_or_equate, apply_at}
use Rattle.semantics.specs.Calls.{is_el, are_els, is_pred, is_imposed, equality_causes, imposition_causes, application_causes, predication_causes, variable_causes}
use Rattle.semantics.specs.Calls.{ambient_causes, Call, impose_type, apply_func, apply_pred, bind_var, bind_ambient, equate_els}
use Rattle.semantics.specs.Calls.{Machine, machine, rule, equality_rule, imposition_rule, application_rule}
use Rattle.semantics.specs.Valid.{Below, Listed, Counts, counts_of, FactValid, FuncAppValid, PredAppValid, VarValid, AmbientValid, PairValid}
use Rattle.semantics.specs.Valid.{OnRoot, ValidSig, Unreserved, WellApplied, OfModel, Valid}
use Rattle.semantics.proofs.Cases.{and_first, and_second, or_first, or_second}
use Rattle.semantics.proofs.Judged.{listed_if, fact_if}
use Rattle.semantics.proofs.Orders.{fact_ordered, func_app_ordered, pred_app_ordered, var_ordered, ambient_ordered, order_less}
use Rattle.validity.proofs.Operating.{Admitted}
use Rattle.file.specs.Layout.{sum}
use Rattle.file.specs.File.{counts, head_of, any_over, limits, any, in_order, els_alone, entry_calls, is_given, refuses, entry_refused, link_rises, fact_off_root, other_order}
use Rattle.file.proofs.RowLaws.{two_tests}
use Rattle.file.proofs.Chains.{sorted_in_order, in_order_sorted}

pub record Storable (g : Sig) (s : Structure) : Type 0 where
  -- the numbers of types, predicates and functions fit a byte
  pub types : length g.types ≤ 256
  pub preds : length g.preds ≤ 256
  pub funcs : length g.funcs ≤ 256
  -- each table is within its limit
  pub most : any_over (counts (head_of s)) limits ≡ false
  -- each element has a mark, set or not
  pub marks : length s.marks ≡ length s.links
  pub unrefused : entry_refused g s ≡ false
  pub falls : link_rises 0 s.links ≡ false
  pub rooted : fact_off_root s ≡ false
  pub ordered : other_order s ≡ false
  -- while the flag for number 4 is not set, nothing is there
  pub flagged : s.started ≡ false → (sum (counts (head_of s)) ≡ 0) × (s.settled ≡ false)

-- No entry of a list passes a test.

module _ {A : Type 0} (p : A → Bool) where
  pub any_none : (l : List A) → any p l ≡ false → All (λ x. p x ≡ false) l
  unfolding any
  any_none [] h = tt
  any_none (x ∷ l) h = (or_first (p x) (any p l) h, any_none l (or_second (p x) (any p l) h))

  pub none_any : (l : List A) → All (λ x. p x ≡ false) l → any p l ≡ false
  unfolding any
  none_any [] h = refl
  none_any (x ∷ l) h = or_neither h.0 (none_any l h.1)

all_mapped : {A B : Type 0} (P : B → Type 0) (f : A → B) (l : List A) → All P (map f l) → All (λ x. P (f x)) l
all_mapped P f [] h = tt
all_mapped P f (x ∷ l) h = (h.0, all_mapped P f l h.1)

-- Calls that are not refused.

pub first_none : (cs : List Cause) → NoneApplies cs → first_of cs ≡ none
unfolding first_of
first_none [] h = refl
first_none (c ∷ cs) h = rw (h.0, first_of) (first_none cs h.1)

unrefused_if : (m : Machine) (k : Call) → NoneApplies (rule k m).causes → refuses m k ≡ false
unfolding refuses
unrefused_if m k h = rw (first_none (rule k m).causes h)

none_if : (m : Machine) (k : Call) → refuses m k ≡ false → NoneApplies (rule k m).causes
unfolding refuses
none_if m k h = none_apply (rule k m).causes (go (first_of (rule k m).causes) h)
  where
    go : (o : Option ℕ) → is_given o ≡ false → o ≡ none
    go none e = refl
    go (some n) e = no_test refl e

-- Lists as the tests see them.

short_enough : (n : ℕ) (l : List ℕ) → Listed n l → too_long l ≡ false
short_enough n l h = le-ltb max_list (length l) h.short

all_declared : (n : ℕ) (l : List ℕ) → Below n l → all_below n l ≡ true
unfolding all_below
all_declared n [] h = refl
all_declared n (x ∷ l) h = rw (lt-ltb x n h.0, all_below) (all_declared n l h.1)

-- An entry is not refused where the elements alone are there, exactly if it may stand in a valid structure.

module _ (g : Sig) (s : Structure) where
  abbrev c : Counts
  c = counts_of g s

  abbrev alone : Machine
  alone = machine g (els_alone s)

  fact_enters : (f : Fact) → FactValid c f → refuses alone (impose_type f) ≡ false
  unfolding rule imposition_rule imposition_causes is_imposed els_alone
  fact_enters f v =
      unrefused_if alone (impose_type f) (
        short_enough c.els f.parents v.parents,
        (
          not_true (two_tests (lt-ltb _ _ v.el)
              (two_tests (lt-ltb _ _ v.typ) (all_declared c.els f.parents v.parents.below))),
          (not_true (eq-eqb _ _ v.parent_count), (refl, tt)),
        ),
      )

  fact_entered : (f : Fact) → refuses alone (impose_type f) ≡ false → FactValid c f
  unfolding rule imposition_rule imposition_causes is_imposed els_alone
  fact_entered f h =
      let clear = none_if alone (impose_type f) h in
      fact_if g c.els f clear.0 clear.1.0 clear.1.1.0

  func_app_enters : (x : FuncApp) → Admitted g c x → refuses alone (apply_func x) ≡ false
  unfolding rule application_rule application_causes insert_func_app_or_equate apply_at lookup_of els_alone
  func_app_enters x a =
      let v = a.valid in
      unrefused_if alone (apply_func x) (
        or_neither (short_enough c.els x.parents v.parents) (short_enough c.els x.args v.args),
        (
          not_true (two_tests (lt-ltb _ _ v.func)
              (two_tests (all_declared c.els x.parents v.parents.below) (two_tests (all_declared c.els x.args v.args.below) (lt-ltb _ _ v.result)))),
          (a.unreserved, (a.well_applied, (refl, tt))),
        ),
      )

  func_app_entered : (x : FuncApp) → refuses alone (apply_func x) ≡ false → Admitted g c x
  unfolding rule application_rule application_causes insert_func_app_or_equate apply_at lookup_of els_alone
  func_app_entered x h =
      let clear = none_if alone (apply_func x) h in
      let results = is_el s x.result in
      let args = are_els s x.args && results in
      let rest = are_els s x.parents && args in
      let d = not-false (is_func g x.func && rest) clear.1.0 in
      let e = and_second (is_func g x.func) rest d in
      let f = and_second (are_els s x.parents) args e in
      record {
        valid = record {
          func = ltb-true x.func c.funcs (and_first (is_func g x.func) rest d);
          parents = listed_if c.els x.parents (or_first (too_long x.parents) (too_long x.args) clear.0)
              (and_first (are_els s x.parents) args e);
          args = listed_if c.els x.args (or_second (too_long x.parents) (too_long x.args) clear.0)
              (and_first (are_els s x.args) results f);
          result = ltb-true x.result c.els (and_second (are_els s x.args) results f);
        };
        unreserved = clear.1.1.0;
        well_applied = clear.1.1.1.0;
      }

  pred_app_enters : (x : PredApp) → PredAppValid c x → refuses alone (apply_pred x) ≡ false
  unfolding rule predication_causes present els_alone
  pred_app_enters x v =
      unrefused_if alone (apply_pred x) (
        or_neither (short_enough c.els x.parents v.parents) (short_enough c.els x.args v.args),
        (
          not_true (two_tests (lt-ltb _ _ v.pred)
              (two_tests (all_declared c.els x.parents v.parents.below) (all_declared c.els x.args v.args.below))),
          (refl, tt),
        ),
      )

  pred_app_entered : (x : PredApp) → refuses alone (apply_pred x) ≡ false → PredAppValid c x
  unfolding rule predication_causes present els_alone
  pred_app_entered x h =
      let clear = none_if alone (apply_pred x) h in
      let rest = are_els s x.parents && are_els s x.args in
      let d = not-false (is_pred g x.pred && rest) clear.1.0 in
      let e = and_second (is_pred g x.pred) rest d in
      record {
        pred = ltb-true x.pred c.preds (and_first (is_pred g x.pred) rest d);
        parents = listed_if c.els x.parents (or_first (too_long x.parents) (too_long x.args) clear.0)
            (and_first (are_els s x.parents) (are_els s x.args) e);
        args = listed_if c.els x.args (or_second (too_long x.parents) (too_long x.args) clear.0)
            (and_second (are_els s x.parents) (are_els s x.args) e);
      }

  var_enters : (x : Var) → VarValid c x → refuses alone (bind_var x) ≡ false
  unfolding rule variable_causes present els_alone
  var_enters x v = unrefused_if alone (bind_var x) (lt-leb max_vars x.key v.key, (not_true (lt-ltb _ _ v.el), (refl, tt)))

  var_entered : (x : Var) → refuses alone (bind_var x) ≡ false → VarValid c x
  unfolding rule variable_causes present els_alone
  var_entered x h =
      let clear = none_if alone (bind_var x) h in
      record { key = leb-false max_vars x.key clear.0; el = ltb-true x.el c.els (not-false (is_el s x.el) clear.1.0) }

  -- an ambient that may stand in a valid structure
  pub record AmbientAdmitted (x : Ambient) : Type 0 where
    pub valid : AmbientValid c x
    pub of_model : OfModel g x

  ambient_enters : (x : Ambient) → AmbientAdmitted x → refuses alone (bind_ambient x) ≡ false
  unfolding rule ambient_causes present els_alone
  ambient_enters x a =
      unrefused_if alone (bind_ambient x)
      (not_true (two_tests (lt-ltb _ _ a.valid.typ) (lt-ltb _ _ a.valid.el)), (not_true a.of_model, (refl, tt)))

  ambient_entered : (x : Ambient) → refuses alone (bind_ambient x) ≡ false → AmbientAdmitted x
  unfolding rule ambient_causes present els_alone
  ambient_entered x h =
      let clear = none_if alone (bind_ambient x) h in
      let d = not-false (is_type g x.typ && is_el s x.el) clear.0 in
      record {
        valid = record {
          typ = ltb-true x.typ c.types (and_first (is_type g x.typ) (is_el s x.el) d);
          el = ltb-true x.el c.els (and_second (is_type g x.typ) (is_el s x.el) d);
        };
        of_model = not-false (is_model g x.typ) clear.1.0;
      }

  pair_enters : (p : Pair) → PairValid c p → refuses alone (equate_els p.lhs p.rhs) ≡ false
  unfolding rule equality_rule equality_causes els_alone
  pair_enters p v = unrefused_if alone (equate_els p.lhs p.rhs) (not_true (two_tests (lt-ltb _ _ v.lhs) (lt-ltb _ _ v.rhs)), (refl, tt))

  pair_entered : (p : Pair) → refuses alone (equate_els p.lhs p.rhs) ≡ false → PairValid c p
  unfolding rule equality_rule equality_causes els_alone
  pair_entered p h =
      let clear = none_if alone (equate_els p.lhs p.rhs) h in
      let d = not-false (is_el s p.lhs && is_el s p.rhs) clear.0 in
      record {
        lhs = ltb-true p.lhs c.els (and_first (is_el s p.lhs) (is_el s p.rhs) d);
        rhs = ltb-true p.rhs c.els (and_second (is_el s p.lhs) (is_el s p.rhs) d);
      }

  -- all entries
  pub record Entries : Type 0 where
    pub facts : All (FactValid c) s.facts
    pub func_apps : All (Admitted g c) s.func_apps
    pub pred_apps : All (PredAppValid c) s.pred_apps
    pub impositions : All (FactValid c) s.impositions
    pub vars : All (VarValid c) s.vars
    pub ambients : All AmbientAdmitted s.ambients
    pub pairs : All (PairValid c) s.pairs

  abbrev Unrefused : List Call → Type 0
  Unrefused ks = All (λ k. refuses alone k ≡ false) ks

  -- the calls of the last tables, of the last two, and so on
  abbrev calls_1 : List Call
  calls_1 = map (λ (p : Pair). equate_els p.lhs p.rhs) s.pairs

  abbrev calls_2 : List Call
  calls_2 = map bind_ambient s.ambients ++ calls_1

  abbrev calls_3 : List Call
  calls_3 = map bind_var s.vars ++ calls_2

  abbrev calls_4 : List Call
  calls_4 = map impose_type s.impositions ++ calls_3

  abbrev calls_5 : List Call
  calls_5 = map apply_pred s.pred_apps ++ calls_4

  abbrev calls_6 : List Call
  calls_6 = map apply_func s.func_apps ++ calls_5

  module _ {A : Type 0} {P : A → Type 0} (call : A → Call) where
    enter_first : ((x : A) → P x → refuses alone (call x) ≡ false) → (l : List A) (rest : List Call) → All P l → Unrefused rest → Unrefused (map call l ++ rest)
    enter_first f l rest h k = all_join (λ k. refuses alone k ≡ false) (map call l) rest (all_image (λ k. refuses alone k ≡ false) call l (all_map f l h)) k

    entered_first : ((x : A) → refuses alone (call x) ≡ false → P x) → (l : List A) (rest : List Call) → Unrefused (map call l ++ rest) → All P l
    entered_first f l rest h = all_map f l (all_mapped (λ k. refuses alone k ≡ false) call l (all_left (λ k. refuses alone k ≡ false) (map call l) rest h))

  after : (k l : List Call) → Unrefused (k ++ l) → Unrefused l
  after k l h = all_right (λ k. refuses alone k ≡ false) k l h

  pub entries_enter : Entries → entry_refused g s ≡ false
  unfolding entry_refused entry_calls
  entries_enter e =
      none_any (refuses alone) (entry_calls s)
      (enter_first impose_type fact_enters s.facts calls_6 e.facts
      (enter_first apply_func func_app_enters s.func_apps calls_5 e.func_apps
      (enter_first apply_pred pred_app_enters s.pred_apps calls_4 e.pred_apps
      (enter_first impose_type fact_enters s.impositions calls_3 e.impositions
      (enter_first bind_var var_enters s.vars calls_2 e.vars
      (enter_first bind_ambient ambient_enters s.ambients calls_1 e.ambients
      (all_image (λ k. refuses alone k ≡ false) (λ (p : Pair). equate_els p.lhs p.rhs) s.pairs (all_map pair_enters s.pairs e.pairs))))))))

  pub entries_entered : entry_refused g s ≡ false → Entries
  unfolding entry_refused entry_calls
  entries_entered e =
      let h7 : Unrefused (entry_calls s) = any_none (refuses alone) (entry_calls s) e in
      let h6 : Unrefused calls_6 = after (map impose_type s.facts) calls_6 h7 in
      let h5 : Unrefused calls_5 = after (map apply_func s.func_apps) calls_5 h6 in
      let h4 : Unrefused calls_4 = after (map apply_pred s.pred_apps) calls_4 h5 in
      let h3 : Unrefused calls_3 = after (map impose_type s.impositions) calls_3 h4 in
      let h2 : Unrefused calls_2 = after (map bind_var s.vars) calls_2 h3 in
      let h1 : Unrefused calls_1 = after (map bind_ambient s.ambients) calls_1 h2 in
      record {
        facts = entered_first impose_type fact_entered s.facts calls_6 h7;
        func_apps = entered_first apply_func func_app_entered s.func_apps calls_5 h6;
        pred_apps = entered_first apply_pred pred_app_entered s.pred_apps calls_4 h5;
        impositions = entered_first impose_type fact_entered s.impositions calls_3 h4;
        vars = entered_first bind_var var_entered s.vars calls_2 h3;
        ambients = entered_first bind_ambient ambient_entered s.ambients calls_1 h2;
        pairs = all_map pair_entered s.pairs (all_mapped (λ k. refuses alone k ≡ false) (λ (p : Pair). equate_els p.lhs p.rhs) s.pairs h1);
      }

-- Limits.

pub record WithinLimits (s : Structure) : Type 0 where
  pub els : length s.links ≤ max_els
  pub facts : length s.facts ≤ max_facts
  pub func_apps : length s.func_apps ≤ max_func_apps
  pub pred_apps : length s.pred_apps ≤ max_pred_apps
  pub impositions : length s.impositions ≤ max_impositions
  pub vars : length s.vars ≤ max_vars
  pub ambients : length s.ambients ≤ max_types
  pub pairs : length s.pairs ≤ max_pairs

-- what a test of two lists says of their first numbers, and of the others
module _ (l n : ℕ) (ls ns : List ℕ) where
  over_none : n ≤ l → any_over ns ls ≡ false → any_over (n ∷ ns) (l ∷ ls) ≡ false
  unfolding any_over
  over_none h k = or_neither (le-ltb l n h) k

  none_over : any_over (n ∷ ns) (l ∷ ls) ≡ false → (n ≤ l) × (any_over ns ls ≡ false)
  unfolding any_over
  none_over h = (ltb-false l n (or_first (ltb l n) (any_over ns ls) h), or_second (ltb l n) (any_over ns ls) h)

over_end : any_over [] [] ≡ false
unfolding any_over
over_end = refl

pub limits_kept : (s : Structure) → WithinLimits s → any_over (counts (head_of s)) limits ≡ false
unfolding counts head_of
limits_kept s w =
    over_none _ _ _ _ w.els (over_none _ _ _ _ w.facts (over_none _ _ _ _ w.func_apps (over_none _ _ _ _ w.pred_apps
    (over_none _ _ _ _ w.impositions (over_none _ _ _ _ w.vars (over_none _ _ _ _ w.ambients (over_none _ _ _ _ w.pairs over_end)))))))

pub limits_tell : (s : Structure) → any_over (counts (head_of s)) limits ≡ false → WithinLimits s
unfolding counts head_of
limits_tell s h =
    let a = none_over _ _ _ _ h in
    let b = none_over _ _ _ _ a.1 in
    let c = none_over _ _ _ _ b.1 in
    let d = none_over _ _ _ _ c.1 in
    let e = none_over _ _ _ _ d.1 in
    let f = none_over _ _ _ _ e.1 in
    let i = none_over _ _ _ _ f.1 in
    let j = none_over _ _ _ _ i.1 in
    record { els = a.0; facts = b.0; func_apps = c.0; pred_apps = d.0; impositions = e.0; vars = f.0; ambients = i.0; pairs = j.0 }

-- Links.

links_fall : (k : ℕ) (ls : List ℕ) → link_rises k ls ≡ false → (e d : ℕ) → d ≡ k + e → get_or ls e d ≤ d
unfolding link_rises
links_fall k [] h e d q = omega arith
links_fall k (l ∷ ls) h zero d q = omega (arith, ltb-false k l (or_first (ltb k l) (link_rises (suc k) ls) h))
links_fall k (l ∷ ls) h (suc e) d q = links_fall (suc k) ls (or_second (ltb k l) (link_rises (suc k) ls) h) e d (omega arith)

falls_links : (k : ℕ) (ls : List ℕ) → ((e d : ℕ) → d ≡ k + e → get_or ls e d ≤ d) → link_rises k ls ≡ false
unfolding link_rises
falls_links k [] h = refl
falls_links k (l ∷ ls) h = or_neither (le-ltb k l (h 0 k (omega arith))) (falls_links (suc k) ls (λ e d q. h (suc e) d (omega arith)))

pub formed_falls : (ls : List ℕ) → Formed ls → link_rises 0 ls ≡ false
formed_falls ls f = falls_links 0 ls (λ e d q. let same : d ≡ e = omega arith in rw same (f.falls e))

pub falls_formed : (ls : List ℕ) → link_rises 0 ls ≡ false → Formed ls
falls_formed ls h = record { falls = λ e. links_fall 0 ls h e e (omega arith) }

-- Facts on roots.

pub on_roots : (s : Structure) → All (OnRoot s.links) s.facts → fact_off_root s ≡ false
unfolding fact_off_root
on_roots s h =
    none_any (λ (f : Fact). not (eqb (root_of s.links f.el) f.el)) s.facts
    (all_map (λ (f : Fact) (e : OnRoot s.links f). not_true (eq-eqb (root_of s.links f.el) f.el e)) s.facts h)

pub roots_on : (s : Structure) → fact_off_root s ≡ false → All (OnRoot s.links) s.facts
unfolding fact_off_root
roots_on s h =
    all_map (λ (f : Fact) e. eqb-true (root_of s.links f.el) f.el (not-false (eqb (root_of s.links f.el) f.el) e)) s.facts
    (any_none (λ (f : Fact). not (eqb (root_of s.links f.el) f.el)) s.facts h)

-- Orders.

pub record InOurOrder (s : Structure) : Type 0 where
  pub facts : Sorted compare_fact s.facts
  pub func_apps : Sorted compare_func_app s.func_apps
  pub pred_apps : Sorted compare_pred_app s.pred_apps
  pub vars : Sorted compare_var s.vars
  pub ambients : Sorted compare_ambient s.ambients

pub order_kept : (s : Structure) → InOurOrder s → other_order s ≡ false
unfolding other_order
order_kept s o =
    not_true (two_tests (sorted_in_order compare_fact s.facts o.facts) (two_tests (sorted_in_order compare_func_app s.func_apps o.func_apps)
    (two_tests (sorted_in_order compare_pred_app s.pred_apps o.pred_apps) (two_tests (sorted_in_order compare_var s.vars o.vars)
    (sorted_in_order compare_ambient s.ambients o.ambients)))))

pub order_tells : (s : Structure) → other_order s ≡ false → InOurOrder s
unfolding other_order
order_tells s h =
    let fs = in_order compare_fact s.facts in
    let xs = in_order compare_func_app s.func_apps in
    let ps = in_order compare_pred_app s.pred_apps in
    let vs = in_order compare_var s.vars in
    let bs = in_order compare_ambient s.ambients in
    let a = not-false (fs && (xs && (ps && (vs && bs)))) h in
    let b = and_second fs (xs && (ps && (vs && bs))) a in
    let c = and_second xs (ps && (vs && bs)) b in
    let d = and_second ps (vs && bs) c in
    record {
      facts = in_order_sorted compare_fact fact_ordered s.facts (and_first fs (xs && (ps && (vs && bs))) a);
      func_apps = in_order_sorted compare_func_app func_app_ordered s.func_apps (and_first xs (ps && (vs && bs)) b);
      pred_apps = in_order_sorted compare_pred_app pred_app_ordered s.pred_apps (and_first ps (vs && bs) c);
      vars = in_order_sorted compare_var var_ordered s.vars (and_first vs bs d);
      ambients = in_order_sorted compare_ambient ambient_ordered s.ambients (and_second vs bs d);
    }

-- Every valid structure.

pub valid_storable : (g : Sig) (s : Structure) → Valid g s → Storable g s
unfolding empty counts head_of sum
valid_storable g s v =
    let t = v.structure in
    let sig = v.sig in
    record {
      types = omega (arith, sig.types.most);
      preds = omega (arith, sig.preds.most);
      funcs = omega (arith, sig.funcs.most);
      most = limits_kept s (record {
        els = t.els_most;
        facts = t.facts.most;
        func_apps = t.func_apps.most;
        pred_apps = t.pred_apps.most;
        impositions = t.impositions.most;
        vars = t.vars.most;
        ambients = omega (arith, t.ambients.most, sig.types.most);
        pairs = t.pairs.most;
      });
      marks = t.marks;
      unrefused = entries_enter g s (record {
        facts = t.facts.each;
        func_apps = admitted g s s.func_apps t.func_apps.each v.unreserved v.well_applied;
        pred_apps = t.pred_apps.each;
        impositions = t.impositions.each;
        vars = t.vars.each;
        ambients = of_models g s s.ambients t.ambients.each v.of_models;
        pairs = t.pairs.each;
      });
      falls = formed_falls s.links t.links;
      rooted = on_roots s t.facts_rooted;
      ordered = order_kept s (record {
        facts = t.facts.sorted;
        func_apps = t.func_apps.sorted;
        pred_apps = t.pred_apps.sorted;
        vars = t.vars.sorted;
        ambients = t.ambients.sorted;
      });
      flagged = λ e. let none = v.unstarted e in (ap (λ (z : Structure). sum (counts (head_of z))) none, ap (λ (z : Structure). z.settled) none);
    }
  where
    admitted : (g : Sig) (s : Structure) (l : List FuncApp) → All (FuncAppValid (counts_of g s)) l → All (Unreserved g) l → All (WellApplied g) l
        → All (Admitted g (counts_of g s)) l
    admitted g s [] a b c = tt
    admitted g s (x ∷ l) a b c = (record { valid = a.0; unreserved = b.0; well_applied = c.0 }, admitted g s l a.1 b.1 c.1)

    of_models : (g : Sig) (s : Structure) (l : List Ambient) → All (AmbientValid (counts_of g s)) l → All (OfModel g) l → All (AmbientAdmitted g s) l
    of_models g s [] a b = tt
    of_models g s (x ∷ l) a b = (record { valid = a.0; of_model = b.0 }, of_models g s l a.1 b.1)

-- Under a valid signature, no other structure.

ambient_less : (x y : Ambient) → compare_ambient x y ≡ Less → x.typ < y.typ
unfolding compare_ambient
ambient_less x y e = order_less x.typ y.typ e

no_entry : {A : Type 0} (l : List A) → length l ≡ 0 → l ≡ []
no_entry [] h = refl
no_entry (x ∷ l) h = absurd (omega arith)

-- a structure with nothing in it
nothing_there : (s : Structure) → sum (counts (head_of s)) ≡ 0 → length s.marks ≡ length s.links → s.started ≡ false → s.settled ≡ false → s ≡ empty
unfolding empty sum counts head_of
nothing_there s zeros m started settled =
    let links = no_entry s.links (omega (arith, zeros)) in
    let marks = no_entry s.marks (omega (arith, zeros)) in
    let facts = no_entry s.facts (omega (arith, zeros)) in
    let func_apps = no_entry s.func_apps (omega (arith, zeros)) in
    let pred_apps = no_entry s.pred_apps (omega (arith, zeros)) in
    let vars = no_entry s.vars (omega (arith, zeros)) in
    let ambients = no_entry s.ambients (omega (arith, zeros)) in
    let pairs = no_entry s.pairs (omega (arith, zeros)) in
    let impositions = no_entry s.impositions (omega (arith, zeros)) in
    λ i. structure (links i) (marks i) (facts i) (func_apps i) (pred_apps i) (vars i) (ambients i) (pairs i) (impositions i) (started i) (settled i)

pub storable_valid : (g : Sig) (s : Structure) → ValidSig g → Storable g s → Valid g s
storable_valid g s sig t =
    let e = entries_entered g s t.unrefused in
    let w = limits_tell s t.most in
    let o = order_tells s t.ordered in
    let ambients = all_map (λ x a. a.valid) s.ambients e.ambients in
    record {
      sig = sig;
      structure = record {
        els = refl;
        els_most = w.els;
        links = falls_formed s.links t.falls;
        marks = t.marks;
        facts = record { each = e.facts; sorted = o.facts; most = w.facts };
        facts_rooted = roots_on s t.rooted;
        func_apps = record { each = all_map (λ x a. a.valid) s.func_apps e.func_apps; sorted = o.func_apps; most = w.func_apps };
        pred_apps = record { each = e.pred_apps; sorted = o.pred_apps; most = w.pred_apps };
        vars = record { each = e.vars; sorted = o.vars; most = w.vars };
        ambients = record {
          each = ambients;
          sorted = o.ambients;
          most = keys_few compare_ambient (λ (a : Ambient). a.typ) ambient_less (length g.types) s.ambients o.ambients
              (all_map (λ x a. a.typ) s.ambients ambients);
        };
        pairs = record { each = e.pairs; most = w.pairs };
        impositions = record { each = e.impositions; most = w.impositions };
      };
      unreserved = all_map (λ x a. a.unreserved) s.func_apps e.func_apps;
      well_applied = all_map (λ x a. a.well_applied) s.func_apps e.func_apps;
      of_models = all_map (λ x a. a.of_model) s.ambients e.ambients;
      unstarted = λ q. let f = t.flagged q in nothing_there s f.0 t.marks q f.1;
    }
