-- An entry is refused by its call exactly where the code does not allow it.
use mathlib.Core.Path.{◌≡◌, refl, sym, ap, ◌∙◌}
use mathlib.Core.Bool.{Bool, true, false, not, ◌&&◌, ◌||◌}
use mathlib.Core.List.{List, [], ◌∷◌, ◌++◌, map}
use mathlib.Core.Logic.{inl, inr}
use mathlib.Core.Option.{some}
use Prim.Native.Nat.{ℕ}
use native.Mathlib.Omega.{arith}
use lib.ListN.{length}
use lib.Dec.{ltb, leb}
use borrow.Author.Tests.{le-ltb, lt-leb, le-leb, ltb-true, ltb-false}
use Rattle.ids.specs.declared.ElIds.{ElIds}
use Rattle.std.specs.List.{list_all}
use Rattle.ids.specs.Limits.{max_list}
use Rattle.ids.specs.Answers.{Cause, first_of}
use Rattle.ids.specs.Ids.{el_of, els_of, too_long}
use Rattle.ids.specs.Table.{present, lookup_of}
use Rattle.ids.proofs.Views.{length_view}
use Rattle.signature.specs.Model.{Sig}
use Rattle.signature.specs.Calls.{is_type, is_model}
use Rattle.semantics.specs.Structure.{Fact, FuncApp, PredApp, Pair, Var, Ambient, Structure, max_vars}
use Rattle.semantics.specs.Applying.{insert_func_app_or_equate, apply_at}
use Rattle.semantics.specs.Calls.{is_el, has_its_parents, is_reserved, is_imposed, is_misapplied, equality_causes, imposition_causes, application_causes, predication_causes, variable_causes, ambient_causes}
use Rattle.semantics.specs.Calls.{Call, impose_type, apply_func, apply_pred, bind_var, bind_ambient, equate_els, Machine, machine, rule, equality_rule, imposition_rule, application_rule}
use Rattle.semantics.proofs.Cases.{test}
use Rattle.inserting.specs.View.{fact_within, app_within, pred_app_within}
use Rattle.file.specs.File.{any, els_alone, entry_calls, is_given, refuses, entry_refused}
use Rattle.validating.specs.View.{fact_allowed, func_app_allowed, pred_app_allowed, var_within, ambient_allowed, pair_within}

-- a list that has as many places as a list has is not too long
pub held_short : (l : ElIds) → length l.ids ≡ max_list → too_long (els_of l) ≡ false
held_short l long = le-ltb max_list (length (els_of l)) (omega (arith, length_view el_of l.len l.ids))

-- Tests.

pub not_not : (a : Bool) → not (not a) ≡ a
not_not true = refl
not_not false = refl

two_causes : (a b : Bool) → (a || (not b || false)) ≡ not (not a && b)
two_causes true b = refl
two_causes false true = refl
two_causes false false = refl

three_causes : (a b c : Bool) → (a || (not b || (not c || false))) ≡ not (not a && (b && c))
three_causes true b c = refl
three_causes false false c = refl
three_causes false true true = refl
three_causes false true false = refl

four_causes : (a b c d : Bool) → (a || (not b || (c || (d || false)))) ≡ not (not a && (b && (not c && not d)))
four_causes true b c d = refl
four_causes false false c d = refl
four_causes false true true d = refl
four_causes false true false true = refl
four_causes false true false false = refl

neither_is : (a b c : Bool) → (not (a && b) || (not c || false)) ≡ not (a && (b && c))
neither_is false b c = refl
neither_is true false c = refl
neither_is true true true = refl
neither_is true true false = refl

one_is : (a : Bool) → (not a || false) ≡ not a
one_is true = refl
one_is false = refl

not_below : (k n : ℕ) → leb n k ≡ not (ltb k n)
not_below k n =
    elim (test (ltb k n)) [
      | inl h ↦ lt-leb n k (ltb-true k n h) ∙ ap not (sym h)
      | inr h ↦ le-leb n k (ltb-false k n h) ∙ ap not (sym h)
    ]

-- one that applies refuses
abbrev applies : Cause → Bool
applies c = c.applies

given_any : (cs : List Cause) → is_given (first_of cs) ≡ any applies cs
unfolding first_of any
given_any [] = refl
given_any (c ∷ cs) = go c.applies (given_any cs)
  where
    go : (b : Bool) → is_given (first_of cs) ≡ any applies cs
        → is_given (elim b [ true ↦ some c.number | false ↦ first_of cs ]) ≡ (b || any applies cs)
    go true e = refl
    go false e = e

-- Where the elements alone are there.
module _ (g : Sig) (s : Structure) where
  abbrev alone : Machine
  alone = machine g (els_alone s)

  abbrev els : ℕ
  els = length s.links

  refused_any : (k : Call) → refuses alone k ≡ any applies (rule k alone).causes
  unfolding refuses
  refused_any k = given_any (rule k alone).causes

  fact_refused : (f : Fact) → refuses alone (impose_type f) ≡ not (fact_allowed g.types els f)
  unfolding rule imposition_rule imposition_causes is_imposed els_alone any
  fact_refused f =
      refused_any (impose_type f) ∙ three_causes (too_long f.parents) (fact_within els (length g.types) f) (has_its_parents g.types f)

  func_app_refused : (x : FuncApp) → refuses alone (apply_func x) ≡ not (func_app_allowed g els x)
  unfolding rule application_rule application_causes insert_func_app_or_equate apply_at lookup_of els_alone any
  func_app_refused x =
      refused_any (apply_func x)
      ∙ four_causes (too_long x.parents || too_long x.args) (app_within els (length g.funcs) x) (is_reserved g x.func) (is_misapplied x g.models)

  pred_app_refused : (x : PredApp) → refuses alone (apply_pred x) ≡ not (pred_app_allowed els (length g.preds) x)
  unfolding rule predication_causes present els_alone any
  pred_app_refused x = refused_any (apply_pred x) ∙ two_causes (too_long x.parents || too_long x.args) (pred_app_within els (length g.preds) x)

  var_refused : (v : Var) → refuses alone (bind_var v) ≡ not (var_within els v)
  unfolding rule variable_causes present els_alone any
  var_refused v =
      refused_any (bind_var v) ∙ ap (λ (b : Bool). b || (not (is_el s v.el) || false)) (not_below v.key max_vars)
      ∙ two_causes (not (ltb v.key max_vars)) (is_el s v.el) ∙ ap (λ (b : Bool). not (b && is_el s v.el)) (not_not (ltb v.key max_vars))

  ambient_refused : (a : Ambient) → refuses alone (bind_ambient a) ≡ not (ambient_allowed g els a)
  unfolding rule ambient_causes present els_alone any
  ambient_refused a = refused_any (bind_ambient a) ∙ neither_is (is_type g a.typ) (is_el s a.el) (is_model g a.typ)

  pair_refused : (p : Pair) → refuses alone (equate_els p.lhs p.rhs) ≡ not (pair_within els p)
  unfolding rule equality_rule equality_causes els_alone any
  pair_refused p = refused_any (equate_els p.lhs p.rhs) ∙ one_is (pair_within els p)

-- One table after the other.

either_fails : (a b c : Bool) → (not a || not (b && c)) ≡ not ((a && b) && c)
either_fails true b c = refl
either_fails false b c = refl

-- some call of a list of entries, or of the rest, is refused
module _ {A : Type 0} (refused : Call → Bool) (call : A → Call) (p : A → Bool) (by : (x : A) → refused (call x) ≡ not (p x)) where
  some_refused : (l : List A) (rest : List Call) (r : Bool) → any refused rest ≡ not r → any refused (map call l ++ rest) ≡ not (list_all p l && r)
  unfolding any
  some_refused [] rest r h = h
  some_refused (x ∷ l) rest r h = (λ i. by x i || some_refused l rest r h i) ∙ either_fails (p x) (list_all p l) r

  last_refused : (l : List A) → any refused (map call l) ≡ not (list_all p l)
  unfolding any
  last_refused [] = refl
  last_refused (x ∷ l) = (λ i. by x i || last_refused l i) ∙ fails_or (p x) (list_all p l)
    where
      fails_or : (a b : Bool) → (not a || not b) ≡ not (a && b)
      fails_or true b = refl
      fails_or false b = refl

-- what the code judges of the entries, by its counts of elements and predicates: of the last table, of the last two, and so on
module _ (g : Sig) (s : Structure) (els preds : ℕ) where
  abbrev pub pairs_allowed : Bool
  pairs_allowed = list_all (pair_within els) s.pairs

  abbrev pub from_ambients : Bool
  from_ambients = list_all (ambient_allowed g els) s.ambients && pairs_allowed

  abbrev pub from_vars : Bool
  from_vars = list_all (var_within els) s.vars && from_ambients

  abbrev pub from_impositions : Bool
  from_impositions = list_all (fact_allowed g.types els) s.impositions && from_vars

  abbrev pub from_pred_apps : Bool
  from_pred_apps = list_all (pred_app_allowed els preds) s.pred_apps && from_impositions

  abbrev pub from_func_apps : Bool
  from_func_apps = list_all (func_app_allowed g els) s.func_apps && from_pred_apps

  abbrev pub allowed : Bool
  allowed = list_all (fact_allowed g.types els) s.facts && from_func_apps

-- the tests as the code joins them
pub seven_tests : {a b c d e f g t u v w x y z : Bool} → t ≡ a → u ≡ b → v ≡ c → w ≡ d → x ≡ e → y ≡ f → z ≡ g
    → ((((((t && u) && v) && w) && x) && y) && z) ≡ (a && (b && (c && (d && (e && (f && g))))))
seven_tests {a} {b} {c} {d} {e} {f} {g} p q r s k l m =
    (λ i. (((((p i && q i) && r i) && s i) && k i) && l i) && m i) ∙ go a b c d e f g
  where
    go : (a b c d e f g : Bool) → ((((((a && b) && c) && d) && e) && f) && g) ≡ (a && (b && (c && (d && (e && (f && g))))))
    go true true true true true true g = refl
    go true true true true true false g = refl
    go true true true true false f g = refl
    go true true true false e f g = refl
    go true true false d e f g = refl
    go true false c d e f g = refl
    go false b c d e f g = refl

module _ (g : Sig) (s : Structure) where
  refused_entry : entry_refused g s ≡ not (allowed g s (length s.links) (length g.preds))
  unfolding entry_refused entry_calls
  refused_entry =
      let no = refuses (machine g (els_alone s)) in
      some_refused no impose_type _ (fact_refused g s) s.facts _ _
      (some_refused no apply_func _ (func_app_refused g s) s.func_apps _ _
      (some_refused no apply_pred _ (pred_app_refused g s) s.pred_apps _ _
      (some_refused no impose_type _ (fact_refused g s) s.impositions _ _
      (some_refused no bind_var _ (var_refused g s) s.vars _ _
      (some_refused no bind_ambient _ (ambient_refused g s) s.ambients _ _
      (last_refused no (λ (p : Pair). equate_els p.lhs p.rhs) _ (pair_refused g s) s.pairs))))))

  pub entries_allowed : {els preds : ℕ} → els ≡ length s.links → preds ≡ length g.preds → not (entry_refused g s) ≡ allowed g s els preds
  entries_allowed e p = ap not refused_entry ∙ not_not _ ∙ sym (λ i. allowed g s (e i) (p i))
