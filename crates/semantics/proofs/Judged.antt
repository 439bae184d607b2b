-- Laws of `step`, proved once for every call: a refused call leaves everything as it was and gives the number of one of its causes; an accepted
-- one leaves its effect.
use mathlib.Core.Path.{◌≡◌, refl, ap, ◌∙◌}
use mathlib.Core.Bool.{Bool, true, false, not, ◌&&◌}
use mathlib.Core.List.{List, [], ◌∷◌, Memᴰ}
use mathlib.Core.Option.{Option, none, some}
use Prim.Native.Nat.{ℕ}
use lib.ListN.{length}
use lib.Dec.{ltb}
use borrow.Author.Tests.{ltb-true, ltb-false, eqb-true, not-false}
use Rattle.ids.specs.Answers.{Answered, accepted, refused, first_of, decided, Outcome, outcome, refusing, accepting}
use Rattle.ids.specs.Ids.{too_long, all_below}
use Rattle.ids.specs.Limits.{max_list}
use Rattle.ids.proofs.Judging.{NoneApplies, numbers, SoFar, decided_refuses, decided_accepts, decided_by, refused_by, accepted_by}
use Rattle.ids.proofs.Sorted.{no_test}
use Rattle.signature.specs.Model.{Sig}
use Rattle.signature.specs.Calls.{is_type, parent_count, TypedM, concrete_type_at, lookup_type_causes, lookup_type_of}
use Rattle.semantics.specs.Valid.{Below, Listed, counts_at, FactValid}
use Rattle.semantics.specs.Structure.{Fact, Structure}
use Rattle.semantics.specs.Close as closing
use Rattle.semantics.specs.Close.{Closed, CloseRun, close_run, met_causes, close_causes, close_by, report_of, after_close}
use Rattle.semantics.specs.Calls.{Call, push_type, push_pred, push_func, push_model, push_mor_app, push_el, equate_els, impose_type}
use Rattle.semantics.specs.Calls.{apply_func, apply_pred, bind_var, bind_ambient, close, type_conflicts, settle, root, root_const, lookup_type}
use Rattle.semantics.specs.Calls.{ambient_parents, Answer, is_accepted, typed, closed, refuse, Machine, machine, Step, answers, rule, leading}
use Rattle.semantics.specs.Calls.{leaves, settled_by, settle_rule, has_its_parents}
use Rattle.semantics.specs.Calls.{equality_rule, imposition_rule, application_rule, close_rule, acceptance, refusal, step_by, step}
use Rattle.semantics.proofs.Cases.{and_first, and_second}

module _ (k : Call) (m : Machine) where
  -- what holds of each refusal, and of the acceptance where no cause applies, holds of the step
  pub step_by_lem {ℓ} : (P : Step → Type ℓ) → ((n : ℕ) → Memᴰ n (numbers (rule k m).causes) → P (refusal m n))
      → (NoneApplies (rule k m).causes → P (acceptance (rule k m))) → P (step k m)
  unfolding step step_by
  step_by_lem P refuses accepts = decided_by P (rule k m).causes (refusal m) (acceptance (rule k m)) refuses accepts

  -- what the code judged

  module _ {v : Option ℕ} (so : SoFar v (rule k m).causes) where
    pub step_refuses : (n : ℕ) → v ≡ some n → refusal m n ≡ step k m
    unfolding step step_by
    step_refuses n e = refused_by (refusal m) (acceptance (rule k m)) so n e

    pub step_accepts : v ≡ none → {s : Step} → (NoneApplies (rule k m).causes → s ≡ acceptance (rule k m)) → s ≡ step k m
    unfolding step step_by
    step_accepts e f = accepted_by (refusal m) (acceptance (rule k m)) so e f

-- the effect of a call is no refusal
pub effect_accepted : (k : Call) (m : Machine) → is_accepted (rule k m).answer ≡ true
unfolding rule equality_rule imposition_rule application_rule close_rule settle_rule is_accepted
effect_accepted (push_type t) m = refl
effect_accepted (push_pred p) m = refl
effect_accepted (push_func f) m = refl
effect_accepted (push_model x) m = refl
effect_accepted (push_mor_app x) m = refl
effect_accepted (push_el mark) m = refl
effect_accepted (equate_els a b) m = refl
effect_accepted (impose_type f) m = refl
effect_accepted (apply_func x) m = refl
effect_accepted (apply_pred x) m = refl
effect_accepted (bind_var v) m = refl
effect_accepted (bind_ambient a) m = refl
effect_accepted close m = refl
effect_accepted type_conflicts m = refl
effect_accepted settle m = refl
effect_accepted (root e) m = refl
effect_accepted (root_const e) m = refl
effect_accepted (lookup_type t ps) m = refl
effect_accepted (ambient_parents ts) m = refl

module _ (k : Call) (m : Machine) where
  -- "left as it was", with the number of a cause
  pub refused_leaves : (n : ℕ) → (step k m).answer ≡ refuse n → ((step k m).after ≡ m) × Memᴰ n (numbers (rule k m).causes)
  unfolding acceptance is_accepted
  refused_leaves n =
      step_by_lem k m (λ s. s.answer ≡ refuse n → (s.after ≡ m) × Memᴰ n (numbers (rule k m).causes))
      (λ j q e. (refl, (let same : j ≡ n = cc in rw (← same) q)))
      (λ none-applies e. absurd (no_test (effect_accepted k m) (ap is_accepted e)))

  -- an accepted call leaves its effect
  pub accepted_leaves : is_accepted (step k m).answer ≡ true → NoneApplies (rule k m).causes × (step k m ≡ acceptance (rule k m))
  unfolding is_accepted
  accepted_leaves =
      step_by_lem k m (λ s. is_accepted s.answer ≡ true → NoneApplies (rule k m).causes × (s ≡ acceptance (rule k m)))
      (λ n q e. absurd (no_test e refl)) (λ none-applies e. (none-applies, refl))

-- the number that refuses is the one first met
pub met_first : (o : Option ℕ) → first_of (met_causes o) ≡ o
unfolding met_causes first_of
met_first none = refl
met_first (some n) = refl

pub close_first : (c : CloseRun) → first_of (close_causes c) ≡ c.core.met
close_first c = met_first c.core.met

-- a call that nothing else refuses
module _ (k : Call) (m : Machine) (o : Option ℕ) (only : (rule k m).causes ≡ met_causes o) where
  met_decides : step k m ≡ decided o (refusal m) (acceptance (rule k m))
  unfolding step step_by
  met_decides = ap (λ (x : Option ℕ). decided x (refusal m) (acceptance (rule k m))) (ap first_of only ∙ met_first o)

  pub met_refuses : (n : ℕ) → o ≡ some n → step k m ≡ refusal m n
  met_refuses n e = met_decides ∙ decided_refuses (refusal m) (acceptance (rule k m)) e

  pub met_accepts : o ≡ none → step k m ≡ acceptance (rule k m)
  met_accepts e = met_decides ∙ decided_accepts (refusal m) (acceptance (rule k m)) e

-- the close of a structure, with the flags that the call leaves, is that of a machine
unfoldable pub closed_answer : Machine → Structure → Answered Closed → Step
closed_answer m s (accepted c) = answers (closed c) (machine m.sig (leaves true (closed c) s))
closed_answer m s (refused n) = refusal m n

abbrev pub closed_by : Machine → Outcome Closed Structure → Step
closed_by m o = closed_answer m o.after o.answer

pub close_steps : (m : Machine) → closed_by m (closing.close m.sig m.structure) ≡ step close m
unfolding step step_by rule close_rule acceptance closing.close close_by outcome decided closed_answer
close_steps m = go (first_of (close_causes (close_run m.sig m.structure)))
  where
    go : (o : Option ℕ)
        → closed_by m (decided o (refusing m.structure)
        (accepting (report_of (close_run m.sig m.structure)) (after_close (close_run m.sig m.structure) m.structure)))
        ≡ decided o (refusal m) (acceptance (close_rule (close_run m.sig m.structure) m))
    go none = refl
    go (some n) = refl

-- the type lookup of a signature is that of a machine
unfoldable pub looked_up : List ℕ → Answered TypedM → Answer
looked_up ps (accepted x) = typed (leading ps x)
looked_up ps (refused n) = refuse n

pub lookup_steps : (m : Machine) (t : ℕ) (ps : List ℕ) → answers (looked_up ps (lookup_type_of m.sig t ps)) m ≡ step (lookup_type t ps) m
unfolding step step_by rule acceptance leaves settled_by lookup_type_of looked_up decided
lookup_steps m t ps = go (first_of (lookup_type_causes m.sig t ps))
  where
    go : (o : Option ℕ) → answers (looked_up ps (decided o (λ n. refused n) (accepted (concrete_type_at m.sig.types t (length ps))))) m
        ≡ decided o (refusal m) (acceptance (rule (lookup_type t ps) m))
    go none = refl
    go (some n) = refl

-- What the tests of a call say.

pub below_if : (n : ℕ) (l : List ℕ) → all_below n l ≡ true → Below n l
unfolding all_below
below_if n [] t = tt
below_if n (x ∷ xs) t = go (ltb x n) refl (λ k. below_if n xs k) t
  where
    go : (b : Bool) → ltb x n ≡ b → (all_below n xs ≡ true → Below n xs) → ◌≡◌ {A = Bool} (elim b [ true ↦ all_below n xs | false ↦ false ]) true
        → Below n (x ∷ xs)
    go true e rest t = (ltb-true x n e, rest t)
    go false e rest t = no_test t refl

pub listed_if : (n : ℕ) (l : List ℕ) → too_long l ≡ false → all_below n l ≡ true → Listed n l
listed_if n l s b = record { short = ltb-false max_list (length l) s; below = below_if n l b }

-- a fact whose call nothing refuses but a full queue, where there are n elements
pub fact_if : (g : Sig) (n : ℕ) (f : Fact) → too_long f.parents ≡ false
    → not (ltb f.el n && (is_type g f.typ && all_below n f.parents)) ≡ false → not (has_its_parents g.types f) ≡ false → FactValid (counts_at g n) f
fact_if g n f short named many =
    let rest = is_type g f.typ && all_below n f.parents in
    let d = not-false (ltb f.el n && rest) named in
    let e = and_second (ltb f.el n) rest d in
    record {
      el = ltb-true f.el n (and_first (ltb f.el n) rest d);
      typ = ltb-true f.typ (length g.types) (and_first (is_type g f.typ) (all_below n f.parents) e);
      parents = listed_if n f.parents short (and_second (is_type g f.typ) (all_below n f.parents) e);
      parent_count = eqb-true (length f.parents) (parent_count g.types f.typ) (not-false (has_its_parents g.types f) many);
    }
