-- Laws that the proofs of several functions cite.
use mathlib.Core.Path.{◌≡◌, refl, sym, ap, subst, ◌∙◌}
use mathlib.Core.Bool.{true, false, ◌||◌}
use mathlib.Core.List.{List}
use mathlib.Core.Option.{Option, none}
use Prim.Native.Nat.{ℕ}
use lib.ListN.{length, take}
use lib.Dec.{eqb}
use Rattle.ids.specs.declared.ElIds.{ElIds}
use Rattle.ids.specs.Limits.{max_list}
use Rattle.ids.specs.Ids.{too_long, els_of, given_els}
use Rattle.ids.proofs.Counted.{Search}
use Rattle.ids.proofs.Judging.{SoFar, NoneApplies}
use Rattle.ids.proofs.Lists.{held_els}
use Rattle.unification.specs.Roots.{max_els, links_of}
use Rattle.signature.specs.Model.{Sig, ModelM}
use Rattle.semantics.specs.Structure as model
use Rattle.semantics.specs.Structure.{with_links, with_marks, with_pairs, with_func_apps}
use Rattle.semantics.specs.Applying.{Applied}
use Rattle.semantics.specs.Calls.{Call, Machine, Step, applied_to, with_applied, is_id_or_comp, misapplies, is_misapplied, says, answers, machine, leaves}
use Rattle.semantics.specs.Calls.{rule, acceptance, step}
use Rattle.semantics.proofs.Cases.{or_first, or_second}
use Rattle.semantics.proofs.Judged.{step_accepts}
use Rattle.apps.specs.View.{func_apps_of}
use Rattle.equalities.specs.View.{pairs_of}
use Rattle.applying.specs.declared.Applied as applying
use Rattle.applying.specs.View.{applied_of, apply_in}
use Rattle.applying.proofs.Laws.{room_full, room_same, apply_length}
use Rattle.structure.specs.declared.Structure.{Structure}
use Rattle.structure.specs.View.{structure_of}
use Rattle.structure.proofs.Laws.{accepts}
use Rattle.unification.proofs.Beside.{kept}

-- a search for a model that names a function as id or comp
pub by_operation : (f : ℕ) → Search (λ (m : ModelM). eqb f m.id || eqb f m.comp) (is_id_or_comp f)
unfolding is_id_or_comp
by_operation f = record { none = refl; more = λ y ys. refl }

-- a search for a model whose id or comp is applied to another number of arguments
pub by_arg_count : (x : model.FuncApp) → Search (λ (m : ModelM). misapplies m x) (is_misapplied x)
unfolding is_misapplied
by_arg_count x = record { none = refl; more = λ y ys. refl }

-- two lists that are held as they were given unless one of them is too long
pub both_held : {A : Type 0} (f : List ℕ → List ℕ → A) (ps xs : ElIds) → length ps.ids ≡ max_list → length xs.ids ≡ max_list
    → (too_long (given_els ps) || too_long (given_els xs)) ≡ false → f (given_els ps) (given_els xs) ≡ f (els_of ps) (els_of xs)
both_held f ps xs p x short =
    let a = too_long (given_els ps) in
    let b = too_long (given_els xs) in
    λ i. f ((held_els ps p (or_first a b short)).same i) ((held_els xs x (or_second a b short)).same i)

-- a call that is judged on what was given, and carried out on what is held
pub held_accepts : {A : Type 0} (call : A → Call) (m : Machine) {v : Option ℕ} {given held : A} → SoFar v (rule (call given) m).causes → v ≡ none
    → (NoneApplies (rule (call given) m).causes → given ≡ held) → {s : Step}
    → (NoneApplies (rule (call held) m).causes → s ≡ acceptance (rule (call held) m)) → s ≡ step (call given) m
held_accepts {A} call m so e same f =
    step_accepts _ m so e (λ none-applies.
    let is = same none-applies in
    f (subst (λ (x : A). NoneApplies (rule (call x) m).causes) is none-applies) ∙ ap (λ (x : A). acceptance (rule (call x) m)) (sym is))

-- What the code leaves of the structure s after an application.
module _ (s : Structure) (r : applying.Applied) (x : model.FuncApp)
    (is : applied_of r ≡ apply_in x (links_of s.unification) (pairs_of s.pending_equalities) (func_apps_of s.func_apps)) where
  abbrev met : Applied
  met = applied_to (structure_of s) x

  -- whether there is no room
  pub met_full : r.full ≡ met.full
  met_full = ap (λ (a : Applied). a.full) is ∙ room_full _ _ _ _

  module _ (marks : length s.inferred_parent_els ≡ max_els) (us : length s.unification.links ≡ max_els)
      (vs : length r.unification.links ≡ max_els) where
    abbrev after : model.Structure
    after =
        with_links (links_of r.unification) (with_marks (take r.unification.len s.inferred_parent_els)
        (with_pairs (pairs_of r.pairs) (with_func_apps (func_apps_of r.func_apps) (structure_of s))))

    -- where there is
    pub applies : met.full ≡ false → (g : Sig) {t : Step} → t ≡ answers (says r.yes) (machine g (leaves true (says r.yes) after))
        → t ≡ answers (says met.yes) (machine g (leaves true (says met.yes) (with_applied met (structure_of s))))
    unfolding with_applied
    applies room g q =
        let same : applied_of r ≡ met = is ∙ room_same _ _ _ _ room in
        let many : length (links_of r.unification) ≡ length (links_of s.unification) =
        ap (λ (a : Applied). length a.links) same ∙ apply_length _ _ _ _ in
        let marked = kept s.unification r.unification s.inferred_parent_els marks us vs many in
        accepts g q (λ i. says (same i).yes)
        (λ i. with_links (same i).links (with_marks (marked i) (with_pairs (same i).pairs (with_func_apps (same i).apps (structure_of s)))))
