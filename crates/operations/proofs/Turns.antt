-- Laws of the pass in progress, and of the laws that remain in its loops.
use mathlib.Core.Path.{◌≡◌, refl, sym, ap, subst, ◌∙◌}
use mathlib.Core.List.{List, [], ◌∷◌, ◌++◌, map}
use Prim.Native.Nat.{ℕ, ◌+◌, ◌≤◌, ◌<◌}
use native.Mathlib.Omega.{arith}
use lib.ListN.{length, drop, get_or}
use borrow.Author.Tests.{eq-eqb, ne_eqb}
use Rattle.ids.proofs.Tests.{chosen, unchosen}
use Rattle.ids.proofs.Views.{view_next, view_done}
use Rattle.signature.specs.declared.ModelIds.{ModelIds}
use Rattle.signature.specs.declared.Models.{Models}
use Rattle.signature.specs.Model.{Sig, ModelM, model_of, view_models}
use Rattle.semantics.specs.Structure.{FuncApp, func_app, PredApp}
use Rattle.semantics.specs.MapLaws.{side, MapLaw, application, equation, identity_laws, composition_laws, identity_laws_in, composition_laws_in, map_laws_in, map_laws_of, map_laws}
use Rattle.semantics.specs.Close as closing
use Rattle.semantics.specs.Close.{apply_turn, obey, obey_all, operation_pass}
use Rattle.rows.proofs.Halving.{items_next, items_done}
use Rattle.facts.specs.declared.Fact as fact
use Rattle.apps.specs.declared.FuncApp as code
use Rattle.merging.specs.declared.Tally.{Tally}
use Rattle.operations.specs.View.{with_operations_counted, Tables, turn_of, TablesHeld, TurnToward, TurnBy}
use Rattle.apps.specs.View.{func_app_of}
use Rattle.rows.specs.View.{func_apps_in}

-- nothing is done yet
pub begins : (t : Tables) → TablesHeld t → (f : closing.Turn → closing.Turn) → TurnToward t t f f
begins t h f = record { is = λ facts. refl; holds = h; counts = refl }

-- nothing is to be done
pub idle : (t : Tables) → TablesHeld t → {f : closing.Turn → closing.Turn} → ((w : closing.Turn) → w ≡ f w) → TurnBy t t f
idle t h e = record { is = λ facts. e (turn_of facts t); holds = h; counts = refl }

module _ {before now : Tables} {rest whole : closing.Turn → closing.Turn} (so_far : TurnToward before now rest whole) where
  -- g is done: with it the rest is what remains then
  pub takes : {next : Tables} {g then : closing.Turn → closing.Turn} → TurnBy now next g → ((w : closing.Turn) → then (g w) ≡ rest w)
      → TurnToward before next then whole
  takes {next} {then = then} p e =
      let c : Tally = next.turn.counts in record {
        is = λ facts. ap then (p.is facts) ∙ e (turn_of facts now) ∙ so_far.is facts;
        holds = p.holds;
        counts = p.counts ∙ ap (with_operations_counted c.func_apps c.pairs c.met) so_far.counts;
      }

  -- nothing remains
  pub ends : ((w : closing.Turn) → w ≡ rest w) → TurnBy before now whole
  ends e = record { is = λ facts. e (turn_of facts now) ∙ so_far.is facts; holds = so_far.holds; counts = so_far.counts }

-- one after another, in other words where they began
pub follows_here : {before now after : Tables} {f g whole : closing.Turn → closing.Turn} → TurnBy before now f → TurnBy now after g
    → ((facts : List fact.Fact) → g (f (turn_of facts before)) ≡ whole (turn_of facts before)) → TurnBy before after whole
follows_here {after = after} {g = g} p q e =
    let c : Tally = after.turn.counts in record {
      is = λ facts. q.is facts ∙ ap g (p.is facts) ∙ e facts;
      holds = q.holds;
      counts = q.counts ∙ ap (with_operations_counted c.func_apps c.pairs c.met) p.counts;
    }

-- the same, from every turn
pub follows : {before now after : Tables} {f g whole : closing.Turn → closing.Turn} → TurnBy before now f → TurnBy now after g
    → ((w : closing.Turn) → g (f w) ≡ whole w) → TurnBy before after whole
follows {before} p q e = follows_here p q (λ facts. e (turn_of facts before))

-- Laws, one after the other.

pub obey_all_none : (w : closing.Turn) → w ≡ obey_all [] w
unfolding obey_all
obey_all_none w = refl

pub obey_all_append : (xs ys : List MapLaw) (w : closing.Turn) → obey_all ys (obey_all xs w) ≡ obey_all (xs ++ ys) w
unfolding obey_all
obey_all_append [] ys w = refl
obey_all_append (x ∷ xs) ys w = obey_all_append xs ys (obey x w)

-- the first of those that remain are carried out
pub obeys : {before now next : Tables} {whole : closing.Turn → closing.Turn} (here then : List MapLaw) {rest : List MapLaw}
    → TurnToward before now (obey_all rest) whole → rest ≡ here ++ then → TurnBy now next (obey_all here) → TurnToward before next (obey_all then) whole
obeys here then so_far e p = takes so_far p (λ w. obey_all_append here then w ∙ ap (λ (l : List MapLaw). obey_all l w) (sym e))

-- none remains
pub obeyed_all : {before now : Tables} {whole : closing.Turn → closing.Turn} {rest : List MapLaw} → TurnToward before now (obey_all rest) whole → rest ≡ []
    → TurnBy before now whole
obeyed_all so_far e = ends so_far (λ w. obey_all_none w ∙ ap (λ (l : List MapLaw). obey_all l w) (sym e))

-- One application in one model: it is one of id with one argument, or of comp with two, or there is no law.

one_is : (l : List ℕ) (a : ℕ) → length l ≡ 1 → get_or l 0 0 ≡ a → l ≡ a ∷ []
one_is [] a n e = absurd (omega arith)
one_is (x ∷ []) a n e = ap (λ (y : ℕ). y ∷ []) e
one_is (x ∷ y ∷ l) a n e = absurd (omega arith)

two_are : (l : List ℕ) (a b : ℕ) → length l ≡ 2 → get_or l 0 0 ≡ a → get_or l 1 0 ≡ b → l ≡ a ∷ b ∷ []
two_are [] a b n e f = absurd (omega arith)
two_are (x ∷ []) a b n e f = absurd (omega arith)
two_are (x ∷ y ∷ []) a b n e f = λ i. e i ∷ f i ∷ []
two_are (x ∷ y ∷ z ∷ l) a b n e f = absurd (omega arith)

module _ (m : ModelM) (x : FuncApp) where
  pub not_identity : (x.func ≡ m.id → ⊥) → [] ≡ identity_laws_in m x
  not_identity n = unchosen (identity_laws m x.parents x.args x.result) (ne_eqb x.func m.id n)

  pub not_composite : (x.func ≡ m.comp → ⊥) → [] ≡ composition_laws_in m x
  not_composite n = unchosen (composition_laws m x.parents x.args x.result) (ne_eqb x.func m.comp n)

  module _ (is : x.func ≡ m.id) where
    as_identity : {ls : List MapLaw} → ls ≡ identity_laws m x.parents x.args x.result → ls ≡ identity_laws_in m x
    as_identity e = e ∙ chosen [] (eq-eqb x.func m.id is)

    pub identity_of_one : (a : ℕ) → length x.args ≡ 1 → get_or x.args 0 0 ≡ a
        → application (func_app m.dom x.parents (x.result ∷ []) a) ∷ application (func_app m.cod x.parents (x.result ∷ []) a) ∷ [] ≡ identity_laws_in m x
    unfolding identity_laws
    identity_of_one a n e =
        as_identity (ap (λ (l : List ℕ). identity_laws m x.parents l x.result) (sym (one_is x.args a n e)))

    pub identity_of_others : (length x.args ≡ 1 → ⊥) → [] ≡ identity_laws_in m x
    unfolding identity_laws
    identity_of_others n = as_identity (go x.args n)
      where
        go : (l : List ℕ) → (length l ≡ 1 → ⊥) → [] ≡ identity_laws m x.parents l x.result
        go [] k = refl
        go (a ∷ []) k = absurd (k refl)
        go (a ∷ b ∷ l) k = refl

  module _ (is : x.func ≡ m.comp) where
    as_composite : {ls : List MapLaw} → ls ≡ composition_laws m x.parents x.args x.result → ls ≡ composition_laws_in m x
    as_composite e = e ∙ chosen [] (eq-eqb x.func m.comp is)

    pub composition_of_two : (f g : ℕ) → length x.args ≡ 2 → get_or x.args 0 0 ≡ f → get_or x.args 1 0 ≡ g
        → equation x.parents (side m.dom f) (side m.dom x.result)
        ∷ equation x.parents (side m.cod g) (side m.cod x.result)
        ∷ equation x.parents (side m.cod f) (side m.dom g)
        ∷ []
        ≡ composition_laws_in m x
    unfolding composition_laws
    composition_of_two f g n e h =
        as_composite (ap (λ (l : List ℕ). composition_laws m x.parents l x.result) (sym (two_are x.args f g n e h)))

    pub composition_of_others : (length x.args ≡ 2 → ⊥) → [] ≡ composition_laws_in m x
    unfolding composition_laws
    composition_of_others n = as_composite (go x.args n)
      where
        go : (l : List ℕ) → (length l ≡ 2 → ⊥) → [] ≡ composition_laws m x.parents l x.result
        go [] k = refl
        go (a ∷ []) k = refl
        go (a ∷ b ∷ []) k = absurd (k refl)
        go (a ∷ b ∷ d ∷ l) k = refl

-- an application that holds is inserted
pub held : {before after : Tables} {x y : FuncApp} → x ≡ y → TurnBy before after (apply_turn x) → TurnBy before after (obey (application y))
unfolding obey
held {before} {after} e p = subst (λ (z : FuncApp). TurnBy before after (apply_turn z)) e p

-- no law
pub lawless : (t : Tables) → TablesHeld t → {ls : List MapLaw} → [] ≡ ls → TurnBy t t (obey_all ls)
lawless t h e = idle t h (λ w. obey_all_none w ∙ ap (λ (l : List MapLaw). obey_all l w) e)

-- two laws, and three
module _ {t₀ t₁ t₂ : Tables} {k l : MapLaw} (p : TurnBy t₀ t₁ (obey k)) (q : TurnBy t₁ t₂ (obey l)) where
  pub two_laws : {ls : List MapLaw} → k ∷ l ∷ [] ≡ ls → TurnBy t₀ t₂ (obey_all ls)
  unfolding obey_all
  two_laws e = follows p q (λ w. ap (λ (x : List MapLaw). obey_all x w) e)

  pub three_laws : {t₃ : Tables} {m : MapLaw} → TurnBy t₂ t₃ (obey m) → {ls : List MapLaw} → k ∷ l ∷ m ∷ [] ≡ ls → TurnBy t₀ t₃ (obey_all ls)
  unfolding obey_all
  three_laws r e = follows (follows p q (λ w. refl)) r (λ w. ap (λ (x : List MapLaw). obey_all x w) e)

-- those of an identity, then those of a composite
pub both_laws : (m : ModelM) (x : FuncApp) {t₀ t₁ t₂ : Tables} → TurnBy t₀ t₁ (obey_all (identity_laws_in m x)) → TurnBy t₁ t₂ (obey_all (composition_laws_in m x))
    → TurnBy t₀ t₂ (obey_all (map_laws_in m x))
unfolding map_laws_in
both_laws m x p q = follows p q (obey_all_append (identity_laws_in m x) (composition_laws_in m x))

-- The models, one after the other, and the applications.

none_of : (x : FuncApp) {ms : List ModelM} → ms ≡ [] → map_laws_of ms x ≡ []
unfolding map_laws_of
none_of x e = ap (λ (l : List ModelM). map_laws_of l x) e

more_of : (x : FuncApp) {ms : List ModelM} {m : ModelM} {rest : List ModelM} → ms ≡ m ∷ rest → map_laws_of ms x ≡ map_laws_in m x ++ map_laws_of rest x
unfolding map_laws_of
more_of x e = ap (λ (l : List ModelM). map_laws_of l x) e

-- a loop over the models, at model i
module _ (models : Models) (x : FuncApp) (i : ℕ) {before now : Tables} {whole : closing.Turn → closing.Turn}
    (so_far : TurnToward before now (obey_all (map_laws_of (drop i (view_models models)) x)) whole) where
  pub model_obeyed : (d : ModelIds) {next : Tables} → i < length (view_models models) → TurnBy now next (obey_all (map_laws_in (model_of (get_or models.items i d)) x))
      → TurnToward before next (obey_all (map_laws_of (drop (i + 1) (view_models models)) x)) whole
  model_obeyed d h p = obeys _ _ so_far (more_of x (view_next model_of models.len models.items i d h)) p

  pub models_obeyed : length (view_models models) ≤ i → TurnBy before now whole
  models_obeyed h = obeyed_all so_far (none_of x (view_done model_of models.len models.items i h))

no_laws : (ms : List ModelM) {xs : List FuncApp} → xs ≡ [] → map_laws ms xs ≡ []
unfolding map_laws
no_laws ms e = ap (map_laws ms) e

more_laws : (ms : List ModelM) {xs : List FuncApp} {x : FuncApp} {rest : List FuncApp} → xs ≡ x ∷ rest → map_laws ms xs ≡ map_laws_of ms x ++ map_laws ms rest
unfolding map_laws
more_laws ms e = ap (map_laws ms) e

-- where there is no model
pub no_model : (ms : List ModelM) (xs : List FuncApp) → length ms ≡ 0 → [] ≡ map_laws ms xs
unfolding map_laws map_laws_of
no_model [] [] e = refl
no_model [] (x ∷ xs) e = no_model [] xs e
no_model (m ∷ ms) xs e = absurd (omega arith)

-- a loop over applications, at index i
module _ (ms : List ModelM) (xs : List code.FuncApp) (i : ℕ) {before now : Tables} {whole : closing.Turn → closing.Turn}
    (so_far : TurnToward before now (obey_all (map_laws ms (map func_app_of (drop i xs)))) whole) where
  pub app_obeyed : (d : code.FuncApp) {next : Tables} → i < length xs
      → TurnBy now next (obey_all (map_laws_of ms (func_app_of (get_or xs i d)))) → TurnToward before next (obey_all (map_laws ms (map func_app_of (drop (i + 1) xs)))) whole
  app_obeyed d h p = obeys _ _ so_far (more_laws ms (items_next func_app_of xs i d h)) p

  pub apps_obeyed : length xs ≤ i → TurnBy before now whole
  apps_obeyed h = obeyed_all so_far (no_laws ms (items_done func_app_of xs i h))

-- the whole pass: the laws are those of the applications that are there when it begins
pub passed : (g : Sig) (preds : List PredApp) {before after : Tables} {xs : List FuncApp}
    → xs ≡ func_apps_in before.turn.counts.func_apps before.apps → TurnBy before after (obey_all (map_laws g.models xs))
    → TurnBy before after (operation_pass g preds)
unfolding operation_pass
passed g preds {before} e p = record {
  is = λ facts. p.is facts ∙ ap (λ (l : List FuncApp). obey_all (map_laws g.models l) (turn_of facts before)) e;
  holds = p.holds;
  counts = p.counts;
}
