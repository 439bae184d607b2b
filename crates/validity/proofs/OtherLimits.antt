-- With a limit of one less than `max_facts`, `max_func_apps` or `max_pairs` the close refuses where nothing is noted, and with one more it accepts where
-- something is: each breaks the equation of `numbers_exactly`. The structures that show it are given directly and made by no calls.
use mathlib.Core.Path.{◌≡◌, refl, sym, ap, ◌∙◌}
use mathlib.Core.Bool.{true, false}
use mathlib.Core.List.{List, [], ◌∷◌}
use Prim.Native.Nat.{ℕ, zero, suc, ◌+◌, ◌-◌}
use native.Mathlib.Omega.{arith}
use lib.ListN.{length}
use lib.Dec.{ltb}
use Rattle.ids.specs.Answers.{Outcome, accepted, refused, no_room, too_many_facts}
use Rattle.ids.specs.Table.{present, placed}
use Rattle.signature.specs.Model.{Sig, empty as no_types, plain, type_entry, with_types, with_models, model_entry}
use Rattle.semantics.specs.Structure.{Fact, fact, FuncApp, func_app, Structure, compare_fact, max_facts, max_func_apps, max_pairs, empty, with_links, with_facts}
use Rattle.semantics.specs.Structure.{with_func_apps, with_impositions}
use Rattle.semantics.specs.Types.{Core, with_added, with_met, insert_fact}
use Rattle.semantics.specs.Applying.{applied}
use Rattle.semantics.specs.Close.{Turn, applied_turn, apply_turn, fuel, Closed, report, close}
use Rattle.semantics.proofs.Computes.{everything}
use Rattle.validity.specs.Unlimited.{insertions, impose_by, impose_all_by, imposed_by, typing_by, give_to_by, give_by, equalize_by, obey_by, obey_all_by}
use Rattle.validity.specs.Unlimited.{operation_by, passes_by, run_passes_by, round_by, rounds_from_by, rounds_by, ran_by, limited, noted_if, insert_always}
use Rattle.validity.specs.Unlimited.{grew_over, applied_during, over_limits, apply_always, unlimited, first_noted, close_or_number}
use Rattle.validity.proofs.Limit.{applied_grown, is_close}

-- `insert_fact` with the limit n
unfoldable pub insert_within : ℕ → Fact → Core → Core
insert_within n f w =
    elim (present compare_fact f w.facts) [
      | true ↦ w
      | false ↦ elim (ltb (length w.facts) n) [ true ↦ with_added (placed compare_fact f w.facts) w | false ↦ with_met too_many_facts w ]
    ]

-- `apply_turn` with the limits n of applications and p of pairs
unfoldable pub apply_within : ℕ → ℕ → FuncApp → Turn → Turn
apply_within n p x t =
    let a = applied_during t x in applied_turn (applied a.links a.pairs a.apps a.yes (over_limits n p a t)) t

-- the close with these limits
abbrev pub close_within : ℕ → ℕ → ℕ → Sig → Structure → Outcome Closed Structure
close_within facts apps pairs = limited (insertions (insert_within facts) (apply_within apps pairs)) fuel

-- with the right ones it is the close
pub right_limits : (g : Sig) (s : Structure) → close g s ≡ close_within max_facts max_func_apps max_pairs g s
right_limits g s = is_close g s ∙ (λ i. limited (insertions (facts_alike i) (apps_alike i)) fuel g s)
  where
    facts_alike : insert_fact ≡ insert_within max_facts
    facts_alike = (unfold insert_fact insert_within in refl)

    apps_alike : apply_turn ≡ apply_within max_func_apps max_pairs
    apps_alike = (unfold apply_turn apply_within applied_turn in λ i x t.
        let a = applied_during t x in applied_turn (applied a.links a.pairs a.apps a.yes ((applied_grown x t).full i)) t)

-- The structures.

unfoldable pub copies : {A : Type 0} → ℕ → A → List A
copies zero x = []
copies (suc n) x = x ∷ copies n x

-- n facts at one element, and one more that is imposed on another
unfoldable pub many_facts : ℕ → Structure
many_facts n = with_facts (copies n (fact 1 0 [])) (with_impositions (fact 0 0 [] ∷ []) empty)

-- one model, whose dom is function 0, cod and id are 1, and comp is 2
unfoldable pub one_model : Sig
one_model = with_models no_types (model_entry 0 0 0 1 1 2 ∷ [])

-- id(0) = 0: a law gives dom(0) = 0, and another cod(0) = 0, which it is itself
abbrev identity : FuncApp
identity = func_app 1 [] (0 ∷ []) 0

-- n applications of functions from 3 on
unfoldable pub constants : ℕ → List FuncApp
constants zero = []
constants (suc n) = func_app (n + 3) [] [] 0 ∷ constants n

-- n applications, and one more that the law gives
unfoldable pub many_apps : ℕ → Structure
many_apps n = with_func_apps (identity ∷ constants (n - 1)) empty

-- n applications that queue a pair, and dom(0) = 1, for which the law queues one more
unfoldable pub many_pairs : ℕ → Structure
many_pairs n =
    with_links (0 ∷ 1 ∷ [])
    (with_func_apps (func_app 0 [] (0 ∷ []) 1 ∷ identity ∷ func_app 3 [] [] 0 ∷ copies n (func_app 3 [] [] 1)) empty)

-- what the proofs below compute with
unfoldable all : ℕ
unfolding everything impose_by impose_all_by imposed_by typing_by give_to_by give_by equalize_by obey_by obey_all_by operation_by passes_by run_passes_by round_by rounds_from_by
    rounds_by ran_by limited noted_if insert_always grew_over over_limits apply_always unlimited first_noted insert_within apply_within copies many_facts one_model constants many_apps
    many_pairs
all = 0

-- a refusal is no acceptance
differ : (n : ℕ) (c : Closed) {x y : Outcome Closed Structure} → x.answer ≡ refused n → y.answer ≡ accepted c → x ≡ y → ⊥
differ n c p q e =
    let same : refused n ≡ accepted c = sym p ∙ ap (λ (o : Outcome Closed Structure). o.answer) e ∙ q in
    let z : ◌≡◌ {A = ℕ} 0 1 = cc same in
    omega arith

-- Facts: number 1,024 is inserted, and 1,025 is not.

pub one_fact_less : close_within (max_facts - 1) max_func_apps max_pairs no_types (many_facts (max_facts - 1)) ≡ close_or_number fuel no_types (many_facts (max_facts - 1)) → ⊥
unfolding all
one_fact_less = differ too_many_facts (report true 0 1 1) refl refl

pub one_fact_more : close_within (max_facts + 1) max_func_apps max_pairs no_types (many_facts max_facts) ≡ close_or_number fuel no_types (many_facts max_facts) → ⊥
unfolding all
one_fact_more e = differ too_many_facts (report true 0 1 1) refl refl (sym e)

-- Applications: number 256 is inserted, and 257 is not.

pub one_app_less : close_within max_facts (max_func_apps - 1) max_pairs one_model (many_apps (max_func_apps - 1)) ≡ close_or_number fuel one_model (many_apps (max_func_apps - 1)) → ⊥
unfolding all
one_app_less = differ no_room (report true 0 2 1) refl refl

pub one_app_more : close_within max_facts (max_func_apps + 1) max_pairs one_model (many_apps max_func_apps) ≡ close_or_number fuel one_model (many_apps max_func_apps) → ⊥
unfolding all
one_app_more e = differ no_room (report true 0 2 1) refl refl (sym e)

-- Pairs: number 256 is queued, and 257 is not.

pub one_pair_less : close_within max_facts max_func_apps (max_pairs - 1) one_model (many_pairs (max_pairs - 1)) ≡ close_or_number fuel one_model (many_pairs (max_pairs - 1)) → ⊥
unfolding all
one_pair_less = differ no_room (report true 1 3 2) refl refl

pub one_pair_more : close_within max_facts max_func_apps (max_pairs + 1) one_model (many_pairs max_pairs) ≡ close_or_number fuel one_model (many_pairs max_pairs) → ⊥
unfolding all
one_pair_more e = differ no_room (report true 1 3 2) refl refl (sym e)

-- "Of 9 and 11 in one close, the one met first is given": neither the lower nor the last.

-- no room for a fact, and none for an application
unfoldable pub many_both : Structure
many_both = with_func_apps (many_apps max_func_apps).func_apps (many_facts max_facts)

-- each result demands a type that needs no parent: typing meets 11, then the law 9
pub eleven_first : (close one_model many_both).answer ≡ refused too_many_facts
unfolding all many_both
eleven_first = refl

-- the type needs a parent and is not demanded: the law meets 9, then the imposition 11
pub nine_first : (close (with_types one_model (type_entry plain (0 ∷ []) ∷ [])) many_both).answer ≡ refused no_room
unfolding all many_both
nine_first = refl
