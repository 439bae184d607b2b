-- Numbers 9 and 11: the close with limits and the close without (specs/Unlimited.antt) agree up to the first moment at which a table would be over its
-- limit, and the number of that table is given exactly if there is such a moment: for every signature and structure, with as many rounds as the close may run.
use mathlib.Core.Path.{◌≡◌, refl, sym, ap, subst, ◌∙◌}
use mathlib.Core.Logic.{◌⊎◌, inl, inr, ◌↔◌}
use mathlib.Core.Bool.{Bool, true, false, not, ◌&&◌, ◌||◌}
use mathlib.Core.List.{List, [], ◌∷◌, Memᴰ}
use mathlib.Core.Option.{Option, none, some}
use Prim.Native.Nat.{ℕ, zero, suc, ◌+◌, ◌≤◌, min, max}
use native.Mathlib.Omega.{arith}
use lib.ListN.{length}
use lib.Dec.{eqb, leb, ltb}
use borrow.Author.Tests.{ltb-true, ltb-false, lt-ltb, le-ltb, leb-true, leb-false}
use Rattle.ids.specs.Answers.{Outcome, outcome, decided, refused, refusing, accepting, no_room, too_many_facts}
use Rattle.ids.specs.Table.{present, placed, lookup_of}
use Rattle.ids.proofs.Judging.{decided_refuses, decided_accepts}
use Rattle.ids.proofs.Sorted.{placed_absent, lookup_none, rewrite_length, no_test}
use Rattle.unification.specs.Roots.{root_of}
use Rattle.signature.specs.Model.{Sig}
use Rattle.semantics.specs.Structure.{Fact, FuncApp, func_app, PredApp, Pair, pair, Structure, compare_fact, compare_func_app, canonical_fact, canonical_func_app}
use Rattle.semantics.specs.Structure.{fact_at, max_facts, max_func_apps, max_pairs}
use Rattle.semantics.specs.Types.{Core, with_links, with_pairs, with_added, first_met, with_met, marked, moved_facts, merge, join_roots, join, drain_pairs, drain}
use Rattle.semantics.specs.Types.{concrete_types_of, refine_roots, refine, refine_parents, refine_all, insert_fact, insert_canonical, impose, impose_all}
use Rattle.semantics.specs.Applying.{equate, Applied, applied, applied_equal, apply_at, insert_func_app_or_equate}
use Rattle.semantics.specs.MapLaws.{MapLaw, application, equation, map_laws}
use Rattle.semantics.specs.Calls as calls
use Rattle.semantics.specs.Calls.{Machine, step}
use Rattle.semantics.specs.Close.{Turn, turn, reports, Pass, drained, drain_pass, rewrote, functionality_pass, typed, typing_pass, demands, passes, run_passes}
use Rattle.semantics.specs.Close.{applied_turn, apply_turn, key_of, give_to, give, equalize, obey, obey_all, operation_pass, round, as_close_run, goes_on}
use Rattle.semantics.specs.Close.{Rounds, is_none, last_round, one_more, rounds_from, rounds, fuel, Closed, core_at_start, CloseRun, imposed_after, close_run}
use Rattle.semantics.specs.Close.{report_of, after_close, close_by, close}
use Rattle.semantics.specs.Valid.{Valid}
use Rattle.semantics.proofs.Judged.{closed_by, close_steps, close_first}
use Rattle.semantics.proofs.Operations.{apply_cases}
use Rattle.validity.specs.Numbers.{close_numbers, MayMeet}
use Rattle.validity.specs.Unlimited.{Insertions, impose_by, impose_all_by, imposed_by, typing_by, give_to_by, give_by, equalize_by, obey_by, obey_all_by}
use Rattle.validity.specs.Unlimited.{operation_by, PassBy, passes_by, run_passes_by, round_by, rounds_from_by, rounds_by, ran_by, with_limits, limited, noted_if}
use Rattle.validity.specs.Unlimited.{insert_always, grew_over, applied_during, over_limits, apply_always, without_limits, works, ran_free, unlimited, first_noted, close_or_number}
use Rattle.validity.proofs.Closing.{close_fuel}

-- What merges and refinements keep: the number that is met, and no more facts than there were.

pub record MetKept (w v : Core) : Type 0 where
  pub met : v.met ≡ w.met
  pub facts : length v.facts ≤ length w.facts

same : (w : Core) → MetKept w w
same w = record { met = refl; facts = omega arith }

then : (w v u : Core) → MetKept w v → MetKept v u → MetKept w u
then w v u a b = record { met = b.met ∙ a.met; facts = omega (arith, a.facts, b.facts) }

merge_kept : (keep drop : ℕ) (w : Core) → MetKept w (merge keep drop w)
unfolding merge moved_facts
merge_kept keep drop w = record {
  met = refl;
  facts = omega (arith, rewrite_length compare_fact (λ f. elim (eqb f.el drop) [ true ↦ fact_at keep f | false ↦ f ]) w.facts []);
}

join_kept : (p : Pair) (w : Core) → MetKept w (join p w)
unfolding join join_roots
join_kept p w = go (eqb a b)
  where
    a : ℕ
    a = root_of w.links p.lhs

    b : ℕ
    b = root_of w.links p.rhs

    go : (t : Bool) → MetKept w (elim t [ true ↦ w | false ↦ merge (min a b) (max a b) w ])
    go true = same w
    go false = merge_kept (min a b) (max a b) w

drain_pairs_kept : (ps : List Pair) (w : Core) → MetKept w (drain_pairs ps w)
unfolding drain_pairs
drain_pairs_kept [] w = same w
drain_pairs_kept (p ∷ ps) w = then w (join p w) (drain_pairs ps (join p w)) (join_kept p w) (drain_pairs_kept ps (join p w))

drain_kept : (w : Core) → MetKept w (drain w)
unfolding drain
drain_kept w = let k = drain_pairs_kept w.pairs (with_pairs [] w) in record { met = k.met; facts = k.facts }

refine_kept : (p q : ℕ) (w : Core) → MetKept w (refine p q w)
unfolding refine refine_roots
refine_kept p q w = go (not (eqb a b) && (marked w.marks a || marked w.marks b))
  where
    a : ℕ
    a = root_of w.links p

    b : ℕ
    b = root_of w.links q

    go : (t : Bool) → MetKept w (elim t [ true ↦ drain (with_pairs (pair a b ∷ w.pairs) w) | false ↦ w ])
    go true = let k = drain_kept (with_pairs (pair a b ∷ w.pairs) w) in record { met = k.met; facts = k.facts }
    go false = same w

refine_parents_kept : (ps qs : List ℕ) (w : Core) → MetKept w (refine_parents ps qs w)
unfolding refine_parents
refine_parents_kept [] qs w = same w
refine_parents_kept (p ∷ ps) [] w = same w
refine_parents_kept (p ∷ ps) (q ∷ qs) w = then w (refine p q w) (refine_parents ps qs (refine p q w)) (refine_kept p q w) (refine_parents_kept ps qs (refine p q w))

refine_all_kept : (gs : List Fact) (f : Fact) (w : Core) → MetKept w (refine_all gs f w)
unfolding refine_all
refine_all_kept [] f w = same w
refine_all_kept (g ∷ gs) f w = go (eqb g.typ f.typ) (λ v. refine_all_kept gs f v)
  where
    go : (t : Bool) → ((v : Core) → MetKept v (refine_all gs f v))
        → MetKept w (refine_all gs f (elim t [ true ↦ refine_parents g.parents f.parents w | false ↦ w ]))
    go true rest =
        let v = refine_parents g.parents f.parents w in
        then w v (refine_all gs f v) (refine_parents_kept g.parents f.parents w) (rest v)
    go false rest = rest w

-- What holds through merges and insertions holds through facts imposed and laws obeyed.

abbrev Through : (Core → Type 0) → Type 0
Through P = (w v : Core) → MetKept w v → P w → P v

-- what each insertion keeps
pub record Inserts (P : Core → Type 0) (insert : Insertions) : Type 0 where
  pub facts : (f : Fact) (w : Core) → P w → P (insert.fact f w)
  pub apps : (x : FuncApp) (t : Turn) → P t.core → P (insert.app x t).core

module _ (insert : Insertions) (P : Core → Type 0) (through : Through P) (inserts : Inserts P insert) where
  impose_holds : (f : Fact) (w : Core) → P w → P (impose_by insert f w)
  unfolding impose_by
  impose_holds f w h =
      let ts = concrete_types_of w.links w.facts f.el in
      let v = refine_all ts f w in
      inserts.facts (canonical_fact v.links f) v (through w v (refine_all_kept ts f w) h)

  pub impose_all_holds : (fs : List Fact) (w : Core) → P w → P (impose_all_by insert fs w)
  unfolding impose_all_by
  impose_all_holds [] w h = h
  impose_all_holds (f ∷ fs) w h = impose_all_holds fs (impose_by insert f w) (impose_holds f w h)

module _ (insert : Insertions) (P : Core → Type 0) (inserts : Inserts P insert) where
  give_holds : (x y : FuncApp) (t : Turn) → P t.core → P (give_by insert x y t).core
  unfolding give_by give_to_by
  give_holds x y t h = go (lookup_of compare_func_app x t.apps)
    where
      go : (o : Option FuncApp) → P (give_to_by insert y o t).core
      go none = h
      go (some z) = inserts.apps (func_app y.func y.parents y.args z.result) t h

  obey_holds : (l : MapLaw) (t : Turn) → P t.core → P (obey_by insert l t).core
  unfolding obey_by equalize_by
  obey_holds (application x) t h = inserts.apps x t h
  obey_holds (equation ps l r) t h =
      let x = key_of t.core.links ps l in
      let y = key_of t.core.links ps r in
      give_holds y x (give_by insert x y t) (give_holds x y t h)

  pub obey_all_holds : (ls : List MapLaw) (t : Turn) → P t.core → P (obey_all_by insert ls t).core
  unfolding obey_all_by
  obey_all_holds [] t h = h
  obey_all_holds (l ∷ ls) t h = obey_all_holds ls (obey_by insert l t) (obey_holds l t h)

-- Two runs agree: they are at the same place and no number is met, or the same number is met in both.

abbrev pub Agree : {A : Type 0} → (A → Option ℕ) → A → A → Type 0
Agree met a b = ((a ≡ b) × (met a ≡ none)) ⊎ ((n : ℕ) × (met a ≡ some n) × (met b ≡ some n))

-- a step drops no number
abbrev Stays : {A B : Type 0} → (A → Option ℕ) → (B → Option ℕ) → (A → B) → Type 0
Stays {A} m k f = (n : ℕ) (a : A) → m a ≡ some n → k (f a) ≡ some n

-- steps that agree wherever they begin without a number met, and drop no number
agree_then : {A B : Type 0} (m : A → Option ℕ) (k : B → Option ℕ) (f g : A → B) → ((a : A) → m a ≡ none → Agree k (f a) (g a))
    → Stays m k f → Stays m k g → (a b : A) → Agree m a b → Agree k (f a) (g b)
agree_then {A} m k f g both left right a b (inl h) = subst (λ (x : A). Agree k (f a) (g x)) h.0 (both a h.1)
agree_then m k f g both left right a b (inr h) = inr (h.0, left h.0 a h.1, right h.0 b h.2)

abbrev met_core : Core → Option ℕ
met_core w = w.met

abbrev met_turn : Turn → Option ℕ
met_turn t = t.core.met

abbrev met_rounds : Rounds → Option ℕ
met_rounds r = r.core.met

abbrev met_ran : CloseRun → Option ℕ
met_ran r = r.core.met

-- the number n is met
abbrev Met : ℕ → Core → Type 0
Met n w = w.met ≡ some n

-- what is met once k is: the number that was met before, if one was
met_after : (k : ℕ) {o p : Option ℕ} → o ≡ p → first_met k o ≡ first_met k p
met_after k e = ap (λ (o : Option ℕ). first_met k o) e

-- The insertion of a fact.

abbrev limited_by : (t u : Bool) → Fact → Core → Core
limited_by t u f w = elim t [ true ↦ w | false ↦ elim u [ true ↦ with_added (placed compare_fact f w.facts) w | false ↦ with_met too_many_facts w ] ]

abbrev always_by : (t u : Bool) → Fact → Core → Core
always_by t u f w = elim t [ true ↦ w | false ↦ noted_if u too_many_facts (with_added (placed compare_fact f w.facts) w) ]

-- there is room exactly where one more is not too many
insert_agrees : (f : Fact) (w : Core) → w.met ≡ none → Agree met_core (insert_fact f w) (insert_always f w)
unfolding insert_fact insert_always noted_if
insert_agrees f w m =
    go (present compare_fact f w.facts) refl (ltb (length w.facts) max_facts) refl (ltb max_facts (length (placed compare_fact f w.facts))) refl
  where
    go : (t : Bool) → present compare_fact f w.facts ≡ t → (u : Bool) → ltb (length w.facts) max_facts ≡ u
        → (o : Bool) → ltb max_facts (length (placed compare_fact f w.facts)) ≡ o → Agree met_core (limited_by t u f w) (always_by t o f w)
    go true p u q o r = inl (refl, m)
    go false p true q true r =
        absurd (omega (
          arith,
          placed_absent compare_fact f w.facts p,
          ltb-true (length w.facts) max_facts q,
          ltb-true max_facts (length (placed compare_fact f w.facts)) r,
        ))
    go false p true q false r = inl (refl, m)
    go false p false q true r =
        inr (too_many_facts, met_after too_many_facts m, met_after too_many_facts m)
    go false p false q false r =
        absurd (omega (
          arith,
          placed_absent compare_fact f w.facts p,
          ltb-false (length w.facts) max_facts q,
          ltb-false max_facts (length (placed compare_fact f w.facts)) r,
        ))

-- the first insertion that leaves more than `max_facts` leaves exactly one more
pub first_over : (f : Fact) (w : Core) → length w.facts ≤ max_facts → ltb max_facts (length (insert_always f w).facts) ≡ true
    → length (insert_always f w).facts ≡ suc max_facts
unfolding insert_always noted_if
first_over f w h = go (present compare_fact f w.facts) refl (ltb max_facts (length (placed compare_fact f w.facts)))
  where
    go : (t : Bool) → present compare_fact f w.facts ≡ t → (u : Bool) → ltb max_facts (length (always_by t u f w).facts) ≡ true
        → length (always_by t u f w).facts ≡ suc max_facts
    go true p u o = absurd (omega (arith, h, ltb-true max_facts (length w.facts) o))
    go false p true o = omega (arith, h, placed_absent compare_fact f w.facts p, ltb-true max_facts (length (placed compare_fact f w.facts)) o)
    go false p false o = omega (arith, h, placed_absent compare_fact f w.facts p, ltb-true max_facts (length (placed compare_fact f w.facts)) o)

-- The insertion of an application.

-- a table with one entry more is over its limit exactly where it was at it
grew_by_one : (limit n m : ℕ) → m ≡ suc n → grew_over limit n m ≡ leb limit n
unfolding grew_over
grew_by_one limit n m e =
    ap (λ (b : Bool). b && ltb limit m) (lt-ltb n m (omega (arith, e))) ∙ go (leb limit n) refl
  where
    go : (b : Bool) → leb limit n ≡ b → ltb limit m ≡ b
    go true h = lt-ltb limit m (omega (arith, e, leb-true limit n h))
    go false h = le-ltb limit m (omega (arith, e, leb-false limit n h))

grew_not : (limit n : ℕ) → grew_over limit n n ≡ false
unfolding grew_over
grew_not limit n = ap (λ (b : Bool). b && ltb limit n) (le-ltb n n (omega arith))

-- what an application leaves of the tables
pub record Grown (a : Applied) (t : Turn) : Type 0 where
  -- "an entry needed, its table at its limit": exactly where it is over the limit with that entry
  pub full : a.full ≡ over_limits max_func_apps max_pairs a t
  -- at most one entry more
  pub apps : length a.apps ≤ suc (length t.apps)
  pub pairs : length a.pairs ≤ suc (length t.core.pairs)

pub applied_grown : (x : FuncApp) (t : Turn) → Grown (applied_during t x) t
unfolding insert_func_app_or_equate apply_at applied_equal equate over_limits
applied_grown x t = go (lookup_of compare_func_app key t.apps) refl
  where
    ls : List ℕ
    ls = t.core.links

    ps : List Pair
    ps = t.core.pairs

    key : FuncApp
    key = canonical_func_app ls x

    or : {a b c d : Bool} → a ≡ c → b ≡ d → (c || d) ≡ (a || b)
    or p q = sym (λ i. p i || q i)

    or_false : (b : Bool) → b ≡ (b || false)
    or_false true = refl
    or_false false = refl

    no_app : grew_over max_func_apps (length t.apps) (length t.apps) ≡ false
    no_app = grew_not max_func_apps (length t.apps)

    no_pair : grew_over max_pairs (length ps) (length ps) ≡ false
    no_pair = grew_not max_pairs (length ps)

    by : (y : FuncApp) (b : Bool) → Grown
        (elim b [ true ↦ applied ls ps t.apps false false | false ↦ applied_equal (equate ls ps y.result key.result) ps t.apps ]) t
    by y true = record { full = or no_app no_pair; apps = omega arith; pairs = omega arith }
    by y false = record { full = or no_app (grew_by_one max_pairs (length ps) (suc (length ps)) refl); apps = omega arith; pairs = omega arith }

    go : (o : Option FuncApp) → lookup_of compare_func_app key t.apps ≡ o → Grown (apply_at o key ls ps t.apps) t
    go none e =
        let one : length (placed compare_func_app key t.apps) ≡ suc (length t.apps) =
        placed_absent compare_func_app key t.apps (lookup_none compare_func_app key t.apps e) in
        record {
          full = or_false (leb max_func_apps (length t.apps))
              ∙ or (grew_by_one max_func_apps (length t.apps) (length (placed compare_func_app key t.apps)) one) no_pair;
          apps = omega (arith, one);
          pairs = omega arith;
        }
    go (some y) e = by y (eqb y.result key.result)

-- the core that it leaves
abbrev core_of : Applied → Turn → Core
core_of a t = with_links a.links (with_pairs a.pairs t.core)

apply_agrees : (x : FuncApp) (t : Turn) → t.core.met ≡ none → Agree met_turn (apply_turn x t) (apply_always x t)
unfolding apply_turn applied_turn apply_always noted_if
apply_agrees x t m =
    subst (λ (o : Bool). Agree met_turn (apply_turn x t) (reports (noted_if o no_room (core_of a t)) a.apps a.yes t)) (applied_grown x t).full (go a.full)
  where
    a : Applied
    a = applied_during t x

    go : (b : Bool) → Agree met_turn
        (elim b [ true ↦ turn (with_met no_room t.core) t.apps t.worked | false ↦ reports (core_of a t) a.apps a.yes t ])
        (reports (noted_if b no_room (core_of a t)) a.apps a.yes t)
    go true = inr (no_room, met_after no_room m, met_after no_room m)
    go false = inl (refl, m)

-- the first insertion that leaves more than `max_func_apps` applications leaves exactly one more
pub first_app_over : (x : FuncApp) (t : Turn) → length t.apps ≤ max_func_apps → ltb max_func_apps (length (apply_always x t).apps) ≡ true
    → length (apply_always x t).apps ≡ suc max_func_apps
unfolding apply_always
first_app_over x t h o = omega (arith, h, (applied_grown x t).apps, ltb-true max_func_apps (length (applied_during t x).apps) o)

-- and so with the pairs, of which other passes leave at most `max_pairs` until a number is met (`close_fits`)
pub first_pair_over : (x : FuncApp) (t : Turn) → length t.core.pairs ≤ max_pairs → ltb max_pairs (length (apply_always x t).core.pairs) ≡ true
    → length (apply_always x t).core.pairs ≡ suc max_pairs
unfolding apply_always noted_if
first_pair_over x t h = go (over_limits max_func_apps max_pairs a t)
  where
    a : Applied
    a = applied_during t x

    go : (b : Bool) → ltb max_pairs (length (noted_if b no_room (core_of a t)).pairs) ≡ true → length (noted_if b no_room (core_of a t)).pairs ≡ suc max_pairs
    go true o = omega (arith, h, (applied_grown x t).pairs, ltb-true max_pairs (length a.pairs) o)
    go false o = omega (arith, h, (applied_grown x t).pairs, ltb-true max_pairs (length a.pairs) o)

-- What is said of the number met alone merges keep and, where it stays when 9 or 11 is met, the insertions too.

number_through : (Q : Option ℕ → Type 0) → Through (λ w. Q w.met)
number_through Q w v k h = subst Q (sym k.met) h

module _ (Q : Option ℕ → Type 0) (nine : (o : Option ℕ) → Q o → Q (first_met no_room o)) (eleven : (o : Option ℕ) → Q o → Q (first_met too_many_facts o)) where
  abbrev OfNumber : Core → Type 0
  OfNumber w = Q w.met

  limits_keep : Inserts OfNumber with_limits
  unfolding insert_fact
  limits_keep = record {
    facts = λ f w h. go f w h (present compare_fact f w.facts) (ltb (length w.facts) max_facts);
    apps = λ x t h. apply_cases (λ u. OfNumber u.core) x t (λ e room. h) (λ y e r. h) (λ y e d room. h) (nine t.core.met h);
  }
    where
      go : (f : Fact) (w : Core) → OfNumber w → (t u : Bool) → OfNumber (limited_by t u f w)
      go f w h true u = h
      go f w h false true = h
      go f w h false false = eleven w.met h

  free_keep : Inserts OfNumber without_limits
  unfolding insert_always apply_always noted_if
  free_keep = record {
    facts = λ f w h. fact_keeps f w h (present compare_fact f w.facts) (ltb max_facts (length (placed compare_fact f w.facts)));
    apps = λ x t h. app_keeps (core_of (applied_during t x) t) h (over_limits max_func_apps max_pairs (applied_during t x) t);
  }
    where
      fact_keeps : (f : Fact) (w : Core) → OfNumber w → (t u : Bool) → OfNumber (always_by t u f w)
      fact_keeps f w h true u = h
      fact_keeps f w h false true = eleven w.met h
      fact_keeps f w h false false = h

      app_keeps : (w : Core) → OfNumber w → (b : Bool) → OfNumber (noted_if b no_room w)
      app_keeps w h true = nine w.met h
      app_keeps w h false = h

-- a number that is met stays
module _ (n : ℕ) where
  abbrev IsNumber : Option ℕ → Type 0
  IsNumber o = o ≡ some n

  met_through : Through (Met n)
  met_through = number_through IsNumber

  limits_met : Inserts (Met n) with_limits
  limits_met = limits_keep IsNumber (λ o. met_after no_room) (λ o. met_after too_many_facts)

  free_met : Inserts (Met n) without_limits
  free_met = free_keep IsNumber (λ o. met_after no_room) (λ o. met_after too_many_facts)

-- no other number is met

abbrev Listed : Core → Type 0
Listed w = MayMeet w.met

may_meet : (k : ℕ) → Memᴰ k close_numbers → (o : Option ℕ) → MayMeet o → MayMeet (first_met k o)
may_meet k m none h = m
may_meet k m (some n) h = h

listed_through : Through Listed
listed_through = number_through MayMeet

free_listed : Inserts Listed without_limits
free_listed = free_keep MayMeet (may_meet no_room (Memᴰ.head refl)) (may_meet too_many_facts (Memᴰ.tail (Memᴰ.head refl)))

-- The layers. Each law holds for every list and every number of rounds, so it speaks of the moment after each entry and each round.

pub impose_all_agree : (fs : List Fact) (w : Core) → w.met ≡ none → Agree met_core (impose_all_by with_limits fs w) (impose_all_by without_limits fs w)
unfolding impose_all_by
impose_all_agree [] w m = inl (refl, m)
impose_all_agree (f ∷ fs) w m =
    agree_then met_core met_core (impose_all_by with_limits fs) (impose_all_by without_limits fs) (impose_all_agree fs)
    (λ n. impose_all_holds with_limits (Met n) (met_through n) (limits_met n) fs)
    (λ n. impose_all_holds without_limits (Met n) (met_through n) (free_met n) fs) (impose_by with_limits f w) (impose_by without_limits f w) one
  where
    one : Agree met_core (impose_by with_limits f w) (impose_by without_limits f w)
    one = (unfold impose_by in
        let ts = concrete_types_of w.links w.facts f.el in
        let v = refine_all ts f w in
        insert_agrees (canonical_fact v.links f) v ((refine_all_kept ts f w).met ∙ m))

give_agrees : (x y : FuncApp) (t : Turn) → t.core.met ≡ none → Agree met_turn (give_by with_limits x y t) (give_by without_limits x y t)
unfolding give_by give_to_by
give_agrees x y t m = go (lookup_of compare_func_app x t.apps)
  where
    go : (o : Option FuncApp) → Agree met_turn (give_to_by with_limits y o t) (give_to_by without_limits y o t)
    go none = inl (refl, m)
    go (some z) = apply_agrees (func_app y.func y.parents y.args z.result) t m

obey_agrees : (l : MapLaw) (t : Turn) → t.core.met ≡ none → Agree met_turn (obey_by with_limits l t) (obey_by without_limits l t)
unfolding obey_by equalize_by
obey_agrees (application x) t m = apply_agrees x t m
obey_agrees (equation ps l r) t m =
    let x = key_of t.core.links ps l in
    let y = key_of t.core.links ps r in
    agree_then met_turn met_turn (give_by with_limits y x) (give_by without_limits y x) (give_agrees y x)
    (λ n. give_holds with_limits (Met n) (limits_met n) y x) (λ n. give_holds without_limits (Met n) (free_met n) y x) (give_by with_limits x y t)
    (give_by without_limits x y t) (give_agrees x y t m)

pub obey_all_agree : (ls : List MapLaw) (t : Turn) → t.core.met ≡ none → Agree met_turn (obey_all_by with_limits ls t) (obey_all_by without_limits ls t)
unfolding obey_all_by
obey_all_agree [] t m = inl (refl, m)
obey_all_agree (l ∷ ls) t m =
    agree_then met_turn met_turn (obey_all_by with_limits ls) (obey_all_by without_limits ls) (obey_all_agree ls)
    (λ n. obey_all_holds with_limits (Met n) (limits_met n) ls) (λ n. obey_all_holds without_limits (Met n) (free_met n) ls) (obey_by with_limits l t)
    (obey_by without_limits l t) (obey_agrees l t m)

-- With the insertions of the close they are the layers of the close.

pub is_impose_all : (fs : List Fact) (w : Core) → impose_all_by with_limits fs w ≡ impose_all fs w
unfolding impose_all_by impose_by impose_all impose insert_canonical
is_impose_all [] w = refl
is_impose_all (f ∷ fs) w = is_impose_all fs (impose f w)

is_give : (x y : FuncApp) (t : Turn) → give_by with_limits x y t ≡ give x y t
unfolding give_by give_to_by give give_to
is_give x y t = go (lookup_of compare_func_app x t.apps)
  where
    go : (o : Option FuncApp) → give_to_by with_limits y o t ≡ give_to y o t
    go none = refl
    go (some z) = refl

is_obey : (l : MapLaw) (t : Turn) → obey_by with_limits l t ≡ obey l t
unfolding obey_by equalize_by obey equalize
is_obey (application x) t = refl
is_obey (equation ps l r) t =
    let x = key_of t.core.links ps l in
    let y = key_of t.core.links ps r in
    ap (give_by with_limits y x) (is_give x y t) ∙ is_give y x (give x y t)

pub is_obey_all : (ls : List MapLaw) (t : Turn) → obey_all_by with_limits ls t ≡ obey_all ls t
unfolding obey_all_by obey_all
is_obey_all [] t = refl
is_obey_all (l ∷ ls) t = ap (obey_all_by with_limits ls) (is_obey l t) ∙ is_obey_all ls (obey l t)

-- The passes.

-- a pass of the close, and the same with any insertions
pub record LimitLaw (b : PassBy) (p : Pass) : Type 1 where
  pub is : (g : Sig) (preds : List PredApp) (t : Turn) → b with_limits g preds t ≡ p g preds t
  pub holds : (insert : Insertions) (P : Core → Type 0) → Through P → Inserts P insert
      → (g : Sig) (preds : List PredApp) (t : Turn) → P t.core → P (b insert g preds t).core
  pub agrees : (g : Sig) (preds : List PredApp) (t : Turn) → t.core.met ≡ none → Agree met_turn (b with_limits g preds t) (b without_limits g preds t)

-- of a pass that makes no insertion
inserts_none : (p : Pass) → ((g : Sig) (preds : List PredApp) (t : Turn) → MetKept t.core (p g preds t).core) → LimitLaw (λ insert. p) p
inserts_none p kept = record {
  is = λ g preds t. refl;
  holds = λ insert P through inserts g preds t. through t.core (p g preds t).core (kept g preds t);
  agrees = λ g preds t m. inl (refl, (kept g preds t).met ∙ m);
}

drain_limit : LimitLaw (λ insert. drain_pass) drain_pass
unfolding drain_pass drained
drain_limit = inserts_none drain_pass (λ g preds t. drain_kept t.core)

functionality_limit : LimitLaw (λ insert. functionality_pass) functionality_pass
unfolding functionality_pass rewrote
functionality_limit = inserts_none functionality_pass (λ g preds t. record { met = refl; facts = omega arith })

typed_agree : (t : Turn) (w u : Core) → Agree met_core w u → Agree met_turn (typed w t) (typed u t)
unfolding typed
typed_agree t w u (inl h) = inl (ap (λ (x : Core). typed x t) h.0, h.1)
typed_agree t w u (inr h) = inr h

typing_limit : LimitLaw typing_by typing_pass
unfolding typing_by typing_pass typed
typing_limit = record {
  is = λ g preds t. ap (λ (x : Core). typed x t) (is_impose_all (demands g t.apps preds) t.core);
  holds = λ insert P through inserts g preds t. impose_all_holds insert P through inserts (demands g t.apps preds) t.core;
  agrees = λ g preds t m.
      let fs = demands g t.apps preds in
      typed_agree t (impose_all_by with_limits fs t.core) (impose_all_by without_limits fs t.core) (impose_all_agree fs t.core m);
}

operation_limit : LimitLaw operation_by operation_pass
unfolding operation_by operation_pass
operation_limit = record {
  is = λ g preds t. is_obey_all (map_laws g.models t.apps) t;
  holds = λ insert P through inserts g preds t. obey_all_holds insert P inserts (map_laws g.models t.apps) t;
  agrees = λ g preds t m. obey_all_agree (map_laws g.models t.apps) t m;
}

data AllLimited : List PassBy → List Pass → Type 1 where
  nil : AllLimited [] []
  cons : {b : PassBy} {p : Pass} {bs : List PassBy} {ps : List Pass} → LimitLaw b p → AllLimited bs ps → AllLimited (b ∷ bs) (p ∷ ps)

all_limited : AllLimited passes_by passes
unfolding passes_by passes
all_limited = cons drain_limit (cons functionality_limit (cons typing_limit (cons operation_limit nil)))

run_is : (bs : List PassBy) (ps : List Pass) → AllLimited bs ps → (g : Sig) (preds : List PredApp) (t : Turn)
    → run_passes_by bs with_limits g preds t ≡ run_passes ps g preds t
unfolding run_passes_by run_passes
run_is bs ps nil g preds t = refl
run_is cs qs (cons {b} {p} {bs} {ps} l ls) g preds t =
    ap (run_passes_by bs with_limits g preds) (l.is g preds t) ∙ run_is bs ps ls g preds (p g preds t)

module _ (insert : Insertions) (P : Core → Type 0) (through : Through P) (inserts : Inserts P insert) where
  run_holds : (bs : List PassBy) (ps : List Pass) → AllLimited bs ps → (g : Sig) (preds : List PredApp) (t : Turn) → P t.core
      → P (run_passes_by bs insert g preds t).core
  unfolding run_passes_by
  run_holds bs ps nil g preds t h = h
  run_holds cs qs (cons {b} {p} {bs} {ps} l ls) g preds t h = run_holds bs ps ls g preds (b insert g preds t) (l.holds insert P through inserts g preds t h)

run_agrees : (bs : List PassBy) (ps : List Pass) → AllLimited bs ps → (g : Sig) (preds : List PredApp) (t : Turn) → t.core.met ≡ none
    → Agree met_turn (run_passes_by bs with_limits g preds t) (run_passes_by bs without_limits g preds t)
unfolding run_passes_by
run_agrees bs ps nil g preds t m = inl (refl, m)
run_agrees cs qs (cons {b} {p} {bs} {ps} l ls) g preds t m =
    agree_then met_turn met_turn (run_passes_by bs with_limits g preds) (run_passes_by bs without_limits g preds) (run_agrees bs ps ls g preds)
    (λ n. run_holds with_limits (Met n) (met_through n) (limits_met n) bs ps ls g preds)
    (λ n. run_holds without_limits (Met n) (met_through n) (free_met n) bs ps ls g preds) (b with_limits g preds t) (b without_limits g preds t)
    (l.agrees g preds t m)

-- The rounds.

pub is_round : (g : Sig) (preds : List PredApp) (apps : List FuncApp) (w : Core) → round_by with_limits g preds apps w ≡ round g preds apps w
unfolding round_by round
is_round g preds apps w = run_is passes_by passes all_limited g preds (turn w apps false)

pub is_rounds : (n : ℕ) (g : Sig) (preds : List PredApp) (t : Turn) → rounds_from_by with_limits goes_on n g preds t ≡ rounds_from n g preds t
unfolding rounds_from_by rounds_from
is_rounds zero g preds t = refl
is_rounds (suc n) g preds t = ap
    (λ (r : Rounds). elim (t.worked && is_none t.core.met) as (λ _. Rounds) [ true ↦ one_more r | false ↦ last_round t ])
    (is_rounds n g preds (round_by with_limits g preds t.apps t.core) ∙ ap (rounds_from n g preds) (is_round g preds t.apps t.core))

module _ (insert : Insertions) (P : Core → Type 0) (through : Through P) (inserts : Inserts P insert) where
  pub round_holds : (g : Sig) (preds : List PredApp) (apps : List FuncApp) (w : Core) → P w → P (round_by insert g preds apps w).core
  unfolding round_by
  round_holds g preds apps w = run_holds insert P through inserts passes_by passes all_limited g preds (turn w apps false)

  pub rounds_hold : (more : Turn → Bool) (n : ℕ) (g : Sig) (preds : List PredApp) (t : Turn) → P t.core
      → P (rounds_from_by insert more n g preds t).core
  unfolding rounds_from_by last_round one_more
  rounds_hold more zero g preds t h = h
  rounds_hold more (suc n) g preds t h = go (more t) (rounds_hold more n g preds u (round_holds g preds t.apps t.core h))
    where
      u : Turn
      u = round_by insert g preds t.apps t.core

      go : (b : Bool) → P (rounds_from_by insert more n g preds u).core
          → P (elim b as (λ _. Rounds) [ true ↦ one_more (rounds_from_by insert more n g preds u) | false ↦ last_round t ]).core
      go true k = k
      go false k = h

  pub ran_holds : (more : Turn → Bool) (n : ℕ) (g : Sig) (s : Structure) → P (core_at_start s) → P (ran_by insert more n g s).core
  unfolding ran_by rounds_by imposed_by
  ran_holds more n g s h =
      let t = round_by insert g s.pred_apps s.func_apps (core_at_start s) in
      impose_all_holds insert P through inserts s.impositions (rounds_from_by insert more n g s.pred_apps t).core
      (rounds_hold more n g s.pred_apps t (round_holds g s.pred_apps s.func_apps (core_at_start s) h))

pub round_agrees : (g : Sig) (preds : List PredApp) (apps : List FuncApp) (w : Core) → w.met ≡ none
    → Agree met_turn (round_by with_limits g preds apps w) (round_by without_limits g preds apps w)
unfolding round_by
round_agrees g preds apps w = run_agrees passes_by passes all_limited g preds (turn w apps false)

more_agree : (r q : Rounds) → Agree met_rounds r q → Agree met_rounds (one_more r) (one_more q)
unfolding one_more
more_agree r q (inl h) = inl (ap one_more h.0, h.1)
more_agree r q (inr h) = inr h

-- a number that is met stays to the last round
limited_stays : (g : Sig) (preds : List PredApp) (k : ℕ) → Stays met_turn met_rounds (rounds_from_by with_limits goes_on k g preds)
limited_stays g preds k n = rounds_hold with_limits (Met n) (met_through n) (limits_met n) goes_on k g preds

free_stays : (g : Sig) (preds : List PredApp) (k : ℕ) → Stays met_turn met_rounds (rounds_from_by without_limits works k g preds)
free_stays g preds k n = rounds_hold without_limits (Met n) (met_through n) (free_met n) works k g preds

-- and so a number that is met after some of the rounds
rounds_stay : (g : Sig) (preds : List PredApp) (j k : ℕ) → j ≤ k → (n : ℕ) (t : Turn) → met_rounds (rounds_from_by without_limits works j g preds t) ≡ some n
    → met_rounds (rounds_from_by without_limits works k g preds t) ≡ some n
unfolding rounds_from_by last_round one_more
rounds_stay g preds zero k h n t = free_stays g preds k n t
rounds_stay g preds (suc j) zero h n t = absurd (omega (arith, h))
rounds_stay g preds (suc j) (suc k) h n t = go t.worked (rounds_stay g preds j k (omega (arith, h)) n u)
  where
    u : Turn
    u = round_by without_limits g preds t.apps t.core

    go : (b : Bool)
        → (met_rounds (rounds_from_by without_limits works j g preds u) ≡ some n → met_rounds (rounds_from_by without_limits works k g preds u) ≡ some n)
        → met_rounds (elim b [ true ↦ one_more (rounds_from_by without_limits works j g preds u) | false ↦ last_round t ]) ≡ some n
        → met_rounds (elim b [ true ↦ one_more (rounds_from_by without_limits works k g preds u) | false ↦ last_round t ]) ≡ some n
    go true next e = next e
    go false next e = e

-- from a round on
pub rounds_agree : (g : Sig) (preds : List PredApp) (n : ℕ) (t : Turn) → t.core.met ≡ none
    → Agree met_rounds (rounds_from_by with_limits goes_on n g preds t) (rounds_from_by without_limits works n g preds t)
unfolding rounds_from_by last_round is_none
rounds_agree g preds zero t m = inl (refl, m)
rounds_agree g preds (suc n) t m =
    go t.worked (is_none t.core.met) (ap is_none m)
    (agree_then met_turn met_rounds (rounds_from_by with_limits goes_on n g preds) (rounds_from_by without_limits works n g preds) (rounds_agree g preds n)
    (limited_stays g preds n) (free_stays g preds n) (round_by with_limits g preds t.apps t.core) (round_by without_limits g preds t.apps t.core)
    (round_agrees g preds t.apps t.core m))
  where
    go : (b o : Bool) → o ≡ true → {r q : Rounds} → Agree met_rounds r q
        → Agree met_rounds (elim (b && o) [ true ↦ one_more r | false ↦ last_round t ]) (elim b [ true ↦ one_more q | false ↦ last_round t ])
    go true true e {r} {q} next = more_agree r q next
    go true false e next = no_test refl (sym e)
    go false o e next = inl (refl, m)

-- The close.

is_imposed : (r : Rounds) (s : Structure) → imposed_by with_limits r s ≡ imposed_after r s
unfolding imposed_by imposed_after
is_imposed r s = λ i. as_close_run r (is_impose_all s.impositions r.core i)

module _ (g : Sig) (s : Structure) where
  is_ran : (n : ℕ) → rounds_by with_limits goes_on n g s ≡ rounds_from n g s.pred_apps (round g s.pred_apps s.func_apps (core_at_start s))
  unfolding rounds_by
  is_ran n =
      is_rounds n g s.pred_apps (round_by with_limits g s.pred_apps s.func_apps (core_at_start s))
      ∙ ap (rounds_from n g s.pred_apps) (is_round g s.pred_apps s.func_apps (core_at_start s))

  -- with any number of rounds that leaves what the rounds of the close leave
  is_close_at : (n : ℕ)
      → rounds_from n g s.pred_apps (round g s.pred_apps s.func_apps (core_at_start s)) ≡ rounds g s.pred_apps s.func_apps (core_at_start s)
      → close g s ≡ limited with_limits n g s
  unfolding close close_run limited ran_by
  is_close_at n e =
      sym (ap (λ (c : CloseRun). close_by c s) (is_imposed (rounds_by with_limits goes_on n g s) s ∙ ap (λ (r : Rounds). imposed_after r s) (is_ran n ∙ e)))

  pub is_close : close g s ≡ limited with_limits fuel g s
  unfolding rounds
  is_close = is_close_at fuel refl

-- a number that is met in the rounds stays while facts are imposed
limited_imposes : (s : Structure) → Stays met_rounds met_ran (λ r. imposed_by with_limits r s)
unfolding imposed_by
limited_imposes s n r = impose_all_holds with_limits (Met n) (met_through n) (limits_met n) s.impositions r.core

free_imposes : (s : Structure) → Stays met_rounds met_ran (λ r. imposed_by without_limits r s)
unfolding imposed_by
free_imposes s n r = impose_all_holds without_limits (Met n) (met_through n) (free_met n) s.impositions r.core

module _ (g : Sig) (s : Structure) where
  -- the whole run, of at most so many rounds after the first
  pub ran_agrees : (n : ℕ) → Agree met_ran (ran_by with_limits goes_on n g s) (ran_free n g s)
  unfolding ran_by rounds_by
  ran_agrees n =
      agree_then met_rounds met_ran (λ r. imposed_by with_limits r s) (λ r. imposed_by without_limits r s) imposed (limited_imposes s) (free_imposes s) _ _
      (agree_then met_turn met_rounds (rounds_from_by with_limits goes_on n g s.pred_apps) (rounds_from_by without_limits works n g s.pred_apps)
      (rounds_agree g s.pred_apps n) (limited_stays g s.pred_apps n) (free_stays g s.pred_apps n) _ _
      (round_agrees g s.pred_apps s.func_apps (core_at_start s) (unfold core_at_start in refl)))
    where
      imposed : (r : Rounds) → r.core.met ≡ none → Agree met_ran (imposed_by with_limits r s) (imposed_by without_limits r s)
      imposed r m = (unfold imposed_by in go (impose_all_agree s.impositions r.core m))
        where
          go : {w u : Core} → Agree met_core w u → Agree met_ran (as_close_run r w) (as_close_run r u)
          go (inl h) = inl (ap (λ (x : Core). as_close_run r x) h.0, h.1)
          go (inr h) = inr h

  -- for any number of rounds
  pub limited_exactly : (n : ℕ) → limited with_limits n g s ≡ close_or_number n g s
  unfolding limited unlimited first_noted close_by outcome
  limited_exactly n = go (ran_by with_limits goes_on n g s) (ran_free n g s) (ran_agrees n)
    where
      free : CloseRun → Outcome Closed Structure
      free c = accepting (report_of c) (after_close c s)

      go : (a b : CloseRun) → Agree met_ran a b → close_by a s ≡ decided b.core.met (refusing s) (free b)
      go a b (inl h) =
          decided_accepts (refusing s) (free a) (close_first a ∙ h.1) ∙ ap free h.0
          ∙ sym (decided_accepts (refusing s) (free b) (sym (ap met_ran h.0) ∙ h.1))
      go a b (inr h) =
          decided_refuses (refusing s) (free a) (close_first a ∙ h.1) ∙ sym (decided_refuses (refusing s) (free b) h.2)

  -- The theorem: the close is the one without limits, refused with the number that it first notes.
  pub numbers_exactly : close g s ≡ close_or_number fuel g s
  numbers_exactly = is_close g s ∙ limited_exactly fuel

  -- of a valid structure the close without limits may run for any number of rounds more
  pub numbers_valid : Valid g s → (j : ℕ) → close g s ≡ close_or_number (fuel + j) g s
  numbers_valid v j = is_close_at g s (fuel + j) (close_fuel g s v j) ∙ limited_exactly (fuel + j)

  -- The same in three parts.

  pub number_if : (n : ℕ) → first_noted fuel g s ≡ some n → close g s ≡ refusing s n
  number_if n e = numbers_exactly ∙ decided_refuses (refusing s) (unlimited fuel g s) e

  pub number_else : first_noted fuel g s ≡ none → close g s ≡ unlimited fuel g s
  number_else e = numbers_exactly ∙ decided_accepts (refusing s) (unlimited fuel g s) e

  pub number_only : (n : ℕ) → (close g s).answer ≡ refused n → first_noted fuel g s ≡ some n
  number_only n e = go (first_noted fuel g s) refl
    where
      accepts : {X : Type 0} → (unlimited fuel g s).answer ≡ refused n → X
      accepts h = let z : ◌≡◌ {A = ℕ} 0 1 = (unfold unlimited in cc h) in absurd (omega arith)

      go : (o : Option ℕ) → first_noted fuel g s ≡ o → o ≡ some n
      go none m = accepts (sym (ap (λ (o : Outcome Closed Structure). o.answer) (number_else m)) ∙ e)
      go (some k) m =
          let same : refused k ≡ refused n = sym (ap (λ (o : Outcome Closed Structure). o.answer) (number_if k m)) ∙ e in
          ap some (let z : k ≡ n = cc same in z)

  -- refused with a number exactly if it is the one first noted
  number_exactly : (n : ℕ) → ((close g s).answer ≡ refused n) ↔ (first_noted fuel g s ≡ some n)
  number_exactly n = (number_only n, (λ e. ap (λ (o : Outcome Closed Structure). o.answer) (number_if n e)))

  -- 11: without limits it would at some moment hold more than `max_facts` facts, and did not need an entry in a full table before
  pub eleven_exactly : ((close g s).answer ≡ refused too_many_facts) ↔ (first_noted fuel g s ≡ some too_many_facts)
  eleven_exactly = number_exactly too_many_facts

  -- 9: a law would at some moment need an entry in a full table, and no more than `max_facts` facts were held before
  pub nine_exactly : ((close g s).answer ≡ refused no_room) ↔ (first_noted fuel g s ≡ some no_room)
  nine_exactly = number_exactly no_room

  -- "Of 9 and 11 in one close, the one met first is given": what is noted after some of the rounds is given, whatever the later ones do. No insertion
  -- drops a number (`free_met`), so it is the same inside a round.
  pub first_given : (j : ℕ) → j ≤ fuel → (n : ℕ) → (rounds_by without_limits works j g s).core.met ≡ some n → close g s ≡ refusing s n
  unfolding first_noted ran_by rounds_by
  first_given j h n e =
      let t = round_by without_limits g s.pred_apps s.func_apps (core_at_start s) in
      let r = rounds_from_by without_limits works fuel g s.pred_apps t in
      number_if n (free_imposes s n r (rounds_stay g s.pred_apps j fuel h n t e))

  -- no other number is noted
  pub noted_listed : (n : ℕ) → MayMeet (first_noted n g s)
  unfolding first_noted core_at_start
  noted_listed n = ran_holds without_limits Listed listed_through free_listed works n g s tt

-- and so the call
pub numbers_step : (m : Machine) → step calls.close m ≡ closed_by m (close_or_number fuel m.sig m.structure)
numbers_step m = sym (close_steps m) ∙ ap (closed_by m) (numbers_exactly m.sig m.structure)

-- At no moment of a close are more than `max_facts` facts held, where that many are held at its start: after each round, and after each fact that
-- is imposed. Of applications and pairs it is `round_waiting` (semantics/proofs/Pairs).

abbrev WithinLimit : Core → Type 0
WithinLimit w = length w.facts ≤ max_facts

held_through : (w v : Core) → MetKept w v → WithinLimit w → WithinLimit v
held_through w v k h = omega (arith, k.facts)

insert_held : (f : Fact) (w : Core) → WithinLimit w → WithinLimit (insert_fact f w)
unfolding insert_fact
insert_held f w h = go (present compare_fact f w.facts) refl (ltb (length w.facts) max_facts) refl
  where
    go : (t : Bool) → present compare_fact f w.facts ≡ t → (u : Bool) → ltb (length w.facts) max_facts ≡ u → WithinLimit (limited_by t u f w)
    go true p u q = h
    go false p true q = omega (arith, placed_absent compare_fact f w.facts p, ltb-true (length w.facts) max_facts q)
    go false p false q = h

limits_held : Inserts WithinLimit with_limits
limits_held = record { facts = insert_held; apps = λ x t h. apply_cases (λ u. WithinLimit u.core) x t (λ e room. h) (λ y e r. h) (λ y e d room. h) h }

pub impose_all_held : (fs : List Fact) (w : Core) → WithinLimit w → WithinLimit (impose_all fs w)
impose_all_held fs w h = subst WithinLimit (is_impose_all fs w) (impose_all_holds with_limits WithinLimit held_through limits_held fs w h)

pub round_held : (g : Sig) (preds : List PredApp) (apps : List FuncApp) (w : Core) → WithinLimit w → WithinLimit (round g preds apps w).core
round_held g preds apps w h =
    subst (λ (t : Turn). WithinLimit t.core) (is_round g preds apps w) (round_holds with_limits WithinLimit held_through limits_held g preds apps w h)

pub rounds_held : (n : ℕ) (g : Sig) (preds : List PredApp) (t : Turn) → WithinLimit t.core → WithinLimit (rounds_from n g preds t).core
rounds_held n g preds t h =
    subst (λ (r : Rounds). WithinLimit r.core) (is_rounds n g preds t) (rounds_hold with_limits WithinLimit held_through limits_held goes_on n g preds t h)
