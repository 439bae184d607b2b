-- How many pairs wait while pairs are drained, applications rewritten and facts imposed, of any structure with at most `max_func_apps` applications;
-- for a whole round see Pairs.
-- Each law holds for every list, so it speaks of the moment after each entry of a longer one.
use mathlib.Core.Path.{◌≡◌, refl, ap, ◌∙◌}
use mathlib.Core.Logic.{◌⊎◌, inl, inr}
use mathlib.Core.Bool.{Bool, true, false, not, ◌&&◌, ◌||◌}
use mathlib.Core.List.Memᴰ
use mathlib.Core.List.{List, [], ◌∷◌, Memᴰ}
use mathlib.Core.Option.{some}
use Prim.Native.Nat.{ℕ, ◌+◌, ◌-◌, ◌≤◌, ◌<◌, min, max}
use native.Mathlib.Omega.{arith}
use lib.ListN.{length}
use lib.Dec.{eqb, ltb}
use Rattle.ids.specs.Answers.{too_many_facts}
use Rattle.ids.specs.Table.{present, placed, lookup_of}
use Rattle.ids.proofs.Sorted.{placed_absent, lookup_sound, lookup_none}
use Rattle.unification.specs.Roots.{root_of}
use Rattle.semantics.specs.Structure.{Fact, FuncApp, Pair, max_pairs, max_func_apps, max_facts, compare_fact, compare_func_app, canonical_fact}
use Rattle.semantics.specs.Structure.{canonical_func_app, pair}
use Rattle.semantics.specs.Types.{Core, with_pairs, with_added, with_met, marked, merge, join_roots, join, drain_pairs, drain, refine_roots}
use Rattle.semantics.specs.Types.{refine, refine_parents, refine_all, insert_fact, insert_canonical, concrete_types_of, impose, impose_all}
use Rattle.semantics.proofs.Functionality.{enter_cases}
use Rattle.semantics.specs.Close.{Rewritten, enter, enter_all, rewriting}

-- A drain leaves no pair.

join_pairs : (p : Pair) (w : Core) → (join p w).pairs ≡ w.pairs
unfolding join join_roots merge
join_pairs p w = go (eqb (root_of w.links p.lhs) (root_of w.links p.rhs)) _ _
  where
    go : (t : Bool) (a b : ℕ) → (elim t as (λ _. Core) [ true ↦ w | false ↦ merge (min a b) (max a b) w ]).pairs ≡ w.pairs
    go true a b = refl
    go false a b = refl

drain_pairs_pairs : (ps : List Pair) (w : Core) → (drain_pairs ps w).pairs ≡ w.pairs
unfolding drain_pairs
drain_pairs_pairs [] w = refl
drain_pairs_pairs (p ∷ ps) w = drain_pairs_pairs ps (join p w) ∙ join_pairs p w

pub drain_pairs_lem : (w : Core) → (drain w).pairs ≡ []
unfolding drain
drain_pairs_lem w = drain_pairs_pairs w.pairs (with_pairs [] w)

-- Imposing leaves the queue as it was, or empty.

abbrev pub SameOrNone : Core → Core → Type 0
SameOrNone w v = (v.pairs ≡ w.pairs) ⊎ (v.pairs ≡ [])

same_then : (w v u : Core) → SameOrNone w v → SameOrNone v u → SameOrNone w u
same_then w v u (inl p) (inl q) = inl (q ∙ p)
same_then w v u (inr p) (inl q) = inr (q ∙ p)
same_then w v u p (inr q) = inr q

-- one more pair can be queued: a refinement queues one, and drains the whole queue at once
abbrev pub Room : Core → Type 0
Room w = length w.pairs < max_pairs

pub still_room : (w v : Core) → SameOrNone w v → Room w → Room v
still_room w v (inl p) r = omega (arith, ap length p)
still_room w v (inr p) r = omega (arith, ap length p)

refine_roots_queue : (a b : ℕ) (w : Core) → SameOrNone w (refine_roots a b w)
unfolding refine_roots
refine_roots_queue a b w = go (not (eqb a b) && (marked w.marks a || marked w.marks b))
  where
    go : (t : Bool) → SameOrNone w (elim t [ true ↦ drain (with_pairs (pair a b ∷ w.pairs) w) | false ↦ w ])
    go true = inr (drain_pairs_lem (with_pairs (pair a b ∷ w.pairs) w))
    go false = inl refl

pub refine_queue : (a b : ℕ) (w : Core) → SameOrNone w (refine a b w)
unfolding refine
refine_queue a b w = refine_roots_queue (root_of w.links a) (root_of w.links b) w

pub refine_parents_queue : (ps qs : List ℕ) (w : Core) → SameOrNone w (refine_parents ps qs w)
unfolding refine_parents
refine_parents_queue [] qs w = inl refl
refine_parents_queue (p ∷ ps) [] w = inl refl
refine_parents_queue (p ∷ ps) (q ∷ qs) w =
    same_then w (refine p q w) (refine_parents ps qs (refine p q w)) (refine_queue p q w) (refine_parents_queue ps qs (refine p q w))

pub refine_all_queue : (gs : List Fact) (f : Fact) (w : Core) → SameOrNone w (refine_all gs f w)
unfolding refine_all
refine_all_queue [] f w = inl refl
refine_all_queue (g ∷ gs) f w = go (eqb g.typ f.typ) (λ v. refine_all_queue gs f v)
  where
    go : (t : Bool) → ((v : Core) → SameOrNone v (refine_all gs f v))
        → SameOrNone w (refine_all gs f (elim t [ true ↦ refine_parents g.parents f.parents w | false ↦ w ]))
    go true rest =
        let v = refine_parents g.parents f.parents w in
        same_then w v (refine_all gs f v) (refine_parents_queue g.parents f.parents w) (rest v)
    go false rest = rest w

insert_fact_queue : (f : Fact) (w : Core) → SameOrNone w (insert_fact f w)
unfolding insert_fact
insert_fact_queue f w = go (present compare_fact f w.facts) (ltb (length w.facts) max_facts)
  where
    go : (t u : Bool)
        → SameOrNone w (elim t [ true ↦ w | false ↦ elim u [ true ↦ with_added (placed compare_fact f w.facts) w | false ↦ with_met too_many_facts w ] ])
    go true u = inl refl
    go false true = inl refl
    go false false = inl refl

pub impose_queue : (f : Fact) (w : Core) → SameOrNone w (impose f w)
unfolding impose insert_canonical
impose_queue f w =
    let v = refine_all (concrete_types_of w.links w.facts f.el) f w in
    same_then w v (insert_canonical f v) (refine_all_queue (concrete_types_of w.links w.facts f.el) f w)
    (insert_fact_queue (canonical_fact v.links f) v)

pub impose_all_queue : (fs : List Fact) (w : Core) → SameOrNone w (impose_all fs w)
unfolding impose_all
impose_all_queue [] w = inl refl
impose_all_queue (f ∷ fs) w = same_then w (impose f w) (impose_all fs (impose f w)) (impose_queue f w) (impose_all_queue fs (impose f w))

-- `functionality` makes of each application one more entry or one more pair, or neither.

pub record EnteredMost (n : ℕ) (t u : Rewritten) : Type 0 where
  pub both : length u.pairs + length u.apps ≤ n + (length t.pairs + length t.apps)
  pub apps : length t.apps ≤ length u.apps

some_entry : {A : Type 0} {x : A} (l : List A) → Memᴰ x l → 1 ≤ length l
some_entry [] m = absurd (Memᴰ.not-nil m)
some_entry (y ∷ ys) m = omega arith

pub enter_most : (x : FuncApp) (t : Rewritten) → EnteredMost 1 t (enter x t) × (1 ≤ length (enter x t).apps)
enter_most x t =
    enter_cases (λ (u : Rewritten). EnteredMost 1 t u × (1 ≤ length u.apps)) x t
    (λ q. let more = placed_absent compare_func_app x t.apps (lookup_none compare_func_app x t.apps q) in
    (record { both = omega arith; apps = omega arith }, omega arith))
    (λ y q e. (record { both = omega arith; apps = omega arith }, entry q))
    (λ y q e. (record { both = omega arith; apps = omega arith }, entry q))
  where
    entry : {y : FuncApp} → lookup_of compare_func_app x t.apps ≡ some y → 1 ≤ length t.apps
    entry q = some_entry t.apps (lookup_sound compare_func_app x t.apps q).0

pub enter_all_most : (ls : List ℕ) (xs : List FuncApp) (t : Rewritten) → EnteredMost (length xs) t (enter_all ls xs t)
unfolding enter_all
enter_all_most ls [] t = record { both = omega arith; apps = omega arith }
enter_all_most ls (x ∷ xs) t =
    let a = (enter_most (canonical_func_app ls x) t).0 in
    let b = enter_all_most ls xs (enter (canonical_func_app ls x) t) in
    record { both = omega (arith, a.both, b.both); apps = omega (arith, a.apps, b.apps) }

-- what it begins with after a drain
abbrev pub fresh : Rewritten
fresh = rewriting [] [] false

-- the first application makes no pair, each other at most one
pub pairs_few : (ls : List ℕ) (xs : List FuncApp) → length (enter_all ls xs fresh).pairs ≤ length xs - 1
unfolding enter_all
pairs_few ls [] = omega arith
pairs_few ls (x ∷ xs) =
    let a = enter_most (canonical_func_app ls x) fresh in
    let b = enter_all_most ls xs (enter (canonical_func_app ls x) fresh) in
    omega (arith, a.0.both, a.1, b.both, b.apps)

pub apps_few : (ls : List ℕ) (xs : List FuncApp) → length (enter_all ls xs fresh).apps ≤ length xs
apps_few ls xs = omega (arith, (enter_all_most ls xs fresh).both)

-- so that there is room for the pair of a refinement: `max_func_apps` is at most `max_pairs`
pub pairs_room : (ls : List ℕ) (xs : List FuncApp) → length xs ≤ max_func_apps → length (enter_all ls xs fresh).pairs < max_pairs
pairs_room ls xs h = omega (arith, pairs_few ls xs)
