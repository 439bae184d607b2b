-- Facts imposed: without a merge this is plain set insertion, and without a mark there is no merge.
use mathlib.Core.Path.{◌≡◌, refl, sym, subst, ap, ◌∙◌}
use mathlib.Core.Logic.{◌≢◌, inl, inr}
use mathlib.Core.Bool.{Bool, true, false, not, ◌&&◌, ◌||◌, and-false}
use mathlib.Core.List.{List, [], ◌∷◌}
use mathlib.Core.Option.{Option, none, some}
use Prim.Native.Nat.{ℕ, ◌+◌, ◌-◌, ◌≤◌, ◌<◌}
use native.Mathlib.Omega.{arith}
use lib.ListN.{length}
use lib.Dec.{eqb, ltb}
use borrow.Author.Tests.{eqb-false, ltb-true, ltb-false, lt-ltb, le-ltb, not-true}
use Rattle.ids.specs.Answers.{too_many_facts}
use Rattle.ids.specs.Table.{present, placed}
use Rattle.ids.proofs.Sorted.{All, placed_there, placed_all}
use Rattle.unification.specs.Roots.{root_of}
use Rattle.unification.proofs.Laws.{root_root}
use Rattle.semantics.specs.Structure.{Fact, compare_fact, canonical_fact, max_facts, pair}
use Rattle.semantics.specs.Types.{Core, with_pairs, with_added, with_met, marked, concrete_types_of, refine_roots, refine, refine_parents, refine_all}
use Rattle.semantics.specs.Types.{insert_fact, insert_canonical, impose, impose_all, grown, growth, grew}
use Rattle.semantics.proofs.Orders.{fact_ordered}
use Rattle.semantics.proofs.Cases.{test, and_first}
use Rattle.validity.proofs.Drain.{drain_merges}
use Rattle.history.proofs.Tables.{present_stays}
use Rattle.history.proofs.Drain.{Counted, counted_none, counted_then, drain_counted, Unmarked}

-- "Where two roots differ and either is marked": the test that makes two parents one
abbrev pub joins : List ℕ → List Bool → ℕ → ℕ → Bool
joins ls ms p q = not (eqb (root_of ls p) (root_of ls q)) && (marked ms (root_of ls p) || marked ms (root_of ls q))

module _ (w : Core) (p q : ℕ) where
  refine_merges : joins w.links w.marks p q ≡ true → w.merges < (refine p q w).merges
  unfolding refine refine_roots
  refine_merges e =
      let ls = w.links in
      let n : root_of ls p ≢ root_of ls q =
      eqb-false (root_of ls p) (root_of ls q) (not-true (eqb (root_of ls p) (root_of ls q)) (and_first _ _ e)) in
      rw (refine, refine_roots, e)
      (drain_merges (with_pairs (pair (root_of ls p) (root_of ls q) ∷ w.pairs) w) (pair (root_of ls p) (root_of ls q))
      w.pairs refl (λ z. n (sym (root_root ls p) ∙ z ∙ root_root ls q)))

  pub refine_none : joins w.links w.marks p q ≡ false → refine p q w ≡ w
  unfolding refine refine_roots
  refine_none e = rw (refine, refine_roots, e)

  pub refine_counted : Counted w (refine p q w)
  unfolding refine refine_roots
  refine_counted = go (joins w.links w.marks p q) refl
    where
      go : (t : Bool) → joins w.links w.marks p q ≡ t → Counted w (refine p q w)
      go true e =
          let l = refine_merges e in
          record {
            grew = omega arith;
            still = λ z. absurd (omega arith);
            added = rw (refine, refine_roots, e) (drain_counted (with_pairs (pair (root_of w.links p) (root_of w.links q) ∷ w.pairs) w)).added;
          }
      go false e = rw (refine_none e) (counted_none w)

  -- conversely
  pub refine_still : (refine p q w).merges ≡ w.merges → joins w.links w.marks p q ≡ false
  refine_still z = go (joins w.links w.marks p q) refl
    where
      go : (t : Bool) → joins w.links w.marks p q ≡ t → joins w.links w.marks p q ≡ false
      go true e = let l = refine_merges e in absurd (omega arith)
      go false e = e

pub refine_parents_counted : (ps qs : List ℕ) (w : Core) → Counted w (refine_parents ps qs w)
unfolding refine_parents
refine_parents_counted [] qs w = counted_none w
refine_parents_counted (p ∷ ps) [] w = counted_none w
refine_parents_counted (p ∷ ps) (q ∷ qs) w =
    counted_then w (refine p q w) (refine_parents ps qs (refine p q w)) (refine_counted w p q) (refine_parents_counted ps qs (refine p q w))

-- the parents of two facts paired, if they are of one type
abbrev pub refine_one : Fact → Fact → Core → Core
refine_one g f w = elim (eqb g.typ f.typ) [ true ↦ refine_parents g.parents f.parents w | false ↦ w ]

pub refine_one_counted : (g f : Fact) (w : Core) → Counted w (refine_one g f w)
refine_one_counted g f w = go (eqb g.typ f.typ)
  where
    go : (t : Bool) → Counted w (elim t [ true ↦ refine_parents g.parents f.parents w | false ↦ w ])
    go true = refine_parents_counted g.parents f.parents w
    go false = counted_none w

pub refine_all_counted : (gs : List Fact) (f : Fact) (w : Core) → Counted w (refine_all gs f w)
unfolding refine_all
refine_all_counted [] f w = counted_none w
refine_all_counted (g ∷ gs) f w =
    counted_then w (refine_one g f w) (refine_all gs f (refine_one g f w)) (refine_one_counted g f w) (refine_all_counted gs f (refine_one g f w))

-- The insertion: the fact is there, or it is new and has room, or it has none.

insert_cases {ℓ} : (P : Core → Type ℓ) (f : Fact) (w : Core) → (present compare_fact f w.facts ≡ true → P w)
    → (present compare_fact f w.facts ≡ false → P (with_added (placed compare_fact f w.facts) w))
    → (present compare_fact f w.facts ≡ false → P (with_met too_many_facts w)) → P (insert_fact f w)
unfolding insert_fact
insert_cases P f w there room full = go (present compare_fact f w.facts) (ltb (length w.facts) max_facts) refl
  where
    go : (t u : Bool) → present compare_fact f w.facts ≡ t
        → P (elim t [ true ↦ w | false ↦ elim u [ true ↦ with_added (placed compare_fact f w.facts) w | false ↦ with_met too_many_facts w ] ])
    go true u e = there e
    go false true e = room e
    go false false e = full e

-- a number that is met stays
met_stays : {X : Type 0} (o : Option ℕ) (n : ℕ) → ◌≡◌ {A = Option ℕ} (elim o [ none ↦ some n | some m ↦ some m ]) none → X
met_stays none n q = let z : ◌≡◌ {A = ℕ} 0 1 = cc in absurd (omega arith)
met_stays (some m) n q = let z : ◌≡◌ {A = ℕ} 0 1 = cc in absurd (omega arith)

-- from w to v only the facts grow, and a number may be met
pub record OnlyFactsGrew (w v : Core) : Type 0 where
  pub links : v.links ≡ w.links
  pub marks : v.marks ≡ w.marks
  pub pairs : v.pairs ≡ w.pairs
  pub merges : v.merges ≡ w.merges
  pub added : w.added ≤ v.added
  pub met : v.met ≡ none → w.met ≡ none
  pub facts : (f : Fact) → present compare_fact f w.facts ≡ true → present compare_fact f v.facts ≡ true

pub grown_none : (w : Core) → OnlyFactsGrew w w
grown_none w = record { links = refl; marks = refl; pairs = refl; merges = refl; added = omega arith; met = λ q. q; facts = λ f h. h }

pub grown_then : (w v u : Core) → OnlyFactsGrew w v → OnlyFactsGrew v u → OnlyFactsGrew w u
grown_then w v u a b = record {
  links = b.links ∙ a.links;
  marks = b.marks ∙ a.marks;
  pairs = b.pairs ∙ a.pairs;
  merges = b.merges ∙ a.merges;
  added = omega (arith, a.added, b.added);
  met = λ q. a.met (b.met q);
  facts = λ f h. b.facts f (a.facts f h);
}

insert_fact_grown : (f : Fact) (w : Core) → OnlyFactsGrew w (insert_fact f w)
insert_fact_grown f w =
    insert_cases (OnlyFactsGrew w) f w (λ e. grown_none w)
    (λ e. record {
      links = refl;
      marks = refl;
      pairs = refl;
      merges = refl;
      added = omega arith;
      met = λ q. q;
      facts = λ g h. present_stays fact_ordered f g w.facts h;
    })
    (λ e. record { links = refl; marks = refl; pairs = refl; merges = refl; added = omega arith; met = λ q. met_stays w.met too_many_facts q; facts = λ g h. h })

insert_fact_there : (f : Fact) (w : Core) → (insert_fact f w).met ≡ none → present compare_fact f (insert_fact f w).facts ≡ true
insert_fact_there f w =
    insert_cases (λ v. v.met ≡ none → present compare_fact f v.facts ≡ true) f w (λ e q. e) (λ e q. placed_there fact_ordered f w.facts)
    (λ e q. met_stays w.met too_many_facts q)

insert_fact_idle : (f : Fact) (w : Core) → present compare_fact f w.facts ≡ true → insert_fact f w ≡ w
unfolding insert_fact
insert_fact_idle f w e = rw (insert_fact, e)

-- an insertion that added nothing and met no number
insert_fact_still : (f : Fact) (w : Core) → (insert_fact f w).added ≡ w.added → (insert_fact f w).met ≡ none → insert_fact f w ≡ w
insert_fact_still f w =
    insert_cases (λ v. v.added ≡ w.added → v.met ≡ none → v ≡ w) f w (λ e a m. refl) (λ e a m. absurd (omega arith))
    (λ e a m. met_stays w.met too_many_facts m)

-- the fact, its parents as roots and at the root, is stored
abbrev pub Stored : List ℕ → List Fact → Fact → Type 0
Stored ls fs f = present compare_fact (canonical_fact ls f) fs ≡ true

module _ (f : Fact) (w : Core) where
  pub insert_grown : OnlyFactsGrew w (insert_canonical f w)
  unfolding insert_canonical
  insert_grown = insert_fact_grown (canonical_fact w.links f) w

  pub insert_there : (insert_canonical f w).met ≡ none → Stored w.links (insert_canonical f w).facts f
  unfolding insert_canonical
  insert_there = insert_fact_there (canonical_fact w.links f) w

  pub insert_idle : Stored w.links w.facts f → insert_canonical f w ≡ w
  unfolding insert_canonical
  insert_idle = insert_fact_idle (canonical_fact w.links f) w

  insert_still : (insert_canonical f w).added ≡ w.added → (insert_canonical f w).met ≡ none → insert_canonical f w ≡ w
  unfolding insert_canonical
  insert_still = insert_fact_still (canonical_fact w.links f) w

  -- what holds of the facts and of the one inserted holds of what is left
  pub insert_all_lem : (P : Fact → Type 0) → P (canonical_fact w.links f) → All P w.facts → All P (insert_canonical f w).facts
  unfolding insert_canonical
  insert_all_lem P a h =
      insert_cases (λ v. All P v.facts) (canonical_fact w.links f) w (λ e. h)
      (λ e. placed_all compare_fact (canonical_fact w.links f) P w.facts a h) (λ e. h)

-- plain set insertion of each fact in turn
unfoldable pub insert_all : List Fact → Core → Core
insert_all [] w = w
insert_all (f ∷ fs) w = insert_all fs (insert_canonical f w)

pub insert_all_grown : (fs : List Fact) (w : Core) → OnlyFactsGrew w (insert_all fs w)
unfolding insert_all
insert_all_grown [] w = grown_none w
insert_all_grown (f ∷ fs) w =
    grown_then w (insert_canonical f w) (insert_all fs (insert_canonical f w)) (insert_grown f w) (insert_all_grown fs (insert_canonical f w))

pub insert_all_there : (fs : List Fact) (w : Core) → (insert_all fs w).met ≡ none → All (Stored w.links (insert_all fs w).facts) fs
unfolding insert_all
insert_all_there [] w q = tt
insert_all_there (f ∷ fs) w q =
    let g = insert_all_grown fs (insert_canonical f w) in (
      g.facts (canonical_fact w.links f) (insert_there f w (g.met q)),
      subst (λ ls. All (Stored ls (insert_all fs (insert_canonical f w)).facts) fs) (insert_grown f w).links
          (insert_all_there fs (insert_canonical f w) q),
    )

pub insert_all_idle : (fs : List Fact) (w : Core) → All (Stored w.links w.facts) fs → insert_all fs w ≡ w
unfolding insert_all
insert_all_idle [] w h = refl
insert_all_idle (f ∷ fs) w h = ap (insert_all fs) (insert_idle f w h.0) ∙ insert_all_idle fs w h.1

insert_all_still : (fs : List Fact) (w : Core) → (insert_all fs w).added ≡ w.added → (insert_all fs w).met ≡ none → insert_all fs w ≡ w
unfolding insert_all
insert_all_still [] w a m = refl
insert_all_still (f ∷ fs) w a m =
    let g = insert_all_grown fs (insert_canonical f w) in
    let one = insert_still f w (omega (arith, a, (insert_grown f w).added, g.added)) (g.met m) in
    let rest = ap (insert_all fs) one in
    rest ∙ insert_all_still fs w (ap (λ (v : Core). v.added) (sym rest) ∙ a) (ap (λ (v : Core). v.met) (sym rest) ∙ m)

-- Imposing with no merge.

impose_counts : (f : Fact) (w : Core) → w.merges ≤ (impose f w).merges
unfolding impose
impose_counts f w =
    let v = refine_all (concrete_types_of w.links w.facts f.el) f w in
    omega (arith, (refine_all_counted (concrete_types_of w.links w.facts f.el) f w).grew, (insert_grown f v).merges)

pub impose_all_counts : (fs : List Fact) (w : Core) → w.merges ≤ (impose_all fs w).merges
unfolding impose_all
impose_all_counts [] w = omega arith
impose_all_counts (f ∷ fs) w = omega (arith, impose_counts f w, impose_all_counts fs (impose f w))

pub impose_all_adds : (fs : List Fact) (w : Core) → w.added ≤ (impose_all fs w).added
unfolding impose_all impose
impose_all_adds [] w = omega arith
impose_all_adds (f ∷ fs) w =
    let gs = concrete_types_of w.links w.facts f.el in
    omega (arith, (refine_all_counted gs f w).added, (insert_grown f (refine_all gs f w)).added, impose_all_adds fs (impose f w))

-- no answer was yes
pub impose_all_still : (fs : List Fact) (w : Core) → grew w (impose_all fs w) ≡ false → (impose_all fs w).merges ≡ w.merges
unfolding grew
impose_all_still fs w e =
    let v = impose_all fs w in
    omega (arith, ltb-false (w.merges + w.added) (v.merges + v.added) e, impose_all_counts fs w, impose_all_adds fs w)

-- What imposing answers (02, M-106): "two counts, merges made and facts added".

-- the Rust's yes, "if a merge happened or the set grew"
pub grew_growth : (fs : List Fact) (w : Core) → let a = growth w (impose_all fs w) in grew w (impose_all fs w) ≡ ltb 0 (a.merges + a.added)
unfolding grew growth
grew_growth fs w =
    let v = impose_all fs w in
    let before = w.merges + w.added in
    let after = v.merges + v.added in
    let most = impose_all_counts fs w in
    let more = impose_all_adds fs w in
    elim (test (ltb before after)) [
      | inl e ↦ e ∙ sym (lt-ltb 0 ((v.merges - w.merges) + (v.added - w.added)) (omega (arith, ltb-true before after e, most, more)))
      | inr e ↦ e ∙ sym (le-ltb 0 ((v.merges - w.merges) + (v.added - w.added)) (omega (arith, ltb-false before after e, most, more)))
    ]

-- of a list the answers are summed
pub growth_sum : (f : Fact) (fs : List Fact) (w : Core) →
    let a = growth w (impose f w) in
    let b = growth (impose f w) (impose_all fs (impose f w)) in
    growth w (impose_all (f ∷ fs) w) ≡ grown (a.merges + b.merges) (a.added + b.added)
unfolding impose_all growth
growth_sum f fs w =
    let v = impose f w in
    let u = impose_all fs v in
    let m : u.merges - w.merges ≡ (v.merges - w.merges) + (u.merges - v.merges) = omega (arith, impose_counts f w, impose_all_counts fs v) in
    let n : u.added - w.added ≡ (v.added - w.added) + (u.added - v.added) = omega (arith, impose_all_adds (f ∷ []) w, impose_all_adds fs v) in
    λ i. grown (m i) (n i)

-- nothing was refined
pub impose_refined : (f : Fact) (w : Core) → (impose f w).merges ≡ w.merges
    → refine_all (concrete_types_of w.links w.facts f.el) f w ≡ w
unfolding impose
impose_refined f w q =
    let gs = concrete_types_of w.links w.facts f.el in
    (refine_all_counted gs f w).still (sym (insert_grown f (refine_all gs f w)).merges ∙ q)

pub impose_plain : (f : Fact) (w : Core) → refine_all (concrete_types_of w.links w.facts f.el) f w ≡ w → impose f w ≡ insert_canonical f w
unfolding impose
impose_plain f w e = ap (insert_canonical f) e

-- neither the first fact nor the others merged
pub first_still : (f : Fact) (fs : List Fact) (w : Core) → (impose_all (f ∷ fs) w).merges ≡ w.merges
    → (impose f w ≡ insert_canonical f w) × ((impose_all fs (impose f w)).merges ≡ (impose f w).merges)
unfolding impose_all
first_still f fs w q =
    let a = impose_counts f w in
    let b = impose_all_counts fs (impose f w) in
    (impose_plain f w (impose_refined f w (omega arith)), omega arith)

-- imposing a list with no merge is plain set insertion
pub impose_inserts : (fs : List Fact) (w : Core) → (impose_all fs w).merges ≡ w.merges → impose_all fs w ≡ insert_all fs w
unfolding impose_all insert_all
impose_inserts [] w q = refl
impose_inserts (f ∷ fs) w q =
    let a = first_still f fs w q in impose_inserts fs (impose f w) a.1 ∙ ap (insert_all fs) a.0

-- no answer was yes and no number met: nothing changed
pub impose_all_same : (fs : List Fact) (w : Core) → grew w (impose_all fs w) ≡ false → (impose_all fs w).met ≡ none → impose_all fs w ≡ w
unfolding grew
impose_all_same fs w e m =
    let v = impose_all fs w in
    let still = impose_all_still fs w e in
    let plain = impose_inserts fs w still in
    let added : v.added ≡ w.added = omega (arith, ltb-false (w.merges + w.added) (v.merges + v.added) e, still, impose_all_adds fs w) in
    plain ∙ insert_all_still fs w (ap (λ (x : Core). x.added) (sym plain) ∙ added) (ap (λ (x : Core). x.met) (sym plain) ∙ m)

-- Imposing with no mark.

module _ (w : Core) (u : Unmarked w.marks) where
  refine_parents_plain : (ps qs : List ℕ) → refine_parents ps qs w ≡ w
  unfolding refine_parents
  refine_parents_plain [] qs = refl
  refine_parents_plain (p ∷ ps) [] = refl
  refine_parents_plain (p ∷ ps) (q ∷ qs) =
      ap (refine_parents ps qs)
      (refine_none w p q (rw (u (root_of w.links p), u (root_of w.links q)) (and-false (not (eqb (root_of w.links p) (root_of w.links q))))))
      ∙ refine_parents_plain ps qs

  refine_all_plain : (gs : List Fact) (f : Fact) → refine_all gs f w ≡ w
  unfolding refine_all
  refine_all_plain [] f = refl
  refine_all_plain (g ∷ gs) f = ap (refine_all gs f) (go (eqb g.typ f.typ)) ∙ refine_all_plain gs f
    where
      go : (t : Bool) → ◌≡◌ {A = Core} (elim t [ true ↦ refine_parents g.parents f.parents w | false ↦ w ]) w
      go true = refine_parents_plain g.parents f.parents
      go false = refl

pub unmarked_inserts : (fs : List Fact) (w : Core) → Unmarked w.marks → impose_all fs w ≡ insert_all fs w
unfolding impose_all insert_all
unmarked_inserts [] w u = refl
unmarked_inserts (f ∷ fs) w u =
    let e = impose_plain f w (refine_all_plain w u (concrete_types_of w.links w.facts f.el) f) in
    ap (impose_all fs) e ∙ unmarked_inserts fs (insert_canonical f w) (subst Unmarked (sym (insert_grown f w).marks) u)

-- What plain insertion leaves, for whichever reason imposing is that.
module _ (fs : List Fact) (w : Core) (plain : impose_all fs w ≡ insert_all fs w) where
  pub plain_grown : OnlyFactsGrew w (impose_all fs w)
  plain_grown = subst (OnlyFactsGrew w) (sym plain) (insert_all_grown fs w)

  pub plain_there : (impose_all fs w).met ≡ none → All (Stored w.links (impose_all fs w).facts) fs
  plain_there = subst (λ v. v.met ≡ none → All (Stored w.links v.facts) fs) (sym plain) (insert_all_there fs w)
