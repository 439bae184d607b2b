-- Facts whose imposing merges nothing, marks or not.
use mathlib.Core.Path.{◌≡◌, refl, sym, subst, subst₂, ap, ◌∙◌}
use mathlib.Core.Logic.{◌≢◌, ◌⊎◌, inl, inr}
use mathlib.Core.Bool.{Bool, true, false, not, ◌&&◌, ◌||◌}
use mathlib.Core.List.Memᴰ
use mathlib.Core.List.{List, [], ◌∷◌, map, Memᴰ}
use mathlib.Core.Option.{none}
use Prim.Native.Nat.{ℕ}
use native.Mathlib.Omega.{arith}
use lib.Dec.{eqb}
use borrow.Author.Tests.{eq-eqb, ne_eqb, eqb-true}
use Rattle.ids.specs.Table.{present, rewrite_into}
use Rattle.ids.proofs.Sorted.{All, all_at, all_from, all_map, no_test, present_some, rewrite_all, rewrite_there}
use Rattle.unification.specs.Roots.{root_of}
use Rattle.unification.proofs.Numbers.{same_or}
use Rattle.unification.proofs.Laws.{root_root}
use Rattle.semantics.specs.Structure.{Fact, compare_fact, canonical_fact}
use Rattle.semantics.specs.Types.{Core, marked, facts_at, concrete_types_of, refine, refine_parents, refine_all, insert_canonical, impose, impose_all}
use Rattle.semantics.specs.Valid.{OnRoot}
use Rattle.semantics.proofs.Orders.{fact_ordered, fact_same}
use Rattle.semantics.proofs.Canonical.{canon_fact}
use Rattle.validity.proofs.Imposing.{facts_at_all}
use Rattle.history.proofs.Imposing.{joins, refine_none, refine_still, refine_counted, refine_parents_counted, refine_one, refine_one_counted}
use Rattle.history.proofs.Imposing.{refine_all_counted, Stored, insert_grown, insert_there, insert_idle, insert_all_lem, impose_refined}
use Rattle.history.proofs.Imposing.{impose_plain, first_still, impose_inserts, insert_all, insert_all_grown}

-- Two lists of parents that no imposing joins.

module _ (ls : List ℕ) (ms : List Bool) where
  -- up to the shorter length, no two are to be joined
  abbrev pub Fixed : List ℕ → List ℕ → Type 0
  Fixed [] qs = Unit {0}
  Fixed (p ∷ ps) [] = Unit {0}
  Fixed (p ∷ ps) (q ∷ qs) = (joins ls ms p q ≡ false) × Fixed ps qs

  either : (a b : Bool) → (a || b) ≡ (b || a)
  either true true = refl
  either true false = refl
  either false true = refl
  either false false = refl

  joins_flip : (p q : ℕ) → joins ls ms p q ≡ joins ls ms q p
  joins_flip p q = go (root_of ls p) (root_of ls q) (same_or (root_of ls p) (root_of ls q))
    where
      go : (a b : ℕ) → (a ≡ b) ⊎ (a ≢ b) → (not (eqb a b) && (marked ms a || marked ms b)) ≡ (not (eqb b a) && (marked ms b || marked ms a))
      go a b (inl e) = rw e
      go a b (inr n) = rw (ne_eqb a b n, ne_eqb b a (λ e. n (sym e))) (either (marked ms a) (marked ms b))

  fixed_flip : (ps qs : List ℕ) → Fixed ps qs → Fixed qs ps
  fixed_flip [] [] h = tt
  fixed_flip [] (q ∷ qs) h = tt
  fixed_flip (p ∷ ps) [] h = tt
  fixed_flip (p ∷ ps) (q ∷ qs) h = (joins_flip q p ∙ h.0, fixed_flip ps qs h.1)

  fixed_self : (ps : List ℕ) → Fixed ps ps
  fixed_self [] = tt
  fixed_self (p ∷ ps) = (rw (eq-eqb (root_of ls p) (root_of ls p) refl), fixed_self ps)

  -- only the roots count
  fixed_on : (ps qs : List ℕ) → Fixed ps qs → Fixed (map (root_of ls) ps) qs
  fixed_on [] qs h = tt
  fixed_on (p ∷ ps) [] h = tt
  fixed_on (p ∷ ps) (q ∷ qs) h = (rw (root_root ls p) h.0, fixed_on ps qs h.1)

  fixed_back : (ps qs : List ℕ) → Fixed (map (root_of ls) ps) qs → Fixed ps qs
  fixed_back [] qs h = tt
  fixed_back (p ∷ ps) [] h = tt
  fixed_back (p ∷ ps) (q ∷ qs) h = (rw (root_root ls p) at h.0, fixed_back ps qs h.1)

  -- two facts of one type with such parents, or of two types
  abbrev pub Unjoined : Fact → Fact → Type 0
  Unjoined g f = eqb g.typ f.typ ≡ true → Fixed g.parents f.parents

  unjoined_flip : (g f : Fact) → Unjoined g f → Unjoined f g
  unjoined_flip g f h e =
      fixed_flip g.parents f.parents (h (eq-eqb g.typ f.typ (sym (eqb-true f.typ g.typ e))))

  unjoined_self : (f : Fact) → Unjoined f f
  unjoined_self f e = fixed_self f.parents

  unjoined_on : (g f : Fact) → Unjoined g f → Unjoined (canonical_fact ls g) f
  unfolding canonical_fact
  unjoined_on g f h e = fixed_on g.parents f.parents (h e)

  unjoined_back : (g f : Fact) → Unjoined (canonical_fact ls g) f → Unjoined g f
  unfolding canonical_fact
  unjoined_back g f h e = fixed_back g.parents f.parents (h e)

  -- of the facts that stand at the root of f's element, none merges with f
  abbrev pub NoneJoined : List Fact → Fact → Type 0
  NoneJoined fs f = All (λ h. h.el ≡ root_of ls f.el → Unjoined h f) fs

  -- f is stored, and imposing it merges nothing: so it does nothing
  pub record Safe (fs : List Fact) (f : Fact) : Type 0 where
    pub stored : Stored ls fs f
    pub none_joined : NoneJoined fs f

-- What was refined, and what is not.

refine_parents_still : (ps qs : List ℕ) (w : Core) → (refine_parents ps qs w).merges ≡ w.merges → Fixed w.links w.marks ps qs
unfolding refine_parents
refine_parents_still [] qs w e = tt
refine_parents_still (p ∷ ps) [] w e = tt
refine_parents_still (p ∷ ps) (q ∷ qs) w e =
    let a = refine_counted w p q in
    let b = refine_parents_counted ps qs (refine p q w) in
    let one : (refine p q w).merges ≡ w.merges = omega (arith, a.grew, b.grew, e) in
    let same = a.still one in (
      refine_still w p q one,
      refine_parents_still ps qs w (subst (λ v. (refine_parents ps qs v).merges ≡ w.merges) same e),
    )

refine_parents_fixed : (ps qs : List ℕ) (w : Core) → Fixed w.links w.marks ps qs → refine_parents ps qs w ≡ w
unfolding refine_parents
refine_parents_fixed [] qs w h = refl
refine_parents_fixed (p ∷ ps) [] w h = refl
refine_parents_fixed (p ∷ ps) (q ∷ qs) w h = ap (refine_parents ps qs) (refine_none w p q h.0) ∙ refine_parents_fixed ps qs w h.1

module _ (f : Fact) where
  refine_one_still : (g : Fact) (w : Core) → (refine_one g f w).merges ≡ w.merges → Unjoined w.links w.marks g f
  refine_one_still g w e t =
      let p : refine_one g f w ≡ refine_parents g.parents f.parents w = rw (refine_one, t) in
      refine_parents_still g.parents f.parents w (ap (λ (v : Core). v.merges) (sym p) ∙ e)

  refine_one_unjoined : (g : Fact) (w : Core) → Unjoined w.links w.marks g f → refine_one g f w ≡ w
  refine_one_unjoined g w h = go (eqb g.typ f.typ) h
    where
      go : (t : Bool) → (t ≡ true → Fixed w.links w.marks g.parents f.parents)
          → ◌≡◌ {A = Core} (elim t [ true ↦ refine_parents g.parents f.parents w | false ↦ w ]) w
      go true k = refine_parents_fixed g.parents f.parents w (k refl)
      go false k = refl

  refine_all_still : (gs : List Fact) (w : Core) → (refine_all gs f w).merges ≡ w.merges → All (λ g. Unjoined w.links w.marks g f) gs
  unfolding refine_all
  refine_all_still [] w e = tt
  refine_all_still (g ∷ gs) w e =
      let a = refine_one_counted g f w in
      let b = refine_all_counted gs f (refine_one g f w) in
      let one : (refine_one g f w).merges ≡ w.merges = omega (arith, a.grew, b.grew, e) in
      (refine_one_still g w one, refine_all_still gs w (subst (λ v. (refine_all gs f v).merges ≡ w.merges) (a.still one) e))

  refine_all_unjoined : (gs : List Fact) (w : Core) → All (λ g. Unjoined w.links w.marks g f) gs → refine_all gs f w ≡ w
  unfolding refine_all
  refine_all_unjoined [] w h = refl
  refine_all_unjoined (g ∷ gs) w h = ap (refine_all gs f) (refine_one_unjoined g w h.0) ∙ refine_all_unjoined gs w h.1

-- What `concrete_types_of` holds.

pub present_member : (f : Fact) (l : List Fact) → present compare_fact f l ≡ true → Memᴰ f l
present_member f l e = let s = present_some compare_fact f l e in Memᴰ.cast (sym (fact_same s.0 f s.2)) s.1

facts_at_member : (e : ℕ) (fs : List Fact) (h : Fact) → Memᴰ h fs → h.el ≡ e → Memᴰ h (facts_at e fs)
unfolding facts_at
facts_at_member e [] h m p = absurd (Memᴰ.not-nil m)
facts_at_member e (f ∷ fs) h m p = go (eqb f.el e) refl (Memᴰ.cases_cons m) (λ k. facts_at_member e fs h k p)
  where
    go : (t : Bool) → eqb f.el e ≡ t → (h ≡ f) ⊎ Memᴰ h fs → (Memᴰ h fs → Memᴰ h (facts_at e fs))
        → Memᴰ {A = Fact} h (elim t [ true ↦ f ∷ facts_at e fs | false ↦ facts_at e fs ])
    go true q (inl z) k = Memᴰ.head z
    go true q (inr n) k = Memᴰ.tail (k n)
    go false q (inl z) k = no_test (eq-eqb f.el e (ap (λ (x : Fact). x.el) (sym z) ∙ p)) q
    go false q (inr n) k = k n

module _ (f : Fact) (w : Core) where
  -- an imposing that merged nothing
  impose_none_joined : (impose f w).merges ≡ w.merges → NoneJoined w.links w.marks w.facts f
  unfolding concrete_types_of
  impose_none_joined e =
      all_from (λ h. h.el ≡ root_of w.links f.el → Unjoined w.links w.marks h f) w.facts
      (λ h m p. unjoined_back w.links w.marks h f
      (all_at (λ g. Unjoined w.links w.marks g f) types unjoined (canonical_fact w.links h)
      (present_member (canonical_fact w.links h) types
      (rewrite_there fact_ordered (canonical_fact w.links) (facts_at (root_of w.links f.el) w.facts) [] tt
      (facts_at_member (root_of w.links f.el) w.facts h m p)))))
    where
      types : List Fact
      types = concrete_types_of w.links w.facts f.el

      unjoined : All (λ g. Unjoined w.links w.marks g f) types
      unjoined = refine_all_still f types w (ap (λ (v : Core). v.merges) (impose_refined f w e))

  -- and one that will merge nothing
  impose_idle : Safe w.links w.marks w.facts f → impose f w ≡ w
  unfolding concrete_types_of
  impose_idle s = impose_plain f w (refine_all_unjoined f types w unjoined) ∙ insert_idle f w s.stored
    where
      types : List Fact
      types = concrete_types_of w.links w.facts f.el

      unjoined : All (λ g. Unjoined w.links w.marks g f) types
      unjoined =
          rewrite_all compare_fact (canonical_fact w.links) (λ g. Unjoined w.links w.marks g f) (facts_at (root_of w.links f.el) w.facts) []
          (facts_at_all (λ h. Unjoined w.links w.marks (canonical_fact w.links h) f) (root_of w.links f.el) w.facts
          (all_map (λ h k p. unjoined_on w.links w.marks h f (k p)) w.facts s.none_joined)) tt

  -- An insertion that merged nothing keeps what is safe, and makes its own fact so.
  module _ (none_joined : NoneJoined w.links w.marks w.facts f) where
    safe_stays : (d : Fact) → Safe w.links w.marks w.facts d → Safe w.links w.marks (insert_canonical f w).facts d
    unfolding canonical_fact
    safe_stays d s = record {
      stored = (insert_grown f w).facts (canonical_fact w.links d) s.stored;
      none_joined = insert_all_lem f w (λ h. h.el ≡ root_of w.links d.el → Unjoined w.links w.marks h d)
          (λ e. unjoined_on w.links w.marks f d (unjoined_flip w.links w.marks d f (unjoined_back w.links w.marks d f
          (all_at (λ h. h.el ≡ root_of w.links f.el → Unjoined w.links w.marks h f) w.facts none_joined (canonical_fact w.links d)
          (present_member (canonical_fact w.links d) w.facts s.stored) (sym e)))))
          s.none_joined;
    }

    safe_own : (insert_canonical f w).met ≡ none → Safe w.links w.marks (insert_canonical f w).facts f
    safe_own m = record {
      stored = insert_there f w m;
      none_joined = insert_all_lem f w (λ h. h.el ≡ root_of w.links f.el → Unjoined w.links w.marks h f)
          (λ e. unjoined_on w.links w.marks f f (unjoined_self w.links w.marks f)) none_joined;
    }

-- the links and the marks by another name
pub safe_moved : {ls ks : List ℕ} {ms ns : List Bool} → ls ≡ ks → ms ≡ ns → (fs l : List Fact) → All (Safe ls ms fs) l → All (Safe ks ns fs) l
safe_moved p q fs l h = subst₂ (λ k n. All (Safe k n fs) l) p q h

-- A list that is imposed with no merge: what was safe is, and so is the list.
pub imposed_safe : (fs : List Fact) (w : Core) → (impose_all fs w).merges ≡ w.merges → (impose_all fs w).met ≡ none → (ds : List Fact)
    → All (Safe w.links w.marks w.facts) ds
    → All (Safe w.links w.marks (impose_all fs w).facts) ds × All (Safe w.links w.marks (impose_all fs w).facts) fs
unfolding impose_all
imposed_safe [] w e m ds h = (h, tt)
imposed_safe (f ∷ fs) w e m ds h =
    let one = first_still f fs w e in
    let v = insert_canonical f w in
    let grown = insert_grown f w in
    let none_joined = impose_none_joined f w (ap (λ (x : Core). x.merges) one.0 ∙ grown.merges) in
    let e' : (impose_all fs v).merges ≡ v.merges = subst (λ (x : Core). (impose_all fs x).merges ≡ x.merges) one.0 one.1 in
    let m' : (impose_all fs v).met ≡ none = subst (λ (x : Core). (impose_all fs x).met ≡ none) one.0 m in
    let met : v.met ≡ none = (insert_all_grown fs v).met (ap (λ (x : Core). x.met) (sym (impose_inserts fs v e')) ∙ m') in
    let own = safe_own f w none_joined met in
    let safe : All (Safe w.links w.marks v.facts) (f ∷ ds) = (own, all_map (safe_stays f w none_joined) ds h) in
    let z = imposed_safe fs v e' m' (f ∷ ds)
    (safe_moved (sym grown.links) (sym grown.marks) v.facts (f ∷ ds) safe) in
    let back : (l : List Fact) → All (Safe v.links v.marks (impose_all fs v).facts) l
    → All (Safe w.links w.marks (impose_all fs (impose f w)).facts) l =
    λ l k. subst (λ (x : Core). All (Safe w.links w.marks (impose_all fs x).facts) l) (sym one.0)
    (safe_moved grown.links grown.marks (impose_all fs v).facts l k) in
    (back ds z.0.1, ((back (f ∷ []) (z.0.0, tt)).0, back fs z.1))

-- what is safe is imposed with no change
pub safe_idle : (fs : List Fact) (w : Core) → All (Safe w.links w.marks w.facts) fs → impose_all fs w ≡ w
unfolding impose_all
safe_idle [] w h = refl
safe_idle (f ∷ fs) w h = ap (impose_all fs) (impose_idle f w h.0) ∙ safe_idle fs w h.1

-- and what was imposed with no change is safe
pub same_safe : (fs : List Fact) (w : Core) → impose_all fs w ≡ w → (impose_all fs w).met ≡ none → All (Safe w.links w.marks w.facts) fs
same_safe fs w e m =
    subst (λ (v : Core). All (Safe w.links w.marks v.facts) fs) e
    (imposed_safe fs w (ap (λ (v : Core). v.merges) e) m [] tt).1

-- What is safe among facts is safe when they are rewritten, if they stand on roots.

abbrev pub OnRoots : List ℕ → List Fact → Type 0
OnRoots ls fs = All (OnRoot ls) fs

-- facts that stand on roots still do after plain insertion
pub insert_all_roots : (fs : List Fact) (w : Core) → OnRoots w.links w.facts → OnRoots (insert_all fs w).links (insert_all fs w).facts
unfolding insert_all canonical_fact
insert_all_roots [] w h = h
insert_all_roots (f ∷ fs) w h =
    insert_all_roots fs (insert_canonical f w)
    (subst (λ ls. OnRoots ls (insert_canonical f w).facts) (sym (insert_grown f w).links)
    (insert_all_lem f w (λ x. root_of w.links x.el ≡ x.el) (root_root w.links f.el) h))

module _ (ls : List ℕ) (ms : List Bool) (fs : List Fact) where
  abbrev pub rewritten_facts : List Fact
  rewritten_facts = rewrite_into compare_fact (canonical_fact ls) fs []

  none_joined_rewritten : OnRoots ls fs → (d : Fact) → NoneJoined ls ms fs d → NoneJoined ls ms rewritten_facts d
  unfolding canonical_fact
  none_joined_rewritten r d p =
      rewrite_all compare_fact (canonical_fact ls) (λ h. h.el ≡ root_of ls d.el → Unjoined ls ms h d) fs []
      (all_from (λ h. root_of ls h.el ≡ root_of ls d.el → Unjoined ls ms (canonical_fact ls h) d) fs
      (λ h m e. unjoined_on ls ms h d
      (all_at (λ h. h.el ≡ root_of ls d.el → Unjoined ls ms h d) fs p h m (sym (all_at (OnRoot ls) fs r h m) ∙ e)))) tt

  pub safe_rewritten : OnRoots ls fs → (d : Fact) → Safe ls ms fs d → Safe ls ms rewritten_facts d
  safe_rewritten r d s = record {
    stored = subst (λ (x : Fact). present compare_fact x rewritten_facts ≡ true) (canon_fact ls d)
        (rewrite_there fact_ordered (canonical_fact ls) fs [] tt (present_member (canonical_fact ls d) fs s.stored));
    none_joined = none_joined_rewritten r d s.none_joined;
  }

  -- a fact's image is as safe as the fact
  pub safe_image : (d : Fact) → Safe ls ms fs d → Safe ls ms fs (canonical_fact ls d)
  safe_image d s = record {
    stored = subst (λ (x : Fact). present compare_fact x fs ≡ true) (sym (canon_fact ls d)) s.stored;
    none_joined = unfold canonical_fact in
        all_map (λ h k e.
        unjoined_flip ls ms (canonical_fact ls d) h (unjoined_on ls ms d h (unjoined_flip ls ms h d (k (e ∙ root_root ls d.el))))) fs s.none_joined;
  }
