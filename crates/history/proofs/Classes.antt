-- The classes of a book that is tied to a structure in which nothing remains to join: they are those of the roots.
use mathlib.Core.Path.{◌≡◌, refl, sym, subst, ap, ◌∙◌}
use mathlib.Core.Logic.{◌≢◌, ◌⊎◌, inl, inr}
use mathlib.Core.Bool.{Bool, true, false}
use mathlib.Core.List.Memᴰ
use mathlib.Core.List.{List, [], Memᴰ}
use Prim.Native.Nat.{ℕ, ◌<◌}
use native.Mathlib.Omega.{arith}
use lib.Dec.{T, eqb}
use borrow.Author.Tests.{eqb-true, eq-eqb}
use Rattle.ids.proofs.Sorted.{All, all_at, all_from, Sorted}
use Rattle.ids.specs.Count.{count}
use Rattle.unification.specs.Roots.{root_of}
use Rattle.unification.proofs.Numbers.{same_or}
use Rattle.unification.proofs.Laws.{root_le, root_root}
use Rattle.semantics.specs.Structure.{FuncApp, func_app, compare_func_app, canonical_func_app}
use Rattle.semantics.specs.Types.{Core}
use Rattle.semantics.specs.MapLaws.{map_laws}
use Rattle.history.specs.Book.{Book, elements, Sharing, Shared, Derived, Fits, AppliesNeither, Classes}
use Rattle.history.proofs.Relation.{OneRoot, one_root, one_rooted, Respects, image_says, Like, like_self}
use Rattle.history.proofs.Elements.{Named, In, ClosedAmongAll, shared_all, shared_among_all, derived_among_all, book_closed}
use Rattle.semantics.proofs.Counts.{roots, is_root, count_alike}
use Rattle.history.proofs.Drain.{HoldsOfPair}
use Rattle.semantics.proofs.Canonical.{Canon}
use Rattle.history.proofs.Functionality.{meet_images}
use Rattle.history.proofs.Operations.{Held, stored_respects, held_obeyed}
use Rattle.history.proofs.Passes.{HoldsOfCore}
use Rattle.history.proofs.Calls.{Tied}

-- an application is the image, under the roots, of one in a list
pub record ImageOf (ls : List ℕ) (l : List FuncApp) (x : FuncApp) : Type 0 where
  pub of : FuncApp
  pub among : Memᴰ of l
  pub is : canonical_func_app ls of ≡ x

-- two applications that are alike by their roots have one image
like_image : (ls : List ℕ) (l : List FuncApp) (x : FuncApp) (k : Like (OneRoot ls) (In l) x) → canonical_func_app ls k.of ≡ canonical_func_app ls x
unfolding canonical_func_app
like_image ls l x k =
    let m = meet_images ls k.of x k.meet in
    λ i. func_app (m.func i) (m.parents i) (m.args i) (k.result i)

module _ (b : Book) (w : Core) (xs : List FuncApp) (named : Named b) (g : Tied b w xs) where
  abbrev ls : List ℕ
  ls = w.links

  -- a closed set agrees with the structure
  closed_core : (R : ℕ → ℕ → Type 0) (S : FuncApp → Type 0) → ClosedAmongAll b R S → HoldsOfCore R S w xs
  closed_core R S c = g.on R S c.equivalence c.respects c.laws c.holds

  pub shared_if : (x y : ℕ) → x < elements b → OneRoot ls x y → Shared b x y
  shared_if x y h e =
      (shared_among_all b named x y h).1 (λ R S c.
      let r = (closed_core R S c).rooted in
      c.equivalence.trans (c.equivalence.flip (r x)) (subst (λ z. R z y) (sym e) (r y)))

  -- an application is in every closed set, where its image under the roots is stored
  pub derived_if : (x : FuncApp) → Memᴰ (canonical_func_app ls x) xs → Derived b x
  derived_if x m =
      (derived_among_all b named x).1 (λ R S c.
      let h = closed_core R S c in
      image_says R c.equivalence S c.respects ls h.rooted x (all_at S xs h.apps (canonical_func_app ls x) m))

  -- nothing remains to join, and the laws hold of what is stored
  module _ (none : w.pairs ≡ []) (sorted : Sorted compare_func_app xs) (canon : All (Canon ls) xs)
      (held : All (Held ls xs) (map_laws b.sig.models xs)) where
    respects : Respects (OneRoot ls) (Like (OneRoot ls) (In xs))
    respects = stored_respects ls xs sorted canon

    -- to have one root, and to be alike to what is stored, is closed
    root_closed : ClosedAmongAll b (OneRoot ls) (Like (OneRoot ls) (In xs))
    root_closed = record {
      equivalence = one_root ls;
      respects = respects;
      laws = held_obeyed ls xs sorted canon b.sig.models held;
      holds = g.back (OneRoot ls) (Like (OneRoot ls) (In xs)) (one_root ls) respects (record {
        rooted = one_rooted ls;
        pairs = subst (All (HoldsOfPair (OneRoot ls))) (sym none) tt;
        apps = all_from (Like (OneRoot ls) (In xs)) xs (like_self (OneRoot ls) (one_root ls) (In xs));
      });
    }

    pub only_shared : (x y : ℕ) → Shared b x y → OneRoot ls x y
    only_shared x y h = shared_all b named x y h (OneRoot ls) (Like (OneRoot ls) (In xs)) root_closed

    pub only_derived : (x : FuncApp) → Derived b x → Memᴰ (canonical_func_app ls x) xs
    only_derived x d =
        let k = (derived_among_all b named x).0 d (OneRoot ls) (Like (OneRoot ls) (In xs)) root_closed in
        Memᴰ.cast (sym (like_image ls xs x k) ∙ all_at (Canon ls) xs canon k.of k.has) k.has

    -- there are as many classes as roots
    pub root_classes : Classes Shared b (roots ls)
    unfolding roots is_root
    root_classes = record {
      lowest = is_root ls;
      is = λ e h. (λ t d l z. only e t d l (only_shared d e z), λ f. first e h f (same_or (root_of ls e) e));
      many = ap (count (is_root ls)) (sym g.ready.kept.long);
    }
      where
        passes : (t : Bool) → T t → t ≡ true
        passes true h = refl
        passes false h = absurd h

        only : (e : ℕ) → T (eqb (root_of ls e) e) → (d : ℕ) → d < e → root_of ls d ≡ root_of ls e → ⊥
        only e t d l z = omega (arith, root_le ls d, eqb-true (root_of ls e) e (passes (eqb (root_of ls e) e) t))

        first : (e : ℕ) → e < elements b → ((d : ℕ) → d < e → Shared b d e → ⊥) → (root_of ls e ≡ e) ⊎ (root_of ls e ≢ e) → T (eqb (root_of ls e) e)
        first e h f (inl q) = rw (eq-eqb (root_of ls e) e q) tt
        first e h f (inr q) =
            absurd (f (root_of ls e) (omega (arith, root_le ls e)) (shared_if (root_of ls e) e (omega (arith, root_le ls e)) (root_root ls e)))

    -- where no application of the book is one of id or comp, each stored one is the root image of one in the book
    pub stored_image : AppliesNeither b → (x : FuncApp) → Memᴰ x xs → ImageOf ls b.apps x
    stored_image neither x m =
        let h = root_closed.holds in
        let fits : Fits b (OneRoot ls) = record {
          equal = all_at (HoldsOfPair (OneRoot ls)) b.equalities h.0;
          functional = λ y z my mz t.
              respects.agree y z t (all_at (Like (OneRoot ls) (In xs)) b.apps h.1 y my) (all_at (Like (OneRoot ls) (In xs)) b.apps h.1 z mz);
        } in
        let k = all_at (Like (OneRoot ls) (In b.apps)) xs
        (closed_core (OneRoot ls) (Like (OneRoot ls) (In b.apps)) (book_closed b neither (OneRoot ls) (one_root ls) fits)).apps x m in
        record { of = k.of; among = k.has; is = like_image ls b.apps x k ∙ all_at (Canon ls) xs canon x m }

-- The number of classes is one number.

same_test : (p q : Bool) → (T p → T q) → (T q → T p) → p ≡ q
same_test true true f g = refl
same_test true false f g = absurd (f tt)
same_test false true f g = absurd (g tt)
same_test false false f g = refl

pub classes_unique : (Share : Sharing) (b : Book) (j k : ℕ) → Classes Share b j → Classes Share b k → j ≡ k
classes_unique Share b j k x y =
    sym x.many
    ∙ count_alike x.lowest y.lowest (elements b)
    (λ e h. same_test (x.lowest e) (y.lowest e) (λ t. (y.is e h).1 ((x.is e h).0 t)) (λ t. (x.is e h).1 ((y.is e h).0 t)))
    ∙ y.many
