-- Laws of an application that meets the entry with its key.
use mathlib.Core.Path.{◌≡◌, refl, sym, ap, ◌∙◌}
use mathlib.Core.Bool.{Bool, true, false}
use mathlib.Core.List.{List}
use mathlib.Core.Option.{Option, none, some}
use Prim.Native.Nat.{ℕ}
use native.Mathlib.Omega.{arith}
use lib.ListN.{length}
use lib.Dec.{eqb, leb}
use borrow.Author.Tests.{leb-true, leb-false, eq-eqb, ne_eqb}
use Rattle.ids.specs.Table.{Insertion, present, placed, lookup_of, insert_of}
use Rattle.ids.proofs.Tests.{chosen, unchosen}
use Rattle.ids.proofs.Tables.{is_some, present_found, insert_new, insert_full}
use Rattle.semantics.specs.Structure.{FuncApp, Pair, max_pairs, max_func_apps, compare_func_app, canonical_func_app, result_of}
use Rattle.semantics.specs.Applying.{Equated, equate, Applied, applied, applied_equal, apply_at, insert_func_app_or_equate}
use Rattle.equalities.specs.View.{equate_in}
use Rattle.equalities.proofs.Queue.{equate_room, equate_length}
use Rattle.applying.specs.View.{where_room, apply_in}

module _ (x : FuncApp) (ls : List ℕ) (ps : List Pair) (apps : List FuncApp) where
  -- where there is room it is as the definition says
  pub room_same : (insert_func_app_or_equate x ls ps apps).full ≡ false → apply_in x ls ps apps ≡ insert_func_app_or_equate x ls ps apps
  unfolding apply_in where_room
  room_same h = sym (unchosen _ h)

  -- and so is whether there is none
  pub room_full : (apply_in x ls ps apps).full ≡ (insert_func_app_or_equate x ls ps apps).full
  unfolding apply_in where_room
  room_full = go (insert_func_app_or_equate x ls ps apps).full refl
    where
      go : (b : Bool) → (insert_func_app_or_equate x ls ps apps).full ≡ b → (apply_in x ls ps apps).full ≡ (insert_func_app_or_equate x ls ps apps).full
      go true e = ap (λ (a : Applied). a.full) (sym (chosen {s = applied ls ps apps false true} _ e)) ∙ sym e
      go false e = ap (λ (a : Applied). a.full) (room_same e)

  -- there are as many links afterwards
  pub apply_length : length (insert_func_app_or_equate x ls ps apps).links ≡ length ls
  unfolding insert_func_app_or_equate apply_at applied_equal
  apply_length = go (canonical_func_app ls x) (lookup_of compare_func_app (canonical_func_app ls x) apps)
    where
      either : (P : Applied → Type 0) (b : Bool) (v w : Applied) → P v → P w → P (elim b [ true ↦ v | false ↦ w ])
      either P true v w p q = p
      either P false v w p q = q

      go : (z : FuncApp) (o : Option FuncApp) → length (apply_at o z ls ps apps).links ≡ length ls
      go z none = refl
      go z (some y) =
          either (λ (a : Applied). length a.links ≡ length ls) (eqb y.result z.result) _ _ refl
          (equate_length ls ps y.result z.result)

-- no application with its key is stored
app_absent : (z : FuncApp) (apps : List FuncApp) → none ≡ result_of (lookup_of compare_func_app z apps) → present compare_func_app z apps ≡ false
unfolding is_some
app_absent z apps h = present_found compare_func_app z apps ∙ go (lookup_of compare_func_app z apps) h
  where
    go : (o : Option FuncApp) → none ≡ result_of o → is_some o ≡ false
    go none q = refl
    go (some y) q = let r : ◌≡◌ {A = ℕ} 0 1 = cc in absurd (omega arith)

-- An application as roots, z, meets the entry with its key: there is none, or one with this result, or one with another.
module _ (x z : FuncApp) (ls : List ℕ) (ps : List Pair) (apps : List FuncApp) (is : z ≡ canonical_func_app ls x) where
  meets : apply_at (lookup_of compare_func_app z apps) z ls ps apps ≡ insert_func_app_or_equate x ls ps apps
  unfolding insert_func_app_or_equate
  meets = ap (λ (w : FuncApp). apply_at (lookup_of compare_func_app w apps) w ls ps apps) is

  room : {a : Applied} → a ≡ insert_func_app_or_equate x ls ps apps → where_room a ls ps apps ≡ apply_in x ls ps apps
  unfolding apply_in
  room e = ap (λ (a : Applied). where_room a ls ps apps) e

  -- it is stored, where there is room
  abbrev stored : Applied
  stored = applied ls ps (placed compare_func_app z apps) true (leb max_func_apps (length apps))

  pub app_new : {g : Insertion FuncApp} → none ≡ result_of (lookup_of compare_func_app z apps) → g ≡ insert_of compare_func_app z max_func_apps apps
      → applied ls ps g.items g.grew g.full ≡ apply_in x ls ps apps
  unfolding apply_at where_room
  app_new {g} h e = by (leb max_func_apps (length apps)) refl ∙ room (go (lookup_of compare_func_app z apps) h ∙ meets)
    where
      go : (o : Option FuncApp) → none ≡ result_of o → stored ≡ apply_at o z ls ps apps
      go none q = refl
      go (some y) q = let r : ◌≡◌ {A = ℕ} 0 1 = cc in absurd (omega arith)

      absent : present compare_func_app z apps ≡ false
      absent = app_absent z apps h

      by : (b : Bool) → leb max_func_apps (length apps) ≡ b
          → applied ls ps g.items g.grew g.full ≡ where_room stored ls ps apps
      by true k =
          let made = e ∙ insert_full compare_func_app z max_func_apps apps absent (leb-true _ _ k) in
          (λ i. applied ls ps (made i).items (made i).grew (made i).full) ∙ chosen stored k
      by false k =
          let made = e ∙ insert_new compare_func_app z max_func_apps apps absent (leb-false _ _ k) in
          (λ i. applied ls ps (made i).items (made i).grew ((ap (λ (w : Insertion FuncApp). w.full) made ∙ sym k) i))
          ∙ unchosen _ k

  module _ (e : ℕ) (h : some e ≡ result_of (lookup_of compare_func_app z apps)) where
    -- nothing changes
    pub app_same : e ≡ z.result → applied ls ps apps false false ≡ apply_in x ls ps apps
    unfolding apply_at where_room
    app_same q = room (go (lookup_of compare_func_app z apps) h ∙ meets)
      where
        go : (o : Option FuncApp) → some e ≡ result_of o → applied ls ps apps false false ≡ apply_at o z ls ps apps
        go none k = let r : ◌≡◌ {A = ℕ} 0 1 = cc in absurd (omega arith)
        go (some y) k = let r : y.result ≡ z.result = cc in sym (rw (eq-eqb y.result z.result r, apply_at))

    module _ (n : e ≡ z.result → ⊥) where
      app_other : applied_equal (equate ls ps e z.result) ps apps ≡ insert_func_app_or_equate x ls ps apps
      unfolding apply_at
      app_other = go (lookup_of compare_func_app z apps) h ∙ meets
        where
          go : (o : Option FuncApp) → some e ≡ result_of o → applied_equal (equate ls ps e z.result) ps apps ≡ apply_at o z ls ps apps
          go none k = let r : ◌≡◌ {A = ℕ} 0 1 = cc in absurd (omega arith)
          go (some y) k =
              let r : e ≡ y.result = cc in
              ap (λ (a : ℕ). applied_equal (equate ls ps a z.result) ps apps) r
              ∙ sym (rw (ne_eqb y.result z.result (λ q. n (r ∙ q)), apply_at))

      -- no room for the pair
      pub app_full : leb max_pairs (length ps) ≡ true
          → applied ls ps apps false true ≡ apply_in x ls ps apps
      unfolding where_room applied_equal
      app_full k = chosen _ k ∙ room app_other

      pub app_equal : {w : Equated} → leb max_pairs (length ps) ≡ false → w ≡ equate_in ls ps e z.result
          → applied w.links w.pairs apps w.differ false ≡ apply_in x ls ps apps
      unfolding where_room applied_equal
      app_equal {w} k q =
          let made : w ≡ equate ls ps e z.result = q ∙ equate_room ls ps e z.result (leb-false _ _ k) in
          (λ i. applied (made i).links (made i).pairs apps (made i).differ (sym k i))
          ∙ unchosen _ k ∙ room app_other
