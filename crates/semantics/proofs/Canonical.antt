-- Applications and facts that are rewritten already: the table that `functionality` makes is rewritten into itself.
use mathlib.Core.Path.{◌≡◌, refl, sym, ap, ap₂, ◌∙◌}
use mathlib.Core.Bool.{Bool, false}
use mathlib.Core.List.{List, [], ◌∷◌, ◌++◌, map, append_assoc, append-nil, Memᴰ}
use mathlib.Core.Option.{none, some-injective}
use Prim.Native.Nat.{ℕ}
use Rattle.ids.specs.declared.Ordering.TheVariants.{Less}
use Rattle.ids.specs.Table.{placed, lookup_of}
use Rattle.ids.proofs.Sorted.{All, all_of, all_map, Sorted, equal_swap, lookup_if, placed_last, all_both, all_join}
use Rattle.ids.proofs.Appending.{lookup_past}
use Rattle.unification.specs.Roots.{root_of}
use Rattle.unification.proofs.Laws.{root_root}
use Rattle.semantics.specs.Structure.{Fact, fact, FuncApp, Pair, compare_func_app, canonical_fact, canonical_func_app, func_app}
use Rattle.semantics.specs.Close.{Rewritten, enter_at, enter, enter_all, rewriting}
use Rattle.semantics.proofs.Functionality.{enter_all_all, enter_all_sorted}
use Rattle.semantics.proofs.Orders.{func_app_ordered, same_func_app, SameKey}
use Rattle.semantics.proofs.Queues.{fresh}

-- an application is its own image
abbrev pub Canon : List ℕ → FuncApp → Type 0
Canon ls x = canonical_func_app ls x ≡ x

pub map_root : (ls : List ℕ) (l : List ℕ) → map (root_of ls) (map (root_of ls) l) ≡ map (root_of ls) l
map_root ls [] = refl
map_root ls (x ∷ xs) = ap₂ ◌∷◌ (root_root ls x) (map_root ls xs)

pub canon_image : (ls : List ℕ) (x : FuncApp) → Canon ls (canonical_func_app ls x)
unfolding canonical_func_app
canon_image ls x =
    λ i. func_app x.func (map_root ls x.parents i) (map_root ls x.args i) (root_root ls x.result i)

pub canon_result : (ls : List ℕ) (x : FuncApp) → Canon ls x → root_of ls x.result ≡ x.result
unfolding canonical_func_app
canon_result ls x c = ap (λ (y : FuncApp). y.result) c

-- of the links only the roots count
pub canonical_alike : (ls ks : List ℕ) → ((e : ℕ) → root_of ks e ≡ root_of ls e) → (x : FuncApp) → canonical_func_app ks x ≡ canonical_func_app ls x
unfolding canonical_func_app
canonical_alike ls ks roots x =
    λ i. func_app x.func (map (λ e. roots e i) x.parents) (map (λ e. roots e i) x.args) (roots x.result i)

-- A fact likewise: one that is its own image is not stale.

abbrev pub CanonFact : List ℕ → Fact → Type 0
CanonFact ls f = canonical_fact ls f ≡ f

pub canon_fact : (ls : List ℕ) (f : Fact) → CanonFact ls (canonical_fact ls f)
unfolding canonical_fact
canon_fact ls f = λ i. fact (root_root ls f.el i) f.typ (map_root ls f.parents i)

pub fact_alike : (ls ks : List ℕ) → ((e : ℕ) → root_of ks e ≡ root_of ls e) → (f : Fact) → canonical_fact ks f ≡ canonical_fact ls f
unfolding canonical_fact
fact_alike ls ks roots f = λ i. fact (roots f.el i) f.typ (map (λ e. roots e i) f.parents)

-- The table.

module _ (l : List FuncApp) (sorted : Sorted compare_func_app l) where
  -- two entries with one key are one
  pub same_entry : (x y : FuncApp) → Memᴰ x l → Memᴰ y l → SameKey x y → x ≡ y
  same_entry x y mx my k =
      some-injective x y
      (sym (lookup_if func_app_ordered x x l sorted mx (func_app_ordered.self x))
      ∙ lookup_if func_app_ordered x y l sorted my (equal_swap func_app_ordered x y (same_func_app x y k)))

-- it is rewritten into itself
module _ (ls : List ℕ) (ps : List Pair) (b : Bool) where
  abbrev table : List FuncApp → Rewritten
  table l = rewriting l ps b

  enter_last : (x : FuncApp) (done : List FuncApp) → lookup_of compare_func_app x done ≡ none
      → enter x (table done) ≡ table (placed compare_func_app x done)
  unfolding enter enter_at
  enter_last x done e = rw e

  settled_from : (xs done : List FuncApp) → Sorted compare_func_app xs → All (λ x. All (λ y. compare_func_app y x ≡ Less) done) xs → All (Canon ls) xs
      → enter_all ls xs (table done) ≡ table (done ++ xs)
  unfolding enter_all
  settled_from [] done s low c = ap table (sym (append-nil done))
  settled_from (x ∷ xs) done s low c =
      ap (λ y. enter_all ls xs (enter y (table done))) c.0
      ∙ ap (enter_all ls xs) (enter_last x done (lookup_past compare_func_app x done low.0) ∙ ap table (placed_last compare_func_app x done low.0))
      ∙ settled_from xs (done ++ (x ∷ [])) s.1
      (all_map (λ z h. all_join (λ y. compare_func_app y z ≡ Less) done (x ∷ []) h.0 (h.1, tt)) xs
      (all_both (λ z. All (λ y. compare_func_app y z ≡ Less) done) (λ z. compare_func_app x z ≡ Less) xs low.1 s.0))
      c.1
      ∙ ap table (append_assoc done (x ∷ []) xs)

  canonical_same : (l : List FuncApp) → Sorted compare_func_app l → All (Canon ls) l → enter_all ls l (table []) ≡ table l
  canonical_same l s c = settled_from l [] s (all_of (λ x. tt) l) c

-- the table rewritten, as after a drain
abbrev pub entered : List ℕ → List FuncApp → Rewritten
entered ls l = enter_all ls l fresh

pub entered_same : (ls : List ℕ) (l : List FuncApp) → Sorted compare_func_app l → All (Canon ls) l → entered ls l ≡ rewriting l [] false
entered_same ls = canonical_same ls [] false

-- once is enough
pub entered_again : (ls : List ℕ) (l : List FuncApp) → entered ls (entered ls l).apps ≡ rewriting (entered ls l).apps [] false
entered_again ls l =
    entered_same ls (entered ls l).apps (enter_all_sorted ls l fresh tt)
    (enter_all_all (Canon ls) ls l fresh (all_of (λ x. canon_image ls x) l) tt)

pub enter_all_alike : (ls ks : List ℕ) → ((e : ℕ) → root_of ks e ≡ root_of ls e) → (xs : List FuncApp) (t : Rewritten) → enter_all ks xs t ≡ enter_all ls xs t
unfolding enter_all
enter_all_alike ls ks roots [] t = refl
enter_all_alike ls ks roots (x ∷ xs) t =
    ap (λ (y : FuncApp). enter_all ks xs (enter y t)) (canonical_alike ls ks roots x) ∙ enter_all_alike ls ks roots xs (enter (canonical_func_app ls x) t)
