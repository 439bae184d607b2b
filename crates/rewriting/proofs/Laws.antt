-- Laws of the loops that rewrite: of entries seen otherwise, of applications that are entered in place, and of slots.
use mathlib.Core.Path.{◌≡◌, refl, sym, ap, ◌∙◌}
use mathlib.Core.Bool.{Bool, true, false}
use mathlib.Core.List.{List, [], ◌∷◌, ◌++◌, map, map-append, reverse, reverse-append}
use mathlib.Core.Option.{Option, none, some}
use Prim.Native.Nat.{ℕ, suc, ◌+◌, ◌≤◌, ◌<◌}
use native.Mathlib.Numerals.{add-one}
use native.Mathlib.Omega.{arith}
use lib.ListN.{length, take, drop, get_or, set, length-set}
use lib.Seq.{take-suc, take-suc-set, take_all}
use lib.Dec.{ltb}
use borrow.Author.Tests.{lt-ltb, eq-eqb, ne_eqb}
use Rattle.ids.specs.declared.Place.TheVariants.{Before, At}
use Rattle.ids.specs.Table.{placed, lookup_of, position_from}
use Rattle.ids.proofs.Sorted.{Sorted, placed_sorted}
use Rattle.ids.proofs.Tables.{before_none}
use Rattle.ids.proofs.Views.{view_cons, view_nil, view_pushed}
use Rattle.rows.specs.Table.{RowPlaced, Inserted}
use Rattle.rows.proofs.InPlace.{get_d_rest, drop_later}
use Rattle.rows.proofs.Positions.{row_found}
use Rattle.rows.proofs.Shifting.{inserted_before}
use Rattle.semantics.specs.Structure.{FuncApp, pair, max_pairs, compare_func_app, canonical_func_app}
use Rattle.semantics.specs.Close as closing
use Rattle.semantics.specs.Close.{rewriting, enter_at, enter, enter_all}
use Rattle.semantics.proofs.Orders.{func_app_ordered}
use Rattle.bindings.specs.declared.Slot.{Slot}
use Rattle.bindings.specs.View.{slots_from}
use Rattle.bindings.proofs.Slots.{slot_given, slot_empty}
use Rattle.merging.specs.View.{pairs_in}
use Rattle.equalities.specs.declared.Pair.{Pair}
use Rattle.equalities.specs.View.{pair_of}
use Rattle.apps.specs.declared.FuncApp as code
use Rattle.semantics.specs.Structure as model
use Rattle.rewriting.specs.View.{none_rewritten}
use Rattle.apps.specs.View.{func_app_of}
use Rattle.rows.specs.View.{func_apps_in}

-- An application as roots, z, meets the entry with its key: there is none, or one with this result, or one with another.
module _ (z : FuncApp) (t : closing.Rewritten) where
  enter_new : lookup_of compare_func_app z t.apps ≡ none → enter z t ≡ rewriting (placed compare_func_app z t.apps) t.pairs t.queued
  unfolding enter enter_at
  enter_new h = ap (λ (o : Option FuncApp). enter_at o z t) h

  module _ (y : FuncApp) (h : lookup_of compare_func_app z t.apps ≡ some y) where
    enter_same : y.result ≡ z.result → enter z t ≡ t
    unfolding enter enter_at
    enter_same e = ap (λ (o : Option FuncApp). enter_at o z t) h ∙ rw (eq-eqb y.result z.result e, enter_at)

    enter_other : (y.result ≡ z.result → ⊥) → enter z t ≡ rewriting t.apps (pair y.result z.result ∷ t.pairs) true
    unfolding enter enter_at
    enter_other e = ap (λ (o : Option FuncApp). enter_at o z t) h ∙ rw (ne_eqb y.result z.result e, enter_at)

-- what the first k rows store and the first q queue
abbrev pub entered : ℕ → List code.FuncApp → ℕ → List Pair → closing.Rewritten
entered k apps q pairs = rewriting (func_apps_in k apps) (pairs_in q pairs) (ltb 0 q)

-- the first i of n applications are entered, in place
pub record Entering (ls : List ℕ) (n : ℕ) (start apps : List code.FuncApp) (pairs : List Pair) (k q i : ℕ) : Type 0 where
  pub is : enter_all ls (drop i (func_apps_in n start)) (entered k apps q pairs) ≡ enter_all ls (func_apps_in n start) none_rewritten
  pub few : k + q ≤ i
  pub sorted : Sorted compare_func_app (func_apps_in k apps)
  pub rest : drop i apps ≡ drop i start
  pub apps_long : length apps ≡ length start
  pub pairs_long : length pairs ≡ max_pairs

pub entering_none : (ls : List ℕ) (n : ℕ) (start : List code.FuncApp) (pairs : List Pair) → length pairs ≡ max_pairs → Entering ls n start start pairs 0 0 0
entering_none ls n start pairs h = record { is = refl; few = omega arith; sorted = tt; rest = refl; apps_long = refl; pairs_long = h }

module _ {ls : List ℕ} {n : ℕ} {start apps : List code.FuncApp} {pairs : List Pair} {k q i : ℕ} (so_far : Entering ls n start apps pairs k q i) (there : n ≤ length start) where
  -- the application i, as roots, is z
  module _ (d : code.FuncApp) (h : i < n) (z : FuncApp) (z-is : z ≡ canonical_func_app ls (func_app_of (get_or apps i d))) where
    on : {next : closing.Rewritten} → enter z (entered k apps q pairs) ≡ next
        → enter_all ls (drop (i + 1) (func_apps_in n start)) next ≡ enter_all ls (func_apps_in n start) none_rewritten
    unfolding enter_all
    on e =
        ap (enter_all ls (drop (i + 1) (func_apps_in n start)))
        (sym e ∙ ap (λ (w : FuncApp). enter w (entered k apps q pairs))
        (z-is ∙ ap (λ (r : code.FuncApp). canonical_func_app ls (func_app_of r)) (get_d_rest apps start i d so_far.rest)))
        ∙ ap (λ (l : List FuncApp). enter_all ls l (entered k apps q pairs)) (sym (view_cons func_app_of n start i d h (omega arith)))
        ∙ so_far.is

    later : drop (i + 1) apps ≡ drop (i + 1) start
    later = drop_later apps start i (i + 1) (omega arith) so_far.rest

    -- its key is new
    pub entering_placed : (at : ℕ) {row : code.FuncApp} {after : List code.FuncApp} → position_from compare_func_app z 0 (func_apps_in k apps) ≡ Before at
        → func_app_of row ≡ z → RowPlaced k at row apps after → Entering ls n start after pairs (k + 1) q (i + 1)
    entering_placed at {row} {after} e row_is p =
        let put : Inserted compare_func_app func_app_of z k apps after (k + 1) =
        inserted_before compare_func_app func_app_of z k apps (omega (arith, so_far.few, so_far.apps_long)) (sym e) refl row_is p in
        record {
          is = on (enter_new z (entered k apps q pairs) (before_none compare_func_app z z at (func_apps_in k apps) e)
              ∙ ap (λ (l : List FuncApp). rewriting l (pairs_in q pairs) (ltb 0 q)) (sym put.is));
          few = omega (arith, so_far.few);
          sorted = rw put.is (placed_sorted func_app_ordered z (func_apps_in k apps) so_far.sorted);
          rest = drop_later after apps (k + 1) (i + 1) (omega (arith, so_far.few)) put.rest ∙ later;
          apps_long = put.long ∙ so_far.apps_long;
          pairs_long = so_far.pairs_long;
        }

    -- y has it
    module _ (at : ℕ) (y : FuncApp) (e : position_from compare_func_app z 0 (func_apps_in k apps) ≡ At at) (y-is : y ≡ func_app_of (get_or apps at d)) where
      met : lookup_of compare_func_app z (func_apps_in k apps) ≡ some y
      met = row_found compare_func_app func_app_of z k apps d e y-is

      pub entering_same : y.result ≡ z.result → Entering ls n start apps pairs k q (i + 1)
      entering_same same = record {
        is = on (enter_same z (entered k apps q pairs) y met same);
        few = omega (arith, so_far.few);
        sorted = so_far.sorted;
        rest = later;
        apps_long = so_far.apps_long;
        pairs_long = so_far.pairs_long;
      }

      pub entering_other : (y.result ≡ z.result → ⊥) → q < max_pairs
          → (row : Pair) → pair_of row ≡ pair y.result z.result → Entering ls n start apps (set pairs q row) k (q + 1) (i + 1)
      entering_other differ room row says =
          let queued : pairs_in (q + 1) (set pairs q row) ≡ pair y.result z.result ∷ pairs_in q pairs =
          ap reverse (view_pushed pair_of q pairs row (omega (arith, so_far.pairs_long))) ∙ reverse-append (map pair_of (take q pairs)) (pair_of row ∷ [])
          ∙ ap (λ (p : model.Pair). p ∷ pairs_in q pairs) says in
          record {
            is = on (enter_other z (entered k apps q pairs) y met differ
                ∙ (λ j. rewriting (func_apps_in k apps) (sym queued j) (sym (lt-ltb 0 (q + 1) (omega arith)) j)));
            few = omega (arith, so_far.few);
            sorted = so_far.sorted;
            rest = later;
            apps_long = so_far.apps_long;
            pairs_long = length-set pairs q row ∙ so_far.pairs_long;
          }

  -- all are
  pub entering_all : n ≤ i → entered k apps q pairs ≡ enter_all ls (func_apps_in n start) none_rewritten
  unfolding enter_all
  entering_all h = ap (λ (l : List FuncApp). enter_all ls l (entered k apps q pairs)) (sym (view_nil func_app_of n start i h)) ∙ so_far.is

-- a slot with its element by h
abbrev pub slot_by : (ℕ → ℕ) → Slot → Slot
slot_by h s = record { given = s.given; el = record { 0 = h s.el.0 } }

-- Slots with their elements by h: the entries are those of the slots, each by g.
module _ {E : Type 0} (mk : ℕ → ℕ → E) (g : E → E) (h : ℕ → ℕ) (by : (k e : ℕ) → mk k (h e) ≡ g (mk k e)) where
  slots_by : (k : ℕ) (ss : List Slot) → slots_from mk k (map (slot_by h) ss) ≡ map g (slots_from mk k ss)
  unfolding slots_from
  slots_by k [] = refl
  slots_by k (s ∷ ss) = go s.given refl (slots_by (suc k) ss)
    where
      go : (b : Bool) → s.given ≡ b → slots_from mk (suc k) (map (slot_by h) ss) ≡ map g (slots_from mk (suc k) ss)
          → slots_from mk k (map (slot_by h) (s ∷ ss)) ≡ map g (slots_from mk k (s ∷ ss))
      go true e next =
          slot_given mk k (slot_by h s) (map (slot_by h) ss) e ∙ (λ i. by k s.el.0 i ∷ next i) ∙ sym (ap (map g) (slot_given mk k s ss e))
      go false e next = slot_empty mk k (slot_by h s) (map (slot_by h) ss) e ∙ next ∙ sym (ap (map g) (slot_empty mk k s ss e))

  -- slots ys that were filled from others, xs, up to the end
  pub slots_all : (xs ys : List Slot) (i : ℕ) → length xs ≤ i → length ys ≤ i → take i ys ≡ map (slot_by h) (take i xs)
      → slots_from mk 0 ys ≡ map g (slots_from mk 0 xs)
  slots_all xs ys i hx hy e =
      ap (slots_from mk 0) (sym (take_all i ys hy) ∙ e ∙ ap (map (slot_by h)) (take_all i xs hx)) ∙ slots_by 0 xs

-- an array ys that is filled from another, xs, entry by entry: one more
pub filled_next : {A : Type 0} (h : A → A) (xs ys : List A) (i : ℕ) (d v : A) → take i ys ≡ map h (take i xs) → i < length xs → i < length ys
    → v ≡ h (get_or xs i d) → take (i + 1) (set ys i v) ≡ map h (take (i + 1) xs)
filled_next h xs ys i d v e hx hy is =
    rw (add-one, take-suc-set ys i v hy, take-suc xs i d hx)
    ((λ k. e k ++ is k ∷ []) ∙ sym (map-append h (take i xs) (get_or xs i d ∷ [])))
