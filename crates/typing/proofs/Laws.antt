-- Laws that the typing passes cite: of the facts that remain to be imposed, the elements of a demand, the applications of a table, and the
-- three passes one after the other.
use mathlib.Core.Path.{◌≡◌, refl, sym, ap, subst, ◌∙◌}
use mathlib.Core.List.{List, [], ◌∷◌, ◌++◌, map, append-nil}
use Prim.Native.Nat.{ℕ, ◌+◌, ◌*◌, ◌≤◌, ◌<◌}
use native.Mathlib.Numerals.{add-one}
use native.Mathlib.Nat.{add-mul, mul-le-mul_right}
use native.Mathlib.Omega.{arith}
use lib.ListN.{length, take, drop, get_or, drop_of_length-le}
use lib.Seq.{take-take, take_all, drop-cons}
use Rattle.ids.specs.declared.ElId.{ElId}
use Rattle.ids.specs.declared.TypeId.{TypeId}
use Rattle.ids.specs.declared.ElIds.{ElIds}
use Rattle.ids.specs.declared.TypeIds.{TypeIds}
use Rattle.ids.specs.Ids.{el_of, type_of, els_of, types_of}
use Rattle.ids.proofs.Views.{length_view, map_take, view_next, view_done}
use Rattle.signature.specs.declared.Typed.{Typed}
use Rattle.signature.specs.declared.Typed.TheVariants.{At, Absent}
use Rattle.signature.specs.Model.{Sig, TypeM, sig, func_at}
use Rattle.signature.specs.Calls.{TypedM, typed_of, concrete_type_at}
use Rattle.semantics.specs.Structure.{Fact, fact, max_func_apps, max_pred_apps}
use Rattle.semantics.specs.Types as types
use Rattle.semantics.specs.Types.{impose, impose_all}
use Rattle.semantics.specs.Close.{demanded, demanded_at, demanded_args, func_args, pred_args, func_results, demands}
use Rattle.semantics.proofs.Imposed.{impose_all_none, impose_all_append}
use Rattle.merging.specs.View.{Lent, core_of, frame, work_of, LentHeld, RoomToCount, Toward, Passes}
use Rattle.merging.proofs.Laws.{stays, follows, turn, idle_turn, does}
use Rattle.typing.specs.Bounds.{one_demand, all_demands}
use Rattle.typing.specs.Rows.{DemandM, demand_of, of_func_args, of_pred_args, of_func_result, all_asked}
use Rattle.typing.specs.declared.Demand.{Demand}
use Rattle.apps.specs.declared.FuncApp as code
use Rattle.apps.specs.declared.PredApp as pred
use Rattle.apps.specs.View.{func_app_of, pred_app_of}

-- a list whose length is cut, or is not
pub cut : (l : ElIds) (n : ℕ) → n ≤ l.len → map el_of (take n l.ids) ≡ take n (els_of l)
cut l n h = ap (map el_of) (sym (take-take n l.len l.ids h)) ∙ map_take el_of n (take l.len l.ids)

pub uncut : (l : ElIds) (n : ℕ) → l.len ≤ n → els_of l ≡ take n (els_of l)
uncut l n h = sym (take_all n (els_of l) (omega (arith, length_view el_of l.len l.ids)))

-- The facts that remain in a loop of which a turn counts at most `per`.
module _ {before now : Lent} (per i : ℕ) {whole : types.Core → types.Core} {rest : List Fact}
    (so_far : Toward before now (i * per) (impose_all rest) whole) where
  -- the first of them are imposed
  pub imposes : {after : Lent} (here next : List Fact) → rest ≡ here ++ next → Passes now after per (impose_all here)
      → Toward before after ((i + 1) * per) (impose_all next) whole
  imposes here next e p =
      turn per i so_far p (λ w. sym (impose_all_append here next w) ∙ ap (λ (l : List Fact). impose_all l w) (sym e))

  -- the first is imposed
  pub imposes_one : {after : Lent} (f : Fact) (next : List Fact) → rest ≡ (f ∷ []) ++ next → Passes now after per (impose f)
      → Toward before after ((i + 1) * per) (impose_all next) whole
  unfolding impose_all
  imposes_one f next e p = imposes (f ∷ []) next e p

  -- there are none in this turn
  pub imposes_none : (next : List Fact) → rest ≡ next → Toward before now ((i + 1) * per) (impose_all next) whole
  imposes_none next e = idle_turn per i so_far (λ w. ap (λ (l : List Fact). impose_all l w) (sym e))

  -- none remain
  pub imposed_all : {n : ℕ} → rest ≡ [] → i ≤ n → Passes before now (n * per) whole
  imposed_all e h = stays so_far (mul-le-mul_right per h) (λ w. sym (impose_all_none w) ∙ ap (λ (l : List Fact). impose_all l w) (sym e))

-- Elements against the types that are expected.
module _ (g : Sig) (ts : TypeIds) (ps : List ℕ) (xs : ElIds) where
  abbrev pub args_from : ℕ → List Fact
  args_from i = demanded_args g (drop i (types_of ts)) ps (drop i (els_of xs))

  -- the types end
  pub types_end : (i : ℕ) → length (types_of ts) ≤ i → args_from i ≡ []
  unfolding demanded_args
  types_end i h = ap (λ (l : List ℕ). demanded_args g l ps (drop i (els_of xs))) (view_done type_of ts.len ts.ids i h)

  -- the elements end
  no_args : (l : List ℕ) → demanded_args g l ps [] ≡ []
  unfolding demanded_args
  no_args [] = refl
  no_args (t ∷ l) = refl

  pub els_end : (i : ℕ) → length (els_of xs) ≤ i → args_from i ≡ []
  els_end i h = ap (demanded_args g (drop i (types_of ts)) ps) (view_done el_of xs.len xs.ids i h) ∙ no_args (drop i (types_of ts))

  -- Both go on, and the type is looked up, with as many parents given as there are.
  module _ (i : ℕ) (t : TypeId) (x : ElId) (ht : i < length (types_of ts)) (hx : i < length (els_of xs)) {given : ℕ} {typed : Typed}
      (looked : typed_of typed ≡ concrete_type_at g.types (type_of (get_or ts.ids i t)) given) (is : given ≡ length ps) where
    next_arg : {v : Typed} → typed ≡ v → args_from i ≡ demanded (typed_of v) ps (el_of (get_or xs.ids i x)) ++ args_from (i + 1)
    unfolding demanded_args demanded_at
    next_arg found =
        (λ k. demanded_args g (view_next type_of ts.len ts.ids i t ht k) ps (view_next el_of xs.len xs.ids i x hx k))
        ∙ ap (λ (k : TypedM). demanded k ps (el_of (get_or xs.ids i x)) ++ args_from (i + 1))
        (ap (concrete_type_at g.types (type_of (get_or ts.ids i t))) (sym is) ∙ sym looked ∙ ap typed_of found)

    -- it is absent
    pub type_absent : typed ≡ Absent → args_from i ≡ args_from (i + 1)
    unfolding demanded
    type_absent none = next_arg none

    -- it demands a fact with the leading parents
    pub type_at : {count : ℕ} {typ : TypeId} {qs : List ℕ} → typed ≡ At typ count → qs ≡ take count ps
        → args_from i ≡ (fact (el_of (get_or xs.ids i x)) typ.0 qs ∷ []) ++ args_from (i + 1)
    unfolding demanded
    type_at {typ = typ} found leading = next_arg found ∙ ap (λ (l : List ℕ). fact (el_of (get_or xs.ids i x)) typ.0 l ∷ args_from (i + 1)) (sym leading)

-- What is asked by a demand: of the signature the types alone are read.

abbrev pub asked : Sig → DemandM → List Fact
asked g d = demanded_args g d.expected d.parents d.els

abbrev pub only_types : List TypeM → Sig
only_types ts = sig ts [] [] [] []

by_types : (g : Sig) {ms : List TypeM} → g.types ≡ ms → (ts ps xs : List ℕ) → demanded_args g ts ps xs ≡ demanded_args (only_types ms) ts ps xs
unfolding demanded_args demanded_at
by_types g e [] ps xs = refl
by_types g e (t ∷ ts) ps [] = refl
by_types g e (t ∷ ts) ps (x ∷ xs) = λ k. demanded (concrete_type_at (e k) t (length ps)) ps x ++ by_types g e ts ps xs k

pub asked_by_types : (g : Sig) {ms : List TypeM} → g.types ≡ ms → (d : DemandM) {before now : Lent} {most : ℕ}
    → Passes before now most (impose_all (asked (only_types ms) d)) → Passes before now most (impose_all (asked g d))
asked_by_types g e d {before} {now} {most} =
    subst (λ (l : List Fact). Passes before now most (impose_all l)) (sym (by_types g e d.expected d.parents d.els))

-- Some applications, one after the other.

-- what a pass in progress keeps, whatever it does
pub record Going (before now : Lent) (most : ℕ) : Type 0 where
  pub holds : LentHeld now
  pub kept : frame now.counts ≡ frame before.counts
  pub count_most : work_of now.counts ≤ most + work_of before.counts

module _ {before now : Lent} (per i : ℕ) (going : Going before now (i * per)) where
  -- there is room for a turn, where there was for n of them
  pub room_here : {n : ℕ} → RoomToCount (n * per) before.counts → i + 1 ≤ n → RoomToCount per now.counts
  room_here {n} r h = omega (arith, r, going.count_most, add-mul i 1 per, mul-le-mul_right per h)

  -- a turn is made
  pub goes_on : {next : Lent} {g : types.Core → types.Core} → Passes now next per g → Going before next ((i + 1) * per)
  goes_on p = record {
    holds = p.holds;
    kept = p.kept ∙ going.kept;
    count_most = omega (arith, p.count_most, going.count_most, add-mul i 1 per);
  }

module _ (g : Sig) {A : Type 0} (ask : A → DemandM) (xs : List A) {before now : Lent} (per i : ℕ) {whole : types.Core → types.Core}
    (so_far : Toward before now (i * per) (impose_all (all_asked g ask (drop i xs))) whole) where
  pub app_imposed : {after : Lent} (d : Demand) (x : A) → i < length xs → demand_of d ≡ ask (get_or xs i x)
      → Passes now after per (impose_all (asked g (demand_of d)))
      → Toward before after ((i + 1) * per) (impose_all (all_asked g ask (drop (i + 1) xs))) whole
  app_imposed d x h e p =
      let next = drop (i + 1) xs in
      imposes per i so_far (asked g (demand_of d)) (all_asked g ask next)
      (rw add-one (ap (all_asked g ask) (drop-cons xs i x h)) ∙ ap (λ (m : DemandM). asked g m ++ all_asked g ask next) (sym e)) p

  pub apps_imposed : length xs ≤ i → i ≤ length xs → Passes before now (length xs * per) whole
  apps_imposed h k = imposed_all per i so_far (ap (all_asked g ask) (drop_of_length-le xs {i = i} h)) k

-- What the three passes ask.

func_args_asked : (g : Sig) (xs : List code.FuncApp) → all_asked g (λ x. of_func_args g.funcs (func_app_of x)) xs ≡ func_args g (map func_app_of xs)
unfolding func_args
func_args_asked g [] = refl
func_args_asked g (x ∷ xs) = ap (λ (l : List Fact). asked g (of_func_args g.funcs (func_app_of x)) ++ l) (func_args_asked g xs)

pred_args_asked : (g : Sig) (xs : List pred.PredApp) → all_asked g (λ x. of_pred_args g.preds (pred_app_of x)) xs ≡ pred_args g (map pred_app_of xs)
unfolding pred_args
pred_args_asked g [] = refl
pred_args_asked g (x ∷ xs) = ap (λ (l : List Fact). asked g (of_pred_args g.preds (pred_app_of x)) ++ l) (pred_args_asked g xs)

func_results_asked : (g : Sig) (xs : List code.FuncApp) → all_asked g (λ x. of_func_result g.funcs (func_app_of x)) xs ≡ func_results g (map func_app_of xs)
unfolding func_results demanded_args
func_results_asked g [] = refl
func_results_asked g (x ∷ xs) =
    let y = func_app_of x in
    (λ i. append-nil (demanded_at g (func_at g y.func).codomain y.parents y.result) i ++ func_results_asked g xs i)

pub all_demanded : (g : Sig) (apps : List code.FuncApp) (preds : List pred.PredApp) {n m : ℕ} {start first second after : Lent}
    → n ≤ max_func_apps → m ≤ max_pred_apps
    → Passes start first (n * one_demand) (impose_all (all_asked g (λ x. of_func_args g.funcs (func_app_of x)) apps))
    → Passes first second (m * one_demand) (impose_all (all_asked g (λ x. of_pred_args g.preds (pred_app_of x)) preds))
    → Passes second after (n * one_demand) (impose_all (all_asked g (λ x. of_func_result g.funcs (func_app_of x)) apps))
    → Passes start after all_demands (impose_all (demands g (map func_app_of apps) (map pred_app_of preds)))
unfolding demands
all_demanded g apps preds {start = start} h k p q r =
    let xs = func_args g (map func_app_of apps) in
    let ys = pred_args g (map pred_app_of preds) in
    let zs = func_results g (map func_app_of apps) in
    let args = impose_all xs (core_of start) in
    does (follows (follows p q) r) (omega (arith, mul-le-mul_right one_demand h, mul-le-mul_right one_demand k))
    ((λ i. impose_all (func_results_asked g apps i) (impose_all (pred_args_asked g preds i) (impose_all (func_args_asked g apps i) (core_of start))))
    ∙ sym (impose_all_append ys zs args) ∙ sym (impose_all_append xs (ys ++ zs) (core_of start)))
