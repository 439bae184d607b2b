-- At the return of an accepted close or settle, with no element marked up to then, the stored applications are the root images of those in the smallest
-- closed set.
use mathlib.Core.Path.{◌≡◌}
use mathlib.Core.Bool.{false}
use mathlib.Core.List.Memᴰ
use mathlib.Core.List.{List, [], ◌∷◌, ◌++◌, Memᴰ}
use Rattle.ids.proofs.Sorted.{all_at}
use Rattle.semantics.specs.Structure.{FuncApp, Structure, canonical_func_app}
use Rattle.semantics.specs.Types.{any_marked}
use Rattle.semantics.specs.Close.{Closed, core_at_start}
use Rattle.semantics.specs.Calls.{Call}
use Rattle.semantics.proofs.Canonical.{Canon}
use Rattle.history.specs.Book.{Book, history, Derived, AppliesNeither, RanCloses}
use Rattle.history.proofs.Classes.{ImageOf, derived_if, only_derived, stored_image}
use Rattle.history.proofs.Histories.{returned}

-- what the book has is in every closed set
pub given_derived : (b : Book) (x : FuncApp) → Memᴰ x b.apps → Derived b x
unfolding Derived
given_derived b x m R S q c = c.given x m

pub record Mirrored (b : Book) (s : Structure) : Type 1 where
  -- each stored application is in the smallest closed set
  pub derived : (x : FuncApp) → Memᴰ x s.func_apps → Derived b x
  -- and of each there the root image is stored
  pub stored : (x : FuncApp) → Derived b x → Memᴰ (canonical_func_app s.links x) s.func_apps
  -- where no application of the book is one of id or comp, each stored one is the root image of one in the book
  pub image : AppliesNeither b → (x : FuncApp) → Memᴰ x s.func_apps → ImageOf s.links b.apps x

pub mirrored : (before : List Call) (k : Call) (cs : List Closed) → RanCloses (history before).machine k cs
    → any_marked (history (before ++ (k ∷ []))).book.marks ≡ false
    → Mirrored (history (before ++ (k ∷ []))).book (history (before ++ (k ∷ []))).machine.structure
unfolding core_at_start
mirrored before k cs ran unmarked =
    let h = history (before ++ (k ∷ [])) in
    let s = h.machine.structure in
    let w = core_at_start s in
    let r = returned before k cs ran unmarked in
    let z = r.closed_to in
    record {
      derived = λ x m.
          derived_if h.book w s.func_apps r.named r.tied x (Memᴰ.cast (all_at (Canon s.links) s.func_apps z.canon x m) m);
      stored = only_derived h.book w s.func_apps r.named r.tied z.pairs z.sorted z.canon z.held;
      image = stored_image h.book w s.func_apps r.named r.tied z.pairs z.sorted z.canon z.held;
    }
