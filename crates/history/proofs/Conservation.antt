-- The conservation rule (demand 3, and 02, M-102).
use mathlib.Core.Path.{sym}
use mathlib.Core.Logic.{◌↔◌}
use mathlib.Core.List.{List, [], ◌∷◌, ◌++◌}
use Prim.Native.Nat.{ℕ, ◌<◌}
use native.Mathlib.Omega.{arith}
use Rattle.unification.specs.Roots.{root_of}
use Rattle.unification.proofs.Laws.{root_le, root_root}
use Rattle.semantics.specs.Close.{Closed, core_at_start}
use Rattle.history.specs.Book.{Book, elements, History, history, Sharing, Shared, SharedByFits, RootsByClass, Conserved, Conservation, PlainConservation}
use Rattle.history.proofs.Elements.{neither_shared}
use Rattle.history.proofs.Classes.{shared_if, only_shared, root_classes}
use Rattle.history.proofs.Histories.{Returned, returned}

-- where elements share a class by the one exactly when they do by the other
pub shared_alike : (Share Other : Sharing) (b : Book) (links : List ℕ) → ((x y : ℕ) → x < elements b → Share b x y ↔ Other b x y)
    → RootsByClass Share b links → RootsByClass Other b links
shared_alike Share Other b links same c = record {
  long = c.long;
  classes = c.classes;
  counted = record {
    lowest = c.counted.lowest;
    is = λ e h.
        let i = c.counted.is e h in (
          λ t d l s. i.0 t d l ((same d e (omega (arith, l, h))).1 s),
          λ f. i.1 (λ d l s. f d l ((same d e (omega (arith, l, h))).0 s)),
        );
    many = c.counted.many;
  };
  sum = c.sum;
  one_root = λ x y hx hy.
      let i = c.one_root x y hx hy in (λ e. (same x y hx).0 (i.0 e), λ s. i.1 ((same x y hx).1 s));
  of_class = λ x hx. let i = c.of_class x hx in (i.0, (same x (root_of links x) hx).0 i.1);
  lowest = λ x y hx hy s. c.lowest x y hx hy ((same x y hx).1 s);
}

-- where a close or settle has returned, the classes are those of the roots
returned_conserves : (h : History) (cs : List Closed) → Returned h cs → Conserved h.book h.machine.structure.links cs
unfolding core_at_start
returned_conserves h cs r =
    let b = h.book in
    let v = h.machine.structure in
    let w = core_at_start v in
    let z = r.closed_to in
    let only = only_shared b w v.func_apps r.named r.tied z.pairs z.sorted z.canon z.held in
    let shared = shared_if b w v.func_apps r.named r.tied in
    let by : RootsByClass Shared b v.links = record {
      long = r.long;
      classes = _;
      counted = root_classes b w v.func_apps r.named r.tied z.pairs z.sorted z.canon z.held;
      sum = sym r.tied.sum;
      one_root = λ x y hx hy. (shared x y hx, only x y);
      of_class = λ x hx. (omega (arith, root_le v.links x), shared x (root_of v.links x) hx (sym (root_root v.links x)));
      lowest = λ x y hx hy z. omega (arith, root_le v.links y, only x y z);
    } in
    record {
      by_class = by;
      plain = λ neither. shared_alike Shared SharedByFits b v.links (neither_shared b r.named neither) by;
      few = z.few;
    }

-- For every list of calls and every accepted close or settle in it with no element marked up to then: the elements added are the classes and all
-- merges that the accepted closes and settles so far reported; two elements have one root exactly when they share a class; the root is the
-- class's lowest number; and, where no application of id or comp was accepted, the rounds of that close, or of each close of that settle, are at most
-- its merges and two.
pub conservation : Conservation
unfolding Conservation
conservation before k cs ran unmarked = returned_conserves (history (before ++ (k ∷ []))) cs (returned before k cs ran unmarked)

-- The same with the classes and the round limit of 01, of the lists that apply neither id nor comp.
pub plain_conservation : PlainConservation
unfolding PlainConservation Conservation
plain_conservation before k cs ran unmarked neither =
    let c = conservation before k cs ran unmarked in (c.plain neither, c.few neither)
