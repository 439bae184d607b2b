-- `is_same` meets its contract.
use Prim.Native.Nat.{ℕ}
use mathlib.Core.Path.{◌≡◌, refl, sym, ap, ◌∙◌}
use mathlib.Core.Bool.{Bool, true, false, ◌&&◌}
use mathlib.Core.Logic.{inl, inr}
use mathlib.Core.List.{List, [], ◌∷◌}
use native.Mathlib.Omega.{arith}
use lib.ListN.{length}
use lib.Dec.{eqb}
use Rattle.std.proofs.Common.{rules}
use Rattle.std.specs.Str.{bytes_eq}
use Rattle.loading.proofs.is_same.Goals as goal

and_then : (a b d : Bool) → ((a && b) && d) ≡ (a && (b && d))
and_then true b d = refl
and_then false b d = refl

and_all : (a : Bool) → a ≡ (a && true)
and_all true = refl
and_all false = refl

none_left : (xs ys : List ℕ) → length xs ≡ length ys → length xs ≡ 0 → bytes_eq xs ys ≡ true
none_left [] [] h e = refl
none_left [] (y ∷ ys) h e = absurd (omega (arith, h))
none_left (x ∷ xs) ys h e = absurd (omega (arith, e))

-- the two sides before the first turn
pub loop-x-init : goal.loop-x-init
loop-x-init c =
    let a_is : c.into_iter-x-iterator.result.a.rest.now ≡ c.args.file.now = search (rules) in
    let b_is : c.into_iter-x-iterator.result.b.rest.now ≡ c.args.bytes.now = search (rules) in (
      ap length a_is ∙ c.if-file-bytes.false ∙ sym (ap length b_is),
      ap (λ (l : List ℕ). bytes_eq l c.into_iter-x-iterator.result.b.rest.now) a_is ∙ ap (bytes_eq c.args.file.now) b_is,
    )

pub loop-x-preserved : goal.loop-x-preserved
loop-x-preserved c =
    let l = c.loop-x in
    let steps = c.in-Some.ensures.steps in (
      omega (arith, l.invariant.0, ap length steps.0, ap length steps.1),
      and_then l.alike (eqb c.in-Some.x.now c.in-Some.y.now) (bytes_eq c.next.new.self.a.rest.now c.next.new.self.b.rest.now)
          ∙ sym (ap (λ (t : List ℕ). l.alike && bytes_eq t l.x-iterator.b.rest.now) steps.0 ∙ ap (λ (t : List ℕ). l.alike && bytes_eq (c.in-Some.x.now ∷ c.next.new.self.a.rest.now) t) steps.1)
          ∙ l.invariant.1,
    )

pub returns : goal.returns
returns c =
    let l = c.loop-x in
    let steps = c.in-None.ensures.steps in
    let none : length l.x-iterator.a.rest.now ≡ 0 = elim steps [ inl s ↦ s.1.0 | inr s ↦ l.invariant.0 ∙ s.1.0 ] in
    and_all l.alike ∙ sym (ap (λ (t : Bool). l.alike && t) (none_left l.x-iterator.a.rest.now l.x-iterator.b.rest.now l.invariant.0 none)) ∙ l.invariant.1
