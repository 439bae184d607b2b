-- The find that takes its table lent, `unification::root(&mut Unification, ElId)`: it asks nothing, and learns `shortened_of` of the links at entry and at
-- exit, of the table that it was lent. Its clauses are named as they stand, and then by the function's own name.
use mathlib.Core.Path.{◌≡◌, refl}
use seplogic.Ra.Ura.{Ura}
use base.Logic.{SProp}
use prog.Memory.{Memory}
use prog.Routine.{Routine}
use types.Logic.{Logic}
use contract.Lifetimes.{Lfts}
use contract.Monad.{Fun, fact}
use contract.Notation.{connectives}
use denote.Ref.{MutBor}
use denote.Triple.Clauses.{AtExit}
use Rattle.ids.specs.declared.ElId.{ElId}
use Rattle.unification.specs.declared.Unification.{Unification}
use Rattle.unification.specs.declared.Find.{Find}
use Rattle.unification.specs.Roots.{links_of, found, shortened_of}
use Rattle.unification.specs.contracts.root as lent-root
use Rattle.unification.proofs.root.Reads as lent-root-fn

module _ {M : Type 1} {𝓤 : Ura M} (𝓛 : Logic 𝓤) (at_mem : Memory → SProp 𝓤) (run : Routine → Fun 𝓤) (κs : Lfts 1)
    (lent : MutBor Unification) (e : ElId) where
  pub lent_root_asked : (lent-root.clauses 𝓛 at_mem run κs (lent, (e, tt))).requires tt ≡ (connectives 𝓤).⊤ₛ
  lent_root_asked = refl

  pub lent_root_learnt : (r : Find) (exit : AtExit lent-root.ended κs)
      → (lent-root.clauses 𝓛 at_mem run κs (lent, (e, tt))).ensures tt r exit
      ≡ fact 𝓤 (record { find = found r; links = links_of exit.0.now } ≡ shortened_of (links_of lent.now) e.0)
  lent_root_learnt r exit = refl

module _ (κs : Lfts 1) (lent : MutBor Unification) (e : ElId) where
  pub lent_root_named_asked : lent-root-fn.Asked κs (lent, (e, tt))
  lent_root_named_asked = tt

  pub lent_root_named_learnt : (r : Find) (after : MutBor Unification) → lent-root-fn.Learnt κs (lent, (e, tt)) r (after, (e, tt))
      ≡ (record { find = found r; links = links_of after.now } ≡ shortened_of (links_of lent.now) e.0)
  lent_root_named_learnt r after = refl
