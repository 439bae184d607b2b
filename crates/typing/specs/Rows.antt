-- What the applications demand, one after the other; it serves the proofs, and `typing` itself is stated over `demands`.
use Rattle.std.specs.Prelude.{ℕ, ◌≡◌, List, [], ◌∷◌, ◌++◌, get_or}
use Rattle.ids.specs.Ids.{els_of, types_of}
use Rattle.signature.specs.declared.Types.{Types}
use Rattle.signature.specs.Model.{Sig, FuncM, PredM, no_func, no_pred, view_types}
use Rattle.semantics.specs.Structure.{Fact, FuncApp, PredApp}
use Rattle.semantics.specs.Types.{impose_all}
use Rattle.semantics.specs.Close.{demanded_args}
use Rattle.merging.specs.View.{Lent, Passes}
use Rattle.typing.specs.declared.Demand.{Demand}
use Rattle.typing.specs.Bounds.{one_demand}

-- the types that elements are to have, with the parents that are given
pub record DemandM : Type 0 where
  pub expected : List ℕ
  pub parents : List ℕ
  pub els : List ℕ

abbrev pub demand : List ℕ → List ℕ → List ℕ → DemandM
demand ts ps xs = record { expected = ts; parents = ps; els = xs }

abbrev pub demand_of : Demand → DemandM
demand_of r = demand (types_of r.expected) (els_of r.parents) (els_of r.els)

-- what an application demands, by the functions or predicates that are declared

abbrev pub of_func_args : List FuncM → FuncApp → DemandM
of_func_args fs x = demand (get_or fs x.func no_func).domain x.parents x.args

abbrev pub of_pred_args : List PredM → PredApp → DemandM
of_pred_args ps x = demand (get_or ps x.pred no_pred).arity x.parents x.args

abbrev pub of_func_result : List FuncM → FuncApp → DemandM
of_func_result fs x = demand ((get_or fs x.func no_func).codomain ∷ []) x.parents (x.result ∷ [])

-- the facts that some applications demand, each of which is asked so
abbrev pub all_asked : Sig → {A : Type 0} → (A → DemandM) → List A → List Fact
all_asked g ask [] = []
all_asked g ask (x ∷ xs) = demanded_args g (ask x).expected (ask x).parents (ask x).els ++ all_asked g ask xs

-- a demand is imposed, by every signature with these types
abbrev pub DemandImposed : Types → Demand → Lent → Lent → Type 0
DemandImposed types d before after =
    (g : Sig) → g.types ≡ view_types types
    → Passes before after one_demand (impose_all (demanded_args g (types_of d.expected) (els_of d.parents) (els_of d.els)))
