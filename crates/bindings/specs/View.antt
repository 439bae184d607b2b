-- The tables of variables and of ambient elements as the definitions speak of them.
use Rattle.std.specs.Prelude.{ℕ, suc, true, false, List, [], ◌∷◌, ltb}
use Rattle.std.proofs.Math.Option.{Option, none, some}
use Rattle.ids.specs.declared.Ordering.{Ordering}
use Rattle.ids.specs.Table.{placed}
use Rattle.semantics.specs.Structure as model
use Rattle.semantics.specs.Structure.{variable, ambient}
use Rattle.bindings.specs.declared.Slot.{Slot}
use Rattle.bindings.specs.declared.VarEl.{VarEl}
use Rattle.bindings.specs.declared.VarEls.{VarEls}
use Rattle.bindings.specs.declared.AmbientEl.{AmbientEl}
use Rattle.bindings.specs.declared.AmbientEls.{AmbientEls}
use Rattle.bindings.specs.declared.Bound.{Bound}
use Rattle.bindings.specs.declared.Bound.TheVariants.{El, Nothing}

-- the entries of slots, the first of which is that of the key k
unfoldable pub slots_from : {E : Type 0} → (ℕ → ℕ → E) → ℕ → List Slot → List E
slots_from mk k [] = []
slots_from mk k (s ∷ ss) = elim s.given [ true ↦ mk k s.el.0 ∷ slots_from mk (suc k) ss | false ↦ slots_from mk (suc k) ss ]

abbrev pub var_of : VarEl → model.Var
var_of v = variable v.key v.el.0

abbrev pub ambient_of : AmbientEl → model.Ambient
ambient_of a = ambient a.typ.0 a.el.0

abbrev pub vars_of : VarEls → List model.Var
vars_of t = slots_from variable 0 t.slots

abbrev pub ambients_of : AmbientEls → List model.Ambient
ambients_of t = slots_from ambient 0 t.slots

-- an entry whose key is below the limit is put into the table, where there is none of that key
unfoldable pub bound_of : {E : Type 0} → (E → E → Ordering) → ℕ → ℕ → E → List E → List E
bound_of cmp limit key x l = elim (ltb key limit) [ true ↦ placed cmp x l | false ↦ l ]

-- the entry that is found, as its element
abbrev pub el_of : Bound → Option ℕ
el_of (El e) = some e.0
el_of Nothing = none

abbrev pub ambient_el_of : Option model.Ambient → Option ℕ
ambient_el_of none = none
ambient_el_of (some a) = some a.el
