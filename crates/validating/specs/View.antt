-- What is judged of a structure that a file says, as the code judges it.
use Rattle.std.specs.Prelude.{ℕ, Bool, not, ◌&&◌, ◌||◌, List, length, eqb, ltb}
use Rattle.ids.specs.Ids.{too_long}
use Rattle.unification.specs.Roots.{root_of}
use Rattle.signature.specs.Model.{Sig, TypeM}
use Rattle.signature.specs.Calls.{is_type, is_model}
use Rattle.semantics.specs.Structure.{Fact, FuncApp, PredApp, Pair, Var, Ambient, Structure, max_vars}
use Rattle.semantics.specs.Calls.{has_its_parents, is_reserved, is_misapplied}
use Rattle.inserting.specs.View.{fact_within, app_within, pred_app_within}
use Rattle.file.specs.Layout.{sum}
use Rattle.file.specs.File.{counts, head_of, entry_refused, link_rises, fact_off_root, other_order}

-- the call of an entry would accept it, where there are so many elements

abbrev pub fact_allowed : List TypeM → ℕ → Fact → Bool
fact_allowed ts els f = not (too_long f.parents) && (fact_within els (length ts) f && has_its_parents ts f)

abbrev pub func_app_allowed : Sig → ℕ → FuncApp → Bool
func_app_allowed g els x =
    not (too_long x.parents || too_long x.args)
    && (app_within els (length g.funcs) x && (not (is_reserved g x.func) && not (is_misapplied x g.models)))

abbrev pub pred_app_allowed : ℕ → ℕ → PredApp → Bool
pred_app_allowed els preds x = not (too_long x.parents || too_long x.args) && pred_app_within els preds x

abbrev pub var_within : ℕ → Var → Bool
var_within els v = ltb v.key max_vars && ltb v.el els

abbrev pub ambient_allowed : Sig → ℕ → Ambient → Bool
ambient_allowed g els a = is_type g a.typ && (ltb a.el els && is_model g a.typ)

abbrev pub pair_within : ℕ → Pair → Bool
pair_within els p = ltb p.lhs els && ltb p.rhs els

-- the fact stands at a root
abbrev pub on_root : List ℕ → Fact → Bool
on_root ls f = eqb (root_of ls f.el) f.el

-- a structure that has no entry, or whose flag for number 4 is set
unfoldable pub is_flagged : Structure → Bool
is_flagged s = s.started || (eqb (sum (counts (head_of s))) 0 && not s.settled)

-- what the code judges: the rest is told by storing the structure again
unfoldable pub is_storable : Sig → Structure → Bool
is_storable g s =
    not (entry_refused g s) && (not (link_rises 0 s.links) && (not (fact_off_root s) && (not (other_order s) && is_flagged s)))
