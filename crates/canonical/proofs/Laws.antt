-- Laws of entries as roots: what the finds ensure.
use mathlib.Core.Path.{◌≡◌}
use mathlib.Core.List.{List, map}
use Prim.Native.Nat.{ℕ}
use Rattle.unification.specs.Roots.{root_of, FindM, find_of}
use Rattle.semantics.specs.Structure.{Fact, fact, FuncApp, func_app, canonical_fact, canonical_func_app}

pub fact_roots : (ls : List ℕ) (f : Fact) {r : FindM} {ps : List ℕ} → r ≡ find_of ls f.el → ps ≡ map (root_of ls) f.parents
    → fact r.root f.typ ps ≡ canonical_fact ls f
unfolding canonical_fact find_of
fact_roots ls f p q = λ i. fact (p i).root f.typ (q i)

pub app_roots : (ls : List ℕ) (x : FuncApp) {r : FindM} {ps es : List ℕ} → ps ≡ map (root_of ls) x.parents → es ≡ map (root_of ls) x.args
    → r ≡ find_of ls x.result → func_app x.func ps es r.root ≡ canonical_func_app ls x
unfolding canonical_func_app find_of
app_roots ls x p q r = λ i. func_app x.func (p i) (q i) (r i).root
