-- What is judged of the whole of a structure: how many entries it has, and which of its facts stand on roots.
use mathlib.Core.Path.{◌≡◌, refl, ap, ◌∙◌}
use mathlib.Core.Bool.{Bool, true, false, not, ◌&&◌, ◌||◌}
use mathlib.Core.List.{List, [], ◌∷◌}
use Prim.Native.Nat.{ℕ, ◌+◌}
use native.Mathlib.Omega.{arith}
use lib.ListN.{length}
use Rattle.std.specs.List.{list_all}
use Rattle.semantics.specs.Structure.{Structure}
use Rattle.file.specs.Layout.{sum}
use Rattle.file.specs.File.{counts, head_of, any, fact_off_root}
use Rattle.validating.specs.View.{on_root}

-- the counts, as the code adds them
pub all_entries : (s : Structure) {els facts func_apps pred_apps impositions vars ambients pairs : ℕ} → els ≡ length s.links → facts ≡ length s.facts
    → func_apps ≡ length s.func_apps → pred_apps ≡ length s.pred_apps → impositions ≡ length s.impositions → vars ≡ length s.vars
    → ambients ≡ length s.ambients → pairs ≡ length s.pairs
    → els + facts + func_apps + pred_apps + (vars + ambients) + (impositions + pairs) ≡ sum (counts (head_of s))
unfolding sum counts head_of
all_entries s a b c d e f g h = omega arith

-- each entry passes a test exactly where none fails it
module _ {A : Type 0} (p : A → Bool) where
  every_any : (l : List A) → list_all p l ≡ not (any (λ (x : A). not (p x)) l)
  unfolding any
  every_any [] = refl
  every_any (x ∷ l) = ap (λ (b : Bool). p x && b) (every_any l) ∙ go (p x) (any (λ (y : A). not (p y)) l)
    where
      go : (a b : Bool) → (a && not b) ≡ not (not a || b)
      go true b = refl
      go false b = refl

pub on_roots : (s : Structure) → list_all (on_root s.links) s.facts ≡ not (fact_off_root s)
unfolding fact_off_root
on_roots s = every_any (on_root s.links) s.facts

-- the tests as the code joins them
pub five_tests : {a b c d e v w x y z : Bool} → v ≡ a → w ≡ b → x ≡ c → y ≡ d → z ≡ e
    → ((((v && w) && x) && y) && z) ≡ (a && (b && (c && (d && e))))
five_tests {a} {b} {c} {d} {e} p q r s t = (λ i. (((p i && q i) && r i) && s i) && t i) ∙ go a b c d e
  where
    go : (a b c d e : Bool) → ((((a && b) && c) && d) && e) ≡ (a && (b && (c && (d && e))))
    go true true true true e = refl
    go true true true false e = refl
    go true true false d e = refl
    go true false c d e = refl
    go false b c d e = refl
