-- Laws of the rows of a file: a row says the entry that it is of, and a row that may stand in a file is that of the entry that it says.
use mathlib.Core.Path.{◌≡◌, refl, sym, ap, ap₂, subst, ◌∙◌}
use mathlib.Core.Bool.{Bool, true, ◌&&◌}
use mathlib.Core.List.{List, [], ◌∷◌, ◌++◌, append-nil}
use Prim.Native.Nat.{ℕ, zero, suc, ◌≤◌, ◌<◌}
use native.Mathlib.Omega.{arith}
use lib.ListN.{length, drop, get_or, length-append, drop_of_length-le}
use lib.Seq.{drop-cons}
use lib.Dec.{eqb}
use borrow.Author.Tests.{leb-true, eqb-true}
use Rattle.ids.specs.Limits.{max_list}
use Rattle.ids.specs.Ids.{padded}
use Rattle.ids.proofs.Sorted.{all_join}
use Rattle.semantics.specs.Structure.{Fact, fact, FuncApp, func_app, PredApp, pred_app, Pair, Var, Ambient}
use Rattle.semantics.specs.Sheet.{all_zero}
use Rattle.semantics.specs.Valid.{Below}
use Rattle.semantics.proofs.Cases.{and_first, and_second}
use Rattle.file.specs.Rows.{places, list_at, is_counted, is_clear, fact_columns, func_app_columns, pred_app_columns, imposition_columns, pair_columns}
use Rattle.file.specs.Rows.{fact_row, fact_in, func_app_row, func_app_in, pred_app_row, pred_app_in, imposition_row, imposition_in, var_row, var_in}
use Rattle.file.specs.Rows.{ambient_row, ambient_in, pair_row, pair_in}

-- The places of a list.

-- the list that stands at j is l, with a count and unused places as they must be
abbrev pub Lists : ℕ → List ℕ → List ℕ → Type 0
Lists j row l = (list_at j row ≡ l) × (is_counted j row ≡ true) × (is_clear j row ≡ true)

-- a list that has room stands at its places
pub places_list : (l rest : List ℕ) → length l ≤ max_list → Lists 0 (places l ++ rest) l
unfolding places padded all_zero
places_list [] rest h = (refl, refl, refl)
places_list (a ∷ []) rest h = (refl, refl, refl)
places_list (a ∷ b ∷ []) rest h = (refl, refl, refl)
places_list (a ∷ b ∷ c ∷ []) rest h = (refl, refl, refl)
places_list (a ∷ b ∷ c ∷ d ∷ []) rest h = (refl, refl, refl)
places_list (a ∷ b ∷ c ∷ d ∷ e ∷ l) rest h = absurd (omega arith)

-- the same at the end of a row
pub places_last : (l : List ℕ) → length l ≤ max_list → Lists 0 (places l) l
places_last l h = subst (λ (r : List ℕ). Lists 0 r l) (append-nil (places l)) (places_list l [] h)

-- what holds of any five numbers holds of the places of a list
pub past_places : (P : List ℕ → Type 0) (l : List ℕ) → ((a b c d n : ℕ) → P (a ∷ b ∷ c ∷ d ∷ n ∷ [])) → P (places l)
unfolding places padded
past_places P [] f = f 0 0 0 0 0
past_places P (a ∷ []) f = f a 0 0 0 1
past_places P (a ∷ b ∷ []) f = f a b 0 0 2
past_places P (a ∷ b ∷ c ∷ []) f = f a b c 0 3
past_places P (a ∷ b ∷ c ∷ d ∷ l) f = f a b c d (length (a ∷ b ∷ c ∷ d ∷ l))

zeros : (l : List ℕ) → all_zero l ≡ true → l ≡ padded 0 (length l) []
unfolding all_zero padded
zeros [] h = refl
zeros (x ∷ l) h = ap₂ ◌∷◌ (eqb-true x 0 (and_first (eqb x 0) (all_zero l) h)) (zeros l (and_second (eqb x 0) (all_zero l) h))

-- places that are counted and clear are those of the list that they say
pub list_places : (a b c d n : ℕ) (rest : List ℕ) → is_counted 0 (a ∷ b ∷ c ∷ d ∷ n ∷ rest) ≡ true → is_clear 0 (a ∷ b ∷ c ∷ d ∷ n ∷ rest) ≡ true
    → places (list_at 0 (a ∷ b ∷ c ∷ d ∷ n ∷ rest)) ≡ a ∷ b ∷ c ∷ d ∷ n ∷ []
unfolding places padded
list_places a b c d zero rest h k = ap (λ (l : List ℕ). l ++ (0 ∷ [])) (sym (zeros (a ∷ b ∷ c ∷ d ∷ []) k))
list_places a b c d (suc zero) rest h k = ap (λ (l : List ℕ). a ∷ l ++ (1 ∷ [])) (sym (zeros (b ∷ c ∷ d ∷ []) k))
list_places a b c d (suc (suc zero)) rest h k = ap (λ (l : List ℕ). a ∷ b ∷ l ++ (2 ∷ [])) (sym (zeros (c ∷ d ∷ []) k))
list_places a b c d (suc (suc (suc zero))) rest h k = ap (λ (l : List ℕ). a ∷ b ∷ c ∷ l ++ (3 ∷ [])) (sym (zeros (d ∷ []) k))
list_places a b c d (suc (suc (suc (suc zero)))) rest h k = refl
list_places a b c d (suc (suc (suc (suc (suc n))))) rest h k = absurd (omega (arith, leb-true (suc (suc (suc (suc (suc n))))) max_list h))

pub places_length : (l : List ℕ) → length (places l) ≡ 5
places_length l = past_places (λ r. length r ≡ 5) l (λ a b c d n. refl)

pub places_below : (l : List ℕ) → length l ≤ max_list → Below 256 l → Below 256 (places l)
unfolding places padded
places_below l h b = all_join (λ e. e < 256) (padded 0 max_list l) (length l ∷ []) (go max_list l b) (omega arith, tt)
  where
    go : (n : ℕ) (l : List ℕ) → Below 256 l → Below 256 (padded 0 n l)
    go zero l b = tt
    go (suc n) [] b = (omega arith, go n [] b)
    go (suc n) (x ∷ l) b = (b.0, go n l b.1)

-- What holds of a row that goes on after the places of a list, and of one that is long enough to have them.

-- the same list stands behind a number and the places of another list
behind_six : (x : ℕ) (k row l : List ℕ) → Lists 0 row l → Lists 6 (x ∷ (places k ++ row)) l
behind_six x k row l h = past_places (λ r. Lists 6 (x ∷ (r ++ row)) l) k (λ a b c d n. h)

-- a number behind the places of two lists
behind_eleven : (x y : ℕ) (k l : List ℕ) → get_or (x ∷ (places k ++ (places l ++ (y ∷ [])))) 11 0 ≡ y
behind_eleven x y k l =
    past_places (λ r. get_or (x ∷ (r ++ (places l ++ (y ∷ [])))) 11 0 ≡ y) k (λ a b c d n.
    past_places (λ r. get_or (r ++ (y ∷ [])) 5 0 ≡ y) l (λ a b c d n. refl))

-- a row of at least five numbers begins with places and a count
with_places : (P : List ℕ → Type 0) → ((a b c d n : ℕ) (rest : List ℕ) → P (a ∷ b ∷ c ∷ d ∷ n ∷ rest)) → (row : List ℕ) → 5 ≤ length row → P row
with_places P f [] h = absurd (omega arith)
with_places P f (a ∷ []) h = absurd (omega arith)
with_places P f (a ∷ b ∷ []) h = absurd (omega arith)
with_places P f (a ∷ b ∷ c ∷ []) h = absurd (omega arith)
with_places P f (a ∷ b ∷ c ∷ d ∷ []) h = absurd (omega arith)
with_places P f (a ∷ b ∷ c ∷ d ∷ n ∷ rest) h = f a b c d n rest

-- such a row is the places of the list that it says, and the rest
row_first : (row : List ℕ) → 5 ≤ length row → is_counted 0 row ≡ true → is_clear 0 row ≡ true → places (list_at 0 row) ++ drop 5 row ≡ row
row_first =
    with_places (λ l. is_counted 0 l ≡ true → is_clear 0 l ≡ true → places (list_at 0 l) ++ drop 5 l ≡ l)
    (λ a b c d n rest k z. ap (λ (l : List ℕ). l ++ rest) (list_places a b c d n rest k z))

pub row_places : (row : List ℕ) → length row ≡ 5 → is_counted 0 row ≡ true → is_clear 0 row ≡ true → places (list_at 0 row) ≡ row
row_places row h k z =
    sym (append-nil (places (list_at 0 row)))
    ∙ ap (λ (l : List ℕ). places (list_at 0 row) ++ l) (sym (drop_of_length-le row {i = 5} (omega arith)))
    ∙ row_first row (omega arith) k z

-- a row with two lists
two_lists : (row : List ℕ) → 10 ≤ length row → is_counted 0 row ≡ true → is_clear 0 row ≡ true → is_counted 5 row ≡ true → is_clear 5 row ≡ true
    → places (list_at 0 row) ++ (places (list_at 5 row) ++ drop 10 row) ≡ row
two_lists row h =
    with_places (λ l. 10 ≤ length l → is_counted 0 l ≡ true → is_clear 0 l ≡ true → is_counted 5 l ≡ true → is_clear 5 l ≡ true
    → places (list_at 0 l) ++ (places (list_at 5 l) ++ drop 10 l) ≡ l)
    (λ a b c d n rest h k z m y i. list_places a b c d n rest k z i ++ row_first rest (omega arith) m y i) row (omega arith) h

-- two tests that hold
pub two_tests : {a b : Bool} → a ≡ true → b ≡ true → (a && b) ≡ true
two_tests h k = rw (h, k)

-- Facts.

fact_lists : (f : Fact) → length f.parents ≤ max_list → Lists 1 (fact_row f) f.parents
unfolding fact_row
fact_lists f h = places_last f.parents h

pub fact_in_row : (f : Fact) → length f.parents ≤ max_list → fact_in f.el (fact_row f) ≡ f
unfolding fact_in fact_row
fact_in_row f h = λ i. fact f.el f.typ ((fact_lists f h).0 i)

pub fact_row_in : (e : ℕ) (r : List ℕ) → length r ≡ fact_columns → is_counted 1 r ≡ true → is_clear 1 r ≡ true → fact_row (fact_in e r) ≡ r
unfolding fact_in fact_row
fact_row_in e [] h k z = absurd (omega arith)
fact_row_in e (t ∷ r) h k z = ap (λ (l : List ℕ). t ∷ l) (row_places r (omega arith) k z)

pub fact_row_length : (f : Fact) → length (fact_row f) ≡ fact_columns
unfolding fact_row
fact_row_length f = ap suc (places_length f.parents)

pub fact_row_counted : (f : Fact) → length f.parents ≤ max_list → is_counted 1 (fact_row f) ≡ true
fact_row_counted f h = (fact_lists f h).1

pub fact_row_clear : (f : Fact) → length f.parents ≤ max_list → is_clear 1 (fact_row f) ≡ true
fact_row_clear f h = (fact_lists f h).2

pub fact_row_below : (f : Fact) → length f.parents ≤ max_list → f.typ < 256 → Below 256 f.parents → Below 256 (fact_row f)
unfolding fact_row
fact_row_below f h t b = (t, places_below f.parents h b)

-- Impositions: a fact behind its element.

pub imposition_in_row : (f : Fact) → length f.parents ≤ max_list → imposition_in (imposition_row f) ≡ f
unfolding imposition_in imposition_row fact_row
imposition_in_row f h = λ i. fact f.el f.typ ((fact_lists f h).0 i)

pub imposition_row_in : (r : List ℕ) → length r ≡ imposition_columns → is_counted 2 r ≡ true → is_clear 2 r ≡ true → imposition_row (imposition_in r) ≡ r
unfolding imposition_in imposition_row fact_row
imposition_row_in [] h k z = absurd (omega arith)
imposition_row_in (e ∷ []) h k z = absurd (omega arith)
imposition_row_in (e ∷ t ∷ r) h k z = ap (λ (l : List ℕ). e ∷ t ∷ l) (row_places r (omega arith) k z)

pub imposition_row_length : (f : Fact) → length (imposition_row f) ≡ imposition_columns
unfolding imposition_row
imposition_row_length f = ap suc (fact_row_length f)

pub imposition_row_counted : (f : Fact) → length f.parents ≤ max_list → is_counted 2 (imposition_row f) ≡ true
unfolding imposition_row fact_row
imposition_row_counted f h = fact_row_counted f h

pub imposition_row_clear : (f : Fact) → length f.parents ≤ max_list → is_clear 2 (imposition_row f) ≡ true
unfolding imposition_row fact_row
imposition_row_clear f h = fact_row_clear f h

pub imposition_row_below : (f : Fact) → length f.parents ≤ max_list → f.el < 256 → f.typ < 256 → Below 256 f.parents → Below 256 (imposition_row f)
unfolding imposition_row
imposition_row_below f h e t b = (e, fact_row_below f h t b)

-- Function applications.

module _ (x : FuncApp) (h : length x.parents ≤ max_list) (k : length x.args ≤ max_list) where
  func_app_parents : Lists 1 (func_app_row x) x.parents
  unfolding func_app_row
  func_app_parents = places_list x.parents (places x.args ++ (x.result ∷ [])) h

  func_app_args : Lists 6 (func_app_row x) x.args
  unfolding func_app_row
  func_app_args = behind_six x.func x.parents (places x.args ++ (x.result ∷ [])) x.args (places_list x.args (x.result ∷ []) k)

  pub func_app_in_row : func_app_in (func_app_row x) ≡ x
  unfolding func_app_in func_app_row
  func_app_in_row = λ i. func_app x.func (func_app_parents.0 i) (func_app_args.0 i) (behind_eleven x.func x.result x.parents x.args i)

  pub func_app_row_counted : (is_counted 1 (func_app_row x) && is_counted 6 (func_app_row x)) ≡ true
  func_app_row_counted = two_tests func_app_parents.1 func_app_args.1

  pub func_app_row_clear : (is_clear 1 (func_app_row x) && is_clear 6 (func_app_row x)) ≡ true
  func_app_row_clear = two_tests func_app_parents.2 func_app_args.2

  pub func_app_row_below : x.func < 256 → Below 256 x.parents → Below 256 x.args → x.result < 256 → Below 256 (func_app_row x)
  unfolding func_app_row
  func_app_row_below f b c r = (
    f,
    all_join (λ e. e < 256) (places x.parents) (places x.args ++ (x.result ∷ [])) (places_below x.parents h b)
        (all_join (λ e. e < 256) (places x.args) (x.result ∷ []) (places_below x.args k c) (r, tt)),
  )

pub func_app_row_length : (x : FuncApp) → length (func_app_row x) ≡ func_app_columns
unfolding func_app_row
func_app_row_length x =
    let a = places_length x.parents in
    let b = places_length x.args in
    omega (arith, length-append (places x.parents) (places x.args ++ (x.result ∷ [])), length-append (places x.args) (x.result ∷ []))

pub func_app_row_in : (r : List ℕ) → length r ≡ func_app_columns → (is_counted 1 r && is_counted 6 r) ≡ true → (is_clear 1 r && is_clear 6 r) ≡ true
    → func_app_row (func_app_in r) ≡ r
unfolding func_app_in func_app_row
func_app_row_in [] h k z = absurd (omega arith)
func_app_row_in (f ∷ r) h k z =
    let last : drop 10 r ≡ get_or r 10 0 ∷ [] =
    drop-cons r 10 0 (omega arith) ∙ ap (λ (l : List ℕ). get_or r 10 0 ∷ l) (drop_of_length-le r {i = 11} (omega arith)) in
    ap (λ (l : List ℕ). f ∷ (places (list_at 0 r) ++ (places (list_at 5 r) ++ l))) (sym last)
    ∙ ap (λ (l : List ℕ). f ∷ l)
    (two_lists r (omega arith) (and_first (is_counted 0 r) (is_counted 5 r) k) (and_first (is_clear 0 r) (is_clear 5 r) z)
    (and_second (is_counted 0 r) (is_counted 5 r) k) (and_second (is_clear 0 r) (is_clear 5 r) z))

-- Predicate applications.

module _ (x : PredApp) (h : length x.parents ≤ max_list) (k : length x.args ≤ max_list) where
  pred_app_parents : Lists 1 (pred_app_row x) x.parents
  unfolding pred_app_row
  pred_app_parents = places_list x.parents (places x.args) h

  pred_app_args : Lists 6 (pred_app_row x) x.args
  unfolding pred_app_row
  pred_app_args = behind_six x.pred x.parents (places x.args) x.args (places_last x.args k)

  pub pred_app_in_row : pred_app_in (pred_app_row x) ≡ x
  unfolding pred_app_in pred_app_row
  pred_app_in_row = λ i. pred_app x.pred (pred_app_parents.0 i) (pred_app_args.0 i)

  pub pred_app_row_counted : (is_counted 1 (pred_app_row x) && is_counted 6 (pred_app_row x)) ≡ true
  pred_app_row_counted = two_tests pred_app_parents.1 pred_app_args.1

  pub pred_app_row_clear : (is_clear 1 (pred_app_row x) && is_clear 6 (pred_app_row x)) ≡ true
  pred_app_row_clear = two_tests pred_app_parents.2 pred_app_args.2

  pub pred_app_row_below : x.pred < 256 → Below 256 x.parents → Below 256 x.args → Below 256 (pred_app_row x)
  unfolding pred_app_row
  pred_app_row_below p b c = (p, all_join (λ e. e < 256) (places x.parents) (places x.args) (places_below x.parents h b) (places_below x.args k c))

pub pred_app_row_length : (x : PredApp) → length (pred_app_row x) ≡ pred_app_columns
unfolding pred_app_row
pred_app_row_length x =
    let a = places_length x.parents in
    let b = places_length x.args in
    omega (arith, length-append (places x.parents) (places x.args))

pub pred_app_row_in : (r : List ℕ) → length r ≡ pred_app_columns → (is_counted 1 r && is_counted 6 r) ≡ true → (is_clear 1 r && is_clear 6 r) ≡ true
    → pred_app_row (pred_app_in r) ≡ r
unfolding pred_app_in pred_app_row
pred_app_row_in [] h k z = absurd (omega arith)
pred_app_row_in (p ∷ r) h k z =
    ap (λ (l : List ℕ). p ∷ (places (list_at 0 r) ++ l)) (sym (ap (λ (l : List ℕ). places (list_at 5 r) ++ l) (drop_of_length-le r {i = 10} (omega arith)) ∙ append-nil (places (list_at 5 r))))
    ∙ ap (λ (l : List ℕ). p ∷ l)
    (two_lists r (omega arith) (and_first (is_counted 0 r) (is_counted 5 r) k) (and_first (is_clear 0 r) (is_clear 5 r) z)
    (and_second (is_counted 0 r) (is_counted 5 r) k) (and_second (is_clear 0 r) (is_clear 5 r) z))

-- Variables, ambients and pairs: two numbers.

-- a row of two
two_numbers : (r : List ℕ) → length r ≡ pair_columns → get_or r 0 0 ∷ get_or r 1 0 ∷ [] ≡ r
two_numbers [] h = absurd (omega arith)
two_numbers (a ∷ []) h = absurd (omega arith)
two_numbers (a ∷ b ∷ []) h = refl
two_numbers (a ∷ b ∷ c ∷ r) h = absurd (omega arith)

pub var_in_row : (v : Var) → var_in (var_row v) ≡ v
unfolding var_in var_row
var_in_row v = refl

pub var_row_in : (r : List ℕ) → length r ≡ pair_columns → var_row (var_in r) ≡ r
unfolding var_in var_row
var_row_in r h = two_numbers r h

pub var_row_length : (v : Var) → length (var_row v) ≡ pair_columns
unfolding var_row
var_row_length v = refl

pub var_row_below : (v : Var) → v.key < 256 → v.el < 256 → Below 256 (var_row v)
unfolding var_row
var_row_below v h k = (h, (k, tt))

pub ambient_in_row : (a : Ambient) → ambient_in (ambient_row a) ≡ a
unfolding ambient_in ambient_row
ambient_in_row a = refl

pub ambient_row_in : (r : List ℕ) → length r ≡ pair_columns → ambient_row (ambient_in r) ≡ r
unfolding ambient_in ambient_row
ambient_row_in r h = two_numbers r h

pub ambient_row_length : (a : Ambient) → length (ambient_row a) ≡ pair_columns
unfolding ambient_row
ambient_row_length a = refl

pub ambient_row_below : (a : Ambient) → a.typ < 256 → a.el < 256 → Below 256 (ambient_row a)
unfolding ambient_row
ambient_row_below a h k = (h, (k, tt))

pub pair_in_row : (p : Pair) → pair_in (pair_row p) ≡ p
unfolding pair_in pair_row
pair_in_row p = refl

pub pair_row_in : (r : List ℕ) → length r ≡ pair_columns → pair_row (pair_in r) ≡ r
unfolding pair_in pair_row
pair_row_in r h = two_numbers r h

pub pair_row_length : (p : Pair) → length (pair_row p) ≡ pair_columns
unfolding pair_row
pair_row_length p = refl

pub pair_row_below : (p : Pair) → p.lhs < 256 → p.rhs < 256 → Below 256 (pair_row p)
unfolding pair_row
pair_row_below p h k = (h, (k, tt))
