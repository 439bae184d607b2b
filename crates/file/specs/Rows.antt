-- The rows of the tables in a file (docs/FILE.md): what each entry puts into its columns, and the entry that a row says.
use Rattle.std.specs.Prelude.{ℕ, ◌+◌, Bool, List, [], ◌∷◌, ◌++◌, length, take, drop, get_or, leb, eqb}
use Rattle.ids.specs.Limits.{max_list}
use Rattle.ids.specs.Ids.{padded}
use Rattle.semantics.specs.Structure.{Fact, fact, FuncApp, func_app, PredApp, pred_app, Pair, pair, Var, variable, Ambient, ambient}
use Rattle.semantics.specs.Sheet.{all_zero}

-- Lists: "parents by position", in four places, and then how many there are. "Unused places are zero."

unfoldable pub places : List ℕ → List ℕ
places l = padded 0 max_list l ++ (length l ∷ [])

-- the places that begin at j, the count after them, and the list that both say
abbrev pub places_at : ℕ → List ℕ → List ℕ
places_at j row = take max_list (drop j row)

abbrev pub count_at : ℕ → List ℕ → ℕ
count_at j row = get_or row (j + max_list) 0

abbrev pub list_at : ℕ → List ℕ → List ℕ
list_at j row = take (count_at j row) (places_at j row)

-- the count is at most that of the places
abbrev pub is_counted : ℕ → List ℕ → Bool
is_counted j row = leb (count_at j row) max_list

-- the places past the count are zero
abbrev pub is_clear : ℕ → List ℕ → Bool
is_clear j row = all_zero (drop (count_at j row) (places_at j row))

-- How many columns of bytes each table has.

abbrev pub fact_columns : ℕ
fact_columns = 6

abbrev pub func_app_columns : ℕ
func_app_columns = 12

abbrev pub pred_app_columns : ℕ
pred_app_columns = 11

abbrev pub imposition_columns : ℕ
imposition_columns = 7

-- variables, ambients and pairs
abbrev pub pair_columns : ℕ
pair_columns = 2

-- Facts: "fact types, then fact parents by position"; the element is told by the chains.

unfoldable pub fact_row : Fact → List ℕ
fact_row f = f.typ ∷ places f.parents

unfoldable pub fact_in : ℕ → List ℕ → Fact
fact_in e row = fact e (get_or row 0 0) (list_at 1 row)

-- Function applications: functions, parents, arguments, results.

unfoldable pub func_app_row : FuncApp → List ℕ
func_app_row x = x.func ∷ (places x.parents ++ (places x.args ++ (x.result ∷ [])))

unfoldable pub func_app_in : List ℕ → FuncApp
func_app_in row = func_app (get_or row 0 0) (list_at 1 row) (list_at 6 row) (get_or row 11 0)

-- Predicate applications: predicates, parents, arguments.

unfoldable pub pred_app_row : PredApp → List ℕ
pred_app_row x = x.pred ∷ (places x.parents ++ places x.args)

unfoldable pub pred_app_in : List ℕ → PredApp
pred_app_in row = pred_app (get_or row 0 0) (list_at 1 row) (list_at 6 row)

-- Impositions: elements, types, parents.

unfoldable pub imposition_row : Fact → List ℕ
imposition_row f = f.el ∷ fact_row f

unfoldable pub imposition_in : List ℕ → Fact
imposition_in row = fact (get_or row 0 0) (get_or row 1 0) (list_at 2 row)

-- Variables: keys, elements. Ambients: types, elements. Pairs: left, right.

unfoldable pub var_row : Var → List ℕ
var_row v = v.key ∷ v.el ∷ []

unfoldable pub var_in : List ℕ → Var
var_in row = variable (get_or row 0 0) (get_or row 1 0)

unfoldable pub ambient_row : Ambient → List ℕ
ambient_row a = a.typ ∷ a.el ∷ []

unfoldable pub ambient_in : List ℕ → Ambient
ambient_in row = ambient (get_or row 0 0) (get_or row 1 0)

unfoldable pub pair_row : Pair → List ℕ
pair_row p = p.lhs ∷ p.rhs ∷ []

unfoldable pub pair_in : List ℕ → Pair
pair_in row = pair (get_or row 0 0) (get_or row 1 0)

-- A byte for yes or no: 1 or 0.

abbrev pub is_bit : ℕ → Bool
is_bit n = leb n 1

abbrev pub bit_in : ℕ → Bool
bit_in n = eqb n 1
