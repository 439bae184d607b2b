-- Roots (01, "Roots"), on the list of the elements' links: entry e is the link of element e.
use Rattle.std.specs.Prelude.{◌≡◌, true, false, List, [], ◌∷◌, ◌++◌, ℕ, zero, suc, ◌+◌, ◌≤◌, length, get_or, take, set, leb, ltb}
use Rattle.ids.specs.Answers.{Answered, accepted, refused, Cause, Outcome, outcome, ◌if◌, undeclared}
use Rattle.ids.specs.Table.{push_of}
use Rattle.ids.specs.Ids.{padded, Handed}
use Rattle.unification.specs.declared.Unification.{Unification}
use Rattle.unification.specs.declared.Find.{Find}
use Rattle.unification.specs.declared.Finding.{Finding}
use Rattle.unification.specs.declared.Finding.TheVariants.{Found, Refused}
use Rattle.unification.specs.declared.Shortened.{Shortened}
use Rattle.unification.specs.declared.Rooted.{Rooted}

-- "Elements are numbered from 0 in order of adding, at most 256."
abbrev pub max_els : ℕ
max_els = 256

-- the links of the elements that are there
abbrev pub links_of : Unification → List ℕ
links_of u = take u.len u.links

-- a table that is handed back: as it is given by the length that it says, and as it is held
abbrev pub handed_links : Unification → Handed (List ℕ)
handed_links u = record { given = padded 0 u.len u.links; held = links_of u }

-- 0, 1, .., n - 1
unfoldable pub up_to : ℕ → List ℕ
up_to zero = []
up_to (suc n) = up_to n ++ (n ∷ [])

-- "one array of 256 entries filled with one number, then numbered"
abbrev pub fresh : Unification
fresh = record { links = up_to max_els; len = 0 }

-- "Each has one link": what element e links to. A number that is no element links to itself.
abbrev pub link : List ℕ → ℕ → ℕ
link ls e = get_or ls e e

-- goes along the links from e while they fall, at most n of them: `pass` at each element passed, `stop` at the end.
-- No link of a table that calls can make rises, so an element that links to itself is where the links end.
unfoldable pub follow : {A : Type 0} → List ℕ → (ℕ → A) → (ℕ → A → A) → ℕ → ℕ → A
follow ls stop pass zero e = stop e
follow ls stop pass (suc n) e = elim (ltb (link ls e) e) [ true ↦ pass e (follow ls stop pass n (link ls e)) | false ↦ stop e ]

-- "The root is the end of the links." A link that is followed falls, so that e steps are enough from e.
unfoldable pub root_of : List ℕ → ℕ → ℕ
root_of ls e = follow ls (λ r. r) (λ x r. r) e e

-- "the number of links followed, equal to the element's depth"
unfoldable pub depth_of : List ℕ → ℕ → ℕ
depth_of ls e = follow ls (λ r. 0) (λ x n. n + 1) e e

-- "`root` does alter: each element passed then links to what its former link linked to."
unfoldable pub short_of : List ℕ → ℕ → List ℕ
short_of ls e = follow ls (λ r. ls) (λ x after. set after x (link ls (link ls x))) e e

-- "A merge links the larger root to the smaller"
unfoldable pub merged_of : List ℕ → ℕ → ℕ → List ℕ
merged_of ls a b = elim (ltb a b) [ true ↦ set ls b a | false ↦ elim (ltb b a) [ true ↦ set ls a b | false ↦ ls ] ]

-- "a new one links to itself"
unfoldable pub added_of : List ℕ → List ℕ
added_of ls = push_of max_els ls (length ls)

-- "Find returns root and count"
pub record FindM : Type 0 where
  pub root : ℕ
  pub count : ℕ

unfoldable pub find_of : List ℕ → ℕ → FindM
find_of ls e = record { root = root_of ls e; count = depth_of ls e }

-- a find that shortens, and every link afterwards
pub record ShortM : Type 0 where
  pub find : FindM
  pub links : List ℕ

unfoldable pub shortened_of : List ℕ → ℕ → ShortM
shortened_of ls e = record { find = find_of ls e; links = short_of ls e }

-- "5 for an undeclared type or found element"
unfoldable pub find_causes : List ℕ → ℕ → List Cause
find_causes ls e = undeclared if leb (length ls) e ∷ []

unfoldable pub root_const : List ℕ → ℕ → Outcome FindM (List ℕ)
root_const ls e = outcome (find_causes ls e) ls (find_of ls e) ls

unfoldable pub root : List ℕ → ℕ → Outcome FindM (List ℕ)
root ls e = outcome (find_causes ls e) ls (find_of ls e) (short_of ls e)

-- The code's answers, as the definitions give them.

abbrev pub found : Find → FindM
found f = record { root = f.root.0; count = f.count }

abbrev pub found_answer : Finding → Answered FindM
found_answer (Found f) = accepted (found f)
found_answer (Refused n) = refused n

abbrev pub shortened : Shortened → ShortM
shortened r = record { find = found r.find; links = links_of r.unification }

abbrev pub rooted : Rooted → Outcome FindM (List ℕ)
rooted r = record { answer = found_answer r.find; after = links_of r.unification }

-- no link rises
pub record Formed (ls : List ℕ) : Type 0 where
  pub falls : (e : ℕ) → link ls e ≤ e

-- "the end of the links", as the Rust's loop finds it: from e it goes to r over n links, one at a time, until an element links to itself
pub data Walk (ls : List ℕ) : ℕ → ℕ → ℕ → Type 0 where
  ends : {e : ℕ} → link ls e ≡ e → Walk ls e e 0
  goes : {e r n : ℕ} → (link ls e ≡ e → ⊥) → Walk ls (link ls e) r n → Walk ls e r (suc n)
