-- A structure parked in a file (02, M-104; docs/FILE.md has the layout in words): what is stored, what is loaded, and what is refused.
use Rattle.std.specs.Prelude.{ℕ, suc, ◌*◌, Bool, true, false, not, ◌&&◌, ◌||◌, List, [], ◌∷◌, ◌++◌, map, reverse, length, drop, get_or, eqb, leb, ltb}
use Rattle.std.proofs.Math.Option.{Option, none, some}
use Rattle.ids.specs.declared.Ordering.{Ordering}
use Rattle.ids.specs.declared.Ordering.TheVariants.{Less, Equal, Greater}
use Rattle.ids.specs.Answers.{Answered, accepted, refused, Cause, first_of, decided, Outcome, outcome, ◌if◌, no_room, wrong_length, wrong_content}
use Rattle.unification.specs.Roots.{max_els, up_to, root_of}
use Rattle.signature.specs.Model.{Sig, max_types}
use Rattle.semantics.specs.Structure.{Fact, Pair, Structure, structure, max_facts, max_func_apps, max_pred_apps, max_impositions, max_vars, max_pairs}
use Rattle.semantics.specs.Structure.{compare_fact, compare_func_app, compare_pred_app, compare_var, compare_ambient}
use Rattle.semantics.specs.Calls.{Call, impose_type, apply_func, apply_pred, bind_var, bind_ambient, equate_els, Machine, machine, rule}
use Rattle.semantics.specs.Sheet.{words, bit}
use Rattle.file.specs.Layout.{byte, word_bytes, by_columns, rows_in, joined, parts_of, sum, same}
use Rattle.file.specs.Rows.{fact_columns, func_app_columns, pred_app_columns, imposition_columns, pair_columns, fact_row, fact_in, func_app_row, func_app_in}
use Rattle.file.specs.Rows.{pred_app_row, pred_app_in, imposition_row, imposition_in, var_row, var_in, ambient_row, ambient_in, pair_row, pair_in}
use Rattle.file.specs.Rows.{is_counted, is_clear, is_bit, bit_in}

-- The head: "begins with the element count in two bytes and the other counts".

pub record Head : Type 0 where
  pub els : ℕ
  pub facts : ℕ
  pub func_apps : ℕ
  pub pred_apps : ℕ
  pub impositions : ℕ
  pub vars : ℕ
  pub ambients : ℕ
  pub pairs : ℕ

-- the counts in their order, and the head that some numbers are
unfoldable pub counts : Head → List ℕ
counts h = h.els ∷ h.facts ∷ h.func_apps ∷ h.pred_apps ∷ h.impositions ∷ h.vars ∷ h.ambients ∷ h.pairs ∷ []

unfoldable pub head_from : List ℕ → Head
head_from ns = record {
  els = get_or ns 0 0;
  facts = get_or ns 1 0;
  func_apps = get_or ns 2 0;
  pred_apps = get_or ns 3 0;
  impositions = get_or ns 4 0;
  vars = get_or ns 5 0;
  ambients = get_or ns 6 0;
  pairs = get_or ns 7 0;
}

-- the bytes of the head: a word for each count
abbrev pub head_bytes : ℕ
head_bytes = 16

unfoldable pub head_of : Structure → Head
head_of s = record {
  els = length s.links;
  facts = length s.facts;
  func_apps = length s.func_apps;
  pred_apps = length s.pred_apps;
  impositions = length s.impositions;
  vars = length s.vars;
  ambients = length s.ambients;
  pairs = length s.pairs;
}

-- The chains: "Records of one element are chained by a next index, zero ends the chain, so indices start at 1."

-- the index of the first of some facts that the element has, where the first of all has the index i; zero where it has none
unfoldable pub first_fact : ℕ → ℕ → List Fact → ℕ
first_fact i e [] = 0
first_fact i e (f ∷ fs) = elim (eqb f.el e) [ true ↦ i | false ↦ first_fact (suc i) e fs ]

-- the index i, where the facts that follow begin with one of the same element; else zero
unfoldable pub next_fact : ℕ → ℕ → List Fact → ℕ
next_fact i e [] = 0
next_fact i e (f ∷ fs) = elim (eqb f.el e) [ true ↦ i | false ↦ 0 ]

-- facts stand by element, so that the next one of an element is the one that follows: i is its index after the first of these
unfoldable pub nexts_from : ℕ → List Fact → List ℕ
nexts_from i [] = []
nexts_from i (f ∷ fs) = next_fact i f.el fs ∷ nexts_from (suc i) fs

-- the next index of each fact
abbrev pub nexts : List Fact → List ℕ
nexts fs = nexts_from 2 fs

-- where the chain of each of n elements begins
abbrev pub firsts : ℕ → List Fact → List ℕ
firsts n fs = map (λ (e : ℕ). first_fact 1 e fs) (up_to n)

-- What is stored.

-- the parts of a file in their order: the counts, "all links, then fact types, then fact parents by position, then the same for applications, impositions,
-- variables, ambients, marks, pending pairs and whatever else later answers need": where each chain begins, and whether the structure is settled and started
unfoldable pub parts : Structure → List (List ℕ)
parts s =
    word_bytes (counts (head_of s))
    ∷ map byte s.links
    ∷ by_columns fact_columns (map fact_row s.facts)
    ∷ word_bytes (nexts s.facts)
    ∷ by_columns func_app_columns (map func_app_row s.func_apps)
    ∷ by_columns pred_app_columns (map pred_app_row s.pred_apps)
    ∷ by_columns imposition_columns (map imposition_row s.impositions)
    ∷ by_columns pair_columns (map var_row s.vars)
    ∷ by_columns pair_columns (map ambient_row s.ambients)
    ∷ map bit s.marks
    ∷ by_columns pair_columns (map pair_row (reverse s.pairs))
    ∷ word_bytes (firsts (length s.links) s.facts)
    ∷ (bit s.settled ∷ bit s.started ∷ [])
    ∷ []

-- the file of a structure
unfoldable pub store : Structure → List ℕ
store s = joined (parts s)

-- "Storing into too short a buffer gives 9 and leaves it."; else the file stands first in it, with the rest as it was
unfoldable pub store_causes : Structure → List ℕ → List Cause
store_causes s buffer = no_room if ltb (length buffer) (length (store s)) ∷ []

unfoldable pub store_into : Structure → List ℕ → Outcome ℕ (List ℕ)
store_into s buffer = outcome (store_causes s buffer) buffer (length (store s)) (store s ++ drop (length (store s)) buffer)

-- What a file says.

-- how many bytes each part has, by the counts
unfoldable pub sizes : Head → List ℕ
sizes h =
    head_bytes
    ∷ h.els
    ∷ fact_columns * h.facts
    ∷ 2 * h.facts
    ∷ func_app_columns * h.func_apps
    ∷ pred_app_columns * h.pred_apps
    ∷ imposition_columns * h.impositions
    ∷ pair_columns * h.vars
    ∷ pair_columns * h.ambients
    ∷ h.els
    ∷ pair_columns * h.pairs
    ∷ 2 * h.els
    ∷ 2
    ∷ []

-- the head that the first words are
unfoldable pub head_in : List ℕ → Head
head_in bytes = head_from (words bytes)

-- what stands in a file: rows and columns as they are
pub record Content : Type 0 where
  pub links : List ℕ
  pub facts : List (List ℕ)
  pub nexts : List ℕ
  pub func_apps : List (List ℕ)
  pub pred_apps : List (List ℕ)
  pub impositions : List (List ℕ)
  pub vars : List (List ℕ)
  pub ambients : List (List ℕ)
  pub marks : List ℕ
  pub pairs : List (List ℕ)
  pub firsts : List ℕ
  pub settled : ℕ
  pub started : ℕ

unfoldable pub content_from : Head → List (List ℕ) → Content
content_from h ps = record {
  links = get_or ps 1 [];
  facts = rows_in fact_columns h.facts (get_or ps 2 []);
  nexts = words (get_or ps 3 []);
  func_apps = rows_in func_app_columns h.func_apps (get_or ps 4 []);
  pred_apps = rows_in pred_app_columns h.pred_apps (get_or ps 5 []);
  impositions = rows_in imposition_columns h.impositions (get_or ps 6 []);
  vars = rows_in pair_columns h.vars (get_or ps 7 []);
  ambients = rows_in pair_columns h.ambients (get_or ps 8 []);
  marks = get_or ps 9 [];
  pairs = rows_in pair_columns h.pairs (get_or ps 10 []);
  firsts = words (get_or ps 11 []);
  settled = get_or (get_or ps 12 []) 0 0;
  started = get_or (get_or ps 12 []) 1 0;
}

unfoldable pub content_in : List ℕ → Content
content_in bytes = content_from (head_in bytes) (parts_of (sizes (head_in bytes)) bytes)

-- the element whose chain has the fact of an index: facts stand by element, so it is the last one whose chain begins there or before.
-- The firsts are those of the elements from e on, and `last` is the last before them.
unfoldable pub owner_from : ℕ → ℕ → ℕ → List ℕ → ℕ
owner_from i e last [] = last
owner_from i e last (f ∷ fs) = elim (ltb 0 f && leb f i) [ true ↦ owner_from i (suc e) e fs | false ↦ owner_from i (suc e) last fs ]

abbrev pub owner : ℕ → List ℕ → ℕ
owner i fs = owner_from i 0 0 fs

-- the facts of some rows, the first of which has the index i
unfoldable pub facts_from : ℕ → List ℕ → List (List ℕ) → List Fact
facts_from i fs [] = []
facts_from i fs (r ∷ rs) = fact_in (owner i fs) r ∷ facts_from (suc i) fs rs

unfoldable pub structure_in : Content → Structure
structure_in c =
    structure c.links (map bit_in c.marks) (facts_from 1 c.firsts c.facts) (map func_app_in c.func_apps) (map pred_app_in c.pred_apps)
    (map var_in c.vars) (map ambient_in c.ambients) (reverse (map pair_in c.pairs)) (map imposition_in c.impositions) (bit_in c.started)
    (bit_in c.settled)

-- What is refused.

-- "a file too short for its counts, or whose length does not fit them": also one too short for a head
unfoldable pub has_length : List ℕ → Bool
has_length bytes = leb head_bytes (length bytes) && eqb (length bytes) (sum (sizes (head_in bytes)))

-- some number is over the limit that stands at its place
unfoldable pub any_over : List ℕ → List ℕ → Bool
any_over [] ls = false
any_over (n ∷ ns) [] = false
any_over (n ∷ ns) (l ∷ ls) = ltb l n || any_over ns ls

-- the limits of the tables, in the order of the counts
abbrev pub limits : List ℕ
limits = max_els ∷ max_facts ∷ max_func_apps ∷ max_pred_apps ∷ max_impositions ∷ max_vars ∷ max_types ∷ max_pairs ∷ []

module _ {A : Type 0} where
  unfoldable pub any : (A → Bool) → List A → Bool
  any p [] = false
  any p (x ∷ xs) = p x || any p xs

  -- each entry comes before the one that follows
  unfoldable pub in_order : (A → A → Ordering) → List A → Bool
  in_order cmp [] = true
  in_order cmp (x ∷ []) = true
  in_order cmp (x ∷ y ∷ l) = elim (cmp x y) [ Less ↦ in_order cmp (y ∷ l) | Equal ↦ false | Greater ↦ false ]

-- some row says more entries of a list than it has places for
unfoldable pub count_outside : Content → Bool
count_outside c =
    any (λ (r : List ℕ). not (is_counted 1 r)) c.facts
    || (any (λ (r : List ℕ). not (is_counted 1 r && is_counted 6 r)) c.func_apps
    || (any (λ (r : List ℕ). not (is_counted 1 r && is_counted 6 r)) c.pred_apps || any (λ (r : List ℕ). not (is_counted 2 r)) c.impositions))

-- a mark or a flag is neither 0 nor 1
unfoldable pub bit_outside : Content → Bool
bit_outside c = any (λ (b : ℕ). not (is_bit b)) (c.marks ++ (c.settled ∷ c.started ∷ []))

-- the flag for number 4 is not set, though an entry stands there, or the structure is settled: any accepted call of kinds 6 to 15 sets it
unfoldable pub flag_outside : Head → Content → Bool
flag_outside h c = eqb c.started 0 && (ltb 0 (sum (counts h)) || eqb c.settled 1)

-- the elements, and nothing else
unfoldable pub els_alone : Structure → Structure
els_alone s = structure s.links s.marks [] [] [] [] [] [] [] true false

-- the calls that the entries of a structure are
unfoldable pub entry_calls : Structure → List Call
entry_calls s =
    map impose_type s.facts
    ++ (map apply_func s.func_apps
    ++ (map apply_pred s.pred_apps
    ++ (map impose_type s.impositions
    ++ (map bind_var s.vars ++ (map bind_ambient s.ambients ++ map (λ (p : Pair). equate_els p.lhs p.rhs) s.pairs)))))

abbrev pub is_given : Option ℕ → Bool
is_given none = false
is_given (some n) = true

unfoldable pub refuses : Machine → Call → Bool
refuses m k = is_given (first_of (rule k m).causes)

-- "an entry whose call would refuse it", made where the elements alone are there
unfoldable pub entry_refused : Sig → Structure → Bool
entry_refused g s = any (refuses (machine g (els_alone s))) (entry_calls s)

-- "a link to a higher element": of the elements from e on
unfoldable pub link_rises : ℕ → List ℕ → Bool
link_rises e [] = false
link_rises e (l ∷ ls) = ltb e l || link_rises (suc e) ls

-- "a fact on an element that is no root"
unfoldable pub fact_off_root : Structure → Bool
fact_off_root s = any (λ (f : Fact). not (eqb (root_of s.links f.el) f.el)) s.facts

-- "a broken chain": the indices are not those that chain the facts
unfoldable pub chain_broken : Content → Structure → Bool
chain_broken c s = not (same c.nexts (nexts s.facts) && same c.firsts (firsts (length s.links) s.facts))

-- "an order other than ours"
unfoldable pub other_order : Structure → Bool
other_order s =
    not (in_order compare_fact s.facts
    && (in_order compare_func_app s.func_apps
    && (in_order compare_pred_app s.pred_apps && (in_order compare_var s.vars && in_order compare_ambient s.ambients))))

-- "a nonzero unused byte": at a place past the end of its list
unfoldable pub unused_byte : Content → Bool
unused_byte c =
    any (λ (r : List ℕ). not (is_clear 1 r)) c.facts
    || (any (λ (r : List ℕ). not (is_clear 1 r && is_clear 6 r)) c.func_apps
    || (any (λ (r : List ℕ). not (is_clear 1 r && is_clear 6 r)) c.pred_apps || any (λ (r : List ℕ). not (is_clear 2 r)) c.impositions))

-- what refuses a file whose content is c and says s, in the order of the paper
unfoldable pub content_causes : Sig → Head → Content → Structure → List Cause
content_causes g h c s =
    wrong_content if (any_over (counts h) limits || (count_outside c || (bit_outside c || flag_outside h c)))
    ∷ wrong_content if entry_refused g s
    ∷ wrong_content if link_rises 0 s.links
    ∷ wrong_content if fact_off_root s
    ∷ wrong_content if chain_broken c s
    ∷ wrong_content if other_order s
    ∷ wrong_content if unused_byte c
    ∷ []

-- "with 14, after 13"
unfoldable pub load_causes : Sig → List ℕ → List Cause
load_causes g bytes =
    wrong_length if not (has_length bytes) ∷ content_causes g (head_in bytes) (content_in bytes) (structure_in (content_in bytes))

-- what is loaded
unfoldable pub load : Sig → List ℕ → Answered Structure
load g bytes = decided (first_of (load_causes g bytes)) refused (accepted (structure_in (content_in bytes)))
