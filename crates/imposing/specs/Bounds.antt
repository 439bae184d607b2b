-- How many merges and additions the passes count at most, for every structure, so that no count overflows.
use Rattle.std.specs.Prelude.{ℕ, ◌+◌, ◌*◌}
use Rattle.ids.specs.Limits.{max_list}
use Rattle.semantics.specs.Structure.{max_pairs, max_facts, max_impositions}

-- two parents: the new pair and those in the queue
abbrev pub one_pair : ℕ
one_pair = 1 + max_pairs

-- two lists of parents
abbrev pub one_list : ℕ
one_list = max_list * one_pair

-- the types of an element
abbrev pub one_fact : ℕ
one_fact = max_facts * one_list

-- a fact imposed
abbrev pub one_imposed : ℕ
one_imposed = one_fact + 1

abbrev pub all_impositions : ℕ
all_impositions = max_impositions * one_imposed
