-- What the steps of imposing a fact leave, as the definitions speak of it.
use Rattle.std.specs.Prelude.{ℕ, ◌-◌, ◌≤◌, ◌≡◌, Bool, true, false, List, length, take, drop}
use Rattle.ids.specs.declared.Ordering.TheVariants.{Less}
use Rattle.ids.specs.Sorted.{All}
use Rattle.rows.specs.Table.{is_less}
use Rattle.semantics.specs.Structure.{Fact, compare_fact}
use Rattle.semantics.specs.Types.{Core, concrete_types_of, refine_all, insert_fact, grown, growth}
use Rattle.facts.specs.declared.Fact as code
use Rattle.equalities.specs.declared.Pair.{Pair}
use Rattle.el_rows.specs.declared.El.{El}
use Rattle.merging.specs.declared.Tally.{Tally}
use Rattle.merging.specs.View.{lent, ElsHeld, PairsHeld, Passes}

-- the facts before the index r are smaller than the key; where the facts are in order, those from there on are not
pub record FirstOf (in_order : Bool) (key : Fact) (fs : List Fact) (r : ℕ) : Type 0 where
  pub most : r ≤ length fs
  pub smaller : All (λ g. compare_fact g key ≡ Less) (take r fs)
  pub rest : in_order ≡ true → All (λ g. is_less (compare_fact g key) ≡ false) (drop r fs)

-- "take `concrete_types_of` once. For each of the same type .."
unfoldable pub refined : Fact → Core → Core
refined f w = refine_all (concrete_types_of w.links w.facts f.el) f w

-- a fact is inserted, whatever the links, the marks and the queue are
abbrev pub InsertsFact : List code.Fact → Tally → List code.Fact → Tally → Fact → Type 0
InsertsFact facts c facts' r f =
    (els : List El) (pairs : List Pair) → ElsHeld els c → PairsHeld pairs c → Passes (lent els facts pairs c) (lent els facts' pairs r) 1 (insert_fact f)

-- "Imposing a fact answers two counts, merges made and facts added" (02, M-106): f imposes on w, and the counts r are above c by what it answers
abbrev pub Answers : Tally → Tally → (Core → Core) → Core → Type 0
Answers c r f w = grown (r.merges - c.merges) (r.added - c.added) ≡ growth w (f w)
