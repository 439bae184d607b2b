-- Laws of the facts of a class that are taken as roots.
use mathlib.Core.Path.{◌≡◌, refl, sym, ap, ◌∙◌}
use mathlib.Core.List.{List, [], ◌∷◌, map}
use Prim.Native.Nat.{ℕ, ◌+◌, ◌≤◌, ◌<◌}
use native.Mathlib.Omega.{arith}
use lib.ListN.{length, drop, get_or}
use borrow.Author.Tests.{eq-eqb, ne_eqb}
use Rattle.ids.specs.Table.{placed, rewrite_into}
use Rattle.ids.specs.Sorted.{Sorted}
use Rattle.ids.proofs.Sorted.{placed_sorted}
use Rattle.rows.specs.Table.{Inserted}
use Rattle.rows.proofs.Halving.{items_next, items_done}
use Rattle.unification.specs.Roots.{root_of}
use Rattle.semantics.specs.Structure.{Fact, max_facts, compare_fact, canonical_fact}
use Rattle.semantics.specs.Types.{facts_at, concrete_types_of}
use Rattle.semantics.proofs.Orders.{fact_ordered}
use Rattle.el_rows.specs.View.{TypesOf}
use Rattle.facts.specs.declared.Fact as code
use Rattle.facts.specs.View.{fact_of}
use Rattle.rows.specs.View.{facts_in}

-- of the facts those before i are done, into the first k of `types`
pub record Taking (ls : List ℕ) (root : ℕ) (facts types : List code.Fact) (i k : ℕ) : Type 0 where
  pub few : k ≤ i
  pub sorted : Sorted compare_fact (facts_in k types)
  pub rest : rewrite_into compare_fact (canonical_fact ls) (facts_at root (map fact_of (drop i facts))) (facts_in k types)
      ≡ rewrite_into compare_fact (canonical_fact ls) (facts_at root (map fact_of facts)) []
  pub long : length types ≡ max_facts

pub taking_none : (ls : List ℕ) (root : ℕ) (facts types : List code.Fact) → length types ≡ max_facts → Taking ls root facts types 0 0
taking_none ls root facts types h = record { few = omega arith; sorted = tt; rest = refl; long = h }

module _ (ls : List ℕ) (root : ℕ) (facts : List code.Fact) {types : List code.Fact} {i k : ℕ} (so_far : Taking ls root facts types i k) where
  -- the fact i
  module _ (d : code.Fact) (at : i < length facts) where
    abbrev here : Fact
    here = fact_of (get_or facts i d)

    from_here : rewrite_into compare_fact (canonical_fact ls) (facts_at root (here ∷ map fact_of (drop (i + 1) facts))) (facts_in k types)
        ≡ rewrite_into compare_fact (canonical_fact ls) (facts_at root (map fact_of facts)) []
    from_here =
        ap (λ (l : List Fact). rewrite_into compare_fact (canonical_fact ls) (facts_at root l) (facts_in k types)) (sym (items_next fact_of facts i d at)) ∙ so_far.rest

    -- a fact of another element
    pub other_el : (here.el ≡ root → ⊥) → Taking ls root facts types (i + 1) k
    unfolding facts_at
    other_el e = record {
      few = omega (arith, so_far.few);
      sorted = so_far.sorted;
      rest = rw (ne_eqb here.el root e, facts_at) at from_here;
      long = so_far.long;
    }

    -- a fact of this one
    pub this_el : here.el ≡ root → {x : Fact} {types' : List code.Fact} {r : ℕ} → x ≡ canonical_fact ls here
        → Inserted compare_fact fact_of x k types types' r → Taking ls root facts types' (i + 1) r
    unfolding facts_at rewrite_into
    this_el e {x} q put = record {
      few = omega (arith, so_far.few, put.most);
      sorted = rw put.is (placed_sorted fact_ordered x (facts_in k types) so_far.sorted);
      rest =
          ap (rewrite_into compare_fact (canonical_fact ls) (facts_at root (map fact_of (drop (i + 1) facts))))
          (put.is ∙ ap (λ (y : Fact). placed compare_fact y (facts_in k types)) q)
          ∙ (rw (eq-eqb here.el root e, facts_at) at from_here);
      long = put.long ∙ so_far.long;
    }

  -- all are done
  pub taken : length facts ≤ i → i ≤ length facts → (el : ℕ) → length facts ≤ max_facts → root ≡ root_of ls el → TypesOf ls (map fact_of facts) el types k
  unfolding concrete_types_of facts_at rewrite_into
  taken past within el few e = record {
    is =
        ap (λ (l : List Fact). rewrite_into compare_fact (canonical_fact ls) (facts_at root l) (facts_in k types)) (sym (items_done fact_of facts i past))
        ∙ so_far.rest
        ∙ ap (λ (r : ℕ). rewrite_into compare_fact (canonical_fact ls) (facts_at r (map fact_of facts)) []) e;
    most = omega (arith, so_far.few);
    long = so_far.long;
  }
