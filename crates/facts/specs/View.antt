-- The tables of facts and of impositions as the definitions speak of them.
use Rattle.std.specs.Prelude.{List, [], map, take}
use Rattle.ids.specs.declared.ElId.{ElId}
use Rattle.ids.specs.declared.ElIds.{ElIds}
use Rattle.ids.specs.declared.TypeId.{TypeId}
use Rattle.ids.specs.Ids.{els_of, given_els}
use Rattle.semantics.specs.Structure as model
use Rattle.semantics.specs.Structure.{fact}
use Rattle.facts.specs.declared.Fact.{Fact}
use Rattle.facts.specs.declared.Facts.{Facts}
use Rattle.facts.specs.declared.Impositions.{Impositions}

-- a fact as it is stored
abbrev pub fact_of : Fact → model.Fact
fact_of f = fact f.el.0 f.ct.typ.0 (els_of f.ct.parents)

-- a fact as it is given to a call or handed back: its list of as many elements as the length says
abbrev pub given_fact : Fact → model.Fact
given_fact f = fact f.el.0 f.ct.typ.0 (given_els f.ct.parents)

-- the facts of a table
abbrev pub facts_of : Facts → List model.Fact
facts_of t = map fact_of (take t.len t.items)

-- the fact of the code, built
abbrev pub new_fact : ElId → TypeId → ElIds → Fact
new_fact el typ parents = record { el = el; ct = record { typ = typ; parents = parents } }

-- what stands for an entry past the end of the array
abbrev pub no_fact : Fact
no_fact = new_fact (record { 0 = 0 }) (record { 0 = 0 }) (record { ids = []; len = 0 })

-- the impositions of a queue
abbrev pub impositions_of : Impositions → List model.Fact
impositions_of t = map fact_of (take t.len t.items)
