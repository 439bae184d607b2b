use Rattle.semantics.specs.Structure.{max_facts}
use Rattle.facts.specs.View.{fact_of}
use Rattle.file.specs.Rows.{fact_in, fact_columns}
use Rattle.decoding.proofs.Reading.{ReadWith}
use Rattle.decoding.proofs.facts_in.Given as goal

abbrev pub invariant-loop-i : goal.invariant-loop-i
invariant-loop-i l = ReadWith fact_of fact_in fact_columns l.n max_facts l.owners l.columns l.table.items l.i
