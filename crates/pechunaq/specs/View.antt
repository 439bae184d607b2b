-- A session and what its calls hand back, as the definitions speak of them.
use Rattle.std.specs.Prelude.{ℕ, List, [], map, take}
use Rattle.ids.specs.Ids.{types_of}
use Rattle.signature.specs.declared.Type as code-type
use Rattle.signature.specs.declared.TypeKind.TheVariants.{Plain}
use Rattle.signature.specs.Model.{TypeM, type_entry, Sig, sig, view_preds, view_funcs, view_models, view_mor_apps}
use Rattle.semantics.specs.Calls.{machine}
use Rattle.semantics.specs.Sheet.{kind_of}
use Rattle.structure.specs.View.{structure_of}
use Rattle.conflicts.specs.View.{conflicts_of}
use Rattle.lines.specs.View.{line_of}
use Rattle.sheet.specs.Pieces.{ProgressM, PieceM, piece}
use Rattle.pechunaq.specs.Session.{stage_at, ReplyM, HandedInM, TakenM, ParkedM, ResumedM}
use Rattle.pechunaq.specs.declared.TypeRow.{TypeRow}
use Rattle.pechunaq.specs.declared.TypeRows.{TypeRows}
use Rattle.pechunaq.specs.declared.Session as code
use Rattle.pechunaq.specs.declared.Reply.{Reply}
use Rattle.pechunaq.specs.declared.HandedIn.{HandedIn}
use Rattle.pechunaq.specs.declared.Taken.{Taken}
use Rattle.pechunaq.specs.declared.Parked.{Parked}
use Rattle.pechunaq.specs.declared.Resumed.{Resumed}

abbrev pub type_in : TypeRow → TypeM
type_in r = type_entry (kind_of r.kind r.model) (types_of r.parents)

-- what stands for a type past the end of an array
abbrev pub no_row : TypeRow
no_row = record { kind = 0; model = 0; parents = record { ids = []; len = 0 } }

abbrev pub no_type : code-type.Type
no_type = record { kind = Plain; parents = record { ids = []; len = 0 } }

abbrev pub types_in : TypeRows → List TypeM
types_in t = map type_in (take t.len t.items)

abbrev pub signature_in : code.Session → Sig
signature_in s = sig (types_in s.types) (view_preds s.preds) (view_funcs s.funcs) (view_models s.models) (view_mor_apps s.mor_app_funcs)

abbrev pub progress_in : code.Session → ProgressM
progress_in s = record {
  stage = stage_at s.stage;
  machine = machine (signature_in s) (structure_of s.structure);
  count = s.count;
  index = s.index;
  done = s.done;
  conflicts = conflicts_of s.conflicts;
  printed = s.printed;
}

abbrev pub session_of : code.Session → PieceM
session_of s = piece (line_of s.line) (progress_in s)

abbrev pub reply_of : Reply → ReplyM
reply_of r = record { kind = r.kind; numbers = r.numbers }

abbrev pub handed_in_of : HandedIn → HandedInM
handed_in_of r = record { answer = reply_of r.answer; session = session_of r.session }

abbrev pub taken_of : Taken → TakenM
taken_of r = record { line = line_of r.line; session = session_of r.session }

abbrev pub parked_of : Parked → List ℕ → ParkedM
parked_of r file = record { size = r.size; refused = r.refused; file = file }

abbrev pub resumed_of : Resumed → ResumedM
resumed_of r = record { refused = r.refused; session = session_of r.session }
