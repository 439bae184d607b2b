-- Records as the definitions speak of them.
use Rattle.std.specs.Prelude.{ℕ, ◌/◌, Bool, true, false, ◌&&◌, List, [], ◌∷◌, length, drop, leb, ltb}
use Rattle.std.proofs.Math.Option.{Option, none, some}
use Rattle.semantics.specs.Sheet as sheet
use Rattle.semantics.specs.Sheet.{Form, fits, all_zero, max_records, record_bytes, record_at}
use Rattle.records.specs.declared.Record.{Record}

abbrev pub record_view : Record → sheet.Record
record_view r = record {
  next = r.next;
  kind = r.kind;
  a = r.a;
  b = r.b;
  parent_count = r.parent_count;
  arg_count = r.arg_count;
  parents = r.parents;
  args = r.args;
  rest = r.rest;
}

-- a record whose words are all zero
abbrev pub blank : sheet.Record
blank = record {
  next = 0;
  kind = 0;
  a = 0;
  b = 0;
  parent_count = 0;
  arg_count = 0;
  parents = 0 ∷ 0 ∷ 0 ∷ 0 ∷ [];
  args = 0 ∷ 0 ∷ 0 ∷ 0 ∷ [];
  rest = 0 ∷ 0 ∷ [];
}

-- the record of an index in an array as long as the longest sheet; a blank one past the last
unfoldable pub record_in : List ℕ → ℕ → sheet.Record
record_in bytes i = elim (ltb i max_records) [ true ↦ record_at bytes i | false ↦ blank ]

-- the record of an index; a blank one past the last whole record
unfoldable pub record_within : List ℕ → ℕ → sheet.Record
record_within bytes i = elim (ltb i (length bytes / record_bytes)) [ true ↦ record_at bytes i | false ↦ blank ]

-- a list of `least` to `most` entries, with zeros after them
unfoldable pub list_within : ℕ → ℕ → ℕ → List ℕ → Bool
list_within least most n slots = (leb least n && leb n most) && all_zero (drop n slots)

-- A and B no more than two numbers, so many parents and arguments, and zeros in every word that is not used
unfoldable pub within : ℕ → ℕ → ℕ → ℕ → ℕ → sheet.Record → Bool
within a b parents least most r =
    (leb r.a a && leb r.b b)
    && ((list_within 0 parents r.parent_count r.parents && list_within least most r.arg_count r.args) && all_zero r.rest)

-- whether a record is as its form says; a kind that has none fits nothing
unfoldable pub fits_form : Option Form → sheet.Record → Bool
fits_form none r = false
fits_form (some f) r = fits f r
