-- `structure_in` meets its contract.
use Prim.Native.Nat.{ℕ, ◌≤◌}
use mathlib.Core.Path.{◌≡◌, sym, ap, ◌∙◌}
use mathlib.Core.Bool.{true, false}
use mathlib.Core.List.{List}
use native.Mathlib.Omega.{arith}
use Rattle.std.specs.Str.{bytes_eq}
use Rattle.std.specs.Cmp.Lexicographic.{same_text}
use lib.ListN.{length, take, length-take, length-replicate}
use borrow.Author.Rules.{rules}
use Rattle.ids.proofs.Views.{long, length_view}
use Rattle.ids.proofs.Sorted.{no_test}
use Rattle.signature.specs.Model.{sig_of, type_of, pred_of, func_of, max_types, max_preds, max_funcs}
use Rattle.structure.specs.View.{structure_of}
use Rattle.file.specs.Layout.{sum}
use Rattle.file.specs.File.{Head, counts, sizes, head_in, has_length, any_over, limits, store}
use Rattle.storing.specs.View.{max_bytes}
use Rattle.decoding.specs.View.{head_view}
use Rattle.storing.proofs.Writing.{written_within}
use Rattle.loading.proofs.Laws.{all_alike, WithinTables, ends, too_short, not_fitting, fitting, over_limit, not_storable, stored_otherwise, stored_alike}
use Rattle.loading.proofs.structure_in.Goals as goal
use Rattle.loading.proofs.structure_in.Goals.{After-places-places, After-write-n, Else-is_over, Else-places-bytes, Start}

-- the signature is as the code holds it
within : (c : Start) → WithinTables (sig_of c.args.signature)
within c =
    let g = c.args.signature in
    let types : length g.types.items ≡ max_types = search (rules, long) in
    let preds : length g.preds.items ≡ max_preds = search (rules, long) in
    let funcs : length g.funcs.items ≡ max_funcs = search (rules, long) in
    record {
      types = omega (arith, types, length_view type_of g.types.len g.types.items);
      preds = omega (arith, preds, length_view pred_of g.preds.len g.preds.items);
      funcs = omega (arith, funcs, length_view func_of g.funcs.len g.funcs.items);
    }

pub returns-then-bytes-lt-HEAD_BYTES : goal.returns-then-bytes-lt-HEAD_BYTES
returns-then-bytes-lt-HEAD_BYTES c =
    (too_short (sig_of c.args.signature) c.args.bytes.now c.if-bytes-lt-HEAD_BYTES.true)

-- Where the head was read.
module _ (c : After-places-places) where
  head_is : head_view c.head_in-head.result ≡ head_in c.args.bytes.now
  head_is = c.head_in-head.ensures

  end : c.places-places.result.end ≡ sum (sizes (head_in c.args.bytes.now))
  end = ends _ _ c.places-places.ensures ∙ ap (λ (h : Head). sum (sizes h)) head_is

pub returns-then-places-bytes : goal.returns-then-places-bytes
returns-then-places-bytes c =
    (not_fitting (sig_of c.args.signature) c.args.bytes.now c.if-bytes-lt-HEAD_BYTES.false
    (λ e. c.if-places-bytes.true (end (goal.at.returns-then-places-bytes c).After-places-places ∙ sym e)))

-- Where the length fits.
module _ (c : Else-places-bytes) where
  long_as : length c.args.bytes.now ≡ sum (sizes (head_in c.args.bytes.now))
  long_as = sym c.if-places-bytes.false ∙ end (goal.at.Else-places-bytes c).After-places-places

  fits : has_length c.args.bytes.now ≡ true
  fits = fitting (sig_of c.args.signature) c.args.bytes.now c.if-bytes-lt-HEAD_BYTES.false long_as

pub returns-then-is_over : goal.returns-then-is_over
returns-then-is_over c =
    (over_limit (sig_of c.args.signature) c.args.bytes.now (fits (goal.at.returns-then-is_over c).Else-places-bytes)
    (ap (λ (h : Head). any_over (counts h) limits) (sym (head_is (goal.at.returns-then-is_over c).After-places-places))
    ∙ sym c.is_over.ensures
    ∙ c.if-is_over.true))

pub decode-structure-requires : goal.decode-structure-requires
decode-structure-requires c =
    let read = head_is (goal.at.decode-structure-requires c).After-places-places in (
      record {
        is = read;
        long = long_as (goal.at.decode-structure-requires c).Else-places-bytes ∙ ap (λ (h : Head). sum (sizes h)) (sym read);
        most = sym c.is_over.ensures ∙ c.if-is_over.false;
      },
      c.places-places.ensures,
    )

-- Where no count is over its limit.
within_limits : (c : Else-is_over) → any_over (counts (head_in c.args.bytes.now)) limits ≡ false
within_limits c =
    ap (λ (h : Head). any_over (counts h) limits) (sym (head_is (goal.at.Else-is_over c).After-places-places)) ∙ sym c.is_over.ensures ∙ c.if-is_over.false

-- Where the structure was read and judged.
pub returns-then-not-is_storable : goal.returns-then-not-is_storable
returns-then-not-is_storable c =
    (not_storable (sig_of c.args.signature) c.args.bytes.now (within (goal.at.returns-then-not-is_storable c).Start)
    (structure_of c.decode-structure.result) c.decode-structure.ensures (fits (goal.at.returns-then-not-is_storable c).Else-places-bytes)
    (sym c.is_storable.ensures ∙ c.if-not-is_storable.true))

-- Where it was stored again.
file_long : (c : After-write-n) → length c.write-n.new.file ≡ max_bytes
file_long c = c.write-n.ensures.0.long ∙ length-replicate {A = ℕ} max_bytes 0

-- the file ends within its array
end_within : (c : After-write-n) → c.write-n.result ≤ max_bytes
end_within c = omega (arith, written_within c.write-n.ensures.0 (omega arith), length-replicate {A = ℕ} max_bytes 0)

pub slice_bounds-is_same-end : goal.slice_bounds-is_same-end
slice_bounds-is_same-end c =
    omega (arith, length-take {A = ℕ}, file_long (goal.at.slice_bounds-is_same-end c).After-write-n, end_within (goal.at.slice_bounds-is_same-end c).After-write-n)

-- the bytes that are stored again
stored : (c : After-write-n) → take c.write-n.result c.write-n.new.file ≡ store (structure_of c.decode-structure.result)
stored c = c.write-n.ensures.0.is

pub returns-then-not-is_same : goal.returns-then-not-is_same
returns-then-not-is_same c =
    let at = goal.at.returns-then-not-is_same c in
    stored_otherwise (sig_of c.args.signature) c.args.bytes.now (within at.Start)
    (structure_of c.decode-structure.result) c.decode-structure.ensures (fits at.Else-places-bytes) c.requires
    (λ same. no_test (c.is_same.ensures ∙ ap (λ (l : List ℕ). bytes_eq l c.args.bytes.now) (stored at.After-write-n ∙ same) ∙ all_alike c.args.bytes.now) c.if-not-is_same.true)

pub returns : goal.returns
returns c =
    let at = goal.at.returns c in
    let held = c.write-n.ensures.1 in
    let same : store (structure_of c.decode-structure.result) ≡ c.args.bytes.now =
    sym (stored at.After-write-n) ∙ same_text _ _ (sym c.if-not-is_same.false ∙ c.is_same.ensures) in
    stored_alike (sig_of c.args.signature) c.args.bytes.now (within at.Start) (structure_of c.decode-structure.result)
    (sym c.is_storable.ensures ∙ c.if-not-is_storable.false) held.most held.marks same
