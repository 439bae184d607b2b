-- `record_in` meets its contract.
use mathlib.Core.Path.{◌∙◌}
use mathlib.Core.List.{[], ◌∷◌}
use Rattle.records.proofs.Laws.{record_read, none_within_past}
use Rattle.records.proofs.record_in.Goals as goal

pub returns-then-bytes-index : goal.returns-then-bytes-index
returns-then-bytes-index c =
    let a = c.args in
    c.blank.ensures ∙ none_within_past a.bytes.now a.index c.if-bytes-index.true

pub returns : goal.returns
returns c =
    let a = c.args in
    record_read a.bytes.now a.index c.if-bytes-index.false
    (λ i. record {
      next = c.word.ensures i;
      kind = c.word-2.ensures i;
      a = c.word-3.ensures i;
      b = c.word-4.ensures i;
      parent_count = c.word-5.ensures i;
      arg_count = c.word-6.ensures i;
      parents = c.word-7.ensures i ∷ c.word-8.ensures i ∷ c.word-9.ensures i ∷ c.word-10.ensures i ∷ [];
      args = c.word-11.ensures i ∷ c.word-12.ensures i ∷ c.word-13.ensures i ∷ c.word-14.ensures i ∷ [];
      rest = c.word-15.ensures i ∷ c.word-16.ensures i ∷ [];
    })
