-- `put_words` meets its contract.
use mathlib.Core.Path.{ap}
use mathlib.Core.List.{List}
use Prim.Native.Nat.{ℕ, ◌+◌, ◌<◌}
use native.Mathlib.Omega.{arith}
use lib.ListN.{length, get_or, length-set}
use Rattle.file.specs.Layout.{word_bytes}
use Rattle.storing.proofs.Writing.{written_nothing, words_room, written_word, words_all}
use Rattle.storing.proofs.put_words.Goals as goal
use Rattle.storing.proofs.put_words.Goals.{In-loop-word}

pub loop-word-init : goal.loop-word-init
unfolding word_bytes
loop-word-init c = written_nothing _ _

room : (c : In-loop-word) → c.loop-word.end + 1 < length c.loop-word.buffer
room c = words_room c.args.words.now c.loop-word.invariant c.loop-word-test.true c.requires

pub bounds-buffer-end : goal.bounds-buffer-end
bounds-buffer-end c = omega (arith, room (goal.at.bounds-buffer-end c).In-loop-word)

pub overflow_add-buffer : goal.overflow_add-buffer
overflow_add-buffer c = omega (arith, room (goal.at.overflow_add-buffer c).In-loop-word)

pub bounds-buffer-end-in-loop-word : goal.bounds-buffer-end-in-loop-word
bounds-buffer-end-in-loop-word c = omega (arith, room (goal.at.bounds-buffer-end-in-loop-word c).In-loop-word, length-set {A = ℕ})

pub overflow_add-end : goal.overflow_add-end
overflow_add-end c = omega (arith, room (goal.at.overflow_add-end c).In-loop-word)

pub loop-word-preserved : goal.loop-word-preserved
loop-word-preserved c =
    written_word c.args.words.now c.loop-word.invariant c.loop-word-test.true c.requires
    (ap (λ (l : List ℕ). get_or l 0 0) c.to_le_bytes.ensures) (ap (λ (l : List ℕ). get_or l 1 0) c.to_le_bytes.ensures)

pub returns : goal.returns
returns c = words_all c.args.words.now c.loop-word.invariant c.loop-word-test.false
