use lib.ListN.{take}
use Rattle.file.specs.Layout.{word_bytes}
use Rattle.storing.specs.View.{Written}
use Rattle.storing.proofs.put_words.Given as goal

abbrev pub invariant-loop-word : goal.invariant-loop-word
invariant-loop-word l = Written l.initial.buffer l.at (word_bytes (take l.word-index l.words)) l.buffer l.end
