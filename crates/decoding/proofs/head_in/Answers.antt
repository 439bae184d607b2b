-- `head_in` meets its contract.
use mathlib.Core.Path.{◌∙◌}
use Rattle.file.specs.File.{head_in, head_from}
use Rattle.decoding.proofs.Reading.{word_at}
use Rattle.decoding.proofs.head_in.Goals as goal

pub returns : goal.returns
unfolding head_in head_from
returns c =
    let b = c.args.bytes.now in
    λ i. record {
      els = (c.word.ensures ∙ word_at b 0) i;
      facts = (c.word-2.ensures ∙ word_at b 1) i;
      func_apps = (c.word-3.ensures ∙ word_at b 2) i;
      pred_apps = (c.word-4.ensures ∙ word_at b 3) i;
      impositions = (c.word-5.ensures ∙ word_at b 4) i;
      vars = (c.word-6.ensures ∙ word_at b 5) i;
      ambients = (c.word-7.ensures ∙ word_at b 6) i;
      pairs = (c.word-8.ensures ∙ word_at b 7) i;
    }
