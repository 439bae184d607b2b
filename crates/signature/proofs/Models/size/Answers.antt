-- `Models::size` meets its contract.
use Rattle.ids.proofs.Views.{long}
use Rattle.signature.specs.Model.{max_models, model_of}
use Rattle.ids.proofs.Counted.{size_below, size_over}
use borrow.Author.Rules.{rules}
use Rattle.signature.proofs.Models.size.Goals as goal

pub returns-then-n-lt-MAX_MODELS : goal.returns-then-n-lt-MAX_MODELS
returns-then-n-lt-MAX_MODELS c =
    let t = c.args.self in
    size_below model_of t.len t.items max_models (search (rules, long)) c.if-n-lt-MAX_MODELS.true

pub returns-else-n-lt-MAX_MODELS : goal.returns-else-n-lt-MAX_MODELS
returns-else-n-lt-MAX_MODELS c =
    let t = c.args.self in
    size_over model_of t.len t.items max_models (search (rules, long)) c.if-n-lt-MAX_MODELS.false
