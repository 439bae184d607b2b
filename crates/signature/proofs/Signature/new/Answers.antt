-- `Signature::new` meets its contract.
use Rattle.signature.specs.Model.{empty}
use Rattle.signature.proofs.Signature.new.Goals as goal

pub returns : goal.returns
unfolding empty
returns c =
    λ k. record {
      types = c.new.ensures k;
      preds = c.new-2.ensures k;
      funcs = c.new-3.ensures k;
      models = c.new-4.ensures k;
      mor_apps = c.new-5.ensures k;
    }
