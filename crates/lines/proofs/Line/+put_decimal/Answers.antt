-- `Line::put_decimal`, which calls itself, meets its contract.
use Rattle.lines.proofs.Decimals.{put_low, put_high}
use Rattle.lines.proofs.Line.+put_decimal.Goals as goal

pub returns-then-x-lt10 : goal.returns-then-x-lt10
returns-then-x-lt10 t c = put_low _ c.args.x c.if-x-lt10.true c.digit.ensures c.put.ensures

pub returns : goal.returns
returns t c = put_high _ c.args.x c.if-x-lt10.false c.put_decimal.ensures c.digit-2.ensures c.put-2.ensures
