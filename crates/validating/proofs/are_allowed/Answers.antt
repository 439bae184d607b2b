-- `are_allowed` meets its contract.
use mathlib.Core.Path.{refl, sym, ap, ◌∙◌}
use Rattle.ids.proofs.Tests.{told}
use Rattle.signature.specs.Model.{sig_of}
use Rattle.validating.proofs.Searching.{failed, passed, ended}
use Rattle.validating.proofs.are_allowed.Goals as goal

pub loop-entry-init : goal.loop-entry-init
loop-entry-init g c = refl

pub returns-then-not-is_allowed : goal.returns-then-not-is_allowed
returns-then-not-is_allowed g c =
    let p = g.T.Entry.allowed (sig_of c.args.signature.now) c.args.els in
    let entry = c.entry-item in
    failed p c.args.entries.now c.loop-entry.invariant entry.result c.loop-entry-test.true (sym (ap p entry.is) ∙ told c.is_allowed.ensures c.if-not-is_allowed.true)

pub loop-entry-preserved : goal.loop-entry-preserved
loop-entry-preserved g c =
    let p = g.T.Entry.allowed (sig_of c.args.signature.now) c.args.els in
    let entry = c.entry-item in
    passed p c.args.entries.now c.loop-entry.invariant entry.result c.loop-entry-test.true (sym (ap p entry.is) ∙ told c.is_allowed.ensures c.if-not-is_allowed.false)

pub returns : goal.returns
returns g c = ended (g.T.Entry.allowed (sig_of c.args.signature.now) c.args.els) c.args.entries.now c.loop-entry.invariant c.loop-entry-test.false
