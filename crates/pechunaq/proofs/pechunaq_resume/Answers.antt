-- `pechunaq_resume` meets its contract.
use mathlib.Core.Path.{refl, ap, ◌∙◌}
use Rattle.signature.specs.Model.{Sig}
use Rattle.file.specs.File.{load}
use Rattle.loading.specs.View.{loading}
use Rattle.pechunaq.specs.Session.{resumed}
use Rattle.pechunaq.specs.View.{signature_in, session_of}
use Rattle.pechunaq.proofs.Laws.{resumes}
use Rattle.pechunaq.proofs.pechunaq_resume.Goals as goal

pub returns-in-Ok : goal.returns-in-Ok
unfolding resumed
returns-in-Ok c =
    let a = c.args in
    resumes c.load-loading.result (load (signature_in a.session) a.file.now) (session_of a.session) c.in-Ok.is
    (c.load-loading.ensures ∙ ap (λ (g : Sig). loading (load g a.file.now)) c.signature_of.ensures) refl

pub returns-in-Err : goal.returns-in-Err
unfolding resumed
returns-in-Err c =
    let a = c.args in
    resumes c.load-loading.result (load (signature_in a.session) a.file.now) (session_of a.session) c.in-Err.is
    (c.load-loading.ensures ∙ ap (λ (g : Sig). loading (load g a.file.now)) c.signature_of.ensures) refl
