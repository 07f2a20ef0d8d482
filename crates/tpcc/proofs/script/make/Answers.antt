use Rattle.std.proofs.Common.{inl, inr}
use Rattle.std.proofs.lemmas.Result.{IfErr-weaker, err_from_is_err_and, on_err_weaker, on_ok_weaker}
use Rattle.tpcc.specs.Effects.{source_of}
use Rattle.tpcc.proofs.ScriptFiles.{of_making}
use Rattle.tpcc.proofs.script.make.Goals as goal

pub returns-in-Err-clause-fault : goal.returns-in-Err-clause-fault
returns-in-Err-clause-fault g c =
    inr (inl (c.in_ok-scale.scale, c.in_ok-scale.ensures.scale, c.in-Err.ensures.fault))

pub returns-clause-all : goal.returns-clause-all
returns-clause-all g c =
    on_ok_weaker c.write_scripts.result (λ names. (c.in_ok-scale.scale, c.in_ok-scale.ensures.scale, c.in-Ok.workload, c.in-Ok.ensures.value, names)) c.write_scripts.ensures.all

pub returns-clause-some : goal.returns-clause-some
returns-clause-some g c =
    on_err_weaker c.write_scripts.result (λ names. inr (c.in_ok-scale.scale, c.in_ok-scale.ensures.scale, c.in-Ok.workload, c.in-Ok.ensures.value, names)) c.write_scripts.ensures.some

pub returns-in_err-scale-clause-fault : goal.returns-in_err-scale-clause-fault
returns-in_err-scale-clause-fault g c =
    let p = err_from_is_err_and c.from_residual.result c.from_residual.ensures.1 in
    rw (p.1, p.2) (inl c.in_err-scale.ensures.fault)

pub returns-clause-fault : goal.returns-clause-fault
returns-clause-fault g c =
    IfErr-weaker c.write_scripts.result _ _
    (λ f h. of_making c.args.settings.now (source_of g.D.Input.remaining g.D.Input.lasts c.args.data) c.deref.result.now f c.deref.ensures.value h) c.write_scripts.ensures.fault
