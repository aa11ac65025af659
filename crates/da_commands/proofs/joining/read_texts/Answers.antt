use Rattle.std.proofs.Common.{◌≡◌, ◌∙◌, ◌+◌, [], ◌∷◌, ◌++◌, ap, map, rules, subst, sym, take}
use Rattle.std.specs.Prelude.{Option}
use Rattle.std.specs.String.{string_bytes}
use Rattle.da_outside.specs.Outside.{IsWhole, Rose}
use Rattle.sched_text.specs.TraceText.{trace_limit}
use Rattle.da_commands.specs.JoinSteps.{AreWhole}
use Rattle.da_commands.proofs.JoinLemmas.{err_as, has_name, stays, texts_on}
use Rattle.da_commands.proofs.joining.read_texts.Goals as goal

pub loop-name-preserved : goal.loop-name-preserved
loop-name-preserved g c =
    let named : c.as_str.result.now ≡ string_bytes c.name-item.result = (search rules) in
    let told : g.F.Files.told c.loop-name.files c.as_str.result.now ≡ g.F.Files.told c.args.files.now (string_bytes c.name-item.result) =
    ap (g.F.Files.told c.loop-name.files) named ∙ c.loop-name.invariant.told (string_bytes c.name-item.result) in
    let whole : IsWhole (g.F.Files.told c.args.files.now (string_bytes c.name-item.result)) trace_limit c.in-Ok.text = subst (λ o. IsWhole o trace_limit c.in-Ok.text) told c.in-Ok.ensures.whole in
    let pushed : c.push.new.self ≡ c.loop-name.texts ++ c.in-Ok.text ∷ [] = (search rules) in
    record {
      whole = subst (AreWhole trace_limit (map (λ name. g.F.Files.told c.args.files.now (string_bytes name)) (take (c.loop-name.name-index + 1) c.args.names.now))) (sym pushed)
          (texts_on trace_limit (g.F.Files.told c.args.files.now) c.args.names.now c.loop-name.name-index c.name-item.result c.loop-name-test.true c.name-item.is c.loop-name.texts c.in-Ok.text c.loop-name.invariant.whole whole);
      told = λ x. c.in-Ok.ensures.same x ∙ c.loop-name.invariant.told x;
      faults = λ x. stays c.read_all.result c.in-Ok.text _ _ c.in-Ok.is (c.in-Ok.ensures.later x) (c.read_all.ensures.rises x) ∙ c.loop-name.invariant.faults x;
    }

pub returns-in-Err-clause-failed : goal.returns-in-Err-clause-failed
returns-in-Err-clause-failed g c = λ failed.
    let named : c.as_str.result.now ≡ string_bytes c.name-item.result = (search rules) in
    let rose : Rose (g.F.Files.faults c.loop-name.files c.as_str.result.now) (g.F.Files.faults c.read_all.new.files c.as_str.result.now) = c.in-Err.ensures.cause.failed (err_as c.in-Err.trouble failed) in (
      string_bytes c.name-item.result,
      has_name c.args.names.now c.loop-name.name-index c.name-item.result c.loop-name-test.true c.name-item.is,
      subst (λ n. Rose n (g.F.Files.faults c.read_all.new.files (string_bytes c.name-item.result))) (c.loop-name.invariant.faults (string_bytes c.name-item.result))
          (subst (λ x. Rose (g.F.Files.faults c.loop-name.files x) (g.F.Files.faults c.read_all.new.files x)) named rose),
    )
