use Rattle.std.proofs.Common.{Some, None, ◌∙◌, ap, sym, bytes_eq, if◌then◌else◌}
use Rattle.std.specs.Option.{option_or}
use Rattle.da_names.specs.MainView.{at_name}
use Rattle.da_names.proofs.MainMaps.{put_first}
use Rattle.da_names.proofs.arities.add_class.Goals as goal

pub returns-in-Ok : goal.returns-in-Ok
returns-in-Ok c = λ q.
    let old = c.args.arities.now in
    put_first old c.insert.new.self c.as_slice-name.result.now c.arity_of.result c.in-Ok.ensures.updates (sym c.if-contains_key.ensures) q
    ∙ ap (λ name. option_or (at_name old q) (if bytes_eq name q then Some c.arity_of.result else None)) c.as_slice-name.ensures
    ∙ ap (λ arity. option_or (at_name old q) (if bytes_eq c.args.class.now.name q then Some arity else None)) c.arity_of.ensures
