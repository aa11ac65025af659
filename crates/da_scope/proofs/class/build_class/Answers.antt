use Rattle.std.proofs.Common.{◌≡◌, ◌∙◌}
use Rattle.da_scope.proofs.ClassAt.{class_built}
use Rattle.da_scope.proofs.class.build_class.Goals as goal

pub returns : goal.returns
returns c =
    let home = c.in_ok-home.home in
    class_built c.args.class.now home.class.now _ c.build_setup.new.tables c.build_run.new.tables c.add_handlers.new.tables _ _ _ _ _ c.new-handlers.result _
    c.in_ok-home.ensures.class (c.in_ok-name.ensures ∙ c.as_slice.ensures) c.in_ok-params.ensures.params c.in_ok-params.ensures.items c.in_ok-params.ensures.tables
    c.in_ok-run.ensures.items c.in_ok-run.ensures.tables c.new-handlers.ensures c.in_ok-add_handlers.ensures.handlers c.in_ok-add_handlers.ensures.tables
    c.into_parts-slots.ensures.slots c.into_parts-slots.ensures.queries
