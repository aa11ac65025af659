use Rattle.std.proofs.Common.{refl, sym, ◌∙◌}
use Rattle.std.proofs.lemmas.List.{length-map}
use Rattle.da_calls.specs.CallMethods.{body_of}
use Rattle.da_calls.proofs.CallMethods.{adds_known, adds_new, map_push}
use Rattle.da_calls.proofs.methods.add_method.Goals as goal

pub returns-then-is_some : goal.returns-then-is_some
returns-then-is_some c = adds_known _ _ _ _ _ c.find.result refl c.as_slice-name.ensures c.find.ensures c.if-is_some.ensures

pub returns-in-Ok : goal.returns-in-Ok
returns-in-Ok c = adds_new _ _ _ _ _ _ _ c.find.result c.len.result refl c.as_slice-name.ensures c.find.ensures c.if-is_some.ensures
    (c.len.ensures ∙ c.args.methods.now.list.ok.0 ∙ sym (length-map c.args.methods.now.list.items body_of))
    (map_push body_of _ _ c.args.method c.in-Ok.ensures.items) c.in_ok-put.ensures
