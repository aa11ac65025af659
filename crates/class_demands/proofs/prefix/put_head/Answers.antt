use Rattle.std.proofs.Common.{◌∙◌, ap₂, if◌then◌else◌, List, [], Bool, ℕ, subst}
use Rattle.std.specs.List.{list_any}
use Rattle.type_demands.specs.declared.demand.Demand.{Demand}
use Rattle.class_demands.specs.Marks.{Puts, is_marked}
use Rattle.class_demands.specs.Prefix.{seen}
use Rattle.class_demands.proofs.MarkLaws.{head_put}
use Rattle.class_demands.proofs.prefix.put_head.Goals as goal

pub returns : goal.returns
returns c =
    let found = seen c.args.found.now in
    let then_found = seen c.put_where.new.found in
    let holds = c.any_marked-is_used.result in
    head_put c.args.head.now c.args.used.now c.put_where.new.used found then_found holds
    (c.any_marked-is_used.ensures ∙ ap₂ (λ (used : List Bool) (slots : List ℕ). list_any (is_marked used) slots) c.as_slice-2.ensures c.as_slice.ensures)
    (subst (λ (demands : List Demand). Puts c.args.used.now found c.put_where.new.used then_found (if holds then demands else [])) c.as_slice-3.ensures c.in_ok-put_where.ensures)
