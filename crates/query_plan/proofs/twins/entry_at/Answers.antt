use Rattle.std.proofs.Common.{◌∙◌, Some, ap, get_or, sym, []}
use Rattle.std.proofs.lemmas.Option.{slice_get-get_or}
use Rattle.query_plan.specs.Nodes.{in_order, width_step}
use Rattle.query_plan.proofs.twins.entry_at.Goals as goal

pub entry_of-requires : goal.entry_of-requires
entry_of-requires c = record {
  plan = c.requires.plan;
  root = c.requires.root;
  entries = c.requires.entries;
  many = c.requires.many;
  there = slice_get-get_or c.args.nodes.now c.args.i c.index-nodes-i.result c.requires.within ∙ ap Some (sym c.index-nodes-i.is);
  width = c.width_at.ensures ∙ ap (λ ws. get_or ws c.in_ok-here.here 0) c.requires.widths ∙ ap (λ k. get_or (in_order 0 width_step [] c.args.nodes.now) k 0) c.in_ok-here.ensures;
}
