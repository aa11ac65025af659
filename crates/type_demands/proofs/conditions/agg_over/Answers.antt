use Rattle.std.proofs.Common.{◌≡◌, ◌∙◌, ap, sym, append-nil, [], ◌++◌}
use Rattle.da_lang.specs.declared.query.Agg.{out-Agg}
use Rattle.da_lang.specs.declared.query.AggOp.{AggOp}
use Rattle.type_table.specs.declared.scheme.Scheme.TheVariants as s
use Rattle.type_demands.specs.Conds.{SideSym, agg_over, other_sym, side_sym}
use Rattle.type_demands.specs.Demands.{at_line}
use Rattle.type_demands.specs.KnownView.{context_of}
use Rattle.type_demands.proofs.conditions.agg_over.Goals as goal

pub returns-in-Count : goal.returns-in-Count
returns-in-Count c =
    let other = other_sym (context_of c.args.known.now) (out-Agg c.args.agg.now).other c.args.row.now in
    let is : agg_over (out-Agg c.args.agg.now).op c.args.scheme other ≡ side_sym (record { demands = []; scheme = s.Int }) = ap (λ (op : AggOp). agg_over op c.args.scheme other) c.in-Count.is in
    (sym (ap (λ (x : SideSym). x.itself.scheme) is), sym (ap (λ (x : SideSym). x.sum) is), sym (append-nil c.args.demands.now) ∙ sym (ap (λ (x : SideSym). c.args.demands.now ++ at_line c.args.known.now.line x.itself.demands) is))
