use Rattle.std.proofs.Common.{◌∙◌, ap, sym}
use Rattle.std.specs.Prelude.{if◌then◌else◌}
use Rattle.query_plan.specs.Nodes.{reads}
use Rattle.query_plan.specs.Storing.{all_kept, is_kept}
use Rattle.query_plan.proofs.storing.keep_read_of.Goals as goal

pub returns-then-not-is_kept : goal.returns-then-not-is_kept
returns-then-not-is_kept c =
    ap (λ b. if b then all_kept c.args.kept.now (reads c.args.node.now) else c.args.kept.now) (sym c.if-not-is_kept.true ∙ c.is_kept.ensures ∙ ap (λ kept. is_kept kept c.args.i) c.as_slice.ensures)

pub returns : goal.returns
returns c =
    c.keep_read.ensures
    ∙ ap (λ b. if b then all_kept c.args.kept.now (reads c.args.node.now) else c.args.kept.now) (sym c.if-not-is_kept.false ∙ c.is_kept.ensures ∙ ap (λ kept. is_kept kept c.args.i) c.as_slice.ensures)
