use Rattle.std.specs.Prelude.{◌+◌}
use Rattle.trace_page.specs.Layout.{beside, x_of, y_of}
use Rattle.trace_page.specs.declared.markup.Markup.TheVariants.{Stub}
use Rattle.trace_page.proofs.ArrowLemmas.{way_put}
use Rattle.trace_page.proofs.ways.put_stub.Goals as goal

pub returns : goal.returns
returns c =
    let page = c.args.page.now in
    way_put page Stub c.args.p c.args.q c.args.at.now.event c.args.at.now.event c.point_at-a.result.x c.point_at-a.result.y c.below-b.result.x c.below-b.result.y
    (x_of page c.args.p) (y_of c.args.at.now.line) (beside (x_of page c.args.p) (x_of page c.args.q)) (y_of c.args.at.now.line + 9) c.args.out.now c.put_way.new.out c.put_way.result
    c.point_at-a.ensures.x c.point_at-a.ensures.y c.below-b.ensures.x c.below-b.ensures.y c.put_way.ensures
