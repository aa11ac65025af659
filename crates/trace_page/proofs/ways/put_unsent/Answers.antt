use Rattle.std.specs.Prelude.{◌-◌}
use Rattle.trace_page.specs.Layout.{beside, x_of, y_of}
use Rattle.trace_page.specs.declared.markup.Markup.TheVariants.{Arrow}
use Rattle.trace_page.proofs.ArrowLemmas.{way_put}
use Rattle.trace_page.proofs.ways.put_unsent.Goals as goal

pub returns : goal.returns
returns c =
    let page = c.args.page.now in
    way_put page Arrow c.args.p c.args.q c.args.at.now.event c.args.at.now.event c.nowhere-a.result.x c.nowhere-a.result.y c.point_at-b.result.x c.point_at-b.result.y
    (beside (x_of page c.args.q) (x_of page c.args.p)) (y_of c.args.at.now.line - 9) (x_of page c.args.q) (y_of c.args.at.now.line) c.args.out.now c.put_way.new.out c.put_way.result
    c.nowhere-a.ensures.x c.nowhere-a.ensures.y c.point_at-b.ensures.x c.point_at-b.ensures.y c.put_way.ensures
