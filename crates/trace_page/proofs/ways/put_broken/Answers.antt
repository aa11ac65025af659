use Rattle.trace_page.specs.Layout.{x_of, y_of}
use Rattle.trace_page.specs.declared.markup.Markup.TheVariants.{Broken}
use Rattle.trace_page.proofs.ArrowLemmas.{way_put}
use Rattle.trace_page.proofs.ways.put_broken.Goals as goal

pub returns : goal.returns
returns c =
    let page = c.args.page.now in
    way_put page Broken c.args.p c.args.q c.args.place.event c.args.at.now.event c.point_at-a.result.x c.point_at-a.result.y c.point_at-b.result.x c.point_at-b.result.y
    (x_of page c.args.p) (y_of c.args.place.line) (x_of page c.args.p) (y_of c.args.at.now.line) c.args.out.now c.put_way.new.out c.put_way.result
    c.point_at-a.ensures.x c.point_at-a.ensures.y c.point_at-b.ensures.x c.point_at-b.ensures.y c.put_way.ensures
