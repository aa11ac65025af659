use Rattle.da_front.proofs.WatchLemmas.{text_of_pieces}
use Rattle.da_front.proofs.watch.with_count.Goals as goal

pub returns : goal.returns
returns c =
    text_of_pieces c.args.text.now _ _ c.args.count c.from.result c.args.place _ _ _ _ _ c.before-front.ensures c.behind-back.ensures c.new-other.ensures c.from.ensures c.in_ok-append.ensures.ok c.in_ok-append-2.ensures.ok
    c.in_ok-write_number.ensures.ok c.in_ok-append-3.ensures.ok
