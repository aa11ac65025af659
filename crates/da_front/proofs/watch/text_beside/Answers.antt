use Rattle.da_front.specs.WatchText.{other_main}
use Rattle.da_front.proofs.WatchLemmas.{has_other_main, is_beside}
use Rattle.da_front.proofs.watch.text_beside.Goals as goal

pub returns-then-not-makes_one-clause-refused : goal.returns-then-not-makes_one-clause-refused
returns-then-not-makes_one-clause-refused c = other_main _ (has_other_main _ _ _ _ _ c.in_ok-tree.ensures.ok c.as_slice-main.ensures c.makes_one.ensures c.if-not-makes_one.true c.odd_line.ensures)

pub returns-clause-beside : goal.returns-clause-beside
returns-clause-beside c =
    is_beside _ _ _ _ _ _ _ _ _ _ c.in_ok-tree.ensures.ok c.as_slice-main.ensures c.makes_one.ensures c.if-not-makes_one.false c.in-Ok.ensures.ok c.as_slice.ensures c.class_end-found.ensures c.in-Some.is c.in-Ok-with_count.ensures
