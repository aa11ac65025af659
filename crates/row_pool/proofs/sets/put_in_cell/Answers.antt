use Rattle.std.proofs.Common.{ℕ, ◌<◌, ◌^◌, List, length, arith, refl, sym, subst}
use Rattle.std.proofs.lemmas.List.Edits.{length-insert}
use Rattle.row_pool.proofs.PutLaws.{at_err, same_cell}
use Rattle.row_pool.proofs.sets.put_in_cell.Goals as goal

pub returns-clause-grows : goal.returns-clause-grows
returns-clause-grows c = record {
  value = c.in_ok-put_both.ensures.value;
  parts = c.in_ok-put_both.ensures.parts;
  few = subst (λ (ps : List ℕ). length ps < 2 ^ 62) (sym c.in_ok-put_both.ensures.parts) (omega (arith, length-insert c.args.cell.now.parts c.args.at c.args.part c.requires, c.has_room.ensures c.if-not-has_room.false));
  holders = refl;
  number = refl;
}

pub returns-in_err-put_both-clause-err : goal.returns-in_err-put_both-clause-err
returns-in_err-put_both-clause-err c = at_err _ _ (same_cell c.args.cell.now c.put_both.new.parts c.put_both.new.value c.in_err-put_both.ensures.same_parts c.in_err-put_both.ensures.same_value)
