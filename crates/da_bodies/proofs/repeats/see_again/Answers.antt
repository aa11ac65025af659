use Rattle.std.proofs.Common.{◌∙◌, ap, bytes_eq, inl, inr, sym}
use Rattle.std.proofs.lemmas.List.{take_all}
use Rattle.std.specs.List.{list_any}
use Rattle.da_bodies.specs.Repeats.{declared_in}
use Rattle.da_bodies.proofs.AgainLaws.{again_more, among_names, names_of, seen_more, told_if}
use Rattle.da_bodies.proofs.TellingLaws.{telling-nil}
use Rattle.da_bodies.proofs.repeats.see_again.Goals as goal
use Rattle.da_bodies.proofs.repeats.see_again.Goals.{then-has_seen, else-has_seen}

pub loop-one-init : goal.loop-one-init
loop-one-init c = record {
  told = sym (telling-nil c.args.least.now);
  known = c.nothing_seen-seen.ensures;
}

pub loop-one-preserved : goal.loop-one-preserved
loop-one-preserved c =
    let l = c.loop-one in
    record {
      told = again_more c.args.kind c.args.least.now l.least c.if-has_seen.least c.args.declared.now l.one-index _ c.has_seen.result c.loop-one-test.true l.invariant.told
          (c.has_seen.ensures ∙ l.invariant.known _)
          (told_if c.args.kind _ l.least c.if-has_seen.least c.has_seen.result (elim c.if-has_seen.branch [
            | then-has_seen w ↦ inl (w.if-has_seen.true, w.least-is ∙ w.tell.ensures)
            | else-has_seen w ↦ inr (w.if-has_seen.false, w.least-is)
          ]));
      known = λ q. seen_more q c.args.declared.now l.one-index _ _ _ c.loop-one-test.true (l.invariant.known q) (c.in_ok-see.ensures q);
    }

pub returns-clause-seen : goal.returns-clause-seen
returns-clause-seen c = λ q.
    let l = c.loop-one in
    let ds = c.args.declared.now in
    l.invariant.known q
    ∙ ap (λ es. list_any (bytes_eq q) (names_of (declared_in es))) (take_all l.one-index ds c.loop-one-test.false)
    ∙ among_names q (declared_in ds)
