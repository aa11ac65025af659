use Rattle.std.proofs.Common.{◌≡◌, map, take}
use Rattle.da_lang.specs.ExprMeaning.{all_outside, meant, signed_of, signed_outside}
use Rattle.da_meaning.proofs.expr.+outside.Given as goal

abbrev pub invariant-all_outside-loop-x : goal.invariant-all_outside-loop-x
invariant-all_outside-loop-x l = record {
  found : l.found ≡ (all_outside (map meant (take l.x-index l.xs)) l.scope l.initial.tables).0;
  tables : l.tables ≡ (all_outside (map meant (take l.x-index l.xs)) l.scope l.initial.tables).1;
  slots : l.tables.slots ≡ l.initial.tables.slots;
}

abbrev pub invariant-links_outside-loop-link : goal.invariant-links_outside-loop-link
invariant-links_outside-loop-link l = record {
  found : l.found ≡ (signed_outside (map signed_of (take l.link-index l.links)) l.scope l.initial.tables).0;
  tables : l.tables ≡ (signed_outside (map signed_of (take l.link-index l.links)) l.scope l.initial.tables).1;
  slots : l.tables.slots ≡ l.initial.tables.slots;
}
