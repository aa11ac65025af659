use Rattle.std.proofs.Common.{◌≡◌, take, ℕ, List, map, ◌||◌}
use Rattle.added_names.specs.Firsts.{firsts, is_seen, knows}
use Rattle.added_names.proofs.firsts.first_tags.Given as goal

abbrev pub invariant-loop-one : goal.invariant-loop-one
invariant-loop-one l = record {
  kept : l.kept ≡ firsts (λ x. x.tag) (map (λ m. m.tag) l.messages) (take l.one-index l.found);
  known : (q : List ℕ) → is_seen l.seen q ≡ (knows (map (λ m. m.tag) l.messages) q || knows (map (λ x. x.tag) (take l.one-index l.found)) q);
}
