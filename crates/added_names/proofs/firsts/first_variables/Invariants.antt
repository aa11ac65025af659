use Rattle.std.proofs.Common.{◌≡◌, take, ℕ, List, map, flat_map, ◌||◌}
use Rattle.added_names.specs.Changes.{declares}
use Rattle.added_names.specs.Firsts.{firsts, is_seen, knows}
use Rattle.added_names.proofs.firsts.first_variables.Given as goal

abbrev pub invariant-loop-one : goal.invariant-loop-one
invariant-loop-one l = record {
  kept : l.kept ≡ firsts (λ v. v.name) (flat_map declares l.members) (take l.one-index l.found);
  known : (q : List ℕ) → is_seen l.seen q ≡ (knows (flat_map declares l.members) q || knows (map (λ v. v.name) (take l.one-index l.found)) q);
}
