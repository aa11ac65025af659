-- How many types a program takes, by sums.
use Rattle.std.specs.Prelude.{◌≡◌, ℕ, ◌+◌, List, length, map, sum}
use Rattle.std.proofs.Common.{ap, arith}
use Rattle.da_lang.specs.declared.tree.ClassTree.{ClassTree}
use Rattle.da_lang.specs.declared.tree.Tree.{Tree}
use Rattle.added_names.specs.declared.added.AddedTag.{AddedTag}
use Rattle.added_names.specs.declared.added.OpenPlace.{OpenPlace}
use Rattle.added_names.specs.Changes.{added_variables}
use Rattle.added_names.specs.Filled.{type_count}
use Rattle.added_names.specs.StmtTags.{added_tags}
use Rattle.added_names.specs.Tags.{Tags}

-- what code has counted
module _ (t : Tree) (listed : Tags) (tags : listed ≡ added_tags t) (classes : List ClassTree) (same : classes ≡ t.classes) (parts variables types : ℕ)
    (first : parts ≡ sum (map (λ (x : AddedTag). x.parts) listed)) (second : variables ≡ sum (map (λ (c : ClassTree). length (added_variables c)) classes)) (both : types ≡ parts + variables) where
  pub counted : (places : List OpenPlace) (others count : ℕ) → others ≡ length places → count ≡ types + others → count ≡ type_count (record { tree = t; untyped = places })
  unfolding type_count
  counted places others count open_places all =
      omega (arith, first, second, both, open_places, all, ap (λ (xs : Tags). sum (map (λ (x : AddedTag). x.parts) xs)) tags, ap (λ (cs : List ClassTree). sum (map (λ (c : ClassTree). length (added_variables c)) cs)) same)
