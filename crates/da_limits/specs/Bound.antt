-- How many names a part of a text binds, up to 65,535.
use Rattle.std.specs.Prelude.{ℕ, List, map, length, Option, option_to_list, flat_map}
use Rattle.std.specs.Option.{option_map}
use Rattle.da_lang.specs.declared.tree.Expr.{Expr}
use Rattle.da_lang.specs.declared.tree.GenTree.{GenTree}
use Rattle.da_lang.specs.declared.tree.PatternTree.{PatternTree}
use Rattle.da_lang.specs.declared.tree.PeerTree.{PeerTree}
use Rattle.da_lang.specs.ExprNames.{Part, pattern_part, peer_part, gen_part, found_names}
use Rattle.da_lang.specs.Resolution.{from_matching}
use Rattle.da_limits.specs.Capped.{capped}

abbrev pub bound_by : List Part → ℕ
bound_by parts = capped (length (flat_map (λ (part : Part). part.binds) parts))

unfoldable pub bound : PatternTree → ℕ
bound p = capped (length (pattern_part p).binds)

unfoldable pub bound_in_all : List PatternTree → ℕ
bound_in_all ps = bound_by (map pattern_part ps)

unfoldable pub bound_by_from : Option PatternTree → ℕ
bound_by_from from = capped (length (from_matching from).binds)

unfoldable pub bound_by_peer : Option PeerTree → ℕ
bound_by_peer peer = bound_by (option_to_list (option_map peer_part peer))

unfoldable pub bound_by_gen : GenTree → ℕ
bound_by_gen g = capped (length (gen_part g).binds)

unfoldable pub bound_by_all : List GenTree → ℕ
bound_by_all gens = bound_by (map gen_part gens)

-- the names that a condition binds for its block
unfoldable pub found : Expr → ℕ
found x = capped (length (found_names x))
