-- What `setup` may not hold: a query, and in `main` the clock too.
use Rattle.std.specs.Prelude.{Bool, ◌||◌, ◌&&◌}
use Rattle.da_lang.specs.declared.tree.ChainTree.{ChainTree, out-ChainTree}
use Rattle.da_lang.specs.declared.tree.Expr.{Expr}
use Rattle.da_lang.specs.Written.{asks, reads_clock}

unfoldable pub asks_early : Bool → Expr → Bool
asks_early clock x = asks x || (clock && reads_clock x)

unfoldable pub link_asks_early : Bool → ChainTree → Bool
link_asks_early clock c = asks_early clock (out-ChainTree c).operand
