-- A block where some things are open.
use Rattle.std.proofs.Common.{◌≡◌, ℕ, suc, ◌+◌, ◌-◌, ◌<◌, List, refl, arith, add-one}
use Rattle.da_values.specs.Marks.{Tok}
use Rattle.da_phrases.specs.Exprs.{at_depth}
use Rattle.da_parse.specs.Stmts.{bodies, body_at, body_below}

pub body_there : (d : ℕ) (i : List Tok) → d < 32 → body_below d i ≡ body_at (d + 1) i
unfolding body_at body_below bodies at_depth
body_there d i under =
    let e : 32 - d ≡ suc (32 - (d + 1)) = omega arith in
    rw (e, add-one) refl
