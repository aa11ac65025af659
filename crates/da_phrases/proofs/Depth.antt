-- What is known of the place where some things are open.
use Rattle.std.proofs.Common.{◌≡◌, ℕ, zero, suc, ◌+◌, ◌-◌, ◌<◌, List, refl, sym, ap, arith, add-one}
use Rattle.std.specs.Prelude.{nat_lt}
use Rattle.da_values.specs.Marks.{Tok}
use Rattle.da_phrases.specs.declared.place.Level.{Level}
use Rattle.da_phrases.specs.Place.{Limit, at_most_32}
use Rattle.da_phrases.specs.Exprs.{place, at_depth, at_level, pattern}
use Rattle.da_phrases.specs.Types.{types, type_at, type_below, type_in}

room_at : (limit : Limit) (f d left : ℕ) → (place limit f d).may_open left ≡ limit d left
unfolding place
room_at limit zero d left = refl
room_at limit (suc f) d left = refl

pub room_there : (d left : ℕ) → (at_depth d).may_open left ≡ nat_lt d 32
unfolding at_depth
room_there d left = room_at at_most_32 (32 - d) d left

pub expr_there : (d : ℕ) (level : Level) (i : List Tok) → d < 32 → (at_depth d).expr level i ≡ at_level (at_depth (d + 1)) level i
unfolding at_depth place
expr_there d level i under =
    let e : 32 - d ≡ suc (32 - (d + 1)) = omega arith in
    rw (e, add-one) refl

pub pattern_there : (d : ℕ) (i : List Tok) → d < 32 → (at_depth d).pattern i ≡ pattern (at_depth (d + 1)) i
unfolding at_depth place
pattern_there d i under =
    let e : 32 - d ≡ suc (32 - (d + 1)) = omega arith in
    rw (e, add-one) refl

may_open_at : (limit : Limit) (f d : ℕ) → (place limit f d).may_open ≡ limit d
unfolding place
may_open_at limit zero d = refl
may_open_at limit (suc f) d = refl

pub types_there : (d : ℕ) (i : List Tok) → type_at d i ≡ type_in (at_depth d).may_open (type_below d) i
unfolding at_depth type_at
types_there d i = ap (λ may_open. type_in may_open (type_below d) i) (sym (may_open_at at_most_32 (32 - d) d))

pub type_there : (d : ℕ) (i : List Tok) → d < 32 → type_below d i ≡ type_at (d + 1) i
unfolding type_at type_below types
type_there d i under =
    let e : 32 - d ≡ suc (32 - (d + 1)) = omega arith in
    rw (e, add-one) refl
