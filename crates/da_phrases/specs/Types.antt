-- How types are read.
use Rattle.std.specs.Prelude.{ℕ, zero, suc, ◌-◌, Bool, [], ◌∷◌, Option, Some}
use Rattle.da_values.specs.declared.token.Mark.{Mark}
use Rattle.da_values.specs.declared.token.Mark.TheVariants as m
use Rattle.da_lang.specs.declared.ty.Ty.{Ty}
use Rattle.da_lang.specs.declared.ty.Ty.TheVariants as ty
use Rattle.da_phrases.specs.Reader.{Reader, ◌>>=◌, ◌>>◌, pure, refuse, past, by_mark, expect}
use Rattle.da_phrases.specs.Lists.{closed}
use Rattle.da_phrases.specs.Place.{Limit, at_most_32, opens, opening}

module _ (may_open : ℕ → Bool) (inner : Reader Ty) where
  -- after `set`
  unfoldable pub set_type : Reader Ty
  set_type = do
    opening may_open m.OpenBracket
    x ← inner
    expect m.CloseBracket
    pure (ty.Set x)

  -- after `(`
  unfoldable pub tuple_type : Reader Ty
  tuple_type = do
    x ← inner
    expect m.Comma
    xs ← closed m.CloseParen inner (x ∷ [])
    pure (ty.Tuple xs)

  abbrev pub type_by : Option Mark → Reader Ty
  type_by (Some m.Int) = past (pure ty.Int)
  type_by (Some m.Bool) = past (pure ty.Bool)
  type_by (Some m.Str) = past (pure ty.Text)
  type_by (Some m.Proc) = past (pure ty.Proc)
  type_by (Some m.Set) = past set_type
  type_by (Some m.OpenParen) = opens may_open >> tuple_type
  type_by _ = refuse

  unfoldable pub type_in : Reader Ty
  type_in = by_mark type_by

-- a type where d things are open; the first number bounds how many more there are
unfoldable pub types : Limit → ℕ → ℕ → Reader Ty
types limit zero d = refuse
types limit (suc f) d = type_in (limit d) (types limit f (suc d))

-- a type one deeper than where d things are open, of which there are at most 32, and a type there
unfoldable pub type_below : ℕ → Reader Ty
type_below d = types at_most_32 (32 - d) (suc d)

unfoldable pub type_at : ℕ → Reader Ty
type_at d = type_in (at_most_32 d) (type_below d)
