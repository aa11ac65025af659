-- The statements of a body as code keeps them.
use Rattle.std.specs.Prelude.{List, [], ◌∷◌, map}
use Rattle.da_lang.specs.declared.tree.Expr.{Expr}
use Rattle.da_lang.specs.Deeds as meaning
use Rattle.da_names.specs.declared.deeds.Deed.{Deed}
use Rattle.da_names.specs.declared.deeds.Doing.{Doing}
use Rattle.da_names.specs.declared.deeds.Doing.TheVariants as doing
use Rattle.da_names.specs.declared.deeds.Said.{Said}
use Rattle.da_names.specs.declared.deeds.Said.TheVariants as said

abbrev pub doing_of : Doing → meaning.Doing
doing_of doing.Sends = meaning.Sends
doing_of doing.Outputs = meaning.Outputs
doing_of (doing.Labels name) = meaning.Labels name.now
doing_of (doing.Calls name) = meaning.Calls name.now
doing_of doing.Loops = meaning.Loops
doing_of doing.Awaits = meaning.Awaits
doing_of doing.TimesOut = meaning.TimesOut
doing_of doing.Other = meaning.Other

abbrev pub said_of : Said → List Expr
said_of said.Nothing = []
said_of (said.One x) = x.now ∷ []
said_of (said.Two x y) = x.now ∷ y.now ∷ []
said_of (said.Many xs) = xs.now

abbrev pub deed_of : Deed → meaning.Deed
deed_of d = meaning.deed d.line (doing_of d.does) (said_of d.says)

unfoldable pub deeds_in : List Deed → List meaning.Deed
deeds_in ds = map deed_of ds
