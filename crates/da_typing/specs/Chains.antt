-- Types of chains, of comparisons and of sets, from those of their parts.
use Rattle.std.specs.Prelude.{Bool, ◌&&◌, if◌then◌else◌, List, [], ◌∷◌, Option, None}
use Rattle.std.specs.List.{list_all}
use Rattle.da_lang.specs.declared.program.ChainPart.{ChainPart, out-ChainPart}
use Rattle.da_lang.specs.declared.query.Query.{Query}
use Rattle.da_lang.specs.declared.tree.CmpOp.{CmpOp}
use Rattle.da_lang.specs.declared.ty.Ty.{Ty}
use Rattle.da_lang.specs.declared.ty.Ty.TheVariants as t
use Rattle.da_lang.specs.ExprTypes.{ExprType, takes, typing}
use Rattle.da_lang.specs.QueryTypes.{Known, asks_order, flat, given, holds_of, is_typed, when}
use Rattle.da_lang.specs.Types.{ordered, same_type}

-- a further operand is of a type, which its operation takes
abbrev pub operand_holds : Known → List Query → Ty → ChainPart → Bool
operand_holds known queries ty part = takes (out-ChainPart part).op ty && is_typed (typing known queries (out-ChainPart part).operand).type_ ty

abbrev pub chain_holds : Known → List Query → Ty → List ChainPart → Bool
chain_holds known queries ty more = list_all (operand_holds known queries ty) more

-- the type of the first operand, where those after it are of it
abbrev pub chained : Bool → Option Ty → Option Ty
chained holds found = given found (λ ty. given (when holds ty) flat)

-- the right side of a comparison keeps the rules, where the left one has this type
abbrev pub compared : CmpOp → Option Ty → ExprType → Bool
compared o found y = holds_of found (λ ty. if asks_order o then ordered ty && is_typed y.type_ ty else y.fits ty)

-- the type of the sets with elements of these types, which are all that of the first
abbrev pub set_over : List Ty → Option Ty
set_over [] = None
set_over (ty ∷ types) = given (when (list_all (λ other. same_type other ty) types) (t.Set ty)) flat
