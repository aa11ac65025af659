-- Types of expressions outside queries. Where a rule is broken there is no type.
use Rattle.std.specs.Prelude.{Bool, true, false, ◌&&◌, ◌||◌, if◌then◌else◌, List, [], ◌∷◌, map, Option, Some, None}
use Rattle.std.specs.List.{list_all}
use Rattle.da_lang.specs.declared.program.ChainPart.{ChainPart}
use Rattle.da_lang.specs.declared.program.RExpr.{RExpr}
use Rattle.da_lang.specs.declared.program.RExpr.TheFolds.{fold-RExpr, fold-ChainPart}
use Rattle.da_lang.specs.declared.program.RExpr.TheOpen.{RExpr-F, ChainPart-F}
use Rattle.da_lang.specs.declared.query.Query.{Query}
use Rattle.da_lang.specs.declared.tree.ArithOp.{ArithOp}
use Rattle.da_lang.specs.declared.tree.ArithOp.TheVariants as op
use Rattle.da_lang.specs.declared.tree.CmpOp.{CmpOp}
use Rattle.da_lang.specs.declared.ty.Ty.{Ty}
use Rattle.da_lang.specs.declared.ty.Ty.TheVariants as t
use Rattle.da_lang.specs.QueryTypes.{Known, given, holds_of, when, flat, all_types, is_typed, asks_order, literal_type, slot_type, query_type}
use Rattle.da_lang.specs.Types.{ordered, is_flat, is_int, is_bool, is_set, parts_of, element_of}
use Rattle.da_lang.specs.World.{at_number}

-- The type of an expression by itself, and whether it fits a place that asks for a type. The two differ at `{}`, which
-- has no type by itself, and at tuples and sets that hold one.
pub record ExprType : Type 0 where
  pub type_ : Option Ty
  pub fits : Ty → Bool

-- an expression that has its type by itself, of at most 32 levels
abbrev pub by_itself : Option Ty → ExprType
by_itself found = record { type_ = given found flat; fits = λ asked. is_typed (given found flat) asked }

-- the parts of a tuple fit those that are asked for, the elements of a set the one
abbrev pub parts_fit : List ExprType → List Ty → Bool
parts_fit [] [] = true
parts_fit [] (ty ∷ types) = false
parts_fit (x ∷ xs) [] = false
parts_fit (x ∷ xs) (ty ∷ types) = x.fits ty && parts_fit xs types

abbrev pub tuple_typing : List ExprType → ExprType
tuple_typing xs = record {
  type_ = given (all_types (map (λ x. x.type_) xs)) (λ types. flat (t.Tuple types));
  fits = λ asked. is_flat asked && holds_of (parts_of asked) (parts_fit xs);
}

-- all of one type, the first one's
abbrev pub all_typed : List ExprType → Ty → Bool
all_typed xs ty = list_all (λ x. is_typed x.type_ ty) xs

abbrev pub set_type : List ExprType → Option Ty
set_type [] = None
set_type (x ∷ xs) = given x.type_ (λ ty. given (when (all_typed xs ty) (t.Set ty)) flat)

abbrev pub set_typing : List ExprType → ExprType
set_typing xs = record {
  type_ = set_type xs;
  fits = λ asked. is_flat asked && holds_of (element_of asked) (λ element. list_all (λ x. x.fits element) xs);
}

abbrev pub is : (Ty → Bool) → ExprType → Bool
is test x = holds_of x.type_ test

abbrev pub int : ExprType → Bool
int = is is_int

abbrev pub truth : ExprType → Bool
truth = is is_bool

-- the type where all rules of a form hold
abbrev pub gives : Bool → Ty → ExprType
gives holds ty = by_itself (when holds ty)

-- the right side of `==` and `!=` fits the type of the left one; other comparisons are of one ordered type
abbrev pub comparison : CmpOp → ExprType → ExprType → Bool
comparison o x y = holds_of x.type_ (λ ty. if asks_order o then ordered ty && is_typed y.type_ ty else y.fits ty)

abbrev pub member : ExprType → ExprType → Bool
member x y = holds_of (given y.type_ element_of) (is_typed x.type_)

-- the further operands of a chain are of the type of the first, an integer or for `+`, `-` and `*` a set
pub record Further : Type 0 where
  pub op : ArithOp
  pub typing : ExprType

abbrev pub is_for_sets : ArithOp → Bool
is_for_sets op.Plus = true
is_for_sets op.Minus = true
is_for_sets op.Times = true
is_for_sets op.Div = false
is_for_sets op.Mod = false

abbrev pub takes : ArithOp → Ty → Bool
takes o ty = is_int ty || (is_for_sets o && is_set ty)

abbrev pub chain_type : ExprType → List Further → Option Ty
chain_type x more = given x.type_ (λ ty. when (list_all (λ y. takes y.op ty && is_typed y.typing.type_ ty) more) ty)

module _ (known : Known) (queries : List Query) where
  abbrev pub expr_step : RExpr-F ExprType Further → ExprType
  expr_step (RExpr-F.Const value) = by_itself (literal_type value)
  expr_step (RExpr-F.Procs processes) = by_itself (Some (t.Set t.Proc))
  expr_step RExpr-F.Me = by_itself (Some t.Proc)
  expr_step (RExpr-F.Slot slot) = by_itself (slot_type known slot)
  expr_step RExpr-F.Clock = by_itself (Some t.Int)
  expr_step (RExpr-F.Ask query) = by_itself (given (at_number queries query) (query_type known))
  expr_step (RExpr-F.Range x y) = gives (int x && int y) (t.Set t.Int)
  expr_step (RExpr-F.Tuple xs) = tuple_typing xs
  expr_step (RExpr-F.SetOf xs) = set_typing xs
  expr_step (RExpr-F.Or xs) = gives (list_all truth xs) t.Bool
  expr_step (RExpr-F.And xs) = gives (list_all truth xs) t.Bool
  expr_step (RExpr-F.Not x) = gives (truth x) t.Bool
  expr_step (RExpr-F.Cmp o x y) = gives (comparison o x y) t.Bool
  expr_step (RExpr-F.Member x y) = gives (member x y) t.Bool
  expr_step (RExpr-F.Chain x more) = by_itself (chain_type x more)

  abbrev pub part_step : ChainPart-F ExprType Further → Further
  part_step p = record { op = p.op; typing = p.operand }

  unfoldable pub typing : RExpr → ExprType
  typing = fold-RExpr ExprType Further expr_step part_step

  unfoldable pub part_typing : ChainPart → Further
  part_typing = fold-ChainPart ExprType Further expr_step part_step
