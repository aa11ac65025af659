-- Conditions that compare parts of a row with what has no part.
use Rattle.std.specs.Prelude.{◌≡◌, ℕ, Bool, true, false, if◌then◌else◌, List, [], ◌∷◌, map, slice_get, Option, Some, None}
use Rattle.std.specs.List.{list_any}
use Rattle.da_values.specs.Order.{val_cmp}
use Rattle.da_values.specs.declared.val.Val.{Val}
use Rattle.da_values.specs.declared.val.Val.TheVariants as val
use Rattle.da_lang.specs.declared.query.Cond.{Cond, out-Cond}
use Rattle.da_lang.specs.declared.query.Cond.TheOpen.{Cond-F}
use Rattle.da_lang.specs.declared.query.Operand.{Operand}
use Rattle.da_lang.specs.declared.query.Term.{Term}
use Rattle.da_lang.specs.declared.query.Term.TheOpen as term
use Rattle.da_lang.specs.declared.query.Term.TheOpen.{Term-F}
use Rattle.da_lang.specs.declared.query.Term.TheFolds.{fold-Term}
use Rattle.da_lang.specs.declared.tree.CmpOp.{CmpOp}
use Rattle.da_lang.specs.declared.tree.CmpOp.TheVariants.{Eq, Ne, Lt, Le, Gt, Ge}
use Rattle.da_lang.specs.Matching.{Row}
use Rattle.da_lang.specs.Queries.{compares, holds, operand_value}
use Rattle.da_lang.specs.World.{Data, or_nothing}
use Rattle.row_terms.specs.declared.ranges.Range.{Range}

-- the part at a place, or what stands for one that is not there
abbrev pub part : Row → ℕ → Val
part row place = or_nothing (slice_get row place)

-- the parts of a row at some places
abbrev pub key_parts : List ℕ → Row → Row
key_parts places row = map (part row) places

-- what a range compares of a row: the tuple of these parts, or the one that there is
abbrev pub compared : Bool → Row → Val → Type 0
compared true parts v = parts ≡ v ∷ []
compared false parts v = v ≡ val.Tuple parts

-- By this sign, and with its bound on this side, a range compares these values of rows.
pub record Compares (range : Range) (sign : CmpOp) (left : Bool) (value_of : Data → Row → Val) : Type 0 where
  pub value : (d : Data) (row : Row) → compared range.single (key_parts range.places row) (value_of d row)
  pub op : range.op ≡ sign
  pub side : range.left ≡ left

abbrev pub side_in : {C S N : Type 0} → Bool → Cond-F C Operand S N → Option Operand
side_in left (Cond-F.Cmp op a b) = Some (if left then a else b)
side_in left _ = None

-- a side of a comparison
abbrev pub side : Bool → Cond → Option Operand
side left c = side_in left (out-Cond c)

-- In a row a range is true or false by the order of what it compares and its bound.
pub record IsRangeAt (c : Cond) (range : Range) (d : Data) (row : Row) : Type 0 where
  pub bound : Operand
  pub there : side range.left c ≡ Some bound
  pub value : Val
  pub of_row : compared range.single (key_parts range.places row) value
  pub is : holds d c row ≡ compares range.op (val_cmp value (operand_value d bound []))

-- a sign that compares by the order
abbrev pub is_order : CmpOp → Bool
is_order Eq = false
is_order Ne = false
is_order Lt = true
is_order Le = true
is_order Gt = true
is_order Ge = true

pub record IsRange (c : Cond) (range : Range) : Type 0 where
  pub order : is_order range.op ≡ true
  pub each : (d : Data) (row : Row) → IsRangeAt c range d row

-- the sign with the sides exchanged
abbrev pub turned : CmpOp → CmpOp
turned Eq = Eq
turned Ne = Ne
turned Lt = Gt
turned Le = Ge
turned Gt = Lt
turned Ge = Le

-- a part of the row, or a tuple in which one stands
abbrev pub has_parts_step : Term-F Bool → Bool
has_parts_step (term.Part k) = true
has_parts_step (term.Tuple parts) = list_any (λ b. b) parts
has_parts_step _ = false

-- a term in which a part of the row stands
abbrev pub has_parts : Term → Bool
has_parts = fold-Term Bool has_parts_step
