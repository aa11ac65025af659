-- The parts that expressions are printed from: signs, numbers, operands in parentheses, chains.
use Rattle.std.proofs.Common.{◌≡◌, ℕ, pos, zero, suc, ◌≤◌, Bool, true, false, not, ◌||◌, List, [], ◌∷◌, ◌++◌, map, refl, ap, neg_ℤ}
use Rattle.std.specs.List.{list_all}
use Rattle.std.specs.Prelude.{codes, nat_lt, if◌then◌else◌}
use Rattle.da_values.specs.declared.token.Mark.{Mark}
use Rattle.da_values.specs.declared.token.Mark.TheVariants as m
use Rattle.da_values.specs.Piece.{number_max, in_quotes}
use Rattle.da_lang.specs.declared.tree.ArithOp.{ArithOp}
use Rattle.da_lang.specs.declared.tree.ArithOp.TheVariants as arith_op
use Rattle.da_lang.specs.declared.tree.CmpOp.{CmpOp}
use Rattle.da_lang.specs.declared.tree.CmpOp.TheVariants as cmp_op
use Rattle.da_lang.specs.declared.tree.Expr.{Expr}
use Rattle.da_unparse.specs.Expressions.{Shown, Link, either, at_least, all_at_least, op_text, cmp_text, is_sum, linked, chain, chained, call, truth, product, signed, shown}
use Rattle.da_unparse.specs.Pieces.{Piece, gap, token, one, name, in_parens, number, string}
use Rattle.da_unparse.specs.Printable.{Makes, opens, closes, stands_alone, begins_equal, may_touch}
use Rattle.da_unparse.proofs.PrintedParts.{Side, solid, operand, loose, is_side, Part, Optional, some, part, lead, pair, join, next, as_solid, follow, Each, between_part}
use Rattle.da_unparse.proofs.PrintedSteps.{EachHas, parens, listed_parens}
use Rattle.da_unparse.proofs.PrintedTokens.{decimal_makes, text_makes}
use Rattle.da_unparse.proofs.PrintedWords.{makes-Plus, makes-Minus, makes-Star, makes-Slashes, makes-Percent, makes-Equal, makes-NotEqual, makes-Less, makes-LessEqual, makes-Greater, makes-GreaterEqual, makes-True, makes-False, makes-Assign}

-- what is printed of an expression is a part that begins neither with `=` nor with `==`
abbrev pub IsOperand : Shown → Type 0
IsOperand x = Part operand solid x.pieces

abbrev pub ExprPart : Expr → Type 0
ExprPart x = IsOperand (shown x)

pub op_part : (o : ArithOp) → Part loose loose (op_text o)
op_part arith_op.Plus = between_part makes-Plus refl refl
op_part arith_op.Minus = between_part makes-Minus refl refl
op_part arith_op.Times = between_part makes-Star refl refl
op_part arith_op.Div = between_part makes-Slashes refl refl
op_part arith_op.Mod = between_part makes-Percent refl refl

pub cmp_part : (o : CmpOp) → Part loose loose (cmp_text o)
cmp_part cmp_op.Eq = between_part makes-Equal refl refl
cmp_part cmp_op.Ne = between_part makes-NotEqual refl refl
cmp_part cmp_op.Lt = between_part makes-Less refl refl
cmp_part cmp_op.Le = between_part makes-LessEqual refl refl
cmp_part cmp_op.Gt = between_part makes-Greater refl refl
cmp_part cmp_op.Ge = between_part makes-GreaterEqual refl refl

-- ---- single tokens

pub name_part : (a : Side) {n : List ℕ} → Makes m.Name n → is_side a (token m.Name n) ≡ true → Part a solid (name n)
name_part a named f = part a solid named f refl refl refl

pub truth_part : (b : Bool) → Part operand solid (truth b)
truth_part true = part operand solid makes-True refl refl refl refl
truth_part false = part operand solid makes-False refl refl refl refl

pub digits_part : (n : ℕ) → n ≤ number_max → Part operand solid (number (pos n))
digits_part n small = part operand solid (decimal_makes n small) refl refl refl refl

pub negative_part : (n : ℕ) → n ≤ number_max → Part operand solid (number (neg_ℤ (pos n)))
negative_part zero small = digits_part zero small
negative_part (suc n) small = pair operand solid makes-Minus (decimal_makes (suc n) small) refl refl refl refl refl refl refl

pub text_part : (b : List ℕ) → list_all in_quotes b ≡ true → Part operand solid (string b)
text_part b plain = part operand solid (text_makes b plain) refl refl refl refl

-- ---- operands

in_parens_or_not : (b : Bool) (ps : List Piece) → Part operand solid ps → Part operand solid (if b then in_parens ps else ps)
in_parens_or_not true ps l = parens operand refl (some (as_solid l))
in_parens_or_not false ps l = l

pub at_least_part : (asked : ℕ) (x : Shown) → IsOperand x → Part operand solid (at_least asked x)
unfolding at_least
at_least_part asked x l = in_parens_or_not (nat_lt x.holds asked) x.pieces l

pub each_at_least : (asked : ℕ) (xs : List Expr) → EachHas ExprPart xs → Each (all_at_least asked (map shown xs))
each_at_least asked [] each = tt
each_at_least asked (x ∷ xs) each = (as_solid (at_least_part asked (shown x) each.0), each_at_least asked xs each.1)

-- a word and its arguments
pub call_part : {k : Mark} {b : List ℕ} → Makes k b → begins_equal k ≡ false → opens k ≡ false → closes k ≡ false → (xs : List Expr) → EachHas ExprPart xs → IsOperand (call k b (all_at_least either (map shown xs)))
call_part {k} {b} named e o c xs each = join (part operand solid named (ap not e) refl o c) (listed_parens loose refl (all_at_least either (map shown xs)) (each_at_least either xs each))

-- after the `=` of a pattern
or_third : (x y z : Bool) → z ≡ true → (x || y || z) ≡ true
or_third true y z e = refl
or_third false true z e = refl
or_third false false z e = e

equal_meets : (q : Piece) → is_side operand q ≡ true → may_touch (token m.Assign (codes "=")) q ≡ true
equal_meets gap h = absurd (cc)
equal_meets (token k b) h = or_third (stands_alone m.Assign) (stands_alone k) (not (begins_equal k)) h

pub equal_part : {ps : List Piece} → Part operand solid ps → Part solid solid (one m.Assign (codes "=") ++ ps)
equal_part l = lead solid makes-Assign refl refl refl l (equal_meets l.first l.first_is)

-- ---- chains

-- the further operands of a chain
abbrev pub IsLinked : List Link → Type 0
IsLinked links = (asked : ℕ) → Optional loose solid (linked asked links)

pub link_part : (o : ArithOp) (x : Shown) (links : List Link) → IsOperand x → IsLinked links → IsLinked (record { op = o; operand = x } ∷ links)
link_part o x links l more asked = some (follow (next (op_part o) (as_solid (at_least_part asked x l))) (more asked))

chain_by : (b : Bool) (x : Shown) (links : List Link) → IsOperand x → IsLinked links → IsOperand (chain b x links)
chain_by true x links l more = follow (at_least_part product x l) (more product)
chain_by false x links l more = follow (at_least_part signed x l) (more signed)

pub chained_part : (x : Shown) (links : List Link) → IsOperand x → IsLinked links → IsOperand (chained x links)
chained_part x [] l more = l
chained_part x (link ∷ links) l more = chain_by (is_sum link.op) x (link ∷ links) l more
