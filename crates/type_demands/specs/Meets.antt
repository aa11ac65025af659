-- The rules of types are what is demanded.
use Rattle.std.specs.Prelude.{◌≡◌, ℕ, Bool, true, false, List, [], ◌∷◌, Option, Some, None}
use Rattle.da_lang.specs.declared.query.Agg.{Agg}
use Rattle.da_lang.specs.declared.query.Cond.{Cond}
use Rattle.da_lang.specs.declared.program.RExpr.{RExpr}
use Rattle.da_lang.specs.declared.query.Operand.{Operand}
use Rattle.da_lang.specs.declared.query.Pattern.{Pattern}
use Rattle.da_lang.specs.declared.query.Query.{Query}
use Rattle.da_lang.specs.declared.ty.Ty.{Ty}
use Rattle.da_lang.specs.ExprTypes.{ExprType, typing}
use Rattle.da_lang.specs.QueryTypes.{Known, Side, given, holds_of, slot_type, declared, cond_holds, operand_side, agg_side, pattern_row, message_row, query_row, query_type}
use Rattle.type_table.specs.declared.scheme.Scheme.{Scheme}
use Rattle.type_table.specs.Fits.{Meaning}
use Rattle.type_table.specs.Schemes.{stands}
use Rattle.type_demands.specs.Demands.{all_met}
use Rattle.type_demands.specs.Syms.{Context, found}
use Rattle.type_demands.specs.Terms.{RowSym, pattern_sym, message_sym}
use Rattle.type_demands.specs.Conds.{SideSym, cond_sym, operand_sym, agg_sym, query_rows, query_sym}
use Rattle.type_demands.specs.Exprs.{ExprSym, expr_sym}

-- where the unknown types are these, and of these slots all is met that their headers demand
module _ (m : Meaning) (headed : ℕ → Bool) where
  -- the types of slots and messages are those that are found
  pub record Means (known : Known) (context : Context) : Type 0 where
    pub slots : (slot : ℕ) → slot_type known slot ≡ found m headed (context.slot slot)
    pub messages : (tag : List ℕ) → declared known.messages tag ≡ found m headed (context.message tag)

  -- an expression has the type that is found, and fits a place where what it demands there is met
  pub record Agrees (e : ExprType) (x : ExprSym) : Type 0 where
    pub types : e.type_ ≡ found m headed x.itself
    pub fits : (asked : Scheme) → holds_of (stands m asked) e.fits ≡ all_met m headed (x.fits asked)

  -- a row stands for a row of types
  abbrev pub Stand : List Scheme → List Ty → Type 0
  Stand [] [] = Unit {0}
  Stand [] (ty ∷ types) = ⊥
  Stand (x ∷ xs) [] = ⊥
  Stand (x ∷ xs) (ty ∷ types) = (stands m x ≡ Some ty) × Stand xs types

  -- there is a row exactly where the demands are met, and it is the one that stands there
  pub record RowAgrees (o : Option (List Ty)) (x : RowSym) : Type 0 where
    pub there : all_met m headed x.demands ≡ true → (types : List Ty) × (o ≡ Some types) × Stand x.row types
    pub missing : all_met m headed x.demands ≡ false → o ≡ None

  -- a side of a comparison
  abbrev pub found_side : SideSym → Option Side
  found_side x = given (found m headed x.itself) (λ ty. Some (record { ty = ty; sum = x.sum }))

  -- over each row that stands for the types
  abbrev pub CondAgrees : Known → Context → Cond → Type 0
  CondAgrees known context c = (row : List Scheme) (types : List Ty) → Stand row types → cond_holds known c types ≡ all_met m headed (cond_sym context c row)

  abbrev pub OperandAgrees : Known → Context → Operand → Type 0
  OperandAgrees known context x = (row : List Scheme) (types : List Ty) → Stand row types → operand_side known x types ≡ found_side (operand_sym context x row)

  abbrev pub AggAgrees : Known → Context → Agg → Type 0
  AggAgrees known context a = (row : List Scheme) (types : List Ty) → Stand row types → agg_side known a types ≡ found_side (agg_sym context a row)

-- whatever the unknown types are, and of whichever slots all is met that their headers demand
abbrev pub ExprsAreDemanded : Type 0
ExprsAreDemanded = (m : Meaning) (headed : ℕ → Bool) (known : Known) (context : Context) (queries : List Query) → Means m headed known context → (x : RExpr) → Agrees m headed (typing known queries x) (expr_sym context queries x)

abbrev pub CondsAreDemanded : Type 0
CondsAreDemanded = (m : Meaning) (headed : ℕ → Bool) (known : Known) (context : Context) → Means m headed known context → (x : Cond) → CondAgrees m headed known context x

abbrev pub PatternsAreDemanded : Type 0
PatternsAreDemanded =
    (m : Meaning) (headed : ℕ → Bool) (known : Known) (context : Context) → Means m headed known context → (p : Pattern) (asked : Scheme) (ty : Ty) (row : List Scheme) (types : List Ty) → stands m asked ≡ Some ty → Stand m headed row types
    → RowAgrees m headed (pattern_row known p ty types) (pattern_sym context p asked row)

abbrev pub MessagesAreDemanded : Type 0
MessagesAreDemanded =
    (m : Meaning) (headed : ℕ → Bool) (known : Known) (context : Context) → Means m headed known context → (p : Pattern) (row : List Scheme) (types : List Ty) → Stand m headed row types → RowAgrees m headed (message_row known p types) (message_sym context p row)

abbrev pub QueriesAreDemanded : Type 0
QueriesAreDemanded = (m : Meaning) (headed : ℕ → Bool) (known : Known) (context : Context) → Means m headed known context → (q : Query) → query_type known q ≡ found m headed (query_sym context q)

abbrev pub RowsAreDemanded : Type 0
RowsAreDemanded = (m : Meaning) (headed : ℕ → Bool) (known : Known) (context : Context) → Means m headed known context → (q : Query) → RowAgrees m headed (query_row known q) (query_rows context q)
