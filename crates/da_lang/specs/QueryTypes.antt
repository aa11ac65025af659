-- Types of terms, patterns, generators, conditions and queries. Where a rule is broken there is no type.
use Rattle.std.specs.Prelude.{ℕ, Bool, true, false, ◌&&◌, if◌then◌else◌, List, [], ◌∷◌, ◌++◌, map, Option, Some, None, find, bytes_eq}
use Rattle.std.specs.List.{list_all}
use Rattle.da_values.specs.declared.value.Value.{Value}
use Rattle.da_values.specs.declared.value.Value.TheVariants as kept
use Rattle.da_values.specs.Narrow.{is_i64}
use Rattle.da_lang.specs.declared.query.Agg.{Agg}
use Rattle.da_lang.specs.declared.query.AggOp.{AggOp}
use Rattle.da_lang.specs.declared.query.AggOp.TheVariants as agg
use Rattle.da_lang.specs.declared.query.Cond.{Cond}
use Rattle.da_lang.specs.declared.query.Cond.TheFolds.{fold-Cond, fold-Operand, fold-Agg, fold-SignedOperand}
use Rattle.da_lang.specs.declared.query.Cond.TheOpen.{Cond-F, Operand-F, Agg-F, SignedOperand-F}
use Rattle.da_lang.specs.declared.query.Operand.{Operand}
use Rattle.da_lang.specs.declared.query.Pattern.{Pattern, out-Pattern}
use Rattle.da_lang.specs.declared.query.Pattern.TheFolds.{fold-Pattern}
use Rattle.da_lang.specs.declared.query.Pattern.TheOpen as pattern
use Rattle.da_lang.specs.declared.query.Query.{Query}
use Rattle.da_lang.specs.declared.query.Query.TheVariants as qu
use Rattle.da_lang.specs.declared.query.RGen.{RGen}
use Rattle.da_lang.specs.declared.query.SignedOperand.{SignedOperand}
use Rattle.da_lang.specs.declared.query.Source.{Source}
use Rattle.da_lang.specs.declared.query.Source.TheVariants as source
use Rattle.da_lang.specs.declared.query.Term.{Term}
use Rattle.da_lang.specs.declared.query.Term.TheFolds.{fold-Term}
use Rattle.da_lang.specs.declared.query.Term.TheOpen as term
use Rattle.da_lang.specs.declared.tree.CmpOp.{CmpOp}
use Rattle.da_lang.specs.declared.tree.CmpOp.TheVariants as op
use Rattle.da_lang.specs.declared.tree.MessageDecl.{MessageDecl}
use Rattle.da_lang.specs.declared.ty.Ty.{Ty}
use Rattle.da_lang.specs.declared.ty.Ty.TheVariants as t
use Rattle.da_lang.specs.Types.{same_type, ordered, is_flat, is_int, is_bool, is_set, parts_of, element_of}
use Rattle.da_lang.specs.World.{at_number}

-- the declared messages, and the types of the slots, where they are known
pub record Known : Type 0 where
  pub messages : List MessageDecl
  pub slots : List (Option Ty)

-- what comes after a type, or a row of types, that there may be
abbrev pub given : {A B : Type 0} → Option A → (A → Option B) → Option B
given None go = None
given (Some x) go = go x

abbrev pub holds_of : {A : Type 0} → Option A → (A → Bool) → Bool
holds_of None test = false
holds_of (Some x) test = test x

-- a type where a test holds; a type of at most 32 levels
abbrev pub when : {A : Type 0} → Bool → A → Option A
when holds x = if holds then Some x else None

abbrev pub flat : Ty → Option Ty
flat x = when (is_flat x) x

-- the type of a slot, where it is known
abbrev pub type_at : List (Option Ty) → ℕ → Option Ty
type_at slots slot = given (at_number slots slot) (λ ty. ty)

abbrev pub slot_type : Known → ℕ → Option Ty
slot_type known slot = type_at known.slots slot

-- the types of all, where each has one
abbrev pub all_types : List (Option Ty) → Option (List Ty)
all_types [] = Some []
all_types (x ∷ xs) = given x (λ first. given (all_types xs) (λ others. Some (first ∷ others)))

-- a literal, whose integer lies in an i64
abbrev pub literal_type : Value → Option Ty
literal_type (kept.Int number) = when (is_i64 number) t.Int
literal_type (kept.Bool truth) = Some t.Bool
literal_type (kept.Text bytes) = Some t.Text
literal_type (kept.Proc process) = Some t.Proc
literal_type (kept.Tuple parts) = None
literal_type (kept.Set elements) = None

abbrev pub no_set : Ty → Option Ty
no_set x = when (if is_set x then false else true) x

-- a term, over a row of these types: a slot whose type is a set is none
abbrev pub term_step : Known → term.Term-F (List Ty → Option Ty) → List Ty → Option Ty
term_step known (term.Const value) row = literal_type value
term_step known term.Me row = Some t.Proc
term_step known (term.Slot slot) row = given (given (slot_type known slot) no_set) flat
term_step known (term.Part part) row = given (at_number row part) flat
term_step known (term.Tuple parts) row = given (all_types (map (λ p. p row) parts)) (λ types. flat (t.Tuple types))
term_step known term.Foreign row = None

unfoldable pub term_type : Known → Term → List Ty → Option Ty
term_type known = fold-Term (List Ty → Option Ty) (term_step known)

-- a pattern over a type gives the row with its variables, where each part has the type of its place
abbrev pub TypeExtension : Type 0
TypeExtension = Ty → List Ty → Option (List Ty)

abbrev pub is_typed : Option Ty → Ty → Bool
is_typed found asked = holds_of found (λ ty. same_type ty asked)

abbrev pub each_part : List TypeExtension → List Ty → List Ty → Option (List Ty)
each_part [] [] row = Some row
each_part [] (ty ∷ types) row = None
each_part (p ∷ ps) [] row = None
each_part (p ∷ ps) (ty ∷ types) row = given (p ty row) (each_part ps types)

abbrev pub pattern_step : Known → pattern.Pattern-F TypeExtension → TypeExtension
pattern_step known pattern.Any ty row = Some row
pattern_step known pattern.Bind ty row = Some (row ++ ty ∷ [])
pattern_step known (pattern.Const value) ty row = when (is_typed (literal_type value) ty) row
pattern_step known pattern.Me ty row = when (same_type t.Proc ty) row
pattern_step known (pattern.Equal x) ty row = when (is_typed (term_type known x row) ty) row
pattern_step known (pattern.Tuple ps) ty row = given (parts_of ty) (λ types. each_part ps types row)

unfoldable pub pattern_row : Known → Pattern → TypeExtension
pattern_row known = fold-Pattern TypeExtension (pattern_step known)

-- a pattern over a type of at most 32 levels
abbrev pub matched_row : Known → Pattern → TypeExtension
matched_row known p ty row = if is_flat ty then pattern_row known p ty row else None

-- a declared message, by its tag: a tuple of a text and its parts
abbrev pub declared : List MessageDecl → List ℕ → Option Ty
declared messages tag = given (find (λ m. bytes_eq m.tag tag) messages) (λ m. Some (t.Tuple (t.Text ∷ m.parts)))

-- the same of at most 32 levels
abbrev pub message_type : Known → List ℕ → Option Ty
message_type known tag = given (declared known.messages tag) flat

-- the tag of a pattern over a history: a tuple pattern whose first part is a written text
abbrev pub text_pattern : pattern.Pattern-F Pattern → Option (List ℕ)
text_pattern (pattern.Const (kept.Text tag)) = Some tag
text_pattern _ = None

abbrev pub first_pattern : List Pattern → Option (List ℕ)
first_pattern [] = None
first_pattern (p ∷ ps) = text_pattern (out-Pattern p)

abbrev pub pattern_tag : pattern.Pattern-F Pattern → Option (List ℕ)
pattern_tag (pattern.Tuple ps) = first_pattern ps
pattern_tag _ = None

abbrev pub message_row : Known → Pattern → List Ty → Option (List Ty)
message_row known p row = given (given (pattern_tag (out-Pattern p)) (message_type known)) (λ ty. pattern_row known p ty row)

-- what a generator goes through: messages, or the elements of a slot of a set type
abbrev pub source_row : Known → Source → Pattern → List Ty → Option (List Ty)
source_row known source.Received p row = message_row known p row
source_row known source.Sent p row = message_row known p row
source_row known (source.Slot slot) p row = given (given (slot_type known slot) element_of) (λ element. matched_row known p element row)

-- the second pattern: of a message it is over processes; an element of a set has no other process
abbrev pub is_any : pattern.Pattern-F Pattern → Bool
is_any pattern.Any = true
is_any _ = false

abbrev pub peer_row : Known → Source → Pattern → List Ty → Option (List Ty)
peer_row known source.Received p row = pattern_row known p t.Proc row
peer_row known source.Sent p row = pattern_row known p t.Proc row
peer_row known (source.Slot slot) p row = when (is_any (out-Pattern p)) row

abbrev pub gen_row : Known → RGen → List Ty → Option (List Ty)
gen_row known g row = given (source_row known g.source g.message row) (peer_row known g.source g.peer)

abbrev pub gens_row : Known → List RGen → List Ty → Option (List Ty)
gens_row known [] row = Some row
gens_row known (g ∷ gs) row = given (gen_row known g row) (gens_row known gs)

-- a side of a comparison, by its type, and whether it is a `sum`
pub record Side : Type 0 where
  pub ty : Ty
  pub sum : Bool

abbrev pub plain : Ty → Option Side
plain ty = Some (record { ty = ty; sum = false })

-- an operand of a chain is an integer, and no `sum`
abbrev pub is_operand : Option Side → Bool
is_operand side = holds_of side (λ s. is_int s.ty && (if s.sum then false else true))

-- a comparison of two of one type, ordered but for `==` and `!=`
abbrev pub asks_order : CmpOp → Bool
asks_order op.Eq = false
asks_order op.Ne = false
asks_order op.Lt = true
asks_order op.Le = true
asks_order op.Gt = true
asks_order op.Ge = true

abbrev pub compares : CmpOp → Ty → Bool
compares o ty = if asks_order o then ordered ty else true

abbrev pub comparable : CmpOp → Option Side → Option Side → Bool
comparable o x y = holds_of x (λ a. holds_of y (λ b. same_type a.ty b.ty && compares o a.ty))

-- conditions, over a row of these types; a missing condition is true
abbrev pub Holds : Type 0
Holds = List Ty → Bool

abbrev pub Sided : Type 0
Sided = List Ty → Option Side

abbrev pub holds_if : Option Holds → Holds
holds_if None row = true
holds_if (Some cond) row = cond row

abbrev pub rows_where : Known → List RGen → Option Holds → List Ty → Option (List Ty)
rows_where known gens cond row = given (gens_row known gens row) (λ found. when (holds_if cond found) found)

abbrev pub has_rows : Known → List RGen → Option Holds → List Ty → Bool
has_rows known gens cond row = holds_of (rows_where known gens cond row) (λ found. true)

abbrev pub cond_step : Known → Cond-F Holds Sided Sided Sided → Holds
cond_step known (Cond-F.Truth x) row = holds_of (term_type known x row) is_bool
cond_step known (Cond-F.Cmp o x y) row = comparable o (x row) (y row)
cond_step known (Cond-F.Not x) row = x row
cond_step known (Cond-F.And xs) row = list_all (λ x. x row) xs
cond_step known (Cond-F.Or xs) row = list_all (λ x. x row) xs
cond_step known (Cond-F.Quant each gens cond) row = has_rows known gens cond row

abbrev pub operand_step : Known → Operand-F Holds Sided Sided Sided → Sided
operand_step known (Operand-F.Term x) row = given (term_type known x row) plain
operand_step known (Operand-F.Agg a) row = a row
operand_step known (Operand-F.Chain x more) row = if is_operand (x row) && list_all (λ y. is_operand (y row)) more then plain t.Int else None

-- the type of the value that `min` and `max` give of the empty set
abbrev pub other_type : Known → Option Term → List Ty → Option Ty
other_type known None row = None
other_type known (Some x) row = term_type known x row

-- an aggregate over a set with elements of this type
abbrev pub agg_type : AggOp → Ty → Option Ty → Option Side
agg_type agg.Count ty other = plain t.Int
agg_type agg.Sum ty other = when (is_int ty) (record { ty = t.Int; sum = true })
agg_type agg.Min ty other = if ordered ty && is_typed other ty then plain ty else None
agg_type agg.Max ty other = if ordered ty && is_typed other ty then plain ty else None

abbrev pub agg_step : Known → Agg-F Holds Sided Sided Sided → Sided
agg_step known a row =
    given (given (rows_where known a.gens a.cond row) (term_type known a.term)) (λ ty. given (flat (t.Set ty)) (λ set. agg_type a.op ty (other_type known a.other row)))

abbrev pub signed_step : Known → SignedOperand-F Holds Sided Sided Sided → Sided
signed_step known s row = s.operand row

unfoldable pub cond_holds : Known → Cond → Holds
cond_holds known = fold-Cond Holds Sided Sided Sided (cond_step known) (operand_step known) (agg_step known) (signed_step known)

unfoldable pub operand_side : Known → Operand → Sided
operand_side known = fold-Operand Holds Sided Sided Sided (cond_step known) (operand_step known) (agg_step known) (signed_step known)

unfoldable pub agg_side : Known → Agg → Sided
agg_side known = fold-Agg Holds Sided Sided Sided (cond_step known) (operand_step known) (agg_step known) (signed_step known)

unfoldable pub signed_side : Known → SignedOperand → Sided
signed_side known = fold-SignedOperand Holds Sided Sided Sided (cond_step known) (operand_step known) (agg_step known) (signed_step known)

abbrev pub written_cond : Known → Option Cond → Option Holds
written_cond known None = None
written_cond known (Some cond) = Some (cond_holds known cond)

-- the row of the generators of a `some`, where its condition keeps the rules too
abbrev pub query_row : Known → Query → Option (List Ty)
query_row known (qu.Quant each gens cond) = rows_where known gens (written_cond known cond) []
query_row known (qu.Comp x gens cond) = None
query_row known (qu.Agg a) = None

-- the type of a query
abbrev pub query_type : Known → Query → Option Ty
query_type known (qu.Quant each gens cond) = given (rows_where known gens (written_cond known cond) []) (λ row. Some t.Bool)
query_type known (qu.Comp x gens cond) = given (given (rows_where known gens (written_cond known cond) []) (term_type known x)) (λ ty. flat (t.Set ty))
query_type known (qu.Agg a) = given (agg_side known a []) (λ side. Some side.ty)
