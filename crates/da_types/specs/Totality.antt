-- The queries and conditions of a class read strictly: where the language takes some value for one that is missing, a strict
-- reading has none. None has a slot or a part that is not there, an expression outside the forms of queries, an operand that
-- is no integer, a condition that is no truth value, a comparison of two kinds, a source that is no set. What is shown is
-- that in a typed program all of them have one, which is the one that the language gives.
use Rattle.std.specs.Prelude.{◌≡◌, ℕ, ℤ, pos, ◌+ℤ◌, neg_ℤ, Bool, true, false, not, if◌then◌else◌, List, [], ◌∷◌, ◌++◌, map, Option, Some, None, Ok, Err, length, nat_eq}
use Rattle.std.specs.List.{list_any, list_all, filter_map, flat_map}
use Rattle.da_values.specs.declared.val.Val.{Val, out-Val}
use Rattle.da_values.specs.declared.val.Val.TheVariants as val
use Rattle.da_values.specs.declared.val.Val.TheOpen as vo
use Rattle.da_values.specs.declared.value.Value.{Value}
use Rattle.da_values.specs.Narrow.{is_narrow}
use Rattle.da_values.specs.Order.{kind, val_cmp}
use Rattle.da_values.specs.Proper.{IsValue}
use Rattle.da_values.specs.Sets.{Has, canon}
use Rattle.da_values.specs.Value.{val_of}
use Rattle.da_lang.specs.declared.event.FaultKind.TheVariants.{Overflow}
use Rattle.da_lang.specs.declared.program.Alt.{Alt}
use Rattle.da_lang.specs.declared.program.Class.{Class}
use Rattle.da_lang.specs.declared.program.Item.{Item}
use Rattle.da_lang.specs.declared.program.ItemKind.TheOpen.{Await}
use Rattle.da_lang.specs.declared.program.ItemKind.TheViews.{out-Alt}
use Rattle.da_lang.specs.declared.program.Program.{Program}
use Rattle.da_lang.specs.declared.query.Agg.{Agg}
use Rattle.da_lang.specs.declared.query.AggOp.{AggOp}
use Rattle.da_lang.specs.declared.query.AggOp.TheVariants.{Count, Sum, Min, Max}
use Rattle.da_lang.specs.declared.query.Cond.{Cond}
use Rattle.da_lang.specs.declared.query.Cond.TheFolds.{fold-Cond, fold-Operand, fold-Agg, fold-SignedOperand}
use Rattle.da_lang.specs.declared.query.Cond.TheOpen.{Cond-F, Operand-F, Agg-F, SignedOperand-F}
use Rattle.da_lang.specs.declared.query.Cond.TheViews.{out-Agg}
use Rattle.da_lang.specs.declared.query.Operand.{Operand}
use Rattle.da_lang.specs.declared.query.Pattern.{Pattern, out-Pattern}
use Rattle.da_lang.specs.declared.query.Pattern.TheFolds.{fold-Pattern}
use Rattle.da_lang.specs.declared.query.Pattern.TheOpen as pattern
use Rattle.da_lang.specs.declared.query.Query.{Query}
use Rattle.da_lang.specs.declared.query.Query.TheVariants as query
use Rattle.da_lang.specs.declared.query.RGen.{RGen}
use Rattle.da_lang.specs.declared.query.SignedOperand.{SignedOperand}
use Rattle.da_lang.specs.declared.query.Source.{Source}
use Rattle.da_lang.specs.declared.query.Source.TheVariants as source
use Rattle.da_lang.specs.declared.query.Term.{Term}
use Rattle.da_lang.specs.declared.query.Term.TheFolds.{fold-Term}
use Rattle.da_lang.specs.declared.query.Term.TheOpen as term
use Rattle.da_lang.specs.declared.tree.CmpOp.{CmpOp}
use Rattle.da_lang.specs.declared.ty.Ty.{Ty}
use Rattle.da_lang.specs.Arithmetic.{Outcome}
use Rattle.da_lang.specs.Evaluation.{asked}
use Rattle.da_lang.specs.Matching.{Row, Candidate, Element, Message, is_same, where_true}
use Rattle.da_lang.specs.Queries.{compares, entry_candidate, first_or, holds, last_or, query_value, total}
use Rattle.da_lang.specs.QueryTypes.{given, is_any, query_type}
use Rattle.da_lang.specs.Shaped.{ShapedData, IsItemOf, has_processes}
use Rattle.da_lang.specs.Turns.{kind_of}
use Rattle.da_lang.specs.Types.{is_of}
use Rattle.da_lang.specs.Typing.{known}
use Rattle.da_lang.specs.World.{Data, at_number}

-- all of them, where each is there
abbrev pub all_there : {A : Type 0} → List (Option A) → Option (List A)
all_there [] = Some []
all_there (x ∷ xs) = given x (λ first. given (all_there xs) (λ others. Some (first ∷ others)))

-- a value that is of the kind that is asked for
abbrev pub integer : vo.Val-F Val → Option ℤ
integer (vo.Int number) = Some number
integer _ = None

abbrev pub truth : vo.Val-F Val → Option Bool
truth (vo.Bool b) = Some b
truth _ = None

abbrev pub elements : vo.Val-F Val → Option (List Val)
elements (vo.Set members) = Some members
elements _ = None

-- a comparison of two values of one kind
abbrev pub compared : CmpOp → Val → Val → Option Bool
compared op v w = if nat_eq (kind (out-Val v)) (kind (out-Val w)) then Some (compares op (val_cmp v w)) else None

-- what a pattern does with a value: the row that it gives or that there is none, if each term in it has a value
abbrev pub StrictMatch : Type 0
StrictMatch = Val → Row → Option (Option Row)

abbrev pub and_strictly : Option Row → (Row → Option (Option Row)) → Option (Option Row)
and_strictly None go_on = Some None
and_strictly (Some row) go_on = go_on row

abbrev pub strict_parts : List StrictMatch → List Val → Row → Option (Option Row)
strict_parts [] [] row = Some (Some row)
strict_parts [] (x ∷ xs) row = Some None
strict_parts (m ∷ ms) [] row = Some None
strict_parts (m ∷ ms) (x ∷ xs) row = given (m x row) (λ found. and_strictly found (strict_parts ms xs))

abbrev pub strict_tuple : List StrictMatch → vo.Val-F Val → Row → Option (Option Row)
strict_tuple ms (vo.Tuple xs) row = strict_parts ms xs row
strict_tuple ms _ row = Some None

-- conditions, operands, and the further parts of chains, in a row
abbrev pub Test : Type 0
Test = Row → Option Bool

abbrev pub StrictMeaning : Type 0
StrictMeaning = Row → Option Val

abbrev pub Number : Type 0
Number = Row → Option ℤ

abbrev pub strict_test : Option Test → Test
strict_test None row = Some true
strict_test (Some test) row = test row

-- the rows that meet a condition, which has a value in each
abbrev pub with_row : Bool → Row → List Row → List Row
with_row b row rows = if b then row ∷ rows else rows

abbrev pub strict_rows : Test → List Row → Option (List Row)
strict_rows test [] = Some []
strict_rows test (row ∷ rows) = given (test row) (λ b. given (strict_rows test rows) (λ others. Some (with_row b row others)))

abbrev pub strict_integer : Option Val → Option ℤ
strict_integer x = given x (λ v. integer (out-Val v))

-- of the elements of a set, ascending; `min` and `max` have a value for where there are none
abbrev pub strict_aggregate : AggOp → Option Val → List Val → Option Val
strict_aggregate Count other xs = Some (val.Int (pos (length xs)))
strict_aggregate Sum other xs = given (all_there (map (λ v. integer (out-Val v)) xs)) (λ is. Some (val.Int (total is)))
strict_aggregate Min other xs = given other (λ v. Some (first_or v xs))
strict_aggregate Max other xs = given other (λ v. Some (last_or v xs))

module _ (d : Data) where
  -- the value of a term in a row, if it has one
  abbrev pub strict_term_step : Row → term.Term-F (Option Val) → Option Val
  strict_term_step row (term.Const c) = Some (val_of c)
  strict_term_step row term.Me = Some (val.Proc d.me)
  strict_term_step row (term.Slot s) = at_number d.slots s
  strict_term_step row (term.Part k) = at_number row k
  strict_term_step row (term.Tuple parts) = given (all_there parts) (λ vs. Some (val.Tuple vs))
  strict_term_step row term.Foreign = None

  abbrev pub strict_term : Row → Term → Option Val
  strict_term row = fold-Term (Option Val) (strict_term_step row)

  abbrev pub strict_match_step : pattern.Pattern-F StrictMatch → StrictMatch
  strict_match_step pattern.Any x row = Some (Some row)
  strict_match_step pattern.Bind x row = Some (Some (row ++ x ∷ []))
  strict_match_step (pattern.Const c) x row = Some (where_true (is_same x (val_of c)) row)
  strict_match_step pattern.Me x row = Some (where_true (is_same x (val.Proc d.me)) row)
  strict_match_step (pattern.Equal t) x row = given (strict_term row t) (λ v. Some (where_true (is_same x v) row))
  strict_match_step (pattern.Tuple ms) x row = strict_tuple ms (out-Val x) row

  abbrev pub strict_match : Pattern → StrictMatch
  strict_match = fold-Pattern StrictMatch strict_match_step

  -- all that a source has
  abbrev pub strict_source : Source → Option (List Candidate)
  strict_source source.Received = Some (map entry_candidate d.received)
  strict_source source.Sent = Some (map entry_candidate d.sent)
  strict_source (source.Slot s) = given (at_number d.slots s) (λ v. given (elements (out-Val v)) (λ members. Some (map Element members)))

  -- an element of a set has no other process, with which only `_` goes
  abbrev pub no_peer : Pattern → Row → Option (Option Row)
  no_peer p row = if is_any (out-Pattern p) then Some (Some row) else None

  abbrev pub strict_candidate : RGen → Row → Candidate → Option (Option Row)
  strict_candidate g row (Element x) = given (strict_match g.message x row) (λ found. and_strictly found (no_peer g.peer))
  strict_candidate g row (Message x p) = given (strict_match g.message x row) (λ found. and_strictly found (strict_match g.peer (val.Proc p)))

  -- a row's extensions
  abbrev pub strict_steps : RGen → Row → Option (List Row)
  strict_steps g row = given (strict_source g.source) (λ cs. given (all_there (map (strict_candidate g row) cs)) (λ found. Some (filter_map (λ r. r) found)))

  abbrev pub strict_extensions : List RGen → Row → Option (List Row)
  strict_extensions [] row = Some (row ∷ [])
  strict_extensions (g ∷ gs) row = given (strict_steps g row) (λ rs. given (all_there (map (strict_extensions gs) rs)) (λ found. Some (flat_map (λ r. r) found)))

  -- conditions, operands, and the further parts of chains, in a row
  abbrev pub strict_cond_step : Cond-F Test StrictMeaning StrictMeaning Number → Test
  strict_cond_step (Cond-F.Truth t) row = given (strict_term row t) (λ v. truth (out-Val v))
  strict_cond_step (Cond-F.Cmp op a b) row = given (a row) (λ v. given (b row) (compared op v))
  strict_cond_step (Cond-F.Not b) row = given (b row) (λ v. Some (not v))
  strict_cond_step (Cond-F.And bs) row = given (all_there (map (λ b. b row) bs)) (λ vs. Some (list_all (λ v. v) vs))
  strict_cond_step (Cond-F.Or bs) row = given (all_there (map (λ b. b row) bs)) (λ vs. Some (list_any (λ v. v) vs))
  strict_cond_step (Cond-F.Quant each gens b) row =
      given (strict_extensions gens row) (λ rs. given (all_there (map (strict_test b) rs)) (λ vs. Some (if each then list_all (λ v. v) vs else list_any (λ v. v) vs)))

  abbrev pub strict_operand_step : Operand-F Test StrictMeaning StrictMeaning Number → StrictMeaning
  strict_operand_step (Operand-F.Term t) row = strict_term row t
  strict_operand_step (Operand-F.Agg a) row = a row
  strict_operand_step (Operand-F.Chain a more) row =
      given (strict_integer (a row)) (λ first. given (all_there (map (λ n. n row) more)) (λ others. Some (val.Int (first +ℤ total others))))

  abbrev pub strict_other : Row → Option Term → Option Val
  strict_other row None = None
  strict_other row (Some t) = strict_term row t

  abbrev pub strict_terms : Term → List Row → Option (List Val)
  strict_terms t rs = given (all_there (map (λ r. strict_term r t) rs)) (λ vs. Some (canon val_cmp vs))

  -- the set of a term over the rows of generators that meet a condition
  abbrev pub strict_set : List RGen → Option Test → Term → Row → Option (List Val)
  strict_set gens b t row = given (given (strict_extensions gens row) (strict_rows (strict_test b))) (strict_terms t)

  abbrev pub strict_agg_step : Agg-F Test StrictMeaning StrictMeaning Number → StrictMeaning
  strict_agg_step a row = given (strict_set a.gens a.cond a.term row) (strict_aggregate a.op (strict_other row a.other))

  abbrev pub strict_signed_step : SignedOperand-F Test StrictMeaning StrictMeaning Number → Number
  strict_signed_step s row = given (strict_integer (s.operand row)) (λ i. Some (if s.minus then neg_ℤ i else i))

  -- whether a condition holds of a row, if it has a value there
  abbrev pub strict_holds : Cond → Test
  strict_holds = fold-Cond Test StrictMeaning StrictMeaning Number strict_cond_step strict_operand_step strict_agg_step strict_signed_step

  abbrev pub strict_operand : Operand → StrictMeaning
  strict_operand = fold-Operand Test StrictMeaning StrictMeaning Number strict_cond_step strict_operand_step strict_agg_step strict_signed_step

  abbrev pub strict_agg : Agg → StrictMeaning
  strict_agg = fold-Agg Test StrictMeaning StrictMeaning Number strict_cond_step strict_operand_step strict_agg_step strict_signed_step

  abbrev pub strict_signed : SignedOperand → Number
  strict_signed = fold-SignedOperand Test StrictMeaning StrictMeaning Number strict_cond_step strict_operand_step strict_agg_step strict_signed_step

  abbrev pub strict_where : Option Cond → Option Test
  strict_where None = None
  strict_where (Some b) = Some (strict_holds b)

  -- what a query gives, if it has a value
  abbrev pub strict_query : Query → Option Val
  strict_query (query.Quant each gens b) = given (strict_cond_step (Cond-F.Quant each gens (strict_where b)) []) (λ v. Some (val.Bool v))
  strict_query (query.Comp t gens b) = given (strict_set gens (strict_where b) t []) (λ vs. Some (val.Set vs))
  strict_query (query.Agg a) = strict_agg a []

-- a `count` or a `sum`, whose integer may lie outside an i64
abbrev pub counts_by : AggOp → Bool
counts_by Count = true
counts_by Sum = true
counts_by Min = false
counts_by Max = false

abbrev pub counts : Query → Bool
counts (query.Quant each gens b) = false
counts (query.Comp t gens b) = false
counts (query.Agg a) = counts_by (out-Agg a).op

-- the constants of which a query makes its value
abbrev pub constants_step : term.Term-F (List Value) → List Value
constants_step (term.Const c) = c ∷ []
constants_step (term.Tuple parts) = flat_map (λ part. part) parts
constants_step _ = []

abbrev pub constants : Term → List Value
constants = fold-Term (List Value) constants_step

abbrev pub other_constants : Option Term → List Value
other_constants None = []
other_constants (Some t) = constants t

abbrev pub query_constants : Query → List Value
query_constants (query.Quant each gens b) = []
query_constants (query.Comp t gens b) = constants t
query_constants (query.Agg a) = constants (out-Agg a).term ++ other_constants (out-Agg a).other

-- a constant is a value that there is, and its processes are there
pub record IsConstant (p : Program) (c : Value) : Type 0 where
  pub proper : IsValue (val_of c)
  pub processes : has_processes (length p.procs) (val_of c) ≡ true

-- A query has this value, which is of its type, and whose integers lie in an i64 but for that of a `count` or a `sum`.
pub record HasValue (d : Data) (q : Query) (ty : Ty) (v : Val) : Type 0 where
  pub strict : strict_query d q ≡ Some v
  pub typed : is_of ty v ≡ true
  pub narrow : counts q ≡ false → is_narrow v ≡ true

-- what an expression that asks it gives: this value, or the fault that the integer of a `count` or a `sum` lies outside an
-- i64
abbrev pub IsAnswer : Query → Val → Outcome → Type 0
IsAnswer q v (Ok w) = (w ≡ v) × (is_narrow v ≡ true)
IsAnswer q v (Err kind) = (kind ≡ Overflow) × (counts q ≡ true) × (is_narrow v ≡ false)

-- it has a type and a value of this type, also in an expression
abbrev pub QueryHas : Program → Class → Data → Query → Val → Type 0
QueryHas p c d q v = (ty : Ty) × (query_type (known p.messages c.queries c.slots) q ≡ Some ty) × HasValue d q ty v × IsAnswer q v (asked v)

-- In a class of a program, with what a process of the class knows: each numbered query has a value, and so has the
-- condition of each alternative of an `await`. It is the one that they have where other values stand in for missing ones.
pub record AllHaveValues (p : Program) (c : Class) (d : Data) : Type 0 where
  pub queries : (n : ℕ) (q : Query) → at_number c.queries n ≡ Some q → QueryHas p c d q (query_value c.queries n d)
  pub conditions : (i : Item) (alts : List Alt) (timeout : Option (List Item)) (label : Option ℕ) (a : Alt) → IsItemOf c i → kind_of i ≡ Await alts timeout label → Has alts a → strict_holds d (out-Alt a).cond [] ≡ Some (holds d (out-Alt a).cond [])

-- What is shown of each typed program: all of a class have values, whatever a process of it knows that is shaped.
abbrev pub NothingIsMissing : Program → Type 0
NothingIsMissing p = (c : Class) (d : Data) → ShapedData p c d → AllHaveValues p c d
