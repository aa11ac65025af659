-- What is noted of queries, of the conditions of an `await` and of the patterns of handlers: the constants in their terms and
-- patterns, and how many signs their chains have.
use Rattle.std.specs.Prelude.{suc, ◌^◌, ◌<◌, List, [], ◌∷◌, ◌++◌, map, length, Option, Some, None, option_to_list}
use Rattle.da_values.specs.declared.value.Value.{Value}
use Rattle.da_values.specs.Sets.{Has}
use Rattle.da_lang.specs.declared.program.Program.{Program}
use Rattle.da_lang.specs.declared.query.Agg.{Agg}
use Rattle.da_lang.specs.declared.query.Cond.{Cond}
use Rattle.da_lang.specs.declared.query.Cond.TheFolds.{fold-Cond, fold-Operand, fold-Agg, fold-SignedOperand}
use Rattle.da_lang.specs.declared.query.Cond.TheOpen.{Cond-F, Operand-F, Agg-F, SignedOperand-F}
use Rattle.da_lang.specs.declared.query.Operand.{Operand}
use Rattle.da_lang.specs.declared.query.Pattern.{Pattern}
use Rattle.da_lang.specs.declared.query.Pattern.TheFolds.{fold-Pattern}
use Rattle.da_lang.specs.declared.query.Pattern.TheOpen.{Pattern-F}
use Rattle.da_lang.specs.declared.query.Query.{Query}
use Rattle.da_lang.specs.declared.query.Query.TheVariants as query
use Rattle.da_lang.specs.declared.query.RGen.{RGen}
use Rattle.da_lang.specs.declared.query.SignedOperand.{SignedOperand}
use Rattle.da_lang.specs.declared.query.Term.{Term}
use Rattle.da_types.specs.Constants.{Literal, Signs, Notes, all, signs}
use Rattle.da_types.specs.Totality.{IsConstant, constants}

-- terms and patterns
abbrev pub term_notes : Term → Notes
term_notes t = map Literal (constants t)

abbrev pub other_notes : Option Term → Notes
other_notes None = []
other_notes (Some t) = term_notes t

abbrev pub match_notes_step : Pattern-F Notes → Notes
match_notes_step Pattern-F.Any = []
match_notes_step Pattern-F.Bind = []
match_notes_step (Pattern-F.Const c) = Literal c ∷ []
match_notes_step Pattern-F.Me = []
match_notes_step (Pattern-F.Equal t) = term_notes t
match_notes_step (Pattern-F.Tuple parts) = all parts

unfoldable pub match_notes : Pattern → Notes
match_notes = fold-Pattern Notes match_notes_step

-- generators
abbrev pub range_notes : RGen → Notes
range_notes g = match_notes g.message ++ match_notes g.peer

abbrev pub ranges_notes : List RGen → Notes
ranges_notes gens = all (map range_notes gens)

-- conditions, operands, aggregates, and further operands of chains
abbrev pub cond_notes_step : Cond-F Notes Notes Notes Notes → Notes
cond_notes_step (Cond-F.Truth t) = term_notes t
cond_notes_step (Cond-F.Cmp op a b) = a ++ b
cond_notes_step (Cond-F.Not b) = b
cond_notes_step (Cond-F.And bs) = all bs
cond_notes_step (Cond-F.Or bs) = all bs
cond_notes_step (Cond-F.Quant each gens b) = ranges_notes gens ++ all (option_to_list b)

abbrev pub operand_notes_step : Operand-F Notes Notes Notes Notes → Notes
operand_notes_step (Operand-F.Term t) = term_notes t
operand_notes_step (Operand-F.Agg a) = a
operand_notes_step (Operand-F.Chain a more) = Signs (length more) ∷ a ++ all more

abbrev pub agg_notes_step : Agg-F Notes Notes Notes Notes → Notes
agg_notes_step a = ranges_notes a.gens ++ all (option_to_list a.cond) ++ term_notes a.term ++ other_notes a.other

abbrev pub signed_notes_step : SignedOperand-F Notes Notes Notes Notes → Notes
signed_notes_step s = s.operand

unfoldable pub cond_notes : Cond → Notes
cond_notes = fold-Cond Notes Notes Notes Notes cond_notes_step operand_notes_step agg_notes_step signed_notes_step

unfoldable pub operand_notes : Operand → Notes
operand_notes = fold-Operand Notes Notes Notes Notes cond_notes_step operand_notes_step agg_notes_step signed_notes_step

unfoldable pub agg_notes : Agg → Notes
agg_notes = fold-Agg Notes Notes Notes Notes cond_notes_step operand_notes_step agg_notes_step signed_notes_step

unfoldable pub signed_notes : SignedOperand → Notes
signed_notes = fold-SignedOperand Notes Notes Notes Notes cond_notes_step operand_notes_step agg_notes_step signed_notes_step

abbrev pub where_notes : Option Cond → Notes
where_notes None = []
where_notes (Some b) = cond_notes b

abbrev pub query_notes : Query → Notes
query_notes (query.Quant each gens b) = ranges_notes gens ++ where_notes b
query_notes (query.Comp t gens b) = ranges_notes gens ++ where_notes b ++ term_notes t
query_notes (query.Agg a) = agg_notes a

-- Each constant is a value that is there, as its processes are. All chains together have so few signs that the operands of
-- chains within chains are fewer than 2^32 together: exact sums of as many 64-bit integers fit in an i128.
pub record AreThere (p : Program) (notes : Notes) : Type 0 where
  pub constants : (v : Value) → Has notes (Literal v) → IsConstant p v
  pub few : suc (signs notes) < 2 ^ 32
