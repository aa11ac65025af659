-- The terms that a condition or a node works out itself, and whether a slot stands in one of them.
use Rattle.std.specs.Prelude.{ℕ, Bool, false, List, [], ◌∷◌, ◌++◌, Option, Some, None}
use Rattle.std.specs.List.{list_any, flat_map}
use Rattle.da_lang.specs.declared.query.AggOp.{AggOp}
use Rattle.da_lang.specs.declared.query.AggOp.TheVariants.{Count, Sum, Min, Max}
use Rattle.da_lang.specs.declared.query.Cond.{Cond}
use Rattle.da_lang.specs.declared.query.Cond.TheOpen.{Cond-F, Operand-F, Agg-F, SignedOperand-F}
use Rattle.da_lang.specs.declared.query.Cond.TheFolds.{fold-Cond}
use Rattle.da_lang.specs.declared.query.Node.{Node}
use Rattle.da_lang.specs.declared.query.Node.TheVariants as node
use Rattle.da_lang.specs.declared.query.Pattern.{Pattern}
use Rattle.da_lang.specs.declared.query.Pattern.TheOpen as pattern
use Rattle.da_lang.specs.declared.query.Pattern.TheOpen.{Pattern-F}
use Rattle.da_lang.specs.declared.query.Pattern.TheFolds.{fold-Pattern}
use Rattle.da_lang.specs.declared.query.RGen.{RGen}
use Rattle.da_lang.specs.declared.query.Term.{Term}
use Rattle.da_lang.specs.Naming.{names, gen_names}

-- terms in the order of the text
abbrev pub Terms : Type 0
Terms = List Term

-- those of all parts, one after the other
abbrev pub all_terms : List Terms → Terms
all_terms = flat_map (λ terms. terms)

-- none where there is nothing
abbrev pub terms_if : Option Terms → Terms
terms_if None = []
terms_if (Some terms) = terms

-- a term that may be left out
abbrev pub term_if : Option Term → Terms
term_if None = []
term_if (Some t) = t ∷ []

-- the default of an aggregate; `count` and `sum` have none
abbrev pub default_terms : AggOp → Option Term → Terms
default_terms Count other = []
default_terms Sum other = []
default_terms Min other = term_if other
default_terms Max other = term_if other

-- one layer of a pattern: the terms after `=`
abbrev pub pattern_terms_step : Pattern-F Terms → Terms
pattern_terms_step (pattern.Equal t) = t ∷ []
pattern_terms_step (pattern.Tuple parts) = all_terms parts
pattern_terms_step _ = []

-- of a pattern
abbrev pub pattern_terms : Pattern → Terms
pattern_terms = fold-Pattern Terms pattern_terms_step

-- of the patterns of a generator
abbrev pub gen_terms : RGen → Terms
gen_terms g = pattern_terms g.message ++ pattern_terms g.peer

-- one layer of a condition
abbrev pub cond_terms_step : Cond-F Terms Terms Terms Terms → Terms
cond_terms_step (Cond-F.Truth t) = t ∷ []
cond_terms_step (Cond-F.Cmp op a b) = a ++ b
cond_terms_step (Cond-F.Not b) = b
cond_terms_step (Cond-F.And bs) = all_terms bs
cond_terms_step (Cond-F.Or bs) = all_terms bs
cond_terms_step (Cond-F.Quant each gens b) = flat_map gen_terms gens ++ terms_if b

-- of an operand
abbrev pub operand_terms_step : Operand-F Terms Terms Terms Terms → Terms
operand_terms_step (Operand-F.Term t) = t ∷ []
operand_terms_step (Operand-F.Agg a) = a
operand_terms_step (Operand-F.Chain a more) = a ++ all_terms more

-- of an aggregate
abbrev pub agg_terms_step : Agg-F Terms Terms Terms Terms → Terms
agg_terms_step a = flat_map gen_terms a.gens ++ terms_if a.cond ++ a.term ∷ default_terms a.op a.other

-- of a further part of a chain
abbrev pub signed_terms_step : SignedOperand-F Terms Terms Terms Terms → Terms
signed_terms_step s = s.operand

-- the terms of a condition
abbrev pub cond_terms : Cond → Terms
cond_terms = fold-Cond Terms Terms Terms Terms cond_terms_step operand_terms_step agg_terms_step signed_terms_step

-- whether a slot stands in one of some terms
abbrev pub named_in : ℕ → Terms → Bool
named_in s terms = list_any (names s) terms

-- Whether a node's own condition, pattern, term or default names a slot. The source of a generator may be the slot all the
-- same.
abbrev pub node_names : ℕ → Node → Bool
node_names s (node.Gen p g) = gen_names s g
node_names s (node.Filter p b) = named_in s (cond_terms b)
node_names s (node.AggBind p c op t other) = named_in s (t ∷ default_terms op other)
node_names s _ = false
