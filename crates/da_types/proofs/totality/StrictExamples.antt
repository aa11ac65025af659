-- The strict reading has no value where one is missing or of another kind, and no row is passed over: in process 1, whose
-- slot 1 is the set {1, 2} and whose slot 2 is a text.
use Rattle.std.specs.Prelude.{◌≡◌, pos, true, false, [], ◌∷◌, Some, None, codes}
use Rattle.da_values.specs.declared.val.Val.TheVariants as val
use Rattle.da_values.specs.declared.val.Val.TheVariants.{outs-Int, outs-Bool, outs-Text}
use Rattle.da_values.specs.declared.value.Value.TheVariants as kept
use Rattle.da_lang.specs.declared.query.Agg.{roll-Agg}
use Rattle.da_lang.specs.declared.query.AggOp.TheVariants.{Sum, Min}
use Rattle.da_lang.specs.declared.query.Cond.TheVariants as co
use Rattle.da_lang.specs.declared.query.Operand.TheVariants as od
use Rattle.da_lang.specs.declared.query.Pattern.TheVariants as pa
use Rattle.da_lang.specs.declared.query.Query.TheVariants as qu
use Rattle.da_lang.specs.declared.query.RGen.{RGen}
use Rattle.da_lang.specs.declared.query.Source.TheVariants as source
use Rattle.da_lang.specs.declared.query.Term.TheVariants as te
use Rattle.da_lang.specs.declared.tree.CmpOp.TheVariants.{Eq}
use Rattle.da_lang.specs.World.{Data}
use Rattle.da_lang.proofs.MatchingLaws.{matching}
use Rattle.da_types.specs.Totality.{strict_term, strict_holds, strict_query}
use Rattle.da_types.proofs.totality.FoundAt.{finding}

abbrev d : Data
d = record { me = 1; slots = val.Set (val.Int (pos 1) ∷ val.Int (pos 2) ∷ []) ∷ val.Text (codes "a") ∷ []; sent = []; received = []; clock = 0 }

-- `x in s` binds each element of the set; the second goes through the text
abbrev elements_of_set : RGen
elements_of_set = record { source = source.Slot 1; message = pa.Bind; peer = pa.Any }

abbrev elements_of_text : RGen
elements_of_text = record { source = source.Slot 2; message = pa.Bind; peer = pa.Any }

slot_there : strict_term d [] (te.Slot 2) ≡ Some (val.Text (codes "a"))
slot_there = simp finding

slot_missing : strict_term d [] (te.Slot 3) ≡ None
slot_missing = simp finding

part_missing : strict_term d (val.Int (pos 1) ∷ []) (te.Tuple (te.Part 1 ∷ te.Part 2 ∷ [])) ≡ None
part_missing = simp finding

foreign : strict_term d [] te.Foreign ≡ None
foreign = simp finding

-- a condition that is an integer; a comparison of an integer with a text
no_truth : strict_holds d (co.Truth (te.Const (kept.Int (pos 1)))) [] ≡ None
no_truth = simp (finding, outs-Int)

two_kinds : strict_holds d (co.Cmp Eq (od.Term (te.Const (kept.Int (pos 1)))) (od.Term (te.Slot 2))) [] ≡ None
two_kinds = simp (finding, outs-Int, outs-Text)

-- what is missing after a true part of an `or` is missed
no_short_way : strict_holds d (co.Or (co.Truth (te.Const (kept.Bool true)) ∷ co.Truth (te.Slot 3) ∷ [])) [] ≡ None
no_short_way = simp (finding, outs-Bool)

-- a condition that has no value in some row, and a generator over a text
missing_in_a_row : strict_query d (qu.Quant false (elements_of_set ∷ []) (Some (co.Truth (te.Part 1)))) ≡ None
missing_in_a_row = simp (finding, matching, pa.outs-Any)

over_a_text : strict_query d (qu.Quant false (elements_of_text ∷ []) None) ≡ None
over_a_text = simp outs-Text

-- a `sum` of the set, and one of texts; a `min` without a value for where there are no elements
sum_of_set : strict_query d (qu.Agg (roll-Agg (record { op = Sum; gens = elements_of_set ∷ []; cond = None; term = te.Part 1; other = None }))) ≡ Some (val.Int (pos 3))
sum_of_set = simp (finding, matching, pa.outs-Any)

sum_of_texts : strict_query d (qu.Agg (roll-Agg (record { op = Sum; gens = elements_of_set ∷ []; cond = None; term = te.Slot 2; other = None }))) ≡ None
sum_of_texts = simp (finding, matching, pa.outs-Any)

min_without : strict_query d (qu.Agg (roll-Agg (record { op = Min; gens = elements_of_set ∷ []; cond = None; term = te.Part 1; other = None }))) ≡ None
min_without = simp (finding, matching, pa.outs-Any)
