-- What is noted of queries, one layer at a time.
use Rattle.std.specs.Prelude.{◌≡◌, refl, ℕ, Bool, List, [], ◌∷◌, ◌++◌, map, length, flat_map, Option, Some, None}
use Rattle.std.proofs.Common.{◌∙◌, ap, sym}
use Rattle.std.proofs.lemmas.List.{append-nil, length-map, map-append}
use Rattle.da_values.specs.declared.value.Value.{Value}
use Rattle.da_lang.specs.declared.query.Agg.{Agg, roll-Agg}
use Rattle.da_lang.specs.declared.query.AggOp.{AggOp}
use Rattle.da_lang.specs.declared.query.Cond.{Cond, roll-Cond}
use Rattle.da_lang.specs.declared.query.Cond.TheVariants as co
use Rattle.da_lang.specs.declared.query.Cond.TheOpen.{Cond-F, Operand-F}
use Rattle.da_lang.specs.declared.query.Cond.TheFolds.{map-Cond, map-Operand, fold-roll-Cond, fold-roll-Operand, fold-roll-Agg, fold-roll-SignedOperand}
use Rattle.da_lang.specs.declared.query.Operand.{Operand, roll-Operand}
use Rattle.da_lang.specs.declared.query.Operand.TheVariants as od
use Rattle.da_lang.specs.declared.query.Pattern.{Pattern, roll-Pattern}
use Rattle.da_lang.specs.declared.query.Pattern.TheVariants as pa
use Rattle.da_lang.specs.declared.query.Pattern.TheOpen.{Pattern-F}
use Rattle.da_lang.specs.declared.query.Pattern.TheFolds.{map-Pattern, fold-roll-Pattern}
use Rattle.da_lang.specs.declared.query.RGen.{RGen}
use Rattle.da_lang.specs.declared.query.SignedOperand.{SignedOperand, roll-SignedOperand}
use Rattle.da_lang.specs.declared.query.Term.{Term}
use Rattle.da_lang.specs.declared.query.Term.TheVariants as te
use Rattle.da_lang.specs.declared.query.Term.TheFolds.{fold-roll-Term}
use Rattle.da_lang.specs.declared.query.Term.TheOpen.{Term-F}
use Rattle.da_lang.specs.declared.tree.CmpOp.{CmpOp}
use Rattle.da_types.specs.Constants.{Literal, Signs, Notes, all}
use Rattle.da_types.specs.QueryNotes.{term_notes, other_notes, match_notes, match_notes_step, ranges_notes, cond_notes, operand_notes, agg_notes, signed_notes, cond_notes_step, operand_notes_step, agg_notes_step, signed_notes_step, where_notes}
use Rattle.da_types.specs.Totality.{constants, constants_step}
use Rattle.da_types.proofs.totality.WholeValues.{constants-Const, constants-Tuple}

-- terms
pub term_notes-Const : (c : Value) → term_notes (te.Const c) ≡ Literal c ∷ []
term_notes-Const c = ap (map Literal) (constants-Const c)

pub term_notes-Me : term_notes te.Me ≡ []
term_notes-Me = ap (map Literal) (ap constants (sym te.rolls-Me) ∙ fold-roll-Term (List Value) constants_step Term-F.Me)

pub term_notes-Slot : (slot : ℕ) → term_notes (te.Slot slot) ≡ []
term_notes-Slot slot = ap (map Literal) (ap constants (sym (te.rolls-Slot slot)) ∙ fold-roll-Term (List Value) constants_step (Term-F.Slot slot))

pub term_notes-Part : (part : ℕ) → term_notes (te.Part part) ≡ []
term_notes-Part part = ap (map Literal) (ap constants (sym (te.rolls-Part part)) ∙ fold-roll-Term (List Value) constants_step (Term-F.Part part))

pub term_notes-Foreign : term_notes te.Foreign ≡ []
term_notes-Foreign = ap (map Literal) (ap constants (sym te.rolls-Foreign) ∙ fold-roll-Term (List Value) constants_step Term-F.Foreign)

noted_parts : (parts : List Term) → map Literal (flat_map constants parts) ≡ all (map term_notes parts)
noted_parts [] = refl
noted_parts (t ∷ parts) = map-append Literal (constants t) (flat_map constants parts) ∙ ap (λ z. term_notes t ++ z) (noted_parts parts)

pub term_notes-Tuple : (parts : List Term) → term_notes (te.Tuple parts) ≡ all (map term_notes parts)
term_notes-Tuple parts = ap (map Literal) (constants-Tuple parts) ∙ noted_parts parts

-- patterns
match_layer : (x : Pattern-F Pattern) → match_notes (roll-Pattern x) ≡ match_notes_step (map-Pattern Pattern Notes match_notes x)
unfolding match_notes
match_layer x = fold-roll-Pattern Notes match_notes_step x

pub match_notes-Any : match_notes pa.Any ≡ []
match_notes-Any = ap match_notes (sym pa.rolls-Any) ∙ match_layer Pattern-F.Any

pub match_notes-Bind : match_notes pa.Bind ≡ []
match_notes-Bind = ap match_notes (sym pa.rolls-Bind) ∙ match_layer Pattern-F.Bind

pub match_notes-Const : (c : Value) → match_notes (pa.Const c) ≡ Literal c ∷ []
match_notes-Const c = ap match_notes (sym (pa.rolls-Const c)) ∙ match_layer (Pattern-F.Const c)

pub match_notes-Me : match_notes pa.Me ≡ []
match_notes-Me = ap match_notes (sym pa.rolls-Me) ∙ match_layer Pattern-F.Me

pub match_notes-Equal : (t : Term) → match_notes (pa.Equal t) ≡ term_notes t
match_notes-Equal t = ap match_notes (sym (pa.rolls-Equal t)) ∙ match_layer (Pattern-F.Equal t)

pub match_notes-Tuple : (parts : List Pattern) → match_notes (pa.Tuple parts) ≡ all (map match_notes parts)
match_notes-Tuple parts = ap match_notes (sym (pa.rolls-Tuple parts)) ∙ match_layer (Pattern-F.Tuple parts)

-- conditions
cond_layer : (b : Cond-F Cond Operand Agg SignedOperand) → cond_notes (roll-Cond b) ≡ cond_notes_step (map-Cond Cond Operand Agg SignedOperand Notes Notes Notes Notes cond_notes operand_notes agg_notes signed_notes b)
unfolding cond_notes operand_notes agg_notes signed_notes
cond_layer b = fold-roll-Cond Notes Notes Notes Notes cond_notes_step operand_notes_step agg_notes_step signed_notes_step b

operand_layer : (a : Operand-F Cond Operand Agg SignedOperand) → operand_notes (roll-Operand a) ≡ operand_notes_step (map-Operand Cond Operand Agg SignedOperand Notes Notes Notes Notes cond_notes operand_notes agg_notes signed_notes a)
unfolding cond_notes operand_notes agg_notes signed_notes
operand_layer a = fold-roll-Operand Notes Notes Notes Notes cond_notes_step operand_notes_step agg_notes_step signed_notes_step a

pub cond_notes-Truth : (y : Term) → cond_notes (co.Truth y) ≡ term_notes y
cond_notes-Truth y = ap cond_notes (sym (co.rolls-Truth y)) ∙ cond_layer (Cond-F.Truth y)

pub cond_notes-Cmp : (op : CmpOp) (a b : Operand) → cond_notes (co.Cmp op a b) ≡ operand_notes a ++ operand_notes b
cond_notes-Cmp op a b = ap cond_notes (sym (co.rolls-Cmp op a b)) ∙ cond_layer (Cond-F.Cmp op a b)

pub cond_notes-Not : (b : Cond) → cond_notes (co.Not b) ≡ cond_notes b
cond_notes-Not b = ap cond_notes (sym (co.rolls-Not b)) ∙ cond_layer (Cond-F.Not b)

pub cond_notes-And : (bs : List Cond) → cond_notes (co.And bs) ≡ all (map cond_notes bs)
cond_notes-And bs = ap cond_notes (sym (co.rolls-And bs)) ∙ cond_layer (Cond-F.And bs)

pub cond_notes-Or : (bs : List Cond) → cond_notes (co.Or bs) ≡ all (map cond_notes bs)
cond_notes-Or bs = ap cond_notes (sym (co.rolls-Or bs)) ∙ cond_layer (Cond-F.Or bs)

pub cond_notes-Quant : (each : Bool) (gens : List RGen) (b : Option Cond) → cond_notes (co.Quant each gens b) ≡ ranges_notes gens ++ where_notes b
cond_notes-Quant each gens None = ap cond_notes (sym (co.rolls-Quant each gens None)) ∙ cond_layer (Cond-F.Quant each gens None)
cond_notes-Quant each gens (Some b) =
    ap cond_notes (sym (co.rolls-Quant each gens (Some b))) ∙ cond_layer (Cond-F.Quant each gens (Some b)) ∙ ap (λ z. ranges_notes gens ++ z) (append-nil (cond_notes b))

pub operand_notes-Term : (y : Term) → operand_notes (od.Term y) ≡ term_notes y
operand_notes-Term y = ap operand_notes (sym (od.rolls-Term y)) ∙ operand_layer (Operand-F.Term y)

pub operand_notes-Agg : (a : Agg) → operand_notes (od.Agg a) ≡ agg_notes a
operand_notes-Agg a = ap operand_notes (sym (od.rolls-Agg a)) ∙ operand_layer (Operand-F.Agg a)

pub operand_notes-Chain : (a : Operand) (more : List SignedOperand) → operand_notes (od.Chain a more) ≡ Signs (length more) ∷ operand_notes a ++ all (map signed_notes more)
operand_notes-Chain a more =
    ap operand_notes (sym (od.rolls-Chain a more)) ∙ operand_layer (Operand-F.Chain a more)
    ∙ ap (λ n. Signs n ∷ operand_notes a ++ all (map signed_notes more)) (length-map more signed_notes)

pub signed_notes-of : (minus : Bool) (a : Operand) → signed_notes (roll-SignedOperand (record { minus = minus; operand = a })) ≡ operand_notes a
unfolding cond_notes operand_notes agg_notes signed_notes
signed_notes-of minus a = fold-roll-SignedOperand Notes Notes Notes Notes cond_notes_step operand_notes_step agg_notes_step signed_notes_step (record { minus = minus; operand = a })

pub agg_notes-of : (op : AggOp) (gens : List RGen) (b : Option Cond) (y : Term) (other : Option Term) → agg_notes (roll-Agg (record { op = op; gens = gens; cond = b; term = y; other = other })) ≡ ranges_notes gens ++ where_notes b ++ term_notes y ++ other_notes other
unfolding cond_notes operand_notes agg_notes signed_notes
agg_notes-of op gens None y other = fold-roll-Agg Notes Notes Notes Notes cond_notes_step operand_notes_step agg_notes_step signed_notes_step (record { op = op; gens = gens; cond = None; term = y; other = other })
agg_notes-of op gens (Some b) y other =
    fold-roll-Agg Notes Notes Notes Notes cond_notes_step operand_notes_step agg_notes_step signed_notes_step (record { op = op; gens = gens; cond = Some b; term = y; other = other })
    ∙ ap (λ z. ranges_notes gens ++ z ++ term_notes y ++ other_notes other) (append-nil (cond_notes b))
