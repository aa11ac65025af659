-- What small statements demand, and which types stand for unknown ones.
use Rattle.std.specs.Prelude.{◌≡◌, refl, ℕ, zero, suc, pos, true, false, ◌&&◌, List, [], ◌∷◌, map, Option, Some, None}
use Rattle.std.proofs.Common.{◌∙◌, ap, ap₂, sym}
use Rattle.da_values.specs.declared.value.Value.TheVariants as kept
use Rattle.da_lang.specs.declared.program.Item.{Item, roll-Item}
use Rattle.da_lang.specs.declared.program.ItemKind.TheVariants as it
use Rattle.da_lang.specs.declared.program.RExpr.{RExpr}
use Rattle.da_lang.specs.declared.program.RExpr.TheVariants as re
use Rattle.da_lang.specs.declared.ty.Ty.{Ty, roll-Ty, out-Ty}
use Rattle.da_lang.specs.declared.ty.Ty.TheFolds.{fold-roll-Ty, map-Ty}
use Rattle.da_lang.specs.declared.ty.Ty.TheOpen as layer
use Rattle.da_lang.specs.declared.ty.Ty.TheVariants as t
use Rattle.da_lang.specs.QueryTypes.{holds_of, is_typed}
use Rattle.da_lang.specs.Types.{int_in, bool_in}
use Rattle.da_lang.proofs.typing.TypesAt.{same_type_at-Int, same_type_at-Bool}
use Rattle.type_table.specs.declared.scheme.Scheme.TheVariants as s
use Rattle.type_table.specs.Fits.{Meaning}
use Rattle.type_table.proofs.SchemeLaws.{stands_unknown, stands_int, stands_bool}
use Rattle.type_demands.specs.declared.demand.Demand.TheVariants as d
use Rattle.type_demands.specs.declared.demand.LineDemand.{LineDemand}
use Rattle.type_demands.specs.Demands.{all_met, on_line}
use Rattle.type_demands.specs.Syms.{Context, plain, never}
use Rattle.type_demands.proofs.ExprsAt.{sym-Const, sym-Slot, sym-SetOf}
use Rattle.class_demands.specs.declared.demands.Head.{Head}
use Rattle.class_demands.specs.Prefix.{always, upto, needed}
use Rattle.class_demands.specs.Statements.{item_demands}
use Rattle.class_demands.specs.Unknowns.{depth, number_in, number_step, unknown_in}
use Rattle.class_demands.proofs.StatementsAt.{asks-Add, asks-Assign, item_asks-of}

number_layer : (y : layer.Ty-F Ty) → number_in (roll-Ty y) ≡ number_step (map-Ty Ty (Option ℕ) number_in y)
unfolding number_in
number_layer y = fold-roll-Ty (Option ℕ) number_step y

number-Int : number_in t.Int ≡ Some 0
number-Int = ap number_in (sym t.rolls-Int) ∙ number_layer layer.Int

number-Bool : number_in t.Bool ≡ None
number-Bool = ap number_in (sym t.rolls-Bool) ∙ number_layer layer.Bool

number-Tuple : (xs : List Ty) → number_in (t.Tuple xs) ≡ number_step (layer.Tuple (map number_in xs))
number-Tuple xs = ap number_in (sym (t.rolls-Tuple xs)) ∙ number_layer (layer.Tuple xs)

number-Set : (x : Ty) → number_in (t.Set x) ≡ number_step (layer.Set (number_in x))
number-Set x = ap number_in (sym (t.rolls-Set x)) ∙ number_layer (layer.Set x)

ruleset numbering = (number-Int, number-Bool, number-Tuple, number-Set, t.outs-Set, t.outs-Int)

-- a type in so many sets
abbrev sets : ℕ → Ty → Ty
sets zero x = x
sets (suc count) x = t.Set (sets count x)

-- the unknown types 0, 1, 2 and 5
unknown_0 : unknown_in (sets 33 t.Int) ≡ Some 0
unfolding unknown_in depth
unknown_0 = simp numbering

unknown_1 : unknown_in (sets 33 (t.Set t.Int)) ≡ Some 1
unfolding unknown_in depth
unknown_1 = simp numbering

unknown_2 : unknown_in (sets 33 (t.Tuple (t.Int ∷ []))) ≡ Some 2
unfolding unknown_in depth
unknown_2 = simp numbering

unknown_5 : unknown_in (sets 33 (t.Set (t.Tuple (t.Int ∷ [])))) ≡ Some 5
unfolding unknown_in depth
unknown_5 = simp numbering

-- as deep as a text may be, and other types inside: none
written_32 : unknown_in (sets 32 t.Int) ≡ None
unfolding unknown_in depth
written_32 = simp numbering

truths : unknown_in (sets 33 t.Bool) ≡ None
unfolding unknown_in depth
truths = simp numbering

-- slot 1 has the unknown type 0
abbrev context : Context
context = record { slot = λ slot. plain (s.Unknown 0); message = λ tag. never }

abbrev assign : ℕ → RExpr → Item
assign line x = roll-Item (record { line = line; kind = it.Assign 1 x })

-- `x = 1` on line 3 and `x = true` on line 4: one type cannot be both
one_is : item_demands context [] (assign 3 (re.Const (kept.Int (pos 1)))) ≡ on_line 3 (d.Flat s.Int) ∷ on_line 3 (d.Same (s.Unknown 0) s.Int) ∷ []
one_is = simp (item_asks-of, asks-Assign, sym-Const)

true_is : item_demands context [] (assign 4 (re.Const (kept.Bool true))) ≡ on_line 4 (d.Flat s.Bool) ∷ on_line 4 (d.Same (s.Unknown 0) s.Bool) ∷ []
true_is = simp (item_asks-of, asks-Assign, sym-Const)

not_both : (l : layer.Ty-F Ty) → (int_in l && (bool_in l && true)) ≡ false
not_both layer.Int = refl
not_both layer.Bool = refl
not_both layer.Text = refl
not_both layer.Proc = refl
not_both (layer.Tuple parts) = refl
not_both (layer.Set x) = refl

clash : (m : Meaning) → all_met m always (d.Same (s.Unknown 0) s.Int ∷ d.Same (s.Unknown 0) s.Bool ∷ []) ≡ false
clash m =
    ap₂ (λ a b. a && (b && true))
    (ap₂ (λ o p. holds_of o (is_typed p)) (stands_unknown m 0) (stands_int m) ∙ same_type_at-Int (m 0))
    (ap₂ (λ o p. holds_of o (is_typed p)) (stands_unknown m 0) (stands_bool m) ∙ same_type_at-Bool (m 0))
    ∙ not_both (out-Ty (m 0))

-- `x.add(x)` on line 3: the type would be that of its own elements
added_to_itself : item_demands context [] (roll-Item (record { line = 3; kind = it.Add 1 (re.Slot 1) })) ≡ on_line 3 (d.Flat (s.Unknown 0)) ∷ on_line 3 (d.Same (s.Element (s.Unknown 0)) (s.Unknown 0)) ∷ []
added_to_itself = simp (item_asks-of, asks-Add, sym-Slot)

-- `x = {}` on line 3: a set, of whatever elements
empty_set : item_demands context [] (assign 3 (re.SetOf [])) ≡ on_line 3 (d.Flat (s.Unknown 0)) ∷ on_line 3 (d.Elements (s.Unknown 0)) ∷ []
empty_set = simp (item_asks-of, asks-Assign, sym-SetOf)

-- up to a line
abbrev lines : List LineDemand
lines = on_line 3 (d.Int (s.Unknown 0)) ∷ on_line 4 (d.Truth (s.Unknown 0)) ∷ []

upto_2 : upto 2 lines ≡ []
upto_2 = refl

upto_3 : upto 3 lines ≡ d.Int (s.Unknown 0) ∷ []
upto_3 = refl

-- slot 2 is that of a loop over slot 1, and slot 3 that of a loop over slot 2
abbrev loops : List Head
loops = record { binds = 2 ∷ []; demands = d.Elements (s.Unknown 0) ∷ [] } ∷ record { binds = 3 ∷ []; demands = d.Uses 2 ∷ d.Elements (s.Element (s.Unknown 0)) ∷ [] } ∷ []

-- a use of slot 3 demands what both headers do, one of slot 2 what the first does
inner_use : needed loops (d.Uses 3 ∷ []) ≡ d.Uses 3 ∷ d.Uses 2 ∷ d.Elements (s.Element (s.Unknown 0)) ∷ d.Elements (s.Unknown 0) ∷ []
inner_use = refl

outer_use : needed loops (d.Uses 2 ∷ []) ≡ d.Uses 2 ∷ d.Elements (s.Unknown 0) ∷ []
outer_use = refl

no_use : needed loops (d.Int (s.Unknown 0) ∷ []) ≡ d.Int (s.Unknown 0) ∷ []
no_use = refl
