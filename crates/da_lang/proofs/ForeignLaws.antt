-- A `Foreign` equals no value, so no value matches it.
use Rattle.std.specs.Prelude.{◌≡◌, ℕ, false, List, None, refl}
use Rattle.std.specs.Ordering.{is_eq}
use Rattle.std.specs.declared.cmp.Ordering.{Ordering}
use Rattle.std.specs.declared.cmp.Ordering.TheVariants.{Less, Equal, Greater}
use Rattle.std.proofs.Common.{ap, sym, ◌∙◌, arith}
use Rattle.da_values.specs.declared.val.Val.{Val, out-Val}
use Rattle.da_values.specs.declared.val.Val.TheVariants as val
use Rattle.da_values.specs.declared.val.Val.TheVariants.{outs-Int, outs-Bool, outs-Text, outs-Proc, outs-Tuple, outs-Set}
use Rattle.da_values.specs.declared.val.Val.TheOpen as layer
use Rattle.da_values.specs.declared.val.Val.TheOpen.{Val-F}
use Rattle.da_values.specs.Order.{val_cmp}
use Rattle.da_values.specs.Proper.{IsValue}
use Rattle.da_values.proofs.OrderLaws.{same_from_val_cmp}
use Rattle.da_values.proofs.ViewLaws.{proc_of-Proc}
use Rattle.da_values.specs.Views.{proc_of}
use Rattle.da_lang.specs.declared.query.Pattern.TheVariants as pattern
use Rattle.da_lang.specs.declared.query.Term.TheVariants as term
use Rattle.da_lang.specs.Matching.{Row, is_same, where_true, matched}
use Rattle.da_lang.specs.World.{nothing}
use Rattle.da_lang.proofs.MatchingLaws.{term-Foreign, match-Equal}

-- the layer of no value is that of `nothing`
layer_of : (x : Val) (y : Val-F Val) → out-Val x ≡ y → x ≡ nothing → y ≡ layer.Proc 0
layer_of x y is e = sym is ∙ ap out-Val e ∙ outs-Proc 0

pub not_nothing : (x : Val) → IsValue x → x ≡ nothing → ⊥
not_nothing _ (IsValue.integer number fits) e = let wrong = layer_of (val.Int number) (layer.Int number) (outs-Int number) e in cc
not_nothing _ (IsValue.truth b) e = let wrong = layer_of (val.Bool b) (layer.Bool b) (outs-Bool b) e in cc
not_nothing _ (IsValue.text bytes each) e = let wrong = layer_of (val.Text bytes) (layer.Text bytes) (outs-Text bytes) e in cc
not_nothing _ (IsValue.process p positive fits) e = let same : p ≡ 0 = sym (proc_of-Proc p) ∙ ap proc_of e ∙ proc_of-Proc 0 in omega (arith, positive, same)
not_nothing _ (IsValue.tuple parts each) e = let wrong = layer_of (val.Tuple parts) (layer.Tuple parts) (outs-Tuple parts) e in cc
not_nothing _ (IsValue.set elements each up) e = let wrong = layer_of (val.Set elements) (layer.Set elements) (outs-Set elements) e in cc

not_equal : (o : Ordering) → (o ≡ Equal → ⊥) → is_eq o ≡ false
not_equal Less never = refl
not_equal Equal never = absurd (never refl)
not_equal Greater never = refl

pub foreign_equals_none : (x : Val) → IsValue x → is_same x nothing ≡ false
foreign_equals_none x proper = not_equal (val_cmp x nothing) (λ same. not_nothing x proper (same_from_val_cmp x nothing same))

pub foreign_matches_none : (me : ℕ) (slots : List Val) (x : Val) (row : Row) → IsValue x → matched me slots (pattern.Equal term.Foreign) x row ≡ None
foreign_matches_none me slots x row proper =
    match-Equal me slots x row term.Foreign
    ∙ ap (λ y. where_true (is_same x y) row) (term-Foreign me slots row)
    ∙ ap (λ b. where_true b row) (foreign_equals_none x proper)
