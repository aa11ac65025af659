-- Arithmetic on whole values gives whole values of the same type.
use Rattle.std.specs.Prelude.{◌≡◌, refl, ℤ, zero, suc, pos, negsuc, ◌+ℤ◌, ◌-ℤ◌, ◌*ℤ◌, ◌&&◌, ◌||◌, nat_le, Bool, true, false, if◌then◌else◌, List, Option, Some, None, Ok, Err}
use Rattle.std.specs.Int.{int_gap}
use Rattle.std.proofs.Common.{◌∙◌, ap, sym, subst, inl, inr, arith}
use Rattle.std.proofs.lemmas.Bool.{false≢true, and_parts}
use Rattle.da_values.specs.declared.val.Val.{Val, out-Val}
use Rattle.da_values.specs.declared.val.Val.TheVariants as val
use Rattle.da_values.specs.declared.val.Val.TheOpen as vo
use Rattle.da_values.specs.Narrow.{is_i64}
use Rattle.da_values.specs.Order.{val_cmp}
use Rattle.da_values.specs.Sets.{Ascends}
use Rattle.da_values.specs.Views.{int_of}
use Rattle.da_values.proofs.OrderLaws.{val_order, same_from_val_cmp}
use Rattle.da_values.proofs.SetLaws.{of_union, of_intersection, of_difference, Ascends-union, Ascends-intersection, Ascends-difference}
use Rattle.da_values.proofs.ViewLaws.{int_of-Int}
use Rattle.da_lang.specs.declared.event.FaultKind.TheVariants.{Overflow}
use Rattle.da_lang.specs.declared.program.Program.{Program}
use Rattle.da_lang.specs.declared.tree.ArithOp.{ArithOp}
use Rattle.da_lang.specs.declared.tree.ArithOp.TheVariants.{Plus, Minus, Times, Div, Mod}
use Rattle.da_lang.specs.declared.ty.Ty.{Ty}
use Rattle.da_lang.specs.declared.ty.Ty.TheVariants as t
use Rattle.da_lang.specs.Arithmetic.{Outcome, fitted, quotient, remainder, divided, of_numbers, of_sets, of_layers, arithmetic, numbers_from, max_range, range_if, range}
use Rattle.da_lang.specs.ExprTypes.{is_for_sets, takes}
use Rattle.da_lang.specs.Types.{is_int, is_set, element_of}
use Rattle.da_types.proofs.shaped.Integers.{abs_of_i64, is_i64_below, remainder_below_pos, remainder_below_neg}
use Rattle.da_types.proofs.shaped.Ranges.{numbers_small, numbers_ascend}
use Rattle.da_types.proofs.shaped.Wholes.{WholeOf, WholeEach, Gives, int_whole, set_whole_of, int_parts, set_parts}
use Rattle.da_types.proofs.totality.KindLaws.{int_type, set_type}

module _ (p : Program) where
  fitted_by : (z : ℤ) (b : Bool) → is_i64 z ≡ b → Gives p t.Int (if b then Ok (val.Int z) else Err Overflow)
  fitted_by z true small = int_whole p z small
  fitted_by z false large = tt

  pub fitted_gives : (z : ℤ) → Gives p t.Int (fitted z)
  fitted_gives z = fitted_by z (is_i64 z) refl

  left_gives : (a b : ℤ) → is_i64 b ≡ true → Gives p t.Int (divided b (Ok (val.Int (remainder a b))))
  left_gives a (pos zero) small = tt
  left_gives a (pos (suc n)) small =
      let less = remainder_below_pos a n in
      int_whole p (remainder a (pos (suc n))) (is_i64_below (remainder a (pos (suc n))) (omega (arith, less, abs_of_i64 (pos (suc n)) small)))
  left_gives a (negsuc n) small =
      let less = remainder_below_neg a n in
      int_whole p (remainder a (negsuc n)) (is_i64_below (remainder a (negsuc n)) (omega (arith, less, abs_of_i64 (negsuc n) small)))

  divided_gives : (b : ℤ) (o : Outcome) → Gives p t.Int o → Gives p t.Int (divided b o)
  divided_gives (pos zero) o gives = tt
  divided_gives (pos (suc n)) o gives = gives
  divided_gives (negsuc n) o gives = gives

  numbers_give : (op : ArithOp) (a b : ℤ) → is_i64 b ≡ true → Gives p t.Int (of_numbers op a b)
  numbers_give Plus a b small = fitted_gives (a +ℤ b)
  numbers_give Minus a b small = fitted_gives (a -ℤ b)
  numbers_give Times a b small = fitted_gives (a *ℤ b)
  numbers_give Div a b small = divided_gives b (fitted (quotient a b)) (fitted_gives (quotient a b))
  numbers_give Mod a b small = left_gives a b small

  sets_give : (op : ArithOp) → is_for_sets op ≡ true → (ty : Ty) (xs ys : List Val) → WholeEach p ty xs → WholeEach p ty ys → Ascends val_cmp xs → WholeOf p (t.Set ty) (val.Set (of_sets op xs ys))
  sets_give Plus e ty xs ys first second up =
      set_whole_of p ty (of_sets Plus xs ys)
      (λ v h. elim (of_union val_cmp val_order same_from_val_cmp xs ys v h) [ inl there ↦ first v there | inr there ↦ second v there ])
      (Ascends-union val_cmp val_order same_from_val_cmp xs ys)
  sets_give Minus e ty xs ys first second up =
      set_whole_of p ty (of_sets Minus xs ys) (λ v h. first v (of_difference val_cmp val_order same_from_val_cmp xs ys v h).0) (Ascends-difference val_cmp val_order same_from_val_cmp xs ys up)
  sets_give Times e ty xs ys first second up =
      set_whole_of p ty (of_sets Times xs ys) (λ v h. first v (of_intersection val_cmp val_order same_from_val_cmp xs ys v h).0) (Ascends-intersection val_cmp val_order same_from_val_cmp xs ys up)
  sets_give Div e ty xs ys first second up = absurd (false≢true e)
  sets_give Mod e ty xs ys first second up = absurd (false≢true e)

  ints_give : (op : ArithOp) (v w : Val) → WholeOf p t.Int v → WholeOf p t.Int w → Gives p t.Int (arithmetic op v w)
  ints_give op v w first second =
      let (a, is_a, small_a) = int_parts p v first in
      let (b, is_b, small_b) = int_parts p w second in
      let is : arithmetic op v w ≡ of_numbers op a b = ap (λ z. of_layers op (out-Val z) (out-Val w)) is_a ∙ ap (λ z. of_layers op (out-Val (val.Int a)) (out-Val z)) is_b ∙ ap (λ z. of_layers op z (out-Val (val.Int b))) (val.outs-Int a) ∙ ap (of_layers op (vo.Int a)) (val.outs-Int b) in
      subst (Gives p t.Int) (sym is) (numbers_give op a b small_b)

  both_sets_give : (op : ArithOp) → is_for_sets op ≡ true → (ty : Ty) (v w : Val) → WholeOf p (t.Set ty) v → WholeOf p (t.Set ty) w → Gives p (t.Set ty) (arithmetic op v w)
  both_sets_give op e ty v w first second =
      let (xs, is_v, each_v, up) = set_parts p ty v first in
      let (ys, is_w, each_w, up_w) = set_parts p ty w second in
      let is : arithmetic op v w ≡ Ok (val.Set (of_sets op xs ys)) = ap (λ z. of_layers op (out-Val z) (out-Val w)) is_v ∙ ap (λ z. of_layers op (out-Val (val.Set xs)) (out-Val z)) is_w ∙ ap (λ z. of_layers op z (out-Val (val.Set ys))) (val.outs-Set xs) ∙ ap (of_layers op (vo.Set xs)) (val.outs-Set ys) in
      subst (Gives p (t.Set ty)) (sym is) (sets_give op e ty xs ys each_v each_w up)

  element_there : (found : Option Ty) → elim found [ Some element ↦ true | None ↦ false ] ≡ true → (element : Ty) × (found ≡ Some element)
  element_there None e = absurd (false≢true e)
  element_there (Some element) e = (element, refl)

  taken : (op : ArithOp) (ty : Ty) (v w : Val) (b : Bool) → is_int ty ≡ b → (b || (is_for_sets op && is_set ty)) ≡ true → WholeOf p ty v → WholeOf p ty w → Gives p ty (arithmetic op v w)
  taken op ty v w true is e first second =
      let same = int_type ty is in
      subst (λ z. Gives p z (arithmetic op v w)) (sym same) (ints_give op v w (subst (λ z. WholeOf p z v) same first) (subst (λ z. WholeOf p z w) same second))
  taken op ty v w false is e first second =
      let (sets, of_sets') = and_parts (is_for_sets op) (is_set ty) e in
      let (element, found) = element_there (element_of ty) of_sets' in
      let same = set_type ty element found in
      subst (λ z. Gives p z (arithmetic op v w)) (sym same) (both_sets_give op sets element v w (subst (λ z. WholeOf p z v) same first) (subst (λ z. WholeOf p z w) same second))

  -- an operation on two whole values of a type that it takes
  pub arithmetic_gives : (op : ArithOp) (ty : Ty) (v w : Val) → takes op ty ≡ true → WholeOf p ty v → WholeOf p ty w → Gives p ty (arithmetic op v w)
  arithmetic_gives op ty v w e first second = taken op ty v w (is_int ty) refl e first second

  range_by : (b : Bool) (x y : ℤ) → is_i64 x ≡ true → is_i64 y ≡ true → Gives p (t.Set t.Int) (range_if b x (int_gap x y))
  range_by false x y small_x small_y = tt
  range_by true x y small_x small_y =
      set_whole_of p t.Int (numbers_from x (int_gap x y))
      (λ v h. (let (z, is, small) = numbers_small x y small_x small_y v h in subst (WholeOf p t.Int) (sym is) (int_whole p z small)))
      (numbers_ascend x (int_gap x y))

  pub range_gives : (v w : Val) → WholeOf p t.Int v → WholeOf p t.Int w → Gives p (t.Set t.Int) (range (int_of v) (int_of w))
  range_gives v w first second =
      let (a, is_a, small_a) = int_parts p v first in
      let (b, is_b, small_b) = int_parts p w second in
      let x : int_of v ≡ a = ap int_of is_a ∙ int_of-Int a in
      let y : int_of w ≡ b = ap int_of is_b ∙ int_of-Int b in
      subst (λ z. Gives p (t.Set t.Int) (range z (int_of w))) (sym x) (subst (λ z. Gives p (t.Set t.Int) (range a z)) (sym y) (range_by (nat_le (int_gap a b) max_range) a b small_a small_b))
