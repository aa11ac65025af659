-- Sides of comparisons, operands of chains and aggregates, where their types are what is found.
use Rattle.std.specs.Prelude.{◌≡◌, refl, ℕ, Bool, true, false, ◌&&◌, if◌then◌else◌, List, [], ◌∷◌, ◌++◌, flat_map, Option, Some, None}
use Rattle.std.specs.List.{list_all, AllByRecursion}
use Rattle.std.proofs.Common.{◌∙◌, ap, ap₂, sym}
use Rattle.da_lang.specs.declared.query.AggOp.{AggOp}
use Rattle.da_lang.specs.declared.query.AggOp.TheVariants as agg
use Rattle.da_lang.specs.declared.tree.CmpOp.{CmpOp}
use Rattle.da_lang.specs.declared.ty.Ty.{Ty}
use Rattle.da_lang.specs.declared.ty.Ty.TheVariants as t
use Rattle.da_lang.specs.QueryTypes as type
use Rattle.da_lang.specs.QueryTypes.{Side, given, holds_of, when, flat, is_typed, is_operand, asks_order, compares, comparable, agg_type}
use Rattle.da_lang.specs.Types.{ordered, is_flat, is_int, same_type}
use Rattle.type_table.specs.declared.scheme.Scheme.{Scheme}
use Rattle.type_table.specs.declared.scheme.Scheme.TheVariants as s
use Rattle.type_table.specs.Fits.{Meaning}
use Rattle.type_table.specs.Schemes.{stands}
use Rattle.type_table.proofs.SchemeLaws.{stands_int, stands_set}
use Rattle.type_demands.specs.declared.demand.Demand.{Demand}
use Rattle.type_demands.specs.declared.demand.Demand.TheVariants as d
use Rattle.type_demands.specs.Demands.{all_met}
use Rattle.type_demands.specs.Syms.{Sym, found, demanding, same_as}
use Rattle.type_demands.specs.Conds.{SideSym, side_sym, no_sum, operand_asks, ordered_if, compared_sides, extreme_sym, agg_over, behind, set_sym, agg_found}
use Rattle.type_demands.specs.Meets.{found_side}
use Rattle.type_demands.proofs.FoundLaws.{guard, and_true, given_guard, guard_twice, met_both, met_last, next_found, same_found}

-- a side of this type
abbrev side_of : Bool → Ty → Option Side
side_of sum ty = Some (record { ty = ty; sum = sum })

module _ (m : Meaning) (headed : ℕ → Bool) where
  abbrev Met : List Demand → Bool
  Met ds = all_met m headed ds

  abbrev Found : SideSym → Option Side
  Found x = found_side m headed x

  pub side_found : (o : Option Ty) (x : Sym) → o ≡ found m headed x → given o type.plain ≡ Found (side_sym x)
  side_found o x is = ap (λ z. given z type.plain) is

  -- comparisons
  compared : (b c : Bool) (p q : Option Ty) (first second : Bool) (o : CmpOp) (r : Bool) → ((ty : Ty) → p ≡ Some ty → compares o ty ≡ r)
      → comparable o (given (guard b p) (side_of first)) (given (guard c q) (side_of second)) ≡ ((b && c) && (holds_of q (is_typed p) && r))
  compared true true (Some x) (Some y) first second o r is = ap (λ z. same_type x y && z) (is x refl)
  compared true true (Some x) None first second o r is = refl
  compared true true None (Some y) first second o r is = refl
  compared true true None None first second o r is = refl
  compared true false (Some x) q first second o r is = refl
  compared true false None q first second o r is = refl
  compared false c p q first second o r is = refl

  ordered_met : (b : Bool) (x : Scheme) (ty : Ty) → stands m x ≡ Some ty → (if b then ordered ty else true) ≡ Met (ordered_if b x)
  ordered_met true x ty stand = ap (λ z. holds_of z ordered) (sym stand) ∙ sym (and_true (holds_of (stands m x) ordered))
  ordered_met false x ty stand = refl

  pub comparable_met : (o : CmpOp) (x y : SideSym) → comparable o (Found x) (Found y) ≡ Met (compared_sides o x y)
  comparable_met o x y =
      let p = stands m x.itself.scheme in
      let q = stands m y.itself.scheme in
      let rest = ordered_if (asks_order o) x.itself.scheme in
      let same = d.Same y.itself.scheme x.itself.scheme in
      compared (Met x.itself.demands) (Met y.itself.demands) p q x.sum y.sum o (Met rest) (λ ty stand. ordered_met (asks_order o) x.itself.scheme ty stand)
      ∙ ap (λ b. b && (holds_of q (is_typed p) && Met rest)) (sym (met_both m headed x.itself.demands y.itself.demands))
      ∙ sym (met_both m headed (x.itself.demands ++ y.itself.demands) (same ∷ rest))

  -- operands of a chain
  operand_where : (b : Bool) (o : Option Ty) (sum : Bool) → is_operand (given (guard b o) (side_of sum)) ≡ ((b && holds_of o is_int) && Met (no_sum sum))
  operand_where false o sum = refl
  operand_where true None sum = refl
  operand_where true (Some ty) true = refl
  operand_where true (Some ty) false = refl

  pub operand_met : (x : SideSym) → is_operand (Found x) ≡ Met (operand_asks x)
  operand_met x =
      operand_where (Met x.itself.demands) (stands m x.itself.scheme) x.sum
      ∙ ap (λ b. b && Met (no_sum x.sum)) (sym (met_last m headed x.itself.demands (d.Int x.itself.scheme)))
      ∙ sym (met_both m headed (demanding d.Int x.itself) (no_sum x.sum))

  int_found : (ds : List Demand) → given (guard (Met ds) (stands m s.Int)) (side_of false) ≡ (if Met ds then type.plain t.Int else None)
  int_found ds = ap (λ o. given (guard (Met ds) o) (side_of false)) (stands_int m) ∙ given_guard (Met ds) (Some t.Int) (side_of false)

  module _ {X : Type 0} (e : X → Option Side) (g : X → SideSym) where
    abbrev All : List X → Type 0
    All ys = AllByRecursion (λ y. e y ≡ Found (g y)) ys

    pub operands_met : (ys : List X) → All ys → list_all (λ y. is_operand (e y)) ys ≡ Met (flat_map (λ y. operand_asks (g y)) ys)
    operands_met [] each = refl
    operands_met (y ∷ ys) each =
        ap₂ (λ b c. b && c) (ap is_operand each.0 ∙ operand_met (g y)) (operands_met ys each.1)
        ∙ sym (met_both m headed (operand_asks (g y)) (flat_map (λ y. operand_asks (g y)) ys))

  pub chain_found : (b : Bool) (ds : List Demand) → b ≡ Met ds → (if b then type.plain t.Int else None) ≡ Found (side_sym (record { demands = ds; scheme = s.Int }))
  chain_found b ds is = ap (λ c. if c then type.plain t.Int else None) is ∙ sym (int_found ds)

  -- what comes after demands
  pub behind_found : (ds : List Demand) (x : SideSym) → Found (behind ds x) ≡ guard (Met ds) (Found x)
  behind_found ds x =
      given_guard (Met (ds ++ x.itself.demands)) (stands m x.itself.scheme) (side_of x.sum)
      ∙ ap (λ b. guard b (given (stands m x.itself.scheme) (side_of x.sum))) (met_both m headed ds x.itself.demands)
      ∙ sym (guard_twice (Met ds) (Met x.itself.demands) (given (stands m x.itself.scheme) (side_of x.sum)))
      ∙ ap (guard (Met ds)) (sym (given_guard (Met x.itself.demands) (stands m x.itself.scheme) (side_of x.sum)))

  -- aggregates
  extreme_where : (x : Scheme) (ty : Ty) → stands m x ≡ Some ty → (o : Option Ty) (other : Sym) → o ≡ found m headed other → (if ordered ty && is_typed o ty then type.plain ty else None) ≡ Found (extreme_sym x other)
  extreme_where x ty stand o other is =
      ap (λ b. if b then type.plain ty else None)
      (ap₂ (λ b c. b && c) (ap (λ z. holds_of z ordered) (sym stand)) (ap (λ z. is_typed z ty) is ∙ ap (λ z. holds_of z (is_typed (found m headed other))) (sym stand) ∙ same_found m headed other x))
      ∙ sym (given_guard (Met (d.Ordered x ∷ same_as x other)) (Some ty) (side_of false))
      ∙ ap (λ z. given (guard (Met (d.Ordered x ∷ same_as x other)) z) (side_of false)) (sym stand)

  agg_where : (op : AggOp) (x : Scheme) (ty : Ty) → stands m x ≡ Some ty → (o : Option Ty) (other : Sym) → o ≡ found m headed other → agg_type op ty o ≡ Found (agg_over op x other)
  agg_where agg.Count x ty stand o other is = ap (λ z. given z (side_of false)) (sym (stands_int m))
  agg_where agg.Sum x ty stand o other is =
      ap (λ b. when b (record { ty = t.Int; sum = true })) (ap (λ z. holds_of z is_int) (sym stand) ∙ sym (and_true (holds_of (stands m x) is_int)))
      ∙ sym (given_guard (Met (d.Int x ∷ [])) (Some t.Int) (side_of true))
      ∙ ap (λ z. given (guard (Met (d.Int x ∷ [])) z) (side_of true)) (sym (stands_int m))
  agg_where agg.Min x ty stand o other is = extreme_where x ty stand o other is
  agg_where agg.Max x ty stand o other is = extreme_where x ty stand o other is

  set_behind : (b : Bool) (ty : Ty) (r : Option Side) → given (when b ty) (λ set. r) ≡ guard b r
  set_behind true ty r = refl
  set_behind false ty r = refl

  pub agg_is_found : (op : AggOp) (x other : Sym) (o p : Option Ty) → o ≡ found m headed x → p ≡ found m headed other → given o (λ ty. given (flat (t.Set ty)) (λ set. agg_type op ty p)) ≡ Found (agg_found op x other)
  agg_is_found op x other o p of_x of_other =
      let f : Ty → Option Side = λ ty. given (flat (t.Set ty)) (λ set. agg_type op ty p) in
      let set = s.Set x.scheme in
      let r = Found (agg_over op x.scheme other) in
      ap (λ z. given z f) of_x
      ∙ next_found m headed x f (d.Flat set ∷ []) r (at (stands m x.scheme) refl ∙ ap (λ z. guard (holds_of z is_flat && true) r) (sym (stands_set m x.scheme)))
      ∙ sym (behind_found (set_sym x).demands (agg_over op x.scheme other))
    where
      at : (q : Option Ty) → stands m x.scheme ≡ q
          → given q (λ ty. given (flat (t.Set ty)) (λ set. agg_type op ty p)) ≡ guard (holds_of (given q (λ ty. Some (t.Set ty))) is_flat && true) (Found (agg_over op x.scheme other))
      at None stand = refl
      at (Some ty) stand =
          set_behind (is_flat (t.Set ty)) (t.Set ty) (agg_type op ty p)
          ∙ ap₂ (λ b z. guard b z) (sym (and_true (is_flat (t.Set ty)))) (agg_where op x.scheme ty stand p other of_other)
