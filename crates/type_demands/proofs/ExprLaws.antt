-- The forms of expressions, where their parts have what is found.
use Rattle.std.specs.Prelude.{◌≡◌, refl, ℕ, zero, suc, Bool, true, false, ◌&&◌, ◌||◌, if◌then◌else◌, List, [], ◌∷◌, ◌++◌, map, flat_map, length, Option, Some, None}
use Rattle.std.specs.List.{list_all, AllByRecursion}
use Rattle.std.proofs.Common.{◌∙◌, ap, sym, arith}
use Rattle.std.proofs.lemmas.Bool.{eqb-true, eqb-false}
use Rattle.da_lang.specs.declared.ty.Ty.{Ty}
use Rattle.da_lang.specs.declared.ty.Ty.TheVariants as t
use Rattle.da_lang.specs.declared.tree.ArithOp.{ArithOp}
use Rattle.da_lang.specs.declared.tree.CmpOp.{CmpOp}
use Rattle.da_lang.specs.ExprTypes.{ExprType, Further, by_itself, gives, parts_fit, tuple_typing, set_typing, set_type, all_typed, is, int, truth, comparison, member, takes, chain_type, is_for_sets}
use Rattle.da_lang.specs.QueryTypes.{given, holds_of, when, flat, is_typed, asks_order}
use Rattle.da_lang.specs.Types.{is_flat, is_int, is_bool, is_set, ordered, parts_of, element_of}
use Rattle.type_table.specs.declared.scheme.Scheme.{Scheme}
use Rattle.type_table.specs.declared.scheme.Scheme.TheVariants as s
use Rattle.type_table.specs.Fits.{Meaning}
use Rattle.type_table.specs.Schemes.{stands}
use Rattle.type_table.proofs.SchemeLaws.{stands_int, stands_bool, stands_proc, stands_set, stands_element}
use Rattle.type_demands.specs.declared.demand.Demand.{Demand}
use Rattle.type_demands.specs.declared.demand.Demand.TheVariants as d
use Rattle.type_demands.specs.Demands.{met, all_met, has_width}
use Rattle.type_demands.specs.Syms.{found, same_as}
use Rattle.type_demands.specs.Terms.{element_sym}
use Rattle.type_demands.specs.Exprs.{ExprSym, FurtherSym, where_met, is_one, syms, parts_ask, tuple_asks, first_set, set_asks, right_asks, taken, further_asks}
use Rattle.type_demands.specs.Meets.{Agrees}
use Rattle.type_demands.proofs.FoundLaws.{and_false, given_given, given_itself, holds_both, met_both, tests_found, test_found, next_found, same_found, flat_found, element_found, made_where, AreFound, tuple_found, alone_agrees, where_agrees}
use Rattle.type_demands.proofs.PartLaws.{PartsStand, parts_stand}

or_false : (b : Bool) → (b || false) ≡ b
or_false true = refl
or_false false = refl

module _ (m : Meaning) (headed : ℕ → Bool) where
  abbrev Met : List Demand → Bool
  Met ds = all_met m headed ds

  abbrev Same : ExprType → ExprSym → Type 0
  Same e x = Agrees m headed e x

  int_met : (e : ExprType) (x : ExprSym) → Same e x → int e ≡ Met (is_one d.Int x)
  int_met e x a = ap (λ o. holds_of o is_int) a.types ∙ test_found m headed x.itself is_int (d.Int x.itself.scheme) refl

  truth_met : (e : ExprType) (x : ExprSym) → Same e x → truth e ≡ Met (is_one d.Truth x)
  truth_met e x a = ap (λ o. holds_of o is_bool) a.types ∙ test_found m headed x.itself is_bool (d.Truth x.itself.scheme) refl

  -- the same type as one that is asked for
  same_met : (e : ExprType) (x : ExprSym) → Same e x → (asked : Scheme) → holds_of (stands m asked) (is_typed e.type_) ≡ Met (same_as asked x.itself)
  same_met e x a asked = ap (λ o. holds_of (stands m asked) (is_typed o)) a.types ∙ same_found m headed x.itself asked

  set_of : (x : Scheme) (ty : Ty) → stands m x ≡ Some ty → stands m (s.Set x) ≡ Some (t.Set ty)
  set_of x ty is = stands_set m x ∙ ap (λ o. given o (λ z. Some (t.Set z))) is

  pub procs_agree : Same (by_itself (Some (t.Set t.Proc))) (where_met [] (s.Set s.Proc))
  procs_agree = alone_agrees m headed (Some (t.Set t.Proc)) (record { demands = []; scheme = s.Set s.Proc }) (sym (set_of s.Proc t.Proc (stands_proc m)))

  pub me_agrees : Same (by_itself (Some t.Proc)) (where_met [] s.Proc)
  me_agrees = alone_agrees m headed (Some t.Proc) (record { demands = []; scheme = s.Proc }) (sym (stands_proc m))

  pub clock_agrees : Same (by_itself (Some t.Int)) (where_met [] s.Int)
  clock_agrees = alone_agrees m headed (Some t.Int) (record { demands = []; scheme = s.Int }) (sym (stands_int m))

  pub range_agrees : (a b : ExprType) (x y : ExprSym) → Same a x → Same b y → Same (gives (int a && int b) (t.Set t.Int)) (where_met (is_one d.Int x ++ is_one d.Int y) (s.Set s.Int))
  range_agrees a b x y p q =
      where_agrees m headed (int a && int b) (t.Set t.Int) (is_one d.Int x ++ is_one d.Int y) (s.Set s.Int)
      (ap (λ c. c && int b) (int_met a x p) ∙ ap (λ c. Met (is_one d.Int x) && c) (int_met b y q) ∙ sym (met_both m headed (is_one d.Int x) (is_one d.Int y)))
      (set_of s.Int t.Int (stands_int m))

  pub not_agrees : (a : ExprType) (x : ExprSym) → Same a x → Same (gives (truth a) t.Bool) (where_met (is_one d.Truth x) s.Bool)
  not_agrees a x p = where_agrees m headed (truth a) t.Bool (is_one d.Truth x) s.Bool (truth_met a x p) (stands_bool m)

  right_met : (o : CmpOp) (b : ExprType) (y : ExprSym) → Same b y → (left : Scheme) → holds_of (stands m left) (λ ty. if asks_order o then ordered ty && is_typed b.type_ ty else b.fits ty) ≡ Met (right_asks o left y)
  right_met o b y q left = go (asks_order o)
    where
      go : (c : Bool) → holds_of (stands m left) (λ ty. if c then ordered ty && is_typed b.type_ ty else b.fits ty) ≡ Met (if c then d.Ordered left ∷ same_as left y.itself else y.fits left)
      go true = holds_both (stands m left) ordered (is_typed b.type_) ∙ ap (λ c. holds_of (stands m left) ordered && c) (same_met b y q left)
      go false = q.fits left

  pub cmp_agrees : (o : CmpOp) (a b : ExprType) (x y : ExprSym) → Same a x → Same b y → Same (gives (comparison o a b) t.Bool) (where_met (x.itself.demands ++ right_asks o x.itself.scheme y) s.Bool)
  cmp_agrees o a b x y p q =
      let right : Ty → Bool = λ ty. if asks_order o then ordered ty && is_typed b.type_ ty else b.fits ty in
      let asks = right_asks o x.itself.scheme y in
      where_agrees m headed (comparison o a b) t.Bool (x.itself.demands ++ asks) s.Bool
      (ap (λ z. holds_of z right) p.types ∙ tests_found m headed x.itself right asks (right_met o b y q x.itself.scheme))
      (stands_bool m)

  pub member_agrees : (a b : ExprType) (x y : ExprSym) → Same a x → Same b y → Same (gives (member a b) t.Bool) (where_met (y.itself.demands ++ same_as (s.Element y.itself.scheme) x.itself) s.Bool)
  member_agrees a b x y p q =
      let asks = same_as (s.Element y.itself.scheme) x.itself in
      where_agrees m headed (member a b) t.Bool (y.itself.demands ++ asks) s.Bool
      (ap (λ z. holds_of (given z element_of) (is_typed a.type_)) q.types
      ∙ ap (λ z. holds_of z (is_typed a.type_)) (element_found m headed y.itself)
      ∙ tests_found m headed (element_sym y.itself) (is_typed a.type_) asks (same_met a x p (s.Element y.itself.scheme)))
      (stands_bool m)

  -- expressions one by one, by what their types are and what stands for them
  module _ {X : Type 0} (e : X → ExprType) (x : X → ExprSym) where
    abbrev All : List X → Type 0
    All ys = AllByRecursion (λ y. Same (e y) (x y)) ys

    truths_met : (ys : List X) → All ys → list_all truth (map e ys) ≡ Met (flat_map (is_one d.Truth) (map x ys))
    truths_met [] each = refl
    truths_met (y ∷ ys) each =
        ap (λ b. b && list_all truth (map e ys)) (truth_met (e y) (x y) each.0)
        ∙ ap (λ b. Met (is_one d.Truth (x y)) && b) (truths_met ys each.1)
        ∙ sym (met_both m headed (is_one d.Truth (x y)) (flat_map (is_one d.Truth) (map x ys)))

    pub truths_agree : (ys : List X) → All ys → Same (gives (list_all truth (map e ys)) t.Bool) (where_met (flat_map (is_one d.Truth) (map x ys)) s.Bool)
    truths_agree ys each = where_agrees m headed (list_all truth (map e ys)) t.Bool (flat_map (is_one d.Truth) (map x ys)) s.Bool (truths_met ys each) (stands_bool m)

    are_found : (ys : List X) → All ys → AreFound m headed (map (λ (z : ExprType). z.type_) (map e ys)) (syms (map x ys))
    are_found [] each = tt
    are_found (y ∷ ys) each = (each.0.types, are_found ys each.1)

    -- the parts of a tuple fit
    same_count : (ys : List X) → length (map e ys) ≡ length (map x ys)
    same_count [] = refl
    same_count (y ∷ ys) = ap suc (same_count ys)

    other_count : (es : List ExprType) (types : List Ty) → (length types ≡ length es → ⊥) → parts_fit es types ≡ false
    other_count [] [] apart = absurd (apart refl)
    other_count [] (ty ∷ types) apart = refl
    other_count (z ∷ es) [] apart = refl
    other_count (z ∷ es) (ty ∷ types) apart = ap (λ b. z.fits ty && b) (other_count es types (λ same. apart (ap suc same))) ∙ and_false (z.fits ty)

    parts_met : (asked : Scheme) (count at : ℕ) (ys : List X) (types : List Ty) → All ys → PartsStand m asked count at types → length types ≡ length ys → parts_fit (map e ys) types ≡ Met (parts_ask at count asked (map x ys))
    parts_met asked count at [] [] each stand size = refl
    parts_met asked count at [] (ty ∷ types) each stand size = absurd (omega (arith, size))
    parts_met asked count at (y ∷ ys) [] each stand size = absurd (omega (arith, size))
    parts_met asked count at (y ∷ ys) (ty ∷ types) each stand size =
        let first = (x y).fits (s.Part asked at count) in
        let others = parts_ask (suc at) count asked (map x ys) in
        ap (λ b. b && parts_fit (map e ys) types) (ap (λ o. holds_of o (e y).fits) (sym stand.0) ∙ each.0.fits (s.Part asked at count))
        ∙ ap (λ b. Met first && b) (parts_met asked count (suc at) ys types each.1 stand.1 (omega (arith, size)))
        ∙ sym (met_both m headed first others)

    mapped_count : (ys : List X) → length (map x ys) ≡ length ys
    mapped_count [] = refl
    mapped_count (y ∷ ys) = ap suc (mapped_count ys)

    tuple_fits : (ys : List X) → All ys → (asked : Scheme) → holds_of (stands m asked) (tuple_typing (map e ys)).fits ≡ Met ((tuple_asks (map x ys)).fits asked)
    tuple_fits ys each asked = at (stands m asked) refl
      where
        count : ℕ
        count = length (map x ys)

        rest : Bool
        rest = Met (parts_ask zero (length (map x ys)) asked (map x ys))

        counted : (ty : Ty) (types : List Ty) → stands m asked ≡ Some ty → parts_of ty ≡ Some types → (b : Bool) → has_width (length (map x ys)) types ≡ b → parts_fit (map e ys) types ≡ (b && Met (parts_ask zero (length (map x ys)) asked (map x ys)))
        counted ty types stand parts true width =
            parts_met asked (length (map x ys)) zero ys types each (parts_stand m asked (length (map x ys)) ty types stand parts width) (eqb-true (length types) (length (map x ys)) width ∙ mapped_count ys)
        counted ty types stand parts false width =
            other_count (map e ys) types (λ size. eqb-false (length types) (length (map x ys)) width (size ∙ same_count ys))

        within : (ty : Ty) (p : Option (List Ty)) → stands m asked ≡ Some ty → parts_of ty ≡ p → holds_of p (parts_fit (map e ys)) ≡ (holds_of p (has_width (length (map x ys))) && Met (parts_ask zero (length (map x ys)) asked (map x ys)))
        within ty None stand parts = refl
        within ty (Some types) stand parts = counted ty types stand parts (has_width (length (map x ys)) types) refl

        at : (o : Option Ty) → stands m asked ≡ o → holds_of o (tuple_typing (map e ys)).fits ≡ (holds_of o is_flat && (holds_of (given o parts_of) (has_width (length (map x ys))) && Met (parts_ask zero (length (map x ys)) asked (map x ys))))
        at None stand = refl
        at (Some ty) stand = ap (λ b. is_flat ty && b) (within ty (parts_of ty) stand refl)

    pub tuple_agrees : (ys : List X) → All ys → Same (tuple_typing (map e ys)) (tuple_asks (map x ys))
    tuple_agrees ys each = record { types = tuple_found m headed (map (λ (z : ExprType). z.type_) (map e ys)) (syms (map x ys)) (are_found ys each); fits = tuple_fits ys each }

    -- the elements of a set
    others_met : (first : Scheme) (ty : Ty) → stands m first ≡ Some ty → (ys : List X) → All ys → all_typed (map e ys) ty ≡ Met (flat_map (λ (z : ExprSym). same_as first z.itself) (map x ys))
    others_met first ty stand [] each = refl
    others_met first ty stand (y ∷ ys) each =
        ap (λ b. b && all_typed (map e ys) ty) (ap (λ o. holds_of o (is_typed (e y).type_)) (sym stand) ∙ same_met (e y) (x y) each.0 first)
        ∙ ap (λ b. Met (same_as first (x y).itself) && b) (others_met first ty stand ys each.1)
        ∙ sym (met_both m headed (same_as first (x y).itself) (flat_map (λ (z : ExprSym). same_as first z.itself) (map x ys)))

    set_types : (ys : List X) → All ys → set_type (map e ys) ≡ found m headed (first_set (map x ys))
    set_types [] each = refl
    set_types (y ∷ ys) each =
        let first = (x y).itself in
        let others = flat_map (λ (z : ExprSym). same_as first.scheme z.itself) (map x ys) in
        sym (given_given (e y).type_ (λ ty. when (all_typed (map e ys) ty) (t.Set ty)) flat)
        ∙ ap (λ o. given o flat) (ap (λ o. given o (λ ty. when (all_typed (map e ys) ty) (t.Set ty))) each.0.types
        ∙ next_found m headed first (λ ty. when (all_typed (map e ys) ty) (t.Set ty)) others (stands m (s.Set first.scheme))
        (made_where m headed first.scheme (s.Set first.scheme) (λ ty. all_typed (map e ys) ty) (λ ty. t.Set ty) others (stands_set m first.scheme) (λ ty stand. others_met first.scheme ty stand ys each.1)))
        ∙ flat_found m headed (record { demands = first.demands ++ others; scheme = s.Set first.scheme })

    elements_met : (asked : Scheme) (ty : Ty) → stands m asked ≡ Some ty → (ys : List X) → All ys → list_all (λ (z : ExprType). z.fits ty) (map e ys) ≡ Met (flat_map (λ (z : ExprSym). z.fits asked) (map x ys))
    elements_met asked ty stand [] each = refl
    elements_met asked ty stand (y ∷ ys) each =
        ap (λ b. b && list_all (λ (z : ExprType). z.fits ty) (map e ys)) (ap (λ o. holds_of o (e y).fits) (sym stand) ∙ each.0.fits asked)
        ∙ ap (λ b. Met ((x y).fits asked) && b) (elements_met asked ty stand ys each.1)
        ∙ sym (met_both m headed ((x y).fits asked) (flat_map (λ (z : ExprSym). z.fits asked) (map x ys)))

    set_fits : (ys : List X) → All ys → (asked : Scheme) → holds_of (stands m asked) (set_typing (map e ys)).fits ≡ Met ((set_asks (map x ys)).fits asked)
    set_fits ys each asked = at (stands m asked) refl
      where
        within : (ty : Ty) (p : Option Ty) → stands m asked ≡ Some ty → element_of ty ≡ p → holds_of p (λ element. list_all (λ (z : ExprType). z.fits element) (map e ys)) ≡ (elim p [ Some element ↦ true | None ↦ false ] && Met (flat_map (λ (z : ExprSym). z.fits (s.Element asked)) (map x ys)))
        within ty None stand element = refl
        within ty (Some inner) stand element = elements_met (s.Element asked) inner (stands_element m asked ∙ ap (λ o. given o element_of) stand ∙ element) ys each

        at : (o : Option Ty) → stands m asked ≡ o → holds_of o (set_typing (map e ys)).fits ≡ (holds_of o is_flat && (holds_of o is_set && Met (flat_map (λ (z : ExprSym). z.fits (s.Element asked)) (map x ys))))
        at None stand = refl
        at (Some ty) stand = ap (λ b. is_flat ty && b) (within ty (element_of ty) stand refl)

    pub set_agrees : (ys : List X) → All ys → Same (set_typing (map e ys)) (set_asks (map x ys))
    set_agrees ys each = record { types = set_types ys each; fits = set_fits ys each }

  -- the further operands of a chain
  takes_met : (o : ArithOp) (first : Scheme) (ty : Ty) → stands m first ≡ Some ty → takes o ty ≡ met m headed (taken o first)
  takes_met o first ty stand = go (is_for_sets o)
    where
      go : (b : Bool) → (is_int ty || (b && is_set ty)) ≡ met m headed (if b then d.Adds first else d.Int first)
      go true = ap (λ z. holds_of z (λ ty. is_int ty || is_set ty)) (sym stand)
      go false = or_false (is_int ty) ∙ ap (λ z. holds_of z is_int) (sym stand)

  module _ {X : Type 0} (e : X → Further) (x : X → FurtherSym) where
    abbrev Further_all : List X → Type 0
    Further_all ys = AllByRecursion (λ y. ((e y).op ≡ (x y).op) × Same (e y).typing (x y).sym) ys

    abbrev keeps : Ty → Further → Bool
    keeps ty z = takes z.op ty && is_typed z.typing.type_ ty

    more_met : (first : Scheme) (ty : Ty) → stands m first ≡ Some ty → (ys : List X) → Further_all ys → list_all (keeps ty) (map e ys) ≡ Met (flat_map (further_asks first) (map x ys))
    more_met first ty stand [] each = refl
    more_met first ty stand (y ∷ ys) each =
        ap (λ b. (b && is_typed (e y).typing.type_ ty) && list_all (keeps ty) (map e ys)) (ap (λ o. takes o ty) each.0.0 ∙ takes_met (x y).op first ty stand)
        ∙ ap (λ b. (met m headed (taken (x y).op first) && b) && list_all (keeps ty) (map e ys)) (ap (λ o. holds_of o (is_typed (e y).typing.type_)) (sym stand) ∙ same_met (e y).typing (x y).sym each.0.1 first)
        ∙ ap (λ b. Met (further_asks first (x y)) && b) (more_met first ty stand ys each.1)
        ∙ sym (met_both m headed (further_asks first (x y)) (flat_map (further_asks first) (map x ys)))

    pub chain_agrees : (a : ExprType) (z : ExprSym) → Same a z → (ys : List X) → Further_all ys → Same (by_itself (chain_type a (map e ys))) (where_met (z.itself.demands ++ flat_map (further_asks z.itself.scheme) (map x ys)) z.itself.scheme)
    chain_agrees a z p ys each =
        let first = z.itself.scheme in
        let others = flat_map (further_asks first) (map x ys) in
        alone_agrees m headed (chain_type a (map e ys)) (record { demands = z.itself.demands ++ others; scheme = first })
        (ap (λ o. given o (λ ty. when (list_all (keeps ty) (map e ys)) ty)) p.types
        ∙ next_found m headed z.itself (λ ty. when (list_all (keeps ty) (map e ys)) ty) others (stands m first)
        (made_where m headed first first (λ ty. list_all (keeps ty) (map e ys)) (λ ty. ty) others (given_itself (stands m first)) (λ ty stand. more_met first ty stand ys each)))
