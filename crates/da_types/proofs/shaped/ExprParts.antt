-- Each part of an expression that has a type, or fits one, has a type or fits one too; so the slots and the queries that it
-- names are there.
use Rattle.std.specs.Prelude.{◌≡◌, ℕ, Bool, true, false, ◌&&◌, if◌then◌else◌, List, [], ◌∷◌, map, Option, Some}
use Rattle.std.specs.List.{list_all}
use Rattle.std.proofs.Common.{◌∙◌, ap, sym, subst, inl, inr}
use Rattle.std.proofs.lemmas.Bool.{false≢true, and_parts}
use Rattle.da_values.specs.Sets.{Has}
use Rattle.da_values.proofs.Members.{each_from_all, Has-map}
use Rattle.da_lang.specs.declared.program.ChainPart.{ChainPart}
use Rattle.da_lang.specs.declared.program.ChainPart.{out-ChainPart, roll-out-ChainPart}
use Rattle.da_lang.specs.declared.program.RExpr.{RExpr}
use Rattle.da_lang.specs.declared.program.RExpr.TheVariants as re
use Rattle.da_lang.specs.declared.query.Query.{Query}
use Rattle.da_lang.specs.declared.tree.CmpOp.{CmpOp}
use Rattle.da_lang.specs.declared.ty.Ty.{Ty}
use Rattle.da_lang.specs.declared.ty.Ty.TheVariants as t
use Rattle.da_lang.specs.ExprTypes.{ExprType, Further, by_itself, gives, is, int, truth, parts_fit, all_typed, set_type, tuple_typing, set_typing, comparison, member, takes, chain_type, typing, part_typing}
use Rattle.da_lang.specs.QueryTypes.{Known, given, holds_of, when, flat, all_types, is_typed, asks_order, slot_type, query_type}
use Rattle.da_lang.specs.Types.{is_bool, is_flat, is_int, ordered, parts_of, element_of}
use Rattle.da_lang.specs.World.{at_number}
use Rattle.da_lang.proofs.typing.ExprTypesAt.{typing-Slot, typing-Ask, typing-Range, typing-Tuple, typing-SetOf, typing-Or, typing-And, typing-Not, typing-Cmp, typing-Member, typing-Chain, part_typing-of}
use Rattle.da_types.specs.KeepsShaped.{IsTypable}
use Rattle.da_types.proofs.totality.KindLaws.{given_parts, when_parts, holds_parts, is_typed_parts}
use Rattle.da_types.proofs.totality.TermLaws.{flat_is}

-- by its type, or by one that it fits
by_type : (x : ExprType) (ty : Ty) → x.type_ ≡ Some ty → IsTypable x
by_type x ty e = (ty, inl e)

by_fit : (x : ExprType) (ty : Ty) → x.fits ty ≡ true → IsTypable x
by_fit x ty e = (ty, inr e)

by_test : (x : ExprType) (test : Ty → Bool) → is test x ≡ true → IsTypable x
by_test x test e = let (ty, has, holds) = holds_parts x.type_ test e in by_type x ty has

found_of : (found : Option Ty) → IsTypable (by_itself found) → (ty : Ty) × (found ≡ Some ty)
found_of found (ty, inl e) = (ty, flat_is found ty e)
found_of found (ty, inr e) = (ty, flat_is found ty (is_typed_parts (given found flat) ty e))

given_of : (b : Bool) (ty : Ty) → IsTypable (gives b ty) → b ≡ true
given_of b ty typable = let (found, is) = found_of (when b ty) typable in (when_parts b ty found is).0

each_typed : (xs : List ExprType) (types : List Ty) → all_types (map (λ (x : ExprType). x.type_) xs) ≡ Some types → (x : ExprType) → Has xs x → IsTypable x
each_typed [] types e x h = absurd h
each_typed (y ∷ ys) types e x h =
    let (ty, is, more) = given_parts y.type_ _ types e in
    let (others, are, last) = given_parts (all_types (map (λ (x : ExprType). x.type_) ys)) _ types more in
    elim h [ inl same ↦ subst IsTypable (sym same) (by_type y ty is) | inr there ↦ each_typed ys others are x there ]

each_fits : (xs : List ExprType) (types : List Ty) → parts_fit xs types ≡ true → (x : ExprType) → Has xs x → IsTypable x
each_fits [] types e x h = absurd h
each_fits (y ∷ ys) [] e x h = absurd (false≢true e)
each_fits (y ∷ ys) (ty ∷ types) e x h =
    let both = and_parts (y.fits ty) (parts_fit ys types) e in
    elim h [ inl same ↦ subst IsTypable (sym same) (by_fit y ty both.0) | inr there ↦ each_fits ys types both.1 x there ]

of_tuple : (xs : List ExprType) → IsTypable (tuple_typing xs) → (x : ExprType) → Has xs x → IsTypable x
of_tuple xs (ty, inl e) x h = let (types, are, deep) = given_parts (all_types (map (λ (x : ExprType). x.type_) xs)) _ ty e in each_typed xs types are x h
of_tuple xs (ty, inr e) x h =
    let (deep, fit) = and_parts (is_flat ty) (holds_of (parts_of ty) (parts_fit xs)) e in
    let (types, are, fits) = holds_parts (parts_of ty) (parts_fit xs) fit in
    each_fits xs types fits x h

of_set_type : (xs : List ExprType) (ty : Ty) → set_type xs ≡ Some ty → (x : ExprType) → Has xs x → IsTypable x
of_set_type [] ty e x h = absurd h
of_set_type (y ∷ ys) ty e x h =
    let (element, is, more) = given_parts y.type_ (λ ty. given (when (all_typed ys ty) (t.Set ty)) flat) ty e in
    let others = (when_parts (all_typed ys element) (t.Set element) ty (flat_is (when (all_typed ys element) (t.Set element)) ty more)).0 in
    elim h [
      | inl same ↦ subst IsTypable (sym same) (by_type y element is)
      | inr there ↦ by_type x element (is_typed_parts x.type_ element (each_from_all (λ (z : ExprType). is_typed z.type_ element) ys x others there))
    ]

of_set : (xs : List ExprType) → IsTypable (set_typing xs) → (x : ExprType) → Has xs x → IsTypable x
of_set xs (ty, inl e) x h = of_set_type xs ty e x h
of_set xs (ty, inr e) x h =
    let (deep, fit) = and_parts (is_flat ty) (holds_of (element_of ty) (λ element. list_all (λ (x : ExprType). x.fits element) xs)) e in
    let (element, is, fits) = holds_parts (element_of ty) (λ element. list_all (λ (x : ExprType). x.fits element) xs) fit in
    by_fit x element (each_from_all (λ (z : ExprType). z.fits element) xs x fits h)

of_truths : (xs : List ExprType) → list_all truth xs ≡ true → (x : ExprType) → Has xs x → IsTypable x
of_truths xs e x h = by_test x is_bool (each_from_all truth xs x e h)

-- both sides of a comparison
compared : (b : Bool) (x y : ExprType) (ty : Ty) → x.type_ ≡ Some ty → (if b then ordered ty && is_typed y.type_ ty else y.fits ty) ≡ true → IsTypable x × IsTypable y
compared true x y ty has e = (by_type x ty has, by_type y ty (is_typed_parts y.type_ ty (and_parts (ordered ty) (is_typed y.type_ ty) e).1))
compared false x y ty has e = (by_type x ty has, by_fit y ty e)

of_comparison : (o : CmpOp) (x y : ExprType) → comparison o x y ≡ true → IsTypable x × IsTypable y
of_comparison o x y e = let (ty, has, holds) = holds_parts x.type_ _ e in compared (asks_order o) x y ty has holds

of_member : (x y : ExprType) → member x y ≡ true → IsTypable x × IsTypable y
of_member x y e =
    let (element, found, typed) = holds_parts (given y.type_ element_of) (is_typed x.type_) e in
    let (ty, has, set) = given_parts y.type_ element_of element found in
    (by_type x element (is_typed_parts x.type_ element typed), by_type y ty has)

of_chain : (x : ExprType) (more : List Further) → (ty : Ty) → chain_type x more ≡ Some ty → IsTypable x × ((y : Further) → Has more y → IsTypable y.typing)
of_chain x more ty e =
    let (first, is, holds) = given_parts x.type_ _ ty e in
    let each = (when_parts (list_all (λ (y : Further). takes y.op first && is_typed y.typing.type_ first) more) first ty holds).0 in
    (by_type x first is, λ y h. by_type y.typing first (is_typed_parts y.typing.type_ first (and_parts (takes y.op first) (is_typed y.typing.type_ first) (each_from_all (λ (y : Further). takes y.op first && is_typed y.typing.type_ first) more y each h)).1))

module _ (known : Known) (queries : List Query) where
  -- an expression that has a type, or fits one
  abbrev pub Typable : RExpr → Type 0
  Typable x = IsTypable (typing known queries x)

  as_typed : (x : RExpr) (ty : ExprType) → typing known queries x ≡ ty → Typable x → IsTypable ty
  as_typed x ty is typable = subst IsTypable is typable

  each_of : (es : List RExpr) → ((x : ExprType) → Has (map (typing known queries) es) x → IsTypable x) → (e : RExpr) → Has es e → Typable e
  each_of es each e h = each (typing known queries e) (Has-map (typing known queries) es e h)

  pub slot_there : (s : ℕ) → Typable (re.Slot s) → (ty : Ty) × (slot_type known s ≡ Some ty)
  slot_there s typable = found_of (slot_type known s) (as_typed (re.Slot s) _ (typing-Slot known queries s) typable)

  pub query_there : (n : ℕ) → Typable (re.Ask n) → (q : Query) × (ty : Ty) × (at_number queries n ≡ Some q) × (query_type known q ≡ Some ty)
  query_there n typable =
      let (ty, is) = found_of (given (at_number queries n) (query_type known)) (as_typed (re.Ask n) _ (typing-Ask known queries n) typable) in
      let (q, there, has) = given_parts (at_number queries n) (query_type known) ty is in
      (q, ty, there, has)

  pub range_parts : (a b : RExpr) → Typable (re.Range a b) → Typable a × Typable b
  range_parts a b typable =
      let both = and_parts (int (typing known queries a)) (int (typing known queries b)) (given_of _ (t.Set t.Int) (as_typed (re.Range a b) _ (typing-Range known queries a b) typable)) in
      (by_test (typing known queries a) is_int both.0, by_test (typing known queries b) is_int both.1)

  pub tuple_parts : (es : List RExpr) → Typable (re.Tuple es) → (e : RExpr) → Has es e → Typable e
  tuple_parts es typable = each_of es (of_tuple (map (typing known queries) es) (as_typed (re.Tuple es) _ (typing-Tuple known queries es) typable))

  pub set_parts : (es : List RExpr) → Typable (re.SetOf es) → (e : RExpr) → Has es e → Typable e
  set_parts es typable = each_of es (of_set (map (typing known queries) es) (as_typed (re.SetOf es) _ (typing-SetOf known queries es) typable))

  pub or_parts : (es : List RExpr) → Typable (re.Or es) → (e : RExpr) → Has es e → Typable e
  or_parts es typable = each_of es (of_truths (map (typing known queries) es) (given_of _ t.Bool (as_typed (re.Or es) _ (typing-Or known queries es) typable)))

  pub and_parts_of : (es : List RExpr) → Typable (re.And es) → (e : RExpr) → Has es e → Typable e
  and_parts_of es typable = each_of es (of_truths (map (typing known queries) es) (given_of _ t.Bool (as_typed (re.And es) _ (typing-And known queries es) typable)))

  pub not_part : (e : RExpr) → Typable (re.Not e) → Typable e
  not_part e typable = by_test (typing known queries e) is_bool (given_of _ t.Bool (as_typed (re.Not e) _ (typing-Not known queries e) typable))

  pub cmp_parts : (o : CmpOp) (a b : RExpr) → Typable (re.Cmp o a b) → Typable a × Typable b
  cmp_parts o a b typable = of_comparison o (typing known queries a) (typing known queries b) (given_of _ t.Bool (as_typed (re.Cmp o a b) _ (typing-Cmp known queries o a b) typable))

  pub member_parts : (a b : RExpr) → Typable (re.Member a b) → Typable a × Typable b
  member_parts a b typable = of_member (typing known queries a) (typing known queries b) (given_of _ t.Bool (as_typed (re.Member a b) _ (typing-Member known queries a b) typable))

  further_is : (q : ChainPart) → (part_typing known queries q).typing ≡ typing known queries (out-ChainPart q).operand
  further_is q =
      let r = out-ChainPart q in
      ap (λ z. (part_typing known queries z).typing) (sym (roll-out-ChainPart q)) ∙ ap (λ (y : Further). y.typing) (part_typing-of known queries r.op r.operand)

  pub chain_parts : (a : RExpr) (more : List ChainPart) → Typable (re.Chain a more) → Typable a × ((q : ChainPart) → Has more q → Typable (out-ChainPart q).operand)
  chain_parts a more typable =
      let (ty, is) = found_of (chain_type (typing known queries a) (map (part_typing known queries) more)) (as_typed (re.Chain a more) _ (typing-Chain known queries a more) typable) in
      let (first, others) = of_chain (typing known queries a) (map (part_typing known queries) more) ty is in
      (first, λ q h. subst IsTypable (further_is q) (others (part_typing known queries q) (Has-map (part_typing known queries) more q h)))
