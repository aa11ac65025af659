-- An expression that has a type, or fits one, has parts that do.
use Rattle.std.specs.Prelude.{◌≡◌, Bool, true, false, ◌&&◌, if◌then◌else◌, List, [], ◌∷◌, map, Option, Some}
use Rattle.std.specs.List.{AllByRecursion, list_all}
use Rattle.std.proofs.lemmas.Bool.{false≢true, and_parts}
use Rattle.da_lang.specs.declared.tree.CmpOp.{CmpOp}
use Rattle.da_lang.specs.declared.ty.Ty.{Ty}
use Rattle.da_lang.specs.declared.ty.Ty.TheVariants as t
use Rattle.da_lang.specs.ExprTypes.{ExprType, Further, by_itself, gives, is, truth, tuple_typing, parts_fit, set_typing, set_type, all_typed, comparison, member, chain_type, takes}
use Rattle.da_lang.specs.QueryTypes.{given, holds_of, when, flat, all_types, is_typed, asks_order}
use Rattle.da_lang.specs.Types.{ordered, is_flat, is_bool, parts_of, element_of}
use Rattle.da_types.proofs.totality.KindLaws.{given_parts, when_parts, holds_parts, is_typed_parts}

-- it has a type, or it fits one
pub data Fine (x : ExprType) : Type 0 where
  Typed : (ty : Ty) → x.type_ ≡ Some ty → Fine x
  Fits : (ty : Ty) → x.fits ty ≡ true → Fine x

pub of_typed : (x : ExprType) (ty : Ty) → is_typed x.type_ ty ≡ true → Fine x
of_typed x ty e = Typed ty (is_typed_parts x.type_ ty e)

pub of_test : (test : Ty → Bool) (x : ExprType) → holds_of x.type_ test ≡ true → Fine x
of_test test x e = let (ty, is, h) = holds_parts x.type_ test e in Typed ty is

-- by itself
pub itself_has : (found : Option Ty) → Fine (by_itself found) → (ty : Ty) × (found ≡ Some ty)
itself_has found (Typed ty e) = let (a, is, h) = given_parts found flat ty e in (a, is)
itself_has found (Fits ty e) = let (a, is, h) = given_parts found flat ty (is_typed_parts (given found flat) ty e) in (a, is)

pub gives_holds : (b : Bool) (ty : Ty) → Fine (gives b ty) → b ≡ true
gives_holds b ty fine = let (found, is) = itself_has (when b ty) fine in (when_parts b ty found is).0

-- parts
all_have : (xs : List ExprType) (types : List Ty) → all_types (map (λ x. x.type_) xs) ≡ Some types → AllByRecursion Fine xs
all_have [] types e = tt
all_have (x ∷ xs) types e =
    let (ty, is, h) = given_parts x.type_ (λ first. given (all_types (map (λ x. x.type_) xs)) (λ others. Some (first ∷ others))) types e in
    let (others, those, k) = given_parts (all_types (map (λ x. x.type_) xs)) (λ others. Some (ty ∷ others)) types h in
    (Typed ty is, all_have xs others those)

all_fit : (xs : List ExprType) (types : List Ty) → parts_fit xs types ≡ true → AllByRecursion Fine xs
all_fit [] types e = tt
all_fit (x ∷ xs) [] e = absurd (false≢true e)
all_fit (x ∷ xs) (ty ∷ types) e = let (first, others) = and_parts (x.fits ty) (parts_fit xs types) e in (Fits ty first, all_fit xs types others)

pub tuple_fine : (xs : List ExprType) → Fine (tuple_typing xs) → AllByRecursion Fine xs
tuple_fine xs (Typed ty e) = let (types, is, h) = given_parts (all_types (map (λ x. x.type_) xs)) (λ types. flat (t.Tuple types)) ty e in all_have xs types is
tuple_fine xs (Fits ty e) = let (types, is, h) = holds_parts (parts_of ty) (parts_fit xs) (and_parts (is_flat ty) _ e).1 in all_fit xs types h

all_elements : (xs : List ExprType) (ty : Ty) → all_typed xs ty ≡ true → AllByRecursion Fine xs
all_elements [] ty e = tt
all_elements (x ∷ xs) ty e = let (first, others) = and_parts (is_typed x.type_ ty) (all_typed xs ty) e in (of_typed x ty first, all_elements xs ty others)

elements_fit : (xs : List ExprType) (ty : Ty) → list_all (λ (x : ExprType). x.fits ty) xs ≡ true → AllByRecursion Fine xs
elements_fit [] ty e = tt
elements_fit (x ∷ xs) ty e = let (first, others) = and_parts (x.fits ty) (list_all (λ (x : ExprType). x.fits ty) xs) e in (Fits ty first, elements_fit xs ty others)

set_has : (xs : List ExprType) (ty : Ty) → set_type xs ≡ Some ty → AllByRecursion Fine xs
set_has [] ty e = tt
set_has (x ∷ xs) ty e =
    let (a, is, h) = given_parts x.type_ (λ ty. given (when (all_typed xs ty) (t.Set ty)) flat) ty e in
    let (s, holds, k) = given_parts (when (all_typed xs a) (t.Set a)) flat ty h in
    (Typed a is, all_elements xs a (when_parts (all_typed xs a) (t.Set a) s holds).0)

pub set_fine : (xs : List ExprType) → Fine (set_typing xs) → AllByRecursion Fine xs
set_fine xs (Typed ty e) = set_has xs ty e
set_fine xs (Fits ty e) = let (a, is, h) = holds_parts (element_of ty) (λ element. list_all (λ (x : ExprType). x.fits element) xs) (and_parts (is_flat ty) _ e).1 in elements_fit xs a h

pub truths_fine : (xs : List ExprType) → list_all truth xs ≡ true → AllByRecursion Fine xs
truths_fine [] e = tt
truths_fine (x ∷ xs) e = let (first, others) = and_parts (truth x) (list_all truth xs) e in (of_test is_bool x first, truths_fine xs others)

-- two sides
right_fine : (ask : Bool) (ty : Ty) (y : ExprType) → (if ask then ordered ty && is_typed y.type_ ty else y.fits ty) ≡ true → Fine y
right_fine true ty y e = of_typed y ty (and_parts (ordered ty) (is_typed y.type_ ty) e).1
right_fine false ty y e = Fits ty e

pub comparison_fine : (o : CmpOp) (x y : ExprType) → comparison o x y ≡ true → Fine x × Fine y
comparison_fine o x y e =
    let (ty, is, h) = holds_parts x.type_ (λ ty. if asks_order o then ordered ty && is_typed y.type_ ty else y.fits ty) e in
    (Typed ty is, right_fine (asks_order o) ty y h)

pub member_fine : (x y : ExprType) → member x y ≡ true → Fine x × Fine y
member_fine x y e =
    let (element, is, h) = holds_parts (given y.type_ element_of) (is_typed x.type_) e in
    let (ty, of, k) = given_parts y.type_ element_of element is in
    (of_typed x element h, Typed ty of)

-- a chain
abbrev pub FineFurther : Further → Type 0
FineFurther y = Fine y.typing

more_fine : (ty : Ty) (more : List Further) → list_all (λ (y : Further). takes y.op ty && is_typed y.typing.type_ ty) more ≡ true → AllByRecursion FineFurther more
more_fine ty [] e = tt
more_fine ty (y ∷ more) e =
    let (first, others) = and_parts (takes y.op ty && is_typed y.typing.type_ ty) (list_all (λ (y : Further). takes y.op ty && is_typed y.typing.type_ ty) more) e in
    (of_typed y.typing ty (and_parts (takes y.op ty) (is_typed y.typing.type_ ty) first).1, more_fine ty more others)

pub chain_fine : (x : ExprType) (more : List Further) (ty : Ty) → chain_type x more ≡ Some ty → Fine x × AllByRecursion FineFurther more
chain_fine x more ty e =
    let (a, is, h) = given_parts x.type_ (λ ty. when (list_all (λ (y : Further). takes y.op ty && is_typed y.typing.type_ ty) more) ty) ty e in
    (Typed a is, more_fine a more (when_parts _ a ty h).0)
