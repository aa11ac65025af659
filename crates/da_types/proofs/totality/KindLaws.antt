-- What a value of a type is made of, and what a type that was found was found from.
use Rattle.std.specs.Prelude.{◌≡◌, refl, ℕ, ℤ, Bool, true, false, if◌then◌else◌, List, map, Option, Some, None}
use Rattle.std.specs.List.{list_all}
use Rattle.std.proofs.Common.{◌∙◌, ap, sym}
use Rattle.std.proofs.lemmas.Bool.{false≢true}
use Rattle.da_values.specs.declared.val.Val.{Val, out-Val, roll-Val, roll-out-Val}
use Rattle.da_values.specs.declared.val.Val.TheVariants as val
use Rattle.da_values.specs.declared.val.Val.TheOpen as vo
use Rattle.da_values.specs.declared.val.Val.TheOpen.{Val-F}
use Rattle.da_values.specs.Order.{kind}
use Rattle.da_lang.specs.declared.ty.Ty.{Ty, out-Ty, roll-Ty, roll-out-Ty}
use Rattle.da_lang.specs.declared.ty.Ty.TheVariants as t
use Rattle.da_lang.specs.declared.ty.Ty.TheOpen as to
use Rattle.da_lang.specs.declared.ty.Ty.TheOpen.{Ty-F}
use Rattle.da_lang.specs.QueryTypes.{given, holds_of, when, is_typed}
use Rattle.da_lang.specs.Types.{is_of, is_int, is_bool, int_in, bool_in, all_of, int_value, bool_value, text_value, proc_value, tuple_value, set_value, parts_of, parts_in, element_of, element_in}
use Rattle.da_lang.proofs.WorldLaws.{ty_induction}
use Rattle.da_lang.proofs.typing.SameTypes.{same_types_equal}
use Rattle.da_lang.proofs.typing.TypesAt.{is_of_at-Int, is_of_at-Bool, is_of_at-Text, is_of_at-Proc, is_of_at-Tuple, is_of_at-Set}

-- what there was where something was found
pub given_parts : {A B : Type 0} (x : Option A) (go : A → Option B) (y : B) → given x go ≡ Some y → (a : A) × (x ≡ Some a) × (go a ≡ Some y)
given_parts None go y e = absurd (cc)
given_parts (Some a) go y e = (a, refl, e)

pub when_parts : {A : Type 0} (b : Bool) (x y : A) → when b x ≡ Some y → (b ≡ true) × (x ≡ y)
when_parts true x y e = (refl, cc)
when_parts false x y e = absurd (cc)

pub if_parts : {A : Type 0} (b : Bool) (x : Option A) (y : A) → (if b then x else None) ≡ Some y → (b ≡ true) × (x ≡ Some y)
if_parts true x y e = (refl, e)
if_parts false x y e = absurd (cc)

pub holds_parts : {A : Type 0} (x : Option A) (test : A → Bool) → holds_of x test ≡ true → (a : A) × (x ≡ Some a) × (test a ≡ true)
holds_parts None test e = absurd (false≢true e)
holds_parts (Some a) test e = (a, refl, e)

pub is_typed_parts : (found : Option Ty) (ty : Ty) → is_typed found ty ≡ true → found ≡ Some ty
is_typed_parts None ty e = absurd (false≢true e)
is_typed_parts (Some a) ty e = ap Some (same_types_equal a ty e)

-- a value by its layer
pub from_layer : (v : Val) (inner : Val-F Val) → out-Val v ≡ inner → v ≡ roll-Val inner
from_layer v inner is = sym (roll-out-Val v) ∙ ap roll-Val is

int_layer : (x : Val-F Val) → int_value x ≡ true → (z : ℤ) × (x ≡ vo.Int z)
int_layer (vo.Int z) e = (z, refl)
int_layer _ e = absurd (false≢true e)

bool_layer : (x : Val-F Val) → bool_value x ≡ true → (b : Bool) × (x ≡ vo.Bool b)
bool_layer (vo.Bool b) e = (b, refl)
bool_layer _ e = absurd (false≢true e)

text_layer : (x : Val-F Val) → text_value x ≡ true → kind x ≡ 2
text_layer (vo.Text bytes) e = refl
text_layer _ e = absurd (false≢true e)

proc_layer : (x : Val-F Val) → proc_value x ≡ true → kind x ≡ 3
proc_layer (vo.Proc process) e = refl
proc_layer _ e = absurd (false≢true e)

tuple_layer : (tests : List (Val → Bool)) (x : Val-F Val) → tuple_value tests x ≡ true → (vs : List Val) × (x ≡ vo.Tuple vs) × (all_of tests vs ≡ true)
tuple_layer tests (vo.Tuple vs) e = (vs, refl, e)
tuple_layer tests _ e = absurd (false≢true e)

set_layer : (test : Val → Bool) (x : Val-F Val) → set_value test x ≡ true → (vs : List Val) × (x ≡ vo.Set vs) × (list_all test vs ≡ true)
set_layer test (vo.Set vs) e = (vs, refl, e)
set_layer test _ e = absurd (false≢true e)

pub int_of_type : (v : Val) → is_of t.Int v ≡ true → (z : ℤ) × (v ≡ val.Int z)
int_of_type v e =
    let (z, is) = int_layer (out-Val v) (sym (is_of_at-Int v) ∙ e) in
    (z, from_layer v (vo.Int z) is ∙ val.rolls-Int z)

pub bool_of_type : (v : Val) → is_of t.Bool v ≡ true → (b : Bool) × (v ≡ val.Bool b)
bool_of_type v e =
    let (b, is) = bool_layer (out-Val v) (sym (is_of_at-Bool v) ∙ e) in
    (b, from_layer v (vo.Bool b) is ∙ val.rolls-Bool b)

pub tuple_of_type : (types : List Ty) (v : Val) → is_of (t.Tuple types) v ≡ true → (vs : List Val) × (v ≡ val.Tuple vs) × (all_of (map is_of types) vs ≡ true)
tuple_of_type types v e =
    let (vs, is, all) = tuple_layer (map is_of types) (out-Val v) (sym (is_of_at-Tuple types v) ∙ e) in
    (vs, from_layer v (vo.Tuple vs) is ∙ val.rolls-Tuple vs, all)

pub set_of_type : (element : Ty) (v : Val) → is_of (t.Set element) v ≡ true → (vs : List Val) × (v ≡ val.Set vs) × (list_all (is_of element) vs ≡ true)
set_of_type element v e =
    let (vs, is, all) = set_layer (is_of element) (out-Val v) (sym (is_of_at-Set element v) ∙ e) in
    (vs, from_layer v (vo.Set vs) is ∙ val.rolls-Set vs, all)

-- the other way
pub is_int_value : (z : ℤ) → is_of t.Int (val.Int z) ≡ true
is_int_value z = is_of_at-Int (val.Int z) ∙ ap int_value (val.outs-Int z)

pub is_bool_value : (b : Bool) → is_of t.Bool (val.Bool b) ≡ true
is_bool_value b = is_of_at-Bool (val.Bool b) ∙ ap bool_value (val.outs-Bool b)

pub is_text_value : (bytes : List ℕ) → is_of t.Text (val.Text bytes) ≡ true
is_text_value bytes = is_of_at-Text (val.Text bytes) ∙ rw (val.outs-Text bytes) refl

pub is_proc_value : (process : ℕ) → is_of t.Proc (val.Proc process) ≡ true
is_proc_value process = is_of_at-Proc (val.Proc process) ∙ ap proc_value (val.outs-Proc process)

pub is_tuple_value : (types : List Ty) (vs : List Val) → all_of (map is_of types) vs ≡ true → is_of (t.Tuple types) (val.Tuple vs) ≡ true
is_tuple_value types vs all = is_of_at-Tuple types (val.Tuple vs) ∙ ap (tuple_value (map is_of types)) (val.outs-Tuple vs) ∙ all

pub is_set_value : (element : Ty) (vs : List Val) → list_all (is_of element) vs ≡ true → is_of (t.Set element) (val.Set vs) ≡ true
is_set_value element vs all = is_of_at-Set element (val.Set vs) ∙ ap (set_value (is_of element)) (val.outs-Set vs) ∙ all

-- a type by its form
type_from_layer : (ty : Ty) (inner : Ty-F Ty) → out-Ty ty ≡ inner → ty ≡ roll-Ty inner
type_from_layer ty inner is = sym (roll-out-Ty ty) ∙ ap roll-Ty is

int_type_layer : (x : Ty-F Ty) → int_in x ≡ true → x ≡ to.Int
int_type_layer to.Int e = refl
int_type_layer _ e = absurd (false≢true e)

bool_type_layer : (x : Ty-F Ty) → bool_in x ≡ true → x ≡ to.Bool
bool_type_layer to.Bool e = refl
bool_type_layer _ e = absurd (false≢true e)

parts_layer : (x : Ty-F Ty) (types : List Ty) → parts_in x ≡ Some types → x ≡ to.Tuple types
parts_layer (to.Tuple parts) types e = cc
parts_layer _ types e = absurd (cc)

element_layer : (x : Ty-F Ty) (element : Ty) → element_in x ≡ Some element → x ≡ to.Set element
element_layer (to.Set inner) element e = cc
element_layer _ element e = absurd (cc)

pub int_type : (ty : Ty) → is_int ty ≡ true → ty ≡ t.Int
int_type ty e = type_from_layer ty to.Int (int_type_layer (out-Ty ty) e) ∙ t.rolls-Int

pub bool_type : (ty : Ty) → is_bool ty ≡ true → ty ≡ t.Bool
bool_type ty e = type_from_layer ty to.Bool (bool_type_layer (out-Ty ty) e) ∙ t.rolls-Bool

pub tuple_type : (ty : Ty) (types : List Ty) → parts_of ty ≡ Some types → ty ≡ t.Tuple types
tuple_type ty types e = type_from_layer ty (to.Tuple types) (parts_layer (out-Ty ty) types e) ∙ t.rolls-Tuple types

pub set_type : (ty element : Ty) → element_of ty ≡ Some element → ty ≡ t.Set element
set_type ty element e = type_from_layer ty (to.Set element) (element_layer (out-Ty ty) element e) ∙ t.rolls-Set element

-- two values of one type are of one kind
abbrev OneKind : Ty → Type 0
OneKind ty = (n : ℕ) × ((v : Val) → is_of ty v ≡ true → kind (out-Val v) ≡ n)

kind_of_type : (ty : Ty) → OneKind ty
kind_of_type =
    ty_induction OneKind
    (0, λ v e. ap kind (int_layer (out-Val v) (sym (is_of_at-Int v) ∙ e)).1)
    (1, λ v e. ap kind (bool_layer (out-Val v) (sym (is_of_at-Bool v) ∙ e)).1)
    (2, λ v e. text_layer (out-Val v) (sym (is_of_at-Text v) ∙ e))
    (3, λ v e. proc_layer (out-Val v) (sym (is_of_at-Proc v) ∙ e))
    (λ types each. (4, λ v e. ap kind (tuple_layer (map is_of types) (out-Val v) (sym (is_of_at-Tuple types v) ∙ e)).1))
    (λ element one. (5, λ v e. ap kind (set_layer (is_of element) (out-Val v) (sym (is_of_at-Set element v) ∙ e)).1))

pub one_kind : (ty : Ty) (v w : Val) → is_of ty v ≡ true → is_of ty w ≡ true → kind (out-Val v) ≡ kind (out-Val w)
one_kind ty v w e f = let (n, at) = kind_of_type ty in at v e ∙ sym (at w f)
