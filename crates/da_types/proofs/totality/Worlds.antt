-- What a process of a typed program knows fits its types, where it is shaped.
use Rattle.std.specs.Prelude.{◌≡◌, refl, ℕ, zero, suc, true, ◌&&◌, List, [], ◌∷◌, length, Option, Some, None, slice_get}
use Rattle.std.specs.List.{All, AllByRecursion, list_all}
use Rattle.std.proofs.Common.{◌∙◌, ap, sym, subst, inl, inr, arith}
use Rattle.std.proofs.lemmas.Bool.{and_parts, and_from}
use Rattle.da_values.specs.declared.val.Val.{Val}
use Rattle.da_values.specs.declared.value.Value.{Value}
use Rattle.da_values.specs.declared.value.Value.TheVariants as kept
use Rattle.da_values.specs.Narrow.{is_i64, is_narrow}
use Rattle.da_values.specs.Sets.{Has}
use Rattle.da_values.specs.Value.{val_of}
use Rattle.da_values.proofs.FoldsAt.{is_narrow_of}
use Rattle.da_values.proofs.Members.{place_of, each_from_all, all_from_each}
use Rattle.da_lang.specs.declared.program.Class.{Class}
use Rattle.da_lang.specs.declared.program.ProcDecl.{ProcDecl}
use Rattle.da_lang.specs.declared.program.Program.{Program}
use Rattle.da_lang.specs.declared.query.Term.{Term}
use Rattle.da_lang.specs.declared.ty.Ty.{Ty}
use Rattle.da_lang.specs.declared.ty.Ty.TheVariants as t
use Rattle.da_lang.specs.QueryTypes.{Known, literal_type, type_at}
use Rattle.da_lang.specs.Shaped.{ShapedData, IsEntry, is_declared, has_processes}
use Rattle.da_lang.specs.Typing.{known}
use Rattle.da_lang.specs.World.{Entry, Data, or_nothing, at_number, slot_of, class_of, class_of_decl}
use Rattle.da_types.proofs.totality.KindLaws.{given_parts, when_parts}
use Rattle.da_types.proofs.totality.Keeping.{Keeping, EntryFits, Knows}

pub all_narrow : (vs : List Val) → AllByRecursion (λ v. is_narrow v ≡ true) vs → list_all is_narrow vs ≡ true
all_narrow [] each = refl
all_narrow (v ∷ vs) each = and_from (is_narrow v) (list_all is_narrow vs) each.0 (all_narrow vs each.1)

pub each_narrow : (vs : List Val) → list_all is_narrow vs ≡ true → AllByRecursion (λ v. is_narrow v ≡ true) vs
each_narrow [] e = tt
each_narrow (v ∷ vs) e = let both = and_parts (is_narrow v) (list_all is_narrow vs) e in (both.0, each_narrow vs both.1)

pub all_unit : (xs : List Term) → AllByRecursion (λ (x : Term). Unit {0}) xs
all_unit [] = tt
all_unit (x ∷ xs) = (tt, all_unit xs)

pub literal_narrow : (c : Value) (ty : Ty) → literal_type c ≡ Some ty → is_narrow (val_of c) ≡ true
literal_narrow (kept.Int number) ty e = is_narrow_of (kept.Int number) ∙ (when_parts (is_i64 number) t.Int ty e).0
literal_narrow (kept.Bool truth) ty e = is_narrow_of (kept.Bool truth)
literal_narrow (kept.Text bytes) ty e = is_narrow_of (kept.Text bytes)
literal_narrow (kept.Proc process) ty e = is_narrow_of (kept.Proc process)
literal_narrow (kept.Tuple parts) ty e = absurd (cc)
literal_narrow (kept.Set elements) ty e = absurd (cc)

-- integers that lie in an i64
abbrev pub narrow : Keeping
narrow = record {
  Kept = λ v. is_narrow v ≡ true;
  Good = λ x. Unit {0};
  constant = λ c ty e good. literal_narrow c ty e;
  terms = λ xs good. all_unit xs;
  truth = λ b. is_narrow_of (kept.Bool b);
  tuple = λ vs each. is_narrow_of (kept.Tuple vs) ∙ all_narrow vs each;
  parts = λ vs e. each_narrow vs (sym (is_narrow_of (kept.Tuple vs)) ∙ e);
  set = λ vs each up. is_narrow_of (kept.Set vs) ∙ all_from_each is_narrow vs each;
  elements = λ vs e v h. each_from_all is_narrow vs v (sym (is_narrow_of (kept.Set vs)) ∙ e) h;
}

pub of_all : {A : Type 0} (P : A → Type 0) (xs : List A) → All P xs → (x : A) → Has xs x → P x
of_all P xs all x h = let (k, inside, is) = place_of xs x x h in subst P is (all k x inside)

-- a list that is as long has something in the same place
same_place : {A B : Type 0} (xs : List A) (ys : List B) (k : ℕ) (x : A) → length ys ≡ length xs → slice_get xs k ≡ Some x → (y : B) × (slice_get ys k ≡ Some y)
same_place [] ys k x same e = absurd (cc)
same_place (a ∷ xs) [] k x same e = absurd (omega (arith, same))
same_place (a ∷ xs) (y ∷ ys) zero x same e = (y, refl)
same_place (a ∷ xs) (y ∷ ys) (suc k) x same e = same_place xs ys k x (omega (arith, same)) e

same_number : {A B : Type 0} (xs : List A) (ys : List B) (k : ℕ) (x : A) → length ys ≡ length xs → at_number xs k ≡ Some x → (y : B) × (at_number ys k ≡ Some y)
same_number xs ys zero x same e = absurd (cc)
same_number xs ys (suc k) x same e = same_place xs ys k x same e

pub slot_there : (d : Data) (slots : List (Option Ty)) (slot : ℕ) (ty : Ty) → length d.slots ≡ length slots → type_at slots slot ≡ Some ty → at_number d.slots slot ≡ Some (slot_of d slot)
slot_there d slots slot ty same e =
    let (found, is, more) = given_parts (at_number slots slot) _ ty e in
    let (v, there) = same_number slots d.slots slot found same is in
    there ∙ ap Some (sym (ap or_nothing there))

module _ (p : Program) (c : Class) (d : Data) (s : ShapedData p c d) where
  -- the messages and the types of the slots of its class
  abbrev pub known_here : Known
  known_here = known p.messages c.queries c.slots

  entry_here : (e : Entry) → IsEntry p e → EntryFits narrow known_here e
  entry_here e is =
      let (first, processes) = and_parts (is_declared p.messages e.message && is_narrow e.message) (has_processes (length p.procs) e.message) is.typed in
      let (declared, small) = and_parts (is_declared p.messages e.message) (is_narrow e.message) first in
      (declared, small, is_narrow_of (kept.Proc e.peer))

  pub knows_here : Knows narrow known_here d
  knows_here = record {
    me = is_narrow_of (kept.Proc d.me);
    slots = λ slot ty e. ((s.slots slot ty e).typed, (s.slots slot ty e).narrow);
    there = λ slot ty e. slot_there d c.slots slot ty s.size e;
    sent = λ e h. entry_here e (of_all (IsEntry p) d.sent s.sent e h);
    received = λ e h. entry_here e (of_all (IsEntry p) d.received s.received e h);
  }

-- the class of a process is one of the program
slice_has : {A : Type 0} (xs : List A) (k : ℕ) (x : A) → slice_get xs k ≡ Some x → Has xs x
slice_has [] k x e = absurd (cc)
slice_has (y ∷ ys) zero x e = inl (cc)
slice_has (y ∷ ys) (suc k) x e = inr (slice_has ys k x e)

pub numbered_has : {A : Type 0} (xs : List A) (k : ℕ) (x : A) → at_number xs k ≡ Some x → Has xs x
numbered_has xs zero x e = absurd (cc)
numbered_has xs (suc k) x e = slice_has xs k x e

of_decl : (p : Program) (decl : Option ProcDecl) (c : Class) → class_of_decl p decl ≡ Some c → Has p.classes c
of_decl p None c e = absurd (cc)
of_decl p (Some decl) c e = slice_has p.classes decl.class c e

pub class_has : (p : Program) (me : ℕ) (c : Class) → class_of p me ≡ Some c → Has p.classes c
class_has p me c e = of_decl p (at_number p.procs me) c e
