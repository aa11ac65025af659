-- Types that are written in a text stand for no unknown type, so they stay where unknown types become others.
use Rattle.std.specs.Prelude.{◌≡◌, refl, ℕ, zero, suc, ◌+◌, ◌<◌, ◌≤◌, Bool, true, false, if◌then◌else◌, List, [], ◌∷◌, map, Option, None}
use Rattle.std.specs.List.{AllByRecursion}
use Rattle.std.proofs.Common.{◌∙◌, ap, ap₂, arith}
use Rattle.da_values.specs.declared.token.Mark.{Mark}
use Rattle.da_values.specs.declared.token.Mark.TheVariants as m
use Rattle.da_values.specs.Marks.{Tok}
use Rattle.da_lang.specs.declared.tree.ClassTree.{ClassTree}
use Rattle.da_lang.specs.declared.tree.Member.{Member}
use Rattle.da_lang.specs.declared.tree.Member.TheVariants as member
use Rattle.da_lang.specs.declared.tree.MessageDecl.{MessageDecl}
use Rattle.da_lang.specs.declared.tree.Param.{Param}
use Rattle.da_lang.specs.declared.tree.Tree.{Tree}
use Rattle.da_lang.specs.declared.ty.Ty.{Ty}
use Rattle.da_lang.specs.declared.ty.Ty.TheOpen as layer
use Rattle.da_lang.specs.declared.ty.Ty.TheVariants as ty
use Rattle.da_lang.specs.Grammar as gr
use Rattle.da_lang.specs.Grammar.{IsParams, IsMessage, IsClass, IsDecls, IsProgram}
use Rattle.da_lang.specs.QueryTypes.{given}
use Rattle.da_lang.specs.Spelling as g
use Rattle.da_lang.specs.Spelling.{Spelling, Room, Separated, Closed, Ended}
use Rattle.da_lang.specs.TypeGrammar as t
use Rattle.da_lang.specs.TypeGrammar.{IsType, TypeIn}
use Rattle.da_lang.specs.Types.{element_in, parts_in}
use Rattle.type_table.specs.Fits.{Meaning}
use Rattle.da_parse.specs.Loose.{has_none, is_open, given_type, given_param, given_member, given_class, given_tree}
use Rattle.da_parse.specs.Members.{no_type}
use Rattle.da_parse.specs.Parameters as loose
use Rattle.da_parse.specs.Parameters.{IsLooseParam}
use Rattle.da_parse.proofs.WrittenTypes.{type_written}
use Rattle.untyped_laws.specs.Retyped.{put_param, put_member, put_class, put_message, put_tree}
use Rattle.class_demands.specs.Unknowns.{inside, depth, number_in, unknown_in, known_type, put}
use Rattle.da_infer.proofs.Grown.{LooseOne, LooseMember}

-- at most 32 things are open
abbrev pub Within : ℕ → Room
Within d t = d < 32

-- ---- no unknown type is written

abbrev inside_of : ℕ → layer.Ty-F Ty → Option Ty
inside_of n x = given (element_in x) (inside n)

form_none : (n d : ℕ) (Inner : Spelling Ty) (x : Ty) (i r : List Tok) → (d < 32 → (y : Ty) (j q : List Tok) → Inner y j q → inside n y ≡ None) → IsType (Within d) Inner x i r → inside (suc n) x ≡ None
form_none n d Inner _ i r inner (t.IsType.int h) = ap (inside_of n) ty.outs-Int
form_none n d Inner _ i r inner (t.IsType.bool h) = ap (inside_of n) ty.outs-Bool
form_none n d Inner _ i r inner (t.IsType.str h) = ap (inside_of n) ty.outs-Text
form_none n d Inner _ i r inner (t.IsType.proc h) = ap (inside_of n) ty.outs-Proc
form_none n d Inner _ i r inner (t.IsType.set {x} h (g.Opens.opens can o) a c) = ap (inside_of n) (ty.outs-Set x) ∙ inner can x _ _ a
form_none n d Inner _ i r inner (t.IsType.tuple {x} {xs} o a c l) = ap (inside_of n) (ty.outs-Tuple (x ∷ xs))

inside_none : (n d f : ℕ) (x : Ty) (i r : List Tok) → 33 ≤ n + d → d ≤ 32 → TypeIn Within f d x i r → inside n x ≡ None
unfolding TypeIn
inside_none zero d f x i r far near h = absurd (omega (arith, far, near))
inside_none (suc n) d zero x i r far near h = absurd h
inside_none (suc n) d (suc f) x i r far near h =
    form_none n d (TypeIn Within f (suc d)) x i r (λ can y j q a. inside_none n (suc d) f y j q (omega (arith, far)) (omega (arith, can)) a) h

unknown_none : (f d : ℕ) (x : Ty) (i r : List Tok) → d ≤ 32 → TypeIn Within f d x i r → unknown_in x ≡ None
unfolding unknown_in depth
unknown_none f d x i r near h = ap (λ o. given o number_in) (inside_none 33 d f x i r (omega arith) near h)

int_none : unknown_in ty.Int ≡ None
unfolding unknown_in depth
int_none = ap (λ o. given (inside_of 32 o) number_in) ty.outs-Int

pub put_none : (m : Meaning) (x : Ty) → unknown_in x ≡ None → put m x ≡ x
unfolding put
put_none m x e = ap (known_type m x) e

-- ---- what holds of each thing in a list that is spelled

module _ {A : Type 0} (X : Spelling A) (P : A → Type 0) (each : (x : A) (i r : List Tok) → X x i r → P x) where
  separated_all : (k : Mark) (xs : List A) (i r : List Tok) → Separated k X xs i r → AllByRecursion P xs
  separated_all k _ i r (g.Separated.last {x} a) = (each x _ _ a, tt)
  separated_all k _ i r (g.Separated.more {x} {xs} a c l) = (each x _ _ a, separated_all k xs _ _ l)

  closed_all : (close : Mark) (xs : List A) (i r : List Tok) → Closed close X xs i r → AllByRecursion P xs
  closed_all close _ i r (g.Closed.empty h) = tt
  closed_all close xs i r (g.Closed.full l h) = separated_all m.Comma xs _ _ l

  ended_all : (xs : List A) (i r : List Tok) → Ended X xs i r → AllByRecursion P xs
  ended_all _ i r (g.Ended.ends {x} a h) = (each x _ _ a, tt)
  ended_all _ i r (g.Ended.goes_on {x} {xs} a l) = (each x _ _ a, ended_all xs _ _ l)

each_stays : {A : Type 0} (take : A → A) (give : A → A) (xs : List A) → AllByRecursion (λ x. take (give x) ≡ give x) xs → map take (map give xs) ≡ map give xs
each_stays take give [] all = refl
each_stays take give (x ∷ xs) all = ap₂ (λ z zs. z ∷ zs) all.0 (each_stays take give xs all.1)

all_stay : {A : Type 0} (take : A → A) (xs : List A) → AllByRecursion (λ x. take x ≡ x) xs → map take xs ≡ xs
all_stay take [] all = refl
all_stay take (x ∷ xs) all = ap₂ (λ z zs. z ∷ zs) all.0 (all_stay take xs all.1)

-- ---- the types of a text stay

abbrev none_in : layer.Ty-F Ty → Bool
none_in x = has_none (parts_in x)

kept_by : (f : Ty → Ty) (b : Bool) (x : Ty) → b ≡ false → f x ≡ x → f (if b then ty.Int else x) ≡ (if b then ty.Int else x)
kept_by f false x e same = same
kept_by f true x e same = absurd (cc)

open_by : (f : Ty → Ty) (b : Bool) (x : Ty) → b ≡ true → f ty.Int ≡ ty.Int → f (if b then ty.Int else x) ≡ (if b then ty.Int else x)
open_by f true x e same = same
open_by f false x e same = absurd (cc)

module _ (f : Ty → Ty) (int : f ty.Int ≡ ty.Int) (keeps : (size d : ℕ) (x : Ty) (i r : List Tok) → d ≤ 32 → TypeIn Within size d x i r → f x ≡ x) (size : ℕ) where
  type_stays : (p : Param) (i r : List Tok) → LooseOne Within size p i r → f (given_type p.ty) ≡ given_type p.ty
  type_stays _ i r (loose.IsLooseParam.written {x} n c a) = kept_by f (is_open x) x (type_written Within size 2 x _ _ a) (keeps size 2 x _ _ (omega arith) a)
  type_stays _ i r (loose.IsLooseParam.without n) = open_by f (is_open no_type) no_type (ap none_in (ty.outs-Tuple [])) int

  param_stays : (p : Param) (i r : List Tok) → LooseOne Within size p i r → put_param f (given_param p) ≡ given_param p
  param_stays p i r h = ap (λ (z : Ty). record { name = p.name; ty = z }) (type_stays p i r h)

  params_stay : (ps : List Param) (i r : List Tok) → IsParams (LooseOne Within size) ps i r → map (put_param f) (map given_param ps) ≡ map given_param ps
  params_stay ps i r l = each_stays (put_param f) given_param ps (closed_all (LooseOne Within size) (λ p. put_param f (given_param p) ≡ given_param p) param_stays m.CloseParen ps i r l)

  member_stays : (x : Member) (i r : List Tok) → LooseMember Within size x i r → put_member f (given_member x) ≡ given_member x
  member_stays _ i r (gr.IsMember.var {n} {x} {t = u} h k c a z) = ap (λ (y : Ty). member.Var n y (g.line u)) (keeps size 1 x _ _ (omega arith) a)
  member_stays _ i r (gr.IsMember.setup {ps} {b} {t = u} h k o l c q) = ap (λ (zs : List Param). member.Setup zs b (g.line u)) (params_stay ps _ _ l)
  member_stays _ i r (gr.IsMember.run h k o c e q) = refl
  member_stays _ i r (gr.IsMember.method {n} {ps} {b} {t = u} h k o l c q) = ap (λ (zs : List Param). member.Method n zs b (g.line u)) (params_stay ps _ _ l)
  member_stays _ i r (gr.IsMember.receive h p o w c q) = refl

  class_stays : (c : ClassTree) (i r : List Tok) → IsClass Within size (LooseOne Within size) c i r → put_class f (given_class c) ≡ given_class c
  class_stays _ i r (gr.IsClass.class {n} {ms} {t = u} h k x p c z o l) =
      ap (λ (members : List Member). record { name = n; members = members; line = g.line u })
      (each_stays (put_member f) given_member ms (ended_all (LooseMember Within size) (λ x. put_member f (given_member x) ≡ given_member x) member_stays ms _ _ l))

  message_stays : (x : MessageDecl) (i r : List Tok) → IsMessage Within size x i r → put_message f x ≡ x
  message_stays _ i r (gr.IsMessage.message {n} {xs} {t = u} h k o l z) =
      ap (λ (parts : List Ty). record { tag = n; parts = parts; line = g.line u })
      (all_stay f xs (closed_all (TypeIn Within size 1) (λ y. f y ≡ y) (λ y j q a. keeps size 1 y j q (omega arith) a) m.CloseParen xs _ _ l))

  messages_stay : (xs : List MessageDecl) (cs : List ClassTree) (i r : List Tok) → IsDecls Within size (LooseOne Within size) xs cs i r → map (put_message f) xs ≡ xs
  messages_stay _ _ i r gr.IsDecls.no_decl = refl
  messages_stay _ cs i r (gr.IsDecls.message {x} {xs} h l) = ap₂ (λ z zs. z ∷ zs) (message_stays x _ _ h) (messages_stay xs cs _ _ l)
  messages_stay xs _ i r (gr.IsDecls.class {cs} h l) = messages_stay xs cs _ _ l

  classes_stay : (xs : List MessageDecl) (cs : List ClassTree) (i r : List Tok) → IsDecls Within size (LooseOne Within size) xs cs i r → map (put_class f) (map given_class cs) ≡ map given_class cs
  classes_stay _ _ i r gr.IsDecls.no_decl = refl
  classes_stay _ cs i r (gr.IsDecls.message {xs} h l) = classes_stay xs cs _ _ l
  classes_stay xs _ i r (gr.IsDecls.class {c} {cs} h l) = ap₂ (λ z zs. z ∷ zs) (class_stays c _ _ h) (classes_stay xs cs _ _ l)

  pub tree_stays : (u : Tree) (i : List Tok) → IsProgram Within size (LooseOne Within size) u i → put_tree f (given_tree u) ≡ given_tree u
  tree_stays _ i (gr.IsProgram.program {k} {xs} {cs} {ls} a b c) =
      ap₂ (λ (messages : List MessageDecl) (classes : List ClassTree). record { kind = k; messages = messages; classes = classes; main = ls }) (messages_stay xs cs _ _ b) (classes_stay xs cs _ _ b)

-- unknown types become others, and the types of a text stay
pub written_stay : (m : Meaning) (u : Tree) (i : List Tok) → IsProgram Within 33 (LooseOne Within 33) u i → put_tree (put m) (given_tree u) ≡ given_tree u
written_stay m u i h = tree_stays (put m) (put_none m ty.Int int_none) (λ size d x j r near a. put_none m x (unknown_none size d x j r near a)) 33 u i h

pub put_int : (m : Meaning) → put m ty.Int ≡ ty.Int
put_int m = put_none m ty.Int int_none
