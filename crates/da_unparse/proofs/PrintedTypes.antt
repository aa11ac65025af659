-- What is printed of a type that some tokens spell is a part of a line.
use Rattle.std.proofs.Common.{◌≡◌, ℕ, zero, suc, List, ◌∷◌, map, refl, sym, subst}
use Rattle.da_values.specs.declared.token.Mark.TheVariants as m
use Rattle.da_lang.specs.declared.ty.Ty.{Ty}
use Rattle.da_lang.specs.Spelling.{Spelling, Room}
use Rattle.da_lang.specs.TypeGrammar.{IsType, TypeIn}
use Rattle.da_unparse.specs.Expressions.{type_pieces}
use Rattle.da_unparse.specs.Pieces.{Piece}
use Rattle.da_unparse.proofs.PrintedParts.{Side, solid, loose, Part, some, part, join, as_solid, bracketed}
use Rattle.da_unparse.proofs.PrintedSteps.{Shows, past, past_open, each_part, closed_shows, tupled_part}
use Rattle.da_unparse.proofs.PrintedWords.{makes-Int, makes-Bool, makes-Str, makes-Proc, makes-Set, makes-OpenBracket, makes-CloseBracket}
use Rattle.da_unparse.proofs.ShownAt.{type-Int, type-Bool, type-Text, type-Proc, type-Tuple, type-Set}

-- these pieces are a part, since those are
pub same_part : {a z : Side} {ps qs : List Piece} → ps ≡ qs → Part a z qs → Part a z ps
same_part {a} {z} e l = subst (Part a z) (sym e) l

abbrev pub TypePart : Ty → Type 0
TypePart x = Part solid solid (type_pieces x)

module _ (room : Room) (Inner : Spelling Ty) (inner : Shows Inner TypePart) where
  pub type_shows : Shows (IsType room Inner) TypePart
  type_shows _ i r (IsType.int h) s = (same_part type-Int (part solid solid makes-Int refl refl refl refl), past h s)
  type_shows _ i r (IsType.bool h) s = (same_part type-Bool (part solid solid makes-Bool refl refl refl refl), past h s)
  type_shows _ i r (IsType.str h) s = (same_part type-Text (part solid solid makes-Str refl refl refl refl), past h s)
  type_shows _ i r (IsType.proc h) s = (same_part type-Proc (part solid solid makes-Proc refl refl refl refl), past h s)
  type_shows _ i r (IsType.set {x} h o a c) s =
      let (l, t) = inner _ _ _ a (past_open o (past h s)) in
      (same_part (type-Set x) (join (part solid solid makes-Set refl refl refl refl) (bracketed loose solid makes-OpenBracket makes-CloseBracket refl refl refl refl refl refl refl (some l))), past c t)
  type_shows _ i r (IsType.tuple {x} {xs} o a h l) s =
      let (first, t) = inner _ _ _ a (past_open o s) in
      let (each, u) = closed_shows Inner TypePart inner m.CloseParen xs _ _ l (past h t) in
      (same_part (type-Tuple (x ∷ xs)) (as_solid (tupled_part (type_pieces x) (map type_pieces xs) (first, each_part TypePart type_pieces (λ y p. p) xs each))), u)

pub types_show : (room : ℕ → Room) (f d : ℕ) → Shows (TypeIn room f d) TypePart
unfolding TypeIn
types_show room zero d x i r h s = absurd h
types_show room (suc f) d x i r h s = type_shows (room d) (TypeIn room f (suc d)) (types_show room f (suc d)) x i r h s
